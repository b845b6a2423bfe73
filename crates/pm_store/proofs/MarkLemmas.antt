-- Stores that have grown keep their marks.
use Rattle.std.proofs.Common.{◌≡◌, ℕ, ◌+◌, ◌-◌, ◌≤◌, List, [], ◌∷◌, ◌++◌, length, take, drop, refl, sym, ◌∙◌, ap, ap₂, subst, arith}
use Rattle.std.proofs.lemmas.List.{append-nil, append_assoc, length-append, take_at, drop-append-le}
use Rattle.std.proofs.Math.Seq.{drop-append_seam, take-append-add}
use Rattle.pm_store.specs.Entries.{Entry}
use Rattle.pm_store.specs.Equations.{Binding, Equations}
use Rattle.pm_store.specs.Marks.{Counts, counts_of, IsLater, HasMark, at_mark, IsEarlier}
use Rattle.pm_store.specs.Laws.{GrowthIsLater, LaterIsTransitive, MarksLast, MarksRestore, MarksKeep, MarksNest}

pub growth_is_later : GrowthIsLater
growth_is_later s = record {
  unchanged = record { cells = ([], sym (append-nil s.cells)); bindings = ([], refl) };
  cell = λ e. record { cells = (e ∷ [], refl); bindings = ([], refl) };
  binding = λ v t. record { cells = ([], sym (append-nil s.cells)); bindings = (record { variable = v; target = t } ∷ [], refl) };
}

pub later_is_transitive : LaterIsTransitive
later_is_transitive a b c ab bc = record {
  cells = (ab.cells.0 ++ bc.cells.0, bc.cells.1 ∙ ap (λ (es : List Entry). es ++ bc.cells.0) ab.cells.1 ∙ append_assoc a.cells ab.cells.0 bc.cells.0);
  bindings = (bc.bindings.0 ++ ab.bindings.0, bc.bindings.1 ∙ ap (λ (bs : List Binding). bc.bindings.0 ++ bs) ab.bindings.1 ∙ sym (append_assoc bc.bindings.0 ab.bindings.0 a.bindings));
}

pub marks_last : MarksLast
marks_last s t mark later has = record {
  before = has.before;
  sound = has.sound;
  later = later_is_transitive has.before s t has.later later;
  counts = has.counts;
}

pub marks_restore : MarksRestore
marks_restore before s mark later counts =
    let cells : take mark.cells s.cells ≡ before.cells =
    ap₂ take (ap (λ (m : Counts). m.cells) counts) later.cells.1 ∙ take_at before.cells later.cells.0 (length before.cells) refl in
    let fewer : length s.bindings - mark.bindings ≡ length later.bindings.0 =
    omega (arith, ap (λ (m : Counts). m.bindings) counts, ap length later.bindings.1, length-append later.bindings.0 before.bindings) in
    let bindings : drop (length s.bindings - mark.bindings) s.bindings ≡ before.bindings =
    ap₂ drop fewer later.bindings.1 ∙ drop-append_seam later.bindings.0 before.bindings in
    ap₂ (λ cs bs. let e : Equations = record { cells = cs; bindings = bs } in e) cells bindings

pub marks_keep : MarksKeep
marks_keep s t mark later has =
    marks_restore has.before t mark (later_is_transitive has.before s t has.later later) has.counts
    ∙ sym (marks_restore has.before s mark has.later has.counts)

-- of two stores that a third grew from, the one with no fewer cells and bindings grew from the other
between : (a b s : Equations) → IsLater a s → IsLater b s → IsEarlier (counts_of a) (counts_of b) → IsLater a b
between a b s from_a from_b earlier =
    let more : ℕ = length b.cells - length a.cells in
    let reach : length b.cells ≡ length a.cells + more = omega (arith, earlier.cells) in
    let undone : ℕ = length from_b.bindings.0 in
    let counted : length a.bindings + length from_a.bindings.0 ≡ length b.bindings + undone =
    omega (arith, ap length from_a.bindings.1, length-append from_a.bindings.0 a.bindings, ap length from_b.bindings.1, length-append from_b.bindings.0 b.bindings) in
    let fewer : undone ≤ length from_a.bindings.0 = omega (arith, counted, earlier.bindings) in
    record {
      cells = (
        take more from_a.cells.0,
        sym (take_at b.cells from_b.cells.0 (length b.cells) refl) ∙ ap (take (length b.cells)) (sym from_b.cells.1 ∙ from_a.cells.1)
            ∙ ap (λ n. take n (a.cells ++ from_a.cells.0)) reach ∙ take-append-add a.cells from_a.cells.0 more,
      );
      bindings = (
        drop undone from_a.bindings.0,
        sym (drop-append_seam from_b.bindings.0 b.bindings) ∙ ap (drop undone) (sym from_b.bindings.1 ∙ from_a.bindings.1)
            ∙ drop-append-le undone from_a.bindings.0 a.bindings fewer,
      );
    }

pub marks_nest : MarksNest
marks_nest s early late has_early has_late earlier =
    let at_late : at_mark s late ≡ has_late.before = marks_restore has_late.before s late has_late.later has_late.counts in
    let from_early : IsLater has_early.before has_late.before =
    between has_early.before has_late.before s has_early.later has_late.later
    (subst (λ (m : Counts). IsEarlier m (counts_of has_late.before)) has_early.counts (subst (λ (m : Counts). IsEarlier early m) has_late.counts earlier)) in
    record {
      has = subst (λ (t : Equations). HasMark t early) (sym at_late)
          (record { before = has_early.before; sound = has_early.sound; later = from_early; counts = has_early.counts });
      same = ap (λ t. at_mark t early) at_late
          ∙ marks_restore has_early.before has_late.before early from_early has_early.counts
          ∙ sym (marks_restore has_early.before s early has_early.later has_early.counts);
    }
