use Rattle.std.proofs.Common.{◌≡◌, [], length, refl, sym, ◌∙◌, ap, subst, arith}
use Rattle.pm_store.specs.Sound.{IsSound}
use Rattle.pm_store.specs.Marks.{Counts}
use Rattle.pm_store.specs.Inside.Slots.{start_at}
use Rattle.pm_store.proofs.StoredLemmas.{undone_to, later_count, equations-truncated, IsStored-truncated}
use Rattle.pm_store.proofs.FlatLemmas.{freed_flat, freed_entries, freed_within, cut_laid, cut_entries, cut_targets}
use Rattle.pm_store.proofs.MarkLemmas.{marks_restore}
use Rattle.pm_store.proofs.store.Store.undo.Goals as goal

pub loop-self-init : goal.loop-self-init
loop-self-init c =
    let count : c.mark.inside.bindings ≡ length c.requires.before.bindings = ap (λ (m : Counts). m.bindings) (c.mark.view_is ∙ c.requires.counts) in
    let least = later_count c.requires.before c.args.self.now _ _ c.self.inside.trail.items c.requires.later c.self.view_is in
    record {
      flat = c.self.invariant;
      cells = refl;
      bindings = ([], refl);
      count = omega (arith, count, least);
    }

pub index_mut-slot-requires : goal.index_mut-slot-requires
index_mut-slot-requires c =
    let within = freed_within _ _ _ _ _ _ c.v.view_is c.loop-self.invariant.flat c.in-Some.ensures.items in
    omega (arith, within, c.loop-self.self-inside.slots.ok.0)

pub loop-self-smaller-in-Some : goal.loop-self-smaller-in-Some
loop-self-smaller-in-Some c = omega (arith, c.in-Some.ensures.len, c.loop-self.self-inside.trail.ok.0, c.pop.new.self.ok.0)

pub loop-self-preserved-in-Some : goal.loop-self-preserved-in-Some
loop-self-preserved-in-Some c =
    let more = freed_flat _ _ _ _ _ _ _ _ c.v.view_is c.index_mut-slot.ensures.value c.start_of-start.ensures c.loop-self.invariant.flat c.in-Some.ensures.items _ c.loop-self.invariant.bindings in
    record {
      flat = more.0;
      cells = freed_entries _ _ _ _ _ _ _ _ c.v.view_is c.index_mut-slot.ensures.value c.start_of-start.ensures c.loop-self.invariant.flat c.in-Some.ensures.items
          ∙ c.loop-self.invariant.cells;
      bindings = more.1;
      count = omega (arith, c.in-Some.ensures.len, c.loop-self.self-inside.trail.ok.0, c.pop.new.self.ok.0, c.len.ensures, c.loop-self-test.true);
    }

pub loop-self-preserved : goal.loop-self-preserved
loop-self-preserved c = absurd (omega (arith, c.in_default.ensures.cases, c.len.ensures, c.loop-self-test.true))

pub invariant_of-self : goal.invariant_of-self
invariant_of-self c =
    let bindings : c.mark.inside.bindings ≡ length c.requires.before.bindings = ap (λ (m : Counts). m.bindings) (c.mark.view_is ∙ c.requires.counts) in
    let cells : c.mark.inside.cells ≡ length c.requires.before.cells = ap (λ (m : Counts). m.cells) (c.mark.view_is ∙ c.requires.counts) in
    let count : length c.loop-self.self-inside.trail.items ≡ length c.requires.before.bindings =
    omega (arith, bindings, c.loop-self.invariant.count, c.loop-self-test.false, c.len.ensures, c.loop-self.self-inside.trail.ok.0) in
    let is_back = undone_to c.requires.before _ _ _ c.self.inside.trail.items _ _ _ c.requires.later c.self.view_is c.loop-self.invariant.cells c.loop-self.invariant.bindings count in
    let all : c.len-2.result ≡ length c.loop-self.self-inside.args.items = omega (arith, c.len-2.ensures, c.loop-self.self-inside.args.ok.0) in
    let kept = c.start_before-kept.ensures ∙ ap (λ n. start_at c.loop-self.self-inside.slots.items n c.mark.inside.cells) all in
    record {
      laid = cut_laid _ _ _ _ _ _ c.loop-self.invariant.flat.laid c.truncate.ensures.items kept c.truncate-2.ensures.items;
      stored = IsStored-truncated c.requires.before _ _ _ _ _ _ cells c.requires.sound c.loop-self.invariant.flat.stored is_back
          (cut_entries _ _ _ _ _ _ c.loop-self.invariant.flat.laid c.truncate.ensures.items kept c.truncate-2.ensures.items)
          (cut_targets _ _ _ _ _ _ c.loop-self.invariant.flat.laid c.truncate.ensures.items kept c.truncate-2.ensures.items);
    }

pub returns : goal.returns
returns c =
    let bindings : c.mark.inside.bindings ≡ length c.requires.before.bindings = ap (λ (m : Counts). m.bindings) (c.mark.view_is ∙ c.requires.counts) in
    let cells : c.mark.inside.cells ≡ length c.requires.before.cells = ap (λ (m : Counts). m.cells) (c.mark.view_is ∙ c.requires.counts) in
    let count : length c.loop-self.self-inside.trail.items ≡ length c.requires.before.bindings =
    omega (arith, bindings, c.loop-self.invariant.count, c.loop-self-test.false, c.len.ensures, c.loop-self.self-inside.trail.ok.0) in
    let is_back = undone_to c.requires.before _ _ _ c.self.inside.trail.items _ _ _ c.requires.later c.self.view_is c.loop-self.invariant.cells c.loop-self.invariant.bindings count in
    let all : c.len-2.result ≡ length c.loop-self.self-inside.args.items = omega (arith, c.len-2.ensures, c.loop-self.self-inside.args.ok.0) in
    let kept = c.start_before-kept.ensures ∙ ap (λ n. start_at c.loop-self.self-inside.slots.items n c.mark.inside.cells) all in
    let back = equations-truncated c.requires.before _ _ _ _ _ _ cells c.requires.sound c.loop-self.invariant.flat.stored is_back
    (cut_entries _ _ _ _ _ _ c.loop-self.invariant.flat.laid c.truncate.ensures.items kept c.truncate-2.ensures.items)
    (cut_targets _ _ _ _ _ _ c.loop-self.invariant.flat.laid c.truncate.ensures.items kept c.truncate-2.ensures.items) in
    let at = marks_restore c.requires.before c.args.self.now c.args.mark c.requires.later c.requires.counts in
    record {
      before = λ before later marked. back ∙ sym at ∙ marks_restore before c.args.self.now c.args.mark later marked;
      at_mark = back ∙ sym at;
      sound = subst IsSound (sym back) c.requires.sound;
    }
