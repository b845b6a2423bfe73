-- A run keeps the store sound and its addresses within it, and the store after is later.
use Rattle.std.proofs.Common.{◌≡◌, ℕ, zero, suc, ◌+◌, ◌<◌, ◌≤◌, inl, inr, Bool, Some, None, List, [], ◌∷◌, ◌++◌, length, reverse, set, slice_get, refl, sym, ◌∙◌, ap, subst, arith}
use Rattle.std.specs.Prelude.{All}
use Rattle.std.proofs.lemmas.Bool.{cases_eq}
use Rattle.std.proofs.lemmas.List.{length_push}
use Rattle.std.proofs.lemmas.List.Elements.{All-cons, All-head, All-tail, All-append, All-push, All-weaker}
use Rattle.pm_logic.specs.Term.{Term}
use Rattle.pm_store.specs.Entries.{Application}
use Rattle.pm_store.specs.Equations.{Equations, with_cell, with_new_variables, end_of}
use Rattle.pm_store.specs.Sound.{IsSound}
use Rattle.pm_store.specs.Marks.{IsLater}
use Rattle.pm_store.proofs.ListLemmas.{All-left, All-right}
use Rattle.pm_store.proofs.SolutionLemmas.{IsSound-with_cell}
use Rattle.pm_store.proofs.MarkLemmas.{growth_is_later, later_is_transitive}
use Rattle.pm_unify.specs.Unified.{IsUnified}
use Rattle.pm_compile.specs.Instructions.{Instruction, FIRST, AGAIN, MEET, GROUND, NEW, PUSH, MAKE, CONST, GOAL, BODY, RETURN, CLOSE, REDUCE, DONE}
use Rattle.pm_run.specs.State.{Child, RunState, with_changed, closed_child}
use Rattle.pm_run.specs.Turns.{InTurn}
use Rattle.pm_run.specs.Meaning.{Meets, Unites, with_application, all_set, unset_count, SetsLocal, UnifiesLocal, UnifiesGround, MeetsTop, SetsRest, PushesLocal, PushesGround, MakesCell, new_child, AddsChild, ClosesLeaf, Does, NoBody, RunsBody}
use Rattle.pm_run.specs.InStore.{AreBelow, HasArgsBelow, HasCellsBelow, IsInStore}
use Rattle.pm_run.specs.Laws.{RunsStayInStores}
use Rattle.pm_run.proofs.PartLemmas.{slice_get-set_same, slice_get-set_other, same_cell, all_set_cases}
use Rattle.pm_run.proofs.StoreLemmas.{new_variables_later, later_is_longer, length-new_variables, new_variables_sound, range_below, below_more, All-reversed, args_are_cells, application_sound, application_later, length-application}

-- the literals of children and of branches
pub cells_more : (n k : ℕ) (m : RunState) → n ≤ k → HasCellsBelow n m → HasCellsBelow k m
cells_more n k m le cells = record {
  stack = below_more n k m.stack le cells.stack;
  children = All-weaker (λ child. HasArgsBelow n child.literal) (λ child. HasArgsBelow k child.literal) (λ child below. below_more n k child.literal.args le below) m.children cells.children;
  branch = All-weaker (HasArgsBelow n) (HasArgsBelow k) (λ l below. below_more n k l.args le below) m.branch cells.branch;
}

farther : (c n k : ℕ) → c < n → n ≤ k → c < k
farther c n k lt le = omega arith

no_longer : (n k : ℕ) → k ≡ n → n ≤ k
no_longer n k same = omega arith

at_least : (n : ℕ) → n ≤ n
at_least n = omega arith

-- with another store, that has no fewer cells
moved_to : (m : RunState) (s : Equations) → IsInStore m → IsSound s → length m.equations.cells ≤ length s.cells → IsInStore (record m { equations = s })
moved_to m s is sound le =
    let cells = cells_more (length m.equations.cells) (length s.cells) m le is.cells in
    record {
      sound = sound;
      locals = λ x c is_set. farther c (length m.equations.cells) (length s.cells) (is.locals x c is_set) le;
      cells = record { stack = cells.stack; children = cells.children; branch = cells.branch };
    }

-- with another stack
restacked : (m : RunState) (cs : List ℕ) → IsInStore m → AreBelow (length m.equations.cells) cs → IsInStore (record m { stack = cs })
restacked m cs is below = record {
  sound = is.sound;
  locals = is.locals;
  cells = record { stack = below; children = is.cells.children; branch = is.cells.branch };
}

with_children : (m : RunState) (cs : List Child) → IsInStore m → All (λ child. HasArgsBelow (length m.equations.cells) child.literal) cs
    → IsInStore (record m { children = cs })
with_children m cs is below = record {
  sound = is.sound;
  locals = is.locals;
  cells = record { stack = is.cells.stack; children = below; branch = is.cells.branch };
}

-- what is on top of the stack, and what is under it
pub on_top : (m : RunState) (cs rest : List ℕ) → IsInStore m → m.stack ≡ cs ++ rest
    → AreBelow (length m.equations.cells) cs × AreBelow (length m.equations.cells) rest
on_top m cs rest is top =
    let n : ℕ = length m.equations.cells in
    let all : AreBelow n (cs ++ rest) = subst (AreBelow n) top is.cells.stack in
    (All-left (λ c. c < n) cs rest all, All-right (λ c. c < n) cs rest all)

-- what is done keeps all in the store
abbrev pub Keeps : (RunState → RunState → Type 0) → Type 0
Keeps does = (m new : RunState) → does m new → IsInStore m → IsInStore new × IsLater m.equations new.equations × (new.branch ≡ m.branch)

-- to such a state
kept : (m new after : RunState) → new ≡ after → after.branch ≡ m.branch → IsInStore after → IsLater m.equations after.equations
    → IsInStore new × IsLater m.equations new.equations × (new.branch ≡ m.branch)
kept m new after same branch is later =
    (subst IsInStore (sym same) is, subst (λ (r : RunState). IsLater m.equations r.equations) (sym same) later, ap (λ (r : RunState). r.branch) same ∙ branch)

-- where no cell was made
unified_keeps : (m new : RunState) (s : Equations) (c d : ℕ) (rest : List ℕ) → m.stack ≡ c ∷ rest → IsUnified m.equations s c d
    → new ≡ record m { equations = s; stack = rest } → IsInStore m → IsInStore new × IsLater m.equations new.equations × (new.branch ≡ m.branch)
unified_keeps m new s c d rest top unified same is =
    let longer = no_longer (length m.equations.cells) (length s.cells) (ap length unified.cells) in
    let moved : IsInStore (record m { equations = s }) = moved_to m s is unified.sound longer in
    kept m new (record m { equations = s; stack = rest }) same refl
    (restacked (record m { equations = s }) rest moved
    (below_more (length m.equations.cells) (length s.cells) rest longer (on_top m (c ∷ []) rest is top).1))
    unified.later

first_keeps : (x : ℕ) → Keeps (SetsLocal x)
first_keeps x m new (c, rest, top, unset, same) is =
    let n : ℕ = length m.equations.cells in
    let parts = on_top m (c ∷ []) rest is top in
    let inside : c < n = All-head (λ d. d < n) c [] parts.0 in
    let stacked : IsInStore (record m { stack = rest }) = restacked m rest is parts.1 in
    kept m new (record m { locals = set m.locals x (Some c); stack = rest }) same refl (record {
      sound = is.sound;
      locals = λ y d is_set. elim (cases_eq x y) [
        | inl e ↦
            subst (λ (k : ℕ). k < n)
            (same_cell c d (sym (slice_get-set_same m.locals x None (Some c) unset) ∙ ap (slice_get (set m.locals x (Some c))) e ∙ is_set)) inside
        | inr ne ↦ is.locals y d (sym (slice_get-set_other m.locals x y (Some c) ne) ∙ is_set)
      ];
      cells = record { stack = stacked.cells.stack; children = stacked.cells.children; branch = stacked.cells.branch };
    }) (growth_is_later m.equations).unchanged

again_keeps : (x : ℕ) → Keeps (UnifiesLocal x)
again_keeps x m new (c, d, rest, s, top, is_set, unified, same) is = unified_keeps m new s c d rest top unified same is

ground_keeps : (t : Term) → Keeps (UnifiesGround t)
ground_keeps t m new (c, d, rest, s, top, cell, unified, same) is = unified_keeps m new s c d rest top unified same is

-- the store after a cell is met
met_kept : (e : Equations) (c f n : ℕ) (args : List ℕ) (s : Equations) → Meets e c f n args s → IsSound e
    → IsSound s × IsLater e s × AreBelow (length s.cells) args
met_kept e c f n args s (inl (found, same)) sound =
    subst (λ (t : Equations). IsSound t × IsLater e t × AreBelow (length t.cells) args) (sym same)
    (sound, (growth_is_later e).unchanged, args_are_cells e (end_of e.bindings c) f args sound found.stands)
met_kept e c f n args s (inr (free, are, same)) sound =
    let v : ℕ = end_of e.bindings c in
    let new : Equations = with_application e v f n in
    subst (λ (t : Equations). IsSound t × IsLater e t × AreBelow (length t.cells) args) (sym same) (
      application_sound e v f n sound free,
      application_later e v f n,
      subst (AreBelow (length new.cells)) (sym are) (range_below (length e.cells) n (length new.cells) (omega (arith, length-application e v f n))),
    )

meet_keeps : (f n : ℕ) → Keeps (MeetsTop f n)
meet_keeps f n m new (c, rest, args, s, top, meets, same) is =
    let after = met_kept m.equations c f n args s meets is.sound in
    let longer = later_is_longer m.equations s after.1 in
    let moved : IsInStore (record m { equations = s }) = moved_to m s is after.0 longer in
    kept m new (record m { equations = s; stack = args ++ rest }) same refl
    (restacked (record m { equations = s }) (args ++ rest) moved
    (All-append (λ d. d < length s.cells) args rest after.2
    (below_more (length m.equations.cells) (length s.cells) rest longer (on_top m (c ∷ []) rest is top).1)))
    after.1

new_keeps : Keeps SetsRest
new_keeps m new same is =
    let n : ℕ = unset_count m.locals in
    let first : ℕ = length m.equations.cells in
    let s : Equations = with_new_variables m.equations n in
    let later : IsLater m.equations s = new_variables_later m.equations n in
    let moved : IsInStore (record m { equations = s }) = moved_to m s is (new_variables_sound m.equations n is.sound) (later_is_longer m.equations s later) in
    kept m new (record m { locals = all_set first m.locals; equations = s }) same refl (record {
      sound = moved.sound;
      locals = λ y d is_set. elim (all_set_cases (λ x. x) 0 first m.locals y d is_set) [
        | inl before ↦ moved.locals y d before
        | inr added ↦ omega (arith, added.1, added.2, length-new_variables m.equations n)
      ];
      cells = record { stack = moved.cells.stack; children = moved.cells.children; branch = moved.cells.branch };
    }) later

push_keeps : (x : ℕ) → Keeps (PushesLocal x)
push_keeps x m new (c, is_set, same) is =
    kept m new (record m { stack = c ∷ m.stack }) same refl
    (restacked m (c ∷ m.stack) is (All-cons (λ d. d < length m.equations.cells) c m.stack (is.locals x c is_set) is.cells.stack))
    (growth_is_later m.equations).unchanged

constant_keeps : (t : Term) → Keeps (PushesGround t)
constant_keeps t m new (c, cell, same) is =
    kept m new (record m { stack = c ∷ m.stack }) same refl
    (restacked m (c ∷ m.stack) is (All-cons (λ d. d < length m.equations.cells) c m.stack cell.within is.cells.stack))
    (growth_is_later m.equations).unchanged

make_keeps : (f n : ℕ) → Keeps (MakesCell f n)
make_keeps f n m new (args, rest, counted, top, same) is =
    let first : ℕ = length m.equations.cells in
    let s : Equations = with_cell m.equations (Application f args) in
    let parts = on_top m (reverse args) rest is top in
    let below : AreBelow first args = All-reversed (λ d. d < first) args parts.0 in
    let longer : length s.cells ≡ first + 1 = length_push m.equations.cells (Application f args) in
    let moved : IsInStore (record m { equations = s }) = moved_to m s is (IsSound-with_cell m.equations (Application f args) is.sound below) (omega (arith, longer)) in
    kept m new (record m { equations = s; stack = first ∷ rest }) same refl
    (restacked (record m { equations = s }) (first ∷ rest) moved
    (All-cons (λ d. d < length s.cells) first rest (omega (arith, longer)) (below_more first (length s.cells) rest (omega (arith, longer)) parts.1)))
    ((growth_is_later m.equations).cell (Application f args))

goal_keeps : (positive : Bool) (p n : ℕ) → Keeps (AddsChild positive p n)
goal_keeps positive p n m new (args, rest, counted, top, same) is =
    let count : ℕ = length m.equations.cells in
    let parts = on_top m (reverse args) rest is top in
    let child : Child = new_child positive p args in
    kept m new (record m { stack = rest; children = m.children ++ child ∷ [] }) same refl
    (with_children (record m { stack = rest }) (m.children ++ child ∷ []) (restacked m rest is parts.1)
    (All-push (λ ch. HasArgsBelow count ch.literal) m.children child is.cells.children (All-reversed (λ d. d < count) args parts.0)))
    (growth_is_later m.equations).unchanged

changed_below : (count j : ℕ) (cs : List Child) → All (λ child. HasArgsBelow count child.literal) cs
    → All (λ child. HasArgsBelow count child.literal) (with_changed j closed_child cs)
changed_below count j [] below = below
changed_below count zero (c ∷ cs) below =
    let holds : Child → Type 0 = λ child. HasArgsBelow count child.literal in
    All-cons holds (closed_child c) cs (All-head holds c cs below) (All-tail holds c cs below)
changed_below count (suc j) (c ∷ cs) below =
    let holds : Child → Type 0 = λ child. HasArgsBelow count child.literal in
    All-cons holds c (with_changed j closed_child cs) (All-head holds c cs below) (changed_below count j cs (All-tail holds c cs below))

close_keeps : (j : ℕ) → Keeps (λ m new. new ≡ record m { children = with_changed j closed_child m.children })
close_keeps j m new same is =
    kept m new (record m { children = with_changed j closed_child m.children }) same refl
    (with_children m (with_changed j closed_child m.children) is (changed_below (length m.equations.cells) j m.children is.cells.children))
    (growth_is_later m.equations).unchanged

united_kept : (s : Equations) (cs ds : List ℕ) (new : Equations) → Unites s cs ds new → IsSound s → IsSound new × IsLater s new
united_kept s [] [] new unites sound = subst (λ (t : Equations). IsSound t × IsLater s t) (sym unites) (sound, (growth_is_later s).unchanged)
united_kept s [] (d ∷ ds) new unites sound = absurd unites
united_kept s (c ∷ cs) [] new unites sound = absurd unites
united_kept s (c ∷ cs) (d ∷ ds) new (next, unified, others) sound =
    let rest = united_kept next cs ds new others unified.sound in
    (rest.0, later_is_transitive s next new unified.later rest.1)

reduce_keeps : (k : ℕ) → Keeps (ClosesLeaf k)
reduce_keeps k m new (ancestor, leaf, s, on, sign, predicate, unites, same) is =
    let after = united_kept m.equations leaf.args ancestor.args s unites is.sound in
    let moved : IsInStore (record m { equations = s }) = moved_to m s is after.0 (later_is_longer m.equations s after.1) in
    kept m new (record m { equations = s; closed_by = Some k }) same refl (record {
      sound = moved.sound;
      locals = moved.locals;
      cells = record { stack = moved.cells.stack; children = moved.cells.children; branch = moved.cells.branch };
    }) after.1

same_keeps : Keeps (λ m new. new ≡ m)
same_keeps m new same is = kept m new m same refl is (growth_is_later m.equations).unchanged

module _ (body : ℕ → RunState → RunState → Type 0) (bodies : (c : ℕ) → Keeps (body c)) where
  pub does_keeps : (i : Instruction) → Keeps (Does body i)
  does_keeps (FIRST x) = first_keeps x
  does_keeps (AGAIN x) = again_keeps x
  does_keeps (MEET f n) = meet_keeps f n
  does_keeps (GROUND t) = ground_keeps t
  does_keeps NEW = new_keeps
  does_keeps (PUSH x) = push_keeps x
  does_keeps (MAKE f n) = make_keeps f n
  does_keeps (CONST t) = constant_keeps t
  does_keeps (GOAL positive p n) = goal_keeps positive p n
  does_keeps (BODY c) = bodies c
  does_keeps RETURN = same_keeps
  does_keeps (CLOSE j) = close_keeps j
  does_keeps (REDUCE k) = reduce_keeps k
  does_keeps DONE = same_keeps

  pub turns_keep : (code : List Instruction) → Keeps (InTurn (Does body) code)
  turns_keep [] m new same is = same_keeps m new same is
  turns_keep (i ∷ code) m new (next, does, others) is =
      let first = does_keeps i m next does is in
      let later = turns_keep code next new others first.0 in
      (later.0, later_is_transitive m.equations next.equations new.equations first.1 later.1, later.2 ∙ first.2)

pub no_body_keeps : (c : ℕ) → Keeps (NoBody c)
no_body_keeps c m new none is = absurd none

pub body_keeps : (bodies : ℕ → List Instruction) (c : ℕ) → Keeps (RunsBody bodies c)
body_keeps bodies c = turns_keep NoBody no_body_keeps (bodies c)

pub runs_stay_in_stores : RunsStayInStores
runs_stay_in_stores bodies code m new runs is = turns_keep (RunsBody bodies) (body_keeps bodies) code m new runs is
