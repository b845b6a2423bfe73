-- Where an instruction can't be done, nothing meets what the code wants.
use Rattle.std.proofs.Common.{◌≡◌, ℕ, inl, inr, List, [], ◌∷◌, ◌++◌, length, map, not, Option, Some, None, option_map, slice_get, refl, sym, ◌∙◌, ap, ap₂, subst}
use Rattle.std.proofs.lemmas.List.{length-map}
use Rattle.std.proofs.lemmas.Option.{slice_get-map}
use Rattle.pm_logic.specs.Term.{Term, app, as_terms, list_of}
use Rattle.pm_logic.specs.Problem.{Literal}
use Rattle.pm_logic.proofs.TableLemmas.{list_of-as_terms}
use Rattle.pm_store.specs.Equations.{end_of}
use Rattle.pm_store.proofs.BindingLemmas.{end_of-solved}
use Rattle.pm_compile.specs.Instructions.{Instruction, FIRST, AGAIN, MEET, GROUND, NEW, PUSH, MAKE, CONST, GOAL, BODY, RETURN, CLOSE, REDUCE, DONE}
use Rattle.pm_run.specs.State.{RunState, TreeState, literal_under, state_under, IsAncestor}
use Rattle.pm_run.specs.Turns.{InTurn}
use Rattle.pm_run.specs.Wants.{Asks, NoBodyWants, BodyWants}
use Rattle.pm_run.specs.Meaning.{Does, NoBody, RunsBody}
use Rattle.pm_run.specs.Failure.{Fails, ComesToFail, NoBodyFails, BodyFails}
use Rattle.pm_run.specs.InStore.{IsInStore, Stands}
use Rattle.pm_run.specs.Laws.{FailuresExclude}
use Rattle.pm_run.proofs.TurnLemmas.{turns_split}
use Rattle.pm_run.proofs.PartLemmas.{cons_parts}
use Rattle.pm_run.proofs.KeepLemmas.{Keeps, no_body_keeps, turns_keep, body_keeps}
use Rattle.pm_run.proofs.BackLemmas.{Reaches, turns_reach, body_reaches}

-- an end of a changed list
ends_from_map : {A B : Type 0} (f : A → B) (xs : List A) (ys : List B) (z : B) → map f xs ≡ ys ++ z ∷ []
    → (ws : List A) × (w : A) × (xs ≡ ws ++ w ∷ []) × (map f ws ≡ ys) × (f w ≡ z)
ends_from_map f [] [] z same = cc
ends_from_map f (x ∷ []) [] z same = ([], x, refl, refl, (cons_parts (f x) z [] [] same).0)
ends_from_map f (x ∷ x' ∷ xs) [] z same = cc
ends_from_map f [] (y ∷ ys) z same = cc
ends_from_map f (x ∷ xs) (y ∷ ys) z same =
    let parts = cons_parts (f x) y (map f xs) (ys ++ z ∷ []) same in
    let rest = ends_from_map f xs ys z parts.1 in
    (x ∷ rest.0, rest.1, ap (λ vs. x ∷ vs) rest.2, ap₂ (λ v vs. v ∷ vs) parts.0 rest.3, rest.4)

some_from_map : {A B : Type 0} (f : A → B) (o : Option A) (y : B) → option_map f o ≡ Some y → (x : A) × (o ≡ Some x) × (f x ≡ y)
some_from_map f None y same = cc
some_from_map f (Some x) y same = (x, refl, cc)

-- an ancestor over trees is one over cells
ancestor_from_map : {A B : Type 0} (f : A → B) (branch : List A) (k : ℕ) (up low : B) → IsAncestor (map f branch) k up low
    → (ancestor leaf : A) × IsAncestor branch k ancestor leaf × (f ancestor ≡ up) × (f leaf ≡ low)
ancestor_from_map f branch k up low is =
    let ends = ends_from_map f branch is.above low is.all in
    let found = some_from_map f (slice_get ends.0 is.place) up
    (sym (slice_get-map f ends.0 is.place) ∙ ap (λ vs. slice_get vs is.place) ends.3 ∙ is.stands) in (
      found.0,
      ends.1,
      record { above = ends.0; place = is.place; all = ends.2; at_depth = is.at_depth; stands = found.1 },
      found.2,
      ends.4,
    )

same_symbol : (f g n : ℕ) (ts us : List Term) → app f (as_terms ts) ≡ app g (as_terms us) → length us ≡ n → (f ≡ g) × (length ts ≡ n)
same_symbol f g n ts us same counted =
    let inside : as_terms ts ≡ as_terms us = cc in
    (cc, ap length (sym (list_of-as_terms ts) ∙ ap list_of inside ∙ list_of-as_terms us) ∙ counted)

module _ (variables trees : ℕ → Term) (wants : ℕ → TreeState → TreeState → Type 0) (m : RunState) (stands : Stands variables trees m)
    (body : ℕ → RunState → Type 0) (bodies : (c : ℕ) → body c m → (next : TreeState) → wants c (state_under trees m) next → ⊥) where
  top_is : (c : ℕ) (rest : List ℕ) (t : Term) (ts : List Term) → m.stack ≡ c ∷ rest → map trees m.stack ≡ t ∷ ts → trees c ≡ t
  top_is c rest t ts top shown = (cons_parts (trees c) t (map trees rest) ts (sym (ap (map trees) top) ∙ shown)).0

  pub failure_excludes : (i : Instruction) → Fails body i m → (next : TreeState) → Asks variables wants i (state_under trees m) next → ⊥
  failure_excludes (FIRST x) fails next asks = fails
  failure_excludes (AGAIN x) (c, d, rest, top, is_set, cannot) next (ts, shown, leads) =
      cannot trees stands.solves (top_is c rest (variables x) ts top shown ∙ sym (stands.agrees x d is_set))
  failure_excludes (MEET f n) (c, rest, top, (g, args, found, other)) next (us, ts, counted, shown, leads) =
      let tree : app g (as_terms (map trees args)) ≡ app f (as_terms us) =
      sym (end_of-solved m.equations.bindings trees stands.solves.bindings c
      ∙ stands.solves.applications (end_of m.equations.bindings c) g args found) ∙ top_is c rest (app f (as_terms us)) ts top shown in
      let same = same_symbol g f n (map trees args) us tree counted in
      other (same.0, sym (length-map args trees) ∙ same.1)
  failure_excludes (GROUND t) (c, d, rest, top, cell, cannot) next (ts, shown, leads) =
      cannot trees stands.solves (top_is c rest t ts top shown ∙ sym (cell.tree trees stands.solves))
  failure_excludes NEW fails next asks = fails
  failure_excludes (PUSH x) fails next asks = fails
  failure_excludes (MAKE f n) fails next asks = fails
  failure_excludes (CONST t) fails next asks = fails
  failure_excludes (GOAL positive p n) fails next asks = fails
  failure_excludes (BODY c) fails next asks = bodies c fails next asks
  failure_excludes RETURN fails next asks = fails
  failure_excludes (CLOSE j) fails next asks = fails
  failure_excludes (REDUCE k) fails next (up, low, on, opposite, leads) =
      let found = ancestor_from_map (literal_under trees) m.branch k up low on in
      let sign : found.1.positive ≡ not found.0.positive =
      ap (λ (l : Literal). l.positive) found.4 ∙ opposite.sign ∙ ap (λ (l : Literal). not l.positive) (sym found.3) in
      let predicate : found.1.predicate ≡ found.0.predicate =
      ap (λ (l : Literal). l.predicate) found.4 ∙ opposite.predicate ∙ ap (λ (l : Literal). l.predicate) (sym found.3) in
      let args : map trees found.1.args ≡ map trees found.0.args =
      ap (λ (l : Literal). l.args) found.4 ∙ opposite.args ∙ ap (λ (l : Literal). l.args) (sym found.3) in
      elim (fails found.0 found.1 found.2) [
        | inl same_sign ↦ same_sign sign
        | inr (inl other) ↦ other predicate
        | inr (inr cannot) ↦ cannot trees stands.solves args
      ]
  failure_excludes DONE fails next asks = fails

-- what fails excludes what is wanted
abbrev Excludes : (ℕ → Term) → (RunState → Type 0) → (TreeState → TreeState → Type 0) → Type 0
Excludes variables fails asks = (m : RunState) (trees : ℕ → Term) (last : TreeState) → fails m → IsInStore m → Stands variables trees m
    → asks (state_under trees m) last → ⊥

module _ (variables : ℕ → Term) (body : ℕ → RunState → RunState → Type 0) (wants : ℕ → TreeState → TreeState → Type 0) (kept : (c : ℕ) → Keeps (body c))
    (bodies : (c : ℕ) → Reaches variables (body c) (wants c)) (fails : ℕ → RunState → Type 0) (excluded : (c : ℕ) → Excludes variables (fails c) (wants c)) where
  turns_exclude : (code : List Instruction) → Excludes variables (ComesToFail (Does body) (Fails fails) code) (InTurn (Asks variables wants) code)
  turns_exclude code m trees last comes is stands turns =
      let parts = turns_split (Asks variables wants) comes.before (comes.instruction ∷ comes.after) (state_under trees m) last
      (subst (λ (is : List Instruction). InTurn (Asks variables wants) is (state_under trees m) last) comes.whole turns) in
      let later = turns_reach variables body wants kept bodies comes.before m comes.reached trees parts.0 comes.runs is stands parts.1 in
      let inside = turns_keep body kept comes.before m comes.reached comes.runs is in
      failure_excludes variables later.0 wants comes.reached later.2 fails (λ c failed next asks. excluded c comes.reached later.0 next failed inside.0 later.2 asks)
      comes.instruction comes.failed parts.2.0
      (subst (λ (st : TreeState). Asks variables wants comes.instruction st parts.2.0) (sym later.3) parts.2.1)

body_excludes : (variables : ℕ → Term) (bodies : ℕ → List Instruction) (c : ℕ) → Excludes variables (BodyFails bodies c) (BodyWants variables bodies c)
body_excludes variables bodies c =
    turns_exclude variables NoBody NoBodyWants no_body_keeps (λ d m new trees last none is stands asks. absurd none) NoBodyFails
    (λ d m trees last none is stands asks. none) (bodies c)

pub failures_exclude : FailuresExclude
failures_exclude bodies code m variables trees last comes is stands wants =
    turns_exclude variables (RunsBody bodies) (BodyWants variables bodies) (body_keeps bodies) (body_reaches variables bodies) (BodyFails bodies)
    (body_excludes variables bodies) code m trees last comes is stands wants
