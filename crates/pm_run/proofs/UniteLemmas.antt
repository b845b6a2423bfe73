-- Two lists of cells, unified in turn.
use Rattle.std.proofs.Common.{◌≡◌, Bool, true, false, ℕ, ◌+◌, ◌<◌, ◌≤◌, List, ◌∷◌, drop, get_or, length, map, refl, sym, ◌∙◌, ap, subst, subst₂, arith}
use Rattle.std.proofs.lemmas.List.{drop_more, drop_all}
use Rattle.pm_logic.specs.Term.{Term}
use Rattle.pm_store.specs.Equations.{Equations}
use Rattle.pm_store.specs.Sound.{IsSound}
use Rattle.pm_store.specs.Marks.{IsLater}
use Rattle.pm_store.proofs.MarkLemmas.{growth_is_later, later_is_transitive}
use Rattle.pm_unify.specs.Unified.{IsUnified, CannotUnify, Answers}
use Rattle.pm_run.specs.Meaning.{Unites}
use Rattle.pm_run.specs.Failure.{CannotUnite}
use Rattle.pm_run.proofs.PartLemmas.{cons_parts}

pub answered_true : (s new : Equations) (c d : ℕ) (answer : Bool) → answer ≡ true → Answers s new c d answer → IsUnified s new c d
answered_true s new c d answer is answers = subst (λ b. Answers s new c d b) is answers

pub answered_false : (s new : Equations) (c d : ℕ) (answer : Bool) → answer ≡ false → Answers s new c d answer → (new ≡ s) × CannotUnify s c d
answered_false s new c d answer is answers = subst (λ b. Answers s new c d b) is answers

-- what the rest of two lists comes to, from this place on, both lists come to
pub record IsUniting (old : Equations) (left right : List ℕ) (i : ℕ) (now : Equations) : Type 0 where
  pub cells : now.cells ≡ old.cells
  pub later : IsLater old now
  pub sound : IsSound now
  pub unites : (last : Equations) → Unites now (drop i left) (drop i right) last → Unites old left right last
  pub cannot : CannotUnite now (drop i left) (drop i right) → CannotUnite old left right

pub uniting_first : (s : Equations) (left right : List ℕ) → IsSound s → IsUniting s left right 0 s
uniting_first s left right sound = record {
  cells = refl;
  later = (growth_is_later s).unchanged;
  sound = sound;
  unites = λ last unites. unites;
  cannot = λ cannot. cannot;
}

first_apart : (s : Equations) (c d : ℕ) (cs ds : List ℕ) → CannotUnify s c d → CannotUnite s (c ∷ cs) (d ∷ ds)
first_apart s c d cs ds cannot trees solves same = cannot trees solves (heads (trees c) (trees d) (map trees cs) (map trees ds) same)
  where
    heads : (t u : Term) (ts us : List Term) → t ∷ ts ≡ u ∷ us → t ≡ u
    heads t u ts us same = (cons_parts t u ts us same).0

rest_apart : (s next : Equations) (c d : ℕ) (cs ds : List ℕ) → IsUnified s next c d → CannotUnite next cs ds → CannotUnite s (c ∷ cs) (d ∷ ds)
rest_apart s next c d cs ds unified cannot trees solves same =
    let parts = cons_parts (trees c) (trees d) (map trees cs) (map trees ds) same in
    cannot trees ((unified.solutions trees).1 (solves, parts.0)) parts.1

module _ (old : Equations) (left right : List ℕ) (i : ℕ) (now : Equations) (is : IsUniting old left right i now)
    (c d : ℕ) (within : i < length left) (counted : length left ≡ length right) (at_left : c ≡ get_or left i c) (at_right : d ≡ get_or right i d) where
  left_rest : drop i left ≡ c ∷ drop (i + 1) left
  left_rest = drop_more left i c within ∙ ap (λ x. x ∷ drop (i + 1) left) (sym at_left)

  right_rest : drop i right ≡ d ∷ drop (i + 1) right
  right_rest = drop_more right i d (omega (arith, within, counted)) ∙ ap (λ x. x ∷ drop (i + 1) right) (sym at_right)

  pub uniting_next : (next : Equations) → IsUnified now next c d → IsUniting old left right (i + 1) next
  uniting_next next unified = record {
    cells = unified.cells ∙ is.cells;
    later = later_is_transitive old now next is.later unified.later;
    sound = unified.sound;
    unites = λ last rest. is.unites last
        (subst₂ (λ (cs ds : List ℕ). Unites now cs ds last) (sym left_rest) (sym right_rest) (next, unified, rest));
    cannot = λ rest. is.cannot
        (subst₂ (λ (cs ds : List ℕ). CannotUnite now cs ds) (sym left_rest) (sym right_rest)
        (rest_apart now next c d (drop (i + 1) left) (drop (i + 1) right) unified rest));
  }

  pub uniting_fails : CannotUnify now c d → CannotUnite old left right
  uniting_fails cannot =
      is.cannot (subst₂ (λ (cs ds : List ℕ). CannotUnite now cs ds) (sym left_rest) (sym right_rest)
      (first_apart now c d (drop (i + 1) left) (drop (i + 1) right) cannot))

pub uniting_last : (old : Equations) (left right : List ℕ) (i : ℕ) (now : Equations) → IsUniting old left right i now → length left ≡ length right
    → length left ≤ i → Unites old left right now
uniting_last old left right i now is counted beyond =
    is.unites now (subst₂ (λ (cs ds : List ℕ). Unites now cs ds now) (sym (drop_all i left beyond)) (sym (drop_all i right (omega (arith, beyond, counted)))) refl)
