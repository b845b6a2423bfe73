-- Variables that don't occur in small terms, and stores with one more binding.
use Rattle.std.proofs.Common.{◌≡◌, ℕ, inl, inr, List, [], ◌∷◌, map, sym, ◌∙◌, subst}
use Rattle.std.proofs.lemmas.List.{append-nil}
use Rattle.std.specs.Prelude.{All}
use Rattle.std.proofs.lemmas.List.Elements.{All-head, All-tail}
use Rattle.pm_logic.specs.Term.{app, as_terms}
use Rattle.pm_store.specs.Equations.{Equations, with_binding, IsFree}
use Rattle.pm_store.specs.Marks.{IsLater}
use Rattle.pm_store.proofs.MarkLemmas.{growth_is_later}
use Rattle.pm_diseq.specs.Notes.{Note}
use Rattle.pm_diseq.specs.Standing.{StandsAt}
use Rattle.pm_diseq.specs.Inside.Trying.{Advances}
use Rattle.pm_store.specs.Trees.{tree, Occurs, OccursAmong}
use Rattle.pm_store.specs.Sound.{IsSound}
use Rattle.pm_store.proofs.TreeLemmas.{free_variables_stand}

-- another variable
pub lacks_variable : (s : Equations) (c v w : ℕ) → IsSound s → IsFree s w → tree s c ≡ tree s w → (w ≡ v → ⊥) → ¬ Occurs v (tree s c)
lacks_variable s c v w sound free same other occurs =
    other (sym (subst (Occurs v) (same ∙ free_variables_stand s w sound free) occurs))

-- a term whose arguments lack it
pub lacks_application : (s : Equations) (c v symbol : ℕ) (args : List ℕ) → tree s c ≡ app symbol (as_terms (map (tree s) args))
    → All (λ arg. ¬ Occurs v (tree s arg)) args → ¬ Occurs v (tree s c)
lacks_application s c v symbol args is lack occurs = among args lack (subst (Occurs v) is occurs)
  where
    among : (cs : List ℕ) → All (λ arg. ¬ Occurs v (tree s arg)) cs → OccursAmong v (as_terms (map (tree s) cs)) → ⊥
    among [] all occurs = occurs
    among (d ∷ cs) all (inl first) = All-head (λ arg. ¬ Occurs v (tree s arg)) d cs all first
    among (d ∷ cs) all (inr rest) = among cs (All-tail (λ arg. ¬ Occurs v (tree s arg)) d cs all) rest

pub later_by_binding : (s now : Equations) (v t : ℕ) → now ≡ with_binding s v t → IsLater s now
later_by_binding s now v t is = subst (IsLater s) (sym is) ((growth_is_later s).binding v t)

pub stays : (s : Equations) (pool : List Note) → StandsAt s pool → Advances s s pool pool
stays s pool stands = record { is_later = (growth_is_later s).unchanged; grows = ([], sym (append-nil pool)); stands = stands }
