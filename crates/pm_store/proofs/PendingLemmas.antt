-- What is pending, when a place is taken or others are added.
use Rattle.std.proofs.Common.{◌≡◌, ℕ, ◌+◌, ◌<◌, List, [], ◌∷◌, ◌++◌, map, refl, ◌∙◌, ap, arith}
use Rattle.pm_logic.specs.Term.{app, as_terms}
use Rattle.pm_store.specs.declared.resolver.Place.{Place}
use Rattle.pm_store.specs.declared.resolver.Place.TheVariants.{Visit, Build}
use Rattle.pm_store.specs.Equations.{Equations}
use Rattle.pm_store.specs.Trees.{tree, size, size_among}
use Rattle.pm_store.specs.Resolved.{with_variables, with_variables_among}
use Rattle.pm_store.specs.Inside.Pending.{place_work, work, visits, variables_after}
use Rattle.pm_store.proofs.TermLemmas.{size-positive}

-- the places that come last are visited first
pub variables_after-append : (s : Equations) (vs : List ℕ) (ps qs : List Place) → variables_after s vs (ps ++ qs) ≡ variables_after s (variables_after s vs qs) ps
variables_after-append s vs [] qs = refl
variables_after-append s vs (Visit c ∷ ps) qs = ap (λ ws. with_variables ws (tree s c)) (variables_after-append s vs ps qs)
variables_after-append s vs (Build c ∷ ps) qs = variables_after-append s vs ps qs

pub work-append : (s : Equations) (ps qs : List Place) → work s (ps ++ qs) ≡ work s ps + work s qs
work-append s [] qs = omega arith
work-append s (p ∷ ps) qs = omega (arith, work-append s ps qs)

pub variables_after-visits : (s : Equations) (vs : List ℕ) (cs : List ℕ) → variables_after s vs (visits cs) ≡ with_variables_among vs (as_terms (map (tree s) cs))
variables_after-visits s vs [] = refl
variables_after-visits s vs (c ∷ cs) =
    variables_after-append s vs (visits cs) (Visit c ∷ []) ∙ variables_after-visits s (with_variables vs (tree s c)) cs

pub work-visits : (s : Equations) (cs : List ℕ) → work s (visits cs) ≡ size_among (as_terms (map (tree s) cs)) + size_among (as_terms (map (tree s) cs))
work-visits s [] = refl
work-visits s (c ∷ cs) = omega (arith, work-append s (visits cs) (Visit c ∷ []), work-visits s cs)

-- taking a place away leaves less
pub work-less : (s : Equations) (ps : List Place) (p : Place) → 0 < place_work s p → work s ps < work s (ps ++ p ∷ [])
work-less s ps p more = omega (arith, work-append s ps (p ∷ []), more)

pub visit_works : (s : Equations) (c : ℕ) → 0 < place_work s (Visit c)
visit_works s c = omega (arith, size-positive (tree s c))

-- an application gives way to its own building and the visits to its arguments
pub work-opened : (s : Equations) (ps : List Place) (c symbol : ℕ) (args : List ℕ) → tree s c ≡ app symbol (as_terms (map (tree s) args))
    → work s ((ps ++ Build c ∷ []) ++ visits args) < work s (ps ++ Visit c ∷ [])
work-opened s ps c symbol args is =
    omega (arith, work-append s (ps ++ Build c ∷ []) (visits args), work-append s ps (Build c ∷ []), work-append s ps (Visit c ∷ []), work-visits s args, ap size is)

-- the last of the cells is visited after the others
pub visits-push : (cs : List ℕ) (c : ℕ) → visits (cs ++ c ∷ []) ≡ Visit c ∷ visits cs
visits-push [] c = refl
visits-push (d ∷ cs) c = ap (λ ps. ps ++ Visit d ∷ []) (visits-push cs c)
