-- The terms that a certificate has lines for, and the numbers of these lines.
use Rattle.std.specs.Prelude.{◌≡◌, ℕ, List, [], ◌∷◌, ◌++◌, Some, map, slice_get}
use Rattle.std.specs.List.{flat_map}
use Rattle.pm_logic.specs.Lists.{Gathers}
use Rattle.pm_logic.specs.Problem.{Literal}
use Rattle.pm_logic.specs.Tableau.{Tableau, preorder}
use Rattle.pm_logic.specs.Term.{Term, Terms, var, app, no_terms, more_terms, as_terms}

-- A term and its parts, the arguments of each before it.
abbrev mutual
  pub subterms : Term → List Term
  subterms (var n) = var n ∷ []
  subterms (app symbol args) = subterms_among args ++ app symbol args ∷ []

  pub subterms_among : Terms → List Term
  subterms_among no_terms = []
  subterms_among (more_terms t ts) = subterms t ++ subterms_among ts

-- the terms in a literal, from left to right
abbrev pub terms_in : Literal → List Term
terms_in literal = subterms_among (as_terms literal.args)

-- the terms in a tableau's literals, node by node in pre-order, each as often as it occurs
abbrev pub terms_in_order : Tableau → List Term
terms_in_order tableau = flat_map (λ entry. terms_in entry.literal) (preorder tableau)

-- these terms each once, by first occurrence
abbrev pub AreListed : Tableau → List Term → Type 0
AreListed tableau terms = Gathers [] (terms_in_order tableau) terms

-- the numbers are the places of these terms in the list
abbrev pub ArePlacesOf : List Term → List Term → List ℕ → Type 0
ArePlacesOf terms args numbers = map (slice_get terms) numbers ≡ map Some args
