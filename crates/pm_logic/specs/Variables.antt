-- The variables of terms and tableaux, and their numbering by first occurrence.
use Rattle.std.specs.Prelude.{◌≡◌, ℕ, ◌+◌, ◌<◌, ◌⊎◌, List, [], ◌∷◌, ◌++◌, flat_map, ⊤}
use Rattle.pm_logic.specs.Term.{Term, var, app, Terms, no_terms, more_terms}
use Rattle.pm_logic.specs.Tableau.{Tableau, preorder}

-- the variables of a term, from left to right, each as often as it occurs
abbrev mutual
  pub variables : Term → List ℕ
  variables (var n) = n ∷ []
  variables (app symbol args) = variables_among args

  pub variables_among : Terms → List ℕ
  variables_among no_terms = []
  variables_among (more_terms t ts) = variables t ++ variables_among ts

-- the variables of a tableau, in pre-order
abbrev pub variables_in_order : Tableau → List ℕ
variables_in_order tableau = flat_map (λ e. flat_map variables e.literal.args) (preorder tableau)

-- each variable has occurred before, or is the next number
abbrev pub AreNumberedFrom : ℕ → List ℕ → Type 0
AreNumberedFrom next [] = ⊤
AreNumberedFrom next (n ∷ ns) =
    ((n < next) × AreNumberedFrom next ns) ⊎ ((n ≡ next) × AreNumberedFrom (next + 1) ns)

-- the variables are numbered by first occurrence in pre-order
abbrev pub IsNumberedInOrder : Tableau → Type 0
IsNumberedInOrder tableau = AreNumberedFrom 0 (variables_in_order tableau)
