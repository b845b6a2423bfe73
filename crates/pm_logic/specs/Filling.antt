-- Terms with other terms in the place of their variables.
use Rattle.std.specs.Prelude.{ℕ, List, slice_index_or}
use Rattle.pm_logic.specs.Term.{Term, var, app, Terms, no_terms, more_terms}

-- a term with a term for each of its variables
abbrev mutual
  pub fill : (ℕ → Term) → Term → Term
  fill terms (var n) = terms n
  fill terms (app symbol args) = app symbol (fill_among terms args)

  pub fill_among : (ℕ → Term) → Terms → Terms
  fill_among terms no_terms = no_terms
  fill_among terms (more_terms t ts) = more_terms (fill terms t) (fill_among terms ts)

-- what a list puts for a variable: its first term for variable 0, the next for variable 1, and so
-- on; further variables stay
abbrev pub term_for : List Term → ℕ → Term
term_for terms n = slice_index_or terms n (var n)

-- a term with the terms of a list put for its variables
abbrev pub put : List Term → Term → Term
put terms = fill (term_for terms)
