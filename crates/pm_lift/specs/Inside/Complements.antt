-- Tests of terms and literals.
use Rattle.std.specs.Prelude.{Bool, true, false, cond, not, ◌&&◌, ◌==◌}
use Rattle.pm_logic.specs.Term.{Term, var, app, Terms, no_terms, more_terms, as_terms}
use Rattle.pm_logic.specs.Problem.{Literal}

-- the terms are the same tree
abbrev mutual
  pub is_same : Term → Term → Bool
  is_same (var m) (var n) = m == n
  is_same (var m) (app g us) = false
  is_same (app f ts) (var n) = false
  is_same (app f ts) (app g us) = (f == g) && are_same ts us

  pub are_same : Terms → Terms → Bool
  are_same no_terms no_terms = true
  are_same no_terms (more_terms u us) = false
  are_same (more_terms t ts) no_terms = false
  are_same (more_terms t ts) (more_terms u us) = is_same t u && are_same ts us

-- the signs differ
abbrev pub differ : Bool → Bool → Bool
differ a b = cond a (not b) b

-- the literals are complementary
abbrev pub complements : Literal → Literal → Bool
complements a b =
    differ a.positive b.positive && (a.predicate == b.predicate)
    && are_same (as_terms a.args) (as_terms b.args)
