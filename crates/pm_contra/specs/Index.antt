-- An index of clauses: the literals of each face, and what their first arguments begin with.
use Rattle.std.specs.Prelude.{◌≡◌, ℕ, ◌+◌, ◌*◌, ◌<◌, List, [], Option, Some, None, cond, map, option_and_then, slice_get, slice_index_or}
use Rattle.pm_logic.specs.Term.{Term, var, app}
use Rattle.pm_logic.specs.Problem.{Clause}
use Rattle.pm_calculus.specs.Skeleton.{Face, literals_at}
use Rattle.pm_calculus.specs.Alternatives.{Head, heads}

-- what a term begins with: the number of its symbol plus one, or 0 for a variable and for no term
abbrev pub top : Option Term → ℕ
top None = 0
top (Some (var n)) = 0
top (Some (app symbol args)) = symbol + 1

-- what argument q of the literal at a head begins with
abbrev pub top_at : List Clause → ℕ → Head → ℕ
top_at clauses q head =
    top
    (option_and_then (λ literal. slice_get literal.args q)
    (slice_get (literals_at clauses head.clause) head.literal))

-- what an index has for each face, by the faces' numbers: the heads, and for each of the first four
-- arguments what it begins with at each head
pub record Index : Type 0 where
  pub heads : List (List Head)
  pub columns : List (List (List ℕ))

-- the number of a face: there are two for each predicate, the positive one first
abbrev pub number_of : Face → ℕ
number_of face = 2 * face.predicate + cond face.positive 0 1

-- the heads of a face; a face beyond the last has none
abbrev pub heads_in : Index → Face → List Head
heads_in index face = slice_index_or index.heads (number_of face) []

-- what argument q begins with at each head of a face
abbrev pub column_in : Index → ℕ → Face → List ℕ
column_in index q face = slice_index_or (slice_index_or index.columns q []) (number_of face) []

-- the index is that of these clauses
pub record IsIndexOf (clauses : List Clause) (index : Index) : Type 0 where
  pub its_heads : (face : Face) → heads_in index face ≡ heads face clauses
  pub its_columns :
      (face : Face) (q : ℕ) → q < 4
      → column_in index q face ≡ map (top_at clauses q) (heads face clauses)
