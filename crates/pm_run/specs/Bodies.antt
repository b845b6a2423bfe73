-- What code is run with: the bodies of a problem's clauses, and a local for each variable.
use Rattle.std.specs.Prelude.{ℕ, List, slice_get}
use Rattle.std.specs.Option.{option_map_or}
use Rattle.pm_logic.specs.Problem.{Clause}
use Rattle.pm_compile.specs.Instructions.{Instruction}
use Rattle.pm_compile.specs.Scheme.{body_code}
use Rattle.pm_calculus.specs.Skeleton.{literals_at}

-- the code of the body of the clause of this index
abbrev pub bodies_of : List Clause → ℕ → List Instruction
bodies_of clauses c = body_code (literals_at clauses c)

-- how many variables the clause of this index has
abbrev pub variables_at : List Clause → ℕ → ℕ
variables_at clauses c = option_map_or (λ clause. clause.vars) (slice_get clauses c) 0
