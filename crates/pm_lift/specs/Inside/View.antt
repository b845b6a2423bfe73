-- What a branch of the code stands for.
use Rattle.std.specs.Prelude.{ℕ, List, All, map}
use Rattle.pm_logic.specs.Term.{Term}
use Rattle.pm_logic.specs.View.{literal_of, HasRows}
use Rattle.pm_lift.specs.declared.branch.Ancestor.{Ancestor}
use Rattle.pm_lift.specs.Inside.Walk as walk

abbrev pub ancestor_of : List Term → Ancestor → walk.Ancestor
ancestor_of terms a = record { literal = literal_of terms a.literal.now; waits = a.waits }

abbrev pub branch_of : List Term → List Ancestor → List walk.Ancestor
branch_of terms branch = map (ancestor_of terms) branch

-- the rows of the branch's literals are rows of a table of so many
abbrev pub HaveRows : ℕ → List Ancestor → Type 0
HaveRows count branch = All (λ a. HasRows count a.literal.now) branch
