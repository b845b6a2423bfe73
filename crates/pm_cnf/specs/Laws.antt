-- What is true of all clause files.
use Rattle.std.specs.Prelude.{◌≡◌, ℕ, ◌<◌, ◌^◌, List}
use Rattle.pm_logic.specs.Problem.{Problem, IsValid}
use Rattle.pm_scan.specs.declared.offence.CnfKind.{CnfKind}
use Rattle.pm_cnf.specs.declared.limits.Limits.{Limits}
use Rattle.pm_cnf.specs.Limits.{AreUsual}
use Rattle.pm_cnf.specs.Offences.{IsFirstOffence}
use Rattle.pm_cnf.specs.Meaning.{IsProblemIn}
use Rattle.pm_write.specs.Text.{problem_text}

-- bytes have one problem at most
abbrev pub ProblemIsDetermined : Type 0
ProblemIsDetermined =
    (limits : Limits) (bytes : List ℕ) (problem other : Problem) → IsProblemIn limits bytes problem
    → IsProblemIn limits bytes other → problem ≡ other

-- and one first offence at most
abbrev pub OffenceIsDetermined : Type 0
OffenceIsDetermined =
    (limits : Limits) (bytes rest others : List ℕ) (kind other : CnfKind)
    → IsFirstOffence limits bytes rest kind → IsFirstOffence limits bytes others other
    → (rest ≡ others) × (kind ≡ other)

-- A problem that was read within the standard limits is valid.
abbrev pub ReadProblemsAreValid : Type 0
ReadProblemsAreValid =
    (limits : Limits) (bytes : List ℕ) (problem : Problem) → AreUsual limits
    → IsProblemIn limits bytes problem → IsValid problem

-- A problem that was read reads from its written clauses again. (The limit is that of a u32: it
-- keeps the numbers of variables within the digits that are written.)
abbrev pub WrittenClausesReadBack : Type 0
WrittenClausesReadBack =
    (limits : Limits) (bytes : List ℕ) (problem : Problem) → limits.variables < 2 ^ 32
    → IsProblemIn limits bytes problem → IsProblemIn limits (problem_text problem) problem
