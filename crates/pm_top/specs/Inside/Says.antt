-- What the text of a proof search says is so.
use Rattle.std.specs.Prelude.{◌≡◌, ℕ, ◌^◌, ◌<◌, List, Option, None, Some, Contains, ⊤}
use Rattle.pm_logic.specs.Problem.{Problem}
use Rattle.pm_certread.specs.Lines.{Line, ended, cut_lines, status_line, level_line}
use Rattle.pm_args.specs.declared.job.Options.{Options}
use Rattle.pm_args.specs.Jobs.{Job, prove}
use Rattle.pm_top.specs.declared.answer.Answer.{Answer}
use Rattle.pm_top.specs.declared.status.Status.{Status}
use Rattle.pm_top.specs.declared.status.Status.TheVariants.{Done}
use Rattle.pm_top.specs.Files.{Held, Given}
use Rattle.pm_top.specs.Output.{EndsSearch}
use Rattle.pm_top.specs.Run.{HasProblem, IsExhausted, IsRefutedBy, IsSolvable}

abbrev pub HasLine : List ℕ → Line → Type 0
HasLine text line = Contains (cut_lines text) (ended line)

-- What the text says is so, where `holds` tells what is so of the problem; and what can be solved
-- is.
pub record Says (holds : (Problem → Type 0) → Type 0) (options : Options) (status : Status)
    (text : List ℕ) : Type 0 where
  pub exhausted :
      (level work : ℕ) → level < 2 ^ 64 → work < 2 ^ 64 → HasLine text (level_line level work)
      → holds (λ problem. IsExhausted problem options level work)
  pub refuted : HasLine text status_line → status ≡ Done
  pub done :
      status ≡ Done
      → (level : ℕ) × holds (λ problem. IsRefutedBy problem options level text)
  pub solvable :
      (level : ℕ) → holds (λ problem. IsSolvable problem options level)
      → (status ≡ Done) × holds (λ problem. IsRefutedBy problem options level text)

-- the answer of a search of the problem
pub record IsSearchAnswer (problem : Problem) (options : Options) (answer : Answer) : Type 0 where
  pub ends : EndsSearch options problem answer.status answer.text.items
  pub says : Says (λ holds. holds problem) options answer.status answer.text.items

-- the text of a proof search over a file says what is so
abbrev pub SaysOf : Option Job → Given → Status → List ℕ → Type 0
SaysOf (Some (prove file options)) given status text =
    Says (HasProblem given.clauses) options status text
SaysOf job given status text = ⊤

-- the text has no line that tells of exhausted levels or of unsatisfiable clauses
pub record SaysNothing (text : List ℕ) : Type 0 where
  pub no_level :
      (level work : ℕ) → level < 2 ^ 64 → work < 2 ^ 64 → ¬ HasLine text (level_line level work)
  pub no_status : ¬ HasLine text status_line
