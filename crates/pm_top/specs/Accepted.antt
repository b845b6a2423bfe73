-- What a proof search prints is accepted by a check.
use Rattle.std.specs.Prelude.{◌≡◌, ℕ, ◌≤◌, List, length, Some}
use Rattle.std.specs.FinMap as map
use Rattle.pm_logic.specs.Problem.{Problem}
use Rattle.pm_logic.specs.Tableau.{Tableau}
use Rattle.pm_outside.specs.Outside.{Files}
use Rattle.pm_deepen.specs.declared.DeepEnd.TheVariants.{Proof}
use Rattle.pm_deepen.specs.Levels.{IsAnswerOf}
use Rattle.pm_args.specs.declared.job.Options.{Options}
use Rattle.pm_args.specs.Words.{Text}
use Rattle.pm_args.specs.Jobs.{prove, check, job_of}
use Rattle.pm_report.specs.Text.{text_of}
use Rattle.pm_top.specs.declared.files.TheConstants.{MAX_CERT_BYTES, MAX_FILE_BYTES}
use Rattle.pm_top.specs.declared.status.Status.TheVariants as ends
use Rattle.pm_top.specs.Files.{held_in}
use Rattle.pm_top.specs.Output.{searched_with, verdict_lines, Output}
use Rattle.pm_top.specs.Run.{HasProblem}

-- The search of the problem ends with a proof at this level: its first complete list is this one.
pub record IsProvedAt (options : Options) (level : ℕ) (path : List ℕ) (problem : Problem)
    : Type 0 where
  pub works : List ℕ
  pub work : ℕ
  pub tableau : Tableau
  pub answer :
      IsAnswerOf problem (searched_with options) works (Proof level path work) (Some tableau)

-- The words ask for a check of this text as a certificate, over the clause file that the other
-- files have under the name.
pub record IsCheckOf (file : Text) (files : Files) (text : List ℕ) (words : List Text)
    (later : Files) : Type 0 where
  pub cert : Text
  pub job : job_of words ≡ Some (check file cert)
  pub clauses : map.get later file ≡ map.get files file
  pub certificate : map.get later cert ≡ Some text

-- Where `prove` ends with a proof, the check of what it printed, over the same clause file, accepts
-- it: it tells the level of the proof as the size, and the list that the search found as the
-- choices. (As words and files determine the output, the check has no other. A text over the limit
-- of certificates isn't read.)
abbrev pub ProofsAreAccepted : Type 0
ProofsAreAccepted =
    (words checking : List Text) (files later : Files) (file : Text) (options : Options)
    (text : List ℕ)
    → job_of words ≡ Some (prove file options) → Output words files ends.Done text
    → length text ≤ MAX_CERT_BYTES → IsCheckOf file files text checking later
    → (level : ℕ) × (path : List ℕ)
    × HasProblem (held_in files MAX_FILE_BYTES (Some file)) (IsProvedAt options level path)
    × Output checking later ends.Done (text_of (verdict_lines options.bound level path))
