-- With what the parts of a run stop it, and what they do to its library.
use Rattle.std.specs.Prelude.{◌≡◌, ℕ, ◌^◌, ◌≤◌, ◌⊎◌, List, Option, None, Some, Result, Ok, Err, IfSome, IsSomeAnd, ⊤}
use Rattle.std.specs.FinMap as map
use Rattle.pm_outside.specs.Outside.{Files, LibraryView, Rose, CountsOnly}
use Rattle.pm_args.specs.declared.job.Options.{Options}
use Rattle.pm_args.specs.Words.{Text}
use Rattle.pm_args.specs.Jobs.{Job, prove, sample}
use Rattle.pm_top.specs.declared.answer.Answer.{Answer}
use Rattle.pm_top.specs.declared.answer.Stop.{Stop}
use Rattle.pm_top.specs.declared.answer.Stop.TheVariants.{Answered}
use Rattle.pm_top.specs.declared.status.Status.{Status}
use Rattle.pm_top.specs.declared.status.Status.TheVariants as ends
use Rattle.pm_top.specs.Files.{Held, held_of, Given, given_by}
use Rattle.pm_top.specs.Output.{IsUnread, IsOffence, OutputOf}
use Rattle.pm_top.specs.Run.{AreFilesOf}
use Rattle.pm_top.specs.Inside.Says.{SaysOf, SaysNothing}

-- a library that tells its files holds this under the name
abbrev pub HoldsSo : Option Files → ℕ → Text → Held → Type 0
HoldsSo told limit name held =
    IfSome told (λ files. held ≡ held_of limit (map.get files name))

abbrev pub answer_in : Stop → Option Answer
answer_in (Answered answer) = Some answer
answer_in stop = None

-- the answer that stops a part of a run, if one does
abbrev pub stopped : {A : Type 0} → Result A Stop → Option Answer
stopped (Ok a) = None
stopped (Err stop) = answer_in stop

-- the answer of a run, if it has one
abbrev pub answered : Result Answer Stop → Option Answer
answered (Ok answer) = Some answer
answered (Err stop) = answer_in stop

abbrev pub EndsWith : Option Answer → Status → Type 0
EndsWith answer status = IsSomeAnd answer (λ a. a.status ≡ status)

-- A count changes only with the answer that it counts, and the files stay. A missing file and a
-- fault are answered only where their counts rose.
pub record CountsStops (before after : LibraryView) (answer : Option Answer) (fault : Type 0)
    : Type 0 where
  pub misses : CountsOnly (EndsWith answer ends.Missing) before.misses after.misses
  pub longs : CountsOnly (EndsWith answer ends.BadInput) before.longs after.longs
  pub faults : CountsOnly fault before.faults after.faults
  pub missing : EndsWith answer ends.Missing → Rose before.misses after.misses
  pub failed : fault → Rose before.faults after.faults
  pub told : after.told ≡ before.told

-- bad input has its cause: an offence of the clause file, or a file over its limit
abbrev pub HasCause : Held → ℕ × ℕ → Status → Type 0
HasCause held longs status =
    status ≡ ends.BadInput → ((text : List ℕ) × IsOffence held text) ⊎ Rose longs.0 longs.1

-- the answer of a clause file without a problem
pub record IsClausesStop (held : Held) (longs : ℕ × ℕ) (answer : Answer) : Type 0 where
  pub output :
      IsUnread 1 held answer.status answer.text.items
      ⊎ ((answer.status ≡ ends.BadInput) × IsOffence held answer.text.items)
  pub cause : HasCause held longs answer.status
  pub says : SaysNothing answer.text.items

-- The answer to a job, or to words that are none.
pub record IsAnswered (job : Option Job) (told : Option Files) (longs : ℕ × ℕ) (answer : Answer)
    : Type 0 where
  pub given : Given
  pub told_so : (files : Files) → AreFilesOf job told files → given ≡ given_by files job
  pub output : OutputOf job given answer.status answer.text.items
  pub cause : HasCause given.clauses longs answer.status
  pub says : SaysOf job given answer.status answer.text.items

abbrev pub AreWithinLimits : Options → Type 0
AreWithinLimits options =
    (options.depth ≤ 250) × (options.budget ≤ 10 ^ 12)
    × (1 ≤ options.workers) × (options.workers ≤ 64)

-- what is read of words is within the limits of the calls below
abbrev pub IsWithinLimits : Job → Type 0
IsWithinLimits (prove file options) = AreWithinLimits options
IsWithinLimits (sample n options) = (1 ≤ n) × (n ≤ 50) × AreWithinLimits options
IsWithinLimits job = ⊤
