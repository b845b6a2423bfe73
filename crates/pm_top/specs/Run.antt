-- What a run promises: its causes, what it writes, and what its lines say.
use Rattle.std.specs.Prelude.{◌≡◌, ℕ, ◌^◌, ◌<◌, ◌≤◌, ◌⊎◌, List, [], ◌++◌, Option, None, Some, Contains, ⊤}
use Rattle.std.specs.FinMap as map
use Rattle.pm_logic.specs.Problem.{Problem}
use Rattle.pm_logic.specs.Tableau.{Tableau, size}
use Rattle.pm_calculus.specs.Connection.{IsInClass}
use Rattle.pm_calculus.specs.Truth.{Atom, HasFalseInstance}
use Rattle.pm_choice.specs.declared.Bound.TheVariants.{End}
use Rattle.pm_choice.specs.Entries.{Closes}
use Rattle.pm_search.specs.Attempts.{attempts_of}
use Rattle.pm_search.specs.Work.{Exceeds}
use Rattle.pm_outside.specs.Outside.{Files, LibraryView, Rose, CountsOnly, Appends, AppendsPrefix}
use Rattle.pm_deepen.specs.Levels.{key_of, level_at}
use Rattle.pm_certread.specs.Certificate.{Certificate}
use Rattle.pm_certread.specs.Lines.{Line, ended, cut_lines, status_line, level_line}
use Rattle.pm_certread.specs.Reading.{accepted, Reads}
use Rattle.pm_args.specs.declared.job.Options.{Options}
use Rattle.pm_args.specs.Words.{Text}
use Rattle.pm_args.specs.Jobs.{Job, prove, sample, job_of}
use Rattle.pm_top.specs.declared.files.TheConstants.{MAX_CERT_BYTES, MAX_FILE_BYTES}
use Rattle.pm_top.specs.declared.status.Status.{Status}
use Rattle.pm_top.specs.declared.status.Status.TheVariants as ends
use Rattle.pm_top.specs.Files.{Held, these_bytes, clauses_named, cert_named, Given, given_by, held_in}
use Rattle.pm_top.specs.Output.{searched_with, IsProblemOf, IsOffence, OutputOf, Output}

-- what callers see of a sink: its count of faults, and what it has got where it tells that
pub record SinkView : Type 0 where
  pub faults : ℕ
  pub written : Option (List ℕ)

-- the view of a sink, from what shows its parts
abbrev pub sink_view : {A : Type 0} → (A → ℕ) → (A → Option (List ℕ)) → A → SinkView
sink_view faults written sink = record { faults = faults sink; written = written sink }

-- ---- what a run reads

-- words that are no job name no file, and the job of a sample names none
abbrev pub NamesNoFile : Option Job → Type 0
NamesNoFile None = ⊤
NamesNoFile (Some (sample n options)) = ⊤
NamesNoFile (Some job) = ⊥

-- These are a run's files: those that the library tells, or none where the words name none.
abbrev pub AreFilesOf : Option Job → Option Files → Files → Type 0
AreFilesOf job told files = (told ≡ Some files) ⊎ (NamesNoFile job × (files ≡ map.empty))

-- ---- what a run writes

-- What has been written where a run ends so: the text of the output with this status; nothing on a
-- fault of reading, on want of memory and where a file is missing; and where the sink failed, a
-- prefix of the text of some output.
abbrev pub HasWritten :
    Option Job → Given → Option (List ℕ) → Option (List ℕ) → Status → Type 0
HasWritten job given old new ends.ReadFault = new ≡ old
HasWritten job given old new ends.NoMemory = new ≡ old
HasWritten job given old new ends.Missing =
    (new ≡ old) × OutputOf job given ends.Missing []
HasWritten job given old new ends.WriteFault =
    (status : Status) × (text : List ℕ) × OutputOf job given status text
    × AppendsPrefix old new text
HasWritten job given old new status =
    (text : List ℕ) × OutputOf job given status text × Appends old new text

-- the sink, which tells what it has got, has got this line
abbrev pub HasGot : Option (List ℕ) → Option (List ℕ) → Line → Type 0
HasGot (Some old) (Some new) line =
    (gained : List ℕ) × (new ≡ old ++ gained) × Contains (cut_lines gained) (ended line)
HasGot old new line = ⊥

-- ---- what its lines say

-- the problem has no tableau of the level's class, and the level takes so many attempts
pub record IsExhausted (problem : Problem) (options : Options) (level work : ℕ) : Type 0 where
  pub none :
      (tableau : Tableau) → ¬ IsInClass (level_at problem (searched_with options) level) tableau
  pub attempts :
      Closes (attempts_of (key_of (level_at problem (searched_with options) level))) [] End work

-- no class of a lower level has a member
abbrev pub IsLeast : Problem → Options → ℕ → Type 0
IsLeast problem options level =
    (lower : ℕ) → lower < level → (tableau : Tableau)
    → ¬ IsInClass (level_at problem (searched_with options) lower) tableau

-- The text reads as a certificate whose tableau is in the level's class and has the level as its
-- size, while no lower level has a tableau; and each truth assignment makes some clause instance of
-- the tableau false.
pub record IsRefutedBy (problem : Problem) (options : Options) (level : ℕ) (text : List ℕ)
    : Type 0 where
  pub certificate : Certificate
  pub reads : Reads problem text (accepted certificate)
  pub size_is : size options.bound certificate.tableau.tableau ≡ level
  pub member :
      IsInClass (level_at problem (searched_with options) level) certificate.tableau.tableau
  pub least : IsLeast problem options level
  pub refuted :
      (atoms : List Atom) → HasFalseInstance problem.clauses certificate.tableau.tableau atoms

-- The level is the least that has a tableau, it isn't above the depth, and no level up to it exceeds
-- the budget.
pub record IsSolvable (problem : Problem) (options : Options) (level : ℕ) : Type 0 where
  pub reached : level ≤ options.depth
  pub tableau : Tableau
  pub member : IsInClass (level_at problem (searched_with options) level) tableau
  pub least : IsLeast problem options level
  pub within :
      (lower : ℕ) → lower ≤ level
      → ¬ Exceeds (key_of (level_at problem (searched_with options) lower)) options.budget

-- the clause file has a problem of which this holds
abbrev pub HasProblem : Held → (Problem → Type 0) → Type 0
HasProblem held holds = (problem : Problem) × IsProblemOf held problem × holds problem

-- the output is of unsatisfiable clauses, refuted at this level
abbrev pub IsRefutation : Option Job → Given → Options → ℕ → List ℕ → Type 0
IsRefutation job given options level text =
    OutputOf job given ends.Done text
    × HasProblem given.clauses (λ problem. IsRefutedBy problem options level text)

-- ---- the whole

-- there is such a file, within its limit
abbrev pub IsThere : Files → ℕ → Option Text → Type 0
IsThere files limit None = ⊤
IsThere files limit (Some name) =
    (bytes : List ℕ) × (held_in files limit (Some name) ≡ these_bytes bytes)

-- no fault rose, neither of the library nor of the sink
pub record HasNoFault (before after : LibraryView) (old new : SinkView) : Type 0 where
  pub library : ¬ Rose before.faults after.faults
  pub sink : ¬ Rose old.faults new.faults

-- All that holds where a run of words ends with a status. The library is seen before and after it,
-- and so is the sink.
pub record IsRun (words : List Text) (before after : LibraryView) (old new : SinkView)
    (status : Status) : Type 0 where
  -- what its files hold
  pub given : Given
  pub told :
      (files : Files) → AreFilesOf (job_of words) before.told files
      → given ≡ given_by files (job_of words)
  -- each fault has its cause
  pub missing : status ≡ ends.Missing → Rose before.misses after.misses
  pub read_fault : status ≡ ends.ReadFault → Rose before.faults after.faults
  pub write_fault : status ≡ ends.WriteFault → Rose old.faults new.faults
  pub bad_input :
      status ≡ ends.BadInput
      → ((text : List ℕ) × IsOffence given.clauses text) ⊎ Rose before.longs after.longs
  -- A count changes only where the run ends with its fault. So each of them is as before after want
  -- of memory.
  pub misses : CountsOnly (status ≡ ends.Missing) before.misses after.misses
  pub faults : CountsOnly (status ≡ ends.ReadFault) before.faults after.faults
  pub longs :
      CountsOnly ((status ≡ ends.BadInput) ⊎ (status ≡ ends.WriteFault))
      before.longs after.longs
  pub puts : CountsOnly (status ≡ ends.WriteFault) old.faults new.faults
  -- the output's text is written, and nothing else
  pub written : HasWritten (job_of words) given old.written new.written status
  -- what a proof search has written tells only what is so
  pub exhausted :
      (file : Text) (options : Options) (level work : ℕ)
      → job_of words ≡ Some (prove file options) → level < 2 ^ 64 → work < 2 ^ 64
      → HasGot old.written new.written (level_line level work)
      → HasProblem given.clauses (λ problem. IsExhausted problem options level work)
  pub unsatisfiable :
      (file : Text) (options : Options) → job_of words ≡ Some (prove file options)
      → HasGot old.written new.written status_line
      → (level : ℕ) × (text : List ℕ) × IsRefutation (job_of words) given options level text
  -- where the files are there and no fault rises, the output comes, and what has a proof within
  -- depth and budget is proved
  pub complete :
      (files : Files) (job : Job) → before.told ≡ Some files → job_of words ≡ Some job
      → IsThere files MAX_FILE_BYTES (clauses_named job)
      → IsThere files MAX_CERT_BYTES (cert_named job)
      → HasNoFault before after old new
      → (status ≡ ends.NoMemory)
      ⊎ ((text : List ℕ) × Output words files status text
      × Appends old.written new.written text)
  pub proves :
      (file : Text) (options : Options) (level : ℕ)
      → job_of words ≡ Some (prove file options)
      → HasProblem given.clauses (λ problem. IsSolvable problem options level)
      → HasNoFault before after old new
      → (status ≡ ends.NoMemory)
      ⊎ ((status ≡ ends.Done)
      × ((text : List ℕ) × IsRefutation (job_of words) given options level text))
