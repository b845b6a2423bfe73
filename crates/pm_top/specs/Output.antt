-- The status and the text of a run, which words and files determine.
use Rattle.std.specs.Prelude.{◌≡◌, ℕ, ◌⊎◌, List, [], length, Option, None, Some}
use Rattle.std.specs.Option.{option_map}
use Rattle.pm_logic.specs.declared.tableau.BoundKind.{BoundKind}
use Rattle.pm_logic.specs.declared.tableau.BoundKind.TheVariants.{Depth, Inferences}
use Rattle.pm_logic.specs.Problem.{Problem}
use Rattle.pm_logic.specs.Tableau.{Tableau, TableauWithTerms}
use Rattle.pm_calculus.specs.Agreement.{IsLeastList}
use Rattle.pm_outside.specs.Outside.{Files}
use Rattle.pm_deepen.specs.declared.DeepEnd.{DeepEnd}
use Rattle.pm_deepen.specs.declared.DeepEnd.TheVariants.{Proof, DepthReached, BudgetOut}
use Rattle.pm_deepen.specs.declared.Outcome.{Outcome}
use Rattle.pm_deepen.specs.Levels.{IsAnswerOf}
use Rattle.pm_deepen.specs.Levels as levels
use Rattle.pm_scan.specs.declared.offence.CnfKind.{CnfKind}
use Rattle.pm_scan.specs.Lexemes.{line_of, column_of}
use Rattle.pm_cnf.specs.declared.limits.Limits.{Limits}
use Rattle.pm_cnf.specs.Offences.{IsFirstOffence}
use Rattle.pm_cnf.specs.Meaning.{IsProblemIn}
use Rattle.pm_cnf.specs.Refusals.{before}
use Rattle.pm_write.specs.Text.{problem_text}
use Rattle.pm_compile.specs.Listing.{listing_text}
use Rattle.pm_certread.specs.declared.error.CertKind.{CertKind}
use Rattle.pm_certread.specs.Kinds.{kind_word}
use Rattle.pm_certread.specs.Certificate.{Certificate}
use Rattle.pm_certread.specs.Reading.{accepted, refused, Reads}
use Rattle.pm_cert.specs.Text.{SearchReport, report_of, IsDocument}
use Rattle.pm_check.specs.declared.refusal.RefusalKind.{RefusalKind}
use Rattle.pm_check.specs.Kinds.{refusal_word}
use Rattle.pm_check.specs.Verdicts.{certified_level, IsAccepted, IsRefused}
use Rattle.pm_report.specs.Text.{Line, text_of, gave_up_lines, resource_out_lines, bad_words_lines, input_error_lines, too_long_lines, accepted_lines, accepted_inferences_lines, refused_lines}
use Rattle.pm_report.specs.Sample.{sample_problem}
use Rattle.pm_report.specs.Summary.{IsSummary}
use Rattle.pm_args.specs.declared.job.Options.{Options}
use Rattle.pm_args.specs.Words.{Text}
use Rattle.pm_args.specs.Jobs.{Job, prove, check, code, clauses, sample, job_of}
use Rattle.pm_top.specs.declared.status.Status.{Status}
use Rattle.pm_top.specs.declared.status.Status.TheVariants as ends
use Rattle.pm_top.specs.Files.{Held, missing, over_limit, these_bytes, Given, given_by}

-- the limits of every clause file
abbrev pub standard_limits : Limits
standard_limits =
    record { clauses = 65536; literals = 255; variables = 1000; arity = 255; nesting = 1000 }

-- ---- a search

-- What a problem is searched with. The number of workers plays no part.
abbrev pub searched_with : Options → levels.Options
searched_with options =
    record {
      class = options.class;
      start = options.start;
      bound = options.bound;
      depth = options.depth;
      budget = options.budget;
    }

abbrev pub status_of : DeepEnd → Status
status_of (Proof level path work) = ends.Done
status_of DepthReached = ends.DepthReached
status_of (BudgetOut level) = ends.Budget

-- what a proof's text says of the search
abbrev pub report : Options → List ℕ → ℕ → SearchReport
report options works work = report_of options.class options.start options.bound works work

-- the text for the end of a search: a proof's is the certificate of its tableau
abbrev pub IsTextOf :
    Problem → Options → List ℕ → DeepEnd → Option Tableau → List ℕ → Type 0
IsTextOf problem options works (Proof level path work) (Some tableau) text =
    IsDocument problem.symbols (report options works work) tableau text
IsTextOf problem options works (Proof level path work) None text = ⊥
IsTextOf problem options works DepthReached tableau text = text ≡ text_of (gave_up_lines works)
IsTextOf problem options works (BudgetOut level) tableau text =
    text ≡ text_of (resource_out_lines works)

-- the search of a problem ends so
pub record EndsSearch (options : Options) (problem : Problem) (status : Status)
    (text : List ℕ) : Type 0 where
  pub works : List ℕ
  pub end : DeepEnd
  pub tableau : Option Tableau
  pub answer : IsAnswerOf problem (searched_with options) works end tableau
  pub status_is : status ≡ status_of end
  pub text_is : IsTextOf problem options works end tableau text

-- the search of the sample problem of this number ends so, and is summed up
pub record EndsSample (n : ℕ) (options : Options) (status : Status) (text : List ℕ)
    : Type 0 where
  pub outcome : Outcome
  pub tableau : Option TableauWithTerms
  pub answer :
      IsAnswerOf (sample_problem n) (searched_with options) outcome.works.items outcome.end
      (option_map (λ drawn. drawn.tableau) tableau)
  pub status_is : status ≡ status_of outcome.end
  pub text_is : IsSummary n (length (sample_problem n).clauses) outcome tableau text

-- ---- a check

-- the certificate is refused at this line, for a cause of this name
abbrev pub IsRefusedAt : ℕ → List ℕ → Status → List ℕ → Type 0
IsRefusedAt line kind status text =
    (status ≡ ends.CertRefused) × (text ≡ text_of (refused_lines line kind))

abbrev pub verdict_lines : BoundKind → ℕ → List ℕ → List Line
verdict_lines Depth size choices = accepted_lines size choices
verdict_lines Inferences size choices = accepted_inferences_lines size choices

-- the certificate is accepted: its tableau has this size, and follows these choices
pub record IsAcceptedWith (problem : Problem) (certificate : Certificate) (size : ℕ)
    (choices : List ℕ) : Type 0 where
  pub accepted : IsAccepted problem certificate size
  pub least :
      IsLeastList (certified_level problem certificate size) certificate.tableau.tableau choices

-- the check of a certificate ends so
abbrev pub EndsVerdict : Problem → Certificate → Status → List ℕ → Type 0
EndsVerdict problem certificate status text =
    ((line : ℕ) × (kind : RefusalKind) × IsRefused problem certificate line kind
    × IsRefusedAt line (refusal_word kind) status text)
    ⊎ ((size : ℕ) × (choices : List ℕ) × IsAcceptedWith problem certificate size choices
    × (status ≡ ends.Done) × (text ≡ text_of (verdict_lines certificate.bound size choices)))

-- reading these bytes as a certificate and checking it ends so
abbrev pub EndsReading : Problem → List ℕ → Status → List ℕ → Type 0
EndsReading problem bytes status text =
    ((line : ℕ) × (kind : CertKind) × Reads problem bytes (refused line kind)
    × IsRefusedAt line (kind_word kind) status text)
    ⊎ ((certificate : Certificate) × Reads problem bytes (accepted certificate)
    × EndsVerdict problem certificate status text)

-- ---- files

-- the file of this place in the words isn't there or is over its limit
abbrev pub IsUnread : ℕ → Held → Status → List ℕ → Type 0
IsUnread place missing status text = (status ≡ ends.Missing) × (text ≡ [])
IsUnread place over_limit status text =
    (status ≡ ends.BadInput) × (text ≡ text_of (too_long_lines place))
IsUnread place (these_bytes bytes) status text = ⊥

-- the clause file has this problem
abbrev pub IsProblemOf : Held → Problem → Type 0
IsProblemOf (these_bytes bytes) problem = IsProblemIn standard_limits bytes problem
IsProblemOf held problem = ⊥

-- the clause file has a first offence, and the text names it with its place
abbrev pub IsOffence : Held → List ℕ → Type 0
IsOffence (these_bytes bytes) text =
    (rest : List ℕ) × (kind : CnfKind) × IsFirstOffence standard_limits bytes rest kind
    × (text ≡ text_of (input_error_lines
    (line_of (before bytes rest)) (column_of (before bytes rest)) kind))
IsOffence held text = ⊥

-- A job over a clause file ends as its problem does, if there is one.
abbrev pub EndsOver :
    Held → (Problem → Status → List ℕ → Type 0) → Status → List ℕ → Type 0
EndsOver held ends_problem status text =
    IsUnread 1 held status text
    ⊎ ((status ≡ ends.BadInput) × IsOffence held text)
    ⊎ ((problem : Problem) × IsProblemOf held problem × ends_problem problem status text)

-- a check over a problem ends so; the certificate is looked at when the clauses have been read
abbrev pub EndsCheck : Held → Problem → Status → List ℕ → Type 0
EndsCheck held problem status text =
    IsUnread 2 held status text
    ⊎ ((bytes : List ℕ) × (held ≡ these_bytes bytes) × EndsReading problem bytes status text)

-- ---- jobs

abbrev pub EndsJob : Job → Given → Status → List ℕ → Type 0
EndsJob (prove file options) given status text =
    EndsOver given.clauses (EndsSearch options) status text
EndsJob (check file cert) given status text =
    EndsOver given.clauses (EndsCheck given.certificate) status text
EndsJob (code file) given status text =
    EndsOver given.clauses
    (λ problem status text. (status ≡ ends.Done)
    × (text ≡ listing_text problem.symbols problem.clauses)) status text
EndsJob (clauses file) given status text =
    EndsOver given.clauses
    (λ problem status text. (status ≡ ends.Done) × (text ≡ problem_text problem)) status text
EndsJob (sample n options) given status text = EndsSample n options status text

-- the status and the text of a job, or of words that are none
abbrev pub OutputOf : Option Job → Given → Status → List ℕ → Type 0
OutputOf None given status text =
    (status ≡ ends.BadWords) × (text ≡ text_of bad_words_lines)
OutputOf (Some job) given status text = EndsJob job given status text

-- The output of words over files: its status, and its text.
abbrev pub Output : List Text → Files → Status → List ℕ → Type 0
Output words files status text =
    OutputOf (job_of words) (given_by files (job_of words)) status text

-- words and files determine the status and the text
abbrev pub OutputIsDetermined : Type 0
OutputIsDetermined =
    (words : List Text) (files : Files) (status other : Status) (text second : List ℕ)
    → Output words files status text → Output words files other second
    → (status ≡ other) × (text ≡ second)
