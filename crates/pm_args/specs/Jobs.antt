-- The jobs that words ask for.
use Rattle.std.specs.Prelude.{ℕ, ◌&&◌, ◌^◌, Bool, List, [], ◌∷◌, Option, None, Some}
use Rattle.std.specs.Prelude.{codes, if◌then◌else◌, is_some, length, nat_le, nat_lt}
use Rattle.std.specs.Prelude.{option_and_then}
use Rattle.std.specs.Char.{is_ascii_digit}
use Rattle.std.specs.List.{list_all, list_any}
use Rattle.std.specs.Option.{option_map}
use Rattle.std.specs.Str.{bytes_eq}
use Rattle.std.specs.Str.Parse.{digits_value}
use Rattle.pm_logic.specs.declared.problem.Class.{Class}
use Rattle.pm_logic.specs.declared.problem.Class.TheVariants.{Plain, Regular}
use Rattle.pm_logic.specs.declared.problem.Start.{Start}
use Rattle.pm_logic.specs.declared.problem.Start.TheVariants.{Negative, All, Goal}
use Rattle.pm_logic.specs.declared.tableau.BoundKind.{BoundKind}
use Rattle.pm_logic.specs.declared.tableau.BoundKind.TheVariants.{Depth, Inferences}
use Rattle.pm_args.specs.declared.job.Options.{Options}
use Rattle.pm_args.specs.Words.{Reading, Text, option_names, reading_of, value_of}

pub data Job : Type 0 where
  prove : Text → Options → Job
  check : Text → Text → Job
  code : Text → Job
  clauses : Text → Job
  sample : ℕ → Options → Job

-- one to thirteen digits
abbrev pub is_number : Text → Bool
is_number text =
    nat_lt 0 (length text) && (nat_le (length text) 13 && list_all is_ascii_digit text)

-- the number that the text is, where it is one between the two
abbrev pub number_within : ℕ → ℕ → Text → Option ℕ
number_within least most text =
    if is_number text
    && (nat_le least (digits_value 10 text) && nat_le (digits_value 10 text) most)
    then Some (digits_value 10 text) else None

abbrev pub class_named : Text → Option Class
class_named text =
    if bytes_eq text (codes "plain") then Some Plain else
    if bytes_eq text (codes "regular") then Some Regular else None

abbrev pub start_named : Text → Option Start
start_named text =
    if bytes_eq text (codes "negative") then Some Negative else
    if bytes_eq text (codes "all") then Some All else
    if bytes_eq text (codes "goal") then Some Goal else None

abbrev pub bound_named : Text → Option BoundKind
bound_named text =
    if bytes_eq text (codes "depth") then Some Depth else
    if bytes_eq text (codes "inferences") then Some Inferences else None

-- what an option's value says, and the default where the option isn't given
abbrev pub value_or : {X : Type 0} → (Text → Option X) → X → Option Text → Option X
value_or named default None = Some default
value_or named default (Some text) = named text

-- the numbers among the options: the depth, the budget and the number of workers
pub record Numbers : Type 0 where
  pub depth : ℕ
  pub budget : ℕ
  pub workers : ℕ

abbrev pub numbers_of : Reading → Option Numbers
numbers_of r =
    option_and_then (λ depth. option_and_then (λ budget. option_map (λ workers. record {
      depth = depth;
      budget = budget;
      workers = workers;
    }) (value_or (number_within 1 64) 4 (value_of (codes "workers") r)))
    (value_or (number_within 1 (10 ^ 12)) 1000000 (value_of (codes "budget") r)))
    (value_or (number_within 0 250) 30 (value_of (codes "depth") r))

-- all options
abbrev pub options_of : Reading → Option Options
options_of r =
    option_and_then (λ numbers. option_and_then (λ class. option_and_then (λ start.
    option_map (λ bound. record {
      depth = numbers.depth;
      budget = numbers.budget;
      workers = numbers.workers;
      class = class;
      start = start;
      bound = bound;
    }) (value_or bound_named Depth (value_of (codes "bound") r)))
    (value_or start_named Negative (value_of (codes "start") r)))
    (value_or class_named Plain (value_of (codes "class") r)))
    (numbers_of r)

-- one of these options is given
abbrev pub gives_any : List Text → Reading → Bool
gives_any names r = list_any (λ name. is_some (value_of name r)) names

-- the job, where none of the options is given that it doesn't take
abbrev pub unless_given : List Text → Reading → Option Job → Option Job
unless_given names r job = if gives_any names r then None else job

abbrev pub sample_job : Reading → Text → Option Job
sample_job r number =
    option_and_then (λ n. option_map (sample n) (options_of r)) (number_within 1 50 number)

-- the job of a word with one file or number
abbrev pub job_of_one : Reading → Text → Text → Option Job
job_of_one r job argument =
    if bytes_eq job (codes "prove") then option_map (prove argument) (options_of r) else
    if bytes_eq job (codes "code") then unless_given option_names r (Some (code argument)) else
    if bytes_eq job (codes "clauses") then unless_given option_names r (Some (clauses argument))
    else if bytes_eq job (codes "sample")
    then unless_given (codes "start" ∷ codes "bound" ∷ []) r (sample_job r argument) else None

-- the job of a word with two files
abbrev pub job_of_two : Reading → Text → Text → Text → Option Job
job_of_two r job file cert =
    if bytes_eq job (codes "check") then unless_given option_names r (Some (check file cert))
    else None

-- the first plain word is the job, and the others are its files or its number
abbrev pub job_among : Reading → List Text → Option Job
job_among r (job ∷ argument ∷ []) = job_of_one r job argument
job_among r (job ∷ file ∷ cert ∷ []) = job_of_two r job file cert
job_among r words = None

-- the job that the words ask for, if they are one
abbrev pub job_of : List Text → Option Job
job_of words = option_and_then (λ r. job_among r r.plain) (reading_of words)
