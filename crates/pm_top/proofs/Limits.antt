-- What is read of words is within the limits of the calls below.
use Rattle.std.proofs.Common.{◌≡◌, ℕ, ◌^◌, ◌≤◌, ◌&&◌, Bool, true, false, List, [], ◌∷◌, Option, Some, None, refl, sym, subst, codes, arith}
use Rattle.std.specs.Prelude.{IfSome, if◌then◌else◌, nat_le, option_and_then}
use Rattle.std.specs.Option.{option_map}
use Rattle.std.specs.Str.{bytes_eq}
use Rattle.std.specs.Str.Parse.{digits_value}
use Rattle.std.proofs.lemmas.Bool.{leb-true}
use Rattle.pm_logic.specs.declared.problem.Class.{Class}
use Rattle.pm_logic.specs.declared.problem.Class.TheVariants.{Plain}
use Rattle.pm_logic.specs.declared.problem.Start.{Start}
use Rattle.pm_logic.specs.declared.tableau.BoundKind.{BoundKind}
use Rattle.pm_logic.specs.declared.problem.Start.TheVariants.{Negative}
use Rattle.pm_logic.specs.declared.tableau.BoundKind.TheVariants.{Depth}
use Rattle.pm_args.specs.declared.job.Options.{Options}
use Rattle.pm_args.specs.Words.{Reading, Text, option_names, reading_of, value_of}
use Rattle.pm_args.specs.Jobs.{Job, prove, check, code, clauses, sample, Numbers, is_number, number_within, class_named, start_named, bound_named, value_or, numbers_of, options_of, gives_any, unless_given, sample_job, job_of_one, job_of_two, job_among, job_of}
use Rattle.pm_top.specs.Inside.Stops.{AreWithinLimits, IsWithinLimits}

-- ---- what holds of a value, where there is one
abbrev Any : {A : Type 0} → A → Type 0
Any x = Unit {0}

any_so : {A : Type 0} (o : Option A) → IfSome o Any
any_so None = tt
any_so (Some x) = tt

then_so : {A B : Type 0} (P : A → Type 0) (Q : B → Type 0) (f : A → Option B) (o : Option A) → IfSome o P → ((x : A) → P x → IfSome (f x) Q) → IfSome (option_and_then f o) Q
then_so P Q f None h go = tt
then_so P Q f (Some x) h go = go x h

map_so : {A B : Type 0} (P : A → Type 0) (Q : B → Type 0) (f : A → B) (o : Option A) → IfSome o P → ((x : A) → P x → Q (f x)) → IfSome (option_map f o) Q
map_so P Q f None h go = tt
map_so P Q f (Some x) h go = go x h

unless_so : (names : List Text) (r : Reading) (job : Option Job) → IfSome job IsWithinLimits → IfSome (unless_given names r job) IsWithinLimits
unless_so names r job h = by (gives_any names r)
  where
    by : (given : Bool) → IfSome (if given then None else job) IsWithinLimits
    by true = tt
    by false = h

-- ---- options
abbrev IsBetween : ℕ → ℕ → ℕ → Type 0
IsBetween least most n = (least ≤ n) × (n ≤ most)

number_so : (least most : ℕ) (text : Text) → IfSome (number_within least most text) (IsBetween least most)
number_so least most text = by (is_number text) (nat_le least (digits_value 10 text)) (nat_le (digits_value 10 text) most) refl refl
  where
    by : (a b c : Bool) → nat_le least (digits_value 10 text) ≡ b → nat_le (digits_value 10 text) most ≡ c
        → IfSome (if a && (b && c) then Some (digits_value 10 text) else None) (IsBetween least most)
    by true true true low high = (leb-true least (digits_value 10 text) low, leb-true (digits_value 10 text) most high)
    by true true false low high = tt
    by true false c low high = tt
    by false b c low high = tt

value_so : {X : Type 0} (P : X → Type 0) (named : Text → Option X) (default : X) (given : Option Text) → P default → ((text : Text) → IfSome (named text) P) → IfSome (value_or named default given) P
value_so P named default None h all = h
value_so P named default (Some text) h all = all text

abbrev AreFit : Numbers → Type 0
AreFit numbers = (numbers.depth ≤ 250) × (numbers.budget ≤ 10 ^ 12) × (1 ≤ numbers.workers) × (numbers.workers ≤ 64)

numbers_so : (r : Reading) → IfSome (numbers_of r) AreFit
numbers_so r =
    let depths = value_so (IsBetween 0 250) (number_within 0 250) 30 (value_of (codes "depth") r) (omega arith, omega arith) (number_so 0 250) in
    let budgets = value_so (IsBetween 1 (10 ^ 12)) (number_within 1 (10 ^ 12)) 1000000 (value_of (codes "budget") r) (omega arith, omega arith) (number_so 1 (10 ^ 12)) in
    let workers_so = value_so (IsBetween 1 64) (number_within 1 64) 4 (value_of (codes "workers") r) (omega arith, omega arith) (number_so 1 64) in
    then_so (IsBetween 0 250) AreFit _ (value_or (number_within 0 250) 30 (value_of (codes "depth") r)) depths
    (λ depth d. then_so (IsBetween 1 (10 ^ 12)) AreFit _ (value_or (number_within 1 (10 ^ 12)) 1000000 (value_of (codes "budget") r)) budgets
    (λ budget b. map_so (IsBetween 1 64) AreFit _ (value_or (number_within 1 64) 4 (value_of (codes "workers") r)) workers_so (λ workers w. (d.1, b.1, w.0, w.1))))

options_so : (r : Reading) → IfSome (options_of r) AreWithinLimits
options_so r =
    let class : Option Class = value_or class_named Plain (value_of (codes "class") r) in
    let start : Option Start = value_or start_named Negative (value_of (codes "start") r) in
    let bound : Option BoundKind = value_or bound_named Depth (value_of (codes "bound") r) in
    then_so AreFit AreWithinLimits _ (numbers_of r) (numbers_so r)
    (λ numbers h. then_so Any AreWithinLimits _ class (any_so class)
    (λ c is. then_so Any AreWithinLimits _ start (any_so start) (λ s too. map_so Any AreWithinLimits _ bound (any_so bound) (λ b three. h))))

-- ---- jobs
sample_so : (r : Reading) (number : Text) → IfSome (sample_job r number) IsWithinLimits
sample_so r number =
    then_so (IsBetween 1 50) IsWithinLimits _ (number_within 1 50 number) (number_so 1 50 number)
    (λ n h. map_so AreWithinLimits IsWithinLimits (sample n) (options_of r) (options_so r) (λ options k. (h.0, h.1, k)))

one_so : (r : Reading) (job argument : Text) → IfSome (job_of_one r job argument) IsWithinLimits
one_so r job argument = by (bytes_eq job (codes "prove")) (bytes_eq job (codes "code")) (bytes_eq job (codes "clauses")) (bytes_eq job (codes "sample"))
  where
    by : (is_prove is_code is_clauses is_sample : Bool)
        → IfSome (if is_prove then option_map (prove argument) (options_of r) else
        if is_code then unless_given option_names r (Some (code argument)) else
        if is_clauses then unless_given option_names r (Some (clauses argument)) else
        if is_sample then unless_given (codes "start" ∷ codes "bound" ∷ []) r (sample_job r argument) else None) IsWithinLimits
    by true is_code is_clauses is_sample = map_so AreWithinLimits IsWithinLimits (prove argument) (options_of r) (options_so r) (λ options h. h)
    by false true is_clauses is_sample = unless_so option_names r (Some (code argument)) tt
    by false false true is_sample = unless_so option_names r (Some (clauses argument)) tt
    by false false false true = unless_so (codes "start" ∷ codes "bound" ∷ []) r (sample_job r argument) (sample_so r argument)
    by false false false false = tt

two_so : (r : Reading) (job file cert : Text) → IfSome (job_of_two r job file cert) IsWithinLimits
two_so r job file cert = by (bytes_eq job (codes "check"))
  where
    by : (is_check : Bool) → IfSome (if is_check then unless_given option_names r (Some (check file cert)) else None) IsWithinLimits
    by true = unless_so option_names r (Some (check file cert)) tt
    by false = tt

among_so : (r : Reading) (plain : List Text) → IfSome (job_among r plain) IsWithinLimits
among_so r [] = tt
among_so r (job ∷ []) = tt
among_so r (job ∷ argument ∷ []) = one_so r job argument
among_so r (job ∷ file ∷ cert ∷ []) = two_so r job file cert
among_so r (job ∷ file ∷ cert ∷ more ∷ rest) = tt

pub job_within : (words : List Text) (job : Job) → job_of words ≡ Some job → IsWithinLimits job
job_within words job is =
    subst (λ (o : Option Job). IfSome o IsWithinLimits) is (then_so Any IsWithinLimits (λ r. job_among r r.plain) (reading_of words) (any_so (reading_of words)) (λ r h. among_so r r.plain))
