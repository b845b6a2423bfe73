-- The answers to jobs, from what their parts answer.
use Rattle.std.proofs.Common.{◌≡◌, ℕ, inl, inr, List, [], Option, Some, None, refl, sym, ◌∙◌, ap, ap₂, subst}
use Rattle.std.specs.Prelude.{◌≢◌, ◌⊎◌, IfSome, IfOk, IfErr, Result, Ok, Err}
use Rattle.pm_compile.specs.Listing.{listing_text}
use Rattle.pm_write.specs.Text.{problem_text}
use Rattle.pm_outside.specs.Outside.{Files, Rose}
use Rattle.pm_logic.specs.Problem.{Problem}
use Rattle.pm_deepen.specs.declared.DeepEnd.{DeepEnd}
use Rattle.pm_deepen.specs.declared.DeepEnd.TheVariants.{Proof, DepthReached, BudgetOut}
use Rattle.pm_args.specs.declared.job.Options.{Options}
use Rattle.pm_args.specs.Words.{Text}
use Rattle.pm_args.specs.Jobs.{Job, prove, check, code, clauses, sample}
use Rattle.pm_report.specs.Text.{text_of, bad_words_lines}
use Rattle.pm_top.specs.declared.answer.Answer.{Answer}
use Rattle.pm_top.specs.declared.answer.Stop.{Stop}
use Rattle.pm_top.specs.declared.answer.Stop.TheVariants.{NoMemory}
use Rattle.pm_top.specs.declared.files.TheConstants.{MAX_CERT_BYTES, MAX_FILE_BYTES}
use Rattle.pm_top.specs.declared.status.Status.{Status}
use Rattle.pm_top.specs.declared.status.Status.TheVariants as ends
use Rattle.pm_top.specs.Files.{Held, missing, over_limit, these_bytes, held_of, held_in, clauses_named, cert_named, Given, given_by}
use Rattle.pm_top.specs.Output.{status_of, IsUnread, IsProblemOf, IsOffence, EndsOver, EndsCheck, EndsVerdict, EndsReading, EndsSample, EndsSearch, OutputOf}
use Rattle.pm_top.specs.Run.{NamesNoFile, AreFilesOf, HasProblem, IsSolvable, IsRefutedBy}
use Rattle.pm_top.specs.Inside.Says.{Says, SaysOf, SaysNothing, IsSearchAnswer}
use Rattle.pm_top.specs.Inside.Stops.{HoldsSo, EndsWith, HasCause, IsClausesStop, IsAnswered, answer_in, answered}
use Rattle.pm_top.proofs.Determined.{problem_once, problem_read, problem_sound}

-- ---- what the files hold

-- what a library holds under a name, if it tells
abbrev held_told : Option Files → ℕ → Option Text → Held
held_told None limit name = missing
held_told (Some files) limit name = held_in files limit name

told_so : (told : Option Files) (limit : ℕ) (name : Option Text) (files : Files) → told ≡ Some files → held_told told limit name ≡ held_in files limit name
told_so told limit name files is = ap (λ (t : Option Files). held_told t limit name) is

names_one : (job : Job) (file : Text) → clauses_named job ≡ Some file → NamesNoFile (Some job) → ⊥
names_one (prove name options) file named none = none
names_one (check name cert) file named none = none
names_one (code name) file named none = none
names_one (clauses name) file named none = none
names_one (sample n options) file named none = absurd cc

abbrev given_of : Held → Held → Given
given_of held cert = record { clauses = held; certificate = cert }

module _ (job : Job) (told : Option Files) (file : Text) (named : clauses_named job ≡ Some file) (held cert : Held) (holds : HoldsSo told MAX_FILE_BYTES file held)
    (cert_so : (files : Files) → told ≡ Some files → cert ≡ held_in files MAX_CERT_BYTES (cert_named job)) where
  given_told : (files : Files) → AreFilesOf (Some job) told files → given_of held cert ≡ given_by files (Some job)
  given_told files (inl is) =
      let here : held ≡ held_in files MAX_FILE_BYTES (Some file) = subst (λ (t : Option Files). HoldsSo t MAX_FILE_BYTES file held) is holds in
      ap₂ given_of (here ∙ ap (λ (name : Option Text). held_in files MAX_FILE_BYTES name) (sym named)) (cert_so files is)
  given_told files (inr none) = absurd (names_one job file named none.0)

-- ---- a clause file without a problem
abbrev StopsSo : Held → Status → List ℕ → Type 0
StopsSo held status text = IsUnread 1 held status text ⊎ ((status ≡ ends.BadInput) × IsOffence held text)

stop_over : (held : Held) (ends_problem : Problem → Status → List ℕ → Type 0) (status : Status) (text : List ℕ) → StopsSo held status text → EndsOver held ends_problem status text
stop_over held ends_problem status text (inl unread) = inl unread
stop_over held ends_problem status text (inr offence) = inr (inl offence)

-- the text of a problem is written
abbrev pub IsDoneWith : (Problem → List ℕ) → Problem → Status → List ℕ → Type 0
IsDoneWith written problem status text = (status ≡ ends.Done) × (text ≡ written problem)

stop_output : (job : Job) (file : Text) (given : Given) (status : Status) (text : List ℕ) → clauses_named job ≡ Some file → StopsSo given.clauses status text → OutputOf (Some job) given status text
stop_output (prove name options) file given status text named stop = stop_over given.clauses (EndsSearch options) status text stop
stop_output (check name cert) file given status text named stop = stop_over given.clauses (EndsCheck given.certificate) status text stop
stop_output (code name) file given status text named stop = stop_over given.clauses (IsDoneWith (λ problem. listing_text problem.symbols problem.clauses)) status text stop
stop_output (clauses name) file given status text named stop = stop_over given.clauses (IsDoneWith problem_text) status text stop
stop_output (sample n options) file given status text named stop = absurd cc

pub not_done : (held : Held) (status : Status) (text : List ℕ) → StopsSo held status text → status ≡ ends.Done → ⊥
not_done missing status text (inl unread) is = (let other = unread.0 in cc)
not_done over_limit status text (inl unread) is = (let other = unread.0 in cc)
not_done (these_bytes bytes) status text (inl unread) is = unread
not_done held status text (inr offence) is = (let other = offence.0 in cc)

not_read : (held : Held) (status : Status) (text : List ℕ) (holds : Problem → Type 0) → StopsSo held status text → HasProblem held holds → ⊥
not_read held status text holds (inl unread) h = problem_read 1 held h.0 status text h.1 unread
not_read held status text holds (inr offence) h = problem_sound held h.0 text h.1 offence.1

quiet_says : (held : Held) (options : Options) (status : Status) (text : List ℕ) → SaysNothing text → StopsSo held status text → Says (HasProblem held) options status text
quiet_says held options status text quiet stop = record {
  exhausted = λ level work small small_work h. absurd (quiet.no_level level work small small_work h);
  refuted = λ h. absurd (quiet.no_status h);
  done = λ is. absurd (not_done held status text stop is);
  solvable = λ level h. absurd (not_read held status text _ stop h);
}

stop_says : (job : Job) (given : Given) (status : Status) (text : List ℕ) → SaysNothing text → StopsSo given.clauses status text → SaysOf (Some job) given status text
stop_says (prove name options) given status text quiet stop = quiet_says given.clauses options status text quiet stop
stop_says (check name cert) given status text quiet stop = tt
stop_says (code name) given status text quiet stop = tt
stop_says (clauses name) given status text quiet stop = tt
stop_says (sample n options) given status text quiet stop = tt

stop_answered : (job : Job) (told : Option Files) (file : Text) → clauses_named job ≡ Some file → (held : Held) → HoldsSo told MAX_FILE_BYTES file held
    → (longs : ℕ × ℕ) (answer : Answer) → IsClausesStop held longs answer → IsAnswered (Some job) told longs answer
stop_answered job told file named held holds longs answer stop =
    let cert = held_told told MAX_CERT_BYTES (cert_named job) in
    record {
      given = given_of held cert;
      told_so = given_told job told file named held cert holds (λ files is. told_so told MAX_CERT_BYTES (cert_named job) files is);
      output = stop_output job file (given_of held cert) answer.status answer.text.items named stop.output;
      cause = stop.cause;
      says = stop_says job (given_of held cert) answer.status answer.text.items stop.says stop.output;
    }

pub stops_answered : (job : Job) (told : Option Files) (file name : Text) → clauses_named job ≡ Some file → name ≡ file → (longs : ℕ × ℕ) (stop : Option Answer)
    → IfSome stop (λ a. (held : Held) × HoldsSo told MAX_FILE_BYTES name held × IsClausesStop held longs a) → IfSome stop (IsAnswered (Some job) told longs)
stops_answered job told file name named same longs None h = tt
stops_answered job told file name named same longs (Some a) h =
    stop_answered job told file named h.0 (subst (λ (n : Text). HoldsSo told MAX_FILE_BYTES n h.0) same h.1) longs a h.2

-- ---- a problem
over_says : (held : Held) (problem : Problem) (options : Options) (status : Status) (text : List ℕ) → IsProblemOf held problem
    → Says (λ holds. holds problem) options status text → Says (HasProblem held) options status text
over_says held problem options status text is h = record {
  exhausted = λ level work small small_work line. (problem, is, h.exhausted level work small small_work line);
  refuted = h.refuted;
  done = λ done. (let refuted = h.done done in (refuted.0, (problem, is, refuted.1)));
  solvable = λ level solvable. (
      let same = problem_once held solvable.0 problem solvable.1 is in
      let refuted = h.solvable level (subst (λ (p : Problem). IsSolvable p options level) same solvable.2) in
      (refuted.0, (problem, is, refuted.1)));
}

pub search_status : (end : DeepEnd) (status : Status) → status ≡ status_of end → (status ≢ ends.BadInput) × (status ≢ ends.Missing)
search_status (Proof level path work) status is = ((λ e. cc), (λ e. cc))
search_status DepthReached status is = ((λ e. cc), (λ e. cc))
search_status (BudgetOut level) status is = ((λ e. cc), (λ e. cc))

-- the other answers to a job over a problem
module _ (told : Option Files) (file : Text) (held : Held) (holds : HoldsSo told MAX_FILE_BYTES file held) (problem : Problem) (is : IsProblemOf held problem)
    (longs : ℕ × ℕ) where
  pub prove_answered : (options : Options) (answer : Answer) → IsSearchAnswer problem options answer → IsAnswered (Some (prove file options)) told longs answer
  prove_answered options answer h = record {
    given = given_of held missing;
    told_so = given_told (prove file options) told file refl held missing holds (λ files told_is. refl);
    output = inr (inr (problem, is, h.ends));
    cause = λ bad. absurd ((search_status h.ends.end answer.status h.ends.status_is).0 bad);
    says = over_says held problem options answer.status answer.text.items is h.says;
  }

  check_answered : (name : Text) (cert : Held) (answer : Answer) → HoldsSo told MAX_CERT_BYTES name cert → EndsCheck cert problem answer.status answer.text.items
      → (answer.status ≡ ends.BadInput → Rose longs.0 longs.1) → IsAnswered (Some (check file name)) told longs answer
  check_answered name cert answer cert_holds h long = record {
    given = given_of held cert;
    told_so = given_told (check file name) told file refl held cert holds
        (λ files told_is. subst (λ (t : Option Files). HoldsSo t MAX_CERT_BYTES name cert) told_is cert_holds);
    output = inr (inr (problem, is, h));
    cause = λ bad. inr (long bad);
    says = tt;
  }

  -- the certificate is read where its file has this name
  pub checks_answered : (name of_file : Text) → of_file ≡ name → (later : Option Files) → later ≡ told → (stop : Option Answer)
      → IfSome stop (λ a. (cert : Held) × HoldsSo later MAX_CERT_BYTES of_file cert × EndsCheck cert problem a.status a.text.items)
      → (EndsWith stop ends.BadInput → Rose longs.0 longs.1) → IfSome stop (IsAnswered (Some (check file name)) told longs)
  checks_answered name of_file named later stays None h long = tt
  checks_answered name of_file named later stays (Some a) h long =
      let holds_later = subst (λ (n : Text). HoldsSo later MAX_CERT_BYTES n h.0) named h.1 in
      check_answered name h.0 a (subst (λ (t : Option Files). HoldsSo t MAX_CERT_BYTES name h.0) stays holds_later) h.2 long

  pub code_answered : (answer : Answer) → answer.status ≡ ends.Done → answer.text.items ≡ listing_text problem.symbols problem.clauses
      → IsAnswered (Some (code file)) told longs answer
  code_answered answer done text_is = record {
    given = given_of held missing;
    told_so = given_told (code file) told file refl held missing holds (λ files told_is. refl);
    output = inr (inr (problem, is, (done, text_is)));
    cause = λ bad. absurd cc;
    says = tt;
  }

  pub clauses_answered : (answer : Answer) → answer.status ≡ ends.Done → answer.text.items ≡ problem_text problem
      → IsAnswered (Some (clauses file)) told longs answer
  clauses_answered answer done text_is = record {
    given = given_of held missing;
    told_so = given_told (clauses file) told file refl held missing holds (λ files told_is. refl);
    output = inr (inr (problem, is, (done, text_is)));
    cause = λ bad. absurd cc;
    says = tt;
  }

-- ---- no file
pub sample_answered : (told : Option Files) (longs : ℕ × ℕ) (n : ℕ) (options : Options) (answer : Answer) → EndsSample n options answer.status answer.text.items
    → IsAnswered (Some (sample n options)) told longs answer
sample_answered told longs n options answer h = record {
  given = given_of missing missing;
  told_so = λ files are. refl;
  output = h;
  cause = λ bad. absurd ((search_status h.outcome.end answer.status h.status_is).0 bad);
  says = tt;
}

words_answered : (told : Option Files) (longs : ℕ × ℕ) (answer : Answer) → answer.status ≡ ends.BadWords → answer.text.items ≡ text_of bad_words_lines
    → IsAnswered None told longs answer
words_answered told longs answer refused text_is = record {
  given = given_of missing missing;
  told_so = λ files are. refl;
  output = (refused, text_is);
  cause = λ bad. absurd cc;
  says = tt;
}

-- the refusal of words that are no job
pub refused_answered : (job : Option Job) (told : Option Files) (longs : ℕ × ℕ) (result : Result Answer Stop) → job ≡ None
    → IfOk result (λ answer. (answer.status ≡ ends.BadWords) × (answer.text.items ≡ text_of bad_words_lines)) → IfErr result (λ stop. stop ≡ NoMemory)
    → IfSome (answered result) (IsAnswered job told longs)
refused_answered job told longs (Ok answer) none ok err = subst (λ (j : Option Job). IsAnswered j told longs answer) (sym none) (words_answered told longs answer ok.0 ok.1)
refused_answered job told longs (Err stop) none ok err = subst (λ (s : Stop). IfSome (answer_in s) (IsAnswered job told longs)) (sym err) tt
