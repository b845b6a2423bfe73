-- A run: the answer to its words, and what the sink took of it.
use Rattle.std.proofs.Common.{◌≡◌, ℕ, ◌^◌, ◌<◌, ◌≤◌, inl, inr, List, [], length, Option, Some, None, refl, sym, ◌∙◌, ap, subst, arith}
use Rattle.std.specs.Prelude.{◌⊎◌, ⊤, Result, Ok, Err, IfSome, IsErrOf}
use Rattle.std.specs.FinMap as map
use Rattle.pm_logic.specs.Problem.{Problem}
use Rattle.pm_compile.specs.Listing.{listing_text}
use Rattle.pm_write.specs.Text.{problem_text}
use Rattle.pm_deepen.specs.declared.DeepEnd.{DeepEnd}
use Rattle.pm_deepen.specs.declared.DeepEnd.TheVariants.{Proof, DepthReached, BudgetOut}
use Rattle.pm_outside.specs.Outside.{Files, LibraryView, Rose, CountsOnly, Appends, AppendsPrefix}
use Rattle.pm_certread.specs.Certificate.{Certificate}
use Rattle.pm_certread.specs.Lines.{Line, status_line, level_line}
use Rattle.pm_args.specs.declared.job.Options.{Options}
use Rattle.pm_args.specs.Words.{Text}
use Rattle.pm_args.specs.Jobs.{Job, prove, check, code, clauses, sample, job_of}
use Rattle.pm_top.specs.declared.answer.Answer.{Answer}
use Rattle.pm_top.specs.declared.answer.Stop.{Stop}
use Rattle.pm_top.specs.declared.answer.Stop.TheVariants.{ReadFault, NoMemory}
use Rattle.pm_top.specs.declared.status.Status.{Status}
use Rattle.pm_top.specs.declared.status.Status.TheVariants as ends
use Rattle.pm_top.specs.Files.{Held, missing, over_limit, these_bytes, Given, given_by}
use Rattle.pm_top.specs.Output.{status_of, IsUnread, IsOffence, EndsOver, EndsCheck, EndsVerdict, EndsReading, EndsJob, EndsSample, EndsSearch, OutputOf, Output}
use Rattle.pm_top.specs.Run.{SinkView, NamesNoFile, AreFilesOf, HasWritten, HasGot, HasProblem, IsExhausted, IsRefutation, IsRun}
use Rattle.pm_top.specs.Inside.Says.{HasLine, Says, SaysOf}
use Rattle.pm_top.specs.Inside.Stops.{CountsStops, IsAnswered, answered}
use Rattle.pm_top.proofs.Answered.{IsDoneWith}
use Rattle.pm_top.proofs.Counted.{counts_so}
use Rattle.pm_top.proofs.Gained.{gained_line, prefix_gained, nothing_gained, nothing_appended}

-- ---- which statuses an output has, and with which text

-- the output has no fault, and nothing is written where a file is missing
abbrev IsOwn : Status → List ℕ → Type 0
IsOwn ends.Missing text = text ≡ []
IsOwn ends.ReadFault text = ⊥
IsOwn ends.WriteFault text = ⊥
IsOwn ends.NoMemory text = ⊥
IsOwn status text = ⊤

own_as : (status other : Status) (text : List ℕ) → status ≡ other → IsOwn other text → IsOwn status text
own_as status other text is h = subst (λ (s : Status). IsOwn s text) (sym is) h

own_unread : (place : ℕ) (held : Held) (status : Status) (text : List ℕ) → IsUnread place held status text → IsOwn status text
own_unread place missing status text h = own_as status ends.Missing text h.0 h.1
own_unread place over_limit status text h = own_as status ends.BadInput text h.0 tt
own_unread place (these_bytes bytes) status text h = absurd h

own_end : (end : DeepEnd) (status : Status) (text : List ℕ) → status ≡ status_of end → IsOwn status text
own_end (Proof level path work) status text is = own_as status ends.Done text is tt
own_end DepthReached status text is = own_as status ends.DepthReached text is tt
own_end (BudgetOut level) status text is = own_as status ends.Budget text is tt

own_verdict : (problem : Problem) (certificate : Certificate) (status : Status) (text : List ℕ) → EndsVerdict problem certificate status text → IsOwn status text
own_verdict problem certificate status text (inl refused) = own_as status ends.CertRefused text refused.3.0 tt
own_verdict problem certificate status text (inr accepted) = own_as status ends.Done text accepted.3 tt

own_reading : (problem : Problem) (bytes : List ℕ) (status : Status) (text : List ℕ) → EndsReading problem bytes status text → IsOwn status text
own_reading problem bytes status text (inl refused) = own_as status ends.CertRefused text refused.3.0 tt
own_reading problem bytes status text (inr read) = own_verdict problem read.0 status text read.2

own_check : (held : Held) (problem : Problem) (status : Status) (text : List ℕ) → EndsCheck held problem status text → IsOwn status text
own_check held problem status text (inl unread) = own_unread 2 held status text unread
own_check held problem status text (inr reading) = own_reading problem reading.0 status text reading.2

own_over : (held : Held) (ends_problem : Problem → Status → List ℕ → Type 0) (status : Status) (text : List ℕ)
    → ((problem : Problem) → ends_problem problem status text → IsOwn status text) → EndsOver held ends_problem status text → IsOwn status text
own_over held ends_problem status text own (inl unread) = own_unread 1 held status text unread
own_over held ends_problem status text own (inr (inl offence)) = own_as status ends.BadInput text offence.0 tt
own_over held ends_problem status text own (inr (inr problem)) = own problem.0 problem.2

own_output : (job : Option Job) (given : Given) (status : Status) (text : List ℕ) → OutputOf job given status text → IsOwn status text
own_output None given status text h = own_as status ends.BadWords text h.0 tt
own_output (Some (prove file options)) given status text h =
    own_over given.clauses (EndsSearch options) status text (λ problem end. own_end end.end status text end.status_is) h
own_output (Some (check file cert)) given status text h =
    own_over given.clauses (EndsCheck given.certificate) status text (λ problem end. own_check given.certificate problem status text end) h
own_output (Some (code file)) given status text h =
    own_over given.clauses (IsDoneWith (λ problem. listing_text problem.symbols problem.clauses)) status text (λ problem end. own_as status ends.Done text end.0 tt) h
own_output (Some (clauses file)) given status text h = own_over given.clauses (IsDoneWith problem_text) status text (λ problem end. own_as status ends.Done text end.0 tt) h
own_output (Some (sample n options)) given status text h = own_end h.outcome.end status text h.status_is

written_as : (job : Option Job) (given : Given) (old new : Option (List ℕ)) (status : Status) (text : List ℕ)
    → OutputOf job given status text → IsOwn status text → Appends old new text → HasWritten job given old new status
written_as job given old new ends.Done text output own put = (text, output, put)
written_as job given old new ends.DepthReached text output own put = (text, output, put)
written_as job given old new ends.Budget text output own put = (text, output, put)
written_as job given old new ends.BadInput text output own put = (text, output, put)
written_as job given old new ends.CertRefused text output own put = (text, output, put)
written_as job given old new ends.BadWords text output own put = (text, output, put)
written_as job given old new ends.Missing text output own put = (
  nothing_appended old new (subst (λ (t : List ℕ). Appends old new t) own put),
  subst (λ (t : List ℕ). OutputOf job given ends.Missing t) own output,
)
written_as job given old new ends.ReadFault text output own put = absurd own
written_as job given old new ends.WriteFault text output own put = absurd own
written_as job given old new ends.NoMemory text output own put = absurd own

-- ---- what the files hold where there is no answer

abbrev given_anyway : Option Job → Option Files → Given
given_anyway job (Some files) = given_by files job
given_anyway job None = given_by map.empty job

nameless : (job : Option Job) (files other : Files) → NamesNoFile job → given_by files job ≡ given_by other job
nameless None files other none = refl
nameless (Some (prove file options)) files other none = absurd none
nameless (Some (check file cert)) files other none = absurd none
nameless (Some (code file)) files other none = absurd none
nameless (Some (clauses file)) files other none = absurd none
nameless (Some (sample n options)) files other none = refl

anyway_so : (job : Option Job) (told : Option Files) (files : Files) → AreFilesOf job told files → given_anyway job told ≡ given_by files job
anyway_so job told files (inl is) = ap (λ (t : Option Files). given_anyway job t) is
anyway_so job (Some others) files (inr none) = nameless job others files none.0
anyway_so job None files (inr none) = nameless job map.empty files none.0

-- ---- the run
module _ (words : List Text) (before after : LibraryView) (old new : SinkView) where
  abbrev job : Option Job
  job = job_of words

  module _ (fault : Type 0) (counts : CountsStops before after None fault) (same : new ≡ old) where
    written_same : new.written ≡ old.written
    written_same = ap (λ (s : SinkView). s.written) same

    faults_same : new.faults ≡ old.faults
    faults_same = ap (λ (s : SinkView). s.faults) same

    fault_run : fault → IsRun words before after old new ends.ReadFault
    fault_run is = record {
      given = given_anyway job before.told;
      told = anyway_so job before.told;
      missing = λ e. absurd cc;
      read_fault = λ e. counts.failed is;
      write_fault = λ e. absurd cc;
      bad_input = λ e. absurd cc;
      misses = counts_so before.misses after.misses _ _ (λ h. absurd h) counts.misses;
      faults = counts_so before.faults after.faults _ _ (λ h. refl) counts.faults;
      longs = counts_so before.longs after.longs _ _ (λ h. absurd h) counts.longs;
      puts = (omega (arith, faults_same), inl faults_same);
      written = written_same;
      exhausted = λ file options level work named small small_work got. absurd (nothing_gained old.written new.written (level_line level work) written_same got);
      unsatisfiable = λ file options named got. absurd (nothing_gained old.written new.written status_line written_same got);
      complete = λ files done told named there cert_there none. absurd (none.library (counts.failed is));
      proves = λ file options level named solvable none. absurd (none.library (counts.failed is));
    }

    memory_run : ¬ fault → IsRun words before after old new ends.NoMemory
    memory_run goes = record {
      given = given_anyway job before.told;
      told = anyway_so job before.told;
      missing = λ e. absurd cc;
      read_fault = λ e. absurd cc;
      write_fault = λ e. absurd cc;
      bad_input = λ e. absurd cc;
      misses = counts_so before.misses after.misses _ _ (λ h. absurd h) counts.misses;
      faults = counts_so before.faults after.faults _ _ (λ h. absurd (goes h)) counts.faults;
      longs = counts_so before.longs after.longs _ _ (λ h. absurd h) counts.longs;
      puts = (omega (arith, faults_same), inl faults_same);
      written = written_same;
      exhausted = λ file options level work named small small_work got. absurd (nothing_gained old.written new.written (level_line level work) written_same got);
      unsatisfiable = λ file options named got. absurd (nothing_gained old.written new.written status_line written_same got);
      complete = λ files done told named there cert_there none. inl refl;
      proves = λ file options level named solvable none. inl refl;
    }

  module _ (answer : Answer) (fault : Type 0) (goes : ¬ fault) (counts : CountsStops before after (Some answer) fault)
      (answered : IsAnswered job before.told (before.longs, after.longs) answer) where
    -- what a proof search says
    says_for : (file : Text) (options : Options) → job ≡ Some (prove file options) → Says (HasProblem answered.given.clauses) options answer.status answer.text.items
    says_for file options named = subst (λ (j : Option Job). SaysOf j answered.given answer.status answer.text.items) named answered.says

    done_output : answer.status ≡ ends.Done → OutputOf job answered.given ends.Done answer.text.items
    done_output done = subst (λ (s : Status). OutputOf job answered.given s answer.text.items) done answered.output

    module _ (got : (line : Line) → HasGot old.written new.written line → HasLine answer.text.items line) where
      exhausted_got : (file : Text) (options : Options) (level work : ℕ) → job ≡ Some (prove file options) → level < 2 ^ 64 → work < 2 ^ 64
          → HasGot old.written new.written (level_line level work) → HasProblem answered.given.clauses (λ problem. IsExhausted problem options level work)
      exhausted_got file options level work named small small_work h = (says_for file options named).exhausted level work small small_work (got (level_line level work) h)

      refuted_got : (file : Text) (options : Options) → job ≡ Some (prove file options) → HasGot old.written new.written status_line
          → (level : ℕ) × (text : List ℕ) × IsRefutation job answered.given options level text
      refuted_got file options named h =
          let done = (says_for file options named).refuted (got status_line h) in
          let refuted = (says_for file options named).done done in
          (refuted.0, answer.text.items, (done_output done, refuted.1))

    written_run : Appends old.written new.written answer.text.items → new.faults ≡ old.faults → IsRun words before after old new answer.status
    written_run put unfailed =
        let own = own_output job answered.given answer.status answer.text.items answered.output in
        let got : (line : Line) → HasGot old.written new.written line → HasLine answer.text.items line = λ line. gained_line old.written new.written answer.text.items line put in
        record {
          given = answered.given;
          told = answered.told_so;
          missing = counts.missing;
          read_fault = λ e. absurd (subst (λ (s : Status). IsOwn s answer.text.items) e own);
          write_fault = λ e. absurd (subst (λ (s : Status). IsOwn s answer.text.items) e own);
          bad_input = answered.cause;
          misses = counts.misses;
          faults = counts_so before.faults after.faults _ _ (λ h. absurd (goes h)) counts.faults;
          longs = counts_so before.longs after.longs _ _ (λ h. inl h) counts.longs;
          puts = (omega (arith, unfailed), inl unfailed);
          written = written_as job answered.given old.written new.written answer.status answer.text.items answered.output own put;
          exhausted = exhausted_got got;
          unsatisfiable = refuted_got got;
          complete = λ files done told named there cert_there none.
              inr (answer.text.items, subst (λ (given : Given). OutputOf job given answer.status answer.text.items) (answered.told_so files (inl told)) answered.output, put);
          proves = λ file options level named solvable none. (
              let proved = (says_for file options named).solvable level solvable in
              inr (proved.0, (answer.text.items, (done_output proved.0, proved.1))));
        }

    broken_run : AppendsPrefix old.written new.written answer.text.items → 0 < length answer.text.items → Rose old.faults new.faults → old.faults ≤ new.faults
        → IsRun words before after old new ends.WriteFault
    broken_run put some rose low =
        let got : (line : Line) → HasGot old.written new.written line → HasLine answer.text.items line = λ line. prefix_gained old.written new.written answer.text.items line put in
        let own = own_output job answered.given answer.status answer.text.items answered.output in
        record {
          given = answered.given;
          told = answered.told_so;
          missing = λ e. absurd cc;
          read_fault = λ e. absurd cc;
          write_fault = λ e. rose;
          bad_input = λ e. absurd cc;
          misses = counts_so before.misses after.misses _ _
              (λ is. absurd (let none : answer.text.items ≡ [] = subst (λ (s : Status). IsOwn s answer.text.items) is own in omega (arith, some, ap (λ (t : List ℕ). length t) none))) counts.misses;
          faults = counts_so before.faults after.faults _ _ (λ h. absurd (goes h)) counts.faults;
          longs = counts_so before.longs after.longs _ _ (λ h. inr refl) counts.longs;
          puts = (low, inr refl);
          written = (answer.status, answer.text.items, answered.output, put);
          exhausted = exhausted_got got;
          unsatisfiable = refuted_got got;
          complete = λ files done told named there cert_there none. absurd (none.sink rose);
          proves = λ file options level named solvable none. absurd (none.sink rose);
        }

  -- ---- from what the words are answered with
  module _ (result : Result Answer Stop) (counts : CountsStops before after (answered result) (IsErrOf result ReadFault)) where
    module _ (same : new ≡ old) where
      pub ran_fault : result ≡ Err ReadFault → IsRun words before after old new ends.ReadFault
      ran_fault is = fault_run (IsErrOf result ReadFault) (subst (λ (o : Option Answer). CountsStops before after o (IsErrOf result ReadFault)) (ap answered is) counts) same is

      pub ran_out : result ≡ Err NoMemory → IsRun words before after old new ends.NoMemory
      ran_out is = memory_run (IsErrOf result ReadFault) (subst (λ (o : Option Answer). CountsStops before after o (IsErrOf result ReadFault)) (ap answered is) counts) same
          (λ fault. (let both : Err NoMemory ≡ Err ReadFault = sym is ∙ fault in cc))

    module _ (answer : Answer) (is : answered result ≡ Some answer) (meets : IfSome (answered result) (IsAnswered job before.told (before.longs, after.longs))) where
      no_fault : ¬ IsErrOf result ReadFault
      no_fault fault = (let both : Some answer ≡ None = sym is ∙ ap answered fault in cc)

      answer_counts : CountsStops before after (Some answer) (IsErrOf result ReadFault)
      answer_counts = subst (λ (o : Option Answer). CountsStops before after o (IsErrOf result ReadFault)) is counts

      answer_meets : IsAnswered job before.told (before.longs, after.longs) answer
      answer_meets = subst (λ (o : Option Answer). IfSome o (IsAnswered job before.told (before.longs, after.longs))) is meets

      pub ran_put : (put : List ℕ) → put ≡ answer.text.items → Appends old.written new.written put → new.faults ≡ old.faults → IsRun words before after old new answer.status
      ran_put put same put_all unfailed =
          written_run answer (IsErrOf result ReadFault) no_fault answer_counts answer_meets (subst (λ (t : List ℕ). Appends old.written new.written t) same put_all) unfailed

      pub ran_broken : (put : List ℕ) → put ≡ answer.text.items → AppendsPrefix old.written new.written put → 0 < length put → Rose old.faults new.faults → old.faults ≤ new.faults
          → IsRun words before after old new ends.WriteFault
      ran_broken put same part some rose low =
          broken_run answer (IsErrOf result ReadFault) no_fault answer_counts answer_meets
          (subst (λ (t : List ℕ). AppendsPrefix old.written new.written t) same part) (subst (λ (t : List ℕ). 0 < length t) same some) rose low
