-- The words and the files determine the output of a run.
use Rattle.std.proofs.Common.{◌≡◌, ℕ, ◌+◌, inl, inr, List, [], length, Option, Some, None, refl, sym, ◌∙◌, ap, ap₂, subst, arith}
use Rattle.std.specs.Prelude.{sum}
use Rattle.std.specs.Option.{option_map}
use Rattle.std.proofs.lemmas.Option.{same_Some}
use Rattle.pm_logic.specs.Lists.{AreDistinct}
use Rattle.pm_logic.specs.Problem.{Problem}
use Rattle.pm_logic.specs.Tableau.{Tableau, TableauWithTerms}
use Rattle.pm_logic.specs.Term.{Term}
use Rattle.pm_logic.proofs.Gathering.{Gathers-distinct}
use Rattle.pm_calculus.proofs.Least.{least_unique}
use Rattle.pm_scan.specs.Lexemes.{line_of, column_of}
use Rattle.pm_cnf.specs.Refusals.{before}
use Rattle.pm_cnf.proofs.meaning.Determined.{problem_is_determined, offence_is_determined}
use Rattle.pm_outside.specs.Outside.{Files}
use Rattle.pm_write.specs.Text.{problem_text}
use Rattle.pm_compile.specs.Listing.{listing_text}
use Rattle.pm_deepen.proofs.Determined.{answer_determined}
use Rattle.pm_deepen.specs.declared.DeepEnd.{DeepEnd}
use Rattle.pm_deepen.specs.declared.DeepEnd.TheVariants.{Proof, DepthReached, BudgetOut}
use Rattle.pm_certread.specs.Certificate.{Certificate}
use Rattle.pm_certread.specs.Kinds.{kind_word}
use Rattle.pm_certread.specs.Reading.{Outcome, accepted, refused, Reads}
use Rattle.pm_certread.proofs.DeterminedLemmas.{determined_reading}
use Rattle.pm_cert.proofs.DeterminedLemmas.{determined_document}
use Rattle.pm_check.specs.Kinds.{refusal_word}
use Rattle.pm_check.specs.Verdicts.{certified_level}
use Rattle.pm_check.proofs.VerdictLemmas.{determined as determined_verdict}
use Rattle.pm_report.specs.Sample.{sample_problem}
use Rattle.pm_report.specs.Summary.{AreTermsIn, IsEndLine, IsSummary, attempts, last_attempts, proof_line}
use Rattle.pm_report.specs.Text.{Line, text_of, refused_lines, input_error_lines}
use Rattle.pm_report.proofs.SummaryLemmas.{summary_determined}
use Rattle.pm_args.specs.declared.job.Options.{Options}
use Rattle.pm_args.specs.Jobs.{Job, prove, check, code, clauses, sample, job_of}
use Rattle.pm_top.specs.declared.status.Status.{Status}
use Rattle.pm_top.specs.declared.status.Status.TheVariants as ends
use Rattle.pm_top.specs.Files.{Held, missing, over_limit, these_bytes, Given, given_by}
use Rattle.pm_top.specs.Output.{standard_limits, searched_with, status_of, report, IsTextOf, EndsSearch, EndsSample, IsRefusedAt, verdict_lines, IsAcceptedWith, EndsVerdict, EndsReading, IsUnread, IsProblemOf, IsOffence, EndsOver, EndsCheck, EndsJob, OutputOf, OutputIsDetermined}

-- two ends are one
abbrev AreOne : Status → Status → List ℕ → List ℕ → Type 0
AreOne status other text second = (status ≡ other) × (text ≡ second)

-- ---- searches

text_once : (problem : Problem) (options : Options) (works : List ℕ) (end : DeepEnd) (tableau : Option Tableau) (text second : List ℕ)
    → IsTextOf problem options works end tableau text → IsTextOf problem options works end tableau second → text ≡ second
text_once problem options works (Proof level path work) (Some t) text second a b = determined_document problem.symbols (report options works work) t text second a b
text_once problem options works (Proof level path work) None text second a b = absurd a
text_once problem options works DepthReached tableau text second a b = a ∙ sym b
text_once problem options works (BudgetOut level) tableau text second a b = a ∙ sym b

search_once : (options : Options) (problem : Problem) (status other : Status) (text second : List ℕ) → EndsSearch options problem status text → EndsSearch options problem other second
    → AreOne status other text second
search_once options problem status other text second a b =
    let same = answer_determined problem (searched_with options) a.works b.works a.end b.end a.tableau b.tableau a.answer b.answer in
    let moved = subst (λ ws. IsTextOf problem options ws b.end b.tableau text) same.0 (subst (λ e. IsTextOf problem options a.works e b.tableau text) same.1
    (subst (λ t. IsTextOf problem options a.works a.end t text) same.2 a.text_is)) in
    (a.status_is ∙ ap status_of same.1 ∙ sym b.status_is, text_once problem options b.works b.end b.tableau text second moved b.text_is)

abbrev tree_of : Option TableauWithTerms → Option Tableau
tree_of drawn = option_map (λ d. d.tableau) drawn

-- a line for an end looks at the tableau without its terms
moved_line : (end : DeepEnd) (total : ℕ) (t u : Option TableauWithTerms) (line : Line) → tree_of t ≡ tree_of u → IsEndLine end total t line → IsEndLine end total u line
moved_line (Proof level path work) total (Some t) (Some u) line e h =
    subst (λ (tree : Tableau). (terms : List Term) × AreTermsIn tree terms × (line ≡ proof_line tree terms total)) (same_Some t.tableau u.tableau e) h
moved_line (Proof level path work) total (Some t) None line e h = absurd cc
moved_line (Proof level path work) total None u line e h = absurd h
moved_line DepthReached total t u line e h = h
moved_line (BudgetOut level) total t u line e h = h

sample_once : (n : ℕ) (options : Options) (status other : Status) (text second : List ℕ) → EndsSample n options status text → EndsSample n options other second
    → AreOne status other text second
sample_once n options status other text second a b =
    let same = answer_determined (sample_problem n) (searched_with options) a.outcome.works.items b.outcome.works.items a.outcome.end b.outcome.end (tree_of a.tableau) (tree_of b.tableau) a.answer b.answer in
    let total : attempts a.outcome ≡ attempts b.outcome = ap₂ (λ (ws : List ℕ) (e : DeepEnd). sum ws + last_attempts e) same.0 same.1 in
    let line = a.text_is.0 in
    let here = subst (λ (k : ℕ). IsEndLine b.outcome.end k a.tableau line) total (subst (λ (e : DeepEnd). IsEndLine e (attempts a.outcome) a.tableau line) same.1 a.text_is.1) in
    let moved : IsSummary n (length (sample_problem n).clauses) b.outcome b.tableau text = (line, moved_line b.outcome.end (attempts b.outcome) a.tableau b.tableau line same.2 here, a.text_is.2) in (
      a.status_is ∙ ap status_of same.1 ∙ sym b.status_is,
      summary_determined n (length (sample_problem n).clauses) b.outcome b.tableau text second moved b.text_is,
    )

-- ---- checks

refused_once : (line other : ℕ) (kind word : List ℕ) (status another : Status) (text second : List ℕ) → line ≡ other → kind ≡ word
    → IsRefusedAt line kind status text → IsRefusedAt other word another second → AreOne status another text second
refused_once line other kind word status another text second same same_kind a b =
    (a.0 ∙ sym b.0, a.1 ∙ ap₂ (λ (l : ℕ) (k : List ℕ). text_of (refused_lines l k)) same same_kind ∙ sym b.1)

verdict_once : (problem : Problem) (certificate : Certificate) (status other : Status) (text second : List ℕ) → EndsVerdict problem certificate status text → EndsVerdict problem certificate other second
    → AreOne status other text second
verdict_once problem certificate status other text second (inl a) (inl b) =
    let same = determined_verdict.one_refusal problem certificate a.0 b.0 a.1 b.1 a.2 b.2 in
    refused_once a.0 b.0 (refusal_word a.1) (refusal_word b.1) status other text second same.0 (ap refusal_word same.1) a.3 b.3
verdict_once problem certificate status other text second (inl a) (inr b) = absurd (determined_verdict.one_verdict problem certificate b.0 a.0 a.1 b.2.accepted a.2)
verdict_once problem certificate status other text second (inr a) (inl b) = absurd (determined_verdict.one_verdict problem certificate a.0 b.0 b.1 a.2.accepted b.2)
verdict_once problem certificate status other text second (inr a) (inr b) =
    let same : a.0 ≡ b.0 = sym a.2.accepted.its_size ∙ b.2.accepted.its_size in
    let list = subst (λ (n : ℕ). IsAcceptedWith problem certificate n a.1) same a.2 in
    let choices = least_unique (certified_level problem certificate b.0) certificate.tableau.tableau a.1 b.1 list.least b.2.least in
    (a.3 ∙ sym b.3, a.4 ∙ ap₂ (λ (n : ℕ) (ks : List ℕ). text_of (verdict_lines certificate.bound n ks)) same choices ∙ sym b.4)

same_certificate : (a b : Certificate) → accepted a ≡ accepted b → a ≡ b
same_certificate a b e = cc

reading_once : (problem : Problem) (bytes : List ℕ) (status other : Status) (text second : List ℕ) → AreDistinct problem.symbols → EndsReading problem bytes status text → EndsReading problem bytes other second
    → AreOne status other text second
reading_once problem bytes status other text second distinct (inl a) (inl b) =
    let same : refused a.0 a.1 ≡ refused b.0 b.1 = determined_reading problem bytes (refused a.0 a.1) (refused b.0 b.1) distinct a.2 b.2 in
    let line : a.0 ≡ b.0 = cc in
    let kind : a.1 ≡ b.1 = cc in
    refused_once a.0 b.0 (kind_word a.1) (kind_word b.1) status other text second line (ap kind_word kind) a.3 b.3
reading_once problem bytes status other text second distinct (inl a) (inr b) =
    let same : refused a.0 a.1 ≡ accepted b.0 = determined_reading problem bytes (refused a.0 a.1) (accepted b.0) distinct a.2 b.1 in
    absurd cc
reading_once problem bytes status other text second distinct (inr a) (inl b) =
    let same : accepted a.0 ≡ refused b.0 b.1 = determined_reading problem bytes (accepted a.0) (refused b.0 b.1) distinct a.1 b.2 in
    absurd cc
reading_once problem bytes status other text second distinct (inr a) (inr b) =
    let same : a.0 ≡ b.0 = same_certificate a.0 b.0 (determined_reading problem bytes (accepted a.0) (accepted b.0) distinct a.1 b.1) in
    verdict_once problem b.0 status other text second (subst (λ (c : Certificate). EndsVerdict problem c status text) same a.2) b.2

-- ---- files

unread_once : (place : ℕ) (held : Held) (status other : Status) (text second : List ℕ) → IsUnread place held status text → IsUnread place held other second → AreOne status other text second
unread_once place missing status other text second a b = (a.0 ∙ sym b.0, a.1 ∙ sym b.1)
unread_once place over_limit status other text second a b = (a.0 ∙ sym b.0, a.1 ∙ sym b.1)
unread_once place (these_bytes bytes) status other text second a b = absurd a

not_unread : (place : ℕ) (held : Held) (bytes : List ℕ) (status : Status) (text : List ℕ) → held ≡ these_bytes bytes → IsUnread place held status text → ⊥
not_unread place held bytes status text is h = subst (λ (x : Held). IsUnread place x status text) is h

offence_once : (held : Held) (text second : List ℕ) → IsOffence held text → IsOffence held second → text ≡ second
offence_once missing text second a b = absurd a
offence_once over_limit text second a b = absurd a
offence_once (these_bytes bytes) text second a b =
    let same = offence_is_determined standard_limits bytes a.0 b.0 a.1 b.1 a.2 b.2 in
    a.3 ∙ ap₂ (λ rest kind. text_of (input_error_lines (line_of (before bytes rest)) (column_of (before bytes rest)) kind)) same.0 same.1 ∙ sym b.3

-- a file with a problem is there and has no offence
pub problem_read : (place : ℕ) (held : Held) (problem : Problem) (status : Status) (text : List ℕ) → IsProblemOf held problem → IsUnread place held status text → ⊥
problem_read place missing problem status text h unread = absurd h
problem_read place over_limit problem status text h unread = absurd h
problem_read place (these_bytes bytes) problem status text h unread = absurd unread

pub problem_sound : (held : Held) (problem : Problem) (text : List ℕ) → IsProblemOf held problem → IsOffence held text → ⊥
problem_sound missing problem text h offence = absurd h
problem_sound over_limit problem text h offence = absurd h
problem_sound (these_bytes bytes) problem text h offence = h.text.sound offence.0 offence.1 offence.2.is

pub problem_once : (held : Held) (p q : Problem) → IsProblemOf held p → IsProblemOf held q → p ≡ q
problem_once missing p q a b = absurd a
problem_once over_limit p q a b = absurd a
problem_once (these_bytes bytes) p q a b = problem_is_determined standard_limits bytes p q a b

problem_distinct : (held : Held) (problem : Problem) → IsProblemOf held problem → AreDistinct problem.symbols
problem_distinct missing problem h = absurd h
problem_distinct over_limit problem h = absurd h
problem_distinct (these_bytes bytes) problem h = Gathers-distinct _ [] problem.symbols (λ i j i_in. omega (arith, i_in)) h.means.symbols

unread_sound : (place : ℕ) (held : Held) (status : Status) (text other : List ℕ) → IsUnread place held status text → IsOffence held other → ⊥
unread_sound place missing status text other unread offence = absurd offence
unread_sound place over_limit status text other unread offence = absurd offence
unread_sound place (these_bytes bytes) status text other unread offence = absurd unread

over_once : (held : Held) (ends_so : Problem → Status → List ℕ → Type 0) (status other : Status) (text second : List ℕ)
    → ((problem : Problem) → IsProblemOf held problem → ends_so problem status text → ends_so problem other second → AreOne status other text second)
    → EndsOver held ends_so status text → EndsOver held ends_so other second → AreOne status other text second
over_once held ends_so status other text second once (inl a) (inl b) = unread_once 1 held status other text second a b
over_once held ends_so status other text second once (inl a) (inr (inl b)) = absurd (unread_sound 1 held status text second a b.1)
over_once held ends_so status other text second once (inl a) (inr (inr b)) = absurd (problem_read 1 held b.0 status text b.1 a)
over_once held ends_so status other text second once (inr (inl a)) (inl b) = absurd (unread_sound 1 held other second text b a.1)
over_once held ends_so status other text second once (inr (inl a)) (inr (inl b)) = (a.0 ∙ sym b.0, offence_once held text second a.1 b.1)
over_once held ends_so status other text second once (inr (inl a)) (inr (inr b)) = absurd (problem_sound held b.0 text b.1 a.1)
over_once held ends_so status other text second once (inr (inr a)) (inl b) = absurd (problem_read 1 held a.0 other second a.1 b)
over_once held ends_so status other text second once (inr (inr a)) (inr (inl b)) = absurd (problem_sound held a.0 second a.1 b.1)
over_once held ends_so status other text second once (inr (inr a)) (inr (inr b)) =
    once b.0 b.1 (subst (λ (p : Problem). ends_so p status text) (problem_once held a.0 b.0 a.1 b.1) a.2) b.2

check_once : (held : Held) (problem : Problem) (status other : Status) (text second : List ℕ) → AreDistinct problem.symbols → EndsCheck held problem status text → EndsCheck held problem other second
    → AreOne status other text second
check_once held problem status other text second distinct (inl a) (inl b) = unread_once 2 held status other text second a b
check_once held problem status other text second distinct (inl a) (inr b) = absurd (not_unread 2 held b.0 status text b.1 a)
check_once held problem status other text second distinct (inr a) (inl b) = absurd (not_unread 2 held a.0 other second a.1 b)
check_once held problem status other text second distinct (inr a) (inr b) =
    let both : these_bytes a.0 ≡ these_bytes b.0 = sym a.1 ∙ b.1 in
    let same : a.0 ≡ b.0 = cc in
    reading_once problem b.0 status other text second distinct (subst (λ (bs : List ℕ). EndsReading problem bs status text) same a.2) b.2

done_once : (whole : List ℕ) (status other : Status) (text second : List ℕ) → (status ≡ ends.Done) × (text ≡ whole) → (other ≡ ends.Done) × (second ≡ whole) → AreOne status other text second
done_once whole status other text second a b = (a.0 ∙ sym b.0, a.1 ∙ sym b.1)

-- ---- jobs

job_once : (job : Job) (given : Given) (status other : Status) (text second : List ℕ) → EndsJob job given status text → EndsJob job given other second → AreOne status other text second
job_once (prove file options) given status other text second a b =
    over_once given.clauses (EndsSearch options) status other text second (λ problem is h k. search_once options problem status other text second h k) a b
job_once (check file cert) given status other text second a b =
    over_once given.clauses (EndsCheck given.certificate) status other text second
    (λ problem is h k. check_once given.certificate problem status other text second (problem_distinct given.clauses problem is) h k) a b
job_once (code file) given status other text second a b =
    over_once given.clauses (λ problem status text. (status ≡ ends.Done) × (text ≡ listing_text problem.symbols problem.clauses)) status other text second
    (λ problem is h k. done_once (listing_text problem.symbols problem.clauses) status other text second h k) a b
job_once (clauses file) given status other text second a b =
    over_once given.clauses (λ problem status text. (status ≡ ends.Done) × (text ≡ problem_text problem)) status other text second
    (λ problem is h k. done_once (problem_text problem) status other text second h k) a b
job_once (sample n options) given status other text second a b = sample_once n options status other text second a b

pub output_once : (job : Option Job) (given : Given) (status other : Status) (text second : List ℕ) → OutputOf job given status text → OutputOf job given other second
    → (status ≡ other) × (text ≡ second)
output_once None given status other text second a b = (a.0 ∙ sym b.0, a.1 ∙ sym b.1)
output_once (Some job) given status other text second a b = job_once job given status other text second a b

pub output_determined : OutputIsDetermined
output_determined words files status other text second a b = output_once (job_of words) (given_by files (job_of words)) status other text second a b
