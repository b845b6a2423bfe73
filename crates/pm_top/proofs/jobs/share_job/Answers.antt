use Rattle.std.proofs.Common.{ℕ, Some, refl, sym, subst, string_bytes}
use Rattle.std.specs.Prelude.{IfSome}
use Rattle.std.proofs.lemmas.Result.{err_from_is_err_and}
use Rattle.pm_outside.specs.Outside.{library_view}
use Rattle.pm_args.specs.declared.job.Job.{Job as CodeJob}
use Rattle.pm_args.specs.Jobs.{prove, check, code, clauses, sample}
use Rattle.pm_args.specs.JobViews.{job_view}
use Rattle.pm_args.specs.Words.{Text}
use Rattle.pm_top.specs.declared.files.TheConstants.{MAX_FILE_BYTES}
use Rattle.pm_top.specs.Inside.Stops.{HoldsSo, IsAnswered, answered, answer_in}
use Rattle.pm_top.proofs.Answered.{stops_answered, search_status, prove_answered, checks_answered, code_answered, clauses_answered, sample_answered}
use Rattle.pm_top.proofs.Counted.{counted_then, counted_not, long_later, never_err}
use Rattle.pm_top.proofs.jobs.share_job.Goals as goal

pub returns-in_err-problem-in-Prove-clause-answer : goal.returns-in_err-problem-in-Prove-clause-answer
returns-in_err-problem-in-Prove-clause-answer g c =
    let p = err_from_is_err_and c.from_residual.result c.from_residual.ensures.1 in
    let told = g.L.Library.told c.args.library.now in
    let longs : ℕ × ℕ = (g.L.Library.longs c.args.library.now, g.L.Library.longs c.read_clauses.new.library) in
    subst (λ (j : CodeJob). IfSome (answered c.from_residual.result) (IsAnswered (Some (job_view j)) told longs)) (sym c.in-Prove.is)
    (rw (p.1, p.2) (stops_answered (prove (string_bytes c.in-Prove.file) c.in-Prove.options) told (string_bytes c.in-Prove.file) c.as_str.result.now refl c.as_str.ensures.value longs
    (answer_in c.in_err-problem-in-Prove.field-0.0) c.in_err-problem-in-Prove.ensures.stopped))

pub returns-in_ok-prove_shared-in-Prove-clause-answer : goal.returns-in_ok-prove_shared-in-Prove-clause-answer
returns-in_ok-prove_shared-in-Prove-clause-answer g c =
    let told = g.L.Library.told c.args.library.now in
    let longs : ℕ × ℕ = (g.L.Library.longs c.args.library.now, g.L.Library.longs c.read_clauses.new.library) in
    let answer = c.in_ok-prove_shared-in-Prove.field-0 in
    let found = c.in_ok-problem-in-Prove.ensures.problem in
    let holds = subst (λ (name : Text). HoldsSo told MAX_FILE_BYTES name found.0) c.as_str.ensures.value found.1 in
    subst (λ (j : CodeJob). IsAnswered (Some (job_view j)) told longs answer) (sym c.in-Prove.is)
    (prove_answered told (string_bytes c.in-Prove.file) found.0 holds c.in_ok-problem-in-Prove.problem found.2 longs c.in-Prove.options answer c.in_ok-prove_shared-in-Prove.ensures)

pub returns-in_ok-prove_shared-in-Prove-clause-counts : goal.returns-in_ok-prove_shared-in-Prove-clause-counts
returns-in_ok-prove_shared-in-Prove-clause-counts g c =
    let view = library_view g.L.Library.faults g.L.Library.misses g.L.Library.longs g.L.Library.told in
    let answer = c.in_ok-prove_shared-in-Prove.field-0 in
    let ends = c.in_ok-prove_shared-in-Prove.ensures.ends in
    counted_then (view c.args.library.now) (view c.read_clauses.new.library) (view c.read_clauses.new.library) (Some answer) _ _ (never_err _ _) c.in_ok-problem-in-Prove.ensures.counts
    (counted_not (view c.read_clauses.new.library) (Some answer) _ ((search_status ends.end answer.status ends.status_is).1) (never_err _ _))

pub returns-in_ok-prove_sample_shared-in-Sample-clause-answer : goal.returns-in_ok-prove_sample_shared-in-Sample-clause-answer
returns-in_ok-prove_sample_shared-in-Sample-clause-answer g c =
    let told = g.L.Library.told c.args.library.now in
    let longs : ℕ × ℕ = (g.L.Library.longs c.args.library.now, g.L.Library.longs c.args.library.now) in
    let answer = c.in_ok-prove_sample_shared-in-Sample.field-0 in
    subst (λ (j : CodeJob). IsAnswered (Some (job_view j)) told longs answer) (sym c.in-Sample.is)
    (sample_answered told longs c.in-Sample.n c.in-Sample.options answer c.in_ok-prove_sample_shared-in-Sample.ensures)
