use Rattle.std.proofs.Common.{rules, ◌≡◌, ◌∙◌}
use Rattle.std.proofs.lemmas.Result.{MatchResult-weaker}
use Rattle.pm_args.specs.Jobs.{job_of_one, sample_job}
use Rattle.pm_args.proofs.job.job_of_one.Goals as goal

pub returns-in-sample : goal.returns-in-sample
returns-in-sample c r has =
    let same : job_of_one r c.args.job.now c.args.argument.now ≡ sample_job r c.args.argument.now = search rules in
    MatchResult-weaker c.sample_job.result (c.sample_job.ensures r has) (λ job e. same ∙ e) (λ fault e _. same ∙ e)
