use Rattle.std.proofs.Common.{◌≡◌, ◌∙◌, ap, map, string_bytes, Option}
use Rattle.std.specs.Prelude.{option_and_then}
use Rattle.std.proofs.lemmas.Result.{MatchResult-weaker}
use Rattle.pm_args.specs.Jobs.{job_among, job_of}
use Rattle.pm_args.specs.Words.{Reading}
use Rattle.pm_args.proofs.job.read_job.Goals as goal

pub returns : goal.returns
returns c =
    let read = c.in_ok-matches.ensures in
    let same : job_of (map string_bytes c.args.words.now) ≡ job_among read.0 read.0.plain = ap (λ (r : Option Reading). option_and_then (λ r. job_among r r.plain) r) read.1 in
    MatchResult-weaker c.job_among.result (c.job_among.ensures read.0 read.2) (λ job e. same ∙ e) (λ fault e bad. same ∙ e bad)
