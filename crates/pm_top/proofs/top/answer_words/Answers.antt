use Rattle.std.proofs.Common.{ℕ, map, string_bytes}
use Rattle.pm_args.specs.Jobs.{job_of}
use Rattle.pm_args.specs.JobViews.{job_view}
use Rattle.pm_top.proofs.Answered.{refused_answered}
use Rattle.pm_top.proofs.Limits.{job_within}
use Rattle.pm_top.proofs.top.answer_words.Goals as goal

pub do_job-requires : goal.do_job-requires
do_job-requires g c = job_within (map string_bytes c.args.words.now) (job_view c.in-Ok.job) c.in-Ok.ensures

pub returns-in-Err-BadWords-clause-answer : goal.returns-in-Err-BadWords-clause-answer
returns-in-Err-BadWords-clause-answer g c =
    let longs : ℕ × ℕ = (g.L.Library.longs c.args.library.now, g.L.Library.longs c.args.library.now) in
    refused_answered (job_of (map string_bytes c.args.words.now)) (g.L.Library.told c.args.library.now) longs c.refuse_words.result
    (c.in-Err-BadWords.ensures c.in-Err-BadWords.field-0-is) c.refuse_words.ensures.answer c.refuse_words.ensures.stop
