-- What the code's jobs stand for.
use Rattle.std.specs.Prelude.{string_bytes}
use Rattle.pm_args.specs.declared.job.Job as code
use Rattle.pm_args.specs.declared.job.Job.TheVariants as jobs
use Rattle.pm_args.specs.Jobs as spec

abbrev pub job_view : code.Job → spec.Job
job_view (jobs.Prove file options) = spec.prove (string_bytes file) options
job_view (jobs.Check file cert) = spec.check (string_bytes file) (string_bytes cert)
job_view (jobs.Code file) = spec.code (string_bytes file)
job_view (jobs.Clauses file) = spec.clauses (string_bytes file)
job_view (jobs.Sample n options) = spec.sample n options
