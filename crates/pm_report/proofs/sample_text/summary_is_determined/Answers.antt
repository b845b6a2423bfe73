use Rattle.pm_report.proofs.SummaryLemmas.{summary_determined}
use Rattle.pm_report.proofs.sample_text.summary_is_determined.Goals as goal

pub returns : goal.returns
returns c = summary_determined
