use Rattle.pm_report.proofs.LineLemmas.{gave_up_says, resource_out_says}
use Rattle.pm_report.proofs.lines.texts_say_works.Goals as goal

pub returns : goal.returns
returns c works good = (gave_up_says works good, resource_out_says works good)
