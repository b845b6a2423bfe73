use Rattle.pm_cert.proofs.LineLemmas.{place_row}
use Rattle.pm_cert.proofs.lines.place_of.Goals as goal

pub returns : goal.returns
returns c = place_row c.args.row c.in-Some.place c.args.list.now.keys c.in-Some.ensures.index
