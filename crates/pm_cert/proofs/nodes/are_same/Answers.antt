use Rattle.pm_cert.proofs.RowLemmas.{same_told}
use Rattle.pm_cert.proofs.nodes.are_same.Goals as goal

pub returns : goal.returns
returns c = same_told c.args.rows.now c.args.others.now c.eq.result c.eq.ensures
