use Rattle.pm_cert.proofs.ListingLemmas.{finished-add}
use Rattle.pm_cert.proofs.list.add.Goals as goal

pub returns : goal.returns
returns c terms finished lt are follow = finished-add terms finished c.args.row c.args.list.now.keys lt are c.insert.new.self.keys follow c.in_ok-insert.ensures.keys
