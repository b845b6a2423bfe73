use Rattle.pm_certread.proofs.TermLemmas.{adds_variable}
use Rattle.pm_certread.proofs.terms.TermRows.add_variable.Goals as goal

pub returns-clause-added : goal.returns-clause-added
returns-clause-added c =
    adds_variable c.args.self.now.table c.add_var.new.self c.args.self.now.rows.items c.push.new.self.items c.in_ok-last.last
    c.requires c.in_ok-last.ensures.row c.in_ok-last.ensures.added c.in_ok-push.ensures.items
