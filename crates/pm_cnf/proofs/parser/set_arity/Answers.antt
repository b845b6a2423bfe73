use Rattle.pm_cnf.proofs.parsed.Arities.{arity_set, arity_beyond}
use Rattle.pm_cnf.proofs.parser.set_arity.Goals as goal

pub returns-in-Some : goal.returns-in-Some
returns-in-Some c = arity_set c.args.place c.args.arguments c.args.nodes.now.items c.in-Some.node.now c.set_arity.new.self c.in-Some.ensures.item.3.0 c.in-Some.ensures.item.3.1 c.set_arity.ensures

pub returns-in_default : goal.returns-in_default
returns-in_default c = arity_beyond c.args.place c.args.arguments c.args.nodes.now.items c.in_default.ensures.item.3
