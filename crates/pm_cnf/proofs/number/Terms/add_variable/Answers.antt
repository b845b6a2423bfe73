use Rattle.std.proofs.Common.{arith, rules}
use Rattle.pm_cnf.proofs.parts.VariableRows.{gathers_known, gathers_next, counts_next, AreVariables-next}
use Rattle.pm_cnf.proofs.number.Terms.add_variable.Goals as goal

pub returns-then-number-len-clause-gathers : goal.returns-then-number-len-clause-gathers
returns-then-number-len-clause-gathers c =
    gathers_known c.self.inside.table c.args.self.now c.self.inside.variables.items c.args.number c.self.view_is c.self.invariant (omega (arith, c.if-number-len.true, c.self.inside.variables.ok.0, c.len.ensures))

pub invariant_of-self-2 : goal.invariant_of-self-2
invariant_of-self-2 c = AreVariables-next _ _ c.self.inside.variables.items c.push_reserved.new.self.items _ c.self.invariant c.in_ok-row.ensures.added (search rules) c.in_ok-row.ensures.row

pub returns-clause-gathers : goal.returns-clause-gathers
returns-clause-gathers c =
    gathers_next c.self.inside.table c.args.self.now c.add_var.new.self c.self.inside.variables.items c.args.number c.self.view_is c.self.invariant c.requires
    (omega (arith, c.if-number-len.false, c.self.inside.variables.ok.0, c.len.ensures)) c.in_ok-row.ensures.added

pub returns-clause-there : goal.returns-clause-there
returns-clause-there c = counts_next c.self.inside.table c.args.self.now c.add_var.new.self c.args.number c.self.view_is c.requires c.in_ok-row.ensures.added
