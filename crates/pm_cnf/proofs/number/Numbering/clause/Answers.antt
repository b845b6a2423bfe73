use Rattle.std.proofs.Common.{arith}
use Rattle.pm_logic.specs.declared.problem.Clause.{Clause}
use Rattle.pm_cnf.proofs.parts.ItemSteps.{item_numbered, item_few}
use Rattle.pm_cnf.proofs.number.Numbering.clause.Goals as goal

pub overflow_cast-result : goal.overflow_cast-result
overflow_cast-result c =
    let few = item_few c.args.self.now.symbols c.literals.new.self.symbols _ _ _ c.literals.new.texts.keys _ c.args.item.now c.requires.item.0 c.in_ok-literals.literals.items c.deref.ensures.value c.new-texts.ensures.empty c.requires.item.1 c.in_ok-literals.ensures.numbered in
    omega (arith, few.1, c.requires.few, c.len.ensures.len)

pub returns-clause-numbered : goal.returns-clause-numbered
returns-clause-numbered c = λ i is.
    let clause : Clause = record { name = c.in_ok-clause_name.field-0; role = c.in_ok-from_str.field-0; vars = c.len.result; literals = c.in_ok-literals.literals } in
    item_numbered _ _ _ _ _ _ _ c.args.item.now i clause c.deref.ensures.value c.new-texts.ensures.empty is c.in_ok-literals.ensures.numbered c.in_ok-clause_name.ensures c.in_ok-from_str.ensures.ok c.len.ensures.len

pub returns-clause-few : goal.returns-clause-few
returns-clause-few c =
    let few = item_few c.args.self.now.symbols c.literals.new.self.symbols _ _ _ c.literals.new.texts.keys _ c.args.item.now c.requires.item.0 c.in_ok-literals.literals.items c.deref.ensures.value c.new-texts.ensures.empty c.requires.item.1 c.in_ok-literals.ensures.numbered in
    few.0
