use Rattle.pm_compile.proofs.ListingLemmas.{lines-all}
use Rattle.pm_compile.proofs.writing.write_lines.Goals as goal

pub returns : goal.returns
returns c =
    lines-all c.args.problem.now.symbols c.args.problem.now.terms c.args.instrs.now c.instrs.instr-index _ _ c.instrs-test.false c.instrs.invariant
