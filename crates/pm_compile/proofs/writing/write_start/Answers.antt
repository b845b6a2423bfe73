use Rattle.std.proofs.Common.{◌++◌, All, codes, sym, subst}
use Rattle.std.specs.Prelude.{decimal}
use Rattle.pm_compile.specs.Code.{start_at}
use Rattle.pm_compile.specs.Inside.Lines.{IsWritable}
use Rattle.pm_compile.specs.Scheme.{start_code}
use Rattle.pm_compile.proofs.LawLemmas.{code_follows}
use Rattle.pm_compile.proofs.ListingLemmas.{slice_there, start-writable, section-written}
use Rattle.pm_compile.proofs.writing.write_start.Goals as goal

pub write_lines-requires : goal.write_lines-requires
write_lines-requires c =
    let problem = c.args.problem.now in
    subst (All (IsWritable problem.symbols problem.terms)) (sym c.start.ensures)
    (start-writable problem c.args.code.now c.args.c c.requires.code c.requires.clause)

pub returns : goal.returns
returns c =
    let problem = c.args.problem.now in
    let code = c.args.code.now in
    let there = slice_there problem.clauses c.args.c c.requires.clause in
    section-written problem (codes "start " ++ decimal c.args.c) (start_code c.args.c) _ _ _ c.start.result.now (start_at code c.args.c)
    c.in_ok-write_title.ensures c.in_ok-write_lines.ensures c.start.ensures
    (code_follows problem code c.requires.code c.args.c there.0 there.1).start
