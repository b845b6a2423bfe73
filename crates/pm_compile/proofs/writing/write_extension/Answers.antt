use Rattle.std.proofs.Common.{◌++◌, All, codes, sym, subst}
use Rattle.std.specs.Prelude.{decimal}
use Rattle.pm_compile.specs.Code.{extension_at}
use Rattle.pm_compile.specs.Inside.Lines.{IsWritable}
use Rattle.pm_compile.specs.Scheme.{extension_code}
use Rattle.pm_compile.proofs.LawLemmas.{code_follows}
use Rattle.pm_compile.proofs.ListingLemmas.{extension-there, extension-writable, section-written}
use Rattle.pm_compile.proofs.writing.write_extension.Goals as goal

pub extend-requires-clause-literal : goal.extend-requires-clause-literal
extend-requires-clause-literal c =
    (extension-there c.args.problem.now c.args.code.now c.args.c c.args.j c.requires.code c.requires.clause c.requires.literal).1

pub write_lines-requires : goal.write_lines-requires
write_lines-requires c =
    let problem = c.args.problem.now in
    subst (All (IsWritable problem.symbols problem.terms)) (sym c.extend.ensures)
    (extension-writable problem c.args.code.now c.args.c c.args.j c.requires.code c.requires.valid c.requires.clause c.requires.literal)

pub returns : goal.returns
returns c clause literal stands here =
    let problem = c.args.problem.now in
    let code = c.args.code.now in
    section-written problem (codes "extend " ++ (decimal c.args.c ++ (codes " " ++ decimal c.args.j))) (extension_code c.args.c c.args.j literal) _ _ _
    c.extend.result.now (extension_at code c.args.c c.args.j)
    c.in_ok-write_extension_title.ensures c.in_ok-write_lines.ensures c.extend.ensures
    ((code_follows problem code c.requires.code c.args.c clause stands).extension c.args.j literal here)
