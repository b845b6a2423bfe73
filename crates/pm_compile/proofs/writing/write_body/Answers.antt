use Rattle.std.proofs.Common.{◌++◌, All, codes, sym, subst}
use Rattle.std.specs.Prelude.{decimal}
use Rattle.pm_compile.specs.Code.{body_at}
use Rattle.pm_compile.specs.Inside.Lines.{IsWritable}
use Rattle.pm_compile.specs.Scheme.{body_code}
use Rattle.pm_compile.proofs.LawLemmas.{code_follows}
use Rattle.pm_compile.proofs.ListingLemmas.{body-writable, section-written}
use Rattle.pm_compile.proofs.writing.write_body.Goals as goal

pub write_lines-requires : goal.write_lines-requires
write_lines-requires c =
    let problem = c.args.problem.now in
    subst (All (IsWritable problem.symbols problem.terms)) (sym c.body.ensures)
    (body-writable problem c.args.code.now c.args.c c.requires.code c.requires.valid c.requires.clause)

pub returns : goal.returns
returns c clause stands =
    let problem = c.args.problem.now in
    let code = c.args.code.now in
    section-written problem (codes "body " ++ decimal c.args.c) (body_code clause.literals) _ _ _ c.body.result.now (body_at code c.args.c)
    c.in_ok-write_title.ensures c.in_ok-write_lines.ensures c.body.ensures
    (code_follows problem code c.requires.code c.args.c clause stands).body
