use Rattle.std.proofs.Common.{◌≡◌, ◌∙◌, sym, arith, ap, length, suc}
use Rattle.pm_certread.specs.Lines.{cut_lines}
use Rattle.pm_certread.proofs.LineLemmas.{first_cut, some_bytes}
use Rattle.pm_certread.proofs.lines.Lines.count.Goals as goal

pub lines-preserved : goal.lines-preserved
lines-preserved c =
    let some = some_bytes c.lines.rest.now (sym c.is_empty.ensures ∙ c.lines-test.true) in
    let cut = first_cut c.lines.rest.now c.split_at.result.0.now c.split_at.result.1.now c.line_length.result some c.line_length.ensures.is c.split_at.ensures.front c.split_at.ensures.back in
    let count : length (cut_lines c.lines.rest.now) ≡ suc (length (cut_lines c.split_at.result.1.now)) = ap length cut in
    (omega arith, omega arith)
