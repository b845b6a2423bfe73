use Rattle.std.proofs.Common.{◌∙◌, sym}
use Rattle.pm_certread.proofs.LineLemmas.{first_cut, some_bytes}
use Rattle.pm_certread.proofs.lines.Lines.take.Goals as goal

pub returns-clause-ok : goal.returns-clause-ok
returns-clause-ok c =
    first_cut c.args.self.now.rest.now c.split_at.result.0.now c.split_at.result.1.now c.line_length.result (some_bytes c.args.self.now.rest.now (sym c.is_empty.ensures ∙ c.if-is_empty.false)) c.line_length.ensures.is c.split_at.ensures.front c.split_at.ensures.back
