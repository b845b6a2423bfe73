use Rattle.std.proofs.Common.{◌∙◌, ap, List, ℕ}
use Rattle.pm_book.specs.Rows.{is_above}
use Rattle.pm_book.specs.Inside.Seen.{seen}
use Rattle.pm_book.proofs.Moves.{split_step}
use Rattle.pm_book.proofs.tables.Tables.split.Goals as goal

pub returns-clause-step : goal.returns-clause-step
returns-clause-step c =
    split_step c.args.self.now c.put.new.self c.args.spot c.args.cut c.len-mid.result c.len.result c.is_above-above.result c.queued_unless.result c.queued_unless.ensures
    (c.len-mid.ensures ∙ c.args.self.now.cuts.ok.0) (c.len.ensures ∙ c.args.self.now.rows.ok.0)
    (c.is_above-above.ensures ∙ ap (λ (l : List ℕ). is_above (seen c.args.self.now).best l) c.as_slice.ensures)
    c.requires.kept c.requires.spot c.requires.from c.requires.to c.put.ensures.put
