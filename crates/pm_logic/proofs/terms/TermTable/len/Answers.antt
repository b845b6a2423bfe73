use Rattle.std.proofs.Common.{◌∙◌, sym, ap, length}
use Rattle.pm_logic.proofs.TableLemmas.{length-trees}
use Rattle.pm_logic.proofs.terms.TermTable.len.Goals as goal

pub returns-clause-count : goal.returns-clause-count
returns-clause-count c =
    c.len.ensures.len ∙ sym (length-trees c.self.inside.rows.keys) ∙ ap length c.self.view_is
