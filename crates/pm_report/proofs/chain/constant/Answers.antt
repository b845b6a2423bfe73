use Rattle.std.proofs.Common.{rules, ◌≡◌, ◌∙◌, ap₂}
use Rattle.pm_logic.specs.Term.{tree_at}
use Rattle.pm_report.specs.Sample.{turned}
use Rattle.pm_report.proofs.SampleLemmas.{constant_row}
use Rattle.pm_report.proofs.chain.constant.Goals as goal

pub returns-clause-tree : goal.returns-clause-tree
returns-clause-tree c edges is some le =
    let row : c.id.result ≡ turned c.args.k = search rules in
    ap₂ tree_at is row ∙ constant_row edges c.args.k some le
