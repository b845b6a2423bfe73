use Rattle.pm_certread.proofs.FormLemmas.{cut_some}
use Rattle.pm_certread.proofs.NodeLemmas.{node_result}
use Rattle.pm_certread.proofs.node_line.node_line.Goals as goal

pub returns : goal.returns
returns c =
    node_result _ c.args.raw.now c.deref.result.now c.node_words.result
    (cut_some (λ ws. ws.items) c.args.raw.now c.in_ok-words.field-0 c.in-Some.words c.deref.result.now c.in_ok-words.ensures c.in-Some.is c.deref.ensures.value)
    c.node_words.ensures
