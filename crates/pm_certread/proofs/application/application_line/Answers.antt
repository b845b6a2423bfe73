use Rattle.pm_certread.proofs.FormLemmas.{cut_some}
use Rattle.pm_certread.proofs.TermLemmas.{application_result}
use Rattle.pm_certread.proofs.application.application_line.Goals as goal

pub returns : goal.returns
returns c =
    application_result _ c.args.raw.now c.deref.result.now c.application_words.result
    (cut_some (λ ws. ws.items) c.args.raw.now c.in_ok-words.field-0 c.in-Some.words c.deref.result.now c.in_ok-words.ensures c.in-Some.is c.deref.ensures.value)
    c.application_words.ensures
