use Rattle.pm_certread.specs.Lines.{root_line}
use Rattle.pm_certread.proofs.FormLemmas.{cut_some, cut_none}
use Rattle.pm_certread.proofs.NodeLemmas.{root_line_is}
use Rattle.pm_certread.proofs.root.root_line.Goals as goal

pub returns-in_default : goal.returns-in_default
returns-in_default c clause is = cut_none (λ ws. ws.items) c.args.raw.now c.in_ok-words.field-0 c.in_ok-words.ensures c.in_default.is (root_line clause) is.is

pub returns : goal.returns
returns c =
    root_line_is c.args.raw.now c.deref.result.now c.root_words.result
    (cut_some (λ ws. ws.items) c.args.raw.now c.in_ok-words.field-0 c.in-Some.words c.deref.result.now c.in_ok-words.ensures c.in-Some.is c.deref.ensures.value)
    c.root_words.ensures
