use Rattle.pm_certread.proofs.FormLemmas.{cut_some, cut_none}
use Rattle.pm_certread.proofs.HeaderLemmas.{no_header, header_line_is}
use Rattle.pm_certread.proofs.header.header_line.Goals as goal

pub returns-in_default : goal.returns-in_default
returns-in_default c h is = no_header c.args.raw.now h (cut_none (λ ws. ws.items) c.args.raw.now c.in_ok-words.field-0 c.in_ok-words.ensures c.in_default.is) is

pub returns : goal.returns
returns c =
    header_line_is c.args.raw.now c.deref.result.now c.header_of.result
    (cut_some (λ ws. ws.items) c.args.raw.now c.in_ok-words.field-0 c.in-Some.words c.deref.result.now c.in_ok-words.ensures c.in-Some.is c.deref.ensures.value)
    c.header_of.ensures
