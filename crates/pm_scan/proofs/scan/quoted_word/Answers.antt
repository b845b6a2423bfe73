use Rattle.std.proofs.Common.{◌+◌, arith, take, length-take, ap, sym, ◌∙◌, Ok}
use Rattle.pm_scan.specs.Lexemes.{Lexeme, quoted_word, ending}
use Rattle.pm_scan.proofs.Scanning.{between-closed, between-fault, closed_len-ok, quoted_word-some}
use Rattle.pm_scan.proofs.Forms.{ending_closes}
use Rattle.pm_scan.proofs.scan.quoted_word.Goals as goal

pub as_str-requires : goal.as_str-requires
as_str-requires c = (ending_closes 39 c.args.bytes.now c.in-Ok.len (omega arith, omega arith) (closed_len-ok _ _ c.in-Ok.ensures.len)).ascii

pub returns-in-Ok-eq0 : goal.returns-in-Ok-eq0
returns-in-Ok-eq0 c = between-closed quoted_word c.args.bytes.now (ending 39 c.args.bytes.now) 0 (ap Ok (sym c.in-Ok-eq0.field-0-test) ∙ c.in-Ok-eq0.ensures.len)

pub returns-in-Ok : goal.returns-in-Ok
returns-in-Ok c =
    let some = quoted_word-some (take c.in-Ok.len c.args.bytes.now) (omega (arith, length-take c.in-Ok.len c.args.bytes.now, c.in-Ok.ensures.within, c.in-Ok.len-test.1)) in
    rw c.as_str.ensures (ap (λ (x : Lexeme). (x, c.in-Ok.len + 2)) some ∙ between-closed quoted_word c.args.bytes.now (ending 39 c.args.bytes.now) c.in-Ok.len c.in-Ok.ensures.len)

pub returns-in-Err : goal.returns-in-Err
returns-in-Err c = between-fault quoted_word c.args.bytes.now (ending 39 c.args.bytes.now) c.in-Err.kind c.in-Err.ensures.len
