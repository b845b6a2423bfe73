use Rattle.std.proofs.Common.{◌≡◌, false, refl, sym, ◌∙◌, arith}
use Rattle.pm_cnf.proofs.parsed.Variables.{is_key, is_known, is_too_many, has_room}
use Rattle.pm_cnf.proofs.parser.Parser.allow_variable.Goals as goal
use Rattle.pm_cnf.proofs.parser.Parser.allow_variable.Goals.{else-len-self-via-then-len-self+else-not-contains, else-len-self-via-else-len-self}

pub returns-then-not-contains : goal.returns-then-not-contains
returns-then-not-contains c =
    let keys = c.args.self.now.variables.keys in
    let fresh : is_key c.args.text keys ≡ false = sym c.contains.ensures ∙ c.if-not-contains.true in
    (is_too_many c.args.self.now.limits c.args.text keys fresh (omega (arith, c.len.ensures.len, c.if-len-self.true)), refl)

pub returns : goal.returns
returns c =
    let keys = c.args.self.now.variables.keys in
    elim c.else-len-self.branch [
      | else-len-self-via-then-len-self+else-not-contains w ↦
          is_known c.args.self.now.limits c.args.text keys (sym w.contains.ensures ∙ w.if-not-contains.false)
      | else-len-self-via-else-len-self w ↦ has_room c.args.self.now.limits c.args.text keys (omega (arith, c.len.ensures.len, w.if-len-self.false))
    ]
