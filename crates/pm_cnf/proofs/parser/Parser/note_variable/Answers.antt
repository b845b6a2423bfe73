use Rattle.std.proofs.Common.{◌∙◌, ap, refl}
use Rattle.pm_cnf.specs.Inside.Parts.{texts_of}
use Rattle.pm_cnf.proofs.parts.TextLemmas.{texts-insert}
use Rattle.pm_cnf.proofs.parser.Parser.note_variable.Goals as goal

pub returns-clause-notes : goal.returns-clause-notes
returns-clause-notes c =
    let keys = c.args.self.now.variables.keys in
    (ap texts_of c.in_ok-insert.ensures.keys ∙ texts-insert _ (λ x y. refl) c.args.text keys, refl, refl, refl)
