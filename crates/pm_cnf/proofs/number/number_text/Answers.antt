use Rattle.std.proofs.Common.{refl, ap, ◌∙◌}
use Rattle.pm_cnf.specs.Inside.Parts.{texts_of}
use Rattle.pm_cnf.proofs.parts.TextLemmas.{texts-insert, text_stands}
use Rattle.pm_cnf.proofs.number.number_text.Goals as goal

pub returns-clause-texts : goal.returns-clause-texts
returns-clause-texts c = ap texts_of c.in_ok-number.ensures.keys ∙ texts-insert _ (λ x y. refl) c.args.text c.args.texts.now.keys

pub returns-clause-number : goal.returns-clause-number
returns-clause-number c =
    let h = c.in_ok-number.ensures.stored in
    text_stands c.insert_full.new.self.keys c.in_ok-number.number h.0 c.args.text.now h.1 h.2
