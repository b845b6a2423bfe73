use Rattle.std.proofs.Common.{◌∷◌, [], sym, ◌∙◌, ap₂, subst}
use Rattle.std.specs.Prelude.{◌↔◌, IsTrue}
use Rattle.std.proofs.lemmas.Result.{IfOk-weaker}
use Rattle.std.specs.Bool.{OnFalse}
use Rattle.pm_diseq.specs.Notes.{as_pair}
use Rattle.pm_diseq.specs.Standing.{IsWithin, AreIdentical}
use Rattle.pm_machine.specs.Node.{node_of}
use Rattle.pm_tab.specs.Repeats.{pairs_with}
use Rattle.pm_tab.specs.Inside.Adding.{literal_on, HasIdentical}
use Rattle.pm_tab.proofs.Adding.{pair_within, identical_pair, adds_no_pair, pair_added}
use Rattle.pm_tab.proofs.repeats.watch_pair.Goals as goal

pub add-requires-clause-within : goal.add-requires-clause-within
add-requires-clause-within c =
    subst (IsWithin c.args.store.now) (sym (ap₂ as_pair c.deref.ensures c.deref-2.ensures))
    (pair_within c.args.store.now (node_of c.args.above.now) (node_of c.args.child.now) c.requires.above c.requires.child
    (sym c.has_same_face.ensures ∙ c.if-not-has_same_face.false))

pub returns-then-not-has_same_face-clause-apart : goal.returns-then-not-has_same_face-clause-apart
returns-then-not-has_same_face-clause-apart c =
    adds_no_pair c.args.store.now c.args.pool.now (literal_on c.args.above.now) (literal_on c.args.child.now)
    (sym c.has_same_face.ensures ∙ c.if-not-has_same_face.true) c.requires.stands

pub returns-clause-apart : goal.returns-clause-apart
returns-clause-apart c =
    pair_added c.args.store.now c.args.pool.now c.add.new.self (literal_on c.args.above.now) (literal_on c.args.child.now)
    (sym c.has_same_face.ensures ∙ c.if-not-has_same_face.false) _ (ap₂ as_pair c.deref.ensures c.deref-2.ensures)
    c.add.result c.add.ensures.stands c.add.ensures.kept

pub returns-clause-repeats : goal.returns-clause-repeats
returns-clause-repeats c =
    IfOk-weaker c.add.result _ (λ apart. OnFalse apart (HasIdentical c.args.store.now (pairs_with (literal_on c.args.above.now ∷ []) (literal_on c.args.child.now))))
    (λ apart tells. identical_pair c.args.store.now (literal_on c.args.above.now) (literal_on c.args.child.now)
    (sym c.has_same_face.ensures ∙ c.if-not-has_same_face.false) apart
    (subst (λ pair. IsTrue apart ↔ (¬ AreIdentical c.args.store.now pair)) (ap₂ as_pair c.deref.ensures c.deref-2.ensures) tells))
    c.add.ensures.answer
