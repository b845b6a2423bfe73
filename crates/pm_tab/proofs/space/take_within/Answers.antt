use Rattle.std.proofs.Common.{length, refl, sym, ◌∙◌, subst}
use Rattle.std.proofs.lemmas.Bool.{false≢true}
use Rattle.std.proofs.lemmas.Result.{IfOk-weaker}
use Rattle.pm_logic.specs.Problem.{Problem}
use Rattle.pm_machine.specs.Value.{skeleton}
use Rattle.pm_tab.specs.Searched.{level_of}
use Rattle.pm_tab.specs.Inside.Steps.{StartsAmong, TakesRegularly, TakesWithin}
use Rattle.pm_tab.proofs.Within.{starts_among, refused_start, plain_within, regular_within}
use Rattle.pm_tab.proofs.space.take_within.Goals as goal

pub fits-requires : goal.fits-requires
fits-requires c =
    subst (λ (p : Problem). StartsAmong (length p.clauses) c.args.step) c.requires.problem
    (starts_among c.args.machine.now.problem.clauses (skeleton c.args.machine.now) c.args.step c.requires.may)

pub returns-then-not-fits-clause-answer : goal.returns-then-not-fits-clause-answer
returns-then-not-fits-clause-answer c = (
  refl,
  refl,
  refused_start c.args.maker.now c.args.level c.args.machine.now c.args.step c.requires.problem c.requires.may
      (λ fits. false≢true (sym c.if-not-fits.true ∙ c.fits.ensures.1 fits)),
)

pub returns-in_ok-take-in-Plain-clause-answer : goal.returns-in_ok-take-in-Plain-clause-answer
returns-in_ok-take-in-Plain-clause-answer c =
    let searched = c.args.maker.now in
    let old = c.args.machine.now in
    let watch = c.args.repeats.now in
    subst (TakesWithin (level_of searched c.args.level) c.args.step old c.take.new.machine watch watch) (sym c.then_some.ensures)
    (plain_within searched c.args.level old c.args.step c.requires.problem c.requires.may c.requires.alternative c.requires.reached (c.fits.ensures.0 c.if-not-fits.false)
    (sym c.class.ensures.class ∙ c.in-Plain.is) c.take.new.machine watch c.requires.watches _ refl
    c.in_ok-take-in-Plain.field-0 c.in_ok-take-in-Plain.ensures.answer)

pub returns-in-Regular-clause-answer : goal.returns-in-Regular-clause-answer
returns-in-Regular-clause-answer c =
    let searched = c.args.maker.now in
    let old = c.args.machine.now in
    let new = c.take-in-Regular.new.machine in
    IfOk-weaker c.take-in-Regular.result (TakesRegularly c.args.step old new c.args.repeats.now c.take-in-Regular.new.self)
    (TakesWithin (level_of searched c.args.level) c.args.step old new c.args.repeats.now c.take-in-Regular.new.self)
    (regular_within searched c.args.level old c.args.step c.requires.problem c.requires.may c.requires.alternative c.requires.reached (c.fits.ensures.0 c.if-not-fits.false)
    (sym c.class.ensures.class ∙ c.in-Regular.is) new c.args.repeats.now c.take-in-Regular.new.self)
    c.take-in-Regular.ensures.answer
