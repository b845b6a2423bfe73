use Rattle.std.proofs.Common.{◌+◌, length, refl, sym, ap, ◌∙◌, subst, arith}
use Rattle.std.specs.List.{All}
use Rattle.std.proofs.lemmas.List.{length_push}
use Rattle.std.proofs.lemmas.List.Elements.{All-nil}
use Rattle.pm_contra.specs.Inside.Example.{IsExampleLiteral}
use Rattle.pm_contra.proofs.ExampleLemmas.{literals_more}
use Rattle.pm_contra.proofs.index.tests.clause.Goals as goal

pub literals-init : goal.literals-init
literals-init g c =
    let P = IsExampleLiteral (length c.args.terms.now) in
    (subst (All P) (sym c.new-all.ensures.items) (All-nil P), ap length c.new-all.ensures.items)

pub literals-preserved : goal.literals-preserved
literals-preserved g c = (
  literals_more (length c.args.terms.now) c.literals.all.items _ _ c.id.result c.literals.invariant.0 c.in_ok-push.ensures.items refl c.in_ok-vec.ensures.items (omega (arith, c.id.ensures)),
  ap length c.in_ok-push.ensures.items ∙ length_push c.literals.all.items _ ∙ ap (λ n. n + 1) c.literals.invariant.1,
)

pub returns : goal.returns
returns g c = record { one_variable = refl; few = omega (arith, c.literals.invariant.1, c.literals.auto.positive-index-end); each = c.literals.invariant.0 }
