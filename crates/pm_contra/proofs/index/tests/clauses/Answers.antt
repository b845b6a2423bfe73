use Rattle.std.proofs.Common.{◌+◌, length, sym, ap, ◌∙◌, subst, arith}
use Rattle.std.specs.List.{All}
use Rattle.std.proofs.lemmas.List.{length_push}
use Rattle.std.proofs.lemmas.List.Elements.{All-nil, All-push}
use Rattle.pm_contra.specs.Inside.Example.{IsExampleClause}
use Rattle.pm_contra.proofs.index.tests.clauses.Goals as goal

pub lists-init : goal.lists-init
lists-init g c =
    let P = IsExampleClause (length c.args.terms.now) in
    (subst (All P) (sym c.new-all.ensures.items) (All-nil P), ap length c.new-all.ensures.items)

pub lists-preserved : goal.lists-preserved
lists-preserved g c =
    let P = IsExampleClause (length c.args.terms.now) in (
      subst (All P) (sym c.in_ok-push.ensures.items) (All-push P c.lists.all.items _ c.lists.invariant.0 c.in_ok-clause.ensures),
      ap length c.in_ok-push.ensures.items ∙ length_push c.lists.all.items _ ∙ ap (λ n. n + 1) c.lists.invariant.1,
    )

pub returns : goal.returns
returns g c = record { count = omega (arith, c.lists.invariant.1, c.lists.auto.literals-index-end, c.lists-test.false); each = c.lists.invariant.0 }
