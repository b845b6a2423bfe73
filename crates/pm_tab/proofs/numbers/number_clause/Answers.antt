use Rattle.std.proofs.Common.{◌≡◌, ◌+◌, ◌-◌, get_or, sym, ◌∙◌, ap, subst, arith}
use Rattle.pm_tab.specs.Inside.Known.{Knows}
use Rattle.pm_tab.proofs.Kept.{literal_stands, literals_more}
use Rattle.pm_tab.proofs.numbers.number_clause.Goals as goal

pub literals-preserved : goal.literals-preserved
literals-preserved c = record {
  counted = omega arith;
  numbered = λ terms all tells knows stand.
      let literals = c.args.clause.now.literals.items in
      let item = c.literal-item.result in
      let is = c.literal-item.is ∙ ap (λ ls. get_or ls c.literals.literal-index item) c.deref-literal-items.ensures.value in
      let before = c.literals.invariant.numbered terms all tells knows stand in
      let last : c.literals.count + 1 - 1 ≡ c.literals.count = omega arith in
      let place : c.literals.count + 1 - 1 ≡ c.args.count.now + c.literals.literal-index = omega arith in
      let stands = literal_stands terms all c.args.count.now c.literals.literal-index (c.literals.count + 1 - 1) literals item stand (omega arith) is place in
      let its = c.in_ok-own.ensures terms all tells (subst (λ n. Knows terms all n c.literals.seen.entries) (sym last) before.1) stands in (
        literals_more terms all literals c.literals.literal-index c.in_ok-own.own item c.literals.numbers.items c.push.new.self.items (omega arith)
            is before.0 its.0 c.in_ok-push.ensures.items,
        its.1,
      );
}
