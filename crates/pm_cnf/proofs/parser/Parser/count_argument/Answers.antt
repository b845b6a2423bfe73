use Rattle.std.proofs.Common.{ℕ, ◌-◌, ◌+◌, refl, arith, ap}
use Rattle.pm_cnf.proofs.parsed.OpenLists.{one_more_begun, argument_allowed}
use Rattle.pm_cnf.proofs.parser.Parser.count_argument.Goals as goal

pub returns-clause-counts : goal.returns-clause-counts
returns-clause-counts c =
    let lists = c.args.self.now.lists.items in
    let last = ap (λ (n : ℕ). n - 1) (c.args.self.now.lists.ok.0) in
    let more = one_more_begun lists _ c.in-Some.list.now (record { symbol = c.in-Some.list.now.symbol; arguments = c.arguments_begun-begun.result + 1 }) c.in-Some.ensures.item.3.0 last c.in-Some.ensures.item.3.1 refl (ap (λ (n : ℕ). n + 1) c.arguments_begun-begun.ensures) in
    (argument_allowed c.args.self.now.limits lists (omega (arith, c.arguments_begun-begun.ensures)) (omega (arith, c.len.ensures, c.if-len-self.false)), (rw more.0 refl, rw more.1 refl, refl, refl))
