use Rattle.std.proofs.Common.{◌≡◌, ◌+◌, ◌-◌, arith}
use Rattle.pm_lift.specs.Inside.Example.{chain}
use Rattle.pm_lift.proofs.RowLemmas.{chain_more, chain_end}
use Rattle.pm_lift.proofs.lift.tests.chain.Goals as goal

pub depths-preserved : goal.depths-preserved
depths-preserved c =
    chain_more c.depths.nodes.items c.push.new.self.items c.push-in-depths.new.self.items (chain c.args.count 1) (c.args.count + 1 - c.depths.depth) (c.args.count + 1 - (c.depths.depth + 1)) c.depths.depth
    (omega (arith, c.depths-test.true)) c.in_ok-push.ensures.items c.in_ok-push-2.ensures.items c.depths.invariant

pub returns : goal.returns
returns c =
    let last : c.depths.depth ≡ c.args.count + 1 = omega (arith, c.depths-test.false, c.depths.auto.depth, c.depths.auto.depth-end) in
    chain_end c.depths.nodes.items c.push-2.new.self.items c.push-3.new.self.items (chain c.args.count 1) (c.args.count + 1 - c.depths.depth) c.depths.depth (c.args.count + 1) (omega (arith, last)) last
    c.in_ok-push-3.ensures.items c.in_ok-push-4.ensures.items c.depths.invariant
