use Rattle.std.proofs.Common.{arith}
use Rattle.pm_space.proofs.ToyLemmas.{popped}
use Rattle.pm_space.proofs.toy.ToySpaceSpace.back.Goals as goal

pub invariant_of-self : goal.invariant_of-self
invariant_of-self c =
    let toy = c.args.self.now in
    let some = c.pop-digit.ensures.variant.1 (omega (arith, toy.path.ok.0, c.requires)) in
    let left = popped toy.branch toy.length toy.value toy.path.items c.pop-digit.new.self.items c.pop-digit.result toy.inside toy.reads some c.pop-digit.ensures.items in
    record { wide = toy.wide; narrow = toy.narrow; long = toy.long; short = toy.short; inside = left.0; reads = left.1 }
