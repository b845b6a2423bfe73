use Rattle.std.proofs.Common.{◌+◌, ◌*◌, ◌∙◌, ℕ, List, sym, ap, subst, arith}
use Rattle.pm_space.specs.Toy.{value_of, IsInToy}
use Rattle.pm_space.proofs.ToyLemmas.{value_push, scaled_small, longer_inside}
use Rattle.pm_space.proofs.toy.ToySpaceSpace.step.Goals as goal

pub overflow_mul-self : goal.overflow_mul-self
overflow_mul-self c =
    let small = scaled_small c.args.self.now.branch c.args.self.now.length c.args.self.now.value c.args.self.now.path.items c.args.self.now.narrow c.args.self.now.short c.args.self.now.inside c.args.self.now.reads in
    omega (arith, small)

pub overflow_add-self : goal.overflow_add-self
overflow_add-self c =
    let small = scaled_small c.args.self.now.branch c.args.self.now.length c.args.self.now.value c.args.self.now.path.items c.args.self.now.narrow c.args.self.now.short c.args.self.now.inside c.args.self.now.reads in
    omega (arith, small, c.ranges.k.fits)

pub invariant_of-self-2 : goal.invariant_of-self-2
invariant_of-self-2 c = record {
  wide = c.args.self.now.wide;
  narrow = c.args.self.now.narrow;
  long = c.args.self.now.long;
  short = c.args.self.now.short;
  inside = subst (λ (l : List ℕ). IsInToy c.args.self.now.branch c.args.self.now.length l) (sym c.in_ok-push.ensures.items) (longer_inside c.args.self.now.branch c.args.self.now.length c.args.self.now.path.items c.args.k c.args.self.now.inside c.requires);
  reads = ap (λ (n : ℕ). n * c.args.self.now.branch + c.args.k) c.args.self.now.reads ∙ sym (value_push c.args.self.now.branch 0 c.args.self.now.path.items c.args.k) ∙ sym (ap (value_of c.args.self.now.branch) c.in_ok-push.ensures.items);
}
