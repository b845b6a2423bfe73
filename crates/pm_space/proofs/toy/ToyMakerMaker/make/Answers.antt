use Rattle.std.proofs.Common.{◌<◌, ℕ, List, sym, ap, subst, arith}
use Rattle.std.proofs.lemmas.List.Elements.{All-nil}
use Rattle.pm_space.specs.Toy.{value_after, value_of, IsInToy}
use Rattle.pm_space.proofs.toy.ToyMakerMaker.make.Goals as goal

pub invariant_of-result : goal.invariant_of-result
unfolding value_after
invariant_of-result c = record {
  wide = c.args.self.now.wide;
  narrow = c.args.self.now.narrow;
  long = c.args.self.now.long;
  short = c.args.self.now.short;
  inside = subst (λ (l : List ℕ). IsInToy c.args.self.now.branch c.args.self.now.length l) (sym c.new.ensures.items) (record { short = omega arith; below = All-nil (λ digit. digit < c.args.self.now.branch) });
  reads = sym (ap (value_of c.args.self.now.branch) c.new.ensures.items);
}
