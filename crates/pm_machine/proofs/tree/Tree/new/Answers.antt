use Rattle.std.proofs.Common.{map, reverse}
use Rattle.pm_machine.specs.Node.{node_of}
use Rattle.pm_machine.proofs.tree.Tree.new.Goals as goal

pub returns : goal.returns
returns c = λ k. record {
  nodes = map node_of (c.new.ensures.items k);
  branch = c.in_ok-from_elem.ensures.items_if_clones_equal (λ y same. same) k;
  leaf = 0;
  taken = reverse (c.new-2.ensures.items k);
}
