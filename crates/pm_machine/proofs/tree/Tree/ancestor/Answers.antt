use Rattle.std.proofs.Common.{◌≡◌, ◌-◌, slice_get, sym, ◌∙◌, ap, ap₂, arith}
use Rattle.pm_machine.specs.Node.{node_of}
use Rattle.pm_machine.proofs.TreeLemmas.{reads, read_is}
use Rattle.pm_machine.proofs.tree.Tree.ancestor.Goals as goal

pub returns : goal.returns
returns c =
    let has = c.requires.2 in
    let counted = c.requires.1 in
    let level : c.args.depth - 1 ≡ c.requires.0 = omega (arith, counted) in
    let branch = ap (λ t. t.branch) c.self.view_is in
    let nodes = ap (λ t. t.nodes) c.self.view_is in
    let place : c.index-place.result.now ≡ has.place =
    read_is c.self.inside.branch.items (c.args.depth - 1) c.index-place.result.now has.place
    (ap₂ (λ ns i. slice_get ns i) branch level ∙ has.at) c.index-place.ensures in
    record {
      level = c.requires.0;
      depth = c.requires.1;
      has = has;
      same =
          sym (reads node_of c.self.inside.nodes.items c.index-place.result.now c.index.result.now has.ancestor
          (ap₂ (λ ns i. slice_get ns i) nodes place ∙ has.stands) c.index.ensures);
    }
