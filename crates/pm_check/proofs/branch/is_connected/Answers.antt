use Rattle.std.proofs.Common.{◌≡◌, ◌↔◌, ◌+◌, ◌≤◌, true, false, length, map, drop, get_or, refl}
use Rattle.std.specs.Prelude.{IsTrue}
use Rattle.std.proofs.lemmas.List.Elements.{All-get_or}
use Rattle.std.proofs.lemmas.Option.{slice_get-get_or}
use Rattle.pm_logic.specs.View.{HasRows, literal_of, entry_of}
use Rattle.pm_logic.specs.declared.tableau.Node.{Node}
use Rattle.pm_check.specs.Inside.Siblings.{siblings}
use Rattle.pm_check.specs.Inside.Sights.{HasClosingLeaf}
use Rattle.pm_check.proofs.BranchLemmas.{child_first, child_more, child_found, child_none, some_node, some_within}
use Rattle.pm_check.proofs.branch.is_connected.Goals as goal

pub children-init : goal.children-init
children-init c =
    let nodes = c.args.nodes.now in
    let list = nodes.list.now in
    let place = c.args.place in
    let within = some_within (λ (n : Node). n.depth ≤ 250) list place c.requires.node in
    let node = get_or list place c.index-nodes-place.result in
    child_first nodes.terms.now list place (node.depth + 1) (literal_of nodes.terms.now node.literal) node (slice_get-get_or list place c.index-nodes-place.result within) refl c.requires.steps

pub is_closing-requires-clause-parent : goal.is_closing-requires-clause-parent
is_closing-requires-clause-parent c =
    let nodes = c.args.nodes.now in
    let within = some_within (λ (n : Node). n.depth ≤ 250) nodes.list.now c.args.place c.requires.node in
    All-get_or (λ (n : Node). HasRows (length nodes.terms.now) n.literal) nodes.list.now c.args.place c.index-nodes-place.result within nodes.rows

pub returns-then-is_closing : goal.returns-then-is_closing
returns-then-is_closing c =
    let nodes = c.args.nodes.now in
    let list = nodes.list.now in
    let terms = nodes.terms.now in
    let place = c.args.place in
    let within = some_within (λ (n : Node). n.depth ≤ 250) list place c.requires.node in
    let node = get_or list place c.index-nodes-place.result in
    let found = c.has.ensures.0 c.children-test.true in
    some_node (λ (n : Node). IsTrue true ↔ HasClosingLeaf (literal_of terms n.literal) (siblings (n.depth + 1) (drop (place + 1) (map (entry_of terms) list)))) list place node
    (slice_get-get_or list place c.index-nodes-place.result within) (
      λ _. child_found terms list nodes.next.now place (node.depth + 1) (literal_of terms node.literal) c.children.child (get_or list c.children.child c.index-nodes-child.result) c.children.invariant
          (slice_get-get_or list c.children.child c.index-nodes-child.result found.0) found.1 nodes.places (c.is_closing.ensures.0 c.if-is_closing.true),
      λ _. refl,
    )

pub children-preserved : goal.children-preserved
children-preserved c =
    let nodes = c.args.nodes.now in
    let list = nodes.list.now in
    let terms = nodes.terms.now in
    let place = c.args.place in
    let node = get_or list place c.index-nodes-place.result in
    let found = c.has.ensures.0 c.children-test.true in
    child_more terms list nodes.next.now place (node.depth + 1) (literal_of terms node.literal) c.children.child (get_or list c.children.child c.index-nodes-child.result) c.children.invariant
    (slice_get-get_or list c.children.child c.index-nodes-child.result found.0) found.1 nodes.places (λ h. let closes : c.is_closing.result ≡ true = c.is_closing.ensures.1 h in cc)

pub returns : goal.returns
returns c =
    let nodes = c.args.nodes.now in
    let list = nodes.list.now in
    let terms = nodes.terms.now in
    let place = c.args.place in
    let within = some_within (λ (n : Node). n.depth ≤ 250) list place c.requires.node in
    let node = get_or list place c.index-nodes-place.result in
    some_node (λ (n : Node). IsTrue false ↔ HasClosingLeaf (literal_of terms n.literal) (siblings (n.depth + 1) (drop (place + 1) (map (entry_of terms) list)))) list place node
    (slice_get-get_or list place c.index-nodes-place.result within) (
      λ h. absurd cc,
      λ h. absurd (child_none terms list place (node.depth + 1) (literal_of terms node.literal) c.children.child c.children.invariant (λ there. let found : c.has.result ≡ true = c.has.ensures.1 there in cc) h),
    )
