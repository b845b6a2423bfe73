use Rattle.std.proofs.Common.{◌≡◌, ◌↔◌, ◌+◌, true, length, map, drop, get_or}
use Rattle.std.specs.Prelude.{IsTrue}
use Rattle.std.proofs.lemmas.Option.{slice_get-get_or}
use Rattle.pm_logic.specs.declared.tableau.Node.{Node}
use Rattle.pm_logic.specs.View.{literal_of, entry_of}
use Rattle.pm_check.specs.Inside.Passing.{IsFit}
use Rattle.pm_check.specs.Inside.Siblings.{siblings}
use Rattle.pm_check.specs.Inside.Sights.{HasClosingLeaf}
use Rattle.pm_check.proofs.BranchLemmas.{next_depth, sees, no_instance, own_inner, no_connection, own_leaf, no_closing, node_of, some_within}
use Rattle.pm_check.proofs.branch.own_offence.Goals as goal

pub is_family-requires-clause-shallow : goal.is_family-requires-clause-shallow
is_family-requires-clause-shallow c lt =
    let list = c.args.nodes.now.list.now in
    let place = c.args.place in
    let fit = IsFit (length c.args.problem.now.clauses) (length c.args.branch.now) c.args.ancestor in
    let within = some_within fit list place c.requires.node in
    next_depth list place (get_or list place c.index-nodes-place.result) (slice_get-get_or list place c.index-nodes-place.result within) c.requires.steps lt

pub returns-then-not-is_family-clause-answer : goal.returns-then-not-is_family-clause-answer
returns-then-not-is_family-clause-answer c placed seen =
    let nodes = c.args.nodes.now in
    let list = nodes.list.now in
    let place = c.args.place in
    let fit = IsFit (length c.args.problem.now.clauses) (length c.args.branch.now) c.args.ancestor in
    let within = some_within fit list place c.requires.node in
    let node = get_or list place c.index-nodes-place.result in
    no_instance c.args.problem.now.clauses nodes.terms.now list c.args.branch.now place c.in-Inner.clause node placed.above placed.node c.args.ancestor
    (sees nodes.terms.now list c.args.branch.now place placed node seen (slice_get-get_or list place c.index-nodes-place.result within))
    c.in-Inner.is (λ h. let family : c.is_family.result ≡ true = c.is_family.ensures.answer.1 h in cc)

pub returns-then-is_connected-clause-answer : goal.returns-then-is_connected-clause-answer
returns-then-is_connected-clause-answer c placed seen =
    let nodes = c.args.nodes.now in
    let list = nodes.list.now in
    let terms = nodes.terms.now in
    let place = c.args.place in
    let fit = IsFit (length c.args.problem.now.clauses) (length c.args.branch.now) c.args.ancestor in
    let within = some_within fit list place c.requires.node in
    let node = get_or list place c.index-nodes-place.result in
    let at_place = slice_get-get_or list place c.index-nodes-place.result within in
    let says = node_of (λ (n : Node). IsTrue c.is_connected.result ↔ HasClosingLeaf (literal_of terms n.literal) (siblings (n.depth + 1) (drop (place + 1) (map (entry_of terms) list)))) list place node at_place c.is_connected.ensures in
    own_inner c.args.problem.now.clauses terms list c.args.branch.now place c.in-Inner.clause node placed.above placed.node c.args.ancestor
    (sees terms list c.args.branch.now place placed node seen at_place)
    c.in-Inner.is (c.is_family.ensures.answer.0 c.if-not-is_family.false) (says.0 c.if-is_connected.true)

pub returns-else-is_connected-clause-answer : goal.returns-else-is_connected-clause-answer
returns-else-is_connected-clause-answer c placed seen =
    let nodes = c.args.nodes.now in
    let list = nodes.list.now in
    let terms = nodes.terms.now in
    let place = c.args.place in
    let fit = IsFit (length c.args.problem.now.clauses) (length c.args.branch.now) c.args.ancestor in
    let within = some_within fit list place c.requires.node in
    let node = get_or list place c.index-nodes-place.result in
    let at_place = slice_get-get_or list place c.index-nodes-place.result within in
    let says = node_of (λ (n : Node). IsTrue c.is_connected.result ↔ HasClosingLeaf (literal_of terms n.literal) (siblings (n.depth + 1) (drop (place + 1) (map (entry_of terms) list)))) list place node at_place c.is_connected.ensures in
    no_connection c.args.problem.now.clauses terms list c.args.branch.now place c.in-Inner.clause node placed.above placed.node c.args.ancestor
    (sees terms list c.args.branch.now place placed node seen at_place)
    c.in-Inner.is (c.is_family.ensures.answer.0 c.if-not-is_family.false) (λ h. let closes : c.is_connected.result ≡ true = says.1 h in cc)

pub returns-then-is_closed_at-clause-answer : goal.returns-then-is_closed_at-clause-answer
returns-then-is_closed_at-clause-answer c placed seen =
    let nodes = c.args.nodes.now in
    let list = nodes.list.now in
    let place = c.args.place in
    let fit = IsFit (length c.args.problem.now.clauses) (length c.args.branch.now) c.args.ancestor in
    let within = some_within fit list place c.requires.node in
    let node = get_or list place c.index-nodes-place.result in
    own_leaf c.args.problem.now.clauses nodes.terms.now list c.args.branch.now place node placed.above placed.node c.args.ancestor
    (sees nodes.terms.now list c.args.branch.now place placed node seen (slice_get-get_or list place c.index-nodes-place.result within))
    c.in-Leaf.is (c.is_closed_at.ensures.0 c.if-is_closed_at.true)

pub returns-else-is_closed_at-clause-answer : goal.returns-else-is_closed_at-clause-answer
returns-else-is_closed_at-clause-answer c placed seen =
    let nodes = c.args.nodes.now in
    let list = nodes.list.now in
    let place = c.args.place in
    let fit = IsFit (length c.args.problem.now.clauses) (length c.args.branch.now) c.args.ancestor in
    let within = some_within fit list place c.requires.node in
    let node = get_or list place c.index-nodes-place.result in
    no_closing c.args.problem.now.clauses nodes.terms.now list c.args.branch.now place node placed.above placed.node c.args.ancestor
    (sees nodes.terms.now list c.args.branch.now place placed node seen (slice_get-get_or list place c.index-nodes-place.result within))
    c.in-Leaf.is (λ h. let closes : c.is_closed_at.result ≡ true = c.is_closed_at.ensures.1 h in cc)
