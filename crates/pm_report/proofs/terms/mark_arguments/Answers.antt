use Rattle.std.proofs.Common.{◌≡◌, ◌∙◌, ap, sym, take}
use Rattle.std.proofs.lemmas.List.{take_all}
use Rattle.std.specs.List.{list_any}
use Rattle.pm_report.specs.Inside.Marks.{is_row_among}
use Rattle.pm_report.proofs.MarkLemmas.{argument_row, row_occurs}
use Rattle.pm_report.proofs.terms.mark_arguments.Goals as goal

pub returns-clause-occur : goal.returns-clause-occur
returns-clause-occur c row e =
    let nodes = c.nodes-node-items.result.now in
    let all : take c.loop-node.node-index nodes ≡ nodes = take_all c.loop-node.node-index nodes c.loop-node-test.false in
    row_occurs c.args.tableau.now.terms c.args.tableau.now.tableau nodes row c.nodes-node-items.ensures.nodes
    (sym (c.loop-node.invariant.1 row ∙ ap (list_any (λ node. is_row_among row node.literal.args.items)) all) ∙ e)

pub returns-clause-each : goal.returns-clause-each
returns-clause-each c e there t h =
    let nodes = c.nodes-node-items.result.now in
    let all : take c.loop-node.node-index nodes ≡ nodes = take_all c.loop-node.node-index nodes c.loop-node-test.false in
    let found = argument_row c.args.tableau.now.terms c.args.tableau.now.tableau nodes c.nodes-node-items.ensures.nodes e there t h in
    (found.0, found.1, c.loop-node.invariant.1 found.0 ∙ ap (list_any (λ node. is_row_among found.0 node.literal.args.items)) all ∙ found.2)
