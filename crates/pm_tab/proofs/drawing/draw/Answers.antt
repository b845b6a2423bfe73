use Rattle.std.proofs.Common.{length, map, sym, ◌∙◌, ap, subst}
use Rattle.std.specs.Prelude.{All}
use Rattle.pm_logic.specs.declared.tableau.Node.{Node}
use Rattle.pm_logic.specs.Tableau.{TableauWithTerms}
use Rattle.pm_logic.specs.View.{HasRows, entry_of}
use Rattle.pm_run.specs.InStore.{HasArgsBelow}
use Rattle.pm_machine.specs.State.{CellNode}
use Rattle.pm_machine.specs.Node.{node_of}
use Rattle.pm_tab.specs.Inside.Drawing.{AreNested, AreDrawn}
use Rattle.pm_tab.proofs.Numbered.{all_mapped}
use Rattle.pm_tab.proofs.Drawn.{rows_within, drawn_nested, drawn_is}
use Rattle.pm_tab.proofs.drawing.draw.Goals as goal

pub draw_nodes-requires-clause-within : goal.draw_nodes-requires-clause-within
draw_nodes-requires-clause-within c =
    let below = subst (λ ns. All (λ (n : CellNode). HasArgsBelow (length c.args.machine.now.state.equations.cells) n.literal) ns) (sym c.nodes.ensures.nodes) c.nodes.ensures.built.cells in
    all_mapped (λ (n : CellNode). HasArgsBelow (length c.store.result.now.cells) n.literal) node_of c.nodes.result.now
    (subst (λ s. All (λ (n : CellNode). HasArgsBelow (length s.cells) n.literal) (map node_of c.nodes.result.now)) (sym c.store.ensures) below)

pub add_all-requires-clause-nested : goal.add_all-requires-clause-nested
add_all-requires-clause-nested c =
    let m = c.args.machine.now.state in
    let table = c.draw_nodes.new.terms in
    let ns = c.in_ok-nodes.nodes.items in
    let drawn = subst (λ s. AreDrawn s table m.nodes ns) c.store.ensures (subst (λ cells. AreDrawn c.store.result.now table cells ns) c.nodes.ensures.nodes c.in_ok-nodes.ensures) in
    subst (λ (t : TableauWithTerms). AreNested 1 (map (entry_of t.terms) ns)) (sym c.new-tableau.ensures)
    (drawn_nested c.args.machine.now.problem m c.nodes.ensures.built table ns drawn)

pub add_all-requires-clause-rows : goal.add_all-requires-clause-rows
add_all-requires-clause-rows c =
    let m = c.args.machine.now.state in
    let table = c.draw_nodes.new.terms in
    let ns = c.in_ok-nodes.nodes.items in
    let drawn = subst (λ s. AreDrawn s table m.nodes ns) c.store.ensures (subst (λ cells. AreDrawn c.store.result.now table cells ns) c.nodes.ensures.nodes c.in_ok-nodes.ensures) in
    subst (λ (t : TableauWithTerms). All (λ (node : Node). HasRows (length t.terms) node.literal) ns) (sym c.new-tableau.ensures)
    (rows_within c.args.machine.now.problem m c.nodes.ensures.built table ns drawn)

pub returns : goal.returns
returns c =
    let m = c.args.machine.now.state in
    let table = c.draw_nodes.new.terms in
    let ns = c.in_ok-nodes.nodes.items in
    let drawn = subst (λ s. AreDrawn s table m.nodes ns) c.store.ensures (subst (λ cells. AreDrawn c.store.result.now table cells ns) c.nodes.ensures.nodes c.in_ok-nodes.ensures) in
    drawn_is c.args.machine.now.problem m c.nodes.ensures.built table ns drawn c.args.root c.add_all.new.tableau.tableau
    (c.in_ok-add_all.ensures.root ∙ ap (λ (t : TableauWithTerms). t.tableau.root) c.new-tableau.ensures)
    (c.in_ok-add_all.ensures.nodes ∙ ap (λ (t : TableauWithTerms). map (entry_of t.terms) ns) c.new-tableau.ensures)
