use Rattle.std.proofs.Common.{ℕ, ◌-◌, ◌<◌, ◌≤◌, ◌^◌, [], ◌∷◌, List, length, map, Some, sym, ◌∙◌, ap, subst, arith}
use Rattle.std.specs.Prelude.{All}
use Rattle.std.specs.Slice.Scan.{IsFirstPlace}
use Rattle.pm_logic.specs.Problem.{Problem, IsValid}
use Rattle.pm_store.specs.Equations.{Equations}
use Rattle.pm_run.specs.InStore.{AreBelow, HasArgsBelow}
use Rattle.pm_calculus.specs.Skeleton.{selected, built}
use Rattle.pm_calculus.specs.Alternatives.{heads, alternatives}
use Rattle.pm_machine.specs.State.{CellNode}
use Rattle.pm_machine.specs.Labels.{IsBuilt}
use Rattle.pm_machine.specs.Value.{skeleton}
use Rattle.pm_tab.specs.Searched.{Searched, level_of}
use Rattle.pm_tab.specs.Inside.Passing.{opposite_of, matches_at, top_in, HasSmallTops}
use Rattle.pm_tab.proofs.Counted.{views_none, few_heads}
use Rattle.pm_tab.proofs.Adding.{holds_at}
use Rattle.pm_tab.proofs.Small.{small_symbols}
use Rattle.pm_tab.proofs.Passing.{place_below, places_below, few_places, first_at_reduction, first_at_none, first_within_heads, next_below, first_at_extension, stops_at_start}
use Rattle.pm_tab.proofs.maker.TabMaker.hopeful.Goals as goal

pub returns-in_default-clause-first : goal.returns-in_default-clause-first
returns-in_default-clause-first c = λ level wide.
    let searched = c.args.self.now in
    let m = c.args.machine.now in
    let none = ap (λ (p : Problem). selected (built p.clauses m.state.steps)) (sym c.requires.problem) ∙ views_none (selected (skeleton m)) c.in_default.ensures.shown in
    stops_at_start searched m.state level c.args.from none
    (subst (λ (p : Problem). c.args.from ≤ length (alternatives (level_of searched level) (built p.clauses m.state.steps))) c.requires.problem
    (subst (λ w. c.args.from ≤ w) wide c.requires.from))

pub node_at-leaf-requires : goal.node_at-leaf-requires
node_at-leaf-requires c =
    let searched = c.args.self.now in
    let m = c.args.machine.now in
    let view = c.in-Some.view in
    let all = c.nodes-nodes.result.now in
    place_below searched m c.requires.problem c.in-Some.ensures.built view c.in-Some.ensures.shown all c.nodes-nodes.ensures.nodes c.place.result c.place.ensures

pub hopeful_reduction-first-requires-clause-within : goal.hopeful_reduction-first-requires-clause-within
hopeful_reduction-first-requires-clause-within c =
    let searched = c.args.self.now in
    let m = c.args.machine.now in
    let view = c.in-Some.view in
    let all = c.nodes-nodes.result.now in
    places_below searched m c.requires.problem c.in-Some.ensures.built view c.in-Some.ensures.shown all c.nodes-nodes.ensures.nodes c.place.result c.place.ensures
    c.node_at-leaf.result.now c.node_at-leaf.ensures c.ancestors.result.now c.ancestors.ensures

pub hopeful_reduction-first-requires-clause-few : goal.hopeful_reduction-first-requires-clause-few
hopeful_reduction-first-requires-clause-few c =
    let searched = c.args.self.now in
    let m = c.args.machine.now in
    let view = c.in-Some.view in
    let all = c.nodes-nodes.result.now in
    few_places searched m c.requires.problem c.in-Some.ensures.built view c.in-Some.ensures.shown all c.nodes-nodes.ensures.nodes c.place.result c.place.ensures
    c.node_at-leaf.result.now c.node_at-leaf.ensures c.ancestors.result.now c.ancestors.ensures c.requires.width.0 c.args.width c.requires.width.1 c.ranges.width.fits

pub returns-then-first-reductions-clause-first : goal.returns-then-first-reductions-clause-first
returns-then-first-reductions-clause-first c = λ level wide.
    let searched = c.args.self.now in
    let m = c.args.machine.now in
    let view = c.in-Some.view in
    let all = c.nodes-nodes.result.now in
    first_at_reduction searched m c.requires.problem c.in-Some.ensures.built view c.in-Some.ensures.shown all c.nodes-nodes.ensures.nodes c.place.result c.place.ensures
    c.node_at-leaf.result.now c.node_at-leaf.ensures c.ancestors.result.now c.ancestors.ensures
    c.args.from c.hopeful_reduction-first.result c.hopeful_reduction-first.ensures level c.if-first-reductions.true

pub returns-then-width-reductions-clause-first : goal.returns-then-width-reductions-clause-first
returns-then-width-reductions-clause-first c = λ level wide.
    let searched = c.args.self.now in
    let m = c.args.machine.now in
    let view = c.in-Some.view in
    let all = c.nodes-nodes.result.now in
    first_at_none searched m c.requires.problem c.in-Some.ensures.built view c.in-Some.ensures.shown all c.nodes-nodes.ensures.nodes c.place.result c.place.ensures
    c.node_at-leaf.result.now c.node_at-leaf.ensures c.ancestors.result.now c.ancestors.ensures
    c.args.from c.hopeful_reduction-first.result c.hopeful_reduction-first.ensures level c.args.width wide c.requires.from c.if-width-reductions.true c.if-first-reductions.false

pub tops-goal-requires-clause-within : goal.tops-goal-requires-clause-within
tops-goal-requires-clause-within c =
    let searched = c.args.self.now in
    let m = c.args.machine.now in
    let view = c.in-Some.view in
    let all = c.nodes-nodes.result.now in
    let low = place_below searched m c.requires.problem c.in-Some.ensures.built view c.in-Some.ensures.shown all c.nodes-nodes.ensures.nodes c.place.result c.place.ensures in
    let cells = subst (λ ns. All (λ (n : CellNode). HasArgsBelow (length m.state.equations.cells) n.literal) ns) (sym c.nodes-nodes.ensures.nodes) c.in-Some.ensures.built.cells in
    let own = holds_at (λ (n : CellNode). HasArgsBelow (length m.state.equations.cells) n.literal) all c.place.result c.node_at-leaf.result.now cells low c.node_at-leaf.ensures in
    subst (λ (s : Equations). AreBelow (length s.cells) c.deref.result.now) (sym c.store.ensures) (subst (AreBelow (length m.state.equations.cells)) (sym c.deref.ensures) own)

pub tops-goal-requires-clause-symbols : goal.tops-goal-requires-clause-symbols
tops-goal-requires-clause-symbols c =
    let searched = c.args.self.now in
    let m = c.args.machine.now in
    let view = c.in-Some.view in
    let all = c.nodes-nodes.result.now in
    let low = place_below searched m c.requires.problem c.in-Some.ensures.built view c.in-Some.ensures.shown all c.nodes-nodes.ensures.nodes c.place.result c.place.ensures in
    let chosen = c.requires.chosen in
    let valid = subst (λ (v : Searched). IsValid v.problem) c.self.view_is c.self.invariant.0 in
    let few = subst (λ (v : Searched). length v.problem.symbols < 2 ^ 32) c.self.view_is c.self.invariant.1 in
    let is = subst (λ p. IsBuilt p m.state) c.requires.problem c.in-Some.ensures.built in
    let state = chosen.2 ∙ ap (λ (p : Problem). Some (built p.clauses m.state.steps)) c.requires.problem in
    let small = small_symbols (level_of searched chosen.0) chosen.1 m.state valid few is state in
    let own = holds_at (λ (n : CellNode). HasSmallTops m.state.equations n.literal.args) all c.place.result c.node_at-leaf.result.now
    (subst (λ ns. All (λ (n : CellNode). HasSmallTops m.state.equations n.literal.args) ns) (sym c.nodes-nodes.ensures.nodes) small) low c.node_at-leaf.ensures in
    subst (λ (s : Equations). HasSmallTops s c.deref.result.now) (sym c.store.ensures) (subst (HasSmallTops m.state.equations) (sym c.deref.ensures) own)

pub compatible_head-place-requires : goal.compatible_head-place-requires
compatible_head-place-requires c =
    let searched = c.args.self.now in
    let m = c.args.machine.now in
    let view = c.in-Some.view in
    let all = c.nodes-nodes.result.now in
    first_within_heads searched m c.requires.problem c.in-Some.ensures.built view c.in-Some.ensures.shown all c.nodes-nodes.ensures.nodes c.place.result c.place.ensures
    c.node_at-leaf.result.now c.node_at-leaf.ensures c.ancestors.result.now c.ancestors.ensures
    c.args.from c.hopeful_reduction-first.result c.hopeful_reduction-first.ensures c.requires.width.0 c.args.width c.requires.width.1 c.requires.from c.if-width-reductions.false c.if-first-reductions.false

pub overflow_cast-result : goal.overflow_cast-result
overflow_cast-result c =
    let valid = subst (λ (v : Searched). IsValid v.problem) c.self.view_is c.self.invariant.0 in
    omega (arith, c.compatible_head-place.ensures.high, few_heads c.args.self.now.problem (opposite_of c.in-Some.view) valid)

pub overflow_add-result : goal.overflow_add-result
overflow_add-result c =
    let searched = c.args.self.now in
    let m = c.args.machine.now in
    let view = c.in-Some.view in
    let all = c.nodes-nodes.result.now in
    let below = next_below searched m c.requires.problem c.in-Some.ensures.built view c.in-Some.ensures.shown all c.nodes-nodes.ensures.nodes c.place.result c.place.ensures
    c.node_at-leaf.result.now c.node_at-leaf.ensures c.ancestors.result.now c.ancestors.ensures
    c.args.from c.hopeful_reduction-first.result c.hopeful_reduction-first.ensures c.requires.width.0 c.args.width c.compatible_head-place.result c.requires.width.1 c.if-width-reductions.false c.compatible_head-place.ensures.high in
    omega (arith, below, c.ranges.width.fits)

pub returns-clause-first : goal.returns-clause-first
returns-clause-first c = λ level wide.
    let searched = c.args.self.now in
    let m = c.args.machine.now in
    let view = c.in-Some.view in
    let all = c.nodes-nodes.result.now in
    let tops = c.tops-goal.ensures ∙ ap (λ (s : Equations). map (top_in s c.deref.result.now) (0 ∷ 1 ∷ 2 ∷ 3 ∷ [])) c.store.ensures
    ∙ ap (λ (cells : List ℕ). map (top_in m.state.equations cells) (0 ∷ 1 ∷ 2 ∷ 3 ∷ [])) c.deref.ensures in
    first_at_extension searched m c.requires.problem c.in-Some.ensures.built view c.in-Some.ensures.shown all c.nodes-nodes.ensures.nodes c.place.result c.place.ensures
    c.node_at-leaf.result.now c.node_at-leaf.ensures c.ancestors.result.now c.ancestors.ensures
    c.args.from c.hopeful_reduction-first.result c.hopeful_reduction-first.ensures level c.args.width c.compatible_head-place.result wide c.if-width-reductions.false c.if-first-reductions.false
    (subst (λ goal_tops. IsFirstPlace (matches_at searched.problem.clauses (opposite_of view) goal_tops) (c.hopeful_reduction-first.result - (view.depth - 1))
    (length (heads (opposite_of view) searched.problem.clauses)) c.compatible_head-place.result) tops c.compatible_head-place.ensures)
