use Rattle.std.proofs.Common.{◌+◌, ◌-◌, [], length, map, take, drop, refl, sym, ◌∙◌, subst}
use Rattle.std.specs.Prelude.{All}
use Rattle.std.specs.Bool.{OnTrue, OnFalse}
use Rattle.std.proofs.lemmas.Bool.{MatchBool-at_true, false≢true}
use Rattle.std.proofs.lemmas.Result.{IfOk-weaker}
use Rattle.pm_store.proofs.ListLemmas.{All-left}
use Rattle.pm_diseq.specs.Notes.{pairs_of}
use Rattle.pm_diseq.specs.Standing.{AreIdentical, StandsAt}
use Rattle.pm_machine.specs.Node.{node_of}
use Rattle.pm_tab.specs.Repeats.{family_pairs, literals_in, new_pairs}
use Rattle.pm_tab.specs.Inside.Adding.{literal_on, AreChildrenOf, AddsPairs, HasIdentical, WatchesMore, RepeatsSome}
use Rattle.pm_tab.specs.Inside.Numbering.{AreNumbered}
use Rattle.pm_tab.proofs.Adding.{on_true_so, on_false_so, adds_none, adds_after, identical_after}
use Rattle.pm_tab.proofs.Noting.{last_place, last_none, children_after, watched_pairs, watched_numbers, room_after}
use Rattle.pm_tab.proofs.repeats.settle.Goals as goal

pub returns-then-not-branch-clause-repeats : goal.returns-then-not-branch-clause-repeats
returns-then-not-branch-clause-repeats c = λ all.
    let s = c.args.machine.now.state.equations in
    false≢true (sym c.if-not-branch.true ∙ c.in_ok-settle_after.ensures.answer.1
    (subst (λ t. All (λ pair. ¬ AreIdentical t pair) (pairs_of c.args.pool.now)) (sym c.store-store.ensures)
    (All-left (λ pair. ¬ AreIdentical s pair) (pairs_of c.args.pool.now)
    (new_pairs c.args.machine.now.state.nodes c.args.branch.now (length c.args.machine.now.state.nodes - c.args.nodes)) all)))

pub nodes_after-children-requires : goal.nodes_after-children-requires
nodes_after-children-requires c =
    room_after c.nodes-all.result.now c.args.machine.now.state.nodes c.nodes-all.ensures.nodes c.args.branch.now c.in-Some.field-0.now c.in-Some.ensures.value c.args.nodes
    c.requires.room

pub watch-requires-clause-children : goal.watch-requires-clause-children
watch-requires-clause-children c =
    subst (λ ns. AreChildrenOf c.store-store.result.now (map node_of c.nodes-all.result.now) (map node_of ns)) (sym c.nodes_after-children.ensures)
    (subst (λ s. AreChildrenOf s (map node_of c.nodes-all.result.now) (map node_of (take (length c.nodes-all.result.now - c.args.nodes) (drop (c.in-Some.field-0.now + 1) c.nodes-all.result.now)))) (sym c.store-store.ensures)
    (children_after c.args.machine.now.problem c.args.machine.now.state c.nodes-all.ensures.built c.nodes-all.result.now c.nodes-all.ensures.nodes
    (length c.nodes-all.result.now - c.args.nodes) c.in-Some.field-0.now))

pub watch-requires-clause-numbers : goal.watch-requires-clause-numbers
watch-requires-clause-numbers c =
    let m = c.args.machine.now.state in
    subst (λ s. AreNumbered s (literals_in (map node_of c.nodes-all.result.now) c.args.branch.now) c.args.ids.now (map literal_on c.nodes_after-children.result.now) c.args.numbers.now)
    (sym c.store-store.ensures)
    (watched_numbers c.nodes-all.result.now m.nodes c.nodes-all.ensures.nodes c.args.branch.now c.in-Some.field-0.now c.in-Some.ensures.value c.args.nodes
    m.equations c.args.ids.now c.args.numbers.now c.nodes_after-children.result.now c.nodes_after-children.ensures
    (c.requires.numbers (last_place c.args.branch.now c.in-Some.field-0.now c.in-Some.ensures.value).0))

pub returns-in_default-clause-apart : goal.returns-in_default-clause-apart
returns-in_default-clause-apart c =
    let m = c.args.machine.now.state in
    let grown = c.settle_after.new.self in
    subst (λ ps. AddsPairs m.equations c.args.pool.now grown (new_pairs m.nodes ps (length m.nodes - c.args.nodes))) (sym (last_none c.args.branch.now c.in_default.ensures.value))
    (adds_after c.store-store.result.now m.equations c.args.pool.now grown grown [] [] c.store-store.ensures c.in_ok-settle_after.ensures.kept.pairs refl
    (adds_none c.store-store.result.now grown (MatchBool-at_true (StandsAt c.store-store.result.now grown) _ c.if-not-branch.false c.in_ok-settle_after.ensures.stands)))

pub returns-clause-apart : goal.returns-clause-apart
returns-clause-apart c =
    let m = c.args.machine.now.state in
    let fam = family_pairs (literals_in (map node_of c.nodes-all.result.now) c.args.branch.now) (map literal_on c.nodes_after-children.result.now) in
    let are = watched_pairs c.nodes-all.result.now m.nodes c.nodes-all.ensures.nodes c.args.branch.now c.in-Some.field-0.now c.in-Some.ensures.value c.args.nodes
    c.nodes_after-children.result.now c.nodes_after-children.ensures in
    IfOk-weaker c.watch.result (λ apart. OnTrue apart (AddsPairs c.store-store.result.now c.settle_after.new.self c.watch.new.pool fam))
    (λ apart. OnTrue apart (WatchesMore m c.args.pool.now c.watch.new.pool c.args.branch.now (length m.nodes - c.args.nodes)))
    (λ apart h. on_true_so apart (AddsPairs c.store-store.result.now c.settle_after.new.self c.watch.new.pool fam)
    (WatchesMore m c.args.pool.now c.watch.new.pool c.args.branch.now (length m.nodes - c.args.nodes))
    (adds_after c.store-store.result.now m.equations c.args.pool.now c.settle_after.new.self c.watch.new.pool fam _ c.store-store.ensures c.in_ok-settle_after.ensures.kept.pairs are) h)
    c.watch.ensures.apart

pub returns-clause-repeats : goal.returns-clause-repeats
returns-clause-repeats c =
    let m = c.args.machine.now.state in
    let fam = family_pairs (literals_in (map node_of c.nodes-all.result.now) c.args.branch.now) (map literal_on c.nodes_after-children.result.now) in
    let are = watched_pairs c.nodes-all.result.now m.nodes c.nodes-all.ensures.nodes c.args.branch.now c.in-Some.field-0.now c.in-Some.ensures.value c.args.nodes
    c.nodes_after-children.result.now c.nodes_after-children.ensures in
    IfOk-weaker c.watch.result (λ apart. OnFalse apart (HasIdentical c.store-store.result.now fam))
    (λ apart. OnFalse apart (RepeatsSome m c.args.pool.now c.args.branch.now (length m.nodes - c.args.nodes)))
    (λ apart h. on_false_so apart (HasIdentical c.store-store.result.now fam) (RepeatsSome m c.args.pool.now c.args.branch.now (length m.nodes - c.args.nodes))
    (identical_after c.store-store.result.now m.equations c.args.pool.now fam _ c.store-store.ensures are) h)
    c.watch.ensures.repeats
