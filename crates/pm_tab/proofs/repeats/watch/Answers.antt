use Rattle.std.proofs.Common.{map, get_or, refl, sym, subst, arith}
use Rattle.std.proofs.lemmas.Bool.{MatchBool-at_true, MatchBool-at_false}
use Rattle.std.proofs.lemmas.List.{length-map}
use Rattle.pm_machine.specs.Node.{node_of}
use Rattle.pm_tab.specs.Repeats.{pairs_with, literals_in}
use Rattle.pm_tab.specs.Inside.Adding.{literal_on, IsChildOf, AddsPairs, HasIdentical}
use Rattle.pm_tab.proofs.Adding.{holds_at, family_more, identical_in_family, adds_none, adds_then, grew_none, grew_then}
use Rattle.pm_tab.proofs.Told.{zip_long, told_one}
use Rattle.pm_tab.proofs.repeats.watch.Goals as goal

pub children-init : goal.children-init
children-init c = (adds_none c.args.store.now c.args.pool.now c.requires.stands, grew_none c.args.pool.now)

pub bounds-numbers-i : goal.bounds-numbers-i
bounds-numbers-i c =
    let numbered = zip_long _ _ _ c.requires.numbers.family in
    let children = length-map c.args.children.now literal_on in
    omega (arith, numbered, children, c.children-test.true)

pub watch_child-requires-clause-numbers : goal.watch_child-requires-clause-numbers
watch_child-requires-clause-numbers c =
    told_one c.args.store.now (literals_in (map node_of c.args.nodes.now) c.args.branch.now) c.args.ids.now literal_on c.args.children.now c.args.numbers.now
    c.requires.numbers c.children.i c.index-children-i.result (get_or c.args.numbers.now c.children.i 0) c.children-test.true c.index-children-i.is refl

pub watch_child-requires-clause-child : goal.watch_child-requires-clause-child
watch_child-requires-clause-child c =
    holds_at (IsChildOf c.args.store.now (map node_of c.args.nodes.now)) c.args.children.now c.children.i c.index-children-i.result
    c.requires.children c.children-test.true c.index-children-i.is

pub returns-then-not-branch-clause-repeats : goal.returns-then-not-branch-clause-repeats
returns-then-not-branch-clause-repeats c =
    let branch = literals_in (map node_of c.args.nodes.now) c.args.branch.now in
    identical_in_family branch c.args.children.now c.children.i c.index-children-i.result c.children-test.true c.index-children-i.is c.args.store.now
    (MatchBool-at_false _ (HasIdentical c.args.store.now (pairs_with branch (literal_on c.index-children-i.result))) c.if-not-branch.true c.in_ok-watch_child.ensures.repeats)

pub children-preserved : goal.children-preserved
children-preserved c =
    let branch = literals_in (map node_of c.args.nodes.now) c.args.branch.now in
    let added = MatchBool-at_true (AddsPairs c.args.store.now c.children.pool c.watch_child.new.pool (pairs_with branch (literal_on c.index-children-i.result))) _
    c.if-not-branch.false c.in_ok-watch_child.ensures.apart in (
      subst (AddsPairs c.args.store.now c.args.pool.now c.watch_child.new.pool)
          (sym (family_more branch c.args.children.now c.children.i c.index-children-i.result c.children-test.true c.index-children-i.is))
          (adds_then c.args.store.now _ _ _ _ _ c.children.invariant.0 added),
      grew_then _ _ _ c.children.invariant.1 c.in_ok-watch_child.ensures.more,
    )
