use Rattle.std.proofs.Common.{ℕ, ◌∷◌, [], length, map, get_or, refl, sym, subst, arith}
use Rattle.std.proofs.lemmas.Bool.{MatchBool-at_true, MatchBool-at_false}
use Rattle.std.proofs.lemmas.List.{length-map}
use Rattle.pm_logic.specs.Term.{Term}
use Rattle.pm_store.specs.Solutions.{Solves}
use Rattle.pm_machine.specs.Node.{node_of}
use Rattle.pm_run.specs.InStore.{HasArgsBelow}
use Rattle.pm_machine.specs.State.{CellNode}
use Rattle.pm_tab.specs.Repeats.{AreApart, pairs_with, no_literal, literal_at, literals_in}
use Rattle.pm_tab.specs.Inside.Adding.{literal_on, AddsPairs, HasIdentical}
use Rattle.pm_tab.proofs.Adding.{place_low, holds_at, child_below, pairs_next, pairs_more, identical_on_branch, adds_settled, adds_none, adds_then, grew_none, grew_then}
use Rattle.pm_tab.proofs.Told.{zip_long, found_repeats, other_number}
use Rattle.pm_tab.proofs.repeats.watch_child.Goals as goal
use Rattle.pm_tab.proofs.repeats.watch_child.Goals.{else-number-gt0-via-then-number-gt0+else-is_some, else-number-gt0-via-else-number-gt0}

pub returns-then-is_some-clause-repeats : goal.returns-then-is_some-clause-repeats
returns-then-is_some-clause-repeats c =
    found_repeats c.args.store.now (literals_in (map node_of c.args.nodes.now) c.args.branch.now) c.args.ids.now (literal_on c.args.child.now) c.args.number
    c.requires.numbers c.if-number-gt0.true c.requires.sound c.find_id.result c.find_id.ensures c.is_some.result c.is_some.ensures c.if-is_some.true

pub branch-init : goal.branch-init
branch-init c = (adds_none c.args.store.now c.args.pool.now c.requires.stands, grew_none c.args.pool.now)

pub bounds-ids-i : goal.bounds-ids-i
bounds-ids-i c =
    let numbered = zip_long _ _ _ c.requires.numbers.branch in
    let branch = length-map c.args.branch.now (literal_at (map node_of c.args.nodes.now)) in
    omega (arith, numbered, branch, c.branch-test.true)

pub branch-preserved-then-ids-i-gt0 : goal.branch-preserved-then-ids-i-gt0
branch-preserved-then-ids-i-gt0 c =
    let s = c.args.store.now in
    let nodes = map node_of c.args.nodes.now in
    let branch = literals_in nodes c.args.branch.now in
    let child = literal_on c.args.child.now in
    let i = c.branch.i in
    let numbered = zip_long _ _ _ c.requires.numbers.branch in
    let long = length-map c.args.branch.now (literal_at nodes) in
    let apart : (trees : ℕ → Term) → Solves s trees → AreApart trees (pairs_with (get_or branch i no_literal ∷ []) child) =
    elim c.else-number-gt0.branch [
      | else-number-gt0-via-then-number-gt0+else-is_some w ↦
          other_number s branch c.args.ids.now child c.args.number c.requires.numbers c.if-number-gt0-2.true w.find_id.result w.find_id.ensures w.is_some.result w.is_some.ensures w.if-is_some.false
          i (omega (arith, numbered, long, c.branch-test.true)) c.if-ids-i-gt0.true
      | else-number-gt0-via-else-number-gt0 w ↦ absurd (omega (arith, w.if-number-gt0.false, c.if-number-gt0-2.true))
    ] in (
      subst (AddsPairs s c.args.pool.now c.branch.pool) (sym (pairs_next nodes c.args.branch.now i child c.branch-test.true))
          (adds_then s c.args.pool.now c.branch.pool c.branch.pool _ _ c.branch.invariant.0 (adds_settled s c.branch.pool _ c.branch.invariant.0.stands apart)),
      c.branch.invariant.1,
    )

pub watch_pair-requires-clause-above : goal.watch_pair-requires-clause-above
watch_pair-requires-clause-above c =
    holds_at (λ (n : CellNode). HasArgsBelow (length c.args.store.now.cells) n.literal) c.args.nodes.now (get_or c.args.branch.now c.branch.i 0) c.index-nodes-place.result
    c.requires.branch.below (place_low c.args.nodes.now c.args.branch.now c.branch.i c.requires.branch.within c.branch-test.true) c.index-nodes-place.is

pub watch_pair-requires-clause-child : goal.watch_pair-requires-clause-child
watch_pair-requires-clause-child c =
    child_below c.args.store.now c.args.nodes.now (get_or c.args.branch.now c.branch.i 0) c.index-nodes-place.result c.args.child.now c.requires.child
    (place_low c.args.nodes.now c.args.branch.now c.branch.i c.requires.branch.within c.branch-test.true) c.index-nodes-place.is

pub returns-then-not-branch-clause-repeats : goal.returns-then-not-branch-clause-repeats
returns-then-not-branch-clause-repeats c =
    let i = c.branch.i in
    let low = place_low c.args.nodes.now c.args.branch.now i c.requires.branch.within c.branch-test.true in
    identical_on_branch c.args.nodes.now c.args.branch.now i (get_or c.args.branch.now i 0) c.index-nodes-place.result c.branch-test.true refl low c.index-nodes-place.is
    c.args.store.now (literal_on c.args.child.now)
    (MatchBool-at_false _ (HasIdentical c.args.store.now (pairs_with (literal_on c.index-nodes-place.result ∷ []) (literal_on c.args.child.now)))
    c.if-not-branch.true c.in_ok-watch_pair.ensures.repeats)

pub branch-preserved : goal.branch-preserved
branch-preserved c =
    let i = c.branch.i in
    let low = place_low c.args.nodes.now c.args.branch.now i c.requires.branch.within c.branch-test.true in
    let child = literal_on c.args.child.now in
    let added = MatchBool-at_true (AddsPairs c.args.store.now c.branch.pool c.watch_pair.new.pool (pairs_with (literal_on c.index-nodes-place.result ∷ []) child)) _
    c.if-not-branch.false c.in_ok-watch_pair.ensures.apart in (
      subst (AddsPairs c.args.store.now c.args.pool.now c.watch_pair.new.pool)
          (sym (pairs_more c.args.nodes.now c.args.branch.now i (get_or c.args.branch.now i 0) c.index-nodes-place.result c.branch-test.true refl low c.index-nodes-place.is child))
          (adds_then c.args.store.now _ _ _ _ _ c.branch.invariant.0 added),
      grew_then _ _ _ c.branch.invariant.1 c.in_ok-watch_pair.ensures.more,
    )
