use Rattle.std.proofs.Common.{◌≡◌, ◌++◌, [], map, sym, ◌∙◌, ap, eqb-true, rules}
use Rattle.std.specs.List.{zip}
use Rattle.pm_logic.specs.Term.{app, as_terms}
use Rattle.pm_store.specs.Trees.{tree}
use Rattle.pm_store.proofs.ListLemmas.{same_from_test, other_from_test}
use Rattle.pm_diseq.proofs.CompareLemmas.{compares_first, compares_done, pairs_fewer, parts_fewer, pair_within, turn_equal, turn_again, turn_apart, turn_variables, turn_variable, turn_clash}
use Rattle.pm_diseq.proofs.comparison.Comparison.difference.Goals as goal
use Rattle.pm_diseq.proofs.comparison.Comparison.difference.Goals.{then-f-g-via-then-f-g, then-f-g-via-else-f-g+then-xs-ys}

pub places-init : goal.places-init
places-init c =
    compares_first _ _ _ _ _ c.requires.within
    (c.in_ok-add_places.ensures ∙ ap (λ ps. ps ++ zip c.args.left.now c.args.right.now) c.requires.pending) c.requires.taken

pub places-smaller-then-eq : goal.places-smaller-then-eq
places-smaller-then-eq c = pairs_fewer c.args.store.now _ _ _ c.in-Some.ensures.items

pub places-preserved-then-eq : goal.places-preserved-then-eq
places-preserved-then-eq c =
    turn_equal _ _ _ _ _ _ c.in-Some.ensures.items c.places.invariant (ap (tree c.args.store.now) (eqb-true _ _ (sym c.if-eq.ensures)))

pub look-requires : goal.look-requires
look-requires c = (pair_within _ _ _ _ _ _ c.in-Some.ensures.items c.places.invariant).0

pub look-requires-in-Free : goal.look-requires-in-Free
look-requires-in-Free c = (pair_within _ _ _ _ _ _ c.in-Some.ensures.items c.places.invariant).1

pub look-requires-in-App : goal.look-requires-in-App
look-requires-in-App c = (pair_within _ _ _ _ _ _ c.in-Some.ensures.items c.places.invariant).1

pub returns-then-ne : goal.returns-then-ne
returns-then-ne c =
    turn_variables _ _ _ _ _ _ c.in-Some.ensures.items c.places.invariant _ _ c.in-Free.ensures.shown.1 c.in-Free-look.ensures.shown.1
    (other_from_test _ _ (sym c.if-ne.ensures)) c.in-Free.ensures.solutions c.in-Free-look.ensures.solutions

pub places-smaller-else-ne : goal.places-smaller-else-ne
places-smaller-else-ne c = pairs_fewer c.args.store.now _ _ _ c.in-Some.ensures.items

pub places-preserved-else-ne : goal.places-preserved-else-ne
places-preserved-else-ne c =
    let same : c.in-Free.v ≡ c.in-Free-look.w = same_from_test _ _ (sym c.if-ne.ensures) in
    turn_equal _ _ _ _ _ _ c.in-Some.ensures.items c.places.invariant
    (c.in-Free.ensures.tree ∙ ap (tree c.args.store.now) same ∙ sym c.in-Free-look.ensures.tree)

pub returns-in-App-look : goal.returns-in-App-look
returns-in-App-look c =
    turn_variable _ _ _ _ _ _ c.in-Some.ensures.items c.places.invariant _ _ _ c.in-App-look.symbol c.in-App-look.args.now c.in-Free.ensures.shown.1
    (λ trees solves equal. equal) c.in-Free.ensures.solutions c.in-App-look.ensures.solutions

pub returns-in-Free-look-2 : goal.returns-in-Free-look-2
returns-in-Free-look-2 c =
    turn_variable _ _ _ _ _ _ c.in-Some.ensures.items c.places.invariant _ _ _ c.in-App.f c.in-App.xs.now c.in-Free-look-2.ensures.shown.1
    (λ trees solves equal. sym equal) c.in-Free-look-2.ensures.solutions c.in-App.ensures.solutions

pub returns-then-f-g : goal.returns-then-f-g
returns-then-f-g c =
    turn_clash _ _ _ _ _ _ c.in-Some.ensures.items c.places.invariant c.in-App.f c.in-App-look-2.g c.in-App.xs.now c.in-App-look-2.ys.now
    c.in-App.ensures.solutions c.in-App-look-2.ensures.solutions
    (elim c.then-f-g.branch [
      | then-f-g-via-then-f-g w ↦ (λ same count. w.if-f-g.true same)
      | then-f-g-via-else-f-g+then-xs-ys w ↦ (λ same count. w.if-xs-ys.true count)
    ])

pub places-smaller-in-Continue-branch-3 : goal.places-smaller-in-Continue-branch-3
places-smaller-in-Continue-branch-3 c =
    parts_fewer c.args.store.now _ _ _ _ _ _ _ _ c.in-Some.ensures.items c.in_ok-add_places-in-App-look-2.ensures c.in-App.ensures.tree c.in-App-look-2.ensures.tree

pub places-preserved-in-Continue-branch-3 : goal.places-preserved-in-Continue-branch-3
places-preserved-in-Continue-branch-3 c =
    let same : c.in-App.f ≡ c.in-App-look-2.g = c.if-f-g.false in
    turn_apart _ _ _ _ _ _ c.in-Some.ensures.items c.places.invariant _ _ c.in-App.f c.in-App.xs.now c.in-App-look-2.ys.now
    _ c.stores_are_sound.ensures c.in_ok-note-in-App-look-2.ensures c.if-branch.true c.in_ok-add_places-in-App-look-2.ensures (record {
      left_within = c.in-App.ensures.shown.1;
      right_within = c.in-App-look-2.ensures.shown.1;
      count = c.if-xs-ys.false;
      left = c.in-App.ensures.solutions;
      right = λ trees solves. c.in-App-look-2.ensures.solutions trees solves ∙ ap (λ f. app f (as_terms (map trees c.in-App-look-2.ys.now))) (sym same);
    })

pub places-smaller : goal.places-smaller
places-smaller c = pairs_fewer c.args.store.now _ _ _ c.in-Some.ensures.items

pub places-preserved : goal.places-preserved
places-preserved c =
    turn_again _ _ _ _ _ _ c.in-Some.ensures.items c.places.invariant _ _ c.in_ok-note-in-App-look-2.ensures c.if-branch.false

pub returns : goal.returns
returns c =
    let none : c.places.self.pending.items ≡ [] = search rules in
    compares_done _ _ _ _ none c.places.invariant
