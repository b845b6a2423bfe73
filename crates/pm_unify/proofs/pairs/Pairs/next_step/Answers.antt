use Rattle.std.proofs.Common.{◌≡◌, map, ◌∙◌, sym, ap, eqb-true}
use Rattle.pm_logic.specs.Term.{app, as_terms}
use Rattle.pm_store.specs.Trees.{tree}
use Rattle.std.proofs.lemmas.Option.{slice_get_within}
use Rattle.pm_store.proofs.TreeLemmas.{trees_solve}
use Rattle.pm_unify.proofs.LeavesLemmas.{leaves_all}
use Rattle.pm_unify.proofs.TurnLemmas.{pairs_fewer, total-replaced, parts_smaller, numbers_differ, numbers_same, variable_apart, application_apart, turn_equal, turn_binds_left, turn_binds_right, turn_clashes, turn_again, turn_apart}
use Rattle.pm_unify.specs.Inside.Pairs.{pair_size}
use Rattle.pm_unify.proofs.pairs.Pairs.next_step.Goals as goal
use Rattle.pm_unify.proofs.pairs.Pairs.next_step.Goals.{then-f-g-via-then-f-g, then-f-g-via-else-f-g+then-left-right}

pub loop-a-init : goal.loop-a-init
loop-a-init c = leaves_all _ _ _ c.requires.within c.requires.supported

pub loop-a-smaller-then-eq : goal.loop-a-smaller-then-eq
loop-a-smaller-then-eq c = pairs_fewer (tree c.args.store.now) _ _ _ c.in-Some.ensures.items

pub loop-a-preserved-then-eq : goal.loop-a-preserved-then-eq
loop-a-preserved-then-eq c =
    turn_equal _ _ _ _ _ _ _ c.in-Some.ensures.items c.loop-a.invariant (λ trees solves. ap trees (eqb-true _ _ (sym c.if-eq.ensures)))

pub loop-a-smaller-else-ne : goal.loop-a-smaller-else-ne
loop-a-smaller-else-ne c = pairs_fewer (tree c.args.store.now) _ _ _ c.in-Some.ensures.items

pub loop-a-preserved-else-ne : goal.loop-a-preserved-else-ne
loop-a-preserved-else-ne c =
    let same : c.in-Free.v ≡ c.in-Free-look.w = numbers_same _ _ (sym c.if-ne.ensures) in
    turn_equal _ _ _ _ _ _ _ c.in-Some.ensures.items c.loop-a.invariant
    (λ trees solves. c.in-Free.ensures.solutions trees solves ∙ ap trees same ∙ sym (c.in-Free-look.ensures.solutions trees solves))

pub returns-then-ne : goal.returns-then-ne
returns-then-ne c =
    turn_binds_left _ _ _ _ _ _ _ c.in-Some.ensures.items c.loop-a.invariant c.in-Free.v c.in-Free-look.w c.in-Free.ensures.shown.1
    (slice_get_within _ _ _ c.in-Free-look.ensures.shown.1.variable)
    (variable_apart _ _ _ c.requires.sound c.in-Free-look.ensures.shown.1 (numbers_differ _ _ (sym c.if-ne.ensures)))
    c.in-Free.ensures.solutions c.in-Free-look.ensures.solutions

pub returns-in-App-look : goal.returns-in-App-look
returns-in-App-look c =
    turn_binds_left _ _ _ _ _ _ _ c.in-Some.ensures.items c.loop-a.invariant c.in-Free.v _ c.in-Free.ensures.shown.1 c.end.ensures.within
    (application_apart _ _ _ _ _ (c.end.ensures.solutions _ (trees_solve _ c.requires.sound)) c.in-App-look.ensures.tree)
    c.in-Free.ensures.solutions c.end.ensures.solutions

pub returns-in-Free-look-2 : goal.returns-in-Free-look-2
returns-in-Free-look-2 c =
    turn_binds_right _ _ _ _ _ _ _ c.in-Some.ensures.items c.loop-a.invariant c.in-Free-look-2.w _ c.in-Free-look-2.ensures.shown.1 c.end-in-Free-look-2.ensures.within
    (application_apart _ _ _ _ _ (c.end-in-Free-look-2.ensures.solutions _ (trees_solve _ c.requires.sound)) c.in-App.ensures.tree)
    c.in-Free-look-2.ensures.solutions c.end-in-Free-look-2.ensures.solutions

pub returns-then-f-g : goal.returns-then-f-g
returns-then-f-g c =
    turn_clashes _ _ _ _ _ _ _ c.in-Some.ensures.items c.loop-a.invariant c.in-App.f c.in-App-look-2.g c.in-App.left.now c.in-App-look-2.right.now
    c.in-App.ensures.solutions c.in-App-look-2.ensures.solutions
    (elim c.then-f-g.branch [
      | then-f-g-via-then-f-g w ↦ (λ same count. w.if-f-g.true same)
      | then-f-g-via-else-f-g+then-left-right w ↦ (λ same count. w.if-left-right.true count)
    ])

pub loop-a-smaller-in-Continue-branch-2 : goal.loop-a-smaller-in-Continue-branch-2
loop-a-smaller-in-Continue-branch-2 c =
    total-replaced (pair_size (tree c.args.store.now)) _ _ _ _ _ c.in-Some.ensures.items c.in_ok-add_pairs-in-App-look-2.ensures
    (parts_smaller (tree c.args.store.now) _ _ _ _ _ c.in-App.ensures.tree c.in-App-look-2.ensures.tree)

pub loop-a-preserved-in-Continue-branch-2 : goal.loop-a-preserved-in-Continue-branch-2
loop-a-preserved-in-Continue-branch-2 c =
    let same : c.in-App.f ≡ c.in-App-look-2.g = c.if-f-g.false in
    turn_apart _ _ _ _ _ _ _ c.in-Some.ensures.items c.loop-a.invariant _ _ c.in-App.f c.in-App.left.now c.in-App-look-2.right.now
    _ c.in_ok-take-in-App-look-2.ensures c.if-branch.true c.in_ok-add_pairs-in-App-look-2.ensures (record {
      left_within = c.in-App.ensures.shown.1;
      right_within = c.in-App-look-2.ensures.shown.1;
      count = c.if-left-right.false;
      left = c.in-App.ensures.solutions;
      right = λ trees solves. c.in-App-look-2.ensures.solutions trees solves ∙ ap (λ f. app f (as_terms (map trees c.in-App-look-2.right.now))) (sym same);
    })

pub loop-a-smaller : goal.loop-a-smaller
loop-a-smaller c = pairs_fewer (tree c.args.store.now) _ _ _ c.in-Some.ensures.items

pub loop-a-preserved : goal.loop-a-preserved
loop-a-preserved c =
    turn_again _ _ _ _ _ _ _ c.in-Some.ensures.items c.loop-a.invariant _ _ c.in_ok-take-in-App-look-2.ensures c.if-branch.false
