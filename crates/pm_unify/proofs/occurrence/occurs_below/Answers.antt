use Rattle.std.proofs.Common.{◌≡◌, ℕ, List, [], refl, sym, subst, rules, eqb-true, true≢false}
use Rattle.pm_unify.proofs.OccurrenceLemmas.{Searches, cells_fewer, args_fewer, turn_found, turn_lacks, turn_again, turn_enters, search_ends}
use Rattle.pm_unify.proofs.occurrence.occurs_below.Goals as goal

pub returns-then-eq : goal.returns-then-eq
returns-then-eq c = (
  λ _. turn_found _ _ _ _ _ _ _ c.in-Some.ensures.items c.loop-cell.invariant c.in-Free.w c.requires.sound c.in-Free.ensures.shown.1 c.in-Free.ensures.tree
      (sym (eqb-true _ _ (sym c.if-eq.ensures))),
  λ _. refl,
)

pub loop-cell-smaller-else-eq : goal.loop-cell-smaller-else-eq
loop-cell-smaller-else-eq c = cells_fewer c.args.store.now _ _ _ c.in-Some.ensures.items

pub loop-cell-preserved-else-eq : goal.loop-cell-preserved-else-eq
loop-cell-preserved-else-eq c =
    turn_lacks _ _ _ _ _ _ _ c.in-Some.ensures.items c.loop-cell.invariant c.in-Free.w c.requires.sound c.in-Free.ensures.shown.1 c.in-Free.ensures.tree
    (sym c.if-eq.ensures)

pub loop-cell-smaller-in-Continue-branch-3 : goal.loop-cell-smaller-in-Continue-branch-3
loop-cell-smaller-in-Continue-branch-3 c =
    args_fewer c.args.store.now _ _ _ _ _ _ c.in-Some.ensures.items c.in_ok-extend_from_slice-in-App.ensures.ok c.in-App.ensures.tree

pub loop-cell-preserved-in-Continue-branch-3 : goal.loop-cell-preserved-in-Continue-branch-3
loop-cell-preserved-in-Continue-branch-3 c =
    turn_enters _ _ _ _ _ _ _ c.in-Some.ensures.items c.loop-cell.invariant _ _ _ _ _ c.in_ok-visit-in-App.ensures c.if-branch.true
    c.in_ok-extend_from_slice-in-App.ensures.ok c.in-App.ensures.shown.1 c.in-App.ensures.tree

pub loop-cell-smaller : goal.loop-cell-smaller
loop-cell-smaller c = cells_fewer c.args.store.now _ _ _ c.in-Some.ensures.items

pub loop-cell-preserved : goal.loop-cell-preserved
loop-cell-preserved c =
    turn_again _ _ _ _ _ _ _ c.in-Some.ensures.items c.loop-cell.invariant _ _ c.in_ok-visit-in-App.ensures c.if-branch.false

pub returns : goal.returns
returns c =
    let none : c.loop-cell.pending.items ≡ [] = search rules in
    let lacks = search_ends _ _ _ _ (subst (λ (cs : List ℕ). Searches c.args.store.now c.args.v c.args.t cs c.loop-cell.visited.keys) none c.loop-cell.invariant) in
    (λ answer. absurd (true≢false (sym answer)), λ occurs. absurd (lacks occurs))
