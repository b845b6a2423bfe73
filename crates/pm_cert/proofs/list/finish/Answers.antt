use Rattle.std.proofs.Common.{◌<◌, ◌++◌, ◌∷◌, [], ℕ, List, length, sym, subst}
use Rattle.pm_logic.specs.Term.{Term, tree_at}
use Rattle.pm_cert.specs.Terms.{subterms}
use Rattle.pm_cert.specs.Inside.Listing.{AreFinished, HasArgsIn}
use Rattle.pm_cert.proofs.TermLemmas.{subterms-follow}
use Rattle.pm_cert.proofs.ListingLemmas.{turn-close, turn-next, smaller-close, smaller-next, within-close, within-next}
use Rattle.pm_cert.proofs.list.finish.Goals as goal

pub terms-preserved-in_default-split_first : goal.terms-preserved-in_default-split_first
terms-preserved-in_default-split_first c =
    let terms = c.args.terms.now in
    let last = c.in-Some.term in
    let split = within-close (length terms) c.terms.opened.items c.pop.new.self.items last c.in-Some.ensures.items c.terms.invariant.1 in (
      λ finished are.
          let so_far = c.terms.invariant.0 finished are in
          let done : List Term = finished ++ so_far.0 in
          turn-close terms finished (subterms (tree_at terms c.args.row)) c.terms.list.keys c.terms.opened.items c.pop.new.self.items last c.in-Some.ensures.items so_far
          c.add.new.list.keys c.in_default-split_first.ensures.cases (subterms-follow (tree_at terms c.args.row) finished)
          (λ h. subst (λ (r : ℕ). AreFinished terms (done ++ tree_at terms r ∷ []) c.add.new.list.keys) c.id.ensures
          (c.in_ok-add.ensures terms done (subst (λ (r : ℕ). r < length terms) (sym c.id.ensures) split.1.row) so_far.1
          (subst (λ (r : ℕ). HasArgsIn done (tree_at terms r)) (sym c.id.ensures) h))),
      split.0,
    )

pub terms-smaller-in_default-split_first : goal.terms-smaller-in_default-split_first
terms-smaller-in_default-split_first c = smaller-close c.args.terms.now c.terms.opened.items c.pop.new.self.items c.in-Some.term c.in-Some.ensures.items

pub terms-preserved : goal.terms-preserved
terms-preserved c =
    let terms = c.args.terms.now in
    let last = c.in-Some.term in
    let first = c.in-Some-split_first.first.now in
    let others = c.in-Some-split_first.others in
    let cut = c.in-Some-split_first.ensures.cases.0 in
    let next = within-next (length terms) c.terms.opened.items c.pop.new.self.items c.push.new.self.items last first others c.in-Some.ensures.items cut c.in_ok-push.ensures.items c.terms.invariant.1 in (
      λ finished are.
          let so_far = c.terms.invariant.0 finished are in
          turn-next terms finished (subterms (tree_at terms c.args.row)) c.terms.list.keys c.terms.opened.items c.pop.new.self.items last c.in-Some.ensures.items so_far
          c.enter-in-Some.new.list.keys first others c.push.new.self.items c.enter-in-Some.new.opened.items cut c.in_ok-push.ensures.items
          (c.in_ok-enter-2.ensures.steps (finished ++ so_far.0)),
      c.in_ok-enter-2.ensures.within next.0,
    )

pub terms-smaller : goal.terms-smaller
terms-smaller c =
    smaller-next c.args.terms.now c.terms.opened.items c.pop.new.self.items c.push.new.self.items c.enter-in-Some.new.opened.items c.in-Some.term c.in-Some-split_first.first.now c.in-Some-split_first.others
    c.in-Some.ensures.items c.in-Some-split_first.ensures.cases.0 c.in_ok-push.ensures.items c.in_ok-enter-2.ensures.size
