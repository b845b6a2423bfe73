use Rattle.std.proofs.Common.{◌≡◌, ℕ, ◌+◌, ◌∙◌, Bool, true, List, [], ◌∷◌, ◌++◌, get_or, MatchBool, refl, subst, sym, ap, arith}
use Rattle.std.proofs.lemmas.List.{take_more}
use Rattle.pm_search.specs.Inside.Places.{SameBelow}
use Rattle.pm_search.proofs.AgreeLemmas.{agree_trans}
use Rattle.pm_search.proofs.DescendLemmas.{parted, same_at_end, same_at_miss, stop_at, walk_on}
use Rattle.pm_search.proofs.place.descend.Goals as goal

pub returns-then-width-choice-clause-same : goal.returns-then-width-choice-clause-same
returns-then-width-choice-clause-same g c =
    let choice : ℕ = get_or c.in-Some.before.now c.down.choice-index 0 in
    let part = parted c.args.list.now c.in-Some.before.now c.down.place.items c.in-Some.last.now c.down.choice-index choice c.in-Some.ensures.cases.0 c.down-test.true refl c.down.invariant.walked in
    let wide : c.width-width.result ≡ (g.S.Space.key c.args.space.now).width c.down.place.items =
    c.width-width.ensures.width ∙ c.down.invariant.key.width (g.S.Space.path c.down.space) ∙ ap (g.S.Space.key c.args.space.now).width c.down.invariant.path in
    subst (λ (l : List ℕ). SameBelow (g.S.Space.key c.args.space.now) c.args.list.now l) (sym c.in_ok-push-4.ensures.items)
    (same_at_end (g.S.Space.key c.args.space.now) (g.met.S.Space.is_key c.args.space.now) c.args.list.now c.down.place.items choice part (omega (arith, wide, c.if-width-choice.true)))

pub returns-then-not-branch-clause-same : goal.returns-then-not-branch-clause-same
returns-then-not-branch-clause-same g c =
    let choice : ℕ = get_or c.in-Some.before.now c.down.choice-index 0 in
    let part = parted c.args.list.now c.in-Some.before.now c.down.place.items c.in-Some.last.now c.down.choice-index choice c.in-Some.ensures.cases.0 c.down-test.true refl c.down.invariant.walked in
    let missed : ¬ (g.S.Space.key c.args.space.now).reached (c.down.place.items ++ choice ∷ []) = λ reached.
    absurd (let told : c.in_ok-step.field-0 ≡ true = c.in_ok-step.ensures.reached.1 ((c.down.invariant.key.reached _).1 (subst (λ (l : List ℕ). (g.S.Space.key c.args.space.now).reached (l ++ choice ∷ [])) (sym c.down.invariant.path) reached)) in let not = c.if-not-branch.true in cc) in
    subst (λ (l : List ℕ). SameBelow (g.S.Space.key c.args.space.now) c.args.list.now l) (sym c.in_ok-push-5.ensures.items)
    (same_at_miss (g.S.Space.key c.args.space.now) (g.met.S.Space.is_key c.args.space.now) c.args.list.now c.down.place.items choice part missed)

pub returns-then-not-branch-clause-place : goal.returns-then-not-branch-clause-place
returns-then-not-branch-clause-place g c =
    let stays : g.S.Space.path c.step.new.self ≡ g.S.Space.path c.down.space =
    subst (λ (b : Bool). MatchBool b (g.S.Space.path c.step.new.self ≡ g.S.Space.path c.down.space ++ get_or c.in-Some.before.now c.down.choice-index 0 ∷ []) (g.S.Space.path c.step.new.self ≡ g.S.Space.path c.down.space)) c.if-not-branch.true c.in_ok-step.ensures.path in
    let reached : (g.S.Space.key c.args.space.now).reached (g.S.Space.path c.step.new.self) =
    subst (λ (l : List ℕ). (g.S.Space.key c.args.space.now).reached l) (sym stays) ((c.down.invariant.key.reached (g.S.Space.path c.down.space)).0 c.width-width.ensures.reached) in
    let wide : c.width-width.result ≡ (g.S.Space.key c.args.space.now).width (g.S.Space.path c.step.new.self) =
    c.width-width.ensures.width ∙ c.down.invariant.key.width (g.S.Space.path c.down.space) ∙ ap (g.S.Space.key c.args.space.now).width (sym stays) in
    stop_at (g.S.Space.key c.args.space.now) (g.S.Space.path c.step.new.self) c.down.place.items c.push-then-not-branch.new.self.items c.down.widths.items c.push-in-down.new.self.items c.width-width.result (get_or c.in-Some.before.now c.down.choice-index 0 + 1)
    (stays ∙ c.down.invariant.path) c.in_ok-push-5.ensures.items c.in_ok-push-3.ensures.items reached c.down.invariant.measured wide (omega arith)

pub down-preserved : goal.down-preserved
down-preserved g c =
    let goes : g.S.Space.path c.step.new.self ≡ g.S.Space.path c.down.space ++ get_or c.in-Some.before.now c.down.choice-index 0 ∷ [] =
    subst (λ (b : Bool). MatchBool b (g.S.Space.path c.step.new.self ≡ g.S.Space.path c.down.space ++ get_or c.in-Some.before.now c.down.choice-index 0 ∷ []) (g.S.Space.path c.step.new.self ≡ g.S.Space.path c.down.space)) c.if-not-branch.false c.in_ok-step.ensures.path in
    let wide : c.width-width.result ≡ (g.S.Space.key c.args.space.now).width (g.S.Space.path c.down.space) =
    c.width-width.ensures.width ∙ c.down.invariant.key.width (g.S.Space.path c.down.space) in
    record {
      path = goes ∙ ap (λ (l : List ℕ). l ++ get_or c.in-Some.before.now c.down.choice-index 0 ∷ []) c.down.invariant.path ∙ sym c.in_ok-push-6.ensures.items;
      walked = c.in_ok-push-6.ensures.items ∙ ap (λ (l : List ℕ). l ++ get_or c.in-Some.before.now c.down.choice-index 0 ∷ []) c.down.invariant.walked ∙ sym (take_more c.in-Some.before.now c.down.choice-index 0 c.down-test.true);
      measured = walk_on (g.S.Space.key c.args.space.now) (g.S.Space.path c.down.space) c.down.place.items c.push-in-down-2.new.self.items c.down.widths.items c.push-in-down.new.self.items c.width-width.result (get_or c.in-Some.before.now c.down.choice-index 0)
          c.down.invariant.path c.in_ok-push-6.ensures.items c.in_ok-push-3.ensures.items c.down.invariant.measured wide (omega arith);
      key = agree_trans _ _ _ c.in_ok-step.ensures.key c.down.invariant.key;
    }
