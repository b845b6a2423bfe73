use Rattle.std.proofs.Common.{◌≡◌, ℕ, ◌+◌, ◌-◌, ◌^◌, ◌<◌, ◌≤◌, ◌∙◌, length, take, ap, arith, vec_len}
use Rattle.std.proofs.lemmas.List.{length-take-le}
use Rattle.pm_search.proofs.StepLemmas.{attempt_at, none_left, climbed, choice_fits}
use Rattle.pm_search.proofs.AgreeLemmas.{agree_trans}
use Rattle.pm_search.proofs.PlaceLemmas.{same_below_trans}
use Rattle.pm_search.proofs.place.climb.Goals as goal

pub returns-then-last-eq0-clause-none : goal.returns-then-last-eq0-clause-none
returns-then-last-eq0-clause-none g c _ =
    none_left (g.S.Space.key c.args.space.now) (g.met.S.Space.is_key c.args.space.now) (g.S.Space.path c.up.space) c.up.place.items c.up.widths.items c.up.last c.index.result.now c.index-in-up.result.now
    c.up.invariant.is_place (omega (arith, c.up.place.ok.0)) c.if-last-eq0.true c.index.ensures c.index-in-up.ensures c.up-test.true

pub overflow_add-choice : goal.overflow_add-choice
overflow_add-choice g c =
    let count : vec_len c.up.place ≡ length c.up.place.items = omega (arith, c.up.place.ok.0) in
    let rest : c.pop-choice.new.self.items ≡ take (length c.up.place.items - 1) c.up.place.items =
    c.pop-choice.ensures.rest ∙ ap (λ (n : ℕ). take (n - 1) c.up.place.items) count in
    let count_widths : vec_len c.up.widths ≡ length c.up.widths.items = omega (arith, c.up.widths.ok.0) in
    let rest_widths : c.pop-width.new.self.items ≡ take (length c.up.widths.items - 1) c.up.widths.items =
    c.pop-width.ensures.rest ∙ ap (λ (n : ℕ). take (n - 1) c.up.widths.items) count_widths in
    let fits : c.index-choice.result.now + 1 < 2 ^ 32 = choice_fits (g.S.Space.key c.args.space.now) (g.met.S.Space.is_key c.args.space.now) (g.S.Space.path c.up.space) (g.S.Space.path c.back.new.self) c.up.place.items c.up.widths.items c.pop-choice.new.self.items c.pop-width.new.self.items c.back.ensures.path.0 c.up.last c.index-in-up.result.now c.index-choice.result.now
    c.up.invariant.is_place (omega (arith, c.up.place.ok.0)) c.index-in-up.ensures c.back.ensures.path.1 rest rest_widths c.index-choice.ensures in
    omega arith

pub up-preserved : goal.up-preserved
up-preserved g c =
    let at : c.up.last + 1 ≡ length c.up.place.items = omega (arith, c.up.place.ok.0) in
    let count : vec_len c.up.place ≡ length c.up.place.items = omega (arith, c.up.place.ok.0) in
    let rest : c.pop-choice.new.self.items ≡ take (length c.up.place.items - 1) c.up.place.items =
    c.pop-choice.ensures.rest ∙ ap (λ (n : ℕ). take (n - 1) c.up.place.items) count in
    let count_widths : vec_len c.up.widths ≡ length c.up.widths.items = omega (arith, c.up.widths.ok.0) in
    let rest_widths : c.pop-width.new.self.items ≡ take (length c.up.widths.items - 1) c.up.widths.items =
    c.pop-width.ensures.rest ∙ ap (λ (n : ℕ). take (n - 1) c.up.widths.items) count_widths in
    let step = climbed (g.S.Space.key c.args.space.now) (g.met.S.Space.is_key c.args.space.now) (g.S.Space.path c.up.space) (g.S.Space.path c.back.new.self) c.up.place.items c.up.widths.items c.pop-choice.new.self.items c.pop-width.new.self.items c.back.ensures.path.0 c.up.last c.index.result.now c.index-in-up.result.now c.index-choice.result.now
    c.up.invariant.is_place at c.index.ensures c.index-in-up.ensures c.up-test.true c.back.ensures.path.1 rest rest_widths c.index-choice.ensures in
    let fewer : length c.up.place.items - 1 ≤ length c.up.place.items = omega arith in
    let count_rest : length c.pop-choice.new.self.items ≡ length c.up.place.items - 1 = ap length rest ∙ length-take-le (length c.up.place.items - 1) c.up.place.items fewer in
    record {
      is_place = step.is_place;
      same = same_below_trans (g.S.Space.key c.args.space.now) c.args.place.now.items c.up.place.items _ c.up.invariant.same step.same;
      key = agree_trans _ _ _ c.back.ensures.key c.up.invariant.key;
      index = omega (arith, at, count_rest, c.pop-choice.new.self.ok.0, c.if-last-eq0.false);
    }

pub returns-clause-attempt : goal.returns-clause-attempt
returns-clause-attempt g c _ =
    attempt_at (g.S.Space.key c.args.space.now) (g.met.S.Space.is_key c.args.space.now) (g.S.Space.path c.up.space) c.up.place.items c.up.widths.items c.up.last c.index.result.now c.index-in-up.result.now
    c.up.invariant.is_place (omega (arith, c.up.place.ok.0)) c.index.ensures c.index-in-up.ensures c.up-test.false
