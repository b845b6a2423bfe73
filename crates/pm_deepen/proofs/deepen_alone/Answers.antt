use Rattle.std.proofs.Common.{◌≡◌, ℕ, List, [], length, sym, subst, ap, arith}
use Rattle.pm_pool.specs.Level.{EndsLevel}
use Rattle.pm_pool.specs.declared.level.LevelEnd.{LevelEnd}
use Rattle.pm_deepen.specs.Answer.{AreExhausted}
use Rattle.pm_deepen.proofs.WorksLemmas.{one_more, none_exhausted, one_more_exhausted, answers_proof, answers_budget, answers_depth}
use Rattle.pm_deepen.proofs.deepen_alone.Goals as goal

pub levels-init : goal.levels-init
levels-init g c =
    let key_at = g.M.Maker.key_at c.args.maker.now in
    let items : c.new-works.result.items ≡ [] = c.new-works.ensures.items in
    record {
      count = ap (λ (l : List ℕ). length l) items;
      within = omega arith;
      exhausted = subst (λ (l : List ℕ). AreExhausted key_at c.args.budget l) (sym items) (none_exhausted key_at c.args.budget);
    }

pub returns-in-Found : goal.returns-in-Found
returns-in-Found g c =
    let key_at = g.M.Maker.key_at c.args.maker.now in
    let ends = subst (λ (e : LevelEnd). EndsLevel (key_at c.levels.level) c.args.budget e) c.in-Found.is c.in_ok-work.ensures in
    answers_proof key_at c.args.depth c.args.budget c.levels.level c.levels.works.items c.in-Found.path c.in-Found.work c.levels.invariant.count (omega (arith, c.levels-test.true)) c.levels.invariant.exhausted ends.0 ends.1

pub returns-in-Over : goal.returns-in-Over
returns-in-Over g c =
    let key_at = g.M.Maker.key_at c.args.maker.now in
    let ends = subst (λ (e : LevelEnd). EndsLevel (key_at c.levels.level) c.args.budget e) c.in-Over.is c.in_ok-work.ensures in
    answers_budget key_at c.args.depth c.args.budget c.levels.level c.levels.works.items c.levels.invariant.count (omega (arith, c.levels-test.true)) c.levels.invariant.exhausted ends

pub levels-preserved : goal.levels-preserved
levels-preserved g c =
    let key_at = g.M.Maker.key_at c.args.maker.now in
    let ends = subst (λ (e : LevelEnd). EndsLevel (key_at c.levels.level) c.args.budget e) c.in-Exhausted.is c.in_ok-work.ensures in
    let items = c.in_ok-push-in-Exhausted.ensures.items in
    record {
      count = one_more c.levels.works.items c.push.new.self.items c.in-Exhausted.work c.levels.level items c.levels.invariant.count;
      within = omega (arith, c.levels-test.true);
      exhausted = subst (λ (l : List ℕ). AreExhausted key_at c.args.budget l) (sym items)
          (one_more_exhausted key_at c.args.budget c.levels.level c.levels.works.items c.in-Exhausted.work c.levels.invariant.count c.levels.invariant.exhausted ends.0 ends.1);
    }

pub returns : goal.returns
returns g c =
    answers_depth (g.M.Maker.key_at c.args.maker.now) c.args.depth c.args.budget c.levels.works.items (omega (arith, c.levels.invariant.count, c.levels.invariant.within, c.levels-test.false)) c.levels.invariant.exhausted
