use Rattle.std.proofs.Common.{◌+◌, [], subst}
use Rattle.pm_search.specs.declared.Turn.{Turn}
use Rattle.pm_choice.specs.declared.Bound.TheVariants.{End}
use Rattle.pm_search.specs.Turns.{IsTurn}
use Rattle.pm_pool.proofs.LevelLemmas.{level_turn, paused_over, closed_over, found_over}
use Rattle.pm_pool.proofs.alone.run_level_alone.Goals.{in_default-via-in-Closed+else-work-budget, in_default-via-in-Found+else-work-budget-2, in_default-via-in_default}
use Rattle.pm_pool.proofs.alone.run_level_alone.Goals as goal

pub returns-in-Closed : goal.returns-in-Closed
returns-in-Closed g c =
    let key = g.M.Maker.key_at c.args.maker.now c.args.level in
    let turn = level_turn key (g.M.Made.Space.key c.in_ok-space.space) (g.M.Made.Space.key c.in_ok-search.search.space) c.in_ok-turn.turn
    c.in_ok-search.search.from c.in_ok-search.search.to c.in_ok-search.search.worked (c.args.budget + 1)
    c.in_ok-space.ensures.key c.in_ok-search.ensures.key c.in_ok-search.ensures.interval.starts c.in_ok-search.ensures.interval.ends c.in_ok-search.ensures.work c.in_ok-turn.ensures.turn in
    ((subst (λ (t : Turn). IsTurn key [] End (c.args.budget + 1) t) c.in-Closed.is turn).0, c.if-work-budget.true)

pub returns-in-Found : goal.returns-in-Found
returns-in-Found g c =
    let key = g.M.Maker.key_at c.args.maker.now c.args.level in
    let turn = level_turn key (g.M.Made.Space.key c.in_ok-space.space) (g.M.Made.Space.key c.in_ok-search.search.space) c.in_ok-turn.turn
    c.in_ok-search.search.from c.in_ok-search.search.to c.in_ok-search.search.worked (c.args.budget + 1)
    c.in_ok-space.ensures.key c.in_ok-search.ensures.key c.in_ok-search.ensures.interval.starts c.in_ok-search.ensures.interval.ends c.in_ok-search.ensures.work c.in_ok-turn.ensures.turn in
    ((subst (λ (t : Turn). IsTurn key [] End (c.args.budget + 1) t) c.in-Found.is turn).0, c.if-work-budget-2.true)

pub returns : goal.returns
returns g c =
    let key = g.M.Maker.key_at c.args.maker.now c.args.level in
    let turn = level_turn key (g.M.Made.Space.key c.in_ok-space.space) (g.M.Made.Space.key c.in_ok-search.search.space) c.in_ok-turn.turn
    c.in_ok-search.search.from c.in_ok-search.search.to c.in_ok-search.search.worked (c.args.budget + 1)
    c.in_ok-space.ensures.key c.in_ok-search.ensures.key c.in_ok-search.ensures.interval.starts c.in_ok-search.ensures.interval.ends c.in_ok-search.ensures.work c.in_ok-turn.ensures.turn in
    elim c.in_default.branch [
      | in_default-via-in-Closed+else-work-budget w ↦ closed_over key w.in-Closed.work c.args.budget (subst (λ (t : Turn). IsTurn key [] End (c.args.budget + 1) t) w.in-Closed.is turn) w.if-work-budget.false
      | in_default-via-in-Found+else-work-budget-2 w ↦ found_over key w.in-Found.path w.in-Found.work c.args.budget (subst (λ (t : Turn). IsTurn key [] End (c.args.budget + 1) t) w.in-Found.is turn) w.if-work-budget-2.false
      | in_default-via-in_default w ↦ paused_over key w.in_default.field-0 w.in_default.field-1 c.args.budget (subst (λ (t : Turn). IsTurn key [] End (c.args.budget + 1) t) w.in_default.is turn)
    ]
