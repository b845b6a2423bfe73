use Rattle.std.proofs.Common.{◌<◌, length, arith}
use Rattle.pm_run.proofs.InstructionLemmas.{setting_passed, setting_set, is_set, is_unset}
use Rattle.pm_run.proofs.instructions.set_rest.Goals as goal
use Rattle.pm_run.proofs.instructions.set_rest.Goals.{then-is_none+in_ok-fresh, else-is_none}

pub locals-preserved : goal.locals-preserved
locals-preserved c =
    let within : c.locals.x < length c.locals.locals.items = omega (arith, c.locals-test.true, c.len-x-end.ensures, c.args.locals.now.ok.0, c.locals.invariant.count) in
    elim c.if-is_none.branch [
      | then-is_none+in_ok-fresh w ↦
          rw w.store-is
          (rw w.locals-is
          (setting_set _ _ _ _ _ c.locals.invariant within c.index.result.now c.index.ensures w.fresh.new.self w.in_ok-fresh.field-0
          (is_unset c.index.result.now c.is_none.result c.is_none.ensures w.if-is_none.true) w.in_ok-fresh.ensures.place w.in_ok-fresh.ensures.ok))
      | else-is_none w ↦
          let its = is_set c.index.result.now c.is_none.result c.is_none.ensures w.if-is_none.false in
          rw w.store-is (rw w.locals-is (setting_passed _ _ _ _ _ c.locals.invariant within c.index.result.now c.index.ensures its.0 its.1))
    ]
