use Rattle.std.proofs.Common.{ap, subst, refl, sym, reverse, List}
use Rattle.pm_tab.specs.declared.space.Frame.{Frame}
use Rattle.pm_tab.specs.Searched.{level_of}
use Rattle.pm_tab.specs.Inside.Standing.{Stands}
use Rattle.pm_tab.proofs.Standing.{stands_new}
use Rattle.pm_tab.proofs.space.TabSpace.new.Goals as goal

pub invariant_of-result : goal.invariant_of-result
invariant_of-result c =
    let level = level_of c.args.maker.now c.args.level in
    let value = c.in_ok-machine.machine in (
      c.requires,
      c.in_ok-machine.ensures.problem,
      subst (λ (frames : List Frame). Stands level frames (record { width = c.width-width.result; instances = 0 }) value.state value.before c.new.result)
          (sym (ap reverse c.new-2.ensures.items))
          (stands_new level (record { width = c.width-width.result; instances = 0 }) value c.new.result c.in_ok-machine.ensures c.width-width.ensures refl c.new.ensures),
    )
