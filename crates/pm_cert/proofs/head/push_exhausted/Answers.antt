use Rattle.pm_cert.proofs.LineLemmas.{levels_go_on, levels_end}
use Rattle.pm_cert.proofs.head.push_exhausted.Goals as goal

pub loop-level-preserved : goal.loop-level-preserved
loop-level-preserved c = levels_go_on c.loop-level.text.items _ _ c.args.works.now c.loop-level.level c.loop-level-test.true c.in_ok-push_level.ensures c.loop-level.invariant

pub returns : goal.returns
returns c = levels_end _ _ c.args.works.now c.loop-level.level c.loop-level-test.false c.loop-level.invariant
