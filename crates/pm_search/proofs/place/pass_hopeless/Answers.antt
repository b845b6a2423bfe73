use Rattle.std.proofs.Common.{◌+◌, ◌-◌, List, ℕ, subst, arith}
use Rattle.pm_choice.specs.Order.{PrecedesBound}
use Rattle.pm_search.proofs.HopelessLemmas.{all_hopeless, one_hopeless}
use Rattle.pm_search.proofs.place.pass_hopeless.Goals as goal

pub returns-then-precedes-clause-passed : goal.returns-then-precedes-clause-passed
returns-then-precedes-clause-passed g c =
    let before = subst (λ (l : List ℕ). PrecedesBound l c.args.to.now) c.deref.ensures.value (c.precedes.ensures.0 c.if-precedes.true) in
    all_hopeless (g.S.Space.key c.args.space.now) (g.S.Space.path c.args.space.now) c.args.place.now.items c.args.to.now c.requires.path.0 (c.len-last.result - 1) c.index-choice.result.now c.hopeful.result c.min-count.result
    c.requires.path.1 (omega (arith, c.args.place.now.ok.0)) c.index-choice.ensures c.hopeful.ensures.width c.hopeful.ensures.hopeless (omega arith) (omega arith) before

pub returns-clause-passed : goal.returns-clause-passed
returns-clause-passed g c =
    one_hopeless (g.S.Space.key c.args.space.now) (g.S.Space.path c.args.space.now) c.args.place.now.items c.args.to.now c.requires.path.0 (c.len-last.result - 1) c.index-choice.result.now c.hopeful.result (c.index-choice.result.now + (c.min-count.result - 1))
    c.requires.path.1 (omega (arith, c.args.place.now.ok.0)) c.index-choice.ensures c.hopeful.ensures.width c.hopeful.ensures.hopeless (omega arith) c.requires.below
