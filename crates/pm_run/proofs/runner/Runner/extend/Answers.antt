use Rattle.std.proofs.Common.{map, sym, subst}
use Rattle.std.specs.Bool.{OnTrue, OnFalse}
use Rattle.pm_run.specs.Runner.{GroundProblem, HasGroundCells, CanMeet, ExtensionComesTo, ExtensionFails, child_of}
use Rattle.pm_run.proofs.RunnerLemmas.{extension_can_run, extension_ends, extension_fails, extension_within}
use Rattle.pm_run.proofs.runner.Runner.extend.Goals as goal

pub extend-code-requires-clause-literal : goal.extend-code-requires-clause-literal
extend-code-requires-clause-literal c =
    let program = c.self.inside.program in
    let meets = subst (λ (g : GroundProblem). CanMeet g.problem.clauses c.args.clause c.args.literal c.args.args.now c.args.store.now) (sym c.self.view_is) c.requires.leaf in
    extension_within program.problem.now program.code.now c.self.invariant.0 c.self.invariant.1 c.args.clause _ c.clause.ensures.clause
    c.begin.new.self c.args.store.now program.cells.items c.args.args.now c.in_ok-begin.ensures.locals c.in_ok-begin.ensures.stack c.stores_are_sound.ensures meets.below
    c.args.literal meets

pub attempt-requires-clause-can : goal.attempt-requires-clause-can
attempt-requires-clause-can c =
    let program = c.self.inside.program in
    let meets = subst (λ (g : GroundProblem). CanMeet g.problem.clauses c.args.clause c.args.literal c.args.args.now c.args.store.now) (sym c.self.view_is) c.requires.leaf in
    extension_can_run program.problem.now program.code.now c.self.invariant.0 c.self.invariant.1 c.args.clause _ c.clause.ensures.clause
    c.begin.new.self c.args.store.now program.cells.items c.args.args.now c.in_ok-begin.ensures.locals c.in_ok-begin.ensures.stack c.stores_are_sound.ensures meets.below
    c.args.literal meets c.extend-code.result.now c.extend-code.ensures
    (subst (λ (g : GroundProblem). HasGroundCells g.problem.terms g.cells c.args.store.now) (sym c.self.view_is) c.requires.step.cells)

pub returns-clause-comes : goal.returns-clause-comes
returns-clause-comes c =
    let program = c.self.inside.program in
    let meets = subst (λ (g : GroundProblem). CanMeet g.problem.clauses c.args.clause c.args.literal c.args.args.now c.args.store.now) (sym c.self.view_is) c.requires.leaf in
    let children = map child_of c.attempt.new.children.items in
    subst (λ (g : GroundProblem). OnTrue c.in_ok-ended.ended
    (ExtensionComesTo g.problem.clauses c.args.clause c.args.literal c.args.args.now c.args.store.now c.attempt.new.store children)) c.self.view_is
    (extension_ends program.problem.now program.code.now c.self.invariant.0 c.self.invariant.1 c.args.clause _ c.clause.ensures.clause
    c.begin.new.self c.args.store.now program.cells.items c.args.args.now c.in_ok-begin.ensures.locals c.in_ok-begin.ensures.stack c.stores_are_sound.ensures meets.below
    c.args.literal meets c.extend-code.result.now c.extend-code.ensures c.in_ok-ended.ended c.attempt.new.store children c.in_ok-ended.ensures.comes)

pub returns-clause-fails : goal.returns-clause-fails
returns-clause-fails c =
    let program = c.self.inside.program in
    let meets = subst (λ (g : GroundProblem). CanMeet g.problem.clauses c.args.clause c.args.literal c.args.args.now c.args.store.now) (sym c.self.view_is) c.requires.leaf in
    subst (λ (g : GroundProblem). OnFalse c.in_ok-ended.ended
    (ExtensionFails g.problem.clauses c.args.clause c.args.literal c.args.args.now c.args.store.now)) c.self.view_is
    (extension_fails program.problem.now program.code.now c.self.invariant.0 c.self.invariant.1 c.args.clause _ c.clause.ensures.clause
    c.begin.new.self c.args.store.now program.cells.items c.args.args.now c.in_ok-begin.ensures.locals c.in_ok-begin.ensures.stack c.stores_are_sound.ensures meets.below
    c.args.literal meets c.extend-code.result.now c.extend-code.ensures c.in_ok-ended.ended c.in_ok-ended.ensures.fails)
