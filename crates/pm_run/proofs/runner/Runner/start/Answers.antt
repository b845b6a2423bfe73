use Rattle.std.proofs.Common.{map, refl, sym, subst}
use Rattle.std.proofs.lemmas.List.Elements.{All-nil}
use Rattle.pm_run.specs.Runner.{GroundProblem, HasGroundCells, StartComesTo, child_of}
use Rattle.pm_run.proofs.RunnerLemmas.{start_can_run, start_ends}
use Rattle.pm_run.proofs.runner.Runner.start.Goals as goal

pub attempt-requires-clause-can : goal.attempt-requires-clause-can
attempt-requires-clause-can c =
    let program = c.self.inside.program in
    start_can_run program.problem.now program.code.now c.self.invariant.0 c.self.invariant.1 c.args.clause _ c.clause.ensures.clause
    c.begin.new.self c.args.store.now program.cells.items _ c.in_ok-begin.ensures.locals c.in_ok-begin.ensures.stack c.stores_are_sound.ensures (All-nil _)
    c.start-code.result.now c.start-code.ensures refl
    (subst (λ (g : GroundProblem). HasGroundCells g.problem.terms g.cells c.args.store.now) (sym c.self.view_is) c.requires.cells)

pub returns-clause-comes : goal.returns-clause-comes
returns-clause-comes c =
    let program = c.self.inside.program in
    let children = map child_of c.attempt.new.children.items in
    subst (λ (g : GroundProblem). StartComesTo g.problem.clauses c.args.clause c.args.store.now c.attempt.new.store children) c.self.view_is
    (start_ends program.problem.now program.code.now c.self.invariant.0 c.self.invariant.1 c.args.clause _ c.clause.ensures.clause
    c.begin.new.self c.args.store.now program.cells.items _ c.in_ok-begin.ensures.locals c.in_ok-begin.ensures.stack c.stores_are_sound.ensures (All-nil _)
    c.start-code.result.now c.start-code.ensures refl c.in_ok-attempt.field-0 c.attempt.new.store children c.in_ok-attempt.ensures.comes c.in_ok-attempt.ensures.fails)
