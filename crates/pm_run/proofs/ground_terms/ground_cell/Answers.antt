use Rattle.std.proofs.Common.{List, ℕ, length, sym, subst}
use Rattle.pm_run.specs.InStore.{AreBelow}
use Rattle.pm_run.specs.Inside.Ground.{AreCellsOf}
use Rattle.pm_run.proofs.GroundLemmas.{found_cells, found_none, cells_within, application_made, application_without}
use Rattle.pm_run.proofs.ground_terms.ground_cell.Goals as goal

pub make-requires : goal.make-requires
make-requires c =
    let terms = c.args.terms.now in
    subst (λ (cs : List ℕ). AreBelow (length c.args.store.now.cells) cs) (sym c.deref.ensures)
    (cells_within terms c.args.store.now c.in-App.args.now _
    (found_cells (λ found. found.items) terms c.args.store.now c.in-App.args.now c.in_ok-args.field-0 c.in-Some.args
    (c.in_ok-args.ensures terms c.args.store.now c.requires.cells) c.in-Some.is))

pub returns-in_ok-make-in-Some-clause-cell : goal.returns-in_ok-make-in-Some-clause-cell
returns-in_ok-make-in-Some-clause-cell c =
    let terms = c.args.terms.now in
    application_made terms c.args.store.now c.make.new.self c.args.id c.in-App.symbol _ c.in-App.args.now c.deref.result.now c.in-App.ensures.0
    (subst (λ (cs : List ℕ). AreCellsOf terms c.args.store.now c.in-App.args.now cs) (sym c.deref.ensures)
    (found_cells (λ found. found.items) terms c.args.store.now c.in-App.args.now c.in_ok-args.field-0 c.in-Some.args
    (c.in_ok-args.ensures terms c.args.store.now c.requires.cells) c.in-Some.is))
    c.in_ok-make-in-Some.ensures.place c.in_ok-make-in-Some.ensures.ok c.in_ok-make-in-Some.ensures.solutions

pub returns-in-None-clause-cell : goal.returns-in-None-clause-cell
returns-in-None-clause-cell c =
    let terms = c.args.terms.now in
    application_without terms c.args.store.now c.args.id c.in-App.symbol c.in-App.args.now c.in-App.ensures.0
    (found_none (λ found. found.items) terms c.args.store.now c.in-App.args.now c.in_ok-args.field-0
    (c.in_ok-args.ensures terms c.args.store.now c.requires.cells) c.in-None.is)
