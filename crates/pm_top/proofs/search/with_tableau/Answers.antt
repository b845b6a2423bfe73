use Rattle.std.proofs.Common.{sym, subst}
use Rattle.std.specs.Option.{option_map}
use Rattle.pm_logic.specs.declared.tableau.Tableau.{Tableau as CodeTableau}
use Rattle.std.specs.Prelude.{Option}
use Rattle.pm_deepen.specs.Levels.{IsAnswerOf}
use Rattle.pm_top.specs.Output.{searched_with}
use Rattle.pm_top.proofs.Searches.{found_complete, found_none, found_tableau}
use Rattle.pm_top.proofs.search.with_tableau.Goals.{in-Proof+in_ok-tableau-in-Proof, in_default}
use Rattle.pm_top.proofs.search.with_tableau.Goals as goal

pub general_tableau-requires-clause-complete : goal.general_tableau-requires-clause-complete
general_tableau-requires-clause-complete c =
    found_complete c.args.problem.now c.args.options.now c.args.maker.now c.requires.searched _ c.args.outcome.end c.requires.answer
    c.in-Proof.depth c.in-Proof.work c.in-Proof.path c.as_slice.result.now c.in-Proof.is c.as_slice.ensures

pub returns : goal.returns
returns c =
    let problem = c.args.problem.now in
    let options = c.args.options.now in
    let works = c.args.outcome.works.items in
    let end = c.args.outcome.end in
    elim c.match-outcome.branch [
      | in-Proof+in_ok-tableau-in-Proof w ↦
          subst (λ (o : Option CodeTableau). IsAnswerOf problem (searched_with options) works end (option_map (λ drawn. drawn.tableau) o)) (sym w.tableau-is)
          (found_tableau problem options c.args.maker.now c.requires.searched works end c.requires.answer
          w.in-Proof.depth w.in-Proof.work w.in-Proof.path w.as_slice.result.now w.in-Proof.is w.as_slice.ensures
          w.in_ok-tableau-in-Proof.tableau.tableau w.in_ok-tableau-in-Proof.ensures)
      | in_default w ↦
          subst (λ (o : Option CodeTableau). IsAnswerOf problem (searched_with options) works end (option_map (λ drawn. drawn.tableau) o)) (sym w.tableau-is)
          (found_none problem options c.args.maker.now c.requires.searched works end c.requires.answer w.in_default.not-Proof)
    ]
