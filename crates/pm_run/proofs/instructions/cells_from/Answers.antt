use Rattle.std.proofs.Common.{ℕ, List, ◌∷◌, [], ◌++◌, sym, ◌∙◌, ap₂}
use Rattle.pm_run.proofs.InstructionLemmas.{range_push}
use Rattle.pm_run.proofs.instructions.cells_from.Goals as goal

pub places-preserved : goal.places-preserved
places-preserved c =
    c.in_ok-push.ensures.ok ∙ ap₂ (λ (cs : List ℕ) (d : ℕ). cs ++ d ∷ []) c.places.invariant c.cell_after.ensures
    ∙ sym (range_push c.args.first c.places.place)
