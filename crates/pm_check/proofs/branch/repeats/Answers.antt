use Rattle.std.proofs.Common.{◌≢◌, Bor, subst}
use Rattle.std.specs.List.{All}
use Rattle.std.proofs.lemmas.List.{take_all}
use Rattle.pm_logic.specs.View.{literal_of}
use Rattle.pm_logic.specs.declared.problem.Literal.{Literal}
use Rattle.pm_check.proofs.BranchLemmas.{repeats_not}
use Rattle.pm_check.proofs.branch.repeats.Goals as goal

pub returns : goal.returns
returns c =
    let terms = c.args.terms.now in
    let branch = c.args.branch.now in
    let literal = literal_of terms c.args.literal.now in
    let apart = subst (All (λ (b : Bor Literal). literal_of terms b.now ≢ literal)) (take_all c.ancestors.ancestor-index branch c.ancestors-test.false) c.ancestors.invariant in (
      λ h. absurd cc,
      λ h. absurd (repeats_not terms branch literal apart h),
    )
