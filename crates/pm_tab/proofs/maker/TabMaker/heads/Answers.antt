use Rattle.std.proofs.Common.{◌≤◌, ◌^◌, length, sym, ◌∙◌, subst}
use Rattle.pm_tab.proofs.Counted.{few_heads}
use Rattle.pm_tab.proofs.maker.TabMaker.heads.Goals as goal

pub returns-clause-few : goal.returns-clause-few
returns-clause-few c =
    subst (λ ls. length ls ≤ 2 ^ 24) (sym (c.heads.ensures ∙ c.self.invariant.3.its_heads _)) (few_heads _ _ c.self.invariant.0)
