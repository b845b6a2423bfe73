-- The general tableau of a complete list.
use Rattle.std.proofs.Common.{◌≡◌, ℕ, List, Option, Some, None, IsSomeAnd, IfSome, refl, sym, subst}
use Rattle.pm_logic.specs.declared.problem.Class.{Class}
use Rattle.pm_logic.specs.declared.problem.Class.TheVariants.{Plain, Regular}
use Rattle.pm_logic.specs.Tableau.{Tableau}
use Rattle.pm_calculus.specs.Substitution.{IsInstanceOf}
use Rattle.pm_calculus.specs.Connection.{IsRegularFor, Level}
use Rattle.pm_calculus.specs.Skeleton.{State, empty, rooted}
use Rattle.pm_calculus.specs.Alternatives.{state_after}
use Rattle.pm_calculus.specs.Choices.{IsLabelling, IsReachedState, IsLabellingOf, IsGeneral}
use Rattle.pm_calculus.specs.Laws.{GeneralTableauxAreInClass}
use Rattle.pm_calculus.proofs.Growth.{IsBegun, begun}
use Rattle.pm_calculus.proofs.ListsToTrees.{complete_gives}
use Rattle.pm_calculus.proofs.Instances.{regular_reflects}

regular_for_reflects : (class : Class) (t other : Tableau) → IsInstanceOf t other → IsRegularFor class t → IsRegularFor class other
regular_for_reflects Plain t other is h = tt
regular_for_reflects Regular t other is h = regular_reflects t other is h

-- the labelling with which a list is reached is an instance of the general one
general_regular : (level : Level) (choices : List ℕ) (t : Tableau) → IsGeneral level choices t → (o : Option State) → state_after level choices ≡ o
    → IfSome o IsBegun → IsSomeAnd o (IsReachedState level) → IsRegularFor level.class t
general_regular level choices t general None is b reached = absurd reached
general_regular level choices t general (Some empty) is b reached = absurd b
general_regular level choices t general (Some (rooted root trees)) is b reached =
    let own : IsLabellingOf level choices reached.tableau = subst (λ (o : Option State). IsSomeAnd o (λ state. IsLabelling level.problem.clauses state reached.tableau)) (sym is) reached.labelling in
    regular_for_reflects level.class reached.tableau t (general.most reached.tableau own) reached.regular

pub general_in_class : GeneralTableauxAreInClass
general_in_class level choices t complete general =
    complete_gives level choices t complete general.labelling
    (general_regular level choices t general (state_after level choices) refl (begun level choices complete.begun) complete.reached)
