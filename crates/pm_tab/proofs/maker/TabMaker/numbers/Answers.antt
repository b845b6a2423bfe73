use Rattle.std.proofs.Common.{◌≡◌, ℕ, inl, inr, ◌⊎◌, ap, sym, subst, arith}
use Rattle.pm_tab.specs.declared.alternatives.Step.{Step}
use Rattle.pm_tab.specs.declared.alternatives.Step.TheVariants.{Start, Extend}
use Rattle.pm_tab.specs.Searched.{Searched}
use Rattle.pm_tab.specs.Inside.Numbering.{AreNumbersFor}
use Rattle.pm_tab.specs.Inside.Steps.{step_named}
use Rattle.pm_calculus.specs.Alternatives.{MayTake}
use Rattle.pm_tab.proofs.Numbering.{IsBy, own_within, own_numbers}
use Rattle.pm_tab.proofs.maker.TabMaker.numbers.Goals as goal

named_by : (step : Step) (clause : ℕ) → (step ≡ Start clause) ⊎ ((x : ℕ) × (step ≡ Extend clause x)) → IsBy (step_named step) clause
named_by step clause (inl is) = inl (ap step_named is)
named_by step clause (inr (j, is)) = inr (j, ap step_named is)

pub index-requires : goal.index-requires
index-requires c =
    let may = subst (λ (v : Searched). MayTake v.problem.clauses c.requires.0 (step_named c.args.step)) (sym c.self.view_is) c.requires.1 in
    let low = own_within (λ own. own.items) c.self.inside.problem.now.clauses c.self.inside.numbers.items c.self.invariant.5 c.requires.0 (step_named c.args.step) c.in-Start.clause
    (named_by c.args.step c.in-Start.clause c.in-Start.is) may in
    let ok = c.self.inside.numbers.ok in
    omega (arith, low, ok.0, ok.1)

pub returns-in-Start : goal.returns-in-Start
returns-in-Start c =
    let may = subst (λ (v : Searched). MayTake v.problem.clauses c.requires.0 (step_named c.args.step)) (sym c.self.view_is) c.requires.1 in
    subst (λ (v : Searched). AreNumbersFor v.problem.clauses (step_named c.args.step) c.deref.result.now) c.self.view_is
    (subst (AreNumbersFor c.self.inside.problem.now.clauses (step_named c.args.step)) (sym c.deref.ensures.value)
    (own_numbers (λ own. own.items) c.self.inside.problem.now.clauses c.self.inside.numbers.items c.self.invariant.5 c.requires.0 (step_named c.args.step) c.in-Start.clause
    (named_by c.args.step c.in-Start.clause c.in-Start.is) may c.index.result.now c.index.ensures))
