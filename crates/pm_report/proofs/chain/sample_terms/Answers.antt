use Rattle.std.proofs.Common.{rules, ◌≡◌, ◌∙◌, ◌+◌, ◌∷◌, ◌++◌, [], ℕ, ap}
use Rattle.pm_logic.specs.Term.{var}
use Rattle.pm_report.specs.Sample.{constant_terms}
use Rattle.pm_report.proofs.SampleLemmas.{term_after, variables_added}
use Rattle.pm_report.proofs.chain.sample_terms.Goals as goal

pub loop-k-init : goal.loop-k-init
unfolding constant_terms
loop-k-init c = c.new-terms.ensures

pub loop-k-preserved : goal.loop-k-preserved
loop-k-preserved c =
    term_after c.loop-k.terms c.add_app.new.self c.loop-k.k c.in_ok-add_app.field-0 _ (search rules) c.loop-k.invariant c.in_ok-add_app.ensures.added

pub returns : goal.returns
returns c =
    let end : c.loop-k.k ≡ c.args.edges + 1 = search rules in
    variables_added c.loop-k.k c.loop-k.terms c.add_var.new.self c.add_var-2.new.self c.add_var-3.new.self c.loop-k.invariant
    c.in_ok-add_var.ensures.added c.in_ok-add_var-2.ensures.added c.in_ok-add_var-3.ensures.added
    ∙ ap (λ (n : ℕ). constant_terms n ++ var 0 ∷ var 1 ∷ var 2 ∷ []) end
