use Rattle.std.proofs.Common.{◌≡◌, ◌∙◌, ◌+◌, ℕ, ap, arith, rules, ◌∷◌, ◌++◌, [], List, subst}
use Rattle.pm_logic.specs.Problem.{Numbers, Symbol}
use Rattle.pm_report.specs.Sample.{constant_symbols, edge_symbol, path_symbol}
use Rattle.pm_report.proofs.SampleLemmas.{few_symbols, first_added, path_added, symbol_after}
use Rattle.pm_report.proofs.chain.sample_symbols.Goals as goal

pub loop-k-init : goal.loop-k-init
loop-k-init c = first_added c.number.new.self c.in_ok-number.field-0
    (subst (λ (ss : List Symbol). Numbers ss c.number.new.self edge_symbol c.in_ok-number.field-0) c.new-symbols.ensures c.in_ok-number.ensures.numbered)

pub number-requires-in-loop-k : goal.number-requires-in-loop-k
number-requires-in-loop-k c = let size = few_symbols c.loop-k.symbols c.loop-k.k c.loop-k.invariant in omega arith

pub loop-k-preserved : goal.loop-k-preserved
loop-k-preserved c =
    symbol_after c.loop-k.symbols c.number-in-loop-k.new.self c.loop-k.k c.in_ok-number-2.field-0 c.as_str.result.now (omega arith)
    (c.as_str.ensures.value ∙ c.in_ok-name.ensures) c.loop-k.invariant c.in_ok-number-2.ensures.numbered

pub number-requires-2 : goal.number-requires-2
number-requires-2 c = let size = few_symbols c.loop-k.symbols c.loop-k.k c.loop-k.invariant in omega arith

pub returns : goal.returns
returns c =
    let end : c.loop-k.k ≡ c.args.edges + 1 = search rules in
    path_added c.loop-k.symbols c.number-2.new.self c.loop-k.k c.in_ok-number-3.field-0 c.loop-k.invariant c.in_ok-number-3.ensures.numbered
    ∙ ap (λ (n : ℕ). edge_symbol ∷ (constant_symbols n ++ path_symbol ∷ [])) end
