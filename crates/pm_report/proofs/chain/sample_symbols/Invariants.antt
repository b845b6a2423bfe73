use Rattle.std.proofs.Common.{◌≡◌, ◌∷◌}
use Rattle.pm_report.specs.Sample.{constant_symbols, edge_symbol}
use Rattle.pm_report.proofs.chain.sample_symbols.Given as goal

abbrev pub invariant-loop-k : goal.invariant-loop-k
invariant-loop-k l = l.symbols ≡ edge_symbol ∷ constant_symbols l.k
