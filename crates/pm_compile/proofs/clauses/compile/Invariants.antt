use Rattle.std.proofs.Common.{◌≡◌, ◌+◌, length}
use Rattle.pm_compile.specs.Inside.Heads.{IsReadyFor}
use Rattle.pm_compile.specs.Inside.Spans.{AreCompiled}
use Rattle.pm_compile.proofs.clauses.compile.Given as goal

-- the clauses so far are compiled
abbrev pub invariant-clauses : goal.invariant-clauses
invariant-clauses l = record {
  compiled : AreCompiled l.problem l.instrs.items l.extensions.items l.clauses.items;
  count : length l.clauses.items ≡ l.c;
  ready : IsReadyFor l.problem.terms (length l.instrs.items + 1) l.seen;
}
