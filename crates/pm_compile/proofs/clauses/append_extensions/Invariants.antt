use Rattle.std.proofs.Common.{length, map, take}
use Rattle.pm_logic.specs.View.{literal_of}
use Rattle.pm_compile.specs.Inside.Clauses.{AddsExtensions}
use Rattle.pm_compile.specs.Inside.Heads.{IsReadyFor}
use Rattle.pm_compile.proofs.clauses.append_extensions.Given as goal

-- the extensions by the literals so far are added
abbrev pub invariant-literals : goal.invariant-literals
invariant-literals l = record {
  added : AddsExtensions l.source.problem.now.terms l.c (map (literal_of l.source.problem.now.terms) (take l.j l.literals)) l.fn.instrs.items l.fn.extensions.items l.instrs.items l.extensions.items;
  ready : IsReadyFor l.source.problem.now.terms (length l.instrs.items) l.seen;
}
