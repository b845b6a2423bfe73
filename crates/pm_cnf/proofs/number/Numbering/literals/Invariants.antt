use Rattle.std.proofs.Common.{◌-◌, ◌≤◌, length, drop, map}
use Rattle.pm_cnf.specs.Inside.Parsed.{node_of}
use Rattle.pm_cnf.specs.Inside.Parts.{tables}
use Rattle.pm_cnf.proofs.parts.LiteralSteps.{LiteralsSoFar}
use Rattle.pm_cnf.proofs.number.Numbering.literals.Given as goal

abbrev pub invariant-literals : goal.invariant-literals
invariant-literals l = record {
  within : l.next ≤ length l.nodes;
  literals : LiteralsSoFar (tables l.fn.self.symbols l.fn.self.terms l.fn.texts.keys) (map node_of l.nodes) (map node_of (drop l.next l.nodes)) (tables l.self.symbols l.self.terms l.texts.keys) l.literals.items;
}

abbrev pub decreases-literals : goal.decreases-literals
decreases-literals l = length l.nodes - l.next
