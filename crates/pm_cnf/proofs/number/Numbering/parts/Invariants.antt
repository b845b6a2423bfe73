use Rattle.std.proofs.Common.{take, map}
use Rattle.pm_cnf.specs.Inside.Parsed.{node_of}
use Rattle.pm_cnf.specs.Inside.Parts.{tables}
use Rattle.pm_cnf.proofs.parts.Tabling.{AreParts}
use Rattle.pm_cnf.proofs.number.Numbering.parts.Given as goal

abbrev pub invariant-nodes : goal.invariant-nodes
invariant-nodes l = AreParts (tables l.fn.self.symbols l.fn.self.terms l.fn.texts.keys) (map node_of (take l.node-index l.nodes)) (tables l.self.symbols l.self.terms l.texts.keys) l.parts.items
