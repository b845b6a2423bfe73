use Rattle.std.proofs.Common.{take, map}
use Rattle.pm_cnf.specs.Inside.Parsed.{item_of}
use Rattle.pm_cnf.proofs.parts.ItemSteps.{ItemsSoFar}
use Rattle.pm_cnf.proofs.number.number_items.Given as goal

abbrev pub invariant-loop-item : goal.invariant-loop-item
invariant-loop-item l = ItemsSoFar (map item_of (take l.item-index l.items)) l.numbering.symbols l.numbering.terms l.clauses.items
