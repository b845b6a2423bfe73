use Rattle.std.proofs.Common.{◌≡◌, ◌+◌, List, map, take}
use Rattle.pm_logic.specs.Term.{Term}
use Rattle.pm_logic.specs.Problem.{Literal}
use Rattle.pm_logic.specs.View.{literal_of}
use Rattle.pm_tab.specs.Inside.Numbering.{AreNumbersOf}
use Rattle.pm_tab.specs.Inside.Known.{Knows, StandAfter, TellsGround}
use Rattle.pm_tab.proofs.numbers.number_clause.Given as goal

-- the literals so far are counted and have their numbers
abbrev pub invariant-literals : goal.invariant-literals
invariant-literals l = record {
  counted : l.count ≡ l.fn.count + l.literal-index;
  numbered : (terms : List Term) (all : List Literal) → TellsGround terms l.ground → Knows terms all l.fn.count l.fn.seen.entries
      → StandAfter all l.fn.count (map (literal_of terms) l.clause.literals.items)
      → AreNumbersOf all (map (literal_of terms) (take l.literal-index l.clause.literals.items)) l.numbers.items × Knows terms all l.count l.seen.entries;
}
