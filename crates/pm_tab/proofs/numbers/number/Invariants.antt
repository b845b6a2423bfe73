use Rattle.std.proofs.Common.{◌≡◌, ◌*◌, ◌≤◌, length, map, take}
use Rattle.std.specs.List.{AllZip}
use Rattle.pm_tab.specs.Inside.Numbering.{all_literals, AreNumbersOf}
use Rattle.pm_tab.specs.Inside.Known.{Knows}
use Rattle.pm_tab.proofs.numbers.number.Given as goal

-- the literals of the clauses so far are counted, fewer than 256 for each, and have their numbers
abbrev pub invariant-clauses : goal.invariant-clauses
invariant-clauses l = record {
  counted : l.count ≡ length (all_literals (take l.i l.problem.clauses));
  few : l.count ≤ 255 * l.i;
  kept : Knows l.problem.terms (all_literals l.problem.clauses) l.count l.seen.entries;
  numbered : AllZip (λ clause own. AreNumbersOf (all_literals l.problem.clauses) clause.literals own) (take l.i l.problem.clauses)
      (map (λ own. own.items) l.numbers.items);
}
