use Rattle.std.proofs.Common.{◌≡◌, ◌+◌, ◌≤◌, length}
use Rattle.pm_deepen.specs.Answer.{AreExhausted}
use Rattle.pm_deepen.proofs.shared.deepen.Given as goal

abbrev pub invariant-levels : goal.invariant-levels
invariant-levels g l = record {
  count : length l.works.items ≡ l.level;
  within : l.level ≤ l.fn.depth + 1;
  exhausted : AreExhausted (g.M.Maker.key_at l.fn.maker) l.fn.budget l.works.items;
}
