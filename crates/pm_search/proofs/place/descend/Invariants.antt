use Rattle.std.proofs.Common.{◌≡◌, take}
use Rattle.pm_space.specs.Key.{Agree}
use Rattle.pm_search.proofs.DescendLemmas.{AreWidthsBefore}
use Rattle.pm_search.proofs.place.descend.Given as goal

abbrev pub invariant-down : goal.invariant-down
invariant-down g l = record {
  path : g.S.Space.path l.space ≡ l.place.items;
  walked : l.place.items ≡ take l.choice-index l.before;
  measured : AreWidthsBefore (g.S.Space.key l.fn.space) l.place.items l.widths.items;
  key : Agree (g.S.Space.key l.space) (g.S.Space.key l.fn.space);
}
