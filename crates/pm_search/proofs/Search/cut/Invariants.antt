use Rattle.std.proofs.Common.{◌≡◌, ℕ, ◌≤◌, List, length, take}
use Rattle.pm_search.specs.Cuts.{CutFits}
use Rattle.pm_search.proofs.Search.cut.Given as goal

abbrev pub invariant-places : goal.invariant-places
invariant-places g l = record {
  begun : l.cut ≡ take l.n l.self-inside.place.items;
  none : (list : List ℕ) (choice : ℕ) → CutFits (g.S.Space.key l.self-inside.space) l.self-inside.to l.self-inside.place.items list choice → l.n ≤ length list;
}
