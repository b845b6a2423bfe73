use Rattle.std.proofs.Common.{◌≡◌, ◌+◌, vec_len}
use Rattle.pm_space.specs.Key.{Agree}
use Rattle.pm_search.specs.Inside.Places.{IsSearchPlace, SameBelow}
use Rattle.pm_search.proofs.place.climb.Given as goal

abbrev pub invariant-up : goal.invariant-up
invariant-up g l = record {
  is_place : IsSearchPlace (g.S.Space.key l.initial.space) (g.S.Space.path l.space) l.place.items l.widths.items;
  same : SameBelow (g.S.Space.key l.initial.space) l.initial.place.items l.place.items;
  key : Agree (g.S.Space.key l.space) (g.S.Space.key l.initial.space);
  index : l.last + 1 ≡ vec_len l.place;
}

abbrev pub decreases-up : goal.decreases-up
decreases-up g l = vec_len l.place
