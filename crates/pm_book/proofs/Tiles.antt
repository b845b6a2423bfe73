-- Rows that tile.
use Rattle.std.proofs.Common.{ℕ, List, [], ◌∷◌, ◌++◌, refl, sym, ap, subst, inl, inr}
use Rattle.std.specs.Prelude.{All}
use Rattle.std.proofs.lemmas.List.Elements.{All-nil, All-cons, All-weaker}
use Rattle.pm_choice.specs.declared.Bound.{Bound}
use Rattle.pm_choice.specs.declared.Bound.TheVariants.{At}
use Rattle.pm_choice.specs.Order.{Precedes, PrecedesBound, IsWithin}
use Rattle.pm_choice.proofs.OrderLemmas.{below_bound}
use Rattle.pm_book.specs.Rows.{Row, Tile, is_below}
use Rattle.pm_book.specs.Always.{IsInOne, Covers}
use Rattle.pm_book.proofs.OrderTests.{bool_cases, below_is, not_below_is}

pub tile_append : (a b c : Bound) (xs ys : List Row) → Tile a b xs → Tile b c ys → Tile a c (xs ++ ys)
tile_append a b c [] ys p q = subst (λ (x : Bound). Tile x c ys) (sym p) q
tile_append a b c (x ∷ xs) ys p q = (p.0, p.1, tile_append x.to b c xs ys p.2 q)

pub tile_split : (a c : Bound) (xs ys : List Row) → Tile a c (xs ++ ys) → (b : Bound) × Tile a b xs × Tile b c ys
tile_split a c [] ys p = (a, refl, p)
tile_split a c (x ∷ xs) ys p = let parts = tile_split x.to c xs ys p.2 in (parts.0, (p.0, p.1, parts.1), parts.2)

-- a row among rows that tile: those before it end where it begins, and those after it begin where it ends
pub record TilesRound (a c : Bound) (before : List Row) (row : Row) (after : List Row) : Type 0 where
  pub left : Tile a (At row.from) before
  pub here : PrecedesBound row.from row.to
  pub right : Tile row.to c after

pub tile_round : (a c : Bound) (before : List Row) (row : Row) (after : List Row) → Tile a c (before ++ row ∷ after) → TilesRound a c before row after
tile_round a c before row after tiles =
    let parts = tile_split a c before (row ∷ after) tiles in
    record { left = subst (λ (b : Bound). Tile a b before) parts.2.0 parts.1; here = parts.2.1; right = parts.2.2 }

-- what is below the first bound of a tiling is below its last
pub below_all : (a c : Bound) (rows : List Row) (list : List ℕ) → Tile a c rows → PrecedesBound list a → PrecedesBound list c
below_all a c [] list tiles below = subst (λ (b : Bound). PrecedesBound list b) tiles below
below_all a c (x ∷ xs) list tiles below =
    below_all x.to c xs list tiles.2 (below_bound list x.from x.to (subst (λ (b : Bound). PrecedesBound list b) tiles.0 below) tiles.1)

-- what is below the end of a row is below the end of the tiling
pub ends_before : (a c : Bound) (rows : List Row) → Tile a c rows → All (λ row. (list : List ℕ) → PrecedesBound list row.to → PrecedesBound list c) rows
ends_before a c [] tiles = All-nil (λ (row : Row). (list : List ℕ) → PrecedesBound list row.to → PrecedesBound list c)
ends_before a c (x ∷ xs) tiles =
    All-cons (λ (row : Row). (list : List ℕ) → PrecedesBound list row.to → PrecedesBound list c) x xs
    (λ list below. below_all x.to c xs list tiles.2 below) (ends_before x.to c xs tiles.2)

-- what is below the first bound precedes the beginning of each row
pub begins_after : (a c : Bound) (rows : List Row) → Tile a c rows → All (λ row. (list : List ℕ) → PrecedesBound list a → Precedes list row.from) rows
begins_after a c [] tiles = All-nil (λ (row : Row). (list : List ℕ) → PrecedesBound list a → Precedes list row.from)
begins_after a c (x ∷ xs) tiles =
    All-cons (λ (row : Row). (list : List ℕ) → PrecedesBound list a → Precedes list row.from) x xs
    (λ list below. subst (λ (b : Bound). PrecedesBound list b) tiles.0 below)
    (All-weaker (λ (row : Row). (list : List ℕ) → PrecedesBound list x.to → Precedes list row.from) (λ (row : Row). (list : List ℕ) → PrecedesBound list a → Precedes list row.from)
    (λ row holds list below. holds list (below_bound list x.from x.to (subst (λ (b : Bound). PrecedesBound list b) tiles.0 below) tiles.1)) xs (begins_after x.to c xs tiles.2))

-- no row of a tiling is empty
pub none_empty : (a c : Bound) (rows : List Row) → Tile a c rows → All (λ row. PrecedesBound row.from row.to) rows
none_empty a c [] tiles = All-nil (λ (row : Row). PrecedesBound row.from row.to)
none_empty a c (x ∷ xs) tiles = All-cons (λ (row : Row). PrecedesBound row.from row.to) x xs tiles.1 (none_empty x.to c xs tiles.2)

-- a list between the bounds of a tiling is in one row
pub in_one : (a b : Bound) (rows : List Row) (list : List ℕ) → Tile a b rows → (¬ PrecedesBound list a) → PrecedesBound list b → IsInOne rows list
in_one a b [] list tiles from below = absurd (from (subst (λ (x : Bound). PrecedesBound list x) (sym tiles) below))
in_one a b (x ∷ xs) list tiles from below =
    elim (bool_cases (is_below list x.to)) [
      | inl here ↦
          let within : PrecedesBound list x.to = (below_is list x.to).0 here in
          record {
            before = [];
            row = x;
            after = xs;
            is = refl;
            within = record { not_below = λ p. from (subst (λ (b : Bound). PrecedesBound list b) (sym tiles.0) p); below = within };
            not_before = All-nil (λ (row : Row). ¬ IsWithin row.from row.to list);
            not_after =
                All-weaker (λ (row : Row). (l : List ℕ) → PrecedesBound l x.to → Precedes l row.from) (λ (row : Row). ¬ IsWithin row.from row.to list)
                (λ row after inside. inside.not_below (after list within)) xs (begins_after x.to b xs tiles.2);
          }
      | inr beyond ↦
          let past : ¬ PrecedesBound list x.to = not_below_is list x.to beyond in
          let rest = in_one x.to b xs list tiles.2 past below in
          record {
            before = x ∷ rest.before;
            row = rest.row;
            after = rest.after;
            is = ap (λ (l : List Row). x ∷ l) rest.is;
            within = rest.within;
            not_before = All-cons (λ (row : Row). ¬ IsWithin row.from row.to list) x rest.before (λ inside. past inside.below) rest.not_before;
            not_after = rest.not_after;
          }
    ]

-- a list in a row of a tiling is between its bounds
pub between : (a : List ℕ) (b : Bound) (rows : List Row) (list : List ℕ) → Tile (At a) b rows → IsInOne rows list → IsWithin a b list
between a b rows list tiles one =
    let round = tile_round (At a) b one.before one.row one.after (subst (λ (l : List Row). Tile (At a) b l) one.is tiles) in
    record {
      not_below = λ p. one.within.not_below (below_all (At a) (At one.row.from) one.before list round.left p);
      below = below_all one.row.to b one.after list round.right one.within.below;
    }

pub covers : (row : Row) (parts : List Row) → Tile (At row.from) row.to parts → Covers row parts
covers row parts tiles = record {
  none_lost = λ list within. in_one (At row.from) row.to parts list tiles within.not_below within.below;
  none_gained = λ list one. between row.from row.to parts list tiles one;
}
