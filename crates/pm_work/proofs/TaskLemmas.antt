-- What a worker holds of a row, while its search goes on.
use Rattle.std.proofs.Common.{◌≡◌, ℕ, List, [], ◌∷◌, ◌++◌, inl, inr, sym, ap, subst}
use Rattle.std.specs.Prelude.{Option, Some, None, All, MatchOption, IsSomeAnd}
use Rattle.pm_space.specs.Key.{Key, Agree}
use Rattle.pm_choice.specs.declared.Bound.{Bound}
use Rattle.pm_choice.specs.declared.Bound.TheVariants.{At}
use Rattle.pm_choice.specs.Order.{Precedes, PrecedesBound, IsWithin}
use Rattle.pm_choice.specs.Entries.{Closes, Finds}
use Rattle.pm_choice.proofs.OrderLemmas.{irreflexive, transitive, not_below}
use Rattle.pm_choice.proofs.EntryLemmas.{closes_none}
use Rattle.pm_search.specs.declared.Turn.{Turn}
use Rattle.pm_search.specs.declared.Turn.TheVariants.{Closed, Found, Paused}
use Rattle.pm_search.specs.Attempts.{attempts_of}
use Rattle.pm_search.specs.Turns.{IsTurn}
use Rattle.pm_search.specs.Standing.{Standing}
use Rattle.pm_search.proofs.AgreeLemmas.{agree_sym, closes_agrees, turn_agrees}
use Rattle.pm_book.specs.Rows.{Span}
use Rattle.pm_work.specs.declared.piece.Piece.{Piece}
use Rattle.pm_work.specs.Pieces.{IsHonestPiece}
use Rattle.pm_work.proofs.PieceLemmas.{with_piece}
use Rattle.pm_work.specs.Inside.Tasks.{IsDoneTo, IsHeld, IsSearching}

-- a ticket may come back at its lower end
pub lower_end : (from : List ℕ) (to : Bound) → PrecedesBound from to → IsWithin from to from
lower_end from to interval = record { not_below = irreflexive from; below = interval }

module _ (key : Key) (ticket : Span) (from : List ℕ) (to : Bound) (place : Option (List ℕ)) (done : ℕ) (held : IsHeld key ticket from to place done) (at : List ℕ) (is : place ≡ Some at) where
  pub held_at : IsDoneTo key ticket.from ticket.to done at
  held_at = subst (λ (o : Option (List ℕ)). MatchOption o (Unit {0}) (IsDoneTo key ticket.from ticket.to done)) is held.done_to

  -- at the lower end there is no work
  pub no_work : at ≡ ticket.from → done ≡ 0
  no_work same = closes_none (attempts_of key) ticket.from done (subst (λ (l : List ℕ). Closes (attempts_of key) ticket.from (At l) done) same held_at.closes)

  -- the piece of a row that is given back
  pub returned_honest : (end : List ℕ) (pieces more : List Piece) (piece : Piece) → end ≡ at → piece ≡ record { from = from; to = At end; work = done; path = None } → more ≡ pieces ++ piece ∷ []
      → All (IsHonestPiece key) pieces → All (IsHonestPiece key) more
  returned_honest end pieces more piece end-is piece-is more-is honest =
      let closes : Closes (attempts_of key) from (At end) done =
      subst (λ (l : List ℕ). Closes (attempts_of key) from (At l) done) (sym end-is) (subst (λ (l : List ℕ). Closes (attempts_of key) l (At at) done) (sym held.from_is) held_at.closes) in
      with_piece key pieces more piece more-is honest (subst (IsHonestPiece key) (sym piece-is) closes)

-- what is held for a key is held for each that agrees with it
pub held_agrees : (key other : Key) → Agree other key → (ticket : Span) (from : List ℕ) (to : Bound) (place : Option (List ℕ)) (done : ℕ) → IsHeld other ticket from to place done → IsHeld key ticket from to place done
held_agrees key other agree ticket from to place done held = record {
  interval = held.interval;
  from_is = held.from_is;
  to_is = held.to_is;
  done_to = by place held.done_to;
}
  where
    by : (o : Option (List ℕ)) → MatchOption o (Unit {0}) (IsDoneTo other ticket.from ticket.to done) → MatchOption o (Unit {0}) (IsDoneTo key ticket.from ticket.to done)
    by None h = tt
    by (Some at) h = record { within = h.within; closes = closes_agrees key other agree ticket.from (At at) done h.closes }

-- the turn of a task's search, after which the key is another one that agrees
module _ {S : Type 0} (key old : Key) (agree : Agree key old) (ticket : Span) (from : List ℕ) (to : Bound) (place : Option (List ℕ)) (done : ℕ) (held : IsHeld old ticket from to place done)
    (search : Standing S) (searching : IsSearching ticket search) (most : ℕ) (turn : Turn) (is : IsTurn old search.from search.to most turn) where
  pub turn_here : IsTurn key ticket.from ticket.to most turn
  turn_here =
      turn_agrees key old (agree_sym key old agree) ticket.from ticket.to most turn
      (subst (λ (b : Bound). IsTurn old ticket.from b most turn) searching.interval.ends (subst (λ (l : List ℕ). IsTurn old l search.to most turn) searching.interval.starts is))

  pub closes_here : (work : ℕ) → turn ≡ Closed work → Closes (attempts_of key) from to work
  closes_here work turn-is =
      subst (λ (b : Bound). Closes (attempts_of key) from b work) (sym held.to_is)
      (subst (λ (l : List ℕ). Closes (attempts_of key) l ticket.to work) (sym held.from_is) (subst (IsTurn key ticket.from ticket.to most) turn-is turn_here).0)

  pub finds_here : (path : List ℕ) (work : ℕ) → turn ≡ Found path work → Finds (attempts_of key) from to path work
  finds_here path work turn-is =
      subst (λ (b : Bound). Finds (attempts_of key) from b path work) (sym held.to_is)
      (subst (λ (l : List ℕ). Finds (attempts_of key) l ticket.to path work) (sym held.from_is) (subst (IsTurn key ticket.from ticket.to most) turn-is turn_here).0)

  pub held_here : (at : List ℕ) (work : ℕ) → turn ≡ Paused at work → IsHeld key ticket from to (Some at) work
  held_here at work turn-is =
      let paused = (subst (IsTurn key ticket.from ticket.to most) turn-is turn_here).0 in
      record { interval = held.interval; from_is = held.from_is; to_is = held.to_is; done_to = record { within = paused.within; closes = paused.below } }

-- what is held of a row that ends at a list after the last pause
module _ (key : Key) (ticket shorter : Span) (from : List ℕ) (to : Bound) (place : Option (List ℕ)) (done : ℕ) (held : IsHeld key ticket from to place done) (mid : List ℕ)
    (shorter-is : shorter ≡ record ticket { to = At mid }) where
  after_pause : (at : List ℕ) → place ≡ Some at → Precedes at mid → (end : List ℕ) → end ≡ mid → IsHeld key shorter from (At end) place done
  after_pause at place-is before end end-is =
      let was = held_at key ticket from to place done held at place-is in
      let interval : Precedes ticket.from mid = elim (not_below at ticket.from was.within.not_below) [
        | inl same ↦ subst (λ (l : List ℕ). Precedes l mid) same before
        | inr after ↦ transitive ticket.from at mid after before
      ] in
      let short : IsHeld key (record ticket { to = At mid }) from (At end) place done = record {
        interval = interval;
        from_is = held.from_is;
        to_is = ap At end-is;
        done_to = subst (λ (o : Option (List ℕ)). MatchOption o (Unit {0}) (IsDoneTo key ticket.from (At mid) done)) (sym place-is)
            (record { within = record { not_below = was.within.not_below; below = before }; closes = was.closes });
      } in
      subst (λ (t : Span). IsHeld key t from (At end) place done) (sym shorter-is) short

  pub shortened : (next : Option (List ℕ)) → place ≡ next → IsSomeAnd next (λ at. Precedes at mid) → (end : List ℕ) → end ≡ mid → IsHeld key shorter from (At end) place done
  shortened (Some at) place-is before end end-is = after_pause at place-is before end end-is
  shortened None place-is before end end-is = absurd before
