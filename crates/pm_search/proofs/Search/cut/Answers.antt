use Rattle.std.proofs.Common.{◌≡◌, ℕ, ◌+◌, ◌^◌, ◌<◌, ◌≤◌, ◌∙◌, true, List, [], ◌∷◌, ◌++◌, length, get_or, take, subst, sym, ap, arith}
use Rattle.std.specs.Prelude.{IsSome, IsSomeAnd, Some, None, Option}
use Rattle.std.proofs.lemmas.List.{take_more}
use Rattle.pm_choice.specs.Order.{Precedes, PrecedesBound}
use Rattle.pm_search.specs.Cuts.{IsCut}
use Rattle.pm_search.specs.Turns.{Pauses}
use Rattle.pm_search.specs.Inside.Places.{next_of, IsSearchPlace}
use Rattle.pm_search.proofs.StandingLemmas.{at_next}
use Rattle.pm_search.proofs.CutLemmas.{next_fits, cut_above, cut_here, none_here, none_fits, next_is, popped}
use Rattle.pm_search.proofs.Search.cut.Goals as goal
use Rattle.pm_search.proofs.Search.cut.Goals.{At-places, then-choice-index+in_ok-push+else-precedes, else-choice-index}

has_next : (g : _) (c : At-places g) → IsSome (next_of c.self.inside.stage c.self.inside.place.items)
has_next g c =
    let told : c.is_attempting.result ≡ true = c.if-not-is_attempting.false in
    rw (← c.self.view_is) at (c.is_attempting.ensures.0 told)

stands : (g : _) (c : At-places g) → IsSearchPlace (g.S.Space.key c.self.inside.space) (g.S.Space.path c.self.inside.space) c.self.inside.place.items c.self.inside.widths.items × Pauses (g.S.Space.key c.self.inside.space) c.self.inside.from c.self.inside.to c.self.inside.place.items c.self.inside.worked
stands g c = at_next (g.S.Space.key c.self.inside.space) (g.S.Space.path c.self.inside.space) c.self.inside.place.items c.self.inside.widths.items c.self.inside.from c.self.inside.to c.self.inside.worked c.self.inside.stage (has_next g c) c.self.invariant

pub overflow_add-choice : goal.overflow_add-choice
overflow_add-choice g c =
    let stand = stands g (goal.at.overflow_add-choice g c).At-places in
    let within : c.places.n < length c.self.inside.place.items = omega (arith, c.places-test.true, ap length c.deref-choice-items.ensures.value) in
    let read : get_or c.deref-choice-items.result.now c.places.n 0 ≡ get_or c.self.inside.place.items c.places.n 0 = ap (λ (l : List ℕ). get_or l c.places.n 0) c.deref-choice-items.ensures.value in
    let fits : get_or c.deref-choice-items.result.now c.places.n 0 + 1 < 2 ^ 32 =
    next_fits (g.S.Space.key c.self.inside.space) (g.met.S.Space.is_key c.self.inside.space) (g.S.Space.path c.self.inside.space) c.self.inside.place.items c.self.inside.widths.items c.places.n (get_or c.deref-choice-items.result.now c.places.n 0) stand.0 stand.1.attempt within read in
    omega arith

pub returns-then-precedes-clause-cut : goal.returns-then-precedes-clause-cut
returns-then-precedes-clause-cut g c =
    let stand = stands g (goal.at.returns-then-precedes-clause-cut g c).At-places in
    let next : next_of c.self.inside.stage c.self.inside.place.items ≡ Some c.self.inside.place.items = next_is c.self.inside.stage c.self.inside.place.items (has_next g (goal.at.returns-then-precedes-clause-cut g c).At-places) in
    let within : c.places.n < length c.self.inside.place.items = omega (arith, c.places-test.true, ap length c.deref-choice-items.ensures.value) in
    let read : get_or c.deref-choice-items.result.now c.places.n 0 ≡ get_or c.self.inside.place.items c.places.n 0 = ap (λ (l : List ℕ). get_or l c.places.n 0) c.deref-choice-items.ensures.value in
    let below : PrecedesBound c.push.new.self c.self.inside.to = subst (λ (l : List ℕ). PrecedesBound l c.self.inside.to) c.as_slice.ensures (c.precedes.ensures.0 c.if-precedes.true) in
    let cut = cut_here (g.S.Space.key c.self.inside.space) (g.S.Space.path c.self.inside.space) c.self.inside.place.items c.self.inside.widths.items c.places.cut c.push.new.self c.self.inside.to c.places.n (get_or c.deref-choice-items.result.now c.places.n 0) c.index.result.now
    stand.0 within read c.index.ensures c.if-choice-index.true c.places.invariant.begun c.in_ok-push.ensures.ok below c.places.invariant.none in
    rw (← c.self.view_is) (subst (λ (o : Option (List ℕ)). IsCut (g.S.Space.key c.self.inside.space) c.self.inside.to o (Some c.push.new.self)) (sym next) cut)

pub places-preserved : goal.places-preserved
places-preserved g c =
    let stand = stands g (goal.at.places-preserved g c).At-places in
    let within : c.places.n < length c.self.inside.place.items = omega (arith, c.places-test.true, ap length c.deref-choice-items.ensures.value) in
    let read : get_or c.deref-choice-items.result.now c.places.n 0 ≡ get_or c.self.inside.place.items c.places.n 0 = ap (λ (l : List ℕ). get_or l c.places.n 0) c.deref-choice-items.ensures.value in
    let same : c.if-choice-index.cut ≡ c.places.cut =
    elim c.if-choice-index.branch [
      | then-choice-index+in_ok-push+else-precedes w ↦ w.cut-is ∙ popped w.pop-choice.result c.places.cut w.push.new.self w.pop-choice.new.self (get_or c.deref-choice-items.result.now c.places.n 0 + 1) w.in_ok-push.ensures.ok w.pop-choice.ensures.some w.pop-choice.ensures.none
      | else-choice-index w ↦ w.cut-is
    ] in
    let beyond : get_or c.deref-choice-items.result.now c.places.n 0 + 1 < c.index.result.now → ¬ PrecedesBound (take c.places.n c.self.inside.place.items ++ (get_or c.deref-choice-items.result.now c.places.n 0 + 1) ∷ []) c.self.inside.to =
    elim c.if-choice-index.branch [
      | then-choice-index+in_ok-push+else-precedes w ↦ λ there below.
          let whole : w.as_slice.result.now ≡ take c.places.n c.self.inside.place.items ++ (get_or c.deref-choice-items.result.now c.places.n 0 + 1) ∷ [] =
          w.as_slice.ensures ∙ w.in_ok-push.ensures.ok ∙ ap (λ (l : List ℕ). l ++ (get_or c.deref-choice-items.result.now c.places.n 0 + 1) ∷ []) c.places.invariant.begun in
          let told : w.precedes.result ≡ true = w.precedes.ensures.1 (subst (λ (l : List ℕ). PrecedesBound l c.self.inside.to) (sym whole) below) in
          absurd (let not = w.if-precedes.false in cc)
      | else-choice-index w ↦ λ there below. absurd (omega (arith, w.if-choice-index.false))
    ] in
    record {
      begun = c.in_ok-push-2.ensures.ok ∙ ap (λ (l : List ℕ). l ++ get_or c.deref-choice-items.result.now c.places.n 0 ∷ []) (same ∙ c.places.invariant.begun) ∙ ap (λ (x : ℕ). take c.places.n c.self.inside.place.items ++ x ∷ []) read ∙ sym (take_more c.self.inside.place.items c.places.n 0 within);
      none = none_here (g.S.Space.key c.self.inside.space) (g.S.Space.path c.self.inside.space) c.self.inside.place.items c.self.inside.widths.items c.self.inside.to c.places.n (get_or c.deref-choice-items.result.now c.places.n 0) c.index.result.now
          stand.0 within read c.index.ensures beyond c.places.invariant.none;
    }

pub returns-clause-cut : goal.returns-clause-cut
returns-clause-cut g c =
    let next : next_of c.self.inside.stage c.self.inside.place.items ≡ Some c.self.inside.place.items = next_is c.self.inside.stage c.self.inside.place.items (has_next g (goal.at.returns-clause-cut g c).At-places) in
    let past : length c.self.inside.place.items ≤ c.places.n = omega (arith, c.places-test.false, ap length c.deref-choice-items.ensures.value) in
    let none = none_fits (g.S.Space.key c.self.inside.space) c.self.inside.place.items c.self.inside.to c.places.n past c.places.invariant.none in
    rw (← c.self.view_is) (subst (λ (o : Option (List ℕ)). IsCut (g.S.Space.key c.self.inside.space) c.self.inside.to o None) (sym next) none)

pub returns-then-precedes-clause-above : goal.returns-then-precedes-clause-above
returns-then-precedes-clause-above g c =
    let next : next_of c.self.inside.stage c.self.inside.place.items ≡ Some c.self.inside.place.items =
    next_is c.self.inside.stage c.self.inside.place.items (has_next g (goal.at.returns-then-precedes-clause-above g c).At-places) in
    let within : c.places.n < length c.self.inside.place.items = omega (arith, c.places-test.true, ap length c.deref-choice-items.ensures.value) in
    let read : get_or c.deref-choice-items.result.now c.places.n 0 ≡ get_or c.self.inside.place.items c.places.n 0 =
    ap (λ (l : List ℕ). get_or l c.places.n 0) c.deref-choice-items.ensures.value in
    rw (← c.self.view_is) (subst (λ (o : Option (List ℕ)). IsSomeAnd o (λ n. Precedes n c.push.new.self)) (sym next)
    (cut_above c.self.inside.place.items c.places.cut c.push.new.self c.places.n (get_or c.deref-choice-items.result.now c.places.n 0) within read c.places.invariant.begun c.in_ok-push.ensures.ok))

pub returns-then-precedes-clause-below : goal.returns-then-precedes-clause-below
returns-then-precedes-clause-below g c =
    let below : PrecedesBound c.push.new.self c.self.inside.to =
    subst (λ (l : List ℕ). PrecedesBound l c.self.inside.to) c.as_slice.ensures (c.precedes.ensures.0 c.if-precedes.true) in
    rw (← c.self.view_is) below
