-- Code that is ready stays so while it is run.
use Rattle.std.proofs.Common.{◌≡◌, ℕ, zero, suc, ◌+◌, ◌==◌, ◌||◌, Bool, true, false, inl, inr, List, [], ◌∷◌, ◌++◌, length, reverse, Option, Some, None, set, slice_get, refl, sym, ◌∙◌, ap, subst, arith}
use Rattle.std.specs.List.{range_with_len}
use Rattle.std.proofs.lemmas.List.{length-append, length-reverse}
use Rattle.std.proofs.lemmas.List.FromFn.{length-range_with_len}
use Rattle.std.proofs.lemmas.Bool.Decides.{eqb_tells}
use Rattle.pm_store.specs.Equations.{Equations, with_cell}
use Rattle.pm_store.specs.Entries.{Application}
use Rattle.pm_compile.specs.Instructions.{Instruction, FIRST, AGAIN, MEET, GROUND, NEW, PUSH, MAKE, CONST, GOAL, BODY, RETURN, CLOSE, REDUCE, DONE}
use Rattle.pm_compile.specs.Scheme.{is_among}
use Rattle.pm_run.specs.State.{RunState, with_changed, closed_child}
use Rattle.pm_run.specs.Turns.{InTurn}
use Rattle.pm_run.specs.Meaning.{Meets, all_set, new_child, Does, NoBody, RunsBody}
use Rattle.pm_run.specs.Inside.Ready.{IsLocal, Fits, IsReadyIn, NoBodyIsReady, EndsWith, BodyIsReady, Finds}
use Rattle.pm_run.proofs.PartLemmas.{slice_get-set_same, slice_get-set_other, kept_all_set}
use Rattle.pm_run.proofs.ReadyLemmas.{among_range}

among_last : (y x : ℕ) (seen : List ℕ) → is_among y (seen ++ x ∷ []) ≡ (is_among y seen || (y == x))
among_last y x [] = last_or (y == x)
  where
    last_or : (b : Bool) → (b || false) ≡ (false || b)
    last_or true = refl
    last_or false = refl
among_last y x (z ∷ seen) = ap (λ b. (y == z) || b) (among_last y x seen) ∙ grouped (y == z) (is_among y seen) (y == x)
  where
    grouped : (a b c : Bool) → (a || (b || c)) ≡ ((a || b) || c)
    grouped true b c = refl
    grouped false b c = refl

or_true : (b : Bool) → (b || true) ≡ true
or_true true = refl
or_true false = refl

or_false : (b : Bool) → (b || false) ≡ b
or_false true = refl
or_false false = refl

-- what is known of a variable's local once another one is seen
seen_more : (seen : List ℕ) (x y : ℕ) (old new : Option (Option ℕ)) → IsLocal (is_among y seen) old
    → (y ≡ x → IsLocal true new) → ((y ≡ x → ⊥) → new ≡ old) → IsLocal (is_among y (seen ++ x ∷ [])) new
seen_more seen x y old new before same other =
    elim (eqb_tells y x) [
      | inl is ↦
          subst (λ b. IsLocal b new) (sym (among_last y x seen ∙ ap (λ b. is_among y seen || b) is.0 ∙ or_true (is_among y seen))) (same is.1)
      | inr not_it ↦
          subst (λ b. IsLocal b new) (sym (among_last y x seen ∙ ap (λ b. is_among y seen || b) not_it.0 ∙ or_false (is_among y seen)))
          (subst (λ o. IsLocal (is_among y seen) o) (sym (other not_it.1)) before)
    ]

now_set : (next : ℕ) (locals : List (Option ℕ)) (x : ℕ) → slice_get locals x ≡ Some None → IsLocal true (slice_get (all_set next locals) x)
now_set next [] x is = absurd cc
now_set next (Some c ∷ locals) zero is = (c, refl)
now_set next (Some c ∷ locals) (suc x) is = now_set next locals x is
now_set next (None ∷ locals) zero is = (next, refl)
now_set next (None ∷ locals) (suc x) is = now_set (next + 1) locals x is

each_set : (b : Bool) (next : ℕ) (locals : List (Option ℕ)) (x : ℕ) → IsLocal b (slice_get locals x) → IsLocal true (slice_get (all_set next locals) x)
each_set true next locals x is = (is.0, kept_all_set next locals x is.0 is.1)
each_set false next locals x is = now_set next locals x is

popped : (c : ℕ) (rest stack : List ℕ) (height r : ℕ) → stack ≡ c ∷ rest → length stack ≡ height → height ≡ suc r → length rest ≡ r
popped c rest stack height r top counted is =
    let same : length stack ≡ suc (length rest) = ap length top in
    omega (arith, same, counted, is)

popped_many : (args rest stack : List ℕ) (n height r : ℕ) → length args ≡ n → stack ≡ reverse args ++ rest → length stack ≡ height
    → height ≡ n + r → length rest ≡ r
popped_many args rest stack n height r count top counted is =
    let same : length stack ≡ length (reverse args) + length rest = ap length top ∙ length-append (reverse args) rest in
    let back : length (reverse args) ≡ length args = length-reverse args in
    omega (arith, same, back, count, counted, is)

met_count : (s : Equations) (c f n : ℕ) (args : List ℕ) (new : Equations) → Meets s c f n args new → length args ≡ n
met_count s c f n args new (inl is) = is.0.count
met_count s c f n args new (inr is) = ap length is.1 ∙ length-range_with_len (length s.cells) n

module _ (vars : ℕ) (ready : ℕ → List ℕ → ℕ → Type 0) (ends : List ℕ → ℕ → Type 0) (body : ℕ → RunState → RunState → Type 0)
    (keeps : (c : ℕ) (seen : List ℕ) (height : ℕ) (m new : RunState) → ready c seen height → body c m new → Fits vars seen height m → Fits vars seen height new) where
  -- a state with the same locals
  as_before : (seen : List ℕ) (height h : ℕ) (m new : RunState) → Fits vars seen height m → new.locals ≡ m.locals → length new.stack ≡ h → Fits vars seen h new
  as_before seen height h m new fits same counted =
      record { locals = λ x lt. subst (λ (ls : List (Option ℕ)). IsLocal (is_among x seen) (slice_get ls x)) (sym same) (fits.locals x lt); stack = counted }

  -- where another variable is seen
  with_seen : (seen : List ℕ) (x height h : ℕ) (m new : RunState) → Fits vars seen height m
      → ((y : ℕ) → y ≡ x → IsLocal true (slice_get new.locals y)) → ((y : ℕ) → (y ≡ x → ⊥) → slice_get new.locals y ≡ slice_get m.locals y)
      → length new.stack ≡ h → Fits vars (seen ++ x ∷ []) h new
  with_seen seen x height h m new fits same other counted =
      record { locals = λ y lt. seen_more seen x y (slice_get m.locals y) (slice_get new.locals y) (fits.locals y lt) (same y) (other y); stack = counted }

  the_same : (code : List Instruction) (m new : RunState) → new ≡ m → IsReadyIn vars ready ends code m → IsReadyIn vars ready ends code new
  the_same code m new same is = subst (λ (s : RunState). IsReadyIn vars ready ends code s) (sym same) is

  pub ready_next : (i : Instruction) (code : List Instruction) (m new : RunState) → Does body i m new
      → IsReadyIn vars ready ends (i ∷ code) m → IsReadyIn vars ready ends code new
  ready_next (FIRST x) code m new (c, rest, top, unset, same) (seen, height, fits, (r, h, lt, among, others)) =
      let after : RunState = record m { locals = set m.locals x (Some c); stack = rest } in
      the_same code after new same (
        seen ++ x ∷ [],
        r,
        with_seen seen x height r m after fits
            (λ y is. (c, ap (slice_get after.locals) is ∙ slice_get-set_same m.locals x None (Some c) unset))
            (λ y other. slice_get-set_other m.locals x y (Some c) (λ e. other (sym e)))
            (popped c rest m.stack height r top fits.stack h),
        others,
      )
  ready_next (AGAIN x) code m new (c, d, rest, s, top, is_set, unified, same) (seen, height, fits, (r, h, lt, among, others)) =
      let after : RunState = record m { equations = s; stack = rest } in
      the_same code after new same (
        seen ++ x ∷ [],
        r,
        with_seen seen x height r m after fits (λ y is. (d, ap (slice_get m.locals) is ∙ is_set)) (λ y other. refl)
            (popped c rest m.stack height r top fits.stack h),
        others,
      )
  ready_next (MEET f n) code m new (c, rest, args, s, top, meets, same) (seen, height, fits, (r, h, others)) =
      let after : RunState = record m { equations = s; stack = args ++ rest } in
      let under : length rest ≡ r = popped c rest m.stack height r top fits.stack h in
      let over : length args ≡ n = met_count m.equations c f n args s meets in
      the_same code after new same (seen, n + r, as_before seen height (n + r) m after fits refl (omega (arith, length-append args rest, under, over)), others)
  ready_next (GROUND t) code m new (c, d, rest, s, top, cell, unified, same) (seen, height, fits, (r, h, ground, others)) =
      let after : RunState = record m { equations = s; stack = rest } in
      the_same code after new same (seen, r, as_before seen height r m after fits refl (popped c rest m.stack height r top fits.stack h), others)
  ready_next NEW code m new same (seen, height, fits, others) =
      let after : RunState = record m { locals = all_set (length m.equations.cells) m.locals; equations = new.equations } in
      let all : List (Option ℕ) = all_set (length m.equations.cells) m.locals in
      let changed : new.locals ≡ all = ap (λ (s : RunState). s.locals) same in
      let stacked : new.stack ≡ m.stack = ap (λ (s : RunState). s.stack) same in (
        range_with_len 0 vars,
        height,
        record {
          locals = λ x lt.
              subst (λ (ls : List (Option ℕ)). IsLocal (is_among x (range_with_len 0 vars)) (slice_get ls x)) (sym changed)
              (subst (λ b. IsLocal b (slice_get all x)) (sym (among_range x 0 vars (omega arith) (omega (arith, lt))))
              (each_set (is_among x seen) (length m.equations.cells) m.locals x (fits.locals x lt)));
          stack = ap length stacked ∙ fits.stack;
        },
        others,
      )
  ready_next (PUSH x) code m new (c, is_set, same) (seen, height, fits, (lt, among, others)) =
      let after : RunState = record m { stack = c ∷ m.stack } in
      the_same code after new same (seen, suc height, as_before seen height (suc height) m after fits refl (ap suc fits.stack), others)
  ready_next (MAKE f n) code m new (args, rest, count, top, same) (seen, height, fits, (r, h, others)) =
      let after : RunState = record m { equations = with_cell m.equations (Application f args); stack = length m.equations.cells ∷ rest } in
      the_same code after new same
      (seen, suc r, as_before seen height (suc r) m after fits refl (ap suc (popped_many args rest m.stack n height r count top fits.stack h)), others)
  ready_next (CONST t) code m new (c, cell, same) (seen, height, fits, (ground, others)) =
      let after : RunState = record m { stack = c ∷ m.stack } in
      the_same code after new same (seen, suc height, as_before seen height (suc height) m after fits refl (ap suc fits.stack), others)
  ready_next (GOAL positive p n) code m new (args, rest, count, top, same) (seen, height, fits, (r, h, others)) =
      let after : RunState = record m { stack = rest; children = m.children ++ new_child positive p args ∷ [] } in
      the_same code after new same (seen, r, as_before seen height r m after fits refl (popped_many args rest m.stack n height r count top fits.stack h), others)
  ready_next (BODY c) code m new does (seen, height, fits, (its, others)) = (seen, height, keeps c seen height m new its does fits, others)
  ready_next RETURN code m new same (seen, height, fits, others) = the_same code m new same (seen, height, fits, others)
  ready_next (CLOSE j) code m new same (seen, height, fits, others) =
      let after : RunState = record m { children = with_changed j closed_child m.children } in
      the_same code after new same (seen, height, as_before seen height height m after fits refl fits.stack, others)
  ready_next (REDUCE k) code m new does (seen, height, fits, none) = absurd none
  ready_next DONE code m new same (seen, height, fits, others) = the_same code m new same (seen, height, fits, others)

  pub ready_last : (code : List Instruction) (m new : RunState) → InTurn (Does body) code m new
      → IsReadyIn vars ready ends code m → IsReadyIn vars ready ends [] new
  ready_last [] m new same is = the_same [] m new same is
  ready_last (i ∷ code) m new (next, does, others) is = ready_last code next new others (ready_next i code m next does is)

-- a body that is ready leaves the locals and the height of the stack
module _ (count vars : ℕ) (bodies : ℕ → List Instruction) where
  pub no_body_keeps_fit : (c : ℕ) (seen : List ℕ) (height : ℕ) (m new : RunState) → NoBodyIsReady c seen height → NoBody c m new
      → Fits vars seen height m → Fits vars seen height new
  no_body_keeps_fit c seen height m new none does fits = absurd none

  fits_same : (seen seen' : List ℕ) (height height' : ℕ) (m : RunState) → seen' ≡ seen → height' ≡ height → Fits vars seen' height' m → Fits vars seen height m
  fits_same seen seen' height height' m same counted fits = record {
    locals = λ x lt. subst (λ (s : List ℕ). IsLocal (is_among x s) (slice_get m.locals x)) same (fits.locals x lt);
    stack = fits.stack ∙ counted;
  }

  pub body_keeps_fit : (c : ℕ) (seen : List ℕ) (height : ℕ) (m new : RunState) → BodyIsReady count vars bodies c seen height → RunsBody bodies c m new
      → Fits vars seen height m → Fits vars seen height new
  body_keeps_fit c seen height m new is does fits =
      let last = ready_last vars NoBodyIsReady (EndsWith seen height) NoBody no_body_keeps_fit (bodies c) m new does (seen, height, fits, is.1) in
      fits_same seen last.0 height last.1 new last.3.0 last.3.1 last.2

local_true : (b : Bool) (o : Option (Option ℕ)) → b ≡ true → IsLocal b o → IsLocal true o
local_true true o is local = local
local_true false o is local = absurd cc

local_false : (b : Bool) (o : Option (Option ℕ)) → b ≡ false → IsLocal b o → IsLocal false o
local_false false o is local = local
local_false true o is local = absurd cc

-- the next instruction finds what it reads, unless it performs a body
pub ready_finds : (vars : ℕ) (ready : ℕ → List ℕ → ℕ → Type 0) (ends : List ℕ → ℕ → Type 0) (i : Instruction) (code : List Instruction) (m : RunState)
    → ((c : ℕ) (seen : List ℕ) (height : ℕ) → i ≡ BODY c → ready c seen height → ⊥) → IsReadyIn vars ready ends (i ∷ code) m → Finds i m.locals (length m.stack)
ready_finds vars ready ends (FIRST x) code m bodiless (seen, height, fits, (r, h, lt, among, others)) =
    (omega (arith, fits.stack, h), local_false (is_among x seen) (slice_get m.locals x) among (fits.locals x lt))
ready_finds vars ready ends (AGAIN x) code m bodiless (seen, height, fits, (r, h, lt, among, others)) =
    (omega (arith, fits.stack, h), local_true (is_among x seen) (slice_get m.locals x) among (fits.locals x lt))
ready_finds vars ready ends (MEET f n) code m bodiless (seen, height, fits, (r, h, others)) = omega (arith, fits.stack, h)
ready_finds vars ready ends (GROUND t) code m bodiless (seen, height, fits, (r, h, ground, others)) = (omega (arith, fits.stack, h), ground)
ready_finds vars ready ends NEW code m bodiless is = tt
ready_finds vars ready ends (PUSH x) code m bodiless (seen, height, fits, (lt, among, others)) = local_true (is_among x seen) (slice_get m.locals x) among (fits.locals x lt)
ready_finds vars ready ends (MAKE f n) code m bodiless (seen, height, fits, (r, h, others)) = omega (arith, fits.stack, h)
ready_finds vars ready ends (CONST t) code m bodiless (seen, height, fits, (ground, others)) = ground
ready_finds vars ready ends (GOAL positive p n) code m bodiless (seen, height, fits, (r, h, others)) = omega (arith, fits.stack, h)
ready_finds vars ready ends (BODY c) code m bodiless (seen, height, fits, (its, others)) = absurd (bodiless c seen height refl its)
ready_finds vars ready ends RETURN code m bodiless is = tt
ready_finds vars ready ends (CLOSE j) code m bodiless is = tt
ready_finds vars ready ends (REDUCE k) code m bodiless (seen, height, fits, none) = absurd none
ready_finds vars ready ends DONE code m bodiless is = tt
