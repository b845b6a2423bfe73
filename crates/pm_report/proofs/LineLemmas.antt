-- The lines of a text, and what they tell of its numbers.
use Rattle.std.proofs.Common.{◌≡◌, ◌∙◌, ◌+◌, ◌%◌, ◌^◌, ◌<◌, ◌==◌, ◌&&◌, not, ℕ, Bool, true, false, cond, List, [], ◌∷◌, ◌++◌, length, get_or, drop, refl, sym, ap, subst, arith, codes, decimal, true≢false, rules, tests, ◌⊎◌, inl, inr, Some, zero, suc}
use Rattle.std.specs.List.{All, Contains, list_all}
use Rattle.std.specs.Prelude.{slice_get}
use Rattle.std.proofs.lemmas.List.Folds.{list_all-append}
use Rattle.std.proofs.lemmas.List.Elements.{Contains-append_cases, Contains-append_left}
use Rattle.std.proofs.lemmas.Fmt.{decimal_by_steps, decimal_injective}
use Rattle.pm_report.specs.Text.{Line, budget_line, gave_up_lines, level_line, level_lines_from, resource_out_lines, text_of}
use Rattle.pm_report.specs.Lines.{AreWorks, LevelLinesDiffer, SaysWorks, lines_of, onto_first_line}

-- neither LF nor a blank
abbrev pub is_solid : ℕ → Bool
is_solid byte = not (byte == 10) && not (byte == 32)

-- no LF
abbrev pub is_within : ℕ → Bool
is_within byte = not (byte == 10)

all_append : (p : ℕ → Bool) (xs ys : List ℕ) → list_all p xs ≡ true → list_all p ys ≡ true → list_all p (xs ++ ys) ≡ true
all_append p xs ys hx hy = list_all-append p xs ys ∙ rw hx hy

digit_solid : (d : ℕ) → d < 10 → is_solid (48 + d) ≡ true
digit_solid d small = search (rules, tests)

decimal_solid : (n : ℕ) → n < 2 ^ 64 → list_all is_solid (decimal n) ≡ true
decimal_solid = decimal_by_steps (λ n ds. list_all is_solid ds ≡ true)
    (λ n small. rw (digit_solid n small) refl)
    (λ n ds large h. all_append is_solid ds _ h (rw (digit_solid (n % 10) (omega arith)) refl))

solid_within : (xs : List ℕ) → list_all is_solid xs ≡ true → list_all is_within xs ≡ true
solid_within [] h = refl
solid_within (x ∷ xs) h = go (x == 10) (x == 32) (solid_within xs) h
  where
    go : (a b : Bool) → (list_all is_solid xs ≡ true → list_all is_within xs ≡ true) → ((not a && not b) && list_all is_solid xs) ≡ true → (not a && list_all is_within xs) ≡ true
    go true b later e = absurd (true≢false (sym e))
    go false true later e = absurd (true≢false (sym e))
    go false false later e = later e

-- the lines of lines without LF within are these lines
line_first : (line : Line) (rest : List ℕ) → list_all is_within line ≡ true → lines_of (line ++ 10 ∷ rest) ≡ line ∷ lines_of rest
line_first [] rest h = refl
line_first (x ∷ line) rest h = go (x == 10) (line_first line rest) h
  where
    go : (b : Bool) → (list_all is_within line ≡ true → lines_of (line ++ 10 ∷ rest) ≡ line ∷ lines_of rest) → (not b && list_all is_within line) ≡ true
        → cond b ([] ∷ lines_of (line ++ 10 ∷ rest)) (onto_first_line x (lines_of (line ++ 10 ∷ rest))) ≡ (x ∷ line) ∷ lines_of rest
    go true later e = absurd (true≢false (sym e))
    go false later e = ap (onto_first_line x) (later e)

-- a solid front before a blank is told apart
cut_at_blank : (a b x y : List ℕ) → list_all is_solid a ≡ true → list_all is_solid b ≡ true → a ++ 32 ∷ x ≡ b ++ 32 ∷ y → (a ≡ b) × (x ≡ y)
cut_at_blank [] [] x y ha hb e = (refl, cc)
cut_at_blank [] (d ∷ b) x y ha hb e = let first : 32 ≡ d = cc in absurd (true≢false (sym (rw (← first) at hb)))
cut_at_blank (c ∷ a) [] x y ha hb e = let first : c ≡ 32 = cc in absurd (true≢false (sym (rw first at ha)))
cut_at_blank (c ∷ a) (d ∷ b) x y ha hb e =
    let first : c ≡ d = cc in
    let later = cut_at_blank a b x y (after c a ha) (after d b hb) cc in
    (cc, later.1)
  where
    after : (z : ℕ) (zs : List ℕ) → list_all is_solid (z ∷ zs) ≡ true → list_all is_solid zs ≡ true
    after z zs h = go (is_solid z) h
      where
        go : (b : Bool) → (b && list_all is_solid zs) ≡ true → list_all is_solid zs ≡ true
        go true e = e
        go false e = absurd (true≢false (sym e))

abbrev exhausted_text : ℕ → List ℕ
exhausted_text work = codes "exhausted attempts " ++ decimal work

pub level_lines_differ : LevelLinesDiffer
level_lines_differ level other work more small small_other small_work small_more e =
    let tail : decimal level ++ 32 ∷ exhausted_text work ≡ decimal other ++ 32 ∷ exhausted_text more = ap (drop 6) e in
    let parts = cut_at_blank (decimal level) (decimal other) (exhausted_text work) (exhausted_text more) (decimal_solid level small) (decimal_solid other small_other) tail in
    let attempts : decimal work ≡ decimal more = ap (drop 19) parts.1 in
    (decimal_injective level other small small_other parts.0, decimal_injective work more small_work small_more attempts)

-- a budget's line is no level's
pub budget_differs : (level other work : ℕ) → level < 2 ^ 64 → other < 2 ^ 64 → budget_line other ≡ level_line level work → ⊥
budget_differs level other work small small_other e =
    let tail : decimal other ++ 32 ∷ codes "budget" ≡ decimal level ++ 32 ∷ exhausted_text work = ap (drop 6) e in
    let parts = cut_at_blank (decimal other) (decimal level) (codes "budget") (exhausted_text work) (decimal_solid other small_other) (decimal_solid level small) tail in
    let bad : ◌≡◌ {A = ℕ} 98 101 = ap (λ (l : List ℕ). get_or l 0 0) parts.1 in
    omega arith

-- ---- lines among lines

unfoldable pub AreWithin : List Line → Type 0
AreWithin [] = Unit {0}
AreWithin (line ∷ lines) = (list_all is_within line ≡ true) × AreWithin lines

pub lines_of-text_of : (lines : List Line) → AreWithin lines → lines_of (text_of lines) ≡ lines
unfolding AreWithin
lines_of-text_of [] h = refl
lines_of-text_of (line ∷ lines) h = line_first line (text_of lines) h.0 ∙ ap (λ (ls : List Line). line ∷ ls) (lines_of-text_of lines h.1)

within_append : (lines others : List Line) → AreWithin lines → AreWithin others → AreWithin (lines ++ others)
unfolding AreWithin
within_append [] others h g = g
within_append (line ∷ lines) others h g = (h.0, within_append lines others h.1 g)

within_decimal : (n : ℕ) → n < 2 ^ 64 → list_all is_within (decimal n) ≡ true
within_decimal n small = solid_within (decimal n) (decimal_solid n small)

within_level : (level work : ℕ) → level < 2 ^ 64 → work < 2 ^ 64 → list_all is_within (level_line level work) ≡ true
within_level level work small small_work =
    all_append is_within (decimal level) _ (within_decimal level small) (within_decimal work small_work)

within_budget : (level : ℕ) → level < 2 ^ 64 → list_all is_within (budget_line level) ≡ true
within_budget level small = all_append is_within (decimal level) _ (within_decimal level small) refl

module _ (work : ℕ) (works : List ℕ) (small : All (λ w. w < 2 ^ 64) (work ∷ works)) where
  small_first : work < 2 ^ 64
  small_first = small 0 0 (omega arith)

  small_later : All (λ w. w < 2 ^ 64) works
  small_later = λ k d lt. small (suc k) d (omega arith)

within_levels : (from : ℕ) (works : List ℕ) → from + length works < 2 ^ 64 → All (λ w. w < 2 ^ 64) works → AreWithin (level_lines_from from works)
unfolding AreWithin
within_levels from [] few small = tt
within_levels from (work ∷ works) few small =
    (within_level from work (omega arith) (small_first work works small), within_levels (from + 1) works (omega arith) (small_later work works small))

pub contains_cases : {X : Type 0} (y x : X) (ys : List X) → Contains (y ∷ ys) x → (y ≡ x) ⊎ Contains ys x
contains_cases y x ys (zero, lt, e) = inl e
contains_cases y x ys (suc k, lt, e) = inr (k, omega arith, e)

pub contains_here : {X : Type 0} (x : X) (ys : List X) → Contains (x ∷ ys) x
contains_here x ys = (0, omega arith, refl)

pub contains_later : {X : Type 0} (y x : X) (ys : List X) → Contains ys x → Contains (y ∷ ys) x
contains_later y x ys h = (suc h.0, omega (arith, h.1), h.2)

pub said_level : (from : ℕ) (works : List ℕ) (level work : ℕ) → from + length works < 2 ^ 64 → All (λ w. w < 2 ^ 64) works → level < 2 ^ 64 → work < 2 ^ 64
    → Contains (level_lines_from from works) (level_line level work) → (i : ℕ) × (level ≡ from + i) × (slice_get works i ≡ Some work)
said_level from [] level work few small small_level small_work h = absurd (omega (arith, h.1))
said_level from (w ∷ works) level work few small small_level small_work h =
    elim (contains_cases (level_line from w) (level_line level work) (level_lines_from (from + 1) works) h) [
      | inl e ↦ (let same = level_lines_differ from level w work (omega arith) small_level (small_first w works small) small_work e in
          (0, omega (arith, same.0), ap Some same.1))
      | inr later ↦ (let found = said_level (from + 1) works level work (omega arith) (small_later w works small) small_level small_work later in
          (suc found.0, omega (arith, found.1), found.2))
    ]

says_level : (from : ℕ) (works : List ℕ) (i work : ℕ) → slice_get works i ≡ Some work → Contains (level_lines_from from works) (level_line (from + i) work)
says_level from [] i work e = absurd cc
says_level from (w ∷ works) zero work e =
    let same : w ≡ work = cc in
    let place : from ≡ from + 0 = omega arith in
    subst (λ (n : ℕ). Contains (level_line from w ∷ level_lines_from (from + 1) works) (level_line n work)) place
    (subst (λ (v : ℕ). Contains (level_line from w ∷ level_lines_from (from + 1) works) (level_line from v)) same
    (contains_here (level_line from w) (level_lines_from (from + 1) works)))
says_level from (w ∷ works) (suc i) work e =
    let place : from + 1 + i ≡ from + suc i = omega arith in
    contains_later (level_line from w) (level_line (from + suc i) work) (level_lines_from (from + 1) works)
    (subst (λ (n : ℕ). Contains (level_lines_from (from + 1) works) (level_line n work)) place (says_level (from + 1) works i work e))

-- ---- the texts of runs without a proof

no_level : (line : Line) (level work : ℕ) → ¬ (get_or line 0 0 ≡ 108) → ¬ (line ≡ level_line level work)
no_level line level work other e = other (ap (λ (l : Line). get_or l 0 0) e)

from_zero : (n : ℕ) → n < 2 ^ 64 → 0 + n < 2 ^ 64
from_zero n h = omega arith

gave_up_within : (works : List ℕ) → AreWorks works → AreWithin (gave_up_lines works)
unfolding AreWithin
gave_up_within works good = (refl, within_levels 0 works (from_zero (length works) good.few) good.small)

resource_out_within : (works : List ℕ) → AreWorks works → AreWithin (resource_out_lines works)
unfolding AreWithin
resource_out_within works good =
    (refl, within_append (level_lines_from 0 works) (budget_line (length works) ∷ []) (within_levels 0 works (from_zero (length works) good.few) good.small) (within_budget (length works) good.few, tt))

module _ (works : List ℕ) (good : AreWorks works) where
  found : (level work : ℕ) → level < 2 ^ 64 → work < 2 ^ 64 → Contains (level_lines_from 0 works) (level_line level work) → slice_get works level ≡ Some work
  found level work small small_work h =
      let said = said_level 0 works level work (from_zero (length works) good.few) good.small small small_work h in
      let place : said.0 ≡ level = omega (arith, said.1) in
      subst (λ (i : ℕ). slice_get works i ≡ Some work) place said.2

  says : (level work : ℕ) → slice_get works level ≡ Some work → Contains (level_lines_from 0 works) (level_line level work)
  says level work e =
      let place : 0 + level ≡ level = omega arith in
      subst (λ (n : ℕ). Contains (level_lines_from 0 works) (level_line n work)) place (says_level 0 works level work e)

  pub gave_up_says : SaysWorks works (gave_up_lines works)
  gave_up_says level work small small_work =
      let lines : lines_of (text_of (gave_up_lines works)) ≡ gave_up_lines works =
      lines_of-text_of (gave_up_lines works) (gave_up_within works good) in (
        λ h. elim (contains_cases (codes "% SZS status GaveUp") (level_line level work) (level_lines_from 0 works)
            (subst (λ (ls : List Line). Contains ls (level_line level work)) lines h)) [
              | inl e ↦ absurd (no_level (codes "% SZS status GaveUp") level work (λ bad. omega arith) e)
              | inr later ↦ found level work small small_work later
            ],
        λ e. subst (λ (ls : List Line). Contains ls (level_line level work)) (sym lines)
            (contains_later (codes "% SZS status GaveUp") (level_line level work) (level_lines_from 0 works) (says level work e)),
      )

  pub resource_out_says : SaysWorks works (resource_out_lines works)
  resource_out_says level work small small_work =
      let lines : lines_of (text_of (resource_out_lines works)) ≡ resource_out_lines works =
      lines_of-text_of (resource_out_lines works) (resource_out_within works good) in
      let others = level_lines_from 0 works ++ budget_line (length works) ∷ [] in (
        λ h. elim (contains_cases (codes "% SZS status ResourceOut") (level_line level work) others
            (subst (λ (ls : List Line). Contains ls (level_line level work)) lines h)) [
              | inl e ↦ absurd (no_level (codes "% SZS status ResourceOut") level work (λ bad. omega arith) e)
              | inr later ↦ elim (Contains-append_cases (level_lines_from 0 works) (budget_line (length works) ∷ []) (level_line level work) later) [
                | inl among ↦ found level work small small_work among
                | inr last ↦ absurd (last_differs level work small last)
              ]
            ],
        λ e. subst (λ (ls : List Line). Contains ls (level_line level work)) (sym lines)
            (contains_later (codes "% SZS status ResourceOut") (level_line level work) others
            (Contains-append_left (level_lines_from 0 works) (budget_line (length works) ∷ []) (level_line level work) (says level work e))),
      )
    where
      last_differs : (level work : ℕ) → level < 2 ^ 64 → Contains (budget_line (length works) ∷ []) (level_line level work) → ⊥
      last_differs level work small h = elim (contains_cases (budget_line (length works)) (level_line level work) [] h) [
        | inl e ↦ budget_differs level (length works) work small good.few e
        | inr none ↦ absurd (omega (arith, none.1))
      ]
