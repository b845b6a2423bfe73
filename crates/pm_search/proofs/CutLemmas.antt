-- Where the rest of an interval may be cut off.
use Rattle.std.proofs.Common.{◌≡◌, ℕ, ◌+◌, ◌^◌, ◌<◌, ◌≤◌, ◌∙◌, List, [], ◌∷◌, ◌++◌, length, get_or, take, drop, refl, sym, ap, subst, arith, inl, inr}
use Rattle.std.specs.Prelude.{Option, Some, None, IsSome, IfSome, IfNone}
use Rattle.std.proofs.lemmas.Bool.{cases_lt}
use Rattle.std.proofs.lemmas.List.{get_or_read, same_from_push, length_push, length-append, length-take-le, take-append-le, take-append-drop, take_at, get_or_at, drop_more}
use Rattle.pm_space.specs.Key.{Key, IsKey}
use Rattle.pm_choice.specs.declared.Bound.{Bound}
use Rattle.pm_choice.specs.Order.{Precedes, PrecedesBound}
use Rattle.pm_search.specs.declared.Stage.{Stage}
use Rattle.pm_search.specs.declared.Stage.TheVariants.{Attempting, Ended, Answered}
use Rattle.pm_search.specs.Attempts.{IsAttempt}
use Rattle.pm_search.specs.Cuts.{CutFits, IsShortestCut}
use Rattle.pm_search.specs.Inside.Places.{IsSearchPlace, next_of}
use Rattle.pm_search.proofs.ListOrder.{beside}
use Rattle.pm_search.proofs.AttemptLemmas.{prefix_of_attempt}

-- the width at a number of a place
pub record HasWidth (key : Key) (place : List ℕ) (n wide : ℕ) : Type 0 where
  pub is : wide ≡ key.width (take n place)
  pub fits : wide < 2 ^ 32

pub width_at : (key : Key) (path place widths : List ℕ) (n : ℕ) → IsSearchPlace key path place widths → n < length place → HasWidth key place n (get_or widths n 0)
width_at key path place widths n is within =
    let longer : length place ≡ length path + 1 = ap length is.ends.1 ∙ length_push path is.ends.0 in
    let inside : n ≤ length path = omega arith in
    let same : take n place ≡ take n path = ap (take n) is.ends.1 ∙ take-append-le n path (is.ends.0 ∷ []) inside in
    record { is = is.measured.each n inside ∙ ap key.width (sym same); fits = is.measured.fits n inside }

-- a list, parted at a number
pub parts_at : (list : List ℕ) (n : ℕ) → n < length list → list ≡ take n list ++ get_or list n 0 ∷ drop (n + 1) list
parts_at list n within = sym (take-append-drop n list) ∙ ap (λ (l : List ℕ). take n list ++ l) (drop_more list n 0 within)

-- the number after each number of the next attempt fits its type
pub next_fits : (key : Key) (laws : IsKey key) (path place widths : List ℕ) (n choice : ℕ) → IsSearchPlace key path place widths → IsAttempt key place → n < length place → choice ≡ get_or place n 0 → choice + 1 < 2 ^ 32
next_fits key laws path place widths n choice is attempt within read =
    let wide = width_at key path place widths n is within in
    let below = (prefix_of_attempt key laws place attempt (take n place) (get_or place n 0) (drop (n + 1) place) (parts_at place n within)).below in
    omega (arith, wide.is, wide.fits, below, read)

pub cut_here : (key : Key) (path place widths begun cut : List ℕ) (to : Bound) (n choice wide : ℕ) → IsSearchPlace key path place widths → n < length place → choice ≡ get_or place n 0
    → wide ≡ get_or widths n wide → choice + 1 < wide → begun ≡ take n place → cut ≡ begun ++ (choice + 1) ∷ [] → PrecedesBound cut to
    → ((list : List ℕ) (j : ℕ) → CutFits key to place list j → n ≤ length list) → IsShortestCut key to place cut
cut_here key path place widths begun cut to n choice wide is within read wide_read below begun_is cut_is before none =
    let longer : length place ≡ length path + 1 = ap length is.ends.1 ∙ length_push path is.ends.0 in
    let inside : n < length widths = omega (arith, is.measured.count) in
    let here : wide ≡ get_or widths n 0 = get_or_read widths n wide inside wide_read 0 in
    let width : get_or widths n 0 ≡ key.width (take n place) = (width_at key path place widths n is within).is in
    let whole : cut ≡ take n place ++ (choice + 1) ∷ [] = cut_is ∙ ap (λ (l : List ℕ). l ++ (choice + 1) ∷ []) begun_is in
    record {
      list = take n place;
      choice = choice;
      fits = record {
        begins = (drop (n + 1) place, parts_at place n within ∙ ap (λ (x : ℕ). take n place ++ x ∷ drop (n + 1) place) (sym read));
        alternative = omega (arith, here, width);
        below = subst (λ (l : List ℕ). PrecedesBound l to) whole before;
      };
      is = whole;
      shortest = λ other j fits. omega (arith, length-take-le n place (omega arith), none other j fits);
    }

-- no list fits that ends where the alternative isn't there, or isn't below the bound
pub none_here : (key : Key) (path place widths : List ℕ) (to : Bound) (n choice wide : ℕ) → IsSearchPlace key path place widths → n < length place → choice ≡ get_or place n 0 → wide ≡ get_or widths n wide
    → (choice + 1 < wide → ¬ PrecedesBound (take n place ++ (choice + 1) ∷ []) to)
    → ((list : List ℕ) (j : ℕ) → CutFits key to place list j → n ≤ length list) → (list : List ℕ) (j : ℕ) → CutFits key to place list j → n + 1 ≤ length list
none_here key path place widths to n choice wide is within read wide_read beyond none list j fits =
    elim (cases_lt n (length list)) [
      | inl longer ↦ omega arith
      | inr up_to ↦
          let same : length list ≡ n = omega (arith, none list j fits) in
          let front : take n place ≡ list = ap (take n) fits.begins.1 ∙ take_at list (j ∷ fits.begins.0) n same in
          let choice_is : choice ≡ j = read ∙ ap (λ (l : List ℕ). get_or l n 0) fits.begins.1 ∙ get_or_at list j fits.begins.0 0 n same in
          let longer : length place ≡ length path + 1 = ap length is.ends.1 ∙ length_push path is.ends.0 in
          let inside : n < length widths = omega (arith, is.measured.count) in
          let here : wide ≡ get_or widths n 0 = get_or_read widths n wide inside wide_read 0 in
          let width : get_or widths n 0 ≡ key.width list = (width_at key path place widths n is within).is ∙ ap key.width front in
          let alternative : j + 1 < key.width list = fits.alternative in
          let below : PrecedesBound (take n place ++ (choice + 1) ∷ []) to =
          subst (λ (l : List ℕ). PrecedesBound (l ++ (choice + 1) ∷ []) to) (sym front) (subst (λ (x : ℕ). PrecedesBound (list ++ (x + 1) ∷ []) to) (sym choice_is) fits.below) in
          absurd (beyond (omega arith) below)
    ]

-- past the end no list fits
pub none_fits : (key : Key) (place : List ℕ) (to : Bound) (n : ℕ) → length place ≤ n → ((list : List ℕ) (j : ℕ) → CutFits key to place list j → n ≤ length list) → (list : List ℕ) (j : ℕ) → ¬ CutFits key to place list j
none_fits key place to n past none list j fits =
    let longer : length place ≡ length list + length (j ∷ fits.begins.0) = ap length fits.begins.1 ∙ length-append list (j ∷ fits.begins.0) in
    let more : 0 < length (j ∷ fits.begins.0) = omega arith in
    omega (arith, none list j fits)

-- what a search stands at
pub next_is : (stage : Stage) (place : List ℕ) → IsSome (next_of stage place) → next_of stage place ≡ Some place
next_is Attempting place some = refl
next_is Ended place some = absurd cc
next_is Answered place some = absurd cc

-- a pushed number that is taken again
pub popped : (taken : Option ℕ) (list longer list' : List ℕ) (number : ℕ) → longer ≡ list ++ number ∷ [] → IfSome taken (λ k. longer ≡ list' ++ k ∷ []) → IfNone taken ((longer ≡ []) × (list' ≡ [])) → list' ≡ list
popped (Some k) list longer list' number pushed some none = (same_from_push list' list k number (sym some ∙ pushed)).0
popped None list longer list' number pushed some none =
    let length_is : length longer ≡ length list + 1 = ap length pushed ∙ length_push list number in
    let empty : length longer ≡ 0 = ap length none.0 in
    absurd (omega arith)

-- the cut is above the next attempt
pub cut_above : (place begun cut : List ℕ) (n choice : ℕ) → n < length place → choice ≡ get_or place n 0 → begun ≡ take n place → cut ≡ begun ++ (choice + 1) ∷ [] → Precedes place cut
cut_above place begun cut n choice within read begun_is cut_is =
    let whole : cut ≡ take n place ++ (choice + 1) ∷ [] = cut_is ∙ ap (λ (l : List ℕ). l ++ (choice + 1) ∷ []) begun_is in
    let parts : place ≡ take n place ++ choice ∷ drop (n + 1) place =
    parts_at place n within ∙ ap (λ (x : ℕ). take n place ++ x ∷ drop (n + 1) place) (sym read) in
    subst (λ (l : List ℕ). Precedes place l) (sym whole)
    (subst (λ (l : List ℕ). Precedes l (take n place ++ (choice + 1) ∷ [])) (sym parts) (beside (take n place) choice (choice + 1) (drop (n + 1) place) [] (omega arith)))
