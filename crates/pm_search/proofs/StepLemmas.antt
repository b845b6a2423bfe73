-- A search's place after one step of the code.
use Rattle.std.proofs.Common.{◌≡◌, ℕ, ◌+◌, ◌-◌, ◌^◌, ◌<◌, ◌≤◌, ◌∙◌, Bool, true, false, List, [], ◌∷◌, ◌++◌, length, get_or, set, take, sym, ap, subst, arith, MatchBool, IsTrue}
use Rattle.std.specs.Prelude.{◌↔◌, Option, Some, None}
use Rattle.std.proofs.lemmas.List.{get_or_at, set_at, length_push, take-append-le, get_or-take, get_or_read, take_all, take_at, nil_from_length, length-take-le}
use Rattle.pm_space.specs.Key.{Key, IsKey, Agree}
use Rattle.pm_choice.specs.declared.Bound.TheVariants.{End}
use Rattle.pm_search.specs.Attempts.{IsAttempt}
use Rattle.pm_search.specs.Inside.Places.{AreWidths, IsSearchPlace, SameBelow, OneMoreBelow, NoneLeft, HasPassed, HasTried, HasEntered}
use Rattle.pm_search.proofs.AgreeLemmas.{place_agrees}
use Rattle.pm_search.proofs.AttemptLemmas.{attempt_here}
use Rattle.pm_search.proofs.PlaceLemmas.{more_after, more_beside, same_above, none_at_top}

-- the last number of a place is its choice, and comes after its path
pub record IsLast (path : List ℕ) (n choice : ℕ) (place : List ℕ) : Type 0 where
  pub index : n ≡ length path
  pub is : place ≡ path ++ choice ∷ []

pub last_is : (path place : List ℕ) (k n choice : ℕ) → place ≡ path ++ k ∷ [] → n ≡ length place - 1 → choice ≡ get_or place n choice → IsLast path n choice place
last_is path place k n choice is index read =
    let count : length place ≡ length path + 1 = ap length is ∙ length_push path k in
    let here : n ≡ length path = omega arith in
    let same : choice ≡ k = read ∙ ap (λ (l : List ℕ). get_or l n choice) is ∙ get_or_at path k [] choice n (sym here) in
    record { index = here; is = is ∙ ap (λ (x : ℕ). path ++ x ∷ []) (sym same) }

-- the place beside a choice has its path and widths
pub place_beside : (key : Key) (path place widths : List ℕ) (n choice other : ℕ) → IsSearchPlace key path place widths → IsLast path n choice place
    → IsSearchPlace key path (set place n other) widths
place_beside key path place widths n choice other is last = record {
  reached = is.reached;
  measured = is.measured;
  ends = (other, ap (λ (l : List ℕ). set l n other) last.is ∙ set_at path choice [] other n (sym last.index));
}

pub passed_beside : (key : Key) (laws : IsKey key) (path path' place widths : List ℕ) (choice n : ℕ) (longer : Bool)
    → IsSearchPlace key path place widths → IsAttempt key place → n ≡ length place - 1 → choice ≡ get_or place n choice
    → longer ≡ false → (IsTrue longer ↔ key.reached (path ++ choice ∷ [])) → MatchBool longer (path' ≡ path ++ choice ∷ []) (path' ≡ path)
    → HasPassed key path' place (set place n (choice + 1)) widths
passed_beside key laws path path' place widths choice n longer is attempt index read missed tells moved =
    let last = last_is path place is.ends.0 n choice is.ends.1 index read in
    let unreached : ¬ key.reached (path ++ choice ∷ []) = λ reached. absurd (let told : longer ≡ true = tells.1 reached in cc) in
    let stays : path' ≡ path = subst (λ (b : Bool). MatchBool b (path' ≡ path ++ choice ∷ []) (path' ≡ path)) missed moved in
    let beside' : set place n (choice + 1) ≡ path ++ (choice + 1) ∷ [] =
    ap (λ (l : List ℕ). set l n (choice + 1)) last.is ∙ set_at path choice [] (choice + 1) n (sym last.index) in
    record {
      is_place = subst (λ (p : List ℕ). IsSearchPlace key p (set place n (choice + 1)) widths) (sym stays) (place_beside key path place widths n choice (choice + 1) is last);
      one_more = subst (λ (l : List ℕ). OneMoreBelow key l (set place n (choice + 1))) (sym last.is)
          (subst (λ (l : List ℕ). OneMoreBelow key (path ++ choice ∷ []) l) (sym beside') (more_beside key laws path choice unreached));
      incomplete = λ complete. unreached (subst (λ (l : List ℕ). key.reached l) last.is (laws.complete_reached place complete));
    }

pub tried_reached : (key other : Key) (agree : Agree other key) (path path' place widths place' widths' : List ℕ) (choice n : ℕ) (longer : Bool) (found : Option (List ℕ))
    → IsSearchPlace key path place widths → n ≡ length place - 1 → choice ≡ get_or place n choice
    → longer ≡ true → MatchBool longer (path' ≡ path ++ choice ∷ []) (path' ≡ path)
    → HasEntered other place place' widths' found → HasTried key path' place place' widths' found
tried_reached key other agree path path' place widths place' widths' choice n longer None is index read reached moved entered =
    let last = last_is path place is.ends.0 n choice is.ends.1 index read in
    let goes : path' ≡ place = subst (λ (b : Bool). MatchBool b (path' ≡ path ++ choice ∷ []) (path' ≡ path)) reached moved ∙ sym last.is in
    record {
      is_place = subst (λ (p : List ℕ). IsSearchPlace key p place' widths') (sym goes) (place_agrees key other agree place place' widths' entered.0);
      one_more = subst (λ (l : List ℕ). OneMoreBelow key place l) (sym entered.1) (more_after key place);
      incomplete = λ complete. entered.2 ((agree.complete place).1 complete);
    }
tried_reached key other agree path path' place widths place' widths' choice n longer (Some list) is index read reached moved entered =
    let last = last_is path place is.ends.0 n choice is.ends.1 index read in
    let goes : path' ≡ place = subst (λ (b : Bool). MatchBool b (path' ≡ path ++ choice ∷ []) (path' ≡ path)) reached moved ∙ sym last.is in
    ((agree.complete place).0 entered.0, entered.1, goes)

-- the last width is that of the path
pub width_is : (key : Key) (path widths : List ℕ) (n wide : ℕ) → AreWidths key path widths → n ≡ length path → wide ≡ get_or widths n wide → wide ≡ key.width path
width_is key path widths n wide are index read =
    let within : n < length widths = omega (arith, are.count) in
    let here : n ≤ length path = omega arith in
    let whole : length path ≤ n = omega arith in
    get_or_read widths n wide within read 0 ∙ are.each n here ∙ ap key.width (take_all n path whole)

-- at a place whose choice is an alternative stands an attempt
pub attempt_at : (key : Key) (laws : IsKey key) (path place widths : List ℕ) (n wide choice : ℕ) → IsSearchPlace key path place widths
    → n + 1 ≡ length place → wide ≡ get_or widths n wide → choice ≡ get_or place n choice → choice < wide → IsAttempt key place
attempt_at key laws path place widths n wide choice is index wide_read read below =
    let index' : n ≡ length place - 1 = omega arith in
    let last = last_is path place is.ends.0 n choice is.ends.1 index' read in
    let width = width_is key path widths n wide is.measured last.index wide_read in
    attempt_here key laws place path choice last.is is.reached (omega (arith, width))

-- at the top no attempt is left
pub none_left : (key : Key) (laws : IsKey key) (path place widths : List ℕ) (n wide choice : ℕ) → IsSearchPlace key path place widths
    → n + 1 ≡ length place → n ≡ 0 → wide ≡ get_or widths n wide → choice ≡ get_or place n choice → wide ≤ choice → NoneLeft key place End
none_left key laws path place widths n wide choice is index top wide_read read none =
    let index' : n ≡ length place - 1 = omega arith in
    let last = last_is path place is.ends.0 n choice is.ends.1 index' read in
    let width = width_is key path widths n wide is.measured last.index wide_read in
    let empty : path ≡ [] = nil_from_length path (omega (arith, last.index)) in
    let at_top : place ≡ choice ∷ [] = last.is ∙ ap (λ (l : List ℕ). l ++ choice ∷ []) empty in
    let width' : wide ≡ key.width [] = width ∙ ap key.width empty in
    subst (λ (l : List ℕ). NoneLeft key l End) (sym at_top) (none_at_top key laws choice (omega (arith, width')))

-- the widths but for the last are those of the path without its last choice
pub widths_above : (key : Key) (path above widths : List ℕ) (choice : ℕ) → path ≡ above ++ choice ∷ [] → AreWidths key path widths
    → AreWidths key above (take (length widths - 1) widths)
widths_above key path above widths choice parts are =
    let longer : length path ≡ length above + 1 = ap length parts ∙ length_push above choice in
    let counted : length widths ≡ length path + 1 = are.count in
    let fewer : length widths - 1 ≤ length widths = omega arith in
    record {
      count = let taken = length-take-le (length widths - 1) widths fewer in omega arith;
      each = λ n within.
          let inside : n < length widths - 1 = omega arith in
          let inside' : n ≤ length path = omega arith in
          get_or-take (length widths - 1) widths n 0 inside ∙ are.each n inside' ∙ ap (λ (l : List ℕ). key.width (take n l)) parts ∙ ap key.width (take-append-le n above (choice ∷ []) within);
      fits = λ n within.
          let inside : n < length widths - 1 = omega arith in
          let inside' : n ≤ length path = omega arith in
          subst (λ (w : ℕ). w < 2 ^ 32) (sym (get_or-take (length widths - 1) widths n 0 inside)) (are.fits n inside');
    }

-- the place above, whose choice is the next one
pub record HasClimbed (key : Key) (path place place' widths' : List ℕ) : Type 0 where
  pub is_place : IsSearchPlace key path place' widths'
  pub same : SameBelow key place place'

pub climbed : (key : Key) (laws : IsKey key) (path above place widths place' widths' : List ℕ) (j n wide choice value : ℕ) → IsSearchPlace key path place widths
    → n + 1 ≡ length place → wide ≡ get_or widths n wide → choice ≡ get_or place n choice → wide ≤ choice
    → path ≡ above ++ j ∷ [] → place' ≡ take (length place - 1) place → widths' ≡ take (length widths - 1) widths → value ≡ get_or place' (n - 1) value
    → HasClimbed key above place (set place' (n - 1) (value + 1)) widths'
climbed key laws path above place widths place' widths' j n wide choice value is index wide_read read none parts popped popped_width value_read =
    let index' : n ≡ length place - 1 = omega arith in
    let last = last_is path place is.ends.0 n choice is.ends.1 index' read in
    let width = width_is key path widths n wide is.measured last.index wide_read in
    let popped_path : place' ≡ path =
    popped ∙ ap (λ (m : ℕ). take m place) (sym index') ∙ ap (take n) last.is ∙ take_at path (choice ∷ []) n (sym last.index) in
    let shorter : place' ≡ above ++ j ∷ [] = popped_path ∙ parts in
    let counted : length place' ≡ length path = ap length popped_path in
    let value_last = last_is above place' j (n - 1) value shorter (omega (arith, last.index)) value_read in
    let next : set place' (n - 1) (value + 1) ≡ above ++ (value + 1) ∷ [] =
    ap (λ (l : List ℕ). set l (n - 1) (value + 1)) value_last.is ∙ set_at above value [] (value + 1) (n - 1) (sym value_last.index) in
    let whole : place ≡ (above ++ value ∷ []) ++ choice ∷ [] = last.is ∙ ap (λ (l : List ℕ). l ++ choice ∷ []) (sym popped_path ∙ value_last.is) in
    let width' : wide ≡ key.width (above ++ value ∷ []) = width ∙ ap key.width (sym popped_path ∙ value_last.is) in
    record {
      is_place = record {
        reached = laws.prefix above j (subst (λ (l : List ℕ). key.reached l) parts is.reached);
        measured = subst (λ (l : List ℕ). AreWidths key above l) (sym popped_width) (widths_above key path above widths j parts is.measured);
        ends = (value + 1, next);
      };
      same = subst (λ (l : List ℕ). SameBelow key l (set place' (n - 1) (value + 1))) (sym whole)
          (subst (λ (l : List ℕ). SameBelow key ((above ++ value ∷ []) ++ choice ∷ []) l) (sym next) (same_above key laws above value choice (omega (arith, width'))));
    }

-- the choice above is below a width
pub choice_fits : (key : Key) (laws : IsKey key) (path above place widths place' widths' : List ℕ) (j n choice value : ℕ) → IsSearchPlace key path place widths
    → n + 1 ≡ length place → choice ≡ get_or place n choice → path ≡ above ++ j ∷ []
    → place' ≡ take (length place - 1) place → widths' ≡ take (length widths - 1) widths → value ≡ get_or place' (n - 1) value → value + 1 < 2 ^ 32
choice_fits key laws path above place widths place' widths' j n choice value is index read parts popped popped_width value_read =
    let index' : n ≡ length place - 1 = omega arith in
    let last = last_is path place is.ends.0 n choice is.ends.1 index' read in
    let popped_path : place' ≡ path =
    popped ∙ ap (λ (m : ℕ). take m place) (sym index') ∙ ap (take n) last.is ∙ take_at path (choice ∷ []) n (sym last.index) in
    let counted : length place' ≡ length path = ap length popped_path in
    let longer : length path ≡ length above + 1 = ap length parts ∙ length_push above j in
    let value_last = last_is above place' j (n - 1) value (popped_path ∙ parts) (omega (arith, last.index)) value_read in
    let reached : key.reached (above ++ value ∷ []) = subst (λ (l : List ℕ). key.reached l) (sym popped_path ∙ value_last.is) is.reached in
    let below : value < key.width above = laws.below above value reached in
    let measured : AreWidths key above widths' =
    subst (λ (l : List ℕ). AreWidths key above l) (sym popped_width) (widths_above key path above widths j parts is.measured) in
    let here : n - 1 ≤ length above = omega (arith, last.index) in
    let width : get_or widths' (n - 1) 0 ≡ key.width above =
    measured.each (n - 1) here ∙ ap key.width (take_all (n - 1) above (omega (arith, last.index))) in
    omega (arith, width, measured.fits (n - 1) here)
