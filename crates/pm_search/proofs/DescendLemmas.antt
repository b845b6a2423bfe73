-- Going down to a list, number by number.
use Rattle.std.proofs.Common.{◌≡◌, ℕ, ◌+◌, ◌^◌, ◌<◌, ◌≤◌, ◌∙◌, List, [], ◌∷◌, ◌++◌, length, get_or, take, drop, refl, sym, ap, subst, arith, inl, inr, append_assoc}
use Rattle.std.specs.Prelude.{slice_index}
use Rattle.std.proofs.lemmas.Bool.{cases_lt}
use Rattle.std.proofs.lemmas.List.{get_or_append_left, get_or_push, length_push, take-append-le, take_all, take-append-drop, drop_more}
use Rattle.pm_space.specs.Key.{Key, IsKey, Agree}
use Rattle.pm_search.specs.Inside.Places.{AreWidths, IsSearchPlace, SameBelow}
use Rattle.pm_search.proofs.PlaceLemmas.{same_where_it_ends, same_where_it_misses}

-- The widths are those of the proper prefixes of a path.
pub record AreWidthsBefore (key : Key) (path widths : List ℕ) : Type 0 where
  pub count : length widths ≡ length path
  pub each : (n : ℕ) → n < length path → slice_index widths n ≡ key.width (take n path)
  pub fits : (n : ℕ) → n < length path → slice_index widths n < 2 ^ 32

pub no_widths : (key : Key) → AreWidthsBefore key [] []
no_widths key = record { count = refl; each = λ n within. absurd (omega arith); fits = λ n within. absurd (omega arith) }

-- the width of the path is added
pub add_width : (key : Key) (path widths : List ℕ) (wide : ℕ) → AreWidthsBefore key path widths → wide ≡ key.width path → wide < 2 ^ 32 → AreWidths key path (widths ++ wide ∷ [])
add_width key path widths wide are is fits = record {
  count = omega (arith, length_push widths wide, are.count);
  each = λ n within. elim (cases_lt n (length path)) [
    | inl before ↦
        let here : n < length widths = omega (arith, are.count) in
        get_or_append_left widths (wide ∷ []) 0 n here ∙ are.each n before
    | inr past ↦
        let at_end : length widths ≡ n = omega (arith, are.count) in
        let whole : length path ≤ n = omega arith in
        get_or_push widths wide 0 n at_end ∙ is ∙ ap key.width (sym (take_all n path whole))
  ];
  fits = λ n within. elim (cases_lt n (length path)) [
    | inl before ↦
        let here : n < length widths = omega (arith, are.count) in
        subst (λ (w : ℕ). w < 2 ^ 32) (sym (get_or_append_left widths (wide ∷ []) 0 n here)) (are.fits n before)
    | inr past ↦
        let at_end : length widths ≡ n = omega (arith, are.count) in
        subst (λ (w : ℕ). w < 2 ^ 32) (sym (get_or_push widths wide 0 n at_end)) fits
  ];
}

-- the path goes on
pub go_on : (key : Key) (path widths : List ℕ) (choice : ℕ) → AreWidths key path widths → AreWidthsBefore key (path ++ choice ∷ []) widths
go_on key path widths choice are =
    let longer : length (path ++ choice ∷ []) ≡ length path + 1 = length_push path choice in
    record {
      count = omega (arith, are.count);
      each = λ n within.
          let inside : n ≤ length path = omega arith in
          are.each n inside ∙ ap key.width (sym (take-append-le n path (choice ∷ []) inside));
      fits = λ n within. are.fits n (omega arith);
    }

pub before_agrees : (key other : Key) → Agree other key → (path widths : List ℕ) → AreWidthsBefore other path widths → AreWidthsBefore key path widths
before_agrees key other agree path widths are = record {
  count = are.count;
  each = λ n within. are.each n within ∙ agree.width (take n path);
  fits = are.fits;
}

-- the place at a choice after the path
pub place_at : (key : Key) (path widths : List ℕ) (wide choice : ℕ) → key.reached path → AreWidthsBefore key path widths → wide ≡ key.width path → wide < 2 ^ 32
    → IsSearchPlace key path (path ++ choice ∷ []) (widths ++ wide ∷ [])
place_at key path widths wide choice reached are is fits = record {
  reached = reached;
  measured = add_width key path widths wide are is fits;
  ends = (choice, refl);
}

-- the same, told of what the code holds
pub stop_at : (key : Key) (path place place' widths widths' : List ℕ) (wide choice : ℕ) → path ≡ place → place' ≡ place ++ choice ∷ [] → widths' ≡ widths ++ wide ∷ []
    → key.reached path → AreWidthsBefore key place widths → wide ≡ key.width path → wide < 2 ^ 32 → IsSearchPlace key path place' widths'
stop_at key path place place' widths widths' wide choice same place_is widths_is reached are wide_is fits =
    let here : IsSearchPlace key path (path ++ choice ∷ []) (widths ++ wide ∷ []) =
    place_at key path widths wide choice reached (subst (λ (l : List ℕ). AreWidthsBefore key l widths) (sym same) are) wide_is fits in
    subst (λ (l : List ℕ). IsSearchPlace key path place' l) (sym widths_is)
    (subst (λ (l : List ℕ). IsSearchPlace key path l (widths ++ wide ∷ [])) (ap (λ (l : List ℕ). l ++ choice ∷ []) same ∙ sym place_is) here)

pub walk_on : (key : Key) (path place place' widths widths' : List ℕ) (wide choice : ℕ) → path ≡ place → place' ≡ place ++ choice ∷ [] → widths' ≡ widths ++ wide ∷ []
    → AreWidthsBefore key place widths → wide ≡ key.width path → wide < 2 ^ 32 → AreWidthsBefore key place' widths'
walk_on key path place place' widths widths' wide choice same place_is widths_is are wide_is fits =
    subst (λ (l : List ℕ). AreWidthsBefore key place' l) (sym widths_is)
    (subst (λ (l : List ℕ). AreWidthsBefore key l (widths ++ wide ∷ [])) (sym place_is)
    (go_on key place (widths ++ wide ∷ []) choice (add_width key place widths wide are (wide_is ∙ ap key.width same) fits)))

-- a list that ends is not empty
pub record HasHead (list : List ℕ) : Type 0 where
  pub head : ℕ
  pub tail : List ℕ
  pub is : list ≡ head ∷ tail

has_head : (xs : List ℕ) (last : ℕ) → HasHead (xs ++ last ∷ [])
has_head [] last = record { head = last; tail = []; is = refl }
has_head (x ∷ xs) last = record { head = x; tail = xs ++ last ∷ []; is = refl }

-- a list, parted at a number of it that isn't the last
pub record IsParted (list path : List ℕ) (choice : ℕ) : Type 0 where
  pub more : ℕ
  pub rest : List ℕ
  pub is : list ≡ path ++ choice ∷ more ∷ rest

pub parted : (list before path : List ℕ) (last n choice : ℕ) → list ≡ before ++ last ∷ [] → n < length before → choice ≡ get_or before n 0 → path ≡ take n before → IsParted list path choice
parted list before path last n choice ends within read path_is =
    let rest = has_head (drop (n + 1) before) last in
    let split : before ≡ take n before ++ choice ∷ drop (n + 1) before =
    sym (take-append-drop n before) ∙ ap (λ (l : List ℕ). take n before ++ l) (drop_more before n 0 within ∙ ap (λ (x : ℕ). x ∷ drop (n + 1) before) (sym read)) in
    record {
      more = rest.head;
      rest = rest.tail;
      is = ends ∙ ap (λ (l : List ℕ). l ++ last ∷ []) split ∙ append_assoc (take n before) (choice ∷ drop (n + 1) before) (last ∷ []) ∙ ap (λ (l : List ℕ). take n before ++ choice ∷ l) rest.is ∙ ap (λ (l : List ℕ). l ++ choice ∷ rest.head ∷ rest.tail) (sym path_is);
    }

pub same_at_end : (key : Key) (laws : IsKey key) (list path : List ℕ) (choice : ℕ) → IsParted list path choice → key.width path ≤ choice → SameBelow key list (path ++ choice ∷ [])
same_at_end key laws list path choice part none =
    subst (λ (l : List ℕ). SameBelow key l (path ++ choice ∷ [])) (sym part.is) (same_where_it_ends key laws path choice part.more part.rest none)

pub same_at_miss : (key : Key) (laws : IsKey key) (list path : List ℕ) (choice : ℕ) → IsParted list path choice → (¬ key.reached (path ++ choice ∷ [])) → SameBelow key list (path ++ (choice + 1) ∷ [])
same_at_miss key laws list path choice part missed =
    subst (λ (l : List ℕ). SameBelow key l (path ++ (choice + 1) ∷ [])) (sym part.is) (same_where_it_misses key laws path choice part.more part.rest missed)
