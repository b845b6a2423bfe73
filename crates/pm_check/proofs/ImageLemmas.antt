-- How images are kept.
use Rattle.std.proofs.Common.{◌≡◌, ◌∙◌, ◌↔◌, ◌<◌, ◌≤◌, ◌⊎◌, inl, inr, ℕ, zero, suc, ◌+◌, List, [], ◌∷◌, ◌++◌, length, set, get_or, replicate, Option, Some, None, sym, ap, refl, subst, arith}
use Rattle.std.specs.Prelude.{slice_get, MatchOption}
use Rattle.std.specs.List.{All, Contains}
use Rattle.std.proofs.lemmas.List.{length_push, length-set}
use Rattle.std.proofs.lemmas.Bool.{cases_eq}
use Rattle.std.proofs.lemmas.List.Elements.{All-pop, Contains-append_left, Contains-get_or, Contains-push, Contains-push_cases}
use Rattle.std.proofs.lemmas.Option.{slice_get_read, slice_get_within, slice_get-get_or}
use Rattle.pm_check.specs.declared.images.Match.{Match}
use Rattle.pm_check.specs.Inside.Images.{sent, free_rows, AreKept}

-- ---- lists of optional images

slice_get-set_same : {A : Type 0} (xs : List A) (i : ℕ) (x : A) → i < length xs → slice_get (set xs i x) i ≡ Some x
slice_get-set_same [] i x lt = absurd (omega arith)
slice_get-set_same (y ∷ ys) zero x lt = refl
slice_get-set_same (y ∷ ys) (suc i) x lt = slice_get-set_same ys i x (omega arith)

slice_get-set_other : {A : Type 0} (xs : List A) (i j : ℕ) (x : A) → (i ≡ j → ⊥) → slice_get (set xs i x) j ≡ slice_get xs j
slice_get-set_other [] i j x other = refl
slice_get-set_other (y ∷ ys) zero zero x other = absurd (other refl)
slice_get-set_other (y ∷ ys) zero (suc j) x other = refl
slice_get-set_other (y ∷ ys) (suc i) zero x other = refl
slice_get-set_other (y ∷ ys) (suc i) (suc j) x other = slice_get-set_other ys i j x (λ same. other (ap suc same))

free_rows-replicate : (n : ℕ) → free_rows (replicate n None) ≡ n
free_rows-replicate zero = refl
free_rows-replicate (suc n) = omega (arith, free_rows-replicate n)

none_sent : (n row image : ℕ) → slice_get (replicate n None) row ≡ Some (Some image) → ⊥
none_sent zero row image is = cc
none_sent (suc n) zero image is = cc
none_sent (suc n) (suc row) image is = none_sent n row image is

free_above : (rows : List (Option ℕ)) (row : ℕ) → slice_get rows row ≡ Some None → 0 < free_rows rows
free_above [] row is = cc
free_above (None ∷ rows) row is = omega arith
free_above (Some image ∷ rows) zero is = cc
free_above (Some image ∷ rows) (suc row) is = free_above rows row is

free_rows-set : (rows : List (Option ℕ)) (row image : ℕ) → slice_get rows row ≡ Some None → free_rows (set rows row (Some image)) + 1 ≡ free_rows rows
free_rows-set [] row image is = cc
free_rows-set (None ∷ rows) zero image is = omega arith
free_rows-set (None ∷ rows) (suc row) image is = omega (arith, free_rows-set rows row image is)
free_rows-set (Some other ∷ rows) zero image is = cc
free_rows-set (Some other ∷ rows) (suc row) image is = free_rows-set rows row image is

free_all : (rows : List (Option ℕ)) → ((row image : ℕ) → slice_get rows row ≡ Some (Some image) → ⊥) → free_rows rows ≡ length rows
free_all [] none = refl
free_all (None ∷ rows) none = omega (arith, free_all rows (λ row image is. none (suc row) image is))
free_all (Some image ∷ rows) none = absurd (none 0 image refl)

-- ---- what is kept

nothing_in : {A : Type 0} (x : A) → Contains [] x → ⊥
nothing_in x h = omega (arith, h.1)

pub kept_none : (rows : List (Option ℕ)) (matches : List Match) (count room : ℕ) → rows ≡ replicate count None → matches ≡ [] → count ≤ room → length rows ≡ count → AreKept rows matches room
kept_none rows matches count room is none le long = record {
  each = λ row image. (
    λ h. absurd (none_sent count row image (sym (ap (λ s. slice_get s row) is) ∙ h)),
    λ h. absurd (nothing_in (sent row image) (subst (λ s. Contains s (sent row image)) none h)),
  );
  free = omega (arith, free_rows-replicate count, ap free_rows is, ap length none);
  fits = omega arith;
}

pub kept_image : (rows : List (Option ℕ)) (matches : List Match) (room row : ℕ) (found : Option ℕ) → AreKept rows matches room → row < length rows → found ≡ get_or rows row found
    → MatchOption found ((image : ℕ) → ¬ Contains matches (sent row image)) (λ image. Contains matches (sent row image))
kept_image rows matches room row found kept within is = by found (slice_get_read rows (length rows) row found refl within is)
  where
    by : (found : Option ℕ) → slice_get rows row ≡ Some found
        → MatchOption found ((image : ℕ) → ¬ Contains matches (sent row image)) (λ image. Contains matches (sent row image))
    by None stands = λ image there. let other : slice_get rows row ≡ Some (Some image) = (kept.each row image).1 there in cc
    by (Some image) stands = (kept.each row image).0 stands

pub kept_single : (rows : List (Option ℕ)) (matches : List Match) (room : ℕ) → AreKept rows matches room
    → (row image other : ℕ) → Contains matches (sent row image) → Contains matches (sent row other) → image ≡ other
kept_single rows matches room kept row image other h k =
    let first : slice_get rows row ≡ Some (Some image) = (kept.each row image).1 h in
    let second : slice_get rows row ≡ Some (Some other) = (kept.each row other).1 k in
    cc

-- a row that has no image
stands_free : (rows : List (Option ℕ)) (matches : List Match) (room row : ℕ) → AreKept rows matches room → row < length rows → ((other : ℕ) → ¬ Contains matches (sent row other))
    → slice_get rows row ≡ Some None
stands_free rows matches room row kept within free = by (get_or rows row None) (slice_get-get_or rows row None within)
  where
    by : (found : Option ℕ) → slice_get rows row ≡ Some found → slice_get rows row ≡ Some None
    by None stands = stands
    by (Some image) stands = absurd (free image ((kept.each row image).0 stands))

pub kept_room : (rows : List (Option ℕ)) (matches : List Match) (room row : ℕ) → AreKept rows matches room → row < length rows → ((other : ℕ) → ¬ Contains matches (sent row other))
    → length matches < room
kept_room rows matches room row kept within free =
    omega (arith, kept.free, kept.fits, free_above rows row (stands_free rows matches room row kept within free))

pub kept_more : (rows : List (Option ℕ)) (matches new : List Match) (room row image : ℕ) → AreKept rows matches room → row < length rows → ((other : ℕ) → ¬ Contains matches (sent row other))
    → new ≡ matches ++ sent row image ∷ [] → AreKept (set rows row (Some image)) new room
kept_more rows matches new room row image kept within free is = subst (λ ms. AreKept (set rows row (Some image)) ms room) (sym is) (record {
  each = each;
  free = omega (arith, kept.free, free_rows-set rows row image stands, length_push matches (sent row image), length-set rows row (Some image));
  fits = omega (arith, kept.fits, length-set rows row (Some image));
})
  where
    stands : slice_get rows row ≡ Some None
    stands = stands_free rows matches room row kept within free

    to : (other found : ℕ) → (row ≡ other) ⊎ (row ≡ other → ⊥) → slice_get (set rows row (Some image)) other ≡ Some (Some found) → Contains (matches ++ sent row image ∷ []) (sent other found)
    to other found (inl same) h =
        let here : slice_get (set rows row (Some image)) other ≡ Some (Some image) = ap (slice_get (set rows row (Some image))) (sym same) ∙ slice_get-set_same rows row (Some image) within in
        let equal : sent row image ≡ sent other found = cc in
        subst (Contains (matches ++ sent row image ∷ [])) equal (Contains-push matches (sent row image))
    to other found (inr apart) h =
        Contains-append_left matches (sent row image ∷ []) (sent other found)
        ((kept.each other found).0 (sym (slice_get-set_other rows row other (Some image) apart) ∙ h))

    from : (other found : ℕ) → (row ≡ other) ⊎ (row ≡ other → ⊥) → Contains matches (sent other found) ⊎ (sent row image ≡ sent other found) → slice_get (set rows row (Some image)) other ≡ Some (Some found)
    from other found (inl same) (inl there) = absurd (free found (subst (λ r. Contains matches (sent r found)) (sym same) there))
    from other found (inr apart) (inl there) = slice_get-set_other rows row other (Some image) apart ∙ (kept.each other found).1 there
    from other found cases (inr equal) =
        let same : row ≡ other = ap (λ (x : Match). x.row) equal in
        let one : image ≡ found = ap (λ (x : Match). x.image) equal in
        ap (slice_get (set rows row (Some image))) (sym same) ∙ slice_get-set_same rows row (Some image) within ∙ ap (λ i. Some (Some i)) one

    each : (other found : ℕ) → slice_get (set rows row (Some image)) other ≡ Some (Some found) ↔ Contains (matches ++ sent row image ∷ []) (sent other found)
    each other found = (
      to other found (cases_eq row other),
      λ h. from other found (cases_eq row other) (Contains-push_cases matches (sent row image) (sent other found) h),
    )

-- ---- images that are taken back

-- what is left of the rows' images was found last; the table is as long as it was
pub record Clears (old rows : List (Option ℕ)) (matches : List Match) (room : ℕ) : Type 0 where
  pub each : (row image : ℕ) → slice_get rows row ≡ Some (Some image) → Contains matches (sent row image)
  pub there : All (λ m. m.row < length rows) matches
  pub count : length rows ≡ length old
  pub fits : length rows ≤ room

pub clears_all : (rows : List (Option ℕ)) (matches : List Match) (room : ℕ) → AreKept rows matches room → Clears rows rows matches room
clears_all rows matches room kept = record {
  each = λ row image. (kept.each row image).0;
  there = λ k d lt.
      let m = get_or matches k d in
      let stands : slice_get rows m.row ≡ Some (Some m.image) = (kept.each m.row m.image).1 (Contains-get_or matches k d lt) in
      slice_get_within rows m.row _ stands;
  count = refl;
  fits = kept.fits;
}

pub clears_one : (old rows : List (Option ℕ)) (matches rest : List Match) (m : Match) (room : ℕ) → matches ≡ rest ++ m ∷ [] → Clears old rows matches room → Clears old (set rows m.row None) rest room
clears_one old rows matches rest m room is clears = record {
  each = λ row image. by row image (cases_eq m.row row);
  there = subst (λ n. All (λ other. other.row < n) rest) (sym (length-set rows m.row None)) (All-pop (λ other. other.row < length rows) matches rest (Some m) is clears.there).0;
  count = length-set rows m.row None ∙ clears.count;
  fits = omega (arith, length-set rows m.row None, clears.fits);
}
  where
    at_row : m.row < length rows
    at_row = (All-pop (λ other. other.row < length rows) matches rest (Some m) is clears.there).1

    split : (row image : ℕ) → (m.row ≡ row → ⊥) → Contains rest (sent row image) ⊎ (m ≡ sent row image) → Contains rest (sent row image)
    split row image apart (inl there) = there
    split row image apart (inr equal) = absurd (apart (ap (λ (x : Match). x.row) equal))

    by : (row image : ℕ) → (m.row ≡ row) ⊎ (m.row ≡ row → ⊥) → slice_get (set rows m.row None) row ≡ Some (Some image) → Contains rest (sent row image)
    by row image (inl same) h =
        let here : slice_get (set rows m.row None) row ≡ Some None = ap (slice_get (set rows m.row None)) (sym same) ∙ slice_get-set_same rows m.row None at_row in
        absurd cc
    by row image (inr apart) h =
        split row image apart
        (Contains-push_cases rest m (sent row image)
        (subst (λ ms. Contains ms (sent row image)) is (clears.each row image (sym (slice_get-set_other rows m.row row None apart) ∙ h))))

nowhere : (matches : List Match) (m : Match) → length matches ≡ 0 → Contains matches m → ⊥
nowhere matches m none h = omega (arith, h.1)

pub clears_end : (old rows : List (Option ℕ)) (matches rest : List Match) (room : ℕ) → length matches ≡ 0 → length rest ≡ 0 → Clears old rows matches room → AreKept rows rest room
clears_end old rows matches rest room none last clears = record {
  each = λ row image. (
    λ h. absurd (nowhere matches (sent row image) none (clears.each row image h)),
    λ h. absurd (nowhere rest (sent row image) last h),
  );
  free = omega (arith, free_all rows (λ row image h. nowhere matches (sent row image) none (clears.each row image h)));
  fits = clears.fits;
}
