-- Where rows that tile stand: their lower ends rise, and each number has its own.
use Rattle.std.proofs.Common.{◌≡◌, ℕ, zero, suc, ◌+◌, ◌<◌, ◌≤◌, ◌⊎◌, ◌∙◌, Bool, true, false, List, [], ◌∷◌, length, take, drop, map, get_or, refl, sym, ap, subst, inl, inr, arith}
use Rattle.std.specs.Prelude.{Option, Some, All, slice_get, ◌==◌}
use Rattle.std.specs.List.Sorted.{IsPartitionPoint, IsPartitionedBy}
use Rattle.std.proofs.lemmas.List.{get_or-map, length-map}
use Rattle.std.proofs.lemmas.List.Elements.{All-nil, All-cons}
use Rattle.std.proofs.lemmas.Option.{slice_get_within}
use Rattle.pm_choice.specs.declared.Bound.{Bound}
use Rattle.pm_choice.specs.Order.{Precedes}
use Rattle.pm_choice.proofs.OrderLemmas.{irreflexive, transitive}
use Rattle.pm_book.specs.declared.row.BookRow.{BookRow}
use Rattle.pm_book.specs.Rows.{Row, Tile, is_before}
use Rattle.pm_book.specs.Shown.{lower, row_seen}
use Rattle.pm_book.specs.Inside.Seen.{HasLowers}
use Rattle.pm_book.proofs.OrderTests.{bool_cases, before_is, not_before_is, same_is}
use Rattle.pm_book.proofs.Tiles.{begins_after}

-- the lower ends of rows that tile rise
rising : (a c : Bound) (rows : List Row) → Tile a c rows → (i j : ℕ) (d e : Row) → i < j → j < length rows → Precedes (get_or rows i d).from (get_or rows j e).from
rising a c [] tiles i j d e less within = absurd (omega arith)
rising a c (x ∷ xs) tiles zero zero d e less within = absurd (omega arith)
rising a c (x ∷ xs) tiles zero (suc j) d e less within = begins_after x.to c xs tiles.2 j e (omega arith) x.from tiles.1
rising a c (x ∷ xs) tiles (suc i) zero d e less within = absurd (omega arith)
rising a c (x ∷ xs) tiles (suc i) (suc j) d e less within = rising x.to c xs tiles.2 i j d e (omega arith) (omega arith)

lower_ends_rise : (a c : Bound) (cuts : List (List ℕ)) (rows : List BookRow) → Tile a c (map (row_seen cuts) rows) → (i j : ℕ) (d : BookRow) → i < j → j < length rows
    → Precedes (lower cuts (get_or rows i d).from) (lower cuts (get_or rows j d).from)
lower_ends_rise a c cuts rows tiles i j d less within =
    let f : BookRow → Row = row_seen cuts in
    let long = length-map rows f in
    let p = rising a c (map f rows) tiles i j (f d) (f d) less (omega (arith, long, within)) in
    subst (λ (r : Row). Precedes r.from (lower cuts (get_or rows j d).from)) (get_or-map f rows i d (f d) (omega arith))
    (subst (λ (r : Row). Precedes (get_or (map f rows) i (f d)).from r.from) (get_or-map f rows j d (f d) within) p)

-- so a list parts them
pub parted : (a c : Bound) (cuts : List (List ℕ)) (rows : List BookRow) (list : List ℕ) → Tile a c (map (row_seen cuts) rows) → IsPartitionedBy (λ row. is_before (lower cuts row.from) list) rows
parted a c cuts rows list tiles i j d at_most within later =
    elim (cases i j at_most) [
      | inl less ↦
          let p = lower_ends_rise a c cuts rows tiles i j d less within in
          (before_is (lower cuts (get_or rows i d).from) list).1 (transitive (lower cuts (get_or rows i d).from) (lower cuts (get_or rows j d).from) list p ((before_is (lower cuts (get_or rows j d).from) list).0 later))
      | inr same ↦ subst (λ (n : ℕ). is_before (lower cuts (get_or rows n d).from) list ≡ true) (sym same) later
    ]
  where
    cases : (i j : ℕ) → i ≤ j → (i < j) ⊎ (i ≡ j)
    cases zero zero le = inr refl
    cases zero (suc j) le = inl (omega arith)
    cases (suc i) zero le = absurd (omega arith)
    cases (suc i) (suc j) le = elim (cases i j (omega arith)) [ inl less ↦ inl (omega arith) | inr same ↦ inr (ap suc same) ]

abbrev Parts : List (List ℕ) → List ℕ → List BookRow → ℕ → Type 0
Parts cuts list rows place = IsPartitionPoint (λ (row : BookRow). is_before (lower cuts row.from) list ≡ true) (λ (row : BookRow). is_before (lower cuts row.from) list ≡ false) rows place

-- the row that has a number begins where the number does
lower_of : (lowers : List (Option ℕ)) (rows : List BookRow) (number : ℕ) (k : ℕ) (d : BookRow) → HasLowers lowers rows → k < length rows → (get_or rows k d).number ≡ number → slice_get lowers number ≡ Some (get_or rows k d).from
lower_of lowers rows number k d has within same = subst (λ (n : ℕ). slice_get lowers n ≡ Some (get_or rows k d).from) same (has.each k d within)

-- no row has a number that is too great
pub none_so_great : (lowers : List (Option ℕ)) (rows : List BookRow) (number : ℕ) → HasLowers lowers rows → length lowers ≤ number → All (λ row. (row.number == number) ≡ false) rows
none_so_great lowers rows number has great k d within =
    elim (bool_cases ((get_or rows k d).number == number)) [
      | inl same ↦ absurd (let less = slice_get_within lowers number (get_or rows k d).from (lower_of lowers rows number k d has within (same_is (get_or rows k d).number number same)) in omega (arith, less, great))
      | inr other ↦ other
    ]

-- a row with a number isn't before the place that parts the rows at the number's lower end
not_earlier : (cuts : List (List ℕ)) (rows : List BookRow) (list : List ℕ) (place k : ℕ) (d : BookRow) → Parts cuts list rows place → list ≡ lower cuts (get_or rows k d).from → k < place → ⊥
not_earlier cuts rows list place k d parts list-is less =
    irreflexive list (subst (λ (l : List ℕ). Precedes l list) (sym list-is) ((before_is (lower cuts (get_or rows k d).from) list).0 (parts.0 k d (omega arith) less)))

-- nor after it
not_later : (a c : Bound) (cuts : List (List ℕ)) (rows : List BookRow) (list : List ℕ) (place k : ℕ) (d : BookRow) → Tile a c (map (row_seen cuts) rows) → Parts cuts list rows place → list ≡ lower cuts (get_or rows k d).from
    → place < k → k < length rows → ⊥
not_later a c cuts rows list place k d tiles parts list-is less within =
    not_before_is (lower cuts (get_or rows place d).from) list (parts.1 place d (omega arith) (omega (arith, less, within)))
    (subst (λ (l : List ℕ). Precedes (lower cuts (get_or rows place d).from) l) (sym list-is) (lower_ends_rise a c cuts rows tiles place k d less within))

-- the lower end of a number that a row has
begins : (cuts : List (List ℕ)) (lowers : List (Option ℕ)) (rows : List BookRow) (number : ℕ) (from : Option ℕ) (k : ℕ) (d : BookRow) → HasLowers lowers rows → slice_get lowers number ≡ Some from → k < length rows
    → (get_or rows k d).number ≡ number → lower cuts from ≡ lower cuts (get_or rows k d).from
begins cuts lowers rows number from k d has from-is within same =
    ap (lower cuts) (let both : Some from ≡ Some (get_or rows k d).from = sym from-is ∙ lower_of lowers rows number k d has within same in cc)

-- no row before that place has the number
pub none_earlier : (cuts : List (List ℕ)) (lowers : List (Option ℕ)) (rows : List BookRow) (number : ℕ) (from : Option ℕ) (list : List ℕ) (place : ℕ) → HasLowers lowers rows → slice_get lowers number ≡ Some from → list ≡ lower cuts from
    → Parts cuts list rows place → (k : ℕ) (d : BookRow) → k < length rows → k < place → ((get_or rows k d).number == number) ≡ false
none_earlier cuts lowers rows number from list place has from-is list-is parts k d within less =
    elim (bool_cases ((get_or rows k d).number == number)) [
      | inl same ↦ absurd (not_earlier cuts rows list place k d parts (list-is ∙ begins cuts lowers rows number from k d has from-is within (same_is (get_or rows k d).number number same)) less)
      | inr other ↦ other
    ]

-- and where the row there doesn't have it, no row has
pub none_at_all : (a c : Bound) (cuts : List (List ℕ)) (lowers : List (Option ℕ)) (rows : List BookRow) (number : ℕ) (from : Option ℕ) (list : List ℕ) (place : ℕ) → Tile a c (map (row_seen cuts) rows) → HasLowers lowers rows
    → slice_get lowers number ≡ Some from → list ≡ lower cuts from → Parts cuts list rows place → ((d : BookRow) → place < length rows → (get_or rows place d).number ≡ number → ⊥)
    → All (λ row. (row.number == number) ≡ false) rows
none_at_all a c cuts lowers rows number from list place tiles has from-is list-is parts not_here k d within =
    elim (bool_cases ((get_or rows k d).number == number)) [
      | inl same ↦ absurd (by same (cases k place))
      | inr other ↦ other
    ]
  where
    cases : (i j : ℕ) → ((i < j) ⊎ (j < i)) ⊎ (i ≡ j)
    cases zero zero = inr refl
    cases zero (suc j) = inl (inl (omega arith))
    cases (suc i) zero = inl (inr (omega arith))
    cases (suc i) (suc j) = elim (cases i j) [ inl (inl less) ↦ inl (inl (omega arith)) | inl (inr more) ↦ inl (inr (omega arith)) | inr same ↦ inr (ap suc same) ]

    by : ((get_or rows k d).number == number) ≡ true → ((k < place) ⊎ (place < k)) ⊎ (k ≡ place) → ⊥
    by same (inl (inl less)) =
        not_earlier cuts rows list place k d parts (list-is ∙ begins cuts lowers rows number from k d has from-is within (same_is (get_or rows k d).number number same)) less
    by same (inl (inr more)) =
        not_later a c cuts rows list place k d tiles parts (list-is ∙ begins cuts lowers rows number from k d has from-is within (same_is (get_or rows k d).number number same)) more within
    by same (inr here) =
        not_here d (omega (arith, here, within)) (subst (λ (n : ℕ). (get_or rows n d).number ≡ number) here (same_is (get_or rows k d).number number same))

pub get_dropped : {X : Type 0} → (xs : List X) (first k : ℕ) (d : X) → get_or (drop first xs) k d ≡ get_or xs (first + k) d
get_dropped xs zero k d = ap (λ (n : ℕ). get_or xs n d) (let e : k ≡ 0 + k = omega arith in e)
get_dropped [] (suc first) k d = refl
get_dropped (x ∷ xs) (suc first) k d = get_dropped xs first k d ∙ ap (λ (n : ℕ). get_or (x ∷ xs) n d) (let e : suc (first + k) ≡ suc first + k = omega arith in e)

-- a test fails of the rows before a place, where it fails at each of their places
pub all_before : (rows : List BookRow) (place : ℕ) (test : BookRow → Bool) → ((k : ℕ) (d : BookRow) → k < length rows → k < place → test (get_or rows k d) ≡ false) → All (λ row. test row ≡ false) (take place rows)
all_before [] zero test fails = All-nil (λ (row : BookRow). test row ≡ false)
all_before [] (suc place) test fails = All-nil (λ (row : BookRow). test row ≡ false)
all_before (x ∷ xs) zero test fails = All-nil (λ (row : BookRow). test row ≡ false)
all_before (x ∷ xs) (suc place) test fails =
    All-cons (λ (row : BookRow). test row ≡ false) x (take place xs) (fails 0 x (omega arith) (omega arith)) (all_before xs place test (λ k d within less. fails (suc k) d (omega (arith, within)) (omega (arith, less))))
