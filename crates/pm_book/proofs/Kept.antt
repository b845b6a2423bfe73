-- What always holds of a book holds after each step.
use Rattle.std.proofs.Common.{◌≡◌, ℕ, zero, suc, ◌+◌, ◌≤◌, ◌⊎◌, ◌∙◌, true, false, cond, List, [], ◌∷◌, ◌++◌, length, map, refl, sym, ap, subst, inl, inr, arith, length-append}
use Rattle.std.specs.Prelude.{Option, Some, None, All, Contains, ◌==◌, ◌&&◌, nat_lt, if◌then◌else◌}
use Rattle.std.specs.List.{count_by}
use Rattle.std.proofs.lemmas.List.{map-append}
use Rattle.std.proofs.lemmas.List.Sums.{sum_by-append, sum_by-cons}
use Rattle.std.proofs.lemmas.List.Elements.{All-nil, All-cons, All-head, All-tail, All-contains, Contains-append_cases}
use Rattle.std.proofs.lemmas.Bool.Decides.{nat_tests}
use Rattle.pm_choice.specs.declared.Bound.{Bound}
use Rattle.pm_choice.specs.declared.Bound.TheVariants.{At, End}
use Rattle.pm_choice.specs.Order.{Precedes, PrecedesBound}
use Rattle.pm_choice.proofs.OrderLemmas.{transitive}
use Rattle.pm_book.specs.declared.row.RowState.{RowState}
use Rattle.pm_book.specs.declared.row.RowState.TheVariants.{Queued, Running, Done, Dropped}
use Rattle.pm_book.specs.Rows.{Row, BookState, Tile, is_queued, is_running, is_found, is_above, count_of}
use Rattle.pm_book.specs.Steps.{with_state, part_below, part_from, drop_above}
use Rattle.pm_book.specs.Always.{HasBest}
use Rattle.pm_book.proofs.OrderTests.{not_before_is, is_not_before}
use Rattle.pm_book.proofs.Tiles.{tile_append, TilesRound, ends_before, begins_after}
use Rattle.pm_book.proofs.Changes.{Change, IsAllowed, parts_of}
use Rattle.pm_book.proofs.Changes.Change.{starts, divides, drops, requeues, gives_back, closes, finds}

-- dropping a row changes only how it stands
pub drop_from : (best : Option (List ℕ)) (row : Row) → (drop_above best row).from ≡ row.from
drop_from best row =
    elim (is_queued row.state && is_above best row.from) as (λ b. (if b then with_state Dropped row else row).from ≡ row.from) [ true ↦ refl | false ↦ refl ]

pub drop_to : (best : Option (List ℕ)) (row : Row) → (drop_above best row).to ≡ row.to
drop_to best row =
    elim (is_queued row.state && is_above best row.from) as (λ b. (if b then with_state Dropped row else row).to ≡ row.to) [ true ↦ refl | false ↦ refl ]

pub drop_number : (best : Option (List ℕ)) (row : Row) → (drop_above best row).number ≡ row.number
drop_number best row =
    elim (is_queued row.state && is_above best row.from) as (λ b. (if b then with_state Dropped row else row).number ≡ row.number) [ true ↦ refl | false ↦ refl ]

tile_one : (best : Option (List ℕ)) (a b : Bound) (row : Row) (rows : List Row) → (a ≡ At row.from) → PrecedesBound row.from row.to → Tile row.to b rows → Tile a b (drop_above best row ∷ rows)
tile_one best a b row rows first here rest = (
  first ∙ ap At (sym (drop_from best row)),
  subst (λ (l : List ℕ). PrecedesBound l (drop_above best row).to) (sym (drop_from best row)) (subst (λ (to : Bound). PrecedesBound row.from to) (sym (drop_to best row)) here),
  subst (λ (to : Bound). Tile to b rows) (sym (drop_to best row)) rest,
)

tile_dropped : (best : Option (List ℕ)) (a b : Bound) (rows : List Row) → Tile a b rows → Tile a b (map (drop_above best) rows)
tile_dropped best a b [] tiles = tiles
tile_dropped best a b (x ∷ xs) tiles = tile_one best a b x (map (drop_above best) xs) tiles.0 tiles.1 (tile_dropped best x.to b xs tiles.2)

-- the rows that take a row's place tile its interval
pub parts_tile : (book : BookState) (change : Change) (row : Row) → IsAllowed book change row → PrecedesBound row.from row.to → Tile (At row.from) row.to (parts_of book change row)
parts_tile book (starts worker) row may here = (refl, here, refl)
parts_tile book (divides cut) row may here =
    (refl, may.1, tile_one book.best (At cut) row.to (part_from cut (length book.rows) row) [] refl may.2 refl)
parts_tile book drops row may here = (refl, here, refl)
parts_tile book requeues row may here = (refl, here, refl)
parts_tile book (gives_back cut work) row may here = (refl, may.2, (refl, may.3, refl))
parts_tile book (closes work) row may here = (refl, here, refl)
parts_tile book (finds path work) row may here = (refl, here, refl)

-- the rows after a change, before any is dropped
abbrev pub changed_rows : BookState → Change → Row → List Row → List Row → List Row
changed_rows book change row before after = before ++ (parts_of book change row ++ after)

-- the best path and the rows after a change
abbrev pub best_after : BookState → Change → Option (List ℕ)
best_after book (finds path work) = Some path
best_after book change = book.best

abbrev pub rows_after : BookState → Change → Row → List Row → List Row → List Row
rows_after book (finds path work) row before after = map (drop_above (Some path)) (changed_rows book (finds path work) row before after)
rows_after book change row before after = changed_rows book change row before after

pub tile_after : (book : BookState) (change : Change) (row : Row) (before after : List Row) → IsAllowed book change row → TilesRound (At []) End before row after → Tile (At []) End (rows_after book change row before after)
tile_after book change row before after may round =
    let whole : Tile (At []) End (changed_rows book change row before after) =
    tile_append (At []) (At row.from) End before (parts_of book change row ++ after) round.left (tile_append (At row.from) row.to End (parts_of book change row) after (parts_tile book change row may round.here) round.right) in
    elim change as (λ c. Tile (At []) End (changed_rows book c row before after) → Tile (At []) End (rows_after book c row before after)) [
      | starts worker ↦ λ t. t
      | divides cut ↦ λ t. t
      | drops ↦ λ t. t
      | requeues ↦ λ t. t
      | gives_back cut work ↦ λ t. t
      | closes work ↦ λ t. t
      | finds path work ↦ λ t. tile_dropped (Some path) (At []) End (changed_rows book (finds path work) row before after) t
    ] whole

pub count_append : (n : ℕ) (xs ys : List Row) → count_of n (xs ++ ys) ≡ count_of n xs + count_of n ys
count_append n xs ys =
    ap (count_by (λ m. m == n)) (map-append (λ (row : Row). row.number) xs ys) ∙ sum_by-append (λ m. cond (m == n) 1 0) (map (λ (row : Row). row.number) xs) (map (λ (row : Row). row.number) ys)

pub count_cons : (n : ℕ) (x : Row) (xs : List Row) → count_of n (x ∷ xs) ≡ (cond (x.number == n) 1 0) + count_of n xs
count_cons n x xs = sum_by-cons (λ m. cond (m == n) 1 0) x.number (map (λ (row : Row). row.number) xs)

count_dropped : (best : Option (List ℕ)) (n : ℕ) (rows : List Row) → count_of n (map (drop_above best) rows) ≡ count_of n rows
count_dropped best n [] = refl
count_dropped best n (x ∷ xs) =
    count_cons n (drop_above best x) (map (drop_above best) xs) ∙ ap (λ (m : ℕ). cond (m == n) 1 0 + count_of n (map (drop_above best) xs)) (drop_number best x)
    ∙ ap (λ (m : ℕ). cond (x.number == n) 1 0 + m) (count_dropped best n xs) ∙ sym (count_cons n x xs)

-- how many rows a change adds
abbrev added : Change → ℕ
added (divides cut) = 1
added (gives_back cut work) = 1
added change = 0

parts_counted : (book : BookState) (change : Change) (row : Row) (n : ℕ) → count_of n (parts_of book change row) ≡ cond (row.number == n) 1 0 + cond (length book.rows == n) (added change) 0
parts_counted book (starts worker) row n = grind (arith, nat_tests)
parts_counted book (divides cut) row n =
    omega (arith, count_cons n (part_below cut row.state row) (drop_above book.best (part_from cut (length book.rows) row) ∷ []), count_dropped book.best n (part_from cut (length book.rows) row ∷ []))
parts_counted book drops row n = grind (arith, nat_tests)
parts_counted book requeues row n = grind (arith, nat_tests)
parts_counted book (gives_back cut work) row n = omega (arith, count_cons n (part_below cut (Done work false) row) (part_from cut (length book.rows) row ∷ []))
parts_counted book (closes work) row n = grind (arith, nat_tests)
parts_counted book (finds path work) row n = grind (arith, nat_tests)

parts_length : (book : BookState) (change : Change) (row : Row) → length (parts_of book change row) ≡ 1 + added change
parts_length book (starts worker) row = refl
parts_length book (divides cut) row = refl
parts_length book drops row = refl
parts_length book requeues row = refl
parts_length book (gives_back cut work) row = refl
parts_length book (closes work) row = refl
parts_length book (finds path work) row = refl

length_dropped : (best : Option (List ℕ)) (rows : List Row) → length (map (drop_above best) rows) ≡ length rows
length_dropped best [] = refl
length_dropped best (x ∷ xs) = ap suc (length_dropped best xs)

count_changed : (book : BookState) (change : Change) (row : Row) (before after : List Row) (n : ℕ) → book.rows ≡ before ++ row ∷ after
    → count_of n (changed_rows book change row before after) ≡ count_of n book.rows + cond (length book.rows == n) (added change) 0
count_changed book change row before after n is =
    let a = count_append n before (parts_of book change row ++ after) in
    let b = count_append n (parts_of book change row) after in
    let c = parts_counted book change row n in
    let d : count_of n book.rows ≡ count_of n before + count_of n (row ∷ after) = ap (count_of n) is ∙ count_append n before (row ∷ after) in
    let e = count_cons n row after in
    omega (arith, a, b, c, d, e)

length_changed : (book : BookState) (change : Change) (row : Row) (before after : List Row) → book.rows ≡ before ++ row ∷ after
    → length (changed_rows book change row before after) ≡ length book.rows + added change
length_changed book change row before after is =
    let a = length-append before (parts_of book change row ++ after) in
    let b = length-append (parts_of book change row) after in
    let c = parts_length book change row in
    let d : length book.rows ≡ length before + length (row ∷ after) = ap length is ∙ length-append before (row ∷ after) in
    let e : length (row ∷ after) ≡ 1 + length after = omega arith in
    omega (arith, a, b, c, d, e)

-- dropping rows changes neither their count nor their numbers
after_drops : (P : ℕ → ℕ → Type 0) (book : BookState) (change : Change) (row : Row) (before after : List Row) (n : ℕ)
    → P (count_of n (changed_rows book change row before after)) (length (changed_rows book change row before after))
    → P (count_of n (rows_after book change row before after)) (length (rows_after book change row before after))
after_drops P book (starts worker) row before after n holds = holds
after_drops P book (divides cut) row before after n holds = holds
after_drops P book drops row before after n holds = holds
after_drops P book requeues row before after n holds = holds
after_drops P book (gives_back cut work) row before after n holds = holds
after_drops P book (closes work) row before after n holds = holds
after_drops P book (finds path work) row before after n holds =
    let rows = changed_rows book (finds path work) row before after in
    subst (λ (l : ℕ). P (count_of n (map (drop_above (Some path)) rows)) l) (sym (length_dropped (Some path) rows))
    (subst (λ (c : ℕ). P c (length rows)) (sym (count_dropped (Some path) n rows)) holds)

one_more : (count total more n : ℕ) → count ≡ (if nat_lt n total then 1 else 0) → more ≤ 1 → count + cond (total == n) more 0 ≡ (if nat_lt n (total + more) then 1 else 0)
one_more count total more n is few = grind (arith, nat_tests)

added_few : (change : Change) → added change ≤ 1
added_few (starts worker) = omega arith
added_few (divides cut) = omega arith
added_few drops = omega arith
added_few requeues = omega arith
added_few (gives_back cut work) = omega arith
added_few (closes work) = omega arith
added_few (finds path work) = omega arith

pub numbered_after : (book : BookState) (change : Change) (row : Row) (before after : List Row) (n : ℕ) → book.rows ≡ before ++ row ∷ after
    → count_of n book.rows ≡ (if nat_lt n (length book.rows) then 1 else 0)
    → count_of n (rows_after book change row before after) ≡ (if nat_lt n (length (rows_after book change row before after)) then 1 else 0)
numbered_after book change row before after n is numbered =
    after_drops (λ (count total : ℕ). count ≡ (if nat_lt n total then 1 else 0)) book change row before after n
    (count_changed book change row before after n is
    ∙ one_more (count_of n book.rows) (length book.rows) (added change) n numbered (added_few change)
    ∙ ap (λ (total : ℕ). if nat_lt n total then 1 else 0) (sym (length_changed book change row before after is)))

-- a row that ran is no other
pub running_is : (state : RowState) → is_running state ≡ true → (is_found state ≡ false) × (is_queued state ≡ false)
running_is (Running worker) e = (refl, refl)
running_is Queued e = absurd cc
running_is (Done work found) e = absurd cc
running_is Dropped e = absurd cc

pub all_left : (P : Row → Type 0) (xs ys : List Row) → All P (xs ++ ys) → All P xs
all_left P [] ys all = All-nil P
all_left P (x ∷ xs) ys all = All-cons P x xs (All-head P x (xs ++ ys) all) (all_left P xs ys (All-tail P x (xs ++ ys) all))

pub all_right : (P : Row → Type 0) (xs ys : List Row) → All P (xs ++ ys) → All P ys
all_right P [] ys all = all
all_right P (x ∷ xs) ys all = all_right P xs ys (All-tail P x (xs ++ ys) all)

-- one of a list of rows is before a row, is this row, or is after it
pub where_in : (before : List Row) (row : Row) (after : List Row) (other : Row) → Contains (before ++ row ∷ after) other → (Contains before other ⊎ (row ≡ other)) ⊎ Contains after other
where_in before row after other within =
    elim (Contains-append_cases before (row ∷ after) other within) [
      | inl left ↦ inl (inl left)
      | inr right ↦ elim (Contains-append_cases (row ∷ []) after other right) [
        | inl (zero, less, is) ↦ inl (inr is)
        | inl (suc n, less, is) ↦ absurd (omega arith)
        | inr there ↦ inr there
      ]
    ]

-- where a row runs and isn't above best, best isn't below the end of the row
pub best_beyond : (book : BookState) (row : Row) (before after : List Row) → book.rows ≡ before ++ row ∷ after → TilesRound (At []) End before row after → HasBest book.best book.rows
    → is_running row.state ≡ true → is_above book.best row.from ≡ false → (list : List ℕ) → PrecedesBound list row.to → is_above book.best list ≡ false
best_beyond book row before after is round has runs not_above list below = by book.best has not_above
  where
    by : (best : Option (List ℕ)) → HasBest best book.rows → is_above best row.from ≡ false → is_above best list ≡ false
    by None has' out = refl
    by (Some path) has' out =
        is_not_before path list (λ p. elim (where_in before row after has'.0 (subst (λ (l : List Row). Contains l has'.0) is has'.1)) [
          | inl (inl left) ↦
              not_before_is path row.from out (All-contains (λ (x : Row). (l : List ℕ) → PrecedesBound l x.to → Precedes l row.from) before has'.0 (ends_before (At []) (At row.from) before round.left) left path has'.2.within.below)
          | inl (inr same) ↦
              let one = (running_is row.state runs).0 in
              let two : is_found row.state ≡ true = subst (λ (r : Row). is_found r.state ≡ true) (sym same) has'.2.found in
              cc
          | inr right ↦
              has'.2.within.not_below (transitive path list has'.0.from p (All-contains (λ (x : Row). (l : List ℕ) → PrecedesBound l row.to → Precedes l x.from) after has'.0 (begins_after row.to End after round.right) right list below))
        ])
