-- What the events of a book do to its rows: few kinds of changes of one row.
use Rattle.std.proofs.Common.{◌≡◌, ℕ, ◌∙◌, Bool, true, false, cond, List, [], ◌∷◌, ◌++◌, length, refl, sym, ap, subst, inl, inr}
use Rattle.std.specs.Prelude.{Option, Some, None, option_map, ◌==◌, ◌&&◌, ◌||◌, nat_le, if◌then◌else◌}
use Rattle.std.specs.List.{find}
use Rattle.std.specs.Option.{option_and_then}
use Rattle.pm_choice.specs.Order.{Precedes, PrecedesBound, IsWithin}
use Rattle.pm_book.specs.declared.row.RowState.TheVariants.{Queued, Running, Done, Dropped}
use Rattle.pm_book.specs.declared.event.Event.{Event}
use Rattle.pm_book.specs.declared.event.Event.TheVariants.{Took, Claimed, Split, Returned, Closed, Found}
use Rattle.pm_book.specs.Rows.{Row, BookState, is_before, is_below, is_within, is_queued, is_running, is_above, spent}
use Rattle.pm_book.specs.Steps.{with_state, part_below, part_from, drop_above, ended, returned, is_next_cut, may_return, parts_after, is_about, new_best, with_best, replace_first, recorded, step_at, step}
use Rattle.pm_book.proofs.OrderTests.{bool_cases, before_is, below_is, and_is, within_is, where_is}

-- the first row that passes a test stands between others, and is what gives way
pub record IsFirstOf (test : Row → Bool) (row : Row) (rows : List Row) : Type 0 where
  pub before : List Row
  pub after : List Row
  pub is : rows ≡ before ++ row ∷ after
  pub passes : test row ≡ true
  pub replaced : (parts : List Row) → replace_first test parts rows ≡ before ++ (parts ++ after)

pub first_found : (test : Row → Bool) (row : Row) (rows : List Row) → find test rows ≡ Some row → IsFirstOf test row rows
first_found test row [] e = absurd cc
first_found test row (x ∷ xs) e = by (test x) refl e (first_found test row xs)
  where
    by : (b : Bool) → test x ≡ b → cond b (Some x) (find test xs) ≡ Some row → (find test xs ≡ Some row → IsFirstOf test row xs) → IsFirstOf test row (x ∷ xs)
    by true t same rest =
        let is : x ≡ row = cc in
        record {
          before = [];
          after = xs;
          is = ap (λ (r : Row). r ∷ xs) is;
          passes = subst (λ (r : Row). test r ≡ true) is t;
          replaced = λ parts. ap (λ (b : Bool). cond b (parts ++ xs) (x ∷ replace_first test parts xs)) t;
        }
    by false t same rest =
        let later = rest same in
        record {
          before = x ∷ later.before;
          after = later.after;
          is = ap (λ (l : List Row). x ∷ l) later.is;
          passes = later.passes;
          replaced = λ parts. ap (λ (b : Bool). cond b (parts ++ xs) (x ∷ replace_first test parts xs)) t ∙ ap (λ (l : List Row). x ∷ l) (later.replaced parts);
        }

-- what may become of a row
pub data Change : Type 0 where
  starts : ℕ → Change
  divides : List ℕ → Change
  drops : Change
  requeues : Change
  gives_back : List ℕ → ℕ → Change
  closes : ℕ → Change
  finds : List ℕ → ℕ → Change

abbrev pub IsAllowed : BookState → Change → Row → Type 0
IsAllowed book (starts worker) row = is_queued row.state ≡ true
IsAllowed book (divides cut) row = (is_running row.state ≡ true) × Precedes row.from cut × PrecedesBound cut row.to
IsAllowed book drops row = (is_running row.state ≡ true) × (is_above book.best row.from ≡ true)
IsAllowed book requeues row = (is_running row.state ≡ true) × (is_above book.best row.from ≡ false)
IsAllowed book (gives_back cut work) row =
    (is_running row.state ≡ true) × (is_above book.best row.from ≡ false) × Precedes row.from cut × PrecedesBound cut row.to
IsAllowed book (closes work) row = (is_running row.state ≡ true) × (is_above book.best row.from ≡ false)
IsAllowed book (finds path work) row =
    (is_running row.state ≡ true) × (is_above book.best row.from ≡ false) × IsWithin row.from row.to path

abbrev pub parts_of : BookState → Change → Row → List Row
parts_of book (starts worker) row = with_state (Running worker) row ∷ []
parts_of book (divides cut) row = part_below cut row.state row ∷ drop_above book.best (part_from cut (length book.rows) row) ∷ []
parts_of book drops row = with_state Dropped row ∷ []
parts_of book requeues row = with_state Queued row ∷ []
parts_of book (gives_back cut work) row = part_below cut (Done work false) row ∷ part_from cut (length book.rows) row ∷ []
parts_of book (closes work) row = with_state (Done work false) row ∷ []
parts_of book (finds path work) row = with_state (Done work true) row ∷ []

abbrev pub best_of : Change → Option (List ℕ)
best_of (finds path work) = Some path
best_of change = None

-- which events close a row, give a part of it back, or find a path in it
abbrev pub IsBy : Event → Option (List ℕ) → Change → Type 0
IsBy event cut (gives_back list work) = (number : ℕ) × (place : ℕ) × (event ≡ Returned number place work) × (cut ≡ Some list)
IsBy event cut (closes work) = (number : ℕ) × (event ≡ Closed number work)
IsBy event cut (finds path work) = (number : ℕ) × (place : ℕ) × (event ≡ Found number place work) × (cut ≡ Some path)
IsBy event cut change = Unit {0}

pub record Changes (book : BookState) (event : Event) (cut : Option (List ℕ)) (row : Row) (parts : List Row) : Type 0 where
  pub change : Change
  pub allowed : IsAllowed book change row
  pub parts_are : parts ≡ parts_of book change row
  pub best_is : new_best book event cut row ≡ best_of change
  pub is_by : IsBy event cut change

-- an end of a Running row: it is dropped where it is above best, and else the change is the kept one
end_cases : (book : BookState) (event : Event) (cut : Option (List ℕ)) (row : Row) (kept parts : List Row) → is_running row.state ≡ true → ended book.best row kept ≡ parts
    → (is_above book.best row.from ≡ true → new_best book event cut row ≡ None)
    → (is_above book.best row.from ≡ false → kept ≡ parts → Changes book event cut row parts) → Changes book event cut row parts
end_cases book event cut row kept parts running is none keep =
    elim (bool_cases (is_above book.best row.from)) [
      | inl above ↦ record {
        change = drops;
        allowed = (running, above);
        parts_are = sym is ∙ ap (λ (b : Bool). if b then with_state Dropped row ∷ [] else kept) above;
        best_is = none above;
        is_by = tt;
      }
      | inr not_above ↦ keep not_above (sym (ap (λ (b : Bool). if b then with_state Dropped row ∷ [] else kept) not_above) ∙ is)
    ]

pub change_of : (book : BookState) (event : Event) (cut : Option (List ℕ)) (row : Row) (parts : List Row) → is_about event row ≡ true → parts_after book event cut row ≡ Some parts → Changes book event cut row parts
change_of book (Took worker number) None row parts about e =
    let is = where_is (row.number == number && nat_le (spent book) book.budget) (with_state (Running worker) row ∷ []) parts e in
    record { change = starts worker; allowed = about; parts_are = sym is.1; best_is = refl; is_by = tt }
change_of book (Claimed worker number) None row parts about e =
    let is = where_is (is_queued row.state) (with_state (Running worker) row ∷ []) parts e in
    record { change = starts worker; allowed = is.0; parts_are = sym is.1; best_is = refl; is_by = tt }
change_of book (Split number place) (Some cut) row parts about e =
    let is = where_is (is_next_cut book place && (is_running row.state && (is_before row.from cut && is_below cut row.to)))
    (part_below cut row.state row ∷ drop_above book.best (part_from cut (length book.rows) row) ∷ []) parts e in
    let due = and_is (is_next_cut book place) (is_running row.state && (is_before row.from cut && is_below cut row.to)) is.0 in
    let may = and_is (is_running row.state) (is_before row.from cut && is_below cut row.to) due.1 in
    let inside = and_is (is_before row.from cut) (is_below cut row.to) may.1 in
    record {
      change = divides cut;
      allowed = (may.0, (before_is row.from cut).0 inside.0, (below_is cut row.to).0 inside.1);
      parts_are = sym is.1;
      best_is = refl;
      is_by = tt;
    }
change_of book (Returned number place work) (Some cut) row parts about e =
    let is = where_is (is_next_cut book place && may_return cut work row) (ended book.best row (returned cut (length book.rows) work row)) parts e in
    let may = and_is (is_next_cut book place) (may_return cut work row) is.0 in
    let due = and_is (is_running row.state) (is_within row.from row.to cut && (is_before row.from cut || work == 0)) may.1 in
    let inside = within_is row.from cut row.to (and_is (is_within row.from row.to cut) (is_before row.from cut || work == 0) due.1).0 in
    end_cases book (Returned number place work) (Some cut) row (returned cut (length book.rows) work row) parts due.0 is.1 (λ above. refl)
    (λ not_above kept. elim (bool_cases (is_before row.from cut)) [
      | inl above ↦ record {
        change = gives_back cut work;
        allowed = (due.0, not_above, (before_is row.from cut).0 above, inside.below);
        parts_are = sym kept ∙ ap (λ (b : Bool). if b then part_below cut (Done work false) row ∷ part_from cut (length book.rows) row ∷ [] else with_state Queued row ∷ []) above;
        best_is = refl;
        is_by = (number, place, refl, refl);
      }
      | inr at_end ↦ record {
        change = requeues;
        allowed = (due.0, not_above);
        parts_are = sym kept ∙ ap (λ (b : Bool). if b then part_below cut (Done work false) row ∷ part_from cut (length book.rows) row ∷ [] else with_state Queued row ∷ []) at_end;
        best_is = refl;
        is_by = tt;
      }
    ])
change_of book (Closed number work) None row parts about e =
    let is = where_is (is_running row.state) (ended book.best row (with_state (Done work false) row ∷ [])) parts e in
    end_cases book (Closed number work) None row (with_state (Done work false) row ∷ []) parts is.0 is.1 (λ above. refl)
    (λ not_above kept. record { change = closes work; allowed = (is.0, not_above); parts_are = sym kept; best_is = refl; is_by = (number, refl) })
change_of book (Found number place work) (Some path) row parts about e =
    let is = where_is (is_next_cut book place && (is_running row.state && is_within row.from row.to path)) (ended book.best row (with_state (Done work true) row ∷ [])) parts e in
    let may = and_is (is_next_cut book place) (is_running row.state && is_within row.from row.to path) is.0 in
    let due = and_is (is_running row.state) (is_within row.from row.to path) may.1 in
    end_cases book (Found number place work) (Some path) row (with_state (Done work true) row ∷ []) parts due.0 is.1
    (λ above. ap (λ (b : Bool). if b then None else Some path) above)
    (λ not_above kept. record {
      change = finds path work;
      allowed = (due.0, not_above, within_is row.from path row.to due.1);
      parts_are = sym kept;
      best_is = ap (λ (b : Bool). if b then None else Some path) not_above;
      is_by = (number, place, refl, refl);
    })
change_of book (Took worker number) (Some cut) row parts about e = absurd cc
change_of book (Claimed worker number) (Some cut) row parts about e = absurd cc
change_of book (Split number place) None row parts about e = absurd cc
change_of book (Returned number place work) None row parts about e = absurd cc
change_of book (Closed number work) (Some cut) row parts about e = absurd cc
change_of book (Found number place work) None row parts about e = absurd cc

-- a step is a change of the first row that its event is about
pub record Stepped (book : BookState) (event : Event) (cut : Option (List ℕ)) (next : BookState) : Type 0 where
  pub row : Row
  pub about : find (is_about event) book.rows ≡ Some row
  pub first : IsFirstOf (is_about event) row book.rows
  pub parts : List Row
  pub parts_are : parts_after book event cut row ≡ Some parts
  pub changes : Changes book event cut row parts
  pub next_is : next ≡ with_best (best_of changes.change) (recorded book event cut (first.before ++ (parts ++ first.after)))

pub stepped : (book : BookState) (event : Event) (cut : Option (List ℕ)) (next : BookState) → step book event cut ≡ Some next → Stepped book event cut next
stepped book event cut next e = at_row (find (is_about event) book.rows) refl e
  where
    at_parts : (row : Row) → find (is_about event) book.rows ≡ Some row → (made : Option (List Row)) → parts_after book event cut row ≡ made
        → option_map (λ parts. with_best (new_best book event cut row) (recorded book event cut (replace_first (is_about event) parts book.rows))) made ≡ Some next → Stepped book event cut next
    at_parts row about None made e = absurd cc
    at_parts row about (Some parts) made e =
        let first = first_found (is_about event) row book.rows about in
        let changes = change_of book event cut row parts first.passes made in
        let whole : with_best (new_best book event cut row) (recorded book event cut (replace_first (is_about event) parts book.rows)) ≡ next = cc in
        record {
          row = row;
          about = about;
          first = first;
          parts = parts;
          parts_are = made;
          changes = changes;
          next_is = sym whole ∙ ap (λ (o : Option (List ℕ)). with_best o (recorded book event cut (replace_first (is_about event) parts book.rows))) changes.best_is
              ∙ ap (λ (l : List Row). with_best (best_of changes.change) (recorded book event cut l)) (first.replaced parts);
        }

    at_row : (found : Option Row) → find (is_about event) book.rows ≡ found → option_and_then (step_at book event cut) found ≡ Some next → Stepped book event cut next
    at_row None about e = absurd cc
    at_row (Some row) about e = at_parts row about (parts_after book event cut row) refl e
