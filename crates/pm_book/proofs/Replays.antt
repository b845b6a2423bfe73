-- Replays: a book's own history gives it back.
use Rattle.std.proofs.Common.{◌≡◌, ℕ, zero, suc, ◌∙◌, true, List, [], ◌∷◌, ◌++◌, length, refl, ap}
use Rattle.std.specs.Prelude.{Option, Some, None, slice_get, ◌&&◌, option_map}
use Rattle.std.specs.List.{find}
use Rattle.std.specs.Option.{option_to_list, option_and_then}
use Rattle.pm_book.specs.declared.event.Event.{Event}
use Rattle.pm_book.specs.declared.event.Event.TheVariants.{Took, Claimed, Split, Returned, Closed, Found}
use Rattle.pm_book.specs.Rows.{Row, BookState, is_before, is_below, is_within, is_running}
use Rattle.pm_book.specs.Steps.{new_book, where_true, with_best, recorded, ended, returned, part_below, part_from, drop_above, with_state, may_return, is_next_cut, parts_after, is_about, step, step_at, cut_of, next, replayed, IsReplay}
use Rattle.pm_book.proofs.OrderTests.{and_is, same_is, where_is}
use Rattle.pm_book.proofs.Changes.{stepped, best_of}
use Rattle.pm_book.proofs.Always.{none_stays}

pub get_seam : {X : Type 0} → (xs : List X) (x : X) → slice_get (xs ++ x ∷ []) (length xs) ≡ Some x
get_seam [] x = refl
get_seam (y ∷ ys) x = get_seam ys x

get_more : {X : Type 0} → (xs ys : List X) (k : ℕ) (x : X) → slice_get xs k ≡ Some x → slice_get (xs ++ ys) k ≡ Some x
get_more [] ys k x e = absurd cc
get_more (y ∷ xs) ys zero x e = e
get_more (y ∷ xs) ys (suc k) x e = get_more xs ys k x e

-- the cut of an event that may happen is the next one
next_cut : (book : BookState) (place : ℕ) (cut : List ℕ) → is_next_cut book place ≡ true → slice_get (book.cuts ++ cut ∷ []) place ≡ Some cut
next_cut book place cut e = ap (slice_get (book.cuts ++ cut ∷ [])) (same_is place (length book.cuts) e) ∙ get_seam book.cuts cut

pub cut_is : (book : BookState) (event : Event) (cut : Option (List ℕ)) (row : Row) (parts : List Row) → parts_after book event cut row ≡ Some parts → cut_of (book.cuts ++ option_to_list cut) event ≡ cut
cut_is book (Took worker number) None row parts e = refl
cut_is book (Claimed worker number) None row parts e = refl
cut_is book (Closed number work) None row parts e = refl
cut_is book (Split number place) (Some cut) row parts e =
    next_cut book place cut (and_is (is_next_cut book place) (is_running row.state && (is_before row.from cut && is_below cut row.to))
    (where_is (is_next_cut book place && (is_running row.state && (is_before row.from cut && is_below cut row.to))) (part_below cut row.state row ∷ drop_above book.best (part_from cut (length book.rows) row) ∷ []) parts e).0).0
cut_is book (Returned number place work) (Some cut) row parts e =
    next_cut book place cut (and_is (is_next_cut book place) (may_return cut work row)
    (where_is (is_next_cut book place && may_return cut work row) (ended book.best row (returned cut (length book.rows) work row)) parts e).0).0
cut_is book (Found number place work) (Some path) row parts e =
    next_cut book place path (and_is (is_next_cut book place) (is_running row.state && is_within row.from row.to path)
    (where_is (is_next_cut book place && (is_running row.state && is_within row.from row.to path)) (ended book.best row (with_state (Rattle.pm_book.specs.declared.row.RowState.TheVariants.Done work true) row ∷ [])) parts e).0).0
cut_is book (Took worker number) (Some cut) row parts e = absurd cc
cut_is book (Claimed worker number) (Some cut) row parts e = absurd cc
cut_is book (Closed number work) (Some cut) row parts e = absurd cc
cut_is book (Split number place) None row parts e = absurd cc
cut_is book (Returned number place work) None row parts e = absurd cc
cut_is book (Found number place work) None row parts e = absurd cc

-- where no row may have an event, it is no step
pub never : (book : BookState) (event : Event) (cut : Option (List ℕ)) → ((row : Row) → parts_after book event cut row ≡ None) → step book event cut ≡ None
never book event cut none = by (find (is_about event) book.rows)
  where
    by : (found : Option Row) → option_and_then (step_at book event cut) found ≡ None
    by None = refl
    by (Some row) = ap (option_map (λ (parts : List Row). with_best (Rattle.pm_book.specs.Steps.new_best book event cut row) (recorded book event cut (Rattle.pm_book.specs.Steps.replace_first (is_about event) parts book.rows)))) (none row)

never_some : (book : BookState) (event : Event) (cut : Option (List ℕ)) (later : BookState) → ((row : Row) → parts_after book event cut row ≡ None) → step book event cut ≡ Some later → ⊥
never_some book event cut later none e = let n = never book event cut none in cc

-- more cuts change no step
listed_more : (cuts more : List (List ℕ)) (book : BookState) (event : Event) (place : ℕ) (later : BookState) → ((row : Row) → parts_after book event None row ≡ None)
    → step book event (slice_get cuts place) ≡ Some later → step book event (slice_get (cuts ++ more) place) ≡ Some later
listed_more cuts more book event place later none e = by (slice_get cuts place) refl e
  where
    by : (o : Option (List ℕ)) → slice_get cuts place ≡ o → step book event o ≡ Some later → step book event (slice_get (cuts ++ more) place) ≡ Some later
    by None is s = absurd (never_some book event None later none s)
    by (Some cut) is s = ap (step book event) (get_more cuts more place cut is) ∙ s

step_more : (cuts more : List (List ℕ)) (book : BookState) (event : Event) (later : BookState) → step book event (cut_of cuts event) ≡ Some later → step book event (cut_of (cuts ++ more) event) ≡ Some later
step_more cuts more book (Took worker number) later e = e
step_more cuts more book (Claimed worker number) later e = e
step_more cuts more book (Closed number work) later e = e
step_more cuts more book (Split number place) later e = listed_more cuts more book (Split number place) place later (λ row. refl) e
step_more cuts more book (Returned number place work) later e = listed_more cuts more book (Returned number place work) place later (λ row. refl) e
step_more cuts more book (Found number place work) later e = listed_more cuts more book (Found number place work) place later (λ row. refl) e

pub replayed_more : (cuts more : List (List ℕ)) (events : List Event) (start book : BookState) → replayed cuts events (Some start) ≡ Some book → replayed (cuts ++ more) events (Some start) ≡ Some book
replayed_more cuts more [] start book e = e
replayed_more cuts more (event ∷ events) start book e = by (step start event (cut_of cuts event)) refl e (λ later same. replayed_more cuts more events later book same)
  where
    by : (o : Option BookState) → step start event (cut_of cuts event) ≡ o → replayed cuts events o ≡ Some book → ((later : BookState) → replayed cuts events (Some later) ≡ Some book → replayed (cuts ++ more) events (Some later) ≡ Some book)
        → replayed (cuts ++ more) events (step start event (cut_of (cuts ++ more) event)) ≡ Some book
    by None is same go = absurd (let n = none_stays cuts events in cc)
    by (Some later) is same go = ap (replayed (cuts ++ more) events) (step_more cuts more start event later is) ∙ go later same

pub replayed_append : (cuts : List (List ℕ)) (xs ys : List Event) (book : Option BookState) → replayed cuts (xs ++ ys) book ≡ replayed cuts ys (replayed cuts xs book)
replayed_append cuts [] ys book = refl
replayed_append cuts (x ∷ xs) ys book = replayed_append cuts xs ys (next cuts book x)

best_keeps : (best : Option (List ℕ)) (book : BookState) → ((with_best best book).cuts ≡ book.cuts) × ((with_best best book).events ≡ book.events) × ((with_best best book).budget ≡ book.budget)
best_keeps None book = (refl, refl, refl)
best_keeps (Some path) book = (refl, refl, refl)

-- what a step adds to the history
pub record AddsEvent (book : BookState) (event : Event) (cut : Option (List ℕ)) (later : BookState) : Type 0 where
  pub cuts : later.cuts ≡ book.cuts ++ option_to_list cut
  pub events : later.events ≡ book.events ++ event ∷ []
  pub budget : later.budget ≡ book.budget
  pub cut_of_it : cut_of later.cuts event ≡ cut

pub adds : (book : BookState) (event : Event) (cut : Option (List ℕ)) (later : BookState) → step book event cut ≡ Some later → AddsEvent book event cut later
adds book event cut later e =
    let s = stepped book event cut later e in
    let keeps = best_keeps (best_of s.changes.change) (recorded book event cut (s.first.before ++ (s.parts ++ s.first.after))) in
    let cuts : later.cuts ≡ book.cuts ++ option_to_list cut = ap (λ (b : BookState). b.cuts) s.next_is ∙ keeps.0 in
    record {
      cuts = cuts;
      events = ap (λ (b : BookState). b.events) s.next_is ∙ keeps.1;
      budget = ap (λ (b : BookState). b.budget) s.next_is ∙ keeps.2;
      cut_of_it = ap (λ (l : List (List ℕ)). cut_of l event) cuts ∙ cut_is book event cut s.row s.parts s.parts_are;
    }

pub replay_more : (book : BookState) (event : Event) (cut : Option (List ℕ)) (later : BookState) → IsReplay book → step book event cut ≡ Some later → IsReplay later
replay_more book event cut later is e =
    let a = adds book event cut later e in
    let before : replayed later.cuts book.events (Some (new_book later.budget)) ≡ Some book =
    ap (λ (l : List (List ℕ)). replayed l book.events (Some (new_book later.budget))) a.cuts
    ∙ ap (λ (n : ℕ). replayed (book.cuts ++ option_to_list cut) book.events (Some (new_book n))) a.budget
    ∙ replayed_more book.cuts (option_to_list cut) book.events (new_book book.budget) book is in
    ap (λ (l : List Event). replayed later.cuts l (Some (new_book later.budget))) a.events
    ∙ replayed_append later.cuts book.events (event ∷ []) (Some (new_book later.budget))
    ∙ ap (λ (o : Option BookState). next later.cuts o event) before
    ∙ ap (step book event) a.cut_of_it ∙ e

pub replay_new : (budget : ℕ) → IsReplay (new_book budget)
replay_new budget = refl
