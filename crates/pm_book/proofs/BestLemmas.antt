-- Best is none exactly where no event found a path.
use Rattle.std.proofs.Common.{◌≡◌, ◌≢◌, ℕ, ◌⊎◌, ◌∙◌, Bool, true, false, List, ◌++◌, refl, sym, ap, subst, inl, inr}
use Rattle.std.specs.Prelude.{Option, Some, None, All, ◌↔◌, if◌then◌else◌}
use Rattle.std.proofs.lemmas.List.Elements.{All-nil, All-push, All-pop}
use Rattle.pm_book.specs.declared.event.Event.{Event}
use Rattle.pm_book.specs.declared.event.Event.TheVariants.{Took, Claimed, Split, Returned, Closed, Found}
use Rattle.pm_book.specs.declared.tables.Tables.{Tables}
use Rattle.pm_book.specs.Rows.{Row, BookState, is_above}
use Rattle.pm_book.specs.Steps.{new_book, parts_after, new_best, with_best, recorded, step}
use Rattle.pm_book.specs.Inside.Seen.{seen, AreSoundTables}
use Rattle.pm_book.specs.Answers.{is_find, NoneFound}
use Rattle.pm_book.proofs.OrderTests.{bool_cases}
use Rattle.pm_book.proofs.Changes.{stepped}
use Rattle.pm_book.proofs.Always.{kept_along}
use Rattle.pm_book.proofs.Replays.{adds}

abbrev pub FindsTell : BookState → Type 0
FindsTell book = (book.best ≡ None) ↔ NoneFound book

-- An event finds no path and leaves best, or it finds one, and then there is a best.
abbrev TellsOfBest : BookState → Event → Option (List ℕ) → Row → Type 0
TellsOfBest book event cut row =
    ((is_find event ≡ false) × (new_best book event cut row ≡ None)) ⊎ ((is_find event ≡ true) × ((later : BookState) → later.best ≡ book.best → (with_best (new_best book event cut row) later).best ≢ None))

above_there : (best : Option (List ℕ)) (from : List ℕ) → is_above best from ≡ true → best ≢ None
above_there None from above e = absurd cc
above_there (Some path) from above e = absurd cc

event_tells : (book : BookState) (event : Event) (cut : Option (List ℕ)) (row : Row) (parts : List Row) → parts_after book event cut row ≡ Some parts → TellsOfBest book event cut row
event_tells book (Took worker number) cut row parts e = inl (refl, refl)
event_tells book (Claimed worker number) cut row parts e = inl (refl, refl)
event_tells book (Split number place) cut row parts e = inl (refl, refl)
event_tells book (Returned number place work) cut row parts e = inl (refl, refl)
event_tells book (Closed number work) cut row parts e = inl (refl, refl)
event_tells book (Found number place work) None row parts e = absurd cc
event_tells book (Found number place work) (Some path) row parts e =
    inr (
      refl,
      λ later same none. elim (bool_cases (is_above book.best row.from)) [
        | inl above ↦
            above_there book.best row.from above (sym same ∙ sym (ap (λ (b : Bool). (with_best (if b then None else Some path) later).best) above) ∙ none)
        | inr below ↦ absurd (let is : (with_best (if is_above book.best row.from then None else Some path) later).best ≡ Some path = ap (λ (b : Bool). (with_best (if b then None else Some path) later).best) below in cc)
      ],
    )

abbrev Quiet : Event → Type 0
Quiet event = is_find event ≡ false

tells_stepped : (book : BookState) (event : Event) (cut : Option (List ℕ)) (later : BookState) → FindsTell book → step book event cut ≡ Some later → FindsTell later
tells_stepped book event cut later tells e =
    let s = stepped book event cut later e in
    let a = adds book event cut later e in
    let made : BookState = recorded book event cut (s.first.before ++ (s.parts ++ s.first.after)) in
    let best-is : later.best ≡ (with_best (new_best book event cut s.row) made).best =
    ap (λ (b : BookState). b.best) s.next_is ∙ ap (λ (o : Option (List ℕ)). (with_best o made).best) (sym s.changes.best_is) in
    elim (event_tells book event cut s.row s.parts s.parts_are) [
      | inl quiet ↦
          let same : later.best ≡ book.best = best-is ∙ ap (λ (o : Option (List ℕ)). (with_best o made).best) quiet.1 in (
            λ none. subst (All Quiet) (sym a.events) (All-push Quiet book.events event (tells.0 (sym same ∙ none)) quiet.0),
            λ none. same ∙ tells.1 (All-pop Quiet later.events book.events (Some event) a.events none).0,
          )
      | inr loud ↦ (
        λ none. absurd (loud.1 made refl (sym best-is ∙ none)),
        λ none. absurd (let quiet = (All-pop Quiet later.events book.events (Some event) a.events none).1 in let found = loud.0 in cc),
      )
    ]

pub best_tells : (t : Tables) → AreSoundTables t → FindsTell (seen t)
best_tells t sound =
    kept_along FindsTell tells_stepped t.cuts.items t.events.items (new_book t.budget) (λ none. All-nil Quiet, λ none. refl) (seen t) sound.replay
