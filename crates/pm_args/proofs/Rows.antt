-- The rows of matches, as they grow by one use of an argument.
use Rattle.std.proofs.Common.{◌≡◌, ◌∙◌, Bool, true, false, List, [], ◌∷◌, ◌++◌, ◌||◌, refl, ap, cond, Some, None, true≢false}
use Rattle.std.proofs.lemmas.List.{append-nil}
use Rattle.std.specs.List.{find}
use Rattle.std.specs.Prelude.{slice_get, option_and_then, unwrap_or}
use Rattle.std.specs.Option.{option_map}
use Rattle.std.specs.Str.{bytes_eq}
use Rattle.clap.specs.Walk.{Row, at_row, all_of, first_of, has_row, more_values, with_values, without}
use Rattle.clap.specs.declared.builder.value_parser.Reading.{Reading}
use Rattle.clap.specs.declared.parser.matches.ValueSource.TheVariants.{CommandLine}
use Rattle.pm_args.specs.Words.{Text}
use Rattle.pm_args.proofs.Names.{bytes_same, same_text}

-- the row of an argument that was used once, with one value
abbrev pub row : Text → Reading → Text → Row
row id how value = record {
  id = id;
  values = value ∷ [];
  count = None;
  source = Some CommandLine;
  reading = how;
}

-- where no row has the id, a new one comes last
pub at_new : (id : Text) (change : Row → List Row) (missing rows : List Row) → has_row id rows ≡ false → at_row id change missing rows ≡ rows ++ missing
at_new id change missing [] none = refl
at_new id change missing (r ∷ rs) none = go (bytes_eq r.id id) (at_new id change missing rs) none
  where
    go : (b : Bool) → (has_row id rs ≡ false → at_row id change missing rs ≡ rs ++ missing) → (b || has_row id rs) ≡ false
        → cond b (change r ++ rs) (r ∷ at_row id change missing rs) ≡ r ∷ (rs ++ missing)
    go true ih n = absurd (true≢false n)
    go false ih n = ap (λ (l : List Row). r ∷ l) (ih n)

-- a first use of an option with one value
pub set_new : (id : Text) (how : Reading) (value : Text) (rows : List Row) → has_row id rows ≡ false
    → with_values id how CommandLine (value ∷ []) (without id rows) ≡ rows ++ row id how value ∷ []
set_new id how value rows none =
    let same : without id rows ≡ rows = at_new id (λ _. []) [] rows none ∙ append-nil rows in
    ap (with_values id how CommandLine (value ∷ [])) same ∙ at_new id (more_values CommandLine (value ∷ [])) (row id how value ∷ []) rows none

pub has_row_last : (id : Text) (rows : List Row) (r : Row) → has_row id (rows ++ r ∷ []) ≡ (bytes_eq r.id id || has_row id rows)
has_row_last id [] r = refl
has_row_last id (x ∷ rows) r = ap (λ (b : Bool). bytes_eq x.id id || b) (has_row_last id rows r) ∙ swap (bytes_eq x.id id) (bytes_eq r.id id) (has_row id rows)
  where
    swap : (a b c : Bool) → (a || (b || c)) ≡ (b || (a || c))
    swap true true c = refl
    swap true false c = refl
    swap false b c = refl

-- what is found with one more row, where the last row has another id
pub first_of_other : (id : Text) (rows : List Row) (r : Row) → bytes_eq r.id id ≡ false → first_of id (rows ++ r ∷ []) ≡ first_of id rows
first_of_other id [] r other = rw other refl
first_of_other id (x ∷ rows) r other = go (bytes_eq x.id id) (first_of_other id rows r other)
  where
    go : (b : Bool) → first_of id (rows ++ r ∷ []) ≡ first_of id rows
        → option_and_then (λ (y : Row). slice_get y.values 0) (cond b (Some x) (find (λ (y : Row). bytes_eq y.id id) (rows ++ r ∷ [])))
        ≡ option_and_then (λ (y : Row). slice_get y.values 0) (cond b (Some x) (find (λ (y : Row). bytes_eq y.id id) rows))
    go true e = refl
    go false e = e

pub first_of_new : (id : Text) (how : Reading) (value : Text) (rows : List Row) → has_row id rows ≡ false → first_of id (rows ++ row id how value ∷ []) ≡ Some value
first_of_new id how value [] none = rw (bytes_same id) refl
first_of_new id how value (x ∷ rows) none = go (bytes_eq x.id id) (first_of_new id how value rows) none
  where
    go : (b : Bool) → (has_row id rows ≡ false → first_of id (rows ++ row id how value ∷ []) ≡ Some value) → (b || has_row id rows) ≡ false
        → option_and_then (λ (y : Row). slice_get y.values 0) (cond b (Some x) (find (λ (y : Row). bytes_eq y.id id) (rows ++ row id how value ∷ []))) ≡ Some value
    go true e n = absurd (true≢false n)
    go false e n = e n

pub first_of_none : (id : Text) (rows : List Row) → has_row id rows ≡ false → first_of id rows ≡ None
first_of_none id [] none = refl
first_of_none id (x ∷ rows) none = go (bytes_eq x.id id) (first_of_none id rows) none
  where
    go : (b : Bool) → (has_row id rows ≡ false → first_of id rows ≡ None) → (b || has_row id rows) ≡ false
        → option_and_then (λ (y : Row). slice_get y.values 0) (cond b (Some x) (find (λ (y : Row). bytes_eq y.id id) rows)) ≡ None
    go true e n = absurd (true≢false n)
    go false e n = e n

-- the values of an id, and none where it has no row
abbrev pub values_at : Text → List Row → List Text
values_at id rows = unwrap_or (all_of id rows) []

pub values_at_other : (id : Text) (rows : List Row) (r : Row) → bytes_eq r.id id ≡ false → values_at id (rows ++ r ∷ []) ≡ values_at id rows
values_at_other id [] r other = rw other refl
values_at_other id (x ∷ rows) r other = go (bytes_eq x.id id) (values_at_other id rows r other)
  where
    go : (b : Bool) → values_at id (rows ++ r ∷ []) ≡ values_at id rows
        → unwrap_or (option_map (λ (y : Row). y.values) (cond b (Some x) (find (λ (y : Row). bytes_eq y.id id) (rows ++ r ∷ [])))) []
        ≡ unwrap_or (option_map (λ (y : Row). y.values) (cond b (Some x) (find (λ (y : Row). bytes_eq y.id id) rows))) []
    go true e = refl
    go false e = e

-- one more value of an argument that may be used again
abbrev pub with_more : Text → Reading → Text → List Row → List Row
with_more id how value rows = with_values id how CommandLine (value ∷ []) rows

pub values_more : (id : Text) (how : Reading) (value : Text) (rows : List Row) → values_at id (with_more id how value rows) ≡ values_at id rows ++ value ∷ []
values_more id how value [] = rw (bytes_same id) refl
values_more id how value (x ∷ rows) = go (bytes_eq x.id id) refl (values_more id how value rows)
  where
    go : (b : Bool) → bytes_eq x.id id ≡ b → values_at id (with_more id how value rows) ≡ values_at id rows ++ value ∷ []
        → values_at id (cond b (more_values CommandLine (value ∷ []) x ++ rows) (x ∷ with_more id how value rows))
        ≡ unwrap_or (option_map (λ (y : Row). y.values) (cond b (Some x) (find (λ (y : Row). bytes_eq y.id id) rows))) [] ++ value ∷ []
    go true is e = rw is refl
    go false is e = rw is e

pub has_row_more : (id other : Text) (how : Reading) (value : Text) (rows : List Row) → bytes_eq id other ≡ false → has_row other (with_more id how value rows) ≡ has_row other rows
has_row_more id other how value [] differs = rw differs refl
has_row_more id other how value (x ∷ rows) differs = go (bytes_eq x.id id) (has_row_more id other how value rows differs)
  where
    go : (b : Bool) → has_row other (with_more id how value rows) ≡ has_row other rows
        → has_row other (cond b (more_values CommandLine (value ∷ []) x ++ rows) (x ∷ with_more id how value rows)) ≡ has_row other (x ∷ rows)
    go true e = refl
    go false e = ap (λ (c : Bool). bytes_eq x.id other || c) e

pub first_of_more : (id other : Text) (how : Reading) (value : Text) (rows : List Row) → bytes_eq id other ≡ false → first_of other (with_more id how value rows) ≡ first_of other rows
first_of_more id other how value [] differs = rw differs refl
first_of_more id other how value (x ∷ rows) differs = go (bytes_eq x.id id) refl (first_of_more id other how value rows differs)
  where
    no_hit : bytes_eq x.id id ≡ true → bytes_eq x.id other ≡ false
    no_hit e = rw (same_text x.id id e) differs

    inside : (b : Bool) → first_of other (with_more id how value rows) ≡ first_of other rows
        → option_and_then (λ (y : Row). slice_get y.values 0) (cond b (Some x) (find (λ (y : Row). bytes_eq y.id other) (with_more id how value rows)))
        ≡ option_and_then (λ (y : Row). slice_get y.values 0) (cond b (Some x) (find (λ (y : Row). bytes_eq y.id other) rows))
    inside true e = refl
    inside false e = e

    go : (b : Bool) → bytes_eq x.id id ≡ b → first_of other (with_more id how value rows) ≡ first_of other rows
        → first_of other (cond b (more_values CommandLine (value ∷ []) x ++ rows) (x ∷ with_more id how value rows)) ≡ first_of other (x ∷ rows)
    go true is e = rw (no_hit is) refl
    go false is e = inside (bytes_eq x.id other) e
