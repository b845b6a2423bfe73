-- When two entries are the same, and the row that an entry gets.
use Rattle.std.proofs.Common.{◌≡◌, ℕ, inl, inr, Bool, true, false, List, [], ◌∷◌, ◌++◌, Some, length, slice_get, refl, sym, ◌∙◌, ap, true≢false}
use Rattle.std.specs.Prelude.{◌&&◌, if◌then◌else◌}
use Rattle.std.specs.List.{list_any}
use Rattle.std.specs.Cmp.{first_so, second_so}
use Rattle.std.specs.Cmp.Lexicographic.{pointwise, bytes_decides}
use Rattle.std.proofs.Math.Dec.{eqb}
use Rattle.std.proofs.lemmas.Bool.{eqb-true, eq-eqb}
use Rattle.std.proofs.lemmas.List.Folds.{list_any_at}
use Rattle.std.proofs.lemmas.Option.{slice_get_within, get_or_from_slice_get}
use Rattle.pm_logic.specs.contracts.terms.EntryPartialEq.TheImpl as entry_eq
use Rattle.pm_logic.specs.declared.terms.Entry.{Entry}
use Rattle.pm_logic.specs.declared.terms.Entry.TheVariants.{Var, App}
use Rattle.pm_logic.specs.Inside.Interned.{IsSame, Interns}
use Rattle.pm_logic.proofs.ListLemmas.{slice_get-push, below_or_last}

-- the test that the table compares entries by
abbrev pub eq : Entry → Entry → Bool
eq = (entry_eq.ghosts).eq

both_so : (a b : Bool) → a ≡ true → b ≡ true → (a && b) ≡ true
both_so a b p q = (λ i. p i && q i)

pub eq-true : (e f : Entry) → eq e f ≡ true → IsSame e f
eq-true (Var m) (Var n) h = eqb-true m n h
eq-true (Var m) (App symbol args) h = true≢false (sym h)
eq-true (App symbol args) (Var n) h = true≢false (sym h)
eq-true (App f rows) (App g others) h = (
  eqb-true f g (first_so (eqb f g) (pointwise eqb rows.items others.items) h),
  (bytes_decides rows.items others.items).0 (second_so (eqb f g) (pointwise eqb rows.items others.items) h),
)

pub true-eq : (e f : Entry) → IsSame e f → eq e f ≡ true
true-eq (Var m) (Var n) h = eq-eqb m n h
true-eq (Var m) (App symbol args) h = absurd h
true-eq (App symbol args) (Var n) h = absurd h
true-eq (App f rows) (App g others) h =
    both_so (eqb f g) (pointwise eqb rows.items others.items) (eq-eqb f g h.0) ((bytes_decides rows.items others.items).1 h.1)

-- an entry that is the same is found
found : (es : List Entry) (e known : Entry) (n : ℕ) → slice_get es n ≡ Some known → eq e known ≡ true → list_any (eq e) es ≡ true
found es e known n is same =
    list_any_at (eq e) es n known (slice_get_within es n known is) (ap (eq e) (get_or_from_slice_get es n known known is) ∙ same)

-- what the set answers, in the words of the table
pub Interns-from : (old new : List Entry) (e known : Entry) (row : ℕ) → new ≡ (if list_any (eq e) old then old else old ++ e ∷ [])
    → slice_get new row ≡ Some known → eq e known ≡ true → Interns old new e row
Interns-from old new e known row is stands same = by (list_any (eq e) old) refl is
  where
    by : (b : Bool) → list_any (eq e) old ≡ b → new ≡ (if b then old else old ++ e ∷ []) → Interns old new e row
    by true any unchanged =
        inl (record { known = known; stands = sym (ap (λ es. slice_get es row) unchanged) ∙ stands; same = eq-true e known same; unchanged = unchanged })
    by false any grown =
        let stands_last : slice_get (old ++ e ∷ []) row ≡ Some known = sym (ap (λ es. slice_get es row) grown) ∙ stands in
        let next : row ≡ length old =
        elim (below_or_last old e row (slice_get_within (old ++ e ∷ []) row known stands_last)) [
          | inl below ↦ absurd (true≢false (sym (found old e known row (sym (slice_get-push old e row below) ∙ stands_last) same) ∙ any))
          | inr last ↦ last
        ] in
        inr (record { next = next; grown = grown; absent = λ n other other_stands other_same. true≢false (sym (found old e other n other_stands (true-eq e other other_same)) ∙ any) })
