-- Cells at the same places of two lists, and their trees.
use Rattle.std.proofs.Common.{◌≡◌, ℕ, ◌+◌, ◌<◌, ◌≤◌, List, [], ◌∷◌, length, map, refl, sym, ◌∙◌, ap, ap₂, arith}
use Rattle.std.specs.Prelude.{All}
use Rattle.std.specs.List.{zip}
use Rattle.std.proofs.lemmas.List.{length-map}
use Rattle.std.proofs.lemmas.List.Elements.{All-nil, All-cons, All-head, All-tail}
use Rattle.pm_logic.specs.Term.{Term, as_terms, list_of}
use Rattle.pm_logic.proofs.TableLemmas.{list_of-as_terms}
use Rattle.pm_store.specs.Equations.{Equations}
use Rattle.pm_store.specs.Trees.{size_among}
use Rattle.pm_diseq.specs.Inside.Comparing.{IsEqual, AreCells, pair_size}
use Rattle.pm_diseq.proofs.SupportLemmas.{total}

pub zip_within : (s : Equations) (xs ys : List ℕ) → All (λ x. x < length s.cells) xs → All (λ y. y < length s.cells) ys → All (AreCells s) (zip xs ys)
zip_within s [] ys left right = All-nil (AreCells s)
zip_within s (x ∷ xs) [] left right = All-nil (AreCells s)
zip_within s (x ∷ xs) (y ∷ ys) left right =
    let inside : ℕ → Type 0 = λ c. c < length s.cells in
    All-cons (AreCells s) (x, y) (zip xs ys) (All-head inside x xs left, All-head inside y ys right)
    (zip_within s xs ys (All-tail inside x xs left) (All-tail inside y ys right))

-- arguments make up less than the terms
pub total-zip : (trees : ℕ → Term) (xs ys : List ℕ) → total (pair_size trees) (zip xs ys) ≤ size_among (as_terms (map trees xs)) + size_among (as_terms (map trees ys))
total-zip trees [] ys = omega arith
total-zip trees (x ∷ xs) [] = omega arith
total-zip trees (x ∷ xs) (y ∷ ys) = omega (arith, total-zip trees xs ys)

pub zip_equal : (trees : ℕ → Term) (xs ys : List ℕ) → map trees xs ≡ map trees ys → All (IsEqual trees) (zip xs ys)
zip_equal trees [] ys same = All-nil (IsEqual trees)
zip_equal trees (x ∷ xs) [] same = All-nil (IsEqual trees)
zip_equal trees (x ∷ xs) (y ∷ ys) same =
    let first : trees x ≡ trees y = cc in
    let rest : map trees xs ≡ map trees ys = cc in
    All-cons (IsEqual trees) (x, y) (zip xs ys) first (zip_equal trees xs ys rest)

pub equal_zip : (trees : ℕ → Term) (xs ys : List ℕ) → length xs ≡ length ys → All (IsEqual trees) (zip xs ys) → map trees xs ≡ map trees ys
equal_zip trees [] [] count same = refl
equal_zip trees [] (y ∷ ys) count same = absurd (omega (arith, count))
equal_zip trees (x ∷ xs) [] count same = absurd (omega (arith, count))
equal_zip trees (x ∷ xs) (y ∷ ys) count same =
    ap₂ (λ t ts. t ∷ ts) (All-head (IsEqual trees) (x, y) (zip xs ys) same)
    (equal_zip trees xs ys (omega (arith, count)) (All-tail (IsEqual trees) (x, y) (zip xs ys) same))

pub same_terms : (ts us : List Term) → as_terms ts ≡ as_terms us → ts ≡ us
same_terms ts us same = sym (list_of-as_terms ts) ∙ ap list_of same ∙ list_of-as_terms us

pub same_count : (trees : ℕ → Term) (xs ys : List ℕ) → map trees xs ≡ map trees ys → length xs ≡ length ys
same_count trees xs ys same = sym (length-map xs trees) ∙ ap length same ∙ length-map ys trees
