-- Arguments at the same places, and their trees.
use Rattle.std.proofs.Common.{◌≡◌, ℕ, suc, ◌+◌, ◌<◌, ◌≤◌, List, [], ◌∷◌, length, map, refl, ap, ap₂, arith}
use Rattle.std.specs.Prelude.{All}
use Rattle.std.specs.List.{zip}
use Rattle.std.proofs.lemmas.List.Elements.{All-nil, All-cons, All-head, All-tail}
use Rattle.pm_logic.specs.Term.{Term, more_terms, as_terms}
use Rattle.pm_store.specs.Equations.{Equations}
use Rattle.pm_store.specs.Trees.{size_among}
use Rattle.pm_unify.specs.Inside.Pairs.{IsEqual, IsPairWithin, ArePairsWithin, pair_size}
use Rattle.pm_unify.proofs.SupportLemmas.{total}

pub zip_within : (s : Equations) (xs ys : List ℕ) → All (λ x. x < length s.cells) xs → All (λ y. y < length s.cells) ys → ArePairsWithin s (zip xs ys)
zip_within s [] ys left right = All-nil (IsPairWithin s)
zip_within s (x ∷ xs) [] left right = All-nil (IsPairWithin s)
zip_within s (x ∷ xs) (y ∷ ys) left right =
    let inside : ℕ → Type 0 = λ c. c < length s.cells in
    All-cons (IsPairWithin s) (x, y) (zip xs ys) (All-head inside x xs left, All-head inside y ys right)
    (zip_within s xs ys (All-tail inside x xs left) (All-tail inside y ys right))

-- arguments make up less than the terms
pub zip_smaller : (trees : ℕ → Term) (xs ys : List ℕ) (n : ℕ) → size_among (as_terms (map trees xs)) + size_among (as_terms (map trees ys)) < n
    → All (λ p. pair_size trees p < n) (zip xs ys)
zip_smaller trees [] ys n less = All-nil (λ p. pair_size trees p < n)
zip_smaller trees (x ∷ xs) [] n less = All-nil (λ p. pair_size trees p < n)
zip_smaller trees (x ∷ xs) (y ∷ ys) n less =
    All-cons (λ p. pair_size trees p < n) (x, y) (zip xs ys) (omega (arith, less)) (zip_smaller trees xs ys n (omega (arith, less)))

pub total-zip : (trees : ℕ → Term) (xs ys : List ℕ) → total (pair_size trees) (zip xs ys) ≤ size_among (as_terms (map trees xs)) + size_among (as_terms (map trees ys))
total-zip trees [] ys = omega arith
total-zip trees (x ∷ xs) [] = omega arith
total-zip trees (x ∷ xs) (y ∷ ys) = omega (arith, total-zip trees xs ys)

pub zip_equal : (trees : ℕ → Term) (xs ys : List ℕ) → as_terms (map trees xs) ≡ as_terms (map trees ys) → All (IsEqual trees) (zip xs ys)
zip_equal trees [] ys same = All-nil (IsEqual trees)
zip_equal trees (x ∷ xs) [] same = All-nil (IsEqual trees)
zip_equal trees (x ∷ xs) (y ∷ ys) same =
    let first : trees x ≡ trees y = cc in
    let rest : as_terms (map trees xs) ≡ as_terms (map trees ys) = cc in
    All-cons (IsEqual trees) (x, y) (zip xs ys) first (zip_equal trees xs ys rest)

pub equal_zip : (trees : ℕ → Term) (xs ys : List ℕ) → length xs ≡ length ys → All (IsEqual trees) (zip xs ys) → as_terms (map trees xs) ≡ as_terms (map trees ys)
equal_zip trees [] [] count same = refl
equal_zip trees [] (y ∷ ys) count same = absurd (omega (arith, count))
equal_zip trees (x ∷ xs) [] count same = absurd (omega (arith, count))
equal_zip trees (x ∷ xs) (y ∷ ys) count same =
    ap₂ more_terms (All-head (IsEqual trees) (x, y) (zip xs ys) same)
    (equal_zip trees xs ys (omega (arith, count)) (All-tail (IsEqual trees) (x, y) (zip xs ys) same))

pub same_count : (trees : ℕ → Term) (xs ys : List ℕ) → as_terms (map trees xs) ≡ as_terms (map trees ys) → length xs ≡ length ys
same_count trees [] [] same = refl
same_count trees [] (y ∷ ys) same = absurd cc
same_count trees (x ∷ xs) [] same = absurd cc
same_count trees (x ∷ xs) (y ∷ ys) same =
    let rest : as_terms (map trees xs) ≡ as_terms (map trees ys) = cc in
    ap suc (same_count trees xs ys rest)
