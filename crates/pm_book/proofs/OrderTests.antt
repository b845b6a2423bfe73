-- The tests of a book, and what they mean.
use Rattle.std.proofs.Common.{◌≡◌, ℕ, ◌⊎◌, Bool, true, false, List, refl, sym, subst, inl, inr, arith}
use Rattle.std.specs.Prelude.{◌↔◌, ◌&&◌, ◌||◌, ◌==◌, not, Option, Some, None}
use Rattle.std.proofs.lemmas.Bool.Decides.{nat_tests}
use Rattle.std.specs.declared.cmp.Ordering.{Ordering}
use Rattle.std.specs.declared.cmp.Ordering.TheVariants.{Less, Equal, Greater}
use Rattle.std.specs.Ordering.{nat_cmp, is_lt, is_eq}
use Rattle.std.specs.Cmp.Lexicographic.{slice_cmp}
use Rattle.pm_choice.specs.declared.Bound.{Bound}
use Rattle.pm_choice.specs.declared.Bound.TheVariants.{At, End}
use Rattle.pm_choice.specs.Order.{IsOrderOf, Precedes, PrecedesBound, IsWithin}
use Rattle.pm_choice.proofs.OrderLemmas.{compared, less_precedes, irreflexive, transitive}
use Rattle.pm_book.specs.Rows.{is_before, is_below, is_within, is_above}
use Rattle.pm_book.specs.Steps.{where_true}

pub bool_cases : (b : Bool) → (b ≡ true) ⊎ (b ≡ false)
bool_cases true = inl refl
bool_cases false = inr refl

pub before_is : (a b : List ℕ) → (is_before a b ≡ true) ↔ Precedes a b
unfolding is_before
before_is a b = less_precedes (slice_cmp nat_cmp a b) a b (compared a b)

pub not_before_is : (a b : List ℕ) → is_before a b ≡ false → ¬ Precedes a b
not_before_is a b test p = absurd (let yes' = (before_is a b).1 p in cc)

pub is_not_before : (a b : List ℕ) → (¬ Precedes a b) → is_before a b ≡ false
is_not_before a b not_before =
    elim (bool_cases (is_before a b)) [ inl e ↦ absurd (not_before ((before_is a b).0 e)) | inr e ↦ e ]

pub below_is : (list : List ℕ) (bound : Bound) → (is_below list bound ≡ true) ↔ PrecedesBound list bound
below_is list (At b) = before_is list b
below_is list End = (λ e. tt, λ p. refl)

pub not_below_is : (list : List ℕ) (bound : Bound) → is_below list bound ≡ false → ¬ PrecedesBound list bound
not_below_is list bound test p = absurd (let yes' = (below_is list bound).1 p in cc)

pub and_is : (a b : Bool) → (a && b) ≡ true → (a ≡ true) × (b ≡ true)
and_is true b e = (refl, e)
and_is false b e = absurd cc

pub or_is : (a b : Bool) → (a || b) ≡ true → (a ≡ true) ⊎ (b ≡ true)
or_is true b e = inl refl
or_is false b e = inr e

pub not_is : (a : Bool) → not a ≡ true → a ≡ false
not_is true e = absurd cc
not_is false e = refl

pub same_is : (m n : ℕ) → (m == n) ≡ true → m ≡ n
same_is m n e = grind (arith, nat_tests)

pub within_is : (from list : List ℕ) (to : Bound) → is_within from to list ≡ true → IsWithin from to list
within_is from list to e =
    let both = and_is (not (is_before list from)) (is_below list to) e in
    record { not_below = not_before_is list from (not_is (is_before list from) both.0); below = (below_is list to).0 both.1 }

pub where_is : {A : Type 0} (test : Bool) (value other : A) → where_true test value ≡ Some other → (test ≡ true) × (value ≡ other)
where_is true value other e = (refl, cc)
where_is false value other e = absurd cc

-- what is above best stays above best where it moves up
pub above_more : (best : Option (List ℕ)) (low high : List ℕ) → is_above best low ≡ true → Precedes low high → is_above best high ≡ true
above_more None low high e p = absurd cc
above_more (Some path) low high e p = (before_is path high).1 (transitive path low high ((before_is path low).0 e) p)

-- two tests that are true of the same are the same
same_tests : (p q : Bool) (A B : Type 0) → (p ≡ true) ↔ A → (q ≡ true) ↔ B → (A → B) → (B → A) → p ≡ q
same_tests true true A B f g to back = refl
same_tests false false A B f g to back = refl
same_tests true false A B f g to back = sym (g.1 (to (f.0 refl)))
same_tests false true A B f g to back = f.1 (back (g.0 refl))

-- what a comparison tells
pub order_tells : (r : Ordering) (a b : List ℕ) → IsOrderOf r a b → is_lt r ≡ is_before a b
order_tells r a b is = same_tests (is_lt r) (is_before a b) (Precedes a b) (Precedes a b) (less_precedes r a b is) (before_is a b) (λ p. p) (λ p. p)

pub order_equal : (r : Ordering) (a b : List ℕ) → IsOrderOf r a b → (is_eq r ≡ true) ↔ (a ≡ b)
order_equal Less a b is = (λ e. absurd cc, λ same. absurd (irreflexive b (subst (λ (l : List ℕ). Precedes l b) same is)))
order_equal Equal a b is = (λ e. is, λ same. refl)
order_equal Greater a b is = (λ e. absurd cc, λ same. absurd (irreflexive b (subst (λ (l : List ℕ). Precedes b l) same is)))

-- a row that is returned stays whole, or is parted
pub whole_is : (above beyond : Bool) → (above || not beyond) ≡ true → (above ≡ true) ⊎ (beyond ≡ false)
whole_is true beyond e = inl refl
whole_is false beyond e = inr (not_is beyond e)

pub parted_is : (above beyond : Bool) → (above || not beyond) ≡ false → (above ≡ false) × (beyond ≡ true)
parted_is true beyond e = absurd cc
parted_is false true e = (refl, refl)
parted_is false false e = absurd cc
