-- The order of choice lists is a strict total one, and intervals join.
use Rattle.std.proofs.Common.{◌≡◌, ℕ, ◌<◌, ◌⊎◌, ◌∙◌, Bool, true, List, [], ◌∷◌, refl, sym, subst, arith, inl, inr}
use Rattle.std.specs.Prelude.{◌↔◌}
use Rattle.std.proofs.lemmas.Bool.{cases_order}
use Rattle.std.specs.declared.cmp.Ordering.{Ordering}
use Rattle.std.specs.declared.cmp.Ordering.TheVariants.{Less, Equal, Greater}
use Rattle.std.specs.Ordering.{nat_cmp, ordering_then, is_lt, is_eq}
use Rattle.std.specs.Cmp.{nat_cmp_is}
use Rattle.std.specs.Cmp.Lexicographic.{slice_cmp}
use Rattle.pm_choice.specs.declared.Bound.{Bound}
use Rattle.pm_choice.specs.declared.Bound.TheVariants.{At, End}
use Rattle.pm_choice.specs.Order.{IsOrderOf, Precedes, PrecedesBound, IsStrictTotalOrder, PrefixesPrecede, IntervalsJoin}

pub irreflexive : (list : List ℕ) → ¬ Precedes list list
irreflexive [] p = p
irreflexive (x ∷ xs) (inl lt) = absurd (omega arith)
irreflexive (x ∷ xs) (inr p) = irreflexive xs p.1

pub transitive : (a b c : List ℕ) → Precedes a b → Precedes b c → Precedes a c
transitive a [] c p q = absurd p
transitive a (y ∷ ys) [] p q = q
transitive [] (y ∷ ys) (z ∷ zs) p q = tt
transitive (x ∷ xs) (y ∷ ys) (z ∷ zs) (inl lt) (inl lt') = inl (omega arith)
transitive (x ∷ xs) (y ∷ ys) (z ∷ zs) (inl lt) (inr q) = inl (omega (arith, q.0))
transitive (x ∷ xs) (y ∷ ys) (z ∷ zs) (inr p) (inl lt) = inl (omega (arith, p.0))
transitive (x ∷ xs) (y ∷ ys) (z ∷ zs) (inr p) (inr q) = inr (omega (arith, p.0, q.0), transitive xs ys zs p.1 q.1)

pub total : (a b : List ℕ) → (Precedes a b ⊎ (a ≡ b)) ⊎ Precedes b a
total [] [] = inl (inr refl)
total [] (y ∷ ys) = inl (inl tt)
total (x ∷ xs) [] = inr tt
total (x ∷ xs) (y ∷ ys) =
    elim (cases_order x y) [
      | inl same ↦ elim (total xs ys) [
        | inl (inl p) ↦ inl (inl (inr (same, p)))
        | inl (inr e) ↦ inl (inr cc)
        | inr p ↦ inr (inr (sym same, p))
      ]
      | inr (inl lt) ↦ inl (inl (inl lt))
      | inr (inr gt) ↦ inr (inl gt)
    ]

pub prefix_precedes : PrefixesPrecede
prefix_precedes [] choice choices = tt
prefix_precedes (x ∷ xs) choice choices = inr (refl, prefix_precedes xs choice choices)

pub order : IsStrictTotalOrder Precedes
order = record { irreflexive = irreflexive; transitive = transitive; total = total }

-- what isn't below a list is at it or above
pub not_below : (a b : List ℕ) → (¬ Precedes a b) → (a ≡ b) ⊎ Precedes b a
not_below a b not_before =
    elim (total a b) [
      | inl (inl p) ↦ absurd (not_before p)
      | inl (inr e) ↦ inl e
      | inr p ↦ inr p
    ]

-- what precedes a list that precedes a bound precedes the bound
pub below_bound : (a b : List ℕ) (c : Bound) → Precedes a b → PrecedesBound b c → PrecedesBound a c
below_bound a b (At c) p q = transitive a b c p q
below_bound a b End p q = tt

-- a list is below b, or isn't
pub below_or_not : (list b : List ℕ) → Precedes list b ⊎ (¬ Precedes list b)
below_or_not list b =
    elim (total list b) [
      | inl (inl p) ↦ inl p
      | inl (inr e) ↦ inr (λ p. irreflexive b (subst (λ (l : List ℕ). Precedes l b) e p))
      | inr p ↦ inr (λ q. irreflexive b (transitive b list b p q))
    ]

-- what is below a list precedes what isn't
pub across_bound : (b x y : List ℕ) → Precedes x b → (¬ Precedes y b) → Precedes x y
across_bound b x y below above =
    elim (not_below y b above) [
      | inl same ↦ subst (λ (l : List ℕ). Precedes x l) (sym same) below
      | inr after ↦ transitive x b y below after
    ]

-- what isn't below b isn't below what b isn't below
not_below_either : (list a b : List ℕ) → (¬ Precedes b a) → (¬ Precedes list b) → ¬ Precedes list a
not_below_either list a b between above p =
    elim (not_below b a between) [
      | inl e ↦ above (subst (λ (l : List ℕ). Precedes list l) (sym e) p)
      | inr q ↦ above (transitive list a b p q)
    ]

pub intervals : (a b : List ℕ) (c : Bound) → (¬ Precedes b a) → PrecedesBound b c → IntervalsJoin a b c
intervals a b c between below = record {
  whole = λ list. (
    λ within. elim (below_or_not list b) [
      | inl p ↦ inl (record { not_below = within.not_below; below = p })
      | inr above ↦ inr (record { not_below = above; below = within.below })
    ],
    λ parts. elim parts [
      | inl left ↦ record { not_below = left.not_below; below = below_bound list b c left.below below }
      | inr right ↦ record { not_below = not_below_either list a b between right.not_below; below = right.below }
    ],
  );
  apart = λ list left right. right.not_below left.below;
}

abbrev IsNumberOrder : Ordering → ℕ → ℕ → Type 0
IsNumberOrder Less x y = x < y
IsNumberOrder Equal x y = x ≡ y
IsNumberOrder Greater x y = y < x

then_order : (first second : Ordering) (x y : ℕ) (xs ys : List ℕ) → IsNumberOrder first x y → IsOrderOf second xs ys → IsOrderOf (ordering_then first second) (x ∷ xs) (y ∷ ys)
then_order Less second x y xs ys heads tails = inl heads
then_order Greater second x y xs ys heads tails = inl heads
then_order Equal Less x y xs ys heads tails = inr (heads, tails)
then_order Equal Equal x y xs ys heads tails = cc
then_order Equal Greater x y xs ys heads tails = inr (sym heads, tails)

-- the order of two numbers
number_order : (x y : ℕ) → IsNumberOrder (nat_cmp x y) x y
number_order x y =
    elim (cases_order x y) [
      | inl same ↦ subst (λ (r : Ordering). IsNumberOrder r x y) (nat_cmp_is x y Equal same) same
      | inr (inl lt) ↦ subst (λ (r : Ordering). IsNumberOrder r x y) (nat_cmp_is x y Less lt) lt
      | inr (inr gt) ↦ subst (λ (r : Ordering). IsNumberOrder r x y) (nat_cmp_is x y Greater gt) gt
    ]

-- a comparison of lists tells their order
pub compared : (xs ys : List ℕ) → IsOrderOf (slice_cmp nat_cmp xs ys) xs ys
compared [] [] = refl
compared [] (y ∷ ys) = tt
compared (x ∷ xs) [] = tt
compared (x ∷ xs) (y ∷ ys) = then_order (nat_cmp x y) (slice_cmp nat_cmp xs ys) x y xs ys (number_order x y) (compared xs ys)

-- one list precedes the other exactly where the comparison says so
pub less_precedes : (r : Ordering) (a b : List ℕ) → IsOrderOf r a b → (is_lt r ≡ true) ↔ Precedes a b
less_precedes Less a b is = (λ e. is, λ p. refl)
less_precedes Equal a b is = (λ e. absurd cc, λ p. absurd (irreflexive b (subst (λ (l : List ℕ). Precedes l b) is p)))
less_precedes Greater a b is = (λ e. absurd cc, λ p. absurd (irreflexive a (transitive a b a p is)))

-- so of a bound that is a list
pub precedes_at : (r : Ordering) (list end slice : List ℕ) (bound : Bound) (b : Bool) → bound ≡ At end → slice ≡ end → IsOrderOf r list slice → b ≡ is_lt r → (b ≡ true) ↔ PrecedesBound list bound
precedes_at r list end slice bound b bound-is slice-is order told =
    let iff = less_precedes r list end (subst (λ (s : List ℕ). IsOrderOf r list s) slice-is order) in
    (λ e. subst (λ (x : Bound). PrecedesBound list x) (sym bound-is) (iff.0 (sym told ∙ e)), λ p. told ∙ iff.1 (subst (λ (x : Bound). PrecedesBound list x) bound-is p))

-- two lists are one exactly where the comparison says so
pub equal_is_same : (r : Ordering) (a b : List ℕ) → IsOrderOf r a b → (is_eq r ≡ true) ↔ (a ≡ b)
equal_is_same Less a b is = (λ e. absurd cc, λ same. absurd (irreflexive b (subst (λ (l : List ℕ). Precedes l b) same is)))
equal_is_same Equal a b is = (λ e. is, λ same. refl)
equal_is_same Greater a b is = (λ e. absurd cc, λ same. absurd (irreflexive b (subst (λ (l : List ℕ). Precedes b l) same is)))

-- so of two bounds that are lists
pub same_bound : (r : Ordering) (list end slice slice' : List ℕ) (bound other : Bound) (b : Bool) → bound ≡ At list → other ≡ At end → slice ≡ list → slice' ≡ end → IsOrderOf r slice slice' → b ≡ is_eq r → (b ≡ true) ↔ (bound ≡ other)
same_bound r list end slice slice' bound other b bound-is other-is slice-is slice'-is order told =
    let iff = equal_is_same r slice slice' order in (
      λ e. let same : slice ≡ slice' = iff.0 (sym told ∙ e) in cc,
      λ same. let ends : At list ≡ At end = sym bound-is ∙ same ∙ other-is in told ∙ iff.1 cc,
    )
