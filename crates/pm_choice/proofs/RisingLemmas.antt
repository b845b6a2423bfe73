-- Rising lists of choice lists.
use Rattle.std.proofs.Common.{◌≡◌, ℕ, zero, suc, ◌≤◌, ◌⊎◌, ◌∙◌, List, [], ◌∷◌, ◌++◌, length, refl, sym, subst, arith, inl, inr}
use Rattle.std.specs.Prelude.{All, Contains}
use Rattle.std.proofs.lemmas.List.Elements.{All-nil, All-push, All-head, All-tail, All-append, All-contains, Contains-get_or, Contains-append_right, Contains-append_cases}
use Rattle.pm_choice.specs.Order.{Precedes, IsRising}
use Rattle.pm_choice.proofs.OrderLemmas.{irreflexive, transitive}

-- an element of a list is its head or an element of its tail
head_or_tail : (head x : List ℕ) (tail : List (List ℕ)) → Contains (head ∷ tail) x → (head ≡ x) ⊎ Contains tail x
head_or_tail head x tail within =
    elim (Contains-append_cases (head ∷ []) tail x within) [
      | inl (zero, at, is) ↦ inl is
      | inl (suc n, at, is) ↦ absurd (omega arith)
      | inr there ↦ inr there
    ]

head_is : (head : List ℕ) (tail : List (List ℕ)) → Contains (head ∷ tail) head
head_is head tail = (0, omega arith, refl)

tail_is : (head x : List ℕ) (tail : List (List ℕ)) → Contains tail x → Contains (head ∷ tail) x
tail_is head x tail within = Contains-append_right (head ∷ []) tail x within

-- what holds of each element holds of all
pub all_from : (P : List ℕ → Type 0) (all : List (List ℕ)) → ((x : List ℕ) → Contains all x → P x) → All P all
all_from P all each n d within = each _ (Contains-get_or all n d within)

pub rising_push : (all : List (List ℕ)) (last : List ℕ) → IsRising all → All (λ list. Precedes list last) all → IsRising (all ++ last ∷ [])
rising_push [] last rising below = (All-nil (Precedes last), tt)
rising_push (list ∷ lists) last rising below =
    (All-push (Precedes list) lists last rising.0 (All-head (λ l. Precedes l last) list lists below), rising_push lists last rising.1 (All-tail (λ l. Precedes l last) list lists below))

pub rising_append : (xs ys : List (List ℕ)) → IsRising xs → IsRising ys → ((x y : List ℕ) → Contains xs x → Contains ys y → Precedes x y) → IsRising (xs ++ ys)
rising_append [] ys rising rising' across = rising'
rising_append (x ∷ xs) ys rising rising' across = (
  All-append (Precedes x) xs ys rising.0 (all_from (Precedes x) ys (λ y within. across x y (head_is x xs) within)),
  rising_append xs ys rising.1 rising' (λ z y within within'. across z y (tail_is x z xs within) within'),
)

-- two rising lists with the same elements are the same
pub same_rising : (xs ys : List (List ℕ)) → IsRising xs → IsRising ys → ((x : List ℕ) → Contains xs x → Contains ys x) → ((x : List ℕ) → Contains ys x → Contains xs x) → xs ≡ ys
same_rising [] [] rising rising' there back = refl
same_rising [] (y ∷ ys) rising rising' there back = absurd (let none = back y (head_is y ys) in omega (arith, none.1))
same_rising (x ∷ xs) [] rising rising' there back = absurd (let none = there x (head_is x xs) in omega (arith, none.1))
same_rising (x ∷ xs) (y ∷ ys) rising rising' there back =
    let heads : x ≡ y =
    elim (head_or_tail y x ys (there x (head_is x xs))) [
      | inl same ↦ sym same
      | inr later ↦ elim (head_or_tail x y xs (back y (head_is y ys))) [
        | inl same ↦ same
        | inr later' ↦ absurd (irreflexive x (transitive x y x (All-contains (Precedes x) xs y rising.0 later') (All-contains (Precedes y) ys x rising'.0 later)))
      ]
    ] in
    let tails : xs ≡ ys =
    same_rising xs ys rising.1 rising'.1
    (λ z within. elim (head_or_tail y z ys (there z (tail_is x z xs within))) [
      | inl same ↦ absurd (irreflexive z (subst (λ (l : List ℕ). Precedes l z) (heads ∙ same) (All-contains (Precedes x) xs z rising.0 within)))
      | inr later ↦ later
    ])
    (λ z within. elim (head_or_tail x z xs (back z (tail_is y z ys within))) [
      | inl same ↦ absurd (irreflexive z (subst (λ (l : List ℕ). Precedes l z) (sym heads ∙ same) (All-contains (Precedes y) ys z rising'.0 within)))
      | inr later ↦ later
    ]) in
    cc

-- a rising list in another is no longer
pub no_longer : (xs ys : List (List ℕ)) → IsRising xs → IsRising ys → ((l : List ℕ) → Contains xs l → Contains ys l) → length xs ≤ length ys
no_longer [] ys rx ry to = omega arith
no_longer (x ∷ xs) [] rx ry to = absurd (let h = to x (head_is x xs) in omega (arith, h.1))
no_longer (x ∷ xs) (y ∷ ys) rx ry to =
    elim (head_or_tail y x ys (to x (head_is x xs))) [
      | inl same ↦
          let onward : (l : List ℕ) → Contains xs l → Contains ys l = λ l h. elim (head_or_tail y l ys (to l (tail_is x l xs h))) [
            | inl e ↦ absurd (irreflexive x (subst (λ (m : List ℕ). Precedes x m) (sym e ∙ same) (All-contains (Precedes x) xs l rx.0 h)))
            | inr later ↦ later
          ] in
          let rest = no_longer xs ys rx.1 ry.1 onward in omega (arith, rest)
      | inr there ↦
          let before : Precedes y x = All-contains (Precedes y) ys x ry.0 there in
          let onward : (l : List ℕ) → Contains (x ∷ xs) l → Contains ys l = λ l h. elim (head_or_tail y l ys (to l h)) [
            | inl e ↦ elim (head_or_tail x l xs h) [
              | inl first ↦ absurd (irreflexive y (subst (λ (m : List ℕ). Precedes y m) (first ∙ sym e) before))
              | inr more ↦ absurd (irreflexive y (subst (λ (m : List ℕ). Precedes y m) (sym e) (transitive y x l before (All-contains (Precedes x) xs l rx.0 more))))
            ]
            | inr later ↦ later
          ] in
          let rest = no_longer (x ∷ xs) ys rx ry.1 onward in omega (arith, rest)
    ]
