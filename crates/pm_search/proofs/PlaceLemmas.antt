-- Which attempts are below a place, as the search goes from place to place.
use Rattle.std.proofs.Common.{◌≡◌, ℕ, ◌+◌, ◌<◌, ◌≤◌, ◌∙◌, List, [], ◌∷◌, ◌++◌, refl, sym, subst, arith, inl, inr, append_assoc}
use Rattle.pm_space.specs.Key.{Key, IsKey}
use Rattle.pm_choice.specs.declared.Bound.{Bound}
use Rattle.pm_choice.specs.declared.Bound.TheVariants.{At, End}
use Rattle.pm_choice.specs.Order.{Precedes, PrecedesBound}
use Rattle.pm_choice.proofs.OrderLemmas.{transitive, prefix_precedes, not_below}
use Rattle.pm_search.specs.Inside.Places.{SameBelow, OneMoreBelow, NoneLeft}
use Rattle.pm_search.proofs.ListOrder.{beside, below_first, below_next}
use Rattle.pm_search.proofs.AttemptLemmas.{prefix_of_attempt}

pub same_below_trans : (key : Key) (a b c : List ℕ) → SameBelow key a b → SameBelow key b c → SameBelow key a c
same_below_trans key a b c ab bc list attempt =
    (λ p. (bc list attempt).0 ((ab list attempt).0 p), λ p. (ab list attempt).1 ((bc list attempt).1 p))

-- the first place after a list that was reached
pub more_after : (key : Key) (list : List ℕ) → OneMoreBelow key list (list ++ 0 ∷ [])
more_after key tried list attempt = (
  λ p. below_first tried list p,
  λ either. elim either [
    | inl p ↦ transitive list tried (tried ++ 0 ∷ []) p (prefix_precedes tried 0 [])
    | inr same ↦ subst (λ (l : List ℕ). Precedes l (tried ++ 0 ∷ [])) (sym same) (prefix_precedes tried 0 [])
  ],
)

-- the next place beside a list that wasn't reached
pub more_beside : (key : Key) (laws : IsKey key) (path : List ℕ) (choice : ℕ) → (¬ key.reached (path ++ choice ∷ [])) → OneMoreBelow key (path ++ choice ∷ []) (path ++ (choice + 1) ∷ [])
more_beside key laws path choice missed list attempt =
    let next : Precedes (path ++ choice ∷ []) (path ++ (choice + 1) ∷ []) = beside path choice (choice + 1) [] [] (omega arith) in (
      λ p. elim (below_next path choice list p) [
        | inl either ↦ either
        | inr on ↦ absurd (missed (prefix_of_attempt key laws list attempt (path ++ choice ∷ []) on.choice on.rest on.is).reached)
      ],
      λ either. elim either [
        | inl p ↦ transitive list (path ++ choice ∷ []) (path ++ (choice + 1) ∷ []) p next
        | inr same ↦ subst (λ (l : List ℕ). Precedes l (path ++ (choice + 1) ∷ [])) (sym same) next
      ],
    )

-- the place above one whose choice isn't an alternative
pub same_above : (key : Key) (laws : IsKey key) (path : List ℕ) (choice more : ℕ) → key.width (path ++ choice ∷ []) ≤ more
    → SameBelow key ((path ++ choice ∷ []) ++ more ∷ []) (path ++ (choice + 1) ∷ [])
same_above key laws path choice more none list attempt =
    let next : Precedes ((path ++ choice ∷ []) ++ more ∷ []) (path ++ (choice + 1) ∷ []) =
    subst (λ (l : List ℕ). Precedes l (path ++ (choice + 1) ∷ [])) (sym (append_assoc path (choice ∷ []) (more ∷ []))) (beside path choice (choice + 1) (more ∷ []) [] (omega arith)) in
    let begins : Precedes (path ++ choice ∷ []) ((path ++ choice ∷ []) ++ more ∷ []) = prefix_precedes (path ++ choice ∷ []) more [] in (
      λ p. transitive list ((path ++ choice ∷ []) ++ more ∷ []) (path ++ (choice + 1) ∷ []) p next,
      λ p. elim (below_next path choice list p) [
        | inl (inl q) ↦ transitive list (path ++ choice ∷ []) ((path ++ choice ∷ []) ++ more ∷ []) q begins
        | inl (inr same) ↦ subst (λ (l : List ℕ). Precedes l ((path ++ choice ∷ []) ++ more ∷ [])) (sym same) begins
        | inr on ↦
            let below : on.choice < key.width (path ++ choice ∷ []) = (prefix_of_attempt key laws list attempt (path ++ choice ∷ []) on.choice on.rest on.is).below in
            subst (λ (l : List ℕ). Precedes l ((path ++ choice ∷ []) ++ more ∷ [])) (sym on.is) (beside (path ++ choice ∷ []) on.choice more on.rest [] (omega arith))
      ],
    )

-- at the top no attempt is left after a choice that isn't an alternative
pub none_at_top : (key : Key) (laws : IsKey key) (choice : ℕ) → key.width [] ≤ choice → NoneLeft key (choice ∷ []) End
none_at_top key laws choice none [] attempt below = tt
none_at_top key laws choice none (x ∷ xs) attempt below =
    let less : x < key.width [] = (prefix_of_attempt key laws (x ∷ xs) attempt [] x xs refl).below in
    inl (omega arith)

-- a list that goes on by no alternative has the same attempts below it as the place where it does
pub same_where_it_ends : (key : Key) (laws : IsKey key) (path : List ℕ) (choice more : ℕ) (rest : List ℕ) → key.width path ≤ choice
    → SameBelow key (path ++ choice ∷ more ∷ rest) (path ++ choice ∷ [])
same_where_it_ends key laws path choice more rest none list attempt =
    let longer : Precedes (path ++ choice ∷ []) (path ++ choice ∷ more ∷ rest) =
    subst (λ (l : List ℕ). Precedes (path ++ choice ∷ []) l) (append_assoc path (choice ∷ []) (more ∷ rest)) (prefix_precedes (path ++ choice ∷ []) more rest) in
    let next : Precedes (path ++ choice ∷ more ∷ rest) (path ++ (choice + 1) ∷ []) = beside path choice (choice + 1) (more ∷ rest) [] (omega arith) in (
      λ p. elim (below_next path choice list (transitive list (path ++ choice ∷ more ∷ rest) (path ++ (choice + 1) ∷ []) p next)) [
        | inl (inl q) ↦ q
        | inl (inr same) ↦
            let below : choice < key.width path = (prefix_of_attempt key laws list attempt path choice [] same).below in
            absurd (omega arith)
        | inr on ↦
            let below : choice < key.width path =
            (prefix_of_attempt key laws list attempt path choice (on.choice ∷ on.rest) (on.is ∙ append_assoc path (choice ∷ []) (on.choice ∷ on.rest))).below in
            absurd (omega arith)
      ],
      λ p. transitive list (path ++ choice ∷ []) (path ++ choice ∷ more ∷ rest) p longer,
    )

-- a list that goes on from one that isn't reached has the same attempts below it as the place beside
pub same_where_it_misses : (key : Key) (laws : IsKey key) (path : List ℕ) (choice more : ℕ) (rest : List ℕ) → (¬ key.reached (path ++ choice ∷ []))
    → SameBelow key (path ++ choice ∷ more ∷ rest) (path ++ (choice + 1) ∷ [])
same_where_it_misses key laws path choice more rest missed list attempt =
    let longer : Precedes (path ++ choice ∷ []) (path ++ choice ∷ more ∷ rest) =
    subst (λ (l : List ℕ). Precedes (path ++ choice ∷ []) l) (append_assoc path (choice ∷ []) (more ∷ rest)) (prefix_precedes (path ++ choice ∷ []) more rest) in
    let next : Precedes (path ++ choice ∷ more ∷ rest) (path ++ (choice + 1) ∷ []) = beside path choice (choice + 1) (more ∷ rest) [] (omega arith) in (
      λ p. transitive list (path ++ choice ∷ more ∷ rest) (path ++ (choice + 1) ∷ []) p next,
      λ p. elim (below_next path choice list p) [
        | inl (inl q) ↦ transitive list (path ++ choice ∷ []) (path ++ choice ∷ more ∷ rest) q longer
        | inl (inr same) ↦ subst (λ (l : List ℕ). Precedes l (path ++ choice ∷ more ∷ rest)) (sym same) longer
        | inr on ↦ absurd (missed (prefix_of_attempt key laws list attempt (path ++ choice ∷ []) on.choice on.rest on.is).reached)
      ],
    )

-- an empty list has as many attempts below it as the first place
pub same_at_start : (key : Key) → SameBelow key [] (0 ∷ [])
same_at_start key [] attempt = (λ p. absurd p, λ p. absurd (empty_attempt attempt.path attempt.choice attempt.parts))
  where
    empty_attempt : (path : List ℕ) (choice : ℕ) → [] ≡ path ++ choice ∷ [] → ⊥
    empty_attempt [] choice same = cc
    empty_attempt (x ∷ xs) choice same = cc
same_at_start key (x ∷ xs) attempt = (
  λ p. absurd p,
  λ p. elim p [ inl lt ↦ absurd (omega arith) | inr q ↦ absurd q.1 ],
)

-- where a place isn't below the bound, no attempt below the bound is left
pub none_below : (key : Key) (place : List ℕ) (to : Bound) → (¬ PrecedesBound place to) → NoneLeft key place to
none_below key place End beyond list attempt below = absurd (beyond tt)
none_below key place (At bound) beyond list attempt below =
    elim (not_below place bound beyond) [
      | inl same ↦ subst (λ (l : List ℕ). Precedes list l) (sym same) below
      | inr p ↦ transitive list bound place below p
    ]
