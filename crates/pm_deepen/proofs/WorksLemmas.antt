-- The works of the exhausted levels, one level after another.
use Rattle.std.proofs.Common.{◌≡◌, ℕ, zero, suc, ◌+◌, ◌<◌, ◌≤◌, ◌⊎◌, List, [], ◌∷◌, ◌++◌, length, refl, sym, ap, ◌∙◌, subst, arith, inl, inr}
use Rattle.std.specs.Prelude.{slice_index}
use Rattle.pm_space.specs.Key.{Key}
use Rattle.pm_choice.specs.declared.Bound.TheVariants.{End}
use Rattle.pm_choice.specs.Entries.{Closes, Finds}
use Rattle.pm_search.specs.Attempts.{attempts_of}
use Rattle.pm_search.specs.Work.{Exceeds}
use Rattle.pm_deepen.specs.declared.DeepEnd.TheVariants.{Proof, DepthReached, BudgetOut}
use Rattle.pm_deepen.specs.Answer.{AreExhausted, IsAnswer}

-- a number of a list with one more is one of the list, or the new one
index_push : (xs : List ℕ) (y i : ℕ) → i < length (xs ++ y ∷ [])
    → ((i < length xs) × (slice_index (xs ++ y ∷ []) i ≡ slice_index xs i)) ⊎ ((i ≡ length xs) × (slice_index (xs ++ y ∷ []) i ≡ y))
index_push [] y zero lt = inr (refl, refl)
index_push [] y (suc i) lt = absurd (omega arith)
index_push (x ∷ xs) y zero lt = inl (omega arith, refl)
index_push (x ∷ xs) y (suc i) lt =
    elim (index_push xs y i (omega (arith, lt))) [
      | inl h ↦ inl (omega (arith, h.0), h.1)
      | inr h ↦ inr (omega (arith, h.0), h.1)
    ]

longer_by_one : (xs : List ℕ) (y : ℕ) → length (xs ++ y ∷ []) ≡ length xs + 1
longer_by_one [] y = refl
longer_by_one (x ∷ xs) y = let rest = longer_by_one xs y in omega (arith, rest)

pub one_more : (xs ys : List ℕ) (y count : ℕ) → ys ≡ xs ++ y ∷ [] → length xs ≡ count → length ys ≡ count + 1
one_more xs ys y count is before = ap (λ (l : List ℕ). length l) is ∙ longer_by_one xs y ∙ ap (λ n. n + 1) before

pub none_exhausted : (key_at : ℕ → Key) (budget : ℕ) → AreExhausted key_at budget []
none_exhausted key_at budget = record { closes = λ level lt. absurd (omega arith); within = λ level lt. absurd (omega arith) }

pub one_more_exhausted : (key_at : ℕ → Key) (budget level : ℕ) (works : List ℕ) (work : ℕ) → length works ≡ level → AreExhausted key_at budget works → Closes (attempts_of (key_at level)) [] End work → work ≤ budget
    → AreExhausted key_at budget (works ++ work ∷ [])
one_more_exhausted key_at budget level works work count before closes few = record {
  closes = λ k lt. elim (index_push works work k lt) [
    | inl old ↦ subst (λ (n : ℕ). Closes (attempts_of (key_at k)) [] End n) (sym old.1) (before.closes k old.0)
    | inr new ↦
        let here : level ≡ k = omega (arith, count, new.0) in
        subst (λ (n : ℕ). Closes (attempts_of (key_at k)) [] End n) (sym new.1) (subst (λ (m : ℕ). Closes (attempts_of (key_at m)) [] End work) here closes)
  ];
  within = λ k lt. elim (index_push works work k lt) [
    | inl old ↦ let least = before.within k old.0 in omega (arith, least, old.1)
    | inr new ↦ omega (arith, few, new.1)
  ];
}

pub answers_proof : (key_at : ℕ → Key) (depth budget level : ℕ) (works : List ℕ) (path : List ℕ) (work : ℕ) → length works ≡ level → level ≤ depth → AreExhausted key_at budget works
    → Finds (attempts_of (key_at level)) [] End path work → work ≤ budget → IsAnswer key_at depth budget works (Proof level path work)
answers_proof key_at depth budget level works path work count low before finds few =
    record { few = omega (arith, count, low); exhausted = before; ends = (sym count, low, finds, few) }

pub answers_budget : (key_at : ℕ → Key) (depth budget level : ℕ) (works : List ℕ) → length works ≡ level → level ≤ depth → AreExhausted key_at budget works
    → Exceeds (key_at level) budget → IsAnswer key_at depth budget works (BudgetOut level)
answers_budget key_at depth budget level works count low before over =
    record { few = omega (arith, count, low); exhausted = before; ends = (sym count, low, over) }

pub answers_depth : (key_at : ℕ → Key) (depth budget : ℕ) (works : List ℕ) → length works ≡ depth + 1 → AreExhausted key_at budget works → IsAnswer key_at depth budget works DepthReached
answers_depth key_at depth budget works count before = record { few = omega (arith, count); exhausted = before; ends = count }
