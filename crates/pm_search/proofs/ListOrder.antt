-- Where a list stands in the order beside a list that goes on from another.
use Rattle.std.proofs.Common.{◌≡◌, ℕ, ◌+◌, ◌<◌, ◌⊎◌, List, [], ◌∷◌, ◌++◌, refl, ap, arith, inl, inr}
use Rattle.std.proofs.lemmas.Bool.{cases_order}
use Rattle.pm_choice.specs.Order.{Precedes}
use Rattle.pm_choice.proofs.OrderLemmas.{transitive}

-- a lower choice beside a choice comes first, whatever follows either
pub beside : (path : List ℕ) (a b : ℕ) (as' bs : List ℕ) → a < b → Precedes (path ++ a ∷ as') (path ++ b ∷ bs)
beside [] a b as' bs lt = inl lt
beside (x ∷ path) a b as' bs lt = inr (refl, beside path a b as' bs lt)

-- a list followed by the choice 0 comes right after the list
pub below_first : (path list : List ℕ) → Precedes list (path ++ 0 ∷ []) → Precedes list path ⊎ (list ≡ path)
below_first [] [] p = inr refl
below_first [] (x ∷ xs) (inl lt) = absurd (omega arith)
below_first [] (x ∷ xs) (inr p) = absurd p.1
below_first (y ∷ path) [] p = inl tt
below_first (y ∷ path) (x ∷ xs) (inl lt) = inl (inl lt)
below_first (y ∷ path) (x ∷ xs) (inr p) =
    elim (below_first path xs p.1) [ inl q ↦ inl (inr (p.0, q)) | inr same ↦ inr (let head = p.0 in cc) ]

-- the list goes on from another
pub record GoesOn (path list : List ℕ) : Type 0 where
  pub choice : ℕ
  pub rest : List ℕ
  pub is : list ≡ path ++ choice ∷ rest

at_choice : (choice x : ℕ) (xs : List ℕ) → x ≡ choice → (Precedes (x ∷ xs) (choice ∷ []) ⊎ (x ∷ xs ≡ choice ∷ [])) ⊎ GoesOn (choice ∷ []) (x ∷ xs)
at_choice choice x [] same = inl (inr cc)
at_choice choice x (more ∷ rest) same = inr (record { choice = more; rest = rest; is = cc })

longer : (x y : ℕ) (path list : List ℕ) → x ≡ y → GoesOn path list → GoesOn (y ∷ path) (x ∷ list)
longer x y path list same on =
    let is : list ≡ path ++ on.choice ∷ on.rest = on.is in
    record { choice = on.choice; rest = on.rest; is = cc }

-- what comes before the next choice comes before the choice, is it, or goes on from it
pub below_next : (path : List ℕ) (choice : ℕ) (list : List ℕ) → Precedes list (path ++ (choice + 1) ∷ [])
    → (Precedes list (path ++ choice ∷ []) ⊎ (list ≡ path ++ choice ∷ [])) ⊎ GoesOn (path ++ choice ∷ []) list
below_next [] choice [] p = inl (inl tt)
below_next [] choice (x ∷ xs) (inl lt) =
    elim (cases_order x choice) [
      | inl same ↦ at_choice choice x xs same
      | inr (inl less) ↦ inl (inl (inl less))
      | inr (inr more) ↦ absurd (omega arith)
    ]
below_next [] choice (x ∷ xs) (inr p) = absurd p.1
below_next (y ∷ path) choice [] p = inl (inl tt)
below_next (y ∷ path) choice (x ∷ xs) (inl lt) = inl (inl (inl lt))
below_next (y ∷ path) choice (x ∷ xs) (inr p) =
    elim (below_next path choice xs p.1) [
      | inl (inl q) ↦ inl (inl (inr (p.0, q)))
      | inl (inr same) ↦ inl (inr (let head = p.0 in cc))
      | inr on ↦ inr (longer x y (path ++ choice ∷ []) xs p.0 on)
    ]

-- a list that isn't empty is another followed by a last number
pub split_end : (x : ℕ) (xs : List ℕ) → (front : List ℕ) × (last : ℕ) × (x ∷ xs ≡ front ++ last ∷ [])
split_end x [] = ([], x, refl)
split_end x (y ∷ ys) = let rest = split_end y ys in (x ∷ rest.0, rest.1, ap (λ (l : List ℕ). x ∷ l) rest.2)

-- what isn't below a list isn't below what the list isn't below
pub not_below_trans : (a b list : List ℕ) → (¬ Precedes b a) → Precedes b list → ¬ Precedes list a
not_below_trans a b list above below p = above (transitive b list a below p)
