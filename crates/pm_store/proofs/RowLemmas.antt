-- The rows that a resolver has noted.
use Rattle.std.proofs.Common.{◌≡◌, ℕ, ◌⊎◌, inl, inr, ◌==◌, if◌then◌else◌, List, [], ◌∷◌, ◌++◌, Option, Some, None, refl, sym, ◌∙◌, ap}
use Rattle.std.specs.Map.{lookup}
use Rattle.std.proofs.lemmas.Bool.{cases_eq}
use Rattle.pm_store.specs.Resolved.{row_among}
use Rattle.pm_store.specs.contracts.store.AddrPartialEq.TheImpl as addr_eq
use Rattle.pm_store.proofs.ListLemmas.{if_same, if_other}

-- the row is what a look-up in the map finds
pub row_among-lookup : (es : List (ℕ × ℕ)) (c : ℕ) → lookup ((addr_eq.ghosts).eq c) es ≡ row_among es c
row_among-lookup [] c = refl
row_among-lookup (e ∷ es) c = ap (λ (rest : Option ℕ). if c == e.0 then Some e.1 else rest) (row_among-lookup es c)

-- a cell that has a row keeps it when rows are added
pub row_among-kept : (es more : List (ℕ × ℕ)) (c row : ℕ) → row_among es c ≡ Some row → row_among (es ++ more) c ≡ Some row
row_among-kept [] more c row is = absurd cc
row_among-kept (e ∷ es) more c row is =
    elim (cases_eq c e.0) [
      | inl same ↦ if_same c e.0 (Some e.1) (row_among (es ++ more) c) same ∙ sym (if_same c e.0 (Some e.1) (row_among es c) same) ∙ is
      | inr other ↦ if_other c e.0 (Some e.1) (row_among (es ++ more) c) other
          ∙ row_among-kept es more c row (sym (if_other c e.0 (Some e.1) (row_among es c) other) ∙ is)
    ]

-- a cell without a row gets the one that is added
pub row_among-added : (es : List (ℕ × ℕ)) (c row : ℕ) → row_among es c ≡ None → row_among (es ++ (c, row) ∷ []) c ≡ Some row
row_among-added [] c row none = if_same c c (Some row) None refl
row_among-added (e ∷ es) c row none =
    elim (cases_eq c e.0) [
      | inl same ↦ absurd (found (sym (if_same c e.0 (Some e.1) (row_among es c) same) ∙ none))
      | inr other ↦ if_other c e.0 (Some e.1) (row_among (es ++ (c, row) ∷ []) c) other
          ∙ row_among-added es c row (sym (if_other c e.0 (Some e.1) (row_among es c) other) ∙ none)
    ]
  where
    found : Some e.1 ≡ None → ⊥
    found is = cc

-- a cell's row with one more was there, or is the one that was added
pub row_among-cases : (es : List (ℕ × ℕ)) (d new c row : ℕ) → row_among (es ++ (d, new) ∷ []) c ≡ Some row
    → (row_among es c ≡ Some row) ⊎ ((c ≡ d) × (new ≡ row))
row_among-cases [] d new c row is =
    elim (cases_eq c d) [
      | inl same ↦ inr (same, inside (sym (if_same c d (Some new) None same) ∙ is))
      | inr other ↦ absurd (nothing (sym (if_other c d (Some new) None other) ∙ is))
    ]
  where
    inside : Some new ≡ Some row → new ≡ row
    inside e = cc

    nothing : None ≡ Some row → ⊥
    nothing e = cc
row_among-cases (e ∷ es) d new c row is =
    elim (cases_eq c e.0) [
      | inl same ↦ inl (if_same c e.0 (Some e.1) (row_among es c) same ∙ sym (if_same c e.0 (Some e.1) (row_among (es ++ (d, new) ∷ []) c) same) ∙ is)
      | inr other ↦
          elim (row_among-cases es d new c row (sym (if_other c e.0 (Some e.1) (row_among (es ++ (d, new) ∷ []) c) other) ∙ is)) [
            | inl before ↦ inl (if_other c e.0 (Some e.1) (row_among es c) other ∙ before)
            | inr last ↦ inr last
          ]
    ]

-- other cells' rows stay as they were
pub row_among-other : (es : List (ℕ × ℕ)) (d new c : ℕ) → (c ≡ d → ⊥) → row_among (es ++ (d, new) ∷ []) c ≡ row_among es c
row_among-other [] d new c other = if_other c d (Some new) None other
row_among-other (e ∷ es) d new c other = ap (λ (rest : Option ℕ). if c == e.0 then Some e.1 else rest) (row_among-other es d new c other)
