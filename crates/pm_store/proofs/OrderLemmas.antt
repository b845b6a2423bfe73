-- A resolver numbers variables by first occurrence.
use Rattle.std.proofs.Common.{◌≡◌, ℕ, suc, ◌<◌, ◌⊎◌, inl, inr, List, [], ◌∷◌, ◌++◌, length, refl, sym, ◌∙◌, ap, ap₂, subst, map, arith}
use Rattle.std.specs.Prelude.{Contains}
use Rattle.std.specs.List.{fold, flat_map}
use Rattle.std.proofs.lemmas.Bool.{cases_eq}
use Rattle.std.proofs.lemmas.List.Elements.{Contains-push}
use Rattle.std.proofs.lemmas.List.{append-nil, append_assoc, length-append, map-append}
use Rattle.pm_logic.specs.Term.{Term, var, app, Terms, no_terms, more_terms}
use Rattle.pm_logic.specs.Variables.{variables, variables_among, AreNumberedFrom}
use Rattle.pm_logic.specs.Filling.{fill, fill_among}
use Rattle.pm_store.specs.Resolved.{with_variable, with_variables, with_variables_among, number_of, numbered}
use Rattle.pm_store.proofs.ListLemmas.{if_same, if_other}
use Rattle.pm_store.proofs.NumberLemmas.{Contains-cases, Contains-later, Contains-first, Contains-none, with_variable-known, with_variable-new, number_of-kept, number_of-new}

-- the variables, and then the new ones of the others, each at its first occurrence
abbrev with_new : List ℕ → List ℕ → List ℕ
with_new = fold with_variable

with_new-append : (vs xs ys : List ℕ) → with_new vs (xs ++ ys) ≡ with_new (with_new vs xs) ys
with_new-append vs [] ys = refl
with_new-append vs (x ∷ xs) ys = with_new-append (with_variable vs x) xs ys

-- a term's new variables are those of the list of its variables
mutual
  with_variables-listed : (vs : List ℕ) (t : Term) → with_variables vs t ≡ with_new vs (variables t)
  with_variables-listed vs (var n) = refl
  with_variables-listed vs (app symbol args) = with_variables_among-listed vs args

  with_variables_among-listed : (vs : List ℕ) (ts : Terms) → with_variables_among vs ts ≡ with_new vs (variables_among ts)
  with_variables_among-listed vs no_terms = refl
  with_variables_among-listed vs (more_terms t ts) =
      with_variables_among-listed (with_variables vs t) ts
      ∙ ap (λ us. with_new us (variables_among ts)) (with_variables-listed vs t)
      ∙ sym (with_new-append vs (variables t) (variables_among ts))

all-listed : (vs : List ℕ) (ts : List Term) → fold with_variables vs ts ≡ with_new vs (flat_map variables ts)
all-listed vs [] = refl
all-listed vs (t ∷ ts) =
    all-listed (with_variables vs t) ts
    ∙ ap (λ us. with_new us (flat_map variables ts)) (with_variables-listed vs t)
    ∙ sym (with_new-append vs (variables t) (flat_map variables ts))

-- the variables of a term with numbers in their place are the numbers of its variables
mutual
  variables-numbered : (vs : List ℕ) (t : Term) → variables (fill (numbered vs) t) ≡ map (number_of vs) (variables t)
  variables-numbered vs (var n) = refl
  variables-numbered vs (app symbol args) = variables_among-numbered vs args

  variables_among-numbered : (vs : List ℕ) (ts : Terms) → variables_among (fill_among (numbered vs) ts) ≡ map (number_of vs) (variables_among ts)
  variables_among-numbered vs no_terms = refl
  variables_among-numbered vs (more_terms t ts) =
      ap₂ (λ xs ys. xs ++ ys) (variables-numbered vs t) (variables_among-numbered vs ts)
      ∙ sym (map-append (number_of vs) (variables t) (variables_among ts))

all-numbered : (vs : List ℕ) (ts : List Term) → flat_map variables (map (fill (numbered vs)) ts) ≡ map (number_of vs) (flat_map variables ts)
all-numbered vs [] = refl
all-numbered vs (t ∷ ts) =
    ap₂ (λ xs ys. xs ++ ys) (variables-numbered vs t) (all-numbered vs ts)
    ∙ sym (map-append (number_of vs) (variables t) (flat_map variables ts))

known_or_new : (vs : List ℕ) (v : ℕ) → Contains vs v ⊎ (¬ Contains vs v)
known_or_new [] v = inr (Contains-none v)
known_or_new (w ∷ ws) v =
    elim (cases_eq w v) [
      | inl e ↦ inl (Contains-first w v ws e)
      | inr ne ↦ elim (known_or_new ws v) [
        | inl later ↦ inl (Contains-later w v ws later)
        | inr absent ↦ inr (λ has. elim (Contains-cases w v ws has) [ inl e ↦ ne e | inr later ↦ absent later ])
      ]
    ]

-- the number of a variable is below the count of variables
number_of-below : (vs : List ℕ) (v : ℕ) → Contains vs v → number_of vs v < length vs
number_of-below [] v has = absurd (Contains-none v has)
number_of-below (w ∷ ws) v has =
    elim (cases_eq w v) [
      | inl e ↦ (let is = if_same w v 0 (suc (number_of ws v)) e in omega (arith, is))
      | inr ne ↦ (let is = if_other w v 0 (suc (number_of ws v)) ne in
          elim (Contains-cases w v ws has) [
            | inl e ↦ absurd (ne e)
            | inr later ↦ (let less = number_of-below ws v later in omega (arith, is, less))
          ])
    ]

-- the variables stay, and others come behind them
with_new-behind : (vs xs : List ℕ) → (more : List ℕ) × (with_new vs xs ≡ vs ++ more)
with_new-behind vs [] = ([], sym (append-nil vs))
with_new-behind vs (x ∷ xs) =
    elim (known_or_new vs x) [
      | inl known ↦ subst (λ us. (more : List ℕ) × (with_new us xs ≡ vs ++ more)) (sym (with_variable-known vs x known)) (with_new-behind vs xs)
      | inr new ↦ subst (λ us. (more : List ℕ) × (with_new us xs ≡ vs ++ more)) (sym (with_variable-new vs x new))
          (let (more, is) = with_new-behind (vs ++ x ∷ []) xs in (x ∷ more, is ∙ append_assoc vs (x ∷ []) more))
    ]

-- of variables in order the numbers are by first occurrence
numbers-in_order : (vs xs : List ℕ) → AreNumberedFrom (length vs) (map (number_of (with_new vs xs)) xs)
numbers-in_order vs [] = tt
numbers-in_order vs (x ∷ xs) =
    elim (known_or_new vs x) [
      | inl known ↦
          subst (λ us. AreNumberedFrom (length vs) (map (number_of (with_new us xs)) (x ∷ xs))) (sym (with_variable-known vs x known))
          (let (more, is) = with_new-behind vs xs in
          let same = ap (λ us. number_of us x) is ∙ number_of-kept vs more x known in
          let below = number_of-below vs x known in
          inl (omega (arith, same, below), numbers-in_order vs xs))
      | inr new ↦
          subst (λ us. AreNumberedFrom (length vs) (map (number_of (with_new us xs)) (x ∷ xs))) (sym (with_variable-new vs x new))
          (let us = vs ++ x ∷ [] in
          let (more, is) = with_new-behind us xs in
          let same = ap (λ ws. number_of ws x) is ∙ number_of-kept us more x (Contains-push vs x) ∙ number_of-new vs x new in
          inr (same, subst (λ n. AreNumberedFrom n (map (number_of (with_new us xs)) xs)) (length-append vs (x ∷ [])) (numbers-in_order us xs)))
    ]

pub numbered_by_first_occurrence : (vs : List ℕ) (ts : List Term) → AreNumberedFrom (length vs) (flat_map variables (map (fill (numbered (fold with_variables vs ts))) ts))
numbered_by_first_occurrence vs ts =
    subst (AreNumberedFrom (length vs))
    (sym (all-numbered (fold with_variables vs ts) ts ∙ ap (λ ws. map (number_of ws) (flat_map variables ts)) (all-listed vs ts)))
    (numbers-in_order vs (flat_map variables ts))
