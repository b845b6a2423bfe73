-- Lists of variables by their numbers, and terms with numbers in the place of variables.
use Rattle.std.proofs.Common.{◌≡◌, ℕ, zero, suc, ◌<◌, ◌⊎◌, inl, inr, List, [], ◌∷◌, ◌++◌, length, map, refl, sym, ◌∙◌, ap, ap₂, arith}
use Rattle.std.specs.Prelude.{Contains, slice_index_or}
use Rattle.std.proofs.lemmas.Bool.{cases_eq}
use Rattle.std.proofs.lemmas.List.{get_or-map}
use Rattle.pm_logic.specs.Term.{Term, var, app, Terms, no_terms, more_terms}
use Rattle.pm_logic.specs.Filling.{fill, fill_among, put, term_for}
use Rattle.pm_store.specs.Trees.{Occurs, OccursAmong}
use Rattle.pm_store.specs.Resolved.{with_variable, with_variables, with_variables_among, number_of, numbered}
use Rattle.pm_store.proofs.ListLemmas.{if_same, if_other}

-- what is in a list is its first item or in the rest
pub Contains-cases : (w v : ℕ) (ws : List ℕ) → Contains (w ∷ ws) v → (w ≡ v) ⊎ Contains ws v
Contains-cases w v ws (zero, lt, is) = inl is
Contains-cases w v ws (suc n, lt, is) = inr (n, omega (arith, lt), is)

pub Contains-later : (w v : ℕ) (ws : List ℕ) → Contains ws v → Contains (w ∷ ws) v
Contains-later w v ws (n, lt, is) = (suc n, omega (arith, lt), is)

pub Contains-first : (w v : ℕ) (ws : List ℕ) → w ≡ v → Contains (w ∷ ws) v
Contains-first w v ws is = (zero, omega arith, is)

pub Contains-none : (v : ℕ) → Contains [] v → ⊥
Contains-none v (n, lt, is) = omega (arith, lt)

-- a variable that has a number gets no other
pub with_variable-known : (vs : List ℕ) (v : ℕ) → Contains vs v → with_variable vs v ≡ vs
with_variable-known [] v has = absurd (Contains-none v has)
with_variable-known (w ∷ ws) v has =
    elim (cases_eq w v) [
      | inl e ↦ if_same w v (w ∷ ws) (w ∷ with_variable ws v) e
      | inr ne ↦ if_other w v (w ∷ ws) (w ∷ with_variable ws v) ne
          ∙ elim (Contains-cases w v ws has) [ inl e ↦ absurd (ne e) | inr later ↦ ap (λ us. w ∷ us) (with_variable-known ws v later) ]
    ]

pub with_variable-new : (vs : List ℕ) (v : ℕ) → ¬ Contains vs v → with_variable vs v ≡ vs ++ v ∷ []
with_variable-new [] v absent = refl
with_variable-new (w ∷ ws) v absent =
    if_other w v (w ∷ ws) (w ∷ with_variable ws v) (λ e. absent (Contains-first w v ws e))
    ∙ ap (λ us. w ∷ us) (with_variable-new ws v (λ has. absent (Contains-later w v ws has)))

mutual
  pub with_variables-known : (vs : List ℕ) (t : Term) → ((v : ℕ) → Occurs v t → Contains vs v) → with_variables vs t ≡ vs
  with_variables-known vs (var v) known = with_variable-known vs v (known v refl)
  with_variables-known vs (app symbol args) known = with_variables_among-known vs args known

  with_variables_among-known : (vs : List ℕ) (ts : Terms) → ((v : ℕ) → OccursAmong v ts → Contains vs v) → with_variables_among vs ts ≡ vs
  with_variables_among-known vs no_terms known = refl
  with_variables_among-known vs (more_terms t ts) known =
      ap (λ us. with_variables_among us ts) (with_variables-known vs t (λ v here. known v (inl here)))
      ∙ with_variables_among-known vs ts (λ v later. known v (inr later))

-- a variable's number stays when the list grows
pub number_of-kept : (vs more : List ℕ) (v : ℕ) → Contains vs v → number_of (vs ++ more) v ≡ number_of vs v
number_of-kept [] more v has = absurd (Contains-none v has)
number_of-kept (w ∷ ws) more v has =
    elim (cases_eq w v) [
      | inl e ↦ if_same w v 0 (suc (number_of (ws ++ more) v)) e ∙ sym (if_same w v 0 (suc (number_of ws v)) e)
      | inr ne ↦ if_other w v 0 (suc (number_of (ws ++ more) v)) ne
          ∙ elim (Contains-cases w v ws has) [ inl e ↦ absurd (ne e) | inr later ↦ ap suc (number_of-kept ws more v later) ]
          ∙ sym (if_other w v 0 (suc (number_of ws v)) ne)
    ]

-- a new variable has the next number
pub number_of-new : (vs : List ℕ) (v : ℕ) → ¬ Contains vs v → number_of (vs ++ v ∷ []) v ≡ length vs
number_of-new [] v absent = if_same v v 0 1 refl
number_of-new (w ∷ ws) v absent =
    if_other w v 0 (suc (number_of (ws ++ v ∷ []) v)) (λ e. absent (Contains-first w v ws e))
    ∙ ap suc (number_of-new ws v (λ has. absent (Contains-later w v ws has)))

-- the variable of a number
pub number_stands : (vs : List ℕ) (v : ℕ) → Contains vs v → slice_index_or vs (number_of vs v) 0 ≡ v
number_stands [] v has = absurd (Contains-none v has)
number_stands (w ∷ ws) v has =
    elim (cases_eq w v) [
      | inl e ↦ ap (λ n. slice_index_or (w ∷ ws) n 0) (if_same w v 0 (suc (number_of ws v)) e) ∙ e
      | inr ne ↦ ap (λ n. slice_index_or (w ∷ ws) n 0) (if_other w v 0 (suc (number_of ws v)) ne)
          ∙ elim (Contains-cases w v ws has) [ inl e ↦ absurd (ne e) | inr later ↦ number_stands ws v later ]
    ]

-- trees that agree on the variables of a term fill it alike
mutual
  pub fill-agree : (f g : ℕ → Term) (t : Term) → ((v : ℕ) → Occurs v t → f v ≡ g v) → fill f t ≡ fill g t
  fill-agree f g (var v) agree = agree v refl
  fill-agree f g (app symbol args) agree = ap (app symbol) (fill_among-agree f g args agree)

  fill_among-agree : (f g : ℕ → Term) (ts : Terms) → ((v : ℕ) → OccursAmong v ts → f v ≡ g v) → fill_among f ts ≡ fill_among g ts
  fill_among-agree f g no_terms agree = refl
  fill_among-agree f g (more_terms t ts) agree =
      ap₂ more_terms (fill-agree f g t (λ v here. agree v (inl here))) (fill_among-agree f g ts (λ v later. agree v (inr later)))

pub number_below : (vs : List ℕ) (v : ℕ) → Contains vs v → number_of vs v < length vs
number_below [] v has = absurd (Contains-none v has)
number_below (w ∷ ws) v has =
    elim (cases_eq w v) [
      | inl e ↦ let first = if_same w v 0 (suc (number_of ws v)) e in omega (arith, first)
      | inr ne ↦ let later = if_other w v 0 (suc (number_of ws v)) ne in
          elim (Contains-cases w v ws has) [ inl e ↦ absurd (ne e) | inr rest ↦ omega (arith, later, number_below ws v rest) ]
    ]

-- a term whose variables have numbers is filled by the list of the trees of the numbered variables
mutual
  pub put-numbered : (vs : List ℕ) (trees : ℕ → Term) (t : Term) → ((v : ℕ) → Occurs v t → Contains vs v)
      → put (map trees vs) (fill (numbered vs) t) ≡ fill trees t
  put-numbered vs trees (var v) known =
      let has : Contains vs v = known v refl in
      get_or-map trees vs (number_of vs v) 0 (var (number_of vs v)) (number_below vs v has) ∙ ap trees (number_stands vs v has)
  put-numbered vs trees (app symbol args) known = ap (app symbol) (put_among-numbered vs trees args known)

  put_among-numbered : (vs : List ℕ) (trees : ℕ → Term) (ts : Terms) → ((v : ℕ) → OccursAmong v ts → Contains vs v)
      → fill_among (term_for (map trees vs)) (fill_among (numbered vs) ts) ≡ fill_among trees ts
  put_among-numbered vs trees no_terms known = refl
  put_among-numbered vs trees (more_terms t ts) known =
      ap₂ more_terms (put-numbered vs trees t (λ v here. known v (inl here))) (put_among-numbered vs trees ts (λ v later. known v (inr later)))
