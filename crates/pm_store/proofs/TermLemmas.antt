-- Terms with a term in the place of a variable, and terms with trees for their variables.
use Rattle.std.proofs.Common.{◌≡◌, ℕ, ◌<◌, inl, inr, List, [], ◌∷◌, map, refl, sym, ◌∙◌, ap, ap₂, arith}
use Rattle.std.proofs.lemmas.Bool.{cases_eq}
use Rattle.pm_logic.specs.Term.{Term, var, app, Terms, no_terms, more_terms, as_terms}
use Rattle.pm_logic.specs.Filling.{fill, fill_among}
use Rattle.pm_store.specs.Trees.{put_at, put_at_among, Occurs, OccursAmong, size}
use Rattle.pm_store.proofs.ListLemmas.{if_same, if_other}

mutual
  pub put_at-absent : (v : ℕ) (t u : Term) → ¬ Occurs v u → put_at v t u ≡ u
  put_at-absent v t (var n) absent = if_other n v t (var n) (λ e. absent (sym e))
  put_at-absent v t (app f us) absent = ap (app f) (put_at_among-absent v t us absent)

  put_at_among-absent : (v : ℕ) (t : Term) (us : Terms) → ¬ OccursAmong v us → put_at_among v t us ≡ us
  put_at_among-absent v t no_terms absent = refl
  put_at_among-absent v t (more_terms u us) absent =
      ap₂ more_terms (put_at-absent v t u (λ o. absent (inl o))) (put_at_among-absent v t us (λ o. absent (inr o)))

pub put_at-var : (v : ℕ) (t : Term) → put_at v t (var v) ≡ t
put_at-var v t = if_same v v t (var v) refl

-- trees that give a variable the tree of what stands in its place fill both alike
mutual
  pub fill-put_at : (trees : ℕ → Term) (v : ℕ) (t u : Term) → trees v ≡ fill trees t → fill trees (put_at v t u) ≡ fill trees u
  fill-put_at trees v t (var n) same =
      elim (cases_eq n v) [
        | inl e ↦ ap (fill trees) (if_same n v t (var n) e) ∙ sym same ∙ ap trees (sym e)
        | inr ne ↦ ap (fill trees) (if_other n v t (var n) ne)
      ]
  fill-put_at trees v t (app f us) same = ap (app f) (fill_among-put_at_among trees v t us same)

  fill_among-put_at_among : (trees : ℕ → Term) (v : ℕ) (t : Term) (us : Terms) → trees v ≡ fill trees t
      → fill_among trees (put_at_among v t us) ≡ fill_among trees us
  fill_among-put_at_among trees v t no_terms same = refl
  fill_among-put_at_among trees v t (more_terms u us) same =
      ap₂ more_terms (fill-put_at trees v t u same) (fill_among-put_at_among trees v t us same)

pub put_at_among-as_terms : (v : ℕ) (t : Term) (tree : ℕ → Term) (cells : List ℕ)
    → put_at_among v t (as_terms (map tree cells)) ≡ as_terms (map (λ c. put_at v t (tree c)) cells)
put_at_among-as_terms v t tree [] = refl
put_at_among-as_terms v t tree (c ∷ cs) = ap (more_terms (put_at v t (tree c))) (put_at_among-as_terms v t tree cs)

pub fill_among-as_terms : (trees tree : ℕ → Term) (cells : List ℕ)
    → fill_among trees (as_terms (map tree cells)) ≡ as_terms (map (λ c. fill trees (tree c)) cells)
fill_among-as_terms trees tree [] = refl
fill_among-as_terms trees tree (c ∷ cs) = ap (more_terms (fill trees (tree c))) (fill_among-as_terms trees tree cs)

pub size-positive : (t : Term) → 0 < size t
size-positive (var n) = omega arith
size-positive (app symbol args) = omega arith
