-- What is added to a table is of parts of the tree that is resolved.
use Rattle.std.proofs.Common.{◌≡◌, ℕ, zero, suc, inl, inr, List, [], ◌∷◌, ◌++◌, length, map, Some, slice_get, refl, sym, ◌∙◌, ap, subst, arith}
use Rattle.std.specs.Prelude.{Contains}
use Rattle.std.proofs.lemmas.Bool.{cases_lt}
use Rattle.std.proofs.lemmas.List.{length_push}
use Rattle.std.proofs.lemmas.List.Elements.{Contains-push_cases, Contains-append_cases, Contains-append_left, Contains-push}
use Rattle.std.proofs.lemmas.Option.{slice_get_within}
use Rattle.pm_logic.specs.Term.{Term, var, app, Terms, no_terms, more_terms, as_terms, tree_at}
use Rattle.pm_logic.specs.Table.{Adds}
use Rattle.pm_logic.specs.Filling.{fill, fill_among}
use Rattle.pm_store.specs.declared.resolver.Place.{Place}
use Rattle.pm_store.specs.declared.resolver.Place.TheVariants.{Visit, Build}
use Rattle.pm_store.specs.Equations.{Equations}
use Rattle.pm_store.specs.Trees.{tree, Occurs, IsPart, IsPartAmong}
use Rattle.pm_store.specs.Resolved.{Resolved, row_of, numbered, HasRow, IsResolved, IsMore, AddsPartsOf}
use Rattle.pm_store.specs.Inside.Pending.{visits, cell_of, AddsRowsOf, AddsPlacesOf, ComesOfParts}
use Rattle.pm_store.proofs.ListLemmas.{slice_get-last}
use Rattle.pm_store.proofs.NumberLemmas.{Contains-cases, Contains-none}
use Rattle.pm_store.proofs.ResolvedLemmas.{HasRow-more}
use Rattle.pm_store.proofs.BuildLemmas.{HaveRows, built_row}

IsPart-self : (t : Term) → IsPart t t
IsPart-self (var n) = refl
IsPart-self (app symbol args) = inl refl

mutual
  IsPart-trans : (t u w : Term) → IsPart t u → IsPart u w → IsPart t w
  IsPart-trans t u (var n) part is = subst (λ (x : Term). IsPart t x) is part
  IsPart-trans t u (app symbol args) part (inl is) = subst (λ (x : Term). IsPart t x) is part
  IsPart-trans t u (app symbol args) part (inr among) = inr (IsPartAmong-trans t u args part among)

  IsPartAmong-trans : (t u : Term) (ws : Terms) → IsPart t u → IsPartAmong u ws → IsPartAmong t ws
  IsPartAmong-trans t u no_terms part among = absurd among
  IsPartAmong-trans t u (more_terms w ws) part (inl here) = inl (IsPart-trans t u w part here)
  IsPartAmong-trans t u (more_terms w ws) part (inr later) = inr (IsPartAmong-trans t u ws part later)

mutual
  IsPart-fill : (f : ℕ → Term) (t u : Term) → IsPart t u → IsPart (fill f t) (fill f u)
  IsPart-fill f t (var n) is = subst (λ (x : Term). IsPart x (f n)) (sym (ap (fill f) is)) (IsPart-self (f n))
  IsPart-fill f t (app symbol args) (inl is) = inl (ap (fill f) is)
  IsPart-fill f t (app symbol args) (inr among) = inr (IsPartAmong-fill f t args among)

  IsPartAmong-fill : (f : ℕ → Term) (t : Term) (us : Terms) → IsPartAmong t us → IsPartAmong (fill f t) (fill_among f us)
  IsPartAmong-fill f t no_terms among = absurd among
  IsPartAmong-fill f t (more_terms u us) (inl here) = inl (IsPart-fill f t u here)
  IsPartAmong-fill f t (more_terms u us) (inr later) = inr (IsPartAmong-fill f t us later)

argument_part : (trees : ℕ → Term) (args : List ℕ) (c : ℕ) → Contains args c → IsPartAmong (trees c) (as_terms (map trees args))
argument_part trees [] c has = absurd (Contains-none c has)
argument_part trees (x ∷ xs) c has =
    elim (Contains-cases x c xs has) [
      | inl same ↦ inl (subst (λ (n : ℕ). IsPart (trees c) (trees n)) (sym same) (IsPart-self (trees c)))
      | inr later ↦ inr (argument_part trees xs c later)
    ]

among_visits : (P : Type 0) (cs : List ℕ) (p : Place) → Contains (visits cs) p → ((c : ℕ) → Contains cs c → Visit c ≡ p → P) → P
among_visits P [] p (n, lt, is) found = absurd (omega (arith, lt))
among_visits P (c ∷ cs) p has found =
    elim (Contains-push_cases (visits cs) (Visit c) p has) [
      | inl before ↦ among_visits P cs p before (λ d there same. found d (later d there) same)
      | inr last ↦ found c (zero, omega arith, refl) last
    ]
  where
    later : (d : ℕ) → Contains cs d → Contains (c ∷ cs) d
    later d (n, lt, is) = (suc n, omega (arith, lt), is)

-- an application gives way to its own building and to visits to its arguments
pub places_opened : (s : Equations) (ps now : List Place) (c symbol : ℕ) (args : List ℕ) → tree s c ≡ app symbol (as_terms (map (tree s) args))
    → now ≡ (ps ++ Build c ∷ []) ++ visits args → AddsPlacesOf s c ps now
places_opened s ps now c symbol args shown added p has =
    elim (Contains-append_cases (ps ++ Build c ∷ []) (visits args) p (subst (λ (qs : List Place). Contains qs p) added has)) [
      | inl first ↦ elim (Contains-push_cases ps (Build c) p first) [
        | inl before ↦ inl before
        | inr last ↦ inr (subst (λ (q : Place). IsPart (tree s (cell_of q)) (tree s c)) last (IsPart-self (tree s c)))
      ]
      | inr visit ↦ inr (among_visits (IsPart (tree s (cell_of p)) (tree s c)) args p visit (λ d there same.
          subst (λ (q : Place). IsPart (tree s (cell_of q)) (tree s c)) same
          (subst (λ (t : Term). IsPart (tree s d) t) (sym shown) (inr (argument_part (tree s) args d there)))))
    ]

-- nothing is added
pub rows_none : (s : Equations) (c : ℕ) (table : List Term) (r : Resolved) → AddsRowsOf s c table r table
rows_none s c table r row beyond within = absurd (omega (arith, beyond, within))

-- one term is added, whose row is the cell's
rows_one : (s : Equations) (c : ℕ) (table grown : List Term) (r : Resolved) (t : Term) → grown ≡ table ++ t ∷ [] → HasRow s r.free grown c (length table)
    → AddsRowsOf s c table r grown
rows_one s c table grown r t added own row beyond within =
    let last : length table ≡ row = omega (arith, beyond, within, ap length added, length_push table t) in
    subst (λ (n : ℕ). HasRow s r.free grown c n) last own

pub rows_variable : (s : Equations) (v row : ℕ) (table grown : List Term) (r : Resolved) (t : Term) → grown ≡ table ++ t ∷ [] → row ≡ length table → IsResolved s r grown
    → row_of r v ≡ Some row → AddsRowsOf s v table r grown
rows_variable s v row table grown r t added place is noted =
    rows_one s v table grown r t added (subst (λ (n : ℕ). HasRow s r.free grown v n) place (is.rows v row noted))

pub rows_built : (s : Equations) (r new : Resolved) (table grown : List Term) (c symbol : ℕ) (args rows : List ℕ) (row : ℕ) → IsResolved s r table
    → HaveRows r args → map Some rows ≡ map (row_of r) args → tree s c ≡ app symbol (as_terms (map (tree s) args))
    → Adds table grown (app symbol (as_terms (map (tree_at table) rows))) row → new.free ≡ r.free → AddsRowsOf s c table new grown
rows_built s r new table grown c symbol args rows row is all same shown adds free =
    let t : Term = app symbol (as_terms (map (tree_at table) rows)) in
    elim adds.grows [
      | inl old ↦ subst (λ (ts : List Term). AddsRowsOf s c table new ts) (sym old.0) (rows_none s c table new)
      | inr more ↦
          let at_end : Adds table grown t (length table) =
          record { stands = ap (λ (ts : List Term). slice_get ts (length table)) more.0 ∙ slice_get-last table t; grows = inr more } in
          let own : HasRow s r.free grown c (length table) = built_row s r table grown c symbol args rows (length table) is all same shown at_end in
          rows_one s c table grown new t more.0 (subst (λ (vs : List ℕ). HasRow s vs grown c (length table)) (sym free) own)
    ]

-- a bound variable has the rows of the free one at its end
pub rows_same : (s : Equations) (c v : ℕ) (table grown : List Term) (r new : Resolved) → tree s c ≡ tree s v → new.free ≡ r.free → AddsRowsOf s v table r grown
    → AddsRowsOf s c table new grown
rows_same s c v table grown r new same free adds row beyond within =
    let there : HasRow s r.free grown v row = adds row beyond within in
    subst (λ (vs : List ℕ). HasRow s vs grown c row) (sym free) (record {
      stands = there.stands ∙ ap (λ t. Some (fill (numbered r.free) t)) (sym same);
      variables = λ w occurs. there.variables w (subst (λ (t : Term). Occurs w t) same occurs);
    })

pub parts_first : (s : Equations) (a : ℕ) (table : List Term) (r : Resolved) (ps : List Place) → ps ≡ Visit a ∷ [] → ComesOfParts s a table r table ps
parts_first s a table r ps first = record {
  rows = λ row beyond within. absurd (omega (arith, beyond, within));
  places = λ p has. elim (Contains-push_cases [] (Visit a) p (subst (λ (qs : List Place). Contains qs p) first has)) [
    | inl (n, lt, is) ↦ absurd (omega (arith, lt))
    | inr last ↦ subst (λ (q : Place). IsPart (tree s (cell_of q)) (tree s a)) last (IsPart-self (tree s a))
  ];
}

-- a place is dealt with
pub parts_next : (s : Equations) (a : ℕ) (start : List Term) (r new : Resolved) (table grown : List Term) (before ps left : List Place) (p : Place) → before ≡ ps ++ p ∷ []
    → IsMore r table new grown → AddsRowsOf s (cell_of p) table new grown → AddsPlacesOf s (cell_of p) ps left → ComesOfParts s a start r table before
    → ComesOfParts s a start new grown left
parts_next s a start r new table grown before ps left p popped more rows places comes =
    let own : IsPart (tree s (cell_of p)) (tree s a) =
    comes.places p (subst (λ (qs : List Place). Contains qs p) (sym popped) (Contains-push ps p)) in
    record {
      rows = λ row beyond within.
          elim (cases_lt row (length table)) [
            | inl lt ↦
                let was = comes.rows row beyond lt in (
                  was.0,
                  subst (λ (vs : List ℕ). HasRow s vs grown was.0 row) (sym more.free.1)
                      (subst (λ (ts : List Term). HasRow s (r.free ++ more.free.0) ts was.0 row) (sym more.terms.1)
                      (HasRow-more s r.free more.free.0 table more.terms.0 was.0 row was.1)),
                  was.2,
                )
            | inr le ↦ (cell_of p, rows row le within, own)
          ];
      places = λ q has.
          elim (places q has) [
            | inl was ↦ comes.places q (subst (λ (qs : List Place). Contains qs q) (sym popped) (Contains-append_left ps (p ∷ []) q was))
            | inr part ↦ IsPart-trans (tree s (cell_of q)) (tree s (cell_of p)) (tree s a) part own
          ];
    }

-- so the terms that were added are parts of the one that was resolved
pub parts_added : (s : Equations) (a : ℕ) (start : List Term) (r : Resolved) (table : List Term) (ps : List Place) → ComesOfParts s a start r table ps
    → AddsPartsOf (fill (numbered r.free) (tree s a)) start table
unfolding AddsPartsOf
parts_added s a start r table ps comes row t beyond stands =
    let was = comes.rows row beyond (slice_get_within table row t stands) in
    let same : Some (fill (numbered r.free) (tree s was.0)) ≡ Some t = sym was.1.stands ∙ stands in
    subst (λ (x : Term). IsPart x (fill (numbered r.free) (tree s a))) (inside same) (IsPart-fill (numbered r.free) (tree s was.0) (tree s a) was.2)
  where
    inside : {x y : Term} → Some x ≡ Some y → x ≡ y
    inside e = cc
