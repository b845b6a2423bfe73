-- What holds of a resolver stays while it gives cells rows.
use Rattle.std.proofs.Common.{◌≡◌, ℕ, true, false, true≢false, is_some, inl, inr, List, [], ◌∷◌, ◌++◌, length, Some, None, refl, sym, ◌∙◌, ap, subst, arith}
use Rattle.std.specs.Prelude.{◌≢◌, Contains, Option}
use Rattle.std.proofs.lemmas.List.{length_push}
use Rattle.std.proofs.lemmas.List.Elements.{Contains-append_left, Contains-push, Contains-push_cases}
use Rattle.pm_logic.specs.Term.{Term, var, app}
use Rattle.pm_logic.specs.Table.{variable_count}
use Rattle.pm_logic.proofs.ListLemmas.{AreDistinct-push}
use Rattle.pm_logic.proofs.TableLemmas.{variable_count-push}
use Rattle.pm_logic.specs.Filling.{fill}
use Rattle.pm_store.specs.Equations.{Equations, IsFree}
use Rattle.pm_store.specs.Trees.{tree, Occurs}
use Rattle.pm_store.specs.Sound.{IsSound}
use Rattle.pm_store.specs.Resolved.{Resolved, row_among, row_of, numbered, number_of, with_variables, HasRow, IsResolved, IsMore}
use Rattle.pm_store.proofs.ListLemmas.{slice_get-append, slice_get-last}
use Rattle.pm_store.proofs.TreeLemmas.{free_variables_stand}
use Rattle.pm_store.proofs.NumberLemmas.{with_variable-known, with_variable-new, number_of-kept, number_of-new, fill-agree}
use Rattle.pm_store.proofs.RowLemmas.{row_among-kept, row_among-added, row_among-cases}

abbrev pub with_row : Resolved → ℕ → ℕ → Resolved
with_row r cell row = record { rows = r.rows ++ (cell, row) ∷ []; free = r.free }

-- the option has a value
pub has_value : {A : Type 0} (o : Option A) (x : A) → o ≡ Some x → o ≢ None
has_value o x is none = apart (sym is ∙ none)
  where
    apart : Some x ≡ None → ⊥
    apart e = cc

pub value_of : {A : Type 0} (o : Option A) → o ≢ None → (x : A) × (o ≡ Some x)
value_of None some = absurd (some refl)
value_of (Some x) some = (x, refl)

-- what a test of the option says
pub some_of : {A : Type 0} (found o : Option A) → found ≡ o → is_some found ≡ true → o ≢ None
some_of found o is some none = true≢false (sym some ∙ ap is_some (is ∙ none))

pub none_of : {A : Type 0} (found o : Option A) → found ≡ o → is_some found ≡ false → o ≡ None
none_of None o is none = sym is
none_of (Some x) o is none = absurd (true≢false none)

pub row_stays : (r : Resolved) (cell row c : ℕ) → row_of r c ≢ None → row_of (with_row r cell row) c ≢ None
row_stays r cell row c has =
    let v = value_of (row_of r c) has in
    has_value (row_of (with_row r cell row) c) v.0 (row_among-kept r.rows ((cell, row) ∷ []) c v.0 v.1)

-- rows stay when others are added
pub row_kept : (r new : Resolved) (table grown : List Term) → IsMore r table new grown → (d row : ℕ) → row_of r d ≡ Some row → row_of new d ≡ Some row
row_kept r new table grown more d row is =
    subst (λ (es : List (ℕ × ℕ)). row_among es d ≡ Some row) (sym more.rows.1) (row_among-kept r.rows more.rows.0 d row is)

pub rows_keep : (r new : Resolved) (table grown : List Term) → IsMore r table new grown → (d : ℕ) → row_of r d ≢ None → row_of new d ≢ None
rows_keep r new table grown more d has =
    let v = value_of (row_of r d) has in
    has_value (row_of new d) v.0 (row_kept r new table grown more d v.0 v.1)

-- a cell's row stays its own when variables and terms are added
pub HasRow-more : (s : Equations) (free more : List ℕ) (table terms : List Term) (cell row : ℕ) → HasRow s free table cell row
    → HasRow s (free ++ more) (table ++ terms) cell row
HasRow-more s free more table terms cell row h = record {
  stands = slice_get-append table terms row (fill (numbered free) (tree s cell)) h.stands
      ∙ ap Some (sym (fill-agree (numbered (free ++ more)) (numbered free) (tree s cell) (λ v occurs. ap var (number_of-kept free more v (h.variables v occurs)))));
  variables = λ v occurs. Contains-append_left free more v (h.variables v occurs);
}

-- terms without variables are added
pub HasRow-terms : (s : Equations) (free : List ℕ) (table terms : List Term) (cell row : ℕ) → HasRow s free table cell row → HasRow s free (table ++ terms) cell row
HasRow-terms s free table terms cell row h = record {
  stands = slice_get-append table terms row (fill (numbered free) (tree s cell)) h.stands;
  variables = h.variables;
}

-- one more cell has a row
pub IsResolved-row : (s : Equations) (r : Resolved) (table : List Term) (cell row : ℕ) → IsResolved s r table → row_of r cell ≡ None → HasRow s r.free table cell row
    → IsResolved s (with_row r cell row) table
IsResolved-row s r table cell row is none has = record {
  rows = λ c n at.
      elim (row_among-cases r.rows cell row c n at) [
        | inl before ↦ is.rows c n before
        | inr last ↦ subst (λ (m : ℕ). HasRow s r.free table m n) (sym last.0) (subst (λ (m : ℕ). HasRow s r.free table cell m) last.1 has)
      ];
  free = λ v contains. ((is.free v contains).0, row_stays r cell row v (is.free v contains).1);
  distinct = is.distinct;
  count = is.count;
}

-- the table has a term more, which is no variable
pub IsResolved-term : (s : Equations) (r : Resolved) (table : List Term) (symbol : ℕ) (args : _) → IsResolved s r table → IsResolved s r (table ++ app symbol args ∷ [])
IsResolved-term s r table symbol args is = record {
  rows = λ c n at. HasRow-terms s r.free table (app symbol args ∷ []) c n (is.rows c n at);
  free = is.free;
  distinct = is.distinct;
  count = omega (arith, is.count, variable_count-push table (app symbol args));
}

-- a free variable got the next number, and a row
abbrev pub with_number : Resolved → ℕ → ℕ → Resolved
with_number r v row = record { rows = r.rows ++ (v, row) ∷ []; free = r.free ++ v ∷ [] }

module _ (s : Equations) (r : Resolved) (table : List Term) (v : ℕ) (is : IsResolved s r table) (none : row_of r v ≡ None) where
  pub is_new : ¬ Contains r.free v
  is_new has = (is.free v has).1 none

  new_row : IsSound s → IsFree s v → HasRow s (r.free ++ v ∷ []) (table ++ var (variable_count table) ∷ []) v (length table)
  new_row sound free =
      let itself : tree s v ≡ var v = free_variables_stand s v sound free in
      let number : number_of (r.free ++ v ∷ []) v ≡ variable_count table = number_of-new r.free v is_new ∙ sym is.count in
      record {
        stands = slice_get-last table (var (variable_count table)) ∙ ap (λ n. Some (var n)) (sym number)
            ∙ ap (λ t. Some (fill (numbered (r.free ++ v ∷ [])) t)) (sym itself);
        variables = λ w occurs.
            let same : w ≡ v = subst (λ (t : Term). Occurs w t) itself occurs in
            subst (λ (n : ℕ). Contains (r.free ++ v ∷ []) n) (sym same) (Contains-push r.free v);
      }

  pub IsResolved-variable : IsSound s → IsFree s v → IsResolved s (with_number r v (length table)) (table ++ var (variable_count table) ∷ [])
  IsResolved-variable sound free = record {
    rows = λ c n at.
        elim (row_among-cases r.rows v (length table) c n at) [
          | inl before ↦ HasRow-more s r.free (v ∷ []) table (var (variable_count table) ∷ []) c n (is.rows c n before)
          | inr last ↦ subst (λ (m : ℕ). HasRow s (r.free ++ v ∷ []) (table ++ var (variable_count table) ∷ []) m n) (sym last.0)
              (subst (λ (m : ℕ). HasRow s (r.free ++ v ∷ []) (table ++ var (variable_count table) ∷ []) v m) last.1 (new_row sound free))
        ];
    free = λ w contains.
        elim (Contains-push_cases r.free v w contains) [
          | inl before ↦ ((is.free w before).0, row_stays r v (length table) w (is.free w before).1)
          | inr same ↦ subst (λ (n : ℕ). IsFree s n × (row_of (with_row r v (length table)) n ≢ None)) same
              (free, has_value (row_of (with_row r v (length table)) v) (length table) (row_among-added r.rows v (length table) none))
        ];
    distinct = AreDistinct-push r.free v is.distinct is_new;
    count = omega (arith, is.count, variable_count-push table (var (variable_count table)), length_push r.free v);
  }

-- a free variable with a row has a number
pub order-known : (s : Equations) (r : Resolved) (table : List Term) (v row : ℕ) → IsSound s → IsFree s v → IsResolved s r table → row_of r v ≡ Some row
    → r.free ≡ with_variables r.free (tree s v)
order-known s r table v row sound free is at =
    let itself : tree s v ≡ var v = free_variables_stand s v sound free in
    let known : Contains r.free v = (is.rows v row at).variables v (subst (λ (t : Term). Occurs v t) (sym itself) refl) in
    sym (ap (with_variables r.free) itself ∙ with_variable-known r.free v known)

-- what is known once a free variable got a number
pub record IsNumbered (s : Equations) (r new : Resolved) (grown : List Term) (v row : ℕ) : Type 0 where
  pub noted : row_of new v ≡ Some row
  pub order : new.free ≡ with_variables r.free (tree s v)
  pub resolved : IsResolved s new grown

-- the variable is the last one, and its row is noted
noted_number : (r new : Resolved) (rows : List (ℕ × ℕ)) (free grown : List ℕ) (v row : ℕ) → new ≡ with_row (record { rows = rows; free = grown }) v row
    → grown ≡ free ++ v ∷ [] → record { rows = rows; free = free } ≡ r → new ≡ with_number r v row
noted_number r new rows free grown v row noted longer view =
    noted ∙ ap (λ vs. with_row (record { rows = rows; free = vs }) v row) longer ∙ ap (λ x. with_number x v row) view

pub numbers : (s : Equations) (r new : Resolved) (table grown : List Term) (rows : List (ℕ × ℕ)) (free free' : List ℕ) (v row : ℕ) → IsSound s → IsFree s v
    → IsResolved s r table → row_of r v ≡ None → row ≡ length table → grown ≡ table ++ var (variable_count table) ∷ []
    → new ≡ with_row (record { rows = rows; free = free' }) v row → free' ≡ free ++ v ∷ [] → record { rows = rows; free = free } ≡ r
    → IsNumbered s r new grown v row
numbers s r new table grown rows free free' v row sound unbound is none last added noted longer view =
    let itself : tree s v ≡ var v = free_variables_stand s v sound unbound in
    let whole : IsResolved s (with_number r v (length table)) (table ++ var (variable_count table) ∷ []) = IsResolved-variable s r table v is none sound unbound in
    let here : new ≡ with_number r v row = noted_number r new rows free free' v row noted longer view in
    record {
      noted = ap (λ (x : Resolved). row_of x v) here ∙ row_among-added r.rows v row none;
      order = ap (λ (x : Resolved). x.free) here ∙ sym (ap (with_variables r.free) itself ∙ with_variable-new r.free v (is_new s r table v is none));
      resolved = subst (λ (x : Resolved). IsResolved s x grown) (sym (here ∙ ap (with_number r v) last))
          (subst (λ (ts : List Term). IsResolved s (with_number r v (length table)) ts) (sym added) whole);
    }
