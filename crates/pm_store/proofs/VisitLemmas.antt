-- What a visit does, by what is found at the cell.
use Rattle.std.proofs.Common.{◌≡◌, ℕ, ◌<◌, List, [], ◌∷◌, ◌++◌, length, Some, None, map, slice_get, sym, ◌∙◌, ap, subst}
use Rattle.std.specs.Prelude.{◌≢◌, All, Contains}
use Rattle.pm_logic.specs.Term.{Term, app, as_terms}
use Rattle.pm_logic.specs.Filling.{fill}
use Rattle.pm_store.specs.Entries.{Application}
use Rattle.pm_store.specs.declared.resolver.Place.{Place}
use Rattle.pm_store.specs.declared.resolver.Place.TheVariants.{Visit, Build}
use Rattle.pm_store.specs.Equations.{Equations, end_of}
use Rattle.pm_store.specs.Trees.{tree, Occurs}
use Rattle.pm_store.specs.Resolved.{Resolved, row_of, with_variables, numbered, HasRow, IsResolved, IsMore}
use Rattle.pm_store.specs.Inside.Pending.{visits, Proceeds}
use Rattle.pm_store.proofs.RowLemmas.{row_among-added}
use Rattle.pm_store.proofs.PendingLemmas.{work-less, visit_works, work-opened}
use Rattle.pm_store.proofs.ReadyLemmas.{order-row, comes-visited}
use Rattle.pm_store.proofs.ResolvedLemmas.{with_row, has_value, row_stays, rows_keep, IsResolved-row}
use Rattle.pm_store.proofs.OpenLemmas.{comes-opened}

-- the cell has a row already
pub proceeds-known : (s : Equations) (r : Resolved) (table : List Term) (ps : List Place) (c : ℕ) → IsResolved s r table → row_of r c ≢ None
    → Proceeds s (Visit c) r table ps r table ps
proceeds-known s r table ps c is has = (
  λ a first comes. comes-visited s a first r r table table ps c is (λ d there. there) has (sym (order-row s r table c is has)) comes,
  work-less s ps (Visit c) (visit_works s c),
)

-- the cell is a free variable, which has got a row
pub proceeds-variable : (s : Equations) (r new : Resolved) (table grown : List Term) (ps : List Place) (c : ℕ) → IsResolved s new grown → IsMore r table new grown
    → row_of new c ≢ None → new.free ≡ with_variables r.free (tree s c) → Proceeds s (Visit c) r table ps new grown ps
proceeds-variable s r new table grown ps c is more has order = (
  λ a first comes. comes-visited s a first r new table grown ps c is (rows_keep r new table grown more) has order comes,
  work-less s ps (Visit c) (visit_works s c),
)

-- the cell is bound to a free variable, and gets the variable's row
pub proceeds-bound : (s : Equations) (r mid new : Resolved) (table grown : List Term) (ps : List Place) (c v row : ℕ) → IsResolved s mid grown → IsMore r table mid grown
    → tree s c ≡ tree s v → row_of mid v ≡ Some row → row_of mid c ≡ None → mid.free ≡ with_variables r.free (tree s v) → new ≡ with_row mid c row
    → Proceeds s (Visit c) r table ps new grown ps
proceeds-bound s r mid new table grown ps c v row is more same at none order noted =
    let here : HasRow s mid.free grown v row = is.rows v row at in
    let own : HasRow s mid.free grown c row =
    record {
      stands = subst (λ (t : Term). slice_get grown row ≡ Some (fill (numbered mid.free) t)) (sym same) here.stands;
      variables = subst (λ (t : Term). (w : ℕ) → Occurs w t → Contains mid.free w) (sym same) here.variables;
    } in
    subst (λ (x : Resolved). Proceeds s (Visit c) r table ps x grown ps) (sym noted) (
      λ a first comes.
          comes-visited s a first r (with_row mid c row) table grown ps c (IsResolved-row s mid grown c row is none own)
          (λ d there. row_stays mid c row d (rows_keep r mid table grown more d there))
          (has_value (row_of (with_row mid c row) c) row (row_among-added mid.rows c row none))
          (order ∙ ap (with_variables r.free) (sym same)) comes,
      work-less s ps (Visit c) (visit_works s c),
    )

-- the cell is an application, whose arguments are to be visited first
pub proceeds-opened : (s : Equations) (r : Resolved) (table : List Term) (ps now : List Place) (c symbol : ℕ) (args : List ℕ) → c < length s.cells
    → slice_get s.cells (end_of s.bindings c) ≡ Some (Application symbol args) → All (λ arg. arg < length s.cells) args
    → tree s c ≡ app symbol (as_terms (map (tree s) args)) → now ≡ (ps ++ Build c ∷ []) ++ visits args → Proceeds s (Visit c) r table ps r table now
proceeds-opened s r table ps now c symbol args within is below shown added =
    subst (Proceeds s (Visit c) r table ps r table) (sym added) (
      λ a first comes. comes-opened s a first r table ps c symbol args within is below shown comes,
      work-opened s ps c symbol args shown,
    )
