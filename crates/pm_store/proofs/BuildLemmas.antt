-- What the building of an application does, over the rows of its arguments.
use Rattle.std.proofs.Common.{◌≡◌, ℕ, ◌<◌, inl, inr, List, [], ◌∷◌, length, Some, None, map, slice_get, refl, sym, ◌∙◌, ap, ap₂, subst, arith}
use Rattle.std.specs.Prelude.{◌≢◌, All, Contains}
use Rattle.std.proofs.lemmas.List.Elements.{All-weaker, All-head, All-tail, All-cons, All-nil}
use Rattle.std.proofs.lemmas.Option.{slice_get_within, get_or_from_slice_get}
use Rattle.pm_logic.specs.Term.{Term, var, app, as_terms, tree_at}
use Rattle.pm_logic.specs.Table.{Adds}
use Rattle.pm_logic.specs.Filling.{fill}
use Rattle.pm_store.specs.Entries.{Application}
use Rattle.pm_store.specs.declared.resolver.Place.{Place}
use Rattle.pm_store.specs.declared.resolver.Place.TheVariants.{Build}
use Rattle.pm_store.specs.Equations.{Equations, end_of}
use Rattle.pm_store.specs.Trees.{tree, Occurs, OccursAmong}
use Rattle.pm_store.specs.Resolved.{Resolved, row_of, numbered, HasRow, IsResolved}
use Rattle.pm_store.specs.Inside.Pending.{WillHaveRow, IsReadyAt, Proceeds}
use Rattle.pm_store.proofs.TermLemmas.{fill_among-as_terms}
use Rattle.pm_store.proofs.RowLemmas.{row_among-added}
use Rattle.pm_store.proofs.PendingLemmas.{work-less}
use Rattle.pm_store.proofs.ReadyLemmas.{comes-built}
use Rattle.pm_store.proofs.ResolvedLemmas.{with_row, has_value, value_of, row_stays, IsResolved-row, IsResolved-term}

abbrev pub HaveRows : Resolved → List ℕ → Type 0
HaveRows r cells = All (λ c. row_of r c ≢ None) cells

-- the variables of cells with rows have numbers
numbers_known : (s : Equations) (r : Resolved) (table : List Term) → IsResolved s r table → (cells : List ℕ) → HaveRows r cells
    → (v : ℕ) → OccursAmong v (as_terms (map (tree s) cells)) → Contains r.free v
numbers_known s r table is [] all v occurs = absurd occurs
numbers_known s r table is (c ∷ cs) all v (inl here) =
    let row = value_of (row_of r c) (All-head (λ d. row_of r d ≢ None) c cs all) in
    (is.rows c row.0 row.1).variables v here
numbers_known s r table is (c ∷ cs) all v (inr later) = numbers_known s r table is cs (All-tail (λ d. row_of r d ≢ None) c cs all) v later

-- the rows of cells stand in the table
pub rows_within : (s : Equations) (r : Resolved) (table : List Term) → IsResolved s r table → (cells rows : List ℕ) → map Some rows ≡ map (row_of r) cells
    → All (λ row. row < length table) rows
rows_within s r table is [] [] same = All-nil (λ row. row < length table)
rows_within s r table is [] (n ∷ ns) same = absurd cc
rows_within s r table is (c ∷ cs) [] same = absurd cc
rows_within s r table is (c ∷ cs) (n ∷ ns) same =
    let first : row_of r c ≡ Some n = cc in
    let rest : map Some ns ≡ map (row_of r) cs = cc in
    All-cons (λ row. row < length table) n ns (slice_get_within table n (fill (numbered r.free) (tree s c)) (is.rows c n first).stands)
    (rows_within s r table is cs ns rest)

-- their trees are those of the cells, with the number of each variable in its place
rows_trees : (s : Equations) (r : Resolved) (table : List Term) → IsResolved s r table → (cells rows : List ℕ) → map Some rows ≡ map (row_of r) cells
    → map (tree_at table) rows ≡ map (λ c. fill (numbered r.free) (tree s c)) cells
rows_trees s r table is [] [] same = refl
rows_trees s r table is [] (n ∷ ns) same = absurd cc
rows_trees s r table is (c ∷ cs) [] same = absurd cc
rows_trees s r table is (c ∷ cs) (n ∷ ns) same =
    let first : row_of r c ≡ Some n = cc in
    let rest : map Some ns ≡ map (row_of r) cs = cc in
    ap₂ (λ x xs. x ∷ xs) (get_or_from_slice_get table n (fill (numbered r.free) (tree s c)) (var 0) (is.rows c n first).stands) (rows_trees s r table is cs ns rest)

-- what was resolved stays so where the table has the term too
grown_resolved : (s : Equations) (r : Resolved) (table grown : List Term) (symbol : ℕ) (args : _) (row : ℕ) → IsResolved s r table → Adds table grown (app symbol args) row
    → IsResolved s r grown
grown_resolved s r table grown symbol args row is adds =
    elim adds.grows [
      | inl old ↦ subst (IsResolved s r) (sym old.0) is
      | inr new ↦ subst (IsResolved s r) (sym new.0) (IsResolved-term s r table symbol args is)
    ]

-- the application has its row
pub built_row : (s : Equations) (r : Resolved) (table grown : List Term) (c symbol : ℕ) (args rows : List ℕ) (row : ℕ) → IsResolved s r table
    → HaveRows r args → map Some rows ≡ map (row_of r) args → tree s c ≡ app symbol (as_terms (map (tree s) args))
    → Adds table grown (app symbol (as_terms (map (tree_at table) rows))) row → HasRow s r.free grown c row
built_row s r table grown c symbol args rows row is all same shown adds = record {
  stands = adds.stands ∙ ap (λ ts. Some (app symbol (as_terms ts))) (rows_trees s r table is args rows same)
      ∙ ap (λ ts. Some (app symbol ts)) (sym (fill_among-as_terms (numbered r.free) (tree s) args))
      ∙ ap (λ t. Some (fill (numbered r.free) t)) (sym shown);
  variables = λ v occurs. numbers_known s r table is args all v (subst (λ (t : Term). Occurs v t) shown occurs);
}

pub proceeds-built : (s : Equations) (r new : Resolved) (table grown : List Term) (ps : List Place) (c : ℕ) → IsResolved s new grown
    → ((d : ℕ) → row_of r d ≢ None → row_of new d ≢ None) → row_of new c ≢ None → new.free ≡ r.free → Proceeds s (Build c) r table ps new grown ps
proceeds-built s r new table grown ps c is keeps has same = (
  λ a first comes. comes-built s a first r new table grown ps c is keeps has same comes,
  work-less s ps (Build c) (omega arith),
)

-- the application gets its row
pub builds : (s : Equations) (r new : Resolved) (table grown : List Term) (c symbol : ℕ) (args rows : List ℕ) (row : ℕ) → IsResolved s r table
    → HaveRows r args → map Some rows ≡ map (row_of r) args → tree s c ≡ app symbol (as_terms (map (tree s) args))
    → Adds table grown (app symbol (as_terms (map (tree_at table) rows))) row → row_of r c ≡ None → new ≡ with_row r c row
    → (ps : List Place) → Proceeds s (Build c) r table ps new grown ps
builds s r new table grown c symbol args rows row is all same shown adds none noted ps =
    let more : IsResolved s r grown = grown_resolved s r table grown symbol (as_terms (map (tree_at table) rows)) row is adds in
    let own : HasRow s r.free grown c row = built_row s r table grown c symbol args rows row is all same shown adds in
    subst (λ (x : Resolved). Proceeds s (Build c) r table ps x grown ps) (sym noted)
    (proceeds-built s r (with_row r c row) table grown ps c (IsResolved-row s r grown c row more none own) (row_stays r c row)
    (has_value (row_of (with_row r c row) c) row (row_among-added r.rows c row none)) refl)

-- where nothing else is pending, the arguments have their rows
pub args_ready : (s : Equations) (r : Resolved) (c symbol : ℕ) (args : List ℕ) → IsReadyAt s r (Build c) []
    → slice_get s.cells (end_of s.bindings c) ≡ Some (Application symbol args) → HaveRows r args
args_ready s r c symbol args (within, symbol', args', is, all) found =
    subst (HaveRows r) same (All-weaker (WillHaveRow r []) (λ d. row_of r d ≢ None) there args' all)
  where
    apart : Some (Application symbol' args') ≡ Some (Application symbol args) → args' ≡ args
    apart e = cc

    same : args' ≡ args
    same = apart (sym is ∙ found)

    there : (d : ℕ) → WillHaveRow r [] d → row_of r d ≢ None
    there d (inl has) = has
    there d (inr (p, (n, lt, at_place), mine)) = absurd (omega (arith, lt))
