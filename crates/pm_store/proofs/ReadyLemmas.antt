-- Which cells have rows by the time that a place is come to.
use Rattle.std.proofs.Common.{◌≡◌, ℕ, inl, inr, List, [], ◌∷◌, ◌++◌, None, sym, ◌∙◌, ap, subst}
use Rattle.std.specs.Prelude.{◌≢◌}
use Rattle.std.proofs.lemmas.List.Elements.{All-weaker, Contains-push_cases}
use Rattle.pm_logic.specs.Term.{Term}
use Rattle.pm_store.specs.declared.resolver.Place.{Place}
use Rattle.pm_store.specs.declared.resolver.Place.TheVariants.{Visit, Build}
use Rattle.pm_store.specs.Equations.{Equations}
use Rattle.pm_store.specs.Trees.{tree}
use Rattle.pm_store.specs.Resolved.{Resolved, row_of, with_variables, IsResolved}
use Rattle.pm_store.specs.Inside.Pending.{variables_after, cell_of, WillHaveRow, IsReadyAt, AreReady, Comes}
use Rattle.pm_store.proofs.NumberLemmas.{with_variables-known}
use Rattle.pm_store.proofs.PendingLemmas.{variables_after-append}
use Rattle.pm_store.proofs.ResolvedLemmas.{value_of}

-- where the last place's cell has a row, the others suffice
will-drop : (r new : Resolved) (ps : List Place) (p : Place) (c : ℕ) → ((d : ℕ) → row_of r d ≢ None → row_of new d ≢ None) → row_of new (cell_of p) ≢ None
    → WillHaveRow r (ps ++ p ∷ []) c → WillHaveRow new ps c
will-drop r new ps p c keeps has (inl there) = inl (keeps c there)
will-drop r new ps p c keeps has (inr (q, among, same)) =
    elim (Contains-push_cases ps p q among) [
      | inl before ↦ inr (q, before, same)
      | inr last ↦ inl (subst (λ (n : ℕ). row_of new n ≢ None) (ap cell_of last ∙ same) has)
    ]

ready_at-drop : (s : Equations) (r new : Resolved) (ps : List Place) (q p : Place) → ((d : ℕ) → row_of r d ≢ None → row_of new d ≢ None) → row_of new (cell_of p) ≢ None
    → IsReadyAt s r q (ps ++ p ∷ []) → IsReadyAt s new q ps
ready_at-drop s r new ps (Visit c) p keeps has within = within
ready_at-drop s r new ps (Build c) p keeps has (within, symbol, args, is, all) = (
  within,
  symbol,
  args,
  is,
  All-weaker (WillHaveRow r (ps ++ p ∷ [])) (WillHaveRow new ps) (λ d will. will-drop r new ps p d keeps has will) args all,
)

pub ready-drop : (s : Equations) (r new : Resolved) (ps : List Place) (p : Place) → ((d : ℕ) → row_of r d ≢ None → row_of new d ≢ None) → row_of new (cell_of p) ≢ None
    → AreReady s r (ps ++ p ∷ []) → AreReady s new ps
ready-drop s r new [] p keeps has ready = tt
ready-drop s r new (q ∷ ps) p keeps has ready =
    (ready_at-drop s r new ps q p keeps has ready.0, ready-drop s r new ps p keeps has ready.1)

-- a cell with a row adds no variable
pub order-row : (s : Equations) (r : Resolved) (table : List Term) (c : ℕ) → IsResolved s r table → row_of r c ≢ None → with_variables r.free (tree s c) ≡ r.free
order-row s r table c is has =
    let row = value_of (row_of r c) has in
    with_variables-known r.free (tree s c) (is.rows c row.0 row.1).variables

-- a visit ends where the cell has got its row, and its variables their numbers
pub comes-visited : (s : Equations) (a : ℕ) (first r new : Resolved) (table grown : List Term) (ps : List Place) (c : ℕ) → IsResolved s new grown
    → ((d : ℕ) → row_of r d ≢ None → row_of new d ≢ None) → row_of new c ≢ None → new.free ≡ with_variables r.free (tree s c)
    → Comes s a first r table (ps ++ Visit c ∷ []) → Comes s a first new grown ps
comes-visited s a first r new table grown ps c resolved keeps has order comes = record {
  resolved = resolved;
  ready = ready-drop s r new ps (Visit c) keeps has comes.ready;
  row = will-drop r new ps (Visit c) a keeps has comes.row;
  order = ap (λ vs. variables_after s vs ps) order ∙ sym (variables_after-append s r.free ps (Visit c ∷ [])) ∙ comes.order;
}

-- a cell is built where it has got its row
pub comes-built : (s : Equations) (a : ℕ) (first r new : Resolved) (table grown : List Term) (ps : List Place) (c : ℕ) → IsResolved s new grown
    → ((d : ℕ) → row_of r d ≢ None → row_of new d ≢ None) → row_of new c ≢ None → new.free ≡ r.free
    → Comes s a first r table (ps ++ Build c ∷ []) → Comes s a first new grown ps
comes-built s a first r new table grown ps c resolved keeps has order comes = record {
  resolved = resolved;
  ready = ready-drop s r new ps (Build c) keeps has comes.ready;
  row = will-drop r new ps (Build c) a keeps has comes.row;
  order = ap (λ vs. variables_after s vs ps) order ∙ sym (variables_after-append s r.free ps (Build c ∷ [])) ∙ comes.order;
}
