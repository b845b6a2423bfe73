-- How the term of a cell comes: the start, and each place in turn.
use Rattle.std.proofs.Common.{◌≡◌, ℕ, ◌<◌, inr, List, [], ◌∷◌, ◌++◌, length, refl, sym, ◌∙◌, ap, subst}
use Rattle.std.proofs.lemmas.List.{append-nil, append_assoc}
use Rattle.std.proofs.lemmas.List.Elements.{Contains-push}
use Rattle.pm_logic.specs.Term.{Term}
use Rattle.pm_store.specs.declared.resolver.Place.{Place}
use Rattle.pm_store.specs.declared.resolver.Place.TheVariants.{Visit}
use Rattle.pm_store.specs.Equations.{Equations}
use Rattle.pm_store.specs.Resolved.{Resolved, IsResolved, IsMore}
use Rattle.pm_store.specs.Inside.Pending.{IsReadyAt, AreReady, Comes}

pub more_none : (r : Resolved) (table : List Term) → IsMore r table r table
more_none r table = record {
  rows = ([], sym (append-nil r.rows));
  free = ([], sym (append-nil r.free));
  terms = ([], sym (append-nil table));
}

pub more_more : (r : Resolved) (table : List Term) (mid : Resolved) (between : List Term) (new : Resolved) (grown : List Term) → IsMore r table mid between
    → IsMore mid between new grown → IsMore r table new grown
more_more r table mid between new grown first then' = record {
  rows = (first.rows.0 ++ then'.rows.0, joined r.rows mid.rows new.rows first.rows.0 then'.rows.0 first.rows.1 then'.rows.1);
  free = (first.free.0 ++ then'.free.0, joined r.free mid.free new.free first.free.0 then'.free.0 first.free.1 then'.free.1);
  terms = (first.terms.0 ++ then'.terms.0, joined table between grown first.terms.0 then'.terms.0 first.terms.1 then'.terms.1);
}
  where
    joined : {A : Type 0} (xs ys zs us vs : List A) → ys ≡ xs ++ us → zs ≡ ys ++ vs → zs ≡ xs ++ (us ++ vs)
    joined xs ys zs us vs first' second = second ∙ ap (λ ws. ws ++ vs) first' ∙ append_assoc xs us vs

-- at first the cell is to be visited
pub comes_first : (s : Equations) (a : ℕ) (r : Resolved) (table : List Term) (ps : List Place) → a < length s.cells → IsResolved s r table → ps ≡ Visit a ∷ []
    → Comes s a r r table ps
comes_first s a r table ps within is first =
    subst (Comes s a r r table) (sym first) (record {
      resolved = is;
      ready = (within, tt);
      row = inr (Visit a, Contains-push [] (Visit a), refl);
      order = refl;
    })

-- the last place is ready
ready_last : (s : Equations) (r : Resolved) (ps : List Place) (p : Place) → AreReady s r (ps ++ p ∷ []) → IsReadyAt s r p []
ready_last s r [] p ready = ready.0
ready_last s r (q ∷ ps) p ready = ready_last s r ps p ready.1

pub comes_ready : (s : Equations) (a : ℕ) (first r : Resolved) (table : List Term) (before ps : List Place) (p : Place) → before ≡ ps ++ p ∷ []
    → Comes s a first r table before → IsReadyAt s r p []
comes_ready s a first r table before ps p popped comes = ready_last s r ps p (subst (AreReady s r) popped comes.ready)
