-- What is pending when an application gives way to its building and to visits to its arguments.
use Rattle.std.proofs.Common.{◌≡◌, ℕ, ◌<◌, inl, inr, List, [], ◌∷◌, ◌++◌, length, Some, map, slice_get, refl, sym, ◌∙◌, ap, subst}
use Rattle.std.specs.Prelude.{All, Contains}
use Rattle.std.proofs.lemmas.List.{append_assoc}
use Rattle.std.proofs.lemmas.List.Elements.{All-weaker, All-cons, All-nil, All-head, All-tail, Contains-append_left, Contains-append_right, Contains-push, Contains-push_cases}
use Rattle.pm_logic.specs.Term.{Term, app, as_terms}
use Rattle.pm_store.specs.Entries.{Application}
use Rattle.pm_store.specs.declared.resolver.Place.{Place}
use Rattle.pm_store.specs.declared.resolver.Place.TheVariants.{Visit, Build}
use Rattle.pm_store.specs.Equations.{Equations, end_of}
use Rattle.pm_store.specs.Trees.{tree}
use Rattle.pm_store.specs.Resolved.{Resolved, with_variables}
use Rattle.pm_store.specs.Inside.Pending.{visits, variables_after, cell_of, WillHaveRow, IsReadyAt, AreReady, Comes}
use Rattle.pm_store.proofs.PendingLemmas.{variables_after-append, variables_after-visits}

will-replace : (r : Resolved) (ps qs : List Place) (p q : Place) → Contains qs q → cell_of q ≡ cell_of p → (d : ℕ) → WillHaveRow r (ps ++ p ∷ []) d → WillHaveRow r (ps ++ qs) d
will-replace r ps qs p q there alike d (inl has) = inl has
will-replace r ps qs p q there alike d (inr (x, among, same)) =
    elim (Contains-push_cases ps p x among) [
      | inl before ↦ inr (x, Contains-append_left ps qs x before, same)
      | inr last ↦ inr (q, Contains-append_right ps qs q there, alike ∙ ap cell_of last ∙ same)
    ]

ready_at-replace : (s : Equations) (r : Resolved) (ps qs : List Place) (x p q : Place) → Contains qs q → cell_of q ≡ cell_of p → IsReadyAt s r x (ps ++ p ∷ [])
    → IsReadyAt s r x (ps ++ qs)
ready_at-replace s r ps qs (Visit c) p q there alike within = within
ready_at-replace s r ps qs (Build c) p q there alike (within, symbol, args, is, all) =
    (within, symbol, args, is, All-weaker (WillHaveRow r (ps ++ p ∷ [])) (WillHaveRow r (ps ++ qs)) (will-replace r ps qs p q there alike) args all)

ready-replace : (s : Equations) (r : Resolved) (ps qs : List Place) (p q : Place) → Contains qs q → cell_of q ≡ cell_of p → AreReady s r (ps ++ p ∷ []) → AreReady s r qs
    → AreReady s r (ps ++ qs)
ready-replace s r [] qs p q there alike ready new = new
ready-replace s r (x ∷ ps) qs p q there alike ready new =
    (ready_at-replace s r ps qs x p q there alike ready.0, ready-replace s r ps qs p q there alike ready.1 new)

ready-push : (s : Equations) (r : Resolved) (ps : List Place) (c : ℕ) → AreReady s r ps → c < length s.cells → AreReady s r (ps ++ Visit c ∷ [])
ready-push s r [] c ready within = (within, tt)
ready-push s r (Visit d ∷ ps) c ready within = (ready.0, ready-push s r ps c ready.1 within)
ready-push s r (Build d ∷ ps) c ((below, symbol, args, is, all), ready) within =
    ((below, symbol, args, is, All-weaker (WillHaveRow r ps) (WillHaveRow r (ps ++ Visit c ∷ [])) (later ps) args all), ready-push s r ps c ready within)
  where
    later : (ps : List Place) (d : ℕ) → WillHaveRow r ps d → WillHaveRow r (ps ++ Visit c ∷ []) d
    later ps d (inl has) = inl has
    later ps d (inr (x, among, same)) = inr (x, Contains-append_left ps (Visit c ∷ []) x among, same)

ready-visits : (s : Equations) (r : Resolved) (cs : List ℕ) → All (λ c. c < length s.cells) cs → AreReady s r (visits cs)
ready-visits s r [] below = tt
ready-visits s r (c ∷ cs) below =
    ready-push s r (visits cs) c (ready-visits s r cs (All-tail (λ c. c < length s.cells) c cs below)) (All-head (λ c. c < length s.cells) c cs below)

will-visits : (r : Resolved) (cs : List ℕ) → All (WillHaveRow r (visits cs)) cs
will-visits r [] = All-nil (WillHaveRow r [])
will-visits r (c ∷ cs) =
    All-cons (WillHaveRow r (visits (c ∷ cs))) c cs (inr (Visit c, Contains-push (visits cs) (Visit c), refl))
    (All-weaker (WillHaveRow r (visits cs)) (WillHaveRow r (visits (c ∷ cs))) later cs (will-visits r cs))
  where
    later : (d : ℕ) → WillHaveRow r (visits cs) d → WillHaveRow r (visits cs ++ Visit c ∷ []) d
    later d (inl has) = inl has
    later d (inr (x, among, same)) = inr (x, Contains-append_left (visits cs) (Visit c ∷ []) x among, same)

pub comes-opened : (s : Equations) (a : ℕ) (first r : Resolved) (table : List Term) (ps : List Place) (c symbol : ℕ) (args : List ℕ) → c < length s.cells
    → slice_get s.cells (end_of s.bindings c) ≡ Some (Application symbol args) → All (λ arg. arg < length s.cells) args
    → tree s c ≡ app symbol (as_terms (map (tree s) args))
    → Comes s a first r table (ps ++ Visit c ∷ []) → Comes s a first r table ((ps ++ Build c ∷ []) ++ visits args)
comes-opened s a first r table ps c symbol args within is below shown comes =
    let qs : List Place = Build c ∷ visits args in
    let whole : (ps ++ Build c ∷ []) ++ visits args ≡ ps ++ qs = append_assoc ps (Build c ∷ []) (visits args) in
    let there : Contains qs (Build c) = Contains-append_left (Build c ∷ []) (visits args) (Build c) (Contains-push [] (Build c)) in
    subst (Comes s a first r table) (sym whole) (record {
      resolved = comes.resolved;
      ready = ready-replace s r ps qs (Visit c) (Build c) there refl comes.ready ((within, symbol, args, is, will-visits r args), ready-visits s r args below);
      row = will-replace r ps qs (Visit c) (Build c) there refl a comes.row;
      order = variables_after-append s r.free ps qs
          ∙ ap (λ vs. variables_after s vs ps) (variables_after-visits s r.free args ∙ ap (with_variables r.free) (sym shown))
          ∙ sym (variables_after-append s r.free ps (Visit c ∷ [])) ∙ comes.order;
    })
