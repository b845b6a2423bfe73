-- What an insertion into a set of pairs of cells notes.
use Rattle.std.proofs.Common.{◌≡◌, ℕ, inr, Bool, true, false, not, ◌&&◌, List, [], ◌∷◌, ◌++◌, refl, sym, ◌∙◌, ap, ap₂, subst, if◌then◌else◌, eqb-true, true≢false}
use Rattle.std.specs.List.{list_any}
use Rattle.indexmap.specs.IndexSet.{insert_key}
use Rattle.indexmap.proofs.CallerLemmas.{Contains-list_any}
use Rattle.pm_store.specs.contracts.store.AddrPartialEq.TheImpl as addr_eq
use Rattle.pm_diseq.specs.Inside.Comparing.{MayNote}

both : (a b : Bool) → (a && b) ≡ true → (a ≡ true) × (b ≡ true)
both true b equal = (refl, equal)
both false b equal = absurd (true≢false (sym equal))

pub same_pair : (p q : ℕ × ℕ) → ((addr_eq.ghosts).eq p.0 q.0 && (addr_eq.ghosts).eq p.1 q.1) ≡ true → p ≡ q
same_pair p q equal =
    let parts = both ((addr_eq.ghosts).eq p.0 q.0) ((addr_eq.ghosts).eq p.1 q.1) equal in
    ap₂ (λ x y. (x, y)) (eqb-true p.0 q.0 parts.0) (eqb-true p.1 q.1 parts.1)

pub noted : (eq : ℕ × ℕ → ℕ × ℕ → Bool) → ((p q : ℕ × ℕ) → eq p q ≡ true → p ≡ q) → (before after : List (ℕ × ℕ)) (p : ℕ × ℕ) (r : Bool)
    → r ≡ not (list_any (eq p) before) → after ≡ insert_key eq before p → MayNote before p after r
noted eq same before after p r added keys = by (list_any (eq p) before) refl
  where
    by : (b : Bool) → list_any (eq p) before ≡ b → MayNote before p after r
    by true e =
        subst (λ (b : Bool). MayNote before p after b) (sym (added ∙ ap not e))
        (keys ∙ ap (λ b. if b then before else before ++ p ∷ []) e, Contains-list_any eq same before p e)
    by false e =
        subst (λ (b : Bool). MayNote before p after b) (sym (added ∙ ap not e))
        (inr (keys ∙ ap (λ b. if b then before else before ++ p ∷ []) e))
