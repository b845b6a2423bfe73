-- What an insertion into a set of cells or pairs notes.
use Rattle.std.proofs.Common.{◌≡◌, ℕ, inr, Bool, true, false, not, ◌&&◌, List, [], ◌∷◌, ◌++◌, refl, sym, ◌∙◌, ap, ap₂, subst, if◌then◌else◌, eqb-true, true≢false}
use Rattle.std.specs.List.{list_any}
use Rattle.indexmap.specs.IndexSet.{insert_key}
use Rattle.indexmap.proofs.CallerLemmas.{Contains-list_any}
use Rattle.pm_store.specs.contracts.store.AddrPartialEq.TheImpl as addr_eq
use Rattle.pm_unify.specs.Inside.Support.{Notes}

module _ {A : Type 0} (eq : A → A → Bool) (same : (x y : A) → eq x y ≡ true → x ≡ y) where
  pub notes : (before after : List A) (x : A) (r : Bool) → r ≡ not (list_any (eq x) before) → after ≡ insert_key eq before x → Notes before after x r
  notes before after x r added keys = by (list_any (eq x) before) refl
    where
      by : (b : Bool) → list_any (eq x) before ≡ b → Notes before after x r
      by true e =
          subst (λ (b : Bool). Notes before after x b) (sym (added ∙ ap not e))
          (keys ∙ ap (λ b. if b then before else before ++ x ∷ []) e, Contains-list_any eq same before x e)
      by false e =
          subst (λ (b : Bool). Notes before after x b) (sym (added ∙ ap not e))
          (inr (keys ∙ ap (λ b. if b then before else before ++ x ∷ []) e))

pub same_cell : (x y : ℕ) → (addr_eq.ghosts).eq x y ≡ true → x ≡ y
same_cell x y equal = eqb-true x y equal

both : (a b : Bool) → (a && b) ≡ true → (a ≡ true) × (b ≡ true)
both true b equal = (refl, equal)
both false b equal = absurd (true≢false (sym equal))

pub same_pair : (p q : ℕ × ℕ) → ((addr_eq.ghosts).eq p.0 q.0 && (addr_eq.ghosts).eq p.1 q.1) ≡ true → p ≡ q
same_pair p q equal =
    let parts = both ((addr_eq.ghosts).eq p.0 q.0) ((addr_eq.ghosts).eq p.1 q.1) equal in
    ap₂ (λ x y. (x, y)) (same_cell p.0 q.0 parts.0) (same_cell p.1 q.1 parts.1)
