-- The cell at the end of bindings, and how far it is.
use Rattle.std.proofs.Common.{◌≡◌, ℕ, ◌+◌, ◌<◌, ◌≤◌, inl, inr, ◌==◌, if◌then◌else◌, List, [], ◌∷◌, length, Some, None, refl, sym, ◌∙◌, ap, subst, arith}
use Rattle.std.specs.Prelude.{All}
use Rattle.std.proofs.lemmas.Bool.{cases_eq}
use Rattle.std.proofs.lemmas.List.Elements.{All-head, All-tail}
use Rattle.std.proofs.lemmas.Option.{slice_get_within}
use Rattle.pm_logic.specs.Term.{Term, var}
use Rattle.pm_store.specs.Entries.{Entry, Variable}
use Rattle.pm_store.specs.Equations.{Binding, Equations, target_of, end_of}
use Rattle.pm_store.specs.Trees.{tree, Occurs}
use Rattle.pm_store.specs.Sound.{PointDown, CanBind, AreMade, IsSound}
use Rattle.pm_store.proofs.ListLemmas.{if_same, if_other}
use Rattle.pm_store.proofs.TreeLemmas.{unbound_in_tail, free_variables_stand, trees_solve}

-- where the variables and the targets of bindings have the same trees, so have a cell and its end
pub end_of-solved : (bs : List Binding) (trees : ℕ → Term) → All (λ b. trees b.variable ≡ trees b.target) bs → (c : ℕ) → trees c ≡ trees (end_of bs c)
end_of-solved [] trees same c = refl
end_of-solved (b ∷ bs) trees same c =
    let equal : Binding → Type 0 = λ b'. trees b'.variable ≡ trees b'.target in
    let first : trees b.variable ≡ trees b.target = All-head equal b bs same in
    let rest : All equal bs = All-tail equal b bs same in
    let so_far : trees c ≡ trees (end_of bs c) = end_of-solved bs trees rest c in
    let onward : trees b.target ≡ trees (end_of bs b.target) = end_of-solved bs trees rest b.target in
    elim (cases_eq (end_of bs c) b.variable) [
      | inl e ↦ so_far ∙ ap trees e ∙ first ∙ onward ∙ ap trees (sym (if_same (end_of bs c) b.variable (end_of bs b.target) (end_of bs c) e))
      | inr ne ↦ so_far ∙ ap trees (sym (if_other (end_of bs c) b.variable (end_of bs b.target) (end_of bs c) ne))
    ]

-- a cell that isn't bound is its own end
pub end_of-unbound : (bs : List Binding) (c : ℕ) → target_of bs c ≡ None → end_of bs c ≡ c
end_of-unbound [] c unbound = refl
end_of-unbound (b ∷ bs) c unbound =
    let parts = unbound_in_tail b bs c unbound in
    let here : end_of bs c ≡ c = end_of-unbound bs c parts.1 in
    if_other (end_of bs c) b.variable (end_of bs b.target) (end_of bs c) (λ e. parts.0 (sym e ∙ here)) ∙ here

-- what a bound cell is bound to: the first binding's target, or what it is bound to in the others
bound_cases : {P : Type 0} (b : Binding) (bs : List Binding) (c d : ℕ) → target_of (b ∷ bs) c ≡ Some d
    → (b.variable ≡ c → b.target ≡ d → P) → (target_of bs c ≡ Some d → P) → P
bound_cases b bs c d bound here there =
    elim (cases_eq b.variable c) [
      | inl e ↦ here e (inside (sym (if_same b.variable c (Some b.target) (target_of bs c) e) ∙ bound))
      | inr ne ↦ there (sym (if_other b.variable c (Some b.target) (target_of bs c) ne) ∙ bound)
    ]
  where
    inside : Some b.target ≡ Some d → b.target ≡ d
    inside e = cc

pub target_within : (cells : List Entry) (bs : List Binding) (c d : ℕ) → AreMade cells bs → target_of bs c ≡ Some d → d < length cells
target_within cells [] c d made bound = absurd cc
target_within cells (b ∷ bs) c d made bound =
    bound_cases b bs c d bound
    (λ e same. subst (λ (n : ℕ). n < length cells) same made.0.within)
    (λ later. target_within cells bs c d made.1 later)

-- a bound variable and its target have the same end
pub end_of-target : (cells : List Entry) (bs : List Binding) (c d : ℕ) → AreMade cells bs → target_of bs c ≡ Some d → end_of bs c ≡ end_of bs d
end_of-target cells [] c d made bound = absurd cc
end_of-target cells (b ∷ bs) c d made bound =
    let next : ℕ → ℕ = λ n. if n == b.variable then end_of bs b.target else n in
    bound_cases b bs c d bound
    (λ e same.
    let here : end_of bs c ≡ b.variable = ap (end_of bs) (sym e) ∙ end_of-unbound bs b.variable made.0.free.unbound in
    if_same (end_of bs c) b.variable (end_of bs b.target) (end_of bs c) here
    ∙ sym (either (end_of bs b.target) b.variable)
    ∙ ap (λ n. next (end_of bs n)) same)
    (λ later. ap next (end_of-target cells bs c d made.1 later))
  where
    either : (n v : ℕ) → (if n == v then n else n) ≡ n
    either n v = elim (cases_eq n v) [ inl e ↦ if_same n v n n e | inr ne ↦ if_other n v n n ne ]

-- a cell beyond the cells isn't bound
pub unbound_beyond : (cells : List Entry) (bs : List Binding) (v : ℕ) → AreMade cells bs → length cells ≤ v → target_of bs v ≡ None
unbound_beyond cells [] v made beyond = refl
unbound_beyond cells (b ∷ bs) v made beyond =
    if_other b.variable v (Some b.target) (target_of bs v)
    (apart b.variable v (length cells) (slice_get_within cells b.variable Variable made.0.free.variable) beyond)
    ∙ unbound_beyond cells bs v made.1 beyond
  where
    apart : (m n k : ℕ) → m < k → k ≤ n → m ≡ n → ⊥
    apart m n k lt le e = omega arith

-- the variable of a binding isn't at the end of its target's bindings
pub end_of-apart : (s : Equations) (v t : ℕ) → IsSound s → CanBind s v t → end_of s.bindings t ≡ v → ⊥
end_of-apart s v t sound can cycle =
    let same : tree s t ≡ var v =
    end_of-solved s.bindings (tree s) (trees_solve s sound).bindings t ∙ ap (tree s) cycle ∙ free_variables_stand s v sound can.free in
    can.apart (subst (λ (u : Term). Occurs v u) (sym same) refl)

-- how many bindings lead from a cell to its end
abbrev pub steps : List Binding → ℕ → ℕ
steps [] c = 0
steps (b ∷ bs) c = if end_of bs c == b.variable then steps bs c + 1 + steps bs b.target else steps bs c

pub steps-target : (cells : List Entry) (bs : List Binding) (c d : ℕ) → PointDown 0 cells → AreMade cells bs → target_of bs c ≡ Some d → steps bs d < steps bs c
steps-target cells [] c d down made bound = absurd cc
steps-target cells (b ∷ bs) c d down made bound =
    let before : Equations = record { cells = cells; bindings = bs } in
    let sound : IsSound before = record { down = down; made = made.1 } in
    let apart : end_of bs b.target ≡ b.variable → ⊥ = end_of-apart before b.variable b.target sound made.0 in
    bound_cases b bs c d bound
    (λ e same.
    let here : end_of bs c ≡ b.variable = ap (end_of bs) (sym e) ∙ end_of-unbound bs b.variable made.0.free.unbound in
    let from : steps (b ∷ bs) c ≡ steps bs c + 1 + steps bs b.target =
    if_same (end_of bs c) b.variable (steps bs c + 1 + steps bs b.target) (steps bs c) here in
    let to : steps (b ∷ bs) b.target ≡ steps bs b.target =
    if_other (end_of bs b.target) b.variable (steps bs b.target + 1 + steps bs b.target) (steps bs b.target) apart in
    let less : steps (b ∷ bs) b.target < steps (b ∷ bs) c = more (steps (b ∷ bs) b.target) (steps (b ∷ bs) c) (steps bs c) (steps bs b.target) to from in
    subst (λ (n : ℕ). steps (b ∷ bs) n < steps (b ∷ bs) c) same less)
    (λ later.
    let ends : end_of bs c ≡ end_of bs d = end_of-target cells bs c d made.1 later in
    let less : steps bs d < steps bs c = steps-target cells bs c d down made.1 later in
    elim (cases_eq (end_of bs c) b.variable) [
      | inl e ↦ both (steps (b ∷ bs) d) (steps (b ∷ bs) c) (steps bs d) (steps bs c) (1 + steps bs b.target) less
          (if_same (end_of bs d) b.variable (steps bs d + 1 + steps bs b.target) (steps bs d) (sym ends ∙ e) ∙ regroup (steps bs d) (steps bs b.target))
          (if_same (end_of bs c) b.variable (steps bs c + 1 + steps bs b.target) (steps bs c) e ∙ regroup (steps bs c) (steps bs b.target))
      | inr ne ↦ both (steps (b ∷ bs) d) (steps (b ∷ bs) c) (steps bs d) (steps bs c) 0 less
          (if_other (end_of bs d) b.variable (steps bs d + 1 + steps bs b.target) (steps bs d) (λ e. ne (ends ∙ e)) ∙ nothing (steps bs d))
          (if_other (end_of bs c) b.variable (steps bs c + 1 + steps bs b.target) (steps bs c) ne ∙ nothing (steps bs c))
    ])
  where
    more : (m n p q : ℕ) → m ≡ q → n ≡ p + 1 + q → m < n
    more m n p q to from = omega arith

    both : (m n p q k : ℕ) → p < q → m ≡ p + k → n ≡ q + k → m < n
    both m n p q k less to from = omega arith

    regroup : (m n : ℕ) → m + 1 + n ≡ m + (1 + n)
    regroup m n = omega arith

    nothing : (m : ℕ) → m ≡ m + 0
    nothing m = omega arith
