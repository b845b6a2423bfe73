-- Trees are finite: a variable can't have the tree of a term in which it occurs.
use Rattle.std.proofs.Common.{◌≡◌, ℕ, ◌+◌, ◌≤◌, inl, inr, sym, ◌∙◌, ap, subst, arith}
use Rattle.pm_logic.specs.Term.{Term, var, app, Terms, no_terms, more_terms}
use Rattle.pm_logic.specs.Filling.{fill, fill_among}
use Rattle.pm_store.specs.Trees.{tree, Occurs, OccursAmong, size, size_among}
use Rattle.pm_store.specs.Laws.{CyclesHaveNoSolution}
use Rattle.pm_store.proofs.TreeLemmas.{trees_are_general}

-- a variable's tree is no larger than that of a term in which it occurs
mutual
  size-fill : (trees : ℕ → Term) (v : ℕ) (u : Term) → Occurs v u → size (trees v) ≤ size (fill trees u)
  size-fill trees v (var n) occurs = subst (λ (m : ℕ). size (trees v) ≤ size (trees m)) occurs (same (size (trees v)))
    where
      same : (n : ℕ) → n ≤ n
      same n = omega arith
  size-fill trees v (app symbol us) occurs = omega (arith, size_among-fill trees v us occurs)

  size_among-fill : (trees : ℕ → Term) (v : ℕ) (us : Terms) → OccursAmong v us → size (trees v) ≤ size_among (fill_among trees us)
  size_among-fill trees v no_terms occurs = absurd occurs
  size_among-fill trees v (more_terms u us) (inl here) = omega (arith, size-fill trees v u here)
  size_among-fill trees v (more_terms u us) (inr later) = omega (arith, size_among-fill trees v us later)

no_cycle : (trees : ℕ → Term) (v : ℕ) (u : Term) → Occurs v u → (u ≡ var v → ⊥) → trees v ≡ fill trees u → ⊥
no_cycle trees v (var n) occurs apart same = apart (ap var (sym occurs))
no_cycle trees v (app symbol us) occurs apart same =
    larger (size (trees v)) (size_among (fill_among trees us)) (ap size same) (size_among-fill trees v us occurs)
  where
    larger : (m n : ℕ) → m ≡ 1 + n → m ≤ n → ⊥
    larger m n is le = omega arith

pub cycles_have_no_solution : CyclesHaveNoSolution
cycles_have_no_solution s v t sound within occurs apart trees solves same =
    no_cycle trees v (tree s t) occurs apart (same ∙ trees_are_general s trees sound solves t within)
