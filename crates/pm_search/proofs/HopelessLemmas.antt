-- Lists beside one another that a space knows to be unreached.
use Rattle.std.proofs.Common.{◌≡◌, ℕ, ◌+◌, ◌-◌, ◌<◌, ◌≤◌, ◌∙◌, List, [], ◌∷◌, ◌++◌, length, get_or, set, sym, ap, subst, arith, inl, inr}
use Rattle.std.proofs.lemmas.Bool.{cases_lt}
use Rattle.std.proofs.lemmas.List.{set_at, set-set}
use Rattle.pm_space.specs.Key.{Key}
use Rattle.pm_choice.specs.declared.Bound.{Bound}
use Rattle.pm_choice.specs.Order.{PrecedesBound}
use Rattle.pm_choice.proofs.OrderLemmas.{below_bound}
use Rattle.pm_search.specs.Inside.Places.{AreHopeless}
use Rattle.pm_search.proofs.ListOrder.{beside}
use Rattle.pm_search.proofs.StepLemmas.{IsLast, last_is}

put_twice : (path place : List ℕ) (n choice first second : ℕ) → IsLast path n choice place → set (set place n first) n second ≡ path ++ second ∷ []
put_twice path place n choice first second last =
    set-set place n first second ∙ ap (λ (l : List ℕ). set l n second) last.is ∙ set_at path choice [] second n (sym last.index)

-- where the last of them is below the bound, all are
pub all_hopeless : (key : Key) (path place : List ℕ) (to : Bound) (last n choice hopeful count : ℕ) → place ≡ path ++ last ∷ [] → n ≡ length place - 1 → choice ≡ get_or place n choice
    → hopeful ≤ key.width path → ((k : ℕ) → choice ≤ k → k < hopeful → ¬ key.reached (path ++ k ∷ [])) → choice + count ≤ hopeful → 0 < count
    → PrecedesBound (set place n (choice + (count - 1))) to → AreHopeless key path place (set (set place n (choice + (count - 1))) n (choice + count)) to count
all_hopeless key path place to last n choice hopeful count is index read within hopeless up_to some before =
    let at_end = last_is path place last n choice is index read in
    let furthest : set place n (choice + (count - 1)) ≡ path ++ (choice + (count - 1)) ∷ [] =
    ap (λ (l : List ℕ). set l n (choice + (count - 1))) at_end.is ∙ set_at path choice [] (choice + (count - 1)) n (sym at_end.index) in
    let before' : PrecedesBound (path ++ (choice + (count - 1)) ∷ []) to = subst (λ (l : List ℕ). PrecedesBound l to) furthest before in
    record {
      choice = choice;
      first = at_end.is;
      beside = put_twice path place n choice (choice + (count - 1)) (choice + count) at_end;
      alternatives = omega arith;
      unreached = λ k low high. hopeless k low (omega arith);
      below = λ k low high. elim (cases_lt k (choice + (count - 1))) [
        | inl less ↦ below_bound (path ++ k ∷ []) (path ++ (choice + (count - 1)) ∷ []) to (beside path k (choice + (count - 1)) [] [] less) before'
        | inr more ↦
            let same : choice + (count - 1) ≡ k = omega arith in
            subst (λ (x : ℕ). PrecedesBound (path ++ x ∷ []) to) same before'
      ];
    }

-- the first of them alone
pub one_hopeless : (key : Key) (path place : List ℕ) (to : Bound) (last n choice hopeful other : ℕ) → place ≡ path ++ last ∷ [] → n ≡ length place - 1 → choice ≡ get_or place n choice
    → hopeful ≤ key.width path → ((k : ℕ) → choice ≤ k → k < hopeful → ¬ key.reached (path ++ k ∷ [])) → choice < hopeful
    → PrecedesBound place to → AreHopeless key path place (set (set place n other) n (choice + 1)) to 1
one_hopeless key path place to last n choice hopeful other is index read within hopeless some before =
    let at_end = last_is path place last n choice is index read in
    let before' : PrecedesBound (path ++ choice ∷ []) to = subst (λ (l : List ℕ). PrecedesBound l to) at_end.is before in
    record {
      choice = choice;
      first = at_end.is;
      beside = put_twice path place n choice other (choice + 1) at_end;
      alternatives = omega arith;
      unreached = λ k low high. hopeless k low (omega arith);
      below = λ k low high.
          let same : choice ≡ k = omega arith in
          subst (λ (x : ℕ). PrecedesBound (path ++ x ∷ []) to) same before';
    }
