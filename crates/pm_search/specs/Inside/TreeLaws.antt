-- The tree of the tests is a space.
use Rattle.std.specs.Prelude.{◌≡◌, ℕ, ◌-◌, ◌<◌, ◌≤◌, List, [], ◌∷◌, ◌++◌, length, Some}
use Rattle.std.proofs.Common.{arith, refl, sym, subst}
use Rattle.std.proofs.lemmas.List.{length_push}
use Rattle.std.proofs.lemmas.List.Elements.{All-pop, All-weaker}
use Rattle.std.proofs.lemmas.Bool.Decides.{nat_tests}
use Rattle.pm_space.specs.Key.{IsKey}
use Rattle.pm_search.specs.Inside.Tree.{IsInTree, tree_width, tree_key}

wide_inside :
    (branch depth : ℕ) (list : List ℕ) → length list < depth → tree_width branch depth list ≡ branch
wide_inside branch depth list less = grind (arith, nat_tests)

none_at_end :
    (branch depth : ℕ) (list : List ℕ) → length list ≡ depth → tree_width branch depth list ≡ 0
none_at_end branch depth list same = grind (arith, nat_tests)

shorter :
    (list : List ℕ) (choice depth : ℕ) → length (list ++ choice ∷ []) ≤ depth → length list < depth
shorter list choice depth short =
    let longer = length_push list choice in
    omega (arith, longer)

in_front :
    (branch depth least : ℕ) (list : List ℕ) (choice : ℕ)
    → IsInTree branch depth least (list ++ choice ∷ [])
    → IsInTree branch depth least list × (choice < branch) × (least ≤ choice)
in_front branch depth least list choice is =
    let from = All-pop (λ k. least ≤ k) (list ++ choice ∷ []) list (Some choice) refl is.from in
    let below = All-pop (λ k. k < branch) (list ++ choice ∷ []) list (Some choice) refl is.below in
    let less = shorter list choice depth is.short in
    (record { short = omega arith; from = from.0; below = below.0 }, below.1, from.1)

pub tree_laws :
    (branch depth least : ℕ) → 0 < depth → least < branch → IsKey (tree_key branch depth least)
tree_laws branch depth least deep wide = record {
  complete_reached = λ list last. record {
    short = omega (arith, last.long);
    from = All-weaker (λ k. k ≡ branch - 1) (λ k. least ≤ k) (λ k is. omega arith) list last.last;
    below = All-weaker (λ k. k ≡ branch - 1) (λ k. k < branch) (λ k is. omega arith) list last.last;
  };
  complete_chosen = λ last. absurd (omega (arith, last.long));
  complete_ends = λ list last. none_at_end branch depth list last.long;
  prefix = λ list choice is. (in_front branch depth least list choice is).0;
  below = λ list choice is.
      let wide = wide_inside branch depth list (shorter list choice depth is.short) in
      subst (λ (n : ℕ). choice < n) (sym wide) (in_front branch depth least list choice is).1;
}
