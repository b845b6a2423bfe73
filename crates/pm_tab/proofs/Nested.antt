-- Nodes in pre-order may be added one after the other.
use Rattle.std.proofs.Common.{◌≡◌, ℕ, ◌+◌, ◌≤◌, List, [], ◌∷◌, ◌++◌, refl, sym, ap, subst, arith}
use Rattle.std.proofs.lemmas.List.{append_assoc, append-nil}
use Rattle.pm_logic.specs.Tableau.{Node, leaf, inner, Nodes, no_nodes, more_nodes, Entry, preorder_of, preorder_among, deepest_after, deepest_next}
use Rattle.pm_tab.specs.Inside.Drawing.{AreNested}

mutual
  nested_below : (bound d : ℕ) (n : Node) (rest : List Entry) → 1 ≤ d → d ≤ bound → ((b : ℕ) → d ≤ b → AreNested b rest)
      → AreNested bound (preorder_of d n ++ rest)
  nested_below bound d (leaf literal) rest low within later = (low, within, later d (omega arith))
  nested_below bound d (inner literal clause children) rest low within later =
      (low, within, nested_among (d + 1) (d + 1) children rest (omega (arith, low)) (omega arith) (λ b le. later b (omega (arith, le))))

  nested_among : (bound d : ℕ) (ns : Nodes) (rest : List Entry) → 1 ≤ d → d ≤ bound → ((b : ℕ) → d ≤ b → AreNested b rest)
      → AreNested bound (preorder_among d ns ++ rest)
  nested_among bound d no_nodes rest low within later = later bound within
  nested_among bound d (more_nodes n ns) rest low within later =
      subst (AreNested bound) (sym (append_assoc (preorder_of d n) (preorder_among d ns) rest))
      (nested_below bound d n (preorder_among d ns ++ rest) low within (λ b le. nested_among b d ns rest low le later))

pub nested_preorder : (ns : Nodes) → AreNested 1 (preorder_among 1 ns)
nested_preorder ns =
    subst (AreNested 1) (append-nil (preorder_among 1 ns)) (nested_among 1 1 ns [] (omega arith) (omega arith) (λ b le. tt))

-- the depth that the next entry may have, after a first bound
next_from : (bound : ℕ) (before : List Entry) (e : Entry) (after : List Entry) → AreNested bound (before ++ e ∷ after)
    → (last : ℕ) → ((before ≡ []) → last ≡ bound) → ((f : Entry) (fs : List Entry) → before ≡ f ∷ fs → last ≡ deepest_next before)
    → (1 ≤ e.depth) × (e.depth ≤ last)
next_from bound [] e after h last none some = (h.0, subst (λ n. e.depth ≤ n) (sym (none refl)) h.1)
next_from bound (f ∷ []) e after h last none some =
    (h.2.0, subst (λ n. e.depth ≤ n) (sym (some f [] refl)) h.2.1)
next_from bound (f ∷ g ∷ before) e after h last none some =
    next_from (deepest_after f.kind f.depth) (g ∷ before) e after h.2 last (λ is. absurd cc) (λ k ks is. some f (g ∷ before) refl)

pub nested_at : (before : List Entry) (e : Entry) (after : List Entry) → AreNested 1 (before ++ e ∷ after)
    → (1 ≤ e.depth) × (e.depth ≤ deepest_next before)
nested_at before e after h = next_from 1 before e after h (deepest_next before) (λ none. ap deepest_next none) (λ f fs is. refl)
