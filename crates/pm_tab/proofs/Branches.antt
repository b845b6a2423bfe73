-- The places of a branch.
use Rattle.std.proofs.Common.{◌≡◌, ℕ, suc, ◌<◌, inl, inr, ◌⊎◌, Option, Some, None, ap, List, [], ◌∷◌, ◌++◌, length, slice_get, refl, sym, ◌∙◌, subst, arith}
use Rattle.std.specs.Prelude.{All}
use Rattle.std.proofs.lemmas.List.Elements.{All-nil, All-append, All-cons}
use Rattle.std.proofs.lemmas.List.{length-append}
use Rattle.pm_machine.specs.State.{CellNode, IsOpen, IsSelected}
use Rattle.pm_tab.specs.Repeats.{IsBranchOf, NotesBranch, last_of}

-- the end of a branch
pub end_of : (above : List ℕ) (q : ℕ) → last_of (above ++ q ∷ []) ≡ q
end_of [] q = refl
end_of (p ∷ []) q = refl
end_of (p ∷ r ∷ above) q = end_of (r ∷ above) q

-- items that are each in their place
each_place : (xs : List ℕ) (P : ℕ → Type 0) → ((i x : ℕ) → slice_get xs i ≡ Some x → P x) → All P xs
each_place [] P each = All-nil P
each_place (x ∷ xs) P each = All-cons P x xs (each 0 x refl) (each_place xs P (λ i y is. each (suc i) y is))

pub branch_within : (nodes before : List CellNode) (leaf : CellNode) (places : List ℕ) → IsBranchOf nodes before leaf places
    → (count : ℕ) → length before < count → All (λ place. place < count) places
branch_within nodes before leaf places noted count less =
    subst (All (λ place. place < count)) (sym noted.whole)
    (All-append (λ place. place < count) noted.above (length before ∷ [])
    (each_place noted.above (λ place. place < count) (λ i x is. let h = (noted.each i x is).0 in omega (arith, h, less)))
    (All-cons (λ place. place < count) (length before) [] less (All-nil (λ place. place < count))))

-- a leaf is selected, or none is open
open_or_not : (node : CellNode) → IsOpen node ⊎ (¬ IsOpen node)
open_or_not node = by node.clause refl node.closed_by refl
  where
    clash : (n : ℕ) (o : Option ℕ) → o ≡ Some n → o ≡ None → ⊥
    clash n o some none = let both : Some n ≡ None = sym some ∙ none in absurd cc

    by : (clause : Option ℕ) → node.clause ≡ clause → (closed : Option ℕ) → node.closed_by ≡ closed → IsOpen node ⊎ (¬ IsOpen node)
    by None leaf None unclosed = inl (record { leaf = leaf; unclosed = unclosed })
    by None leaf (Some k) closed = inr (λ o. clash k node.closed_by closed o.unclosed)
    by (Some c) inner closed is = inr (λ o. clash c node.clause inner o.leaf)

abbrev HasSelected : List CellNode → Type 0
HasSelected nodes = (before : List CellNode) × (leaf : CellNode) × (after : List CellNode) × IsSelected nodes before leaf after

selected_or_none : (nodes : List CellNode) → HasSelected nodes ⊎ All (λ node. ¬ IsOpen node) nodes
selected_or_none [] = inr (All-nil (λ (node : CellNode). ¬ IsOpen node))
selected_or_none (n ∷ ns) = by (open_or_not n) (selected_or_none ns)
  where
    by : IsOpen n ⊎ (¬ IsOpen n) → HasSelected ns ⊎ All (λ node. ¬ IsOpen node) ns → HasSelected (n ∷ ns) ⊎ All (λ node. ¬ IsOpen node) (n ∷ ns)
    by (inl own) rest = inl ([], n, ns, record { stands = refl; unclosed = own; first = All-nil (λ (node : CellNode). ¬ IsOpen node) })
    by (inr shut) (inl (before, leaf, after, chosen)) = inl (
      n ∷ before,
      leaf,
      after,
      record {
        stands = ap (λ nodes. n ∷ nodes) chosen.stands;
        unclosed = chosen.unclosed;
        first = All-cons (λ (node : CellNode). ¬ IsOpen node) n before shut chosen.first;
      },
    )
    by (inr shut) (inr none) = inr (All-cons (λ (node : CellNode). ¬ IsOpen node) n ns shut none)

-- the places of a branch are those of nodes
pub branch_low : (nodes : List CellNode) (places : List ℕ) → NotesBranch nodes places → All (λ place. place < length nodes) places
branch_low nodes places notes = by (selected_or_none nodes)
  where
    by : HasSelected nodes ⊎ All (λ node. ¬ IsOpen node) nodes → All (λ place. place < length nodes) places
    by (inl (before, leaf, after, chosen)) =
        branch_within nodes before leaf places (notes.some before leaf after chosen) (length nodes)
        (omega (arith, ap length chosen.stands, length-append before (leaf ∷ after)))
    by (inr none) = subst (All (λ place. place < length nodes)) (sym (notes.none none)) (All-nil (λ place. place < length nodes))
