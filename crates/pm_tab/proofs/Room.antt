-- A step for which there is room stays within the bound.
use Rattle.std.proofs.Common.{◌≡◌, ℕ, zero, suc, ◌+◌, ◌<◌, ◌≤◌, ◌⊎◌, inl, inr, Bool, true, false, cond, List, [], ◌∷◌, ◌++◌, length, Option, Some, refl, sym, ap, subst, arith}
use Rattle.pm_logic.specs.declared.tableau.BoundKind.{BoundKind}
use Rattle.pm_logic.specs.declared.tableau.BoundKind.TheVariants.{Depth, Inferences}
use Rattle.pm_logic.specs.Problem.{Literal, Clause}
use Rattle.pm_calculus.specs.Skeleton.{Face, Skeleton, unclosed, closed, extended, Skeletons, no_skeletons, more_skeletons, rooted, extend, reduce, Subgoal, depth_of, is_closed_below, extended_below, extended_among, selected_below, selected_among, selected, filled_below, filled_among, leaves, leaves_but, literals_at, extension, reduction, after_step}
use Rattle.pm_calculus.specs.Alternatives.{used}
use Rattle.pm_calculus.proofs.Growth.{one_deeper}
use Rattle.pm_calculus.proofs.Sizes.{tall_below, tall_among, size_built}

-- the selected leaf is in the first tree that isn't closed
which : (b : Bool) (later first : Option Subgoal) (leaf : Subgoal) → cond b later first ≡ Some leaf
    → ((b ≡ true) × (later ≡ Some leaf)) ⊎ ((b ≡ false) × (first ≡ Some leaf))
which true later first subgoal is = inl (refl, is)
which false later first subgoal is = inr (refl, is)

-- the trees of which one was filled
cond_is : {A : Type 0} (b : Bool) (x y : A) → b ≡ true → cond b x y ≡ x
cond_is true x y is = refl
cond_is false x y is = absurd cc

cond_not : {A : Type 0} (b : Bool) (x y : A) → b ≡ false → cond b x y ≡ y
cond_not true x y is = absurd cc
cond_not false x y is = refl

abbrev own_goal : List Face → Face → Subgoal
own_goal above face = record { above = above; face = face }

module _ (made : Subgoal → Skeleton) (subgoal : Subgoal) where
  -- the leaf lies no deeper than the trees
  mutual
    leaf_below : (d : ℕ) (above : List Face) (s : Skeleton) → d ≡ length above + 1 → selected_below above s ≡ Some subgoal → depth_of subgoal + 1 ≤ d + tall_below s
    leaf_below d above (unclosed face) is own =
        let same : own_goal above face ≡ subgoal = cc in
        subst (λ (g : Subgoal). depth_of g + 1 ≤ d + 1) same (omega (arith, is))
    leaf_below d above (closed face k) is own = absurd cc
    leaf_below d above (extended face c trees) is own = omega (arith, leaf_among (d + 1) (above ++ face ∷ []) trees (one_deeper d above face is) own)

    pub leaf_among : (d : ℕ) (above : List Face) (ss : Skeletons) → d ≡ length above + 1 → selected_among above ss ≡ Some subgoal → depth_of subgoal + 1 ≤ d + tall_among ss
    leaf_among d above no_skeletons is own = absurd cc
    leaf_among d above (more_skeletons s ss) is own =
        elim (which (is_closed_below s) (selected_among above ss) (selected_below above s) subgoal own) [
          | inl h ↦ omega (arith, leaf_among d above ss is h.1)
          | inr h ↦ omega (arith, leaf_below d above s is h.1)
        ]

  -- filled, they are no deeper than before and than what is put there
  mutual
    filled_deep : (m d : ℕ) (above : List Face) (s : Skeleton) → d ≡ length above + 1 → selected_below above s ≡ Some subgoal → d + tall_below s ≤ m
        → depth_of subgoal + tall_below (made subgoal) ≤ m → d + tall_below (filled_below made above s) ≤ m
    filled_deep m d above (unclosed face) is own old new =
        let same : own_goal above face ≡ subgoal = cc in
        let low : depth_of (own_goal above face) + tall_below (made (own_goal above face)) ≤ m =
        subst (λ (g : Subgoal). depth_of g + tall_below (made g) ≤ m) (sym same) new in
        omega (arith, is, low)
    filled_deep m d above (closed face k) is own old new = absurd cc
    filled_deep m d above (extended face c trees) is own old new =
        omega (arith, filled_deep_among m (d + 1) (above ++ face ∷ []) trees (one_deeper d above face is) own (omega (arith, old)) new)

    filled_deep_among : (m d : ℕ) (above : List Face) (ss : Skeletons) → d ≡ length above + 1 → selected_among above ss ≡ Some subgoal → d + tall_among ss ≤ m
        → depth_of subgoal + tall_below (made subgoal) ≤ m → d + tall_among (filled_among made above ss) ≤ m
    filled_deep_among m d above no_skeletons is own old new = absurd cc
    filled_deep_among m d above (more_skeletons s ss) is own old new =
        elim (which (is_closed_below s) (selected_among above ss) (selected_below above s) subgoal own) [
          | inl h ↦
              let rest = filled_deep_among m d above ss is h.1 (omega (arith, old)) new in
              subst (λ us. d + tall_among us ≤ m) (sym (cond_is (is_closed_below s) (more_skeletons s (filled_among made above ss)) (more_skeletons (filled_below made above s) ss) h.0))
              (omega (arith, old, rest))
          | inr h ↦
              let first = filled_deep m d above s is h.1 (omega (arith, old)) new in
              subst (λ us. d + tall_among us ≤ m) (sym (cond_not (is_closed_below s) (more_skeletons s (filled_among made above ss)) (more_skeletons (filled_below made above s) ss) h.0))
              (omega (arith, old, first))
        ]

  -- and have as many more instances as what is put there
  mutual
    filled_more : (above : List Face) (s : Skeleton) → selected_below above s ≡ Some subgoal
        → extended_below (filled_below made above s) ≡ extended_below s + extended_below (made subgoal)
    filled_more above (unclosed face) own =
        let same : own_goal above face ≡ subgoal = cc in
        let counted : extended_below (made (own_goal above face)) ≡ extended_below (made subgoal) = ap (λ (g : Subgoal). extended_below (made g)) same in
        omega (arith, counted)
    filled_more above (closed face k) own = absurd cc
    filled_more above (extended face c trees) own = omega (arith, filled_more_among (above ++ face ∷ []) trees own)

    pub filled_more_among : (above : List Face) (ss : Skeletons) → selected_among above ss ≡ Some subgoal
        → extended_among (filled_among made above ss) ≡ extended_among ss + extended_below (made subgoal)
    filled_more_among above no_skeletons own = absurd cc
    filled_more_among above (more_skeletons s ss) own =
        elim (which (is_closed_below s) (selected_among above ss) (selected_below above s) subgoal own) [
          | inl h ↦
              subst (λ us. extended_among us ≡ extended_below s + extended_among ss + extended_below (made subgoal))
              (sym (cond_is (is_closed_below s) (more_skeletons s (filled_among made above ss)) (more_skeletons (filled_below made above s) ss) h.0))
              (omega (arith, filled_more_among above ss h.1))
          | inr h ↦
              subst (λ us. extended_among us ≡ extended_below s + extended_among ss + extended_below (made subgoal))
              (sym (cond_not (is_closed_below s) (more_skeletons s (filled_among made above ss)) (more_skeletons (filled_below made above s) ss) h.0))
              (omega (arith, filled_more above s h.1))
        ]

  pub filled_within : (kind : BoundKind) (root bound : ℕ) (trees : Skeletons) → selected (rooted root trees) ≡ Some subgoal
      → size_built kind (rooted root trees) ≤ bound
      → tall_below (made subgoal) + depth_of subgoal ≤ bound + 1 ⊎ (kind ≡ Inferences)
      → extended_among trees + extended_below (made subgoal) + 1 ≤ bound ⊎ (kind ≡ Depth)
      → size_built kind (rooted root (filled_among made [] trees)) ≤ bound
  filled_within Depth root bound trees own small (inl deep) more =
      omega (arith, filled_deep_among (bound + 1) 1 [] trees refl own (omega (arith, small)) (omega (arith, deep)))
  filled_within Depth root bound trees own small (inr is) more = absurd cc
  filled_within Inferences root bound trees own small deep (inl more) = omega (arith, filled_more_among [] trees own, more)
  filled_within Inferences root bound trees own small deep (inr is) = absurd cc

pub leaves_low : (ls : List Literal) → tall_among (leaves ls) ≤ 1
leaves_low [] = omega arith
leaves_low (l ∷ ls) = omega (arith, leaves_low ls)

leaves_but_low : (j k : ℕ) (ls : List Literal) → tall_among (leaves_but j k ls) ≤ 1
leaves_but_low j k [] = omega arith
leaves_but_low zero k (l ∷ ls) = omega (arith, leaves_low ls)
leaves_but_low (suc j) k (l ∷ ls) = omega (arith, leaves_but_low j k ls)

pub leaves_none : (ls : List Literal) → extended_among (leaves ls) ≡ 0
leaves_none [] = refl
leaves_none (l ∷ ls) = omega (arith, leaves_none ls)

leaves_but_none : (j k : ℕ) (ls : List Literal) → extended_among (leaves_but j k ls) ≡ 0
leaves_but_none j k [] = refl
leaves_but_none zero k (l ∷ ls) = omega (arith, leaves_none ls)
leaves_but_none (suc j) k (l ∷ ls) = omega (arith, leaves_but_none j k ls)

-- an extension for which there is room is within the bound
pub extension_within : (kind : BoundKind) (clauses : List Clause) (root : ℕ) (trees : Skeletons) (leaf : Subgoal) (c j bound : ℕ)
    → selected (rooted root trees) ≡ Some leaf → size_built kind (rooted root trees) ≤ bound → used kind (rooted root trees) leaf < bound
    → size_built kind (after_step clauses (rooted root trees) (extend c j)) ≤ bound
extension_within Depth clauses root trees subgoal c j bound own small room =
    filled_within (extension clauses c j) subgoal Depth root bound trees own small
    (inl (omega (arith, room, leaves_but_low j (depth_of subgoal) (literals_at clauses c)))) (inr refl)
extension_within Inferences clauses root trees subgoal c j bound own small room =
    filled_within (extension clauses c j) subgoal Inferences root bound trees own small (inr refl)
    (inl (omega (arith, room, leaves_but_none j (depth_of subgoal) (literals_at clauses c))))

-- so is a reduction
pub reduction_within : (kind : BoundKind) (clauses : List Clause) (root : ℕ) (trees : Skeletons) (leaf : Subgoal) (k bound : ℕ)
    → selected (rooted root trees) ≡ Some leaf → size_built kind (rooted root trees) ≤ bound
    → size_built kind (after_step clauses (rooted root trees) (reduce k)) ≤ bound
reduction_within Depth clauses root trees subgoal k bound own small =
    filled_within (reduction k) subgoal Depth root bound trees own small
    (inl (omega (arith, small, leaf_among (reduction k) subgoal 1 [] trees refl own))) (inr refl)
reduction_within Inferences clauses root trees subgoal k bound own small =
    filled_within (reduction k) subgoal Inferences root bound trees own small (inr refl) (inl (omega (arith, small)))

-- the number of instances after an extension, and after a reduction
pub extension_counts : (clauses : List Clause) (root : ℕ) (trees : Skeletons) (leaf : Subgoal) (c j : ℕ) → selected (rooted root trees) ≡ Some leaf
    → extended_among (filled_among (extension clauses c j) [] trees) ≡ extended_among trees + 1
extension_counts clauses root trees subgoal c j own =
    omega (arith, filled_more_among (extension clauses c j) subgoal [] trees own, leaves_but_none j (depth_of subgoal) (literals_at clauses c))

pub reduction_counts : (root : ℕ) (trees : Skeletons) (leaf : Subgoal) (k : ℕ) → selected (rooted root trees) ≡ Some leaf
    → extended_among (filled_among (reduction k) [] trees) ≡ extended_among trees
reduction_counts root trees subgoal k own = omega (arith, filled_more_among (reduction k) subgoal [] trees own)
