-- Contexts: a whole tree round nodes that are still to be done, whose first unclosed leaf is theirs.
use Rattle.std.proofs.Common.{◌≡◌, ◌↔◌, ℕ, Bool, true, false, cond, ◌&&◌, List, [], ◌∷◌, ◌++◌, length, refl, ◌∙◌, ap, arith}
use Rattle.std.proofs.lemmas.List.{length_push}
use Rattle.pm_logic.specs.Problem.{Literal}
use Rattle.pm_logic.specs.Tableau.{Node, inner, Nodes, more_nodes, Tableau}
use Rattle.pm_calculus.specs.Skeleton.{Face, face_of, Skeleton, extended, Skeletons, more_skeletons, Subgoal, is_closed_below, are_closed_below, selected_below, selected_among, filled_below, filled_among}
use Rattle.pm_calculus.specs.Agreement.{AgreesBelow, AgreeAmong}

-- The tree with something in the place of a node. While that has an unclosed leaf it is selected,
-- and the tree agrees exactly where it does.
pub record Hole (t : Tableau) (above : List Literal) (faces : List Face) (n : Node) (plug : Skeleton → Skeletons) : Type 0 where
  pub own : length faces ≡ length above
  pub selects : (s : Skeleton) → is_closed_below s ≡ false → selected_among [] (plug s) ≡ selected_below faces s
  pub fills : (made : Subgoal → Skeleton) (s : Skeleton) → is_closed_below s ≡ false → filled_among made [] (plug s) ≡ plug (filled_below made faces s)
  pub agrees : (s : Skeleton) → AgreeAmong [] (plug s) t.children ↔ AgreesBelow above s n

-- the same in the place of the last nodes of a family
pub record Holes (t : Tableau) (above : List Literal) (faces : List Face) (ns : Nodes) (plug : Skeletons → Skeletons) : Type 0 where
  pub own : length faces ≡ length above
  pub selects : (ss : Skeletons) → are_closed_below ss ≡ false → selected_among [] (plug ss) ≡ selected_among faces ss
  pub fills : (made : Subgoal → Skeleton) (ss : Skeletons) → are_closed_below ss ≡ false → filled_among made [] (plug ss) ≡ plug (filled_among made faces ss)
  pub agree : (ss : Skeletons) → AgreeAmong [] (plug ss) t.children ↔ AgreeAmong above ss ns

pub whole_tree : (t : Tableau) → Holes t [] [] t.children (λ ss. ss)
whole_tree t = record { own = refl; selects = λ ss o. refl; fills = λ made ss o. refl; agree = λ ss. (λ h. h, λ h. h) }

pub children_hole : (t : Tableau) (above : List Literal) (faces : List Face) (l : Literal) (c : ℕ) (ns : Nodes) (plug : Skeleton → Skeletons)
    → Hole t above faces (inner l c ns) plug → Holes t (above ++ l ∷ []) (faces ++ face_of l ∷ []) ns (λ ss. plug (extended (face_of l) c ss))
children_hole t above faces l c ns plug h = record {
  own = omega (arith, length_push above l, length_push faces (face_of l), h.own);
  selects = λ ss o. h.selects (extended (face_of l) c ss) o;
  fills = λ made ss o. h.fills made (extended (face_of l) c ss) o;
  agree = λ ss. (λ a. ((h.agrees (extended (face_of l) c ss)).0 a).2, λ a. (h.agrees (extended (face_of l) c ss)).1 (refl, refl, a));
}

and_false : (a b : Bool) → a ≡ false → a && b ≡ false
and_false true b h = cc
and_false false b h = refl

and_first : (a b : Bool) → a ≡ true → b ≡ false → a && b ≡ false
and_first true b h k = k
and_first false b h k = refl

pub first_hole : (t : Tableau) (above : List Literal) (faces : List Face) (n : Node) (ns : Nodes) (plug : Skeletons → Skeletons) (others : Skeletons)
    → AgreeAmong above others ns → Holes t above faces (more_nodes n ns) plug → Hole t above faces n (λ s. plug (more_skeletons s others))
first_hole t above faces n ns plug others fit h = record {
  own = h.own;
  selects = λ s o. h.selects (more_skeletons s others) (and_false (is_closed_below s) (are_closed_below others) o)
      ∙ ap (λ b. cond b (selected_among faces others) (selected_below faces s)) o;
  fills = λ made s o. h.fills made (more_skeletons s others) (and_false (is_closed_below s) (are_closed_below others) o)
      ∙ ap (λ b. plug (cond b (more_skeletons s (filled_among made faces others)) (more_skeletons (filled_below made faces s) others))) o;
  agrees = λ s. (λ a. ((h.agree (more_skeletons s others)).0 a).0, λ a. (h.agree (more_skeletons s others)).1 (a, fit));
}

pub others_hole : (t : Tableau) (above : List Literal) (faces : List Face) (n : Node) (ns : Nodes) (plug : Skeletons → Skeletons) (s : Skeleton)
    → is_closed_below s ≡ true → AgreesBelow above s n → Holes t above faces (more_nodes n ns) plug → Holes t above faces ns (λ ss. plug (more_skeletons s ss))
others_hole t above faces n ns plug s done fit h = record {
  own = h.own;
  selects = λ ss o. h.selects (more_skeletons s ss) (and_first (is_closed_below s) (are_closed_below ss) done o)
      ∙ ap (λ b. cond b (selected_among faces ss) (selected_below faces s)) done;
  fills = λ made ss o. h.fills made (more_skeletons s ss) (and_first (is_closed_below s) (are_closed_below ss) done o)
      ∙ ap (λ b. plug (cond b (more_skeletons s (filled_among made faces ss)) (more_skeletons (filled_below made faces s) ss))) done;
  agree = λ ss. (λ a. ((h.agree (more_skeletons s ss)).0 a).1, λ a. (h.agree (more_skeletons s ss)).1 (fit, a));
}
