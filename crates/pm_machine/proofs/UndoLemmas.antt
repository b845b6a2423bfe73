-- What undoes a step gives what was there before it.
use Rattle.std.proofs.Common.{◌≡◌, ℕ, zero, suc, ◌+◌, ◌-◌, ◌≤◌, ◌<◌, List, [], ◌∷◌, ◌++◌, length, map, Option, Some, slice_get, take, drop, set, if◌then◌else◌, false, refl, sym, ◌∙◌, ap, ap₂, arith, subst}
use Rattle.std.specs.Option.{option_map_or}
use Rattle.std.proofs.lemmas.List.{length-append, length-drop}
use Rattle.pm_store.specs.Equations.{Equations}
use Rattle.pm_store.specs.Sound.{IsSound}
use Rattle.pm_store.specs.Marks.{counts_of, IsLater, at_mark}
use Rattle.pm_store.proofs.MarkLemmas.{marks_restore}
use Rattle.pm_logic.specs.Problem.{Problem}
use Rattle.pm_machine.specs.declared.tree.Taken.{Taken}
use Rattle.pm_machine.specs.State.{CellNode, IsOpen}
use Rattle.pm_machine.specs.Inside.Frames.{TreeValue, deepest, reopened, is_start, depth_at, reopened_nodes, nodes_before, branch_before, tree_before, CanUndo}
use Rattle.pm_machine.specs.Inside.History.{state_of, states_before, IsStanding, IsHistory}
use Rattle.pm_machine.proofs.TreeLemmas.{take_cut, one_at}
use Rattle.pm_machine.proofs.PlaceLemmas.{split_at, is_within, get_after, drop_past}

-- an open leaf is as it is when it is opened again
pub open_again : (node changed : CellNode) → IsOpen node → changed.depth ≡ node.depth → changed.literal ≡ node.literal → reopened changed ≡ node
open_again node changed is_open depth literal = λ k. record {
  depth = depth k;
  literal = literal k;
  clause = sym is_open.leaf k;
  closed_by = sym is_open.unclosed k;
}

length_cut : {A : Type 0} (n : ℕ) (xs ys : List A) → n ≤ length xs → length (take n xs ++ ys) ≡ n + length ys
length_cut zero xs ys within = omega arith
length_cut (suc n) [] ys within = absurd (omega (arith, within))
length_cut (suc n) (x ∷ xs) ys within = let rest = length_cut n xs ys (omega (arith, within)) in omega (arith, rest)

drop_kids : {A : Type 0} (ys zs : List A) → drop (length ys) (ys ++ zs) ≡ zs
drop_kids [] zs = refl
drop_kids (y ∷ ys) zs = drop_kids ys zs

-- the leaf in its place was changed, and others came in after it
module _ (old new : TreeValue) (node changed : CellNode) (kids : List CellNode) (t : Taken)
    (stands : slice_get old.nodes old.leaf ≡ Some node)
    (nodes : new.nodes ≡ take old.leaf old.nodes ++ changed ∷ (kids ++ drop (suc old.leaf) old.nodes))
    (again : reopened changed ≡ node) (later_step : is_start t.step ≡ false)
    (at : t.leaf ≡ old.leaf) (many : t.nodes ≡ length old.nodes)
    (branch : set new.branch (node.depth - 1) t.replaced ≡ old.branch) where
  abbrev rest : List CellNode
  rest = kids ++ drop (suc old.leaf) old.nodes

  within : old.leaf < length old.nodes
  within = is_within old.nodes old.leaf node stands

  fits : old.leaf ≤ length old.nodes
  fits = let less = within in omega (arith, less)

  reads_changed : slice_get new.nodes old.leaf ≡ Some changed
  reads_changed =
      let here : old.leaf ≡ old.leaf + 0 = omega arith in
      ap₂ (λ ns i. slice_get ns i) nodes here ∙ get_after old.leaf old.nodes (changed ∷ rest) 0 fits

  longer : length new.nodes ≡ length old.nodes + length kids
  longer =
      let cut = ap length nodes ∙ length_cut old.leaf old.nodes (changed ∷ rest) fits in
      let both = length-append kids (drop (suc old.leaf) old.nodes) in
      let left = length-drop (suc old.leaf) old.nodes in
      let less = within in
      omega (arith, cut, both, left, less)

  nodes_again : reopened_nodes old.leaf (length old.nodes) new.nodes ≡ old.nodes
  nodes_again =
      let added : suc old.leaf + (length new.nodes - length old.nodes) ≡ old.leaf + suc (length kids) = let more = longer in omega (arith, more) in
      let front : take old.leaf new.nodes ≡ take old.leaf old.nodes = ap (take old.leaf) nodes ∙ take_cut old.leaf old.nodes (changed ∷ rest) fits in
      let middle : map reopened (take 1 (drop old.leaf new.nodes)) ≡ node ∷ [] =
      ap (map reopened) (one_at new.nodes old.leaf changed reads_changed) ∙ ap (λ n. n ∷ []) again in
      let back : drop (suc old.leaf + (length new.nodes - length old.nodes)) new.nodes ≡ drop (suc old.leaf) old.nodes =
      ap₂ (λ i ns. drop i ns) added nodes
      ∙ drop_past old.leaf old.nodes (changed ∷ rest) (suc (length kids)) fits
      ∙ drop_kids kids (drop (suc old.leaf) old.nodes) in
      (λ k. front k ++ (middle k ++ back k)) ∙ sym (split_at old.nodes old.leaf node stands)

  deep : depth_at new.nodes old.leaf ≡ node.depth
  deep = ap (λ o. option_map_or (λ n. n.depth) o 0) reads_changed ∙ ap (λ n. n.depth) again

  -- the tree before the step is the one that it was taken at
  pub undoes_step : tree_before t old.taken new ≡ old
  undoes_step =
      let same_nodes : nodes_before t new.nodes ≡ old.nodes =
      ap (λ b. if b then [] else reopened_nodes t.leaf t.nodes new.nodes) later_step
      ∙ ap₂ (λ i n. reopened_nodes i n new.nodes) at many ∙ nodes_again in
      let same_branch : branch_before t new.nodes new.branch ≡ old.branch =
      ap (λ b. if b then new.branch else set new.branch (depth_at new.nodes t.leaf - 1) t.replaced) later_step
      ∙ ap (λ i. set new.branch (depth_at new.nodes i - 1) t.replaced) at
      ∙ ap (λ d. set new.branch (d - 1) t.replaced) deep ∙ branch in
      λ k. record { nodes = same_nodes k; branch = same_branch k; leaf = at k; taken = old.taken }

  pub can_undo : 1 ≤ node.depth → node.depth ≤ deepest → length new.branch ≡ deepest → CanUndo t new
  can_undo below above room = record {
    reopens = λ _. record {
      node = changed;
      stands = ap (λ i. slice_get new.nodes i) at ∙ reads_changed;
      below = let same = ap (λ n. n.depth) again in omega (arith, same, below);
      above = let same = ap (λ n. n.depth) again in subst (λ d. d ≤ deepest) (sym same) above;
      room = room;
      first = let less = within in omega (arith, at, many, less);
      within = let more = longer in omega (arith, many, more);
    };
  }

-- the step before which a tree was as it was, over a store that was at its mark
module _ (problem : Problem) (ground : List (Option ℕ)) (s later : Equations) (old new : TreeValue) (t : Taken)
    (taken : new.taken ≡ t ∷ old.taken) (undone : tree_before t old.taken new ≡ old) (can : CanUndo t new)
    (mark : t.mark ≡ counts_of s) (sound : IsSound s) (grown : IsLater s later) where
  restored : at_mark later t.mark ≡ s
  restored = marks_restore s later t.mark grown mark

  pub history_grows : IsHistory problem ground old.taken s old → IsStanding problem ground later new → IsHistory problem ground new.taken later new
  history_grows before standing =
      subst (λ ts. IsHistory problem ground ts later new) (sym taken) (
        standing,
        record { before = s; sound = sound; later = grown; counts = mark },
        can,
        subst (λ tree. IsHistory problem ground old.taken (at_mark later t.mark) tree) (sym undone)
            (subst (λ e. IsHistory problem ground old.taken e old) (sym restored) before),
      )

  pub states_grow : states_before new.taken later new ≡ state_of s old ∷ states_before old.taken s old
  states_grow =
      ap (λ ts. states_before ts later new) taken
      ∙ ap₂ (λ e tree. state_of e tree ∷ states_before old.taken e tree) restored undone
