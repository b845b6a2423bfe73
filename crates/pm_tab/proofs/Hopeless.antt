-- What has a labelling is hopeful at sight.
use Rattle.std.proofs.Common.{◌≡◌, ℕ, ◌+◌, ◌<◌, inl, inr, Bool, true, false, not, List, [], ◌∷◌, ◌++◌, length, map, Option, Some, None, option_map, slice_get, refl, sym, ◌∙◌, ap, subst}
use Rattle.std.specs.Prelude.{option_and_then}
use Rattle.std.specs.Option.{option_map_or}
use Rattle.std.proofs.lemmas.Option.{slice_get-map}
use Rattle.pm_logic.specs.Term.{Term, var, app}
use Rattle.pm_logic.specs.Filling.{fill}
use Rattle.pm_logic.specs.Problem.{Literal, Clause, Problem, IsValid}
use Rattle.pm_logic.specs.Tableau.{Tableau}
use Rattle.pm_store.specs.Equations.{Equations}
use Rattle.pm_store.specs.Solutions.{Solves}
use Rattle.pm_store.specs.Sound.{IsSound}
use Rattle.pm_store.specs.Trees.{tree}
use Rattle.pm_store.proofs.TreeLemmas.{trees_are_general}
use Rattle.pm_run.specs.State.{CellLiteral}
use Rattle.pm_run.specs.InStore.{AreBelow, HasArgsBelow}
use Rattle.pm_run.specs.Steps.{HasFilledArgs}
use Rattle.pm_calculus.specs.Skeleton.{closed, State, Step, start, extend, reduce, literals_at, built}
use Rattle.pm_calculus.specs.Alternatives.{MayTake}
use Rattle.pm_calculus.specs.Choices.{IsLabelling}
use Rattle.pm_contra.specs.Index.{top}
use Rattle.pm_machine.specs.State.{CellNode, MachineState, IsAncestorAt}
use Rattle.pm_machine.specs.Labels.{IsBuilt}
use Rattle.pm_machine.specs.Taken.{LeafOf}
use Rattle.pm_machine.proofs.CellTrees.{face_at}
use Rattle.pm_machine.proofs.Selected.{selected_leaves_have_branches}
use Rattle.pm_machine.proofs.AtLeaf.{leaf_of, built_there, leaf_same, leaf_holds, step_at_leaf, reduced_state}
use Rattle.pm_machine.proofs.InPlace.{apart}
use Rattle.pm_machine.proofs.MachineLemmas.{all_at}
use Rattle.pm_machine.proofs.Extending.{made, fills_extended, head_there, state_there}
use Rattle.pm_machine.proofs.Reducing.{HasAncestor, fills_reduced, ancestor_there}
use Rattle.pm_tab.specs.Hopeful.{cell_top, MayMatch, IsHopeful}

-- terms of one solution begin alike, or one of them with a variable
same_symbol : (f g : ℕ) (t : Term) (ts us : _) → t ≡ app f ts → t ≡ app g us → f + 1 ≡ g + 1
same_symbol f g t ts us is other = let both : app f ts ≡ app g us = sym is ∙ other in ap (λ n. n + 1) cc

tops_match : (trees variables : ℕ → Term) (t u : Term) → fill trees t ≡ fill variables u → MayMatch (top (Some t)) (top (Some u))
tops_match trees variables (var n) u same = inl refl
tops_match trees variables (app f ts) (var n) same = inr (inl refl)
tops_match trees variables (app f ts) (app g us) same = inr (inr (same_symbol f g (fill trees (app f ts)) _ _ refl same))

module _ (s : Equations) (sound : IsSound s) (trees variables : ℕ → Term) (solves : Solves s trees) where
  args_match : (cells : List ℕ) (args : List Term) (q : ℕ) → AreBelow (length s.cells) cells → map trees cells ≡ map (fill variables) args
      → MayMatch (top (option_map (tree s) (slice_get cells q))) (top (slice_get args q))
  args_match cells args q below same = by (slice_get cells q) (slice_get args q) refl refl
    where
      by : (c : Option ℕ) (t : Option Term) → slice_get cells q ≡ c → slice_get args q ≡ t → MayMatch (top (option_map (tree s) c)) (top t)
      by None t is_c is_t = inl refl
      by (Some c) None is_c is_t = inr (inl refl)
      by (Some c) (Some t) is_c is_t =
          let low : c < length s.cells = all_at (λ n. n < length s.cells) cells q c below is_c in
          let left : slice_get (map trees cells) q ≡ Some (trees c) = slice_get-map trees cells q ∙ ap (option_map trees) is_c in
          let right : slice_get (map (fill variables) args) q ≡ Some (fill variables t) = slice_get-map (fill variables) args q ∙ ap (option_map (fill variables)) is_t in
          let both : Some (trees c) ≡ Some (fill variables t) = sym left ∙ ap (λ xs. slice_get xs q) same ∙ right in
          let one : trees c ≡ fill variables t = cc in
          tops_match trees variables (tree s c) t (sym (trees_are_general s trees sound solves c low) ∙ one)

other_sign : (a b : Bool) → a ≡ not b → b ≡ not a
other_sign true true is = absurd cc
other_sign true false is = refl
other_sign false true is = refl
other_sign false false is = absurd cc

module _ (problem : Problem) (m : MachineState) (valid : IsValid problem) (is : IsBuilt problem m) where
  extension_hopeful : (c j : ℕ) → MayTake problem.clauses (built problem.clauses m.steps) (extend c j) → (t : Tableau)
      → IsLabelling problem.clauses (built problem.clauses (m.steps ++ extend c j ∷ [])) t → IsHopeful problem.clauses m (extend c j)
  extension_hopeful c j may t labelling before leaf after q selected lt =
      let found = selected_leaves_have_branches problem m before leaf after is selected in
      let at : LeafOf m = found.0 in
      let h = leaf_of problem m at is in
      let head = step_at_leaf problem m at is (extend c j) may in
      let has : slice_get (literals_at problem.clauses c) j ≡ Some head.its_literal =
      ap (λ o. slice_get (option_map_or (λ (k : Clause). k.literals) o []) j) head.stands ∙ head.has in
      let for = head_there problem c j m valid is may at head.its_literal has in
      let there = subst (λ (st : State). IsLabelling problem.clauses st t) (state_there problem c j m valid is may at head.its_literal has) labelling in
      let parts = apart problem m.equations h.root h.context h.literal h.is_first (built_there problem m at is)
      (made problem c j h.literal head.its_literal for h.context) t there in
      let filled = fills_extended problem c j h.literal head.its_literal for h.context parts.trees parts.node parts.fills in
      let own : h.literal ≡ leaf.literal = sym (leaf_same problem m at is) ∙ ap (λ (n : CellNode). n.literal) found.2 in
      let below : HasArgsBelow (length m.equations.cells) leaf.literal =
      subst (λ (n : CellNode). HasArgsBelow (length m.equations.cells) n.literal) found.2 (leaf_holds problem m at is (HasArgsBelow (length m.equations.cells)) is.cells) in
      let args : HasFilledArgs leaf.literal.args head.its_literal filled.0 parts.trees =
      subst (λ (l : CellLiteral). HasFilledArgs l.args head.its_literal filled.0 parts.trees) own filled.1 in
      subst (λ (o : Option Literal). MayMatch (cell_top m.equations leaf.literal q) (top (option_and_then (λ literal. slice_get literal.args q) o))) (sym has)
      (args_match m.equations is.sound parts.trees filled.0 parts.solves leaf.literal.args head.its_literal.args q below args)

  reduction_hopeful : (k : ℕ) → MayTake problem.clauses (built problem.clauses m.steps) (reduce k) → (t : Tableau)
      → IsLabelling problem.clauses (built problem.clauses (m.steps ++ reduce k ∷ [])) t → IsHopeful problem.clauses m (reduce k)
  reduction_hopeful k may t labelling before leaf after ancestor selected is_ancestor =
      let found = selected_leaves_have_branches problem m before leaf after is selected in
      let at : LeafOf m = found.0 in
      let h = leaf_of problem m at is in
      let up = ancestor_there problem k m is may at in
      let there = subst (λ (st : State). IsLabelling problem.clauses st t) (reduced_state problem m at is k) labelling in
      let parts = apart problem m.equations h.root h.context h.literal h.is_first (built_there problem m at is) (closed (face_at h.literal) k) t there in
      let complementary = (fills_reduced problem.clauses h.literal up.ancestor h.context k up.over parts.trees parts.node parts.fills).0 in
      let own : h.literal ≡ leaf.literal = sym (leaf_same problem m at is) ∙ ap (λ (n : CellNode). n.literal) found.2 in
      let same : up.ancestor ≡ ancestor.literal = other_ancestor at up (subst (λ ns. IsAncestorAt ns k ancestor) (sym found.1) is_ancestor) in
      record {
        sign = other_sign leaf.literal.positive ancestor.literal.positive (sym (ap (λ (l : CellLiteral). l.positive) own) ∙ complementary.sign ∙ ap (λ (l : CellLiteral). not l.positive) same);
        predicate = sym (sym (ap (λ (l : CellLiteral). l.predicate) own) ∙ complementary.predicate ∙ ap (λ (l : CellLiteral). l.predicate) same);
      }
    where
      other_ancestor : (at : LeafOf m) (up : HasAncestor m at (leaf_of problem m at is).context k) → IsAncestorAt at.before k ancestor → up.ancestor ≡ ancestor.literal
      other_ancestor at up is_there = up.is_one ancestor is_there

  -- a step whose result has a labelling is hopeful
  pub labelled_hopeful : (step : Step) → MayTake problem.clauses (built problem.clauses m.steps) step → (t : Tableau)
      → IsLabelling problem.clauses (built problem.clauses (m.steps ++ step ∷ [])) t → IsHopeful problem.clauses m step
  labelled_hopeful (start c) may t labelling = tt
  labelled_hopeful (extend c j) may t labelling = extension_hopeful c j may t labelling
  labelled_hopeful (reduce k) may t labelling = reduction_hopeful k may t labelling
