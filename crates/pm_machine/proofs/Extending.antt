-- An extension, taken or failed, at the selected leaf of a machine.
use Rattle.std.proofs.Common.{◌≡◌, ℕ, ◌+◌, ◌≤◌, Bool, true, false, not, cond, ◌==◌, List, [], ◌∷◌, ◌++◌, length, map, Some, None, IsSomeAnd, slice_get, refl, sym, ◌∙◌, ap, ap₂, subst}
use Rattle.std.specs.Prelude.{All}
use Rattle.std.proofs.lemmas.Bool.{eqb-true}
use Rattle.std.proofs.lemmas.List.Elements.{All-cons, All-contains, All-map}
use Rattle.pm_logic.specs.Term.{Term}
use Rattle.pm_logic.specs.Problem.{Literal, Clause, Problem, IsLiteralOver, IsValid}
use Rattle.pm_logic.specs.Tableau.{Node, leaf, inner, Nodes, Tableau}
use Rattle.pm_logic.proofs.ListLemmas.{Contains-from}
use Rattle.pm_store.specs.Trees.{tree}
use Rattle.pm_store.proofs.TreeLemmas.{trees_solve}
use Rattle.pm_compile.specs.Scheme.{extension_code}
use Rattle.pm_run.specs.State.{CellLiteral, Child, RunState, literal_under, child_under}
use Rattle.pm_run.specs.Wants.{filled_literal}
use Rattle.pm_run.specs.InStore.{HasArgsBelow, IsInStore}
use Rattle.pm_run.specs.Bodies.{bodies_of, variables_at}
use Rattle.pm_run.specs.Steps.{StepSolutions, HasFilledArgs, filled_and_closed, HasNoSolutions}
use Rattle.pm_run.proofs.StoreLemmas.{later_is_longer, below_more}
use Rattle.pm_run.proofs.KeepLemmas.{runs_stay_in_stores}
use Rattle.pm_run.proofs.StepLemmas.{extensions_are_steps, extensions_fail}
use Rattle.pm_calculus.specs.Substitution.{AreComplementary}
use Rattle.pm_calculus.specs.Connection.{IsFamily}
use Rattle.pm_calculus.specs.Skeleton.{Skeleton, extended, State, rooted, leaves_but, literals_at, extend, built}
use Rattle.pm_calculus.specs.Choices.{FitAmong, IsLabelling}
use Rattle.pm_calculus.specs.Alternatives.{opposite, IsHead, MayTake}
use Rattle.pm_calculus.proofs.Growth.{and_true}
use Rattle.pm_machine.specs.State.{CellNode, MachineState, child_at}
use Rattle.pm_machine.specs.Labels.{HasItsCount, IsBuilt}
use Rattle.pm_machine.specs.Taken.{LeafOf, begun_at, Extends, ExtensionFails}
use Rattle.pm_machine.proofs.CellTrees.{CellTree, grown, face_at, skeleton_of, skeletons_of, node_at, nodes_in, all_nodes_in, node_over}
use Rattle.pm_machine.proofs.Contexts.{Context, plugged, skeletons_around, skeletons_plugged, depth_in, depth_of_goal}
use Rattle.pm_machine.proofs.Replaced.{literals_above}
use Rattle.pm_machine.proofs.Leaves.{leaf_nodes, leaves_have_families, leaves_but_fit, closed_leaf_fits, fit_leaves_but, child_leaves, nodes_of_children, children_over, closed_are, closed_skeletons, children_counted, same_count}
use Rattle.pm_machine.proofs.Clauses.{HasClause, clause_there, filled_family, family_filled}
use Rattle.pm_machine.proofs.InPlace.{IsBuiltAs, literal_alike, Fills, apart, Makes, built_in_place, is_built}
use Rattle.pm_machine.proofs.AtLeaf.{above_counts, parent_at_depth, leaf_of, built_there, leaf_holds, leaf_same, literal_holds, begins_in_store, step_at_leaf, extended_state, nodes_there}

-- the literal of a clause by which the leaf may be extended
pub record IsHeadFor (problem : Problem) (c j : ℕ) (l : CellLiteral) (literal : Literal) : Type 0 where
  pub given : HasClause problem c
  pub has : slice_get (literals_at problem.clauses c) j ≡ Some literal
  pub sign : literal.positive ≡ not l.positive
  pub predicate : literal.predicate ≡ l.predicate
  pub count : length l.args ≡ length literal.args

other_sign : (a b : Bool) → cond (not a) b (not b) ≡ true → b ≡ not a
other_sign true true h = cc
other_sign true false h = refl
other_sign false b h = h

pub head_for : (problem : Problem) (c j : ℕ) (l : CellLiteral) (literal : Literal) → IsValid problem → HasItsCount problem.symbols l
    → IsHead problem.clauses (opposite (face_at l)) c j → slice_get (literals_at problem.clauses c) j ≡ Some literal → IsHeadFor problem c j l literal
head_for problem c j l literal valid counted head has =
    let given = clause_there problem c head.its_clause valid head.stands in
    let one : Some given.clause ≡ Some head.its_clause = sym given.stands ∙ head.stands in
    let same_clause : given.clause ≡ head.its_clause = cc in
    let literals = given.literals ∙ ap (λ (clause : Clause). clause.literals) same_clause in
    let there : Some literal ≡ Some head.its_literal = sym has ∙ ap (λ (ls : List Literal). slice_get ls j) literals ∙ head.has in
    let same : literal ≡ head.its_literal = cc in
    let shows = and_true (cond (not l.positive) head.its_literal.positive (not head.its_literal.positive)) (l.predicate == head.its_literal.predicate) head.shows in
    let predicate : literal.predicate ≡ l.predicate = ap (λ (k : Literal). k.predicate) same ∙ sym (eqb-true l.predicate head.its_literal.predicate shows.1) in
    let over : IsLiteralOver problem.symbols given.clause.vars literal =
    All-contains (IsLiteralOver problem.symbols given.clause.vars) (literals_at problem.clauses c) literal given.over (Contains-from (literals_at problem.clauses c) j literal has) in
    record {
      given = given;
      has = has;
      sign = ap (λ (k : Literal). k.positive) same ∙ other_sign l.positive head.its_literal.positive shows.0;
      predicate = predicate;
      count = same_count problem.symbols given.clause.vars l literal counted over (sym predicate);
    }

-- what an extension builds over trees: the leaf with the clause, and the clause's literals, filled, as leaves
abbrev extended_node : List Clause → ℕ → CellLiteral → (ℕ → Term) → (ℕ → Term) → Node
extended_node clauses c l variables trees = inner (literal_under trees l) c (leaf_nodes (map (filled_literal variables) (literals_at clauses c)))

module _ (problem : Problem) (c j : ℕ) (l : CellLiteral) (literal : Literal) (head : IsHeadFor problem c j l literal) (x : Context) where
  -- what an extension builds in the place of the leaf
  abbrev pub made : Skeleton
  made = extended (face_at l) c (leaves_but j (depth_in 1 x) (literals_at problem.clauses c))

  complementary_from : (variables trees : ℕ → Term) → HasFilledArgs l.args literal variables trees → AreComplementary (filled_literal variables literal) (literal_under trees l)
  complementary_from variables trees args = record { sign = head.sign; predicate = head.predicate; args = sym args }

  pub extension_fills : (variables trees : ℕ → Term) → HasFilledArgs l.args literal variables trees
      → Fills problem.clauses trees x l made (extended_node problem.clauses c l variables trees)
  extension_fills variables trees args =
      let above : List Literal = literals_above trees [] x ++ literal_under trees l ∷ [] in
      let parent = parent_at_depth (literals_above trees [] x) (literal_under trees l) (depth_in 1 x) (above_counts trees x) in
      let closes = subst (λ o. IsSomeAnd o (AreComplementary (filled_literal variables literal))) (sym parent) (complementary_from variables trees args) in
      record {
        fits = (refl, fit_leaves_but (filled_literal variables) above j (depth_in 1 x) (literals_at problem.clauses c) literal head.has closes);
        families = (filled_family problem c head.given variables, leaves_have_families problem.clauses (map (filled_literal variables) (literals_at problem.clauses c)));
        literal = refl;
      }

  -- whatever stands there is of that form
  abbrev IsExtended : (ℕ → Term) → Node → Type 0
  IsExtended trees n = (variables : ℕ → Term) × HasFilledArgs l.args literal variables trees × (n ≡ extended_node problem.clauses c l variables trees)

  extended_from : (trees : ℕ → Term) (m : Literal) (ns : Nodes) → FitAmong (literals_above trees [] x ++ m ∷ []) (leaves_but j (depth_in 1 x) (literals_at problem.clauses c)) ns
      → IsFamily problem.clauses c ns → m ≡ literal_under trees l → IsExtended trees (inner m c ns)
  extended_from trees m ns fit family same =
      let ls : List Literal = literals_at problem.clauses c in
      let above : List Literal = literals_above trees [] x ++ m ∷ [] in
      let (variables, literals) = family_filled problem c ns head.given family in
      let shown : ns ≡ leaf_nodes (map (filled_literal variables) ls) = leaves_but_fit above j (depth_in 1 x) ls ns fit ∙ ap leaf_nodes literals in
      let closes = closed_leaf_fits (filled_literal variables) above j (depth_in 1 x) ls literal head.has (subst (FitAmong above (leaves_but j (depth_in 1 x) ls)) shown fit) in
      let parent = parent_at_depth (literals_above trees [] x) m (depth_in 1 x) (above_counts trees x) in
      let complementary : AreComplementary (filled_literal variables literal) m = subst (λ o. IsSomeAnd o (AreComplementary (filled_literal variables literal))) parent closes in
      (variables, sym (ap (λ (k : Literal). k.args) same) ∙ sym complementary.args, ap₂ (λ k ks. inner k c ks) same shown)

  pub fills_extended : (trees : ℕ → Term) (n : Node) → Fills problem.clauses trees x l made n → IsExtended trees n
  fills_extended trees (leaf m) fills = absurd fills.fits
  fills_extended trees (inner m e ns) fills =
      let clause : e ≡ c = sym fills.fits.0 in
      subst (λ d. IsExtended trees (inner m d ns)) (sym clause)
      (extended_from trees m ns fills.fits.1 (subst (λ d. IsFamily problem.clauses d ns) clause fills.families.0) fills.literal)

-- the solutions of an extension's run, in the place of the leaf
module _ (problem : Problem) (c j : ℕ) (l : CellLiteral) (literal : Literal) (head : IsHeadFor problem c j l literal) (x : Context) (begun last : RunState)
    (below : HasArgsBelow (length begun.equations.cells) l)
    (solutions : StepSolutions begun last (HasFilledArgs l.args literal) (filled_and_closed j (literals_at problem.clauses c))) where
  abbrev pub extended_tree : CellTree
  extended_tree = grown l c (child_leaves (depth_in 1 x) last.children)

  abbrev IsChildren : (ℕ → Term) → (ℕ → Term) → Type 0
  IsChildren variables trees = map (child_under trees) last.children ≡ filled_and_closed j (literals_at problem.clauses c) variables

  pub extended_skeleton : (variables trees : ℕ → Term) → IsChildren variables trees → skeleton_of extended_tree ≡ made problem c j l literal head x
  extended_skeleton variables trees children =
      ap (extended (face_at l) c) (closed_skeletons trees variables (depth_in 1 x) j last.children (literals_at problem.clauses c) children)

  extended_over : (variables trees : ℕ → Term) → IsChildren variables trees
      → node_over trees extended_tree ≡ extended_node problem.clauses c l variables trees
  extended_over variables trees children =
      ap (inner (literal_under trees l) c) (children_over trees (depth_in 1 x) last.children
      ∙ ap leaf_nodes (closed_are trees variables j last.children (literals_at problem.clauses c) children))

  pub extension_makes : (variables trees : ℕ → Term) → IsChildren variables trees → Makes problem.clauses begun.equations last.equations x l extended_tree
  extension_makes variables trees children =
      let is_made = extended_skeleton variables trees children in
      record {
        shows = λ others solves.
            let h = solutions.shown others solves in
            let fills = extension_fills problem c j l literal head x h.0 others h.2 in (
              h.1,
              subst (λ s. Fills problem.clauses others x l s (node_over others extended_tree)) (sym is_made)
                  (subst (Fills problem.clauses others x l (made problem c j l literal head x)) (sym (extended_over h.0 others h.3)) fills),
            );
        reaches = λ others n solves fills.
            let parts = fills_extended problem c j l literal head x others n (subst (λ s. Fills problem.clauses others x l s n) is_made fills) in
            let h = solutions.reached parts.0 others solves parts.1 in
            let own = literal_alike (length begun.equations.cells) others h.0 l h.1 below in (
              h.0,
              h.1,
              h.2,
              extended_over parts.0 h.0 h.3
                  ∙ ap (λ k. inner k c (leaf_nodes (map (filled_literal parts.0) (literals_at problem.clauses c)))) own ∙ sym parts.2,
            );
      }

-- what holds of the leaf's literal and of the children's holds of the new nodes
grown_holds : (P : CellLiteral → Type 0) (d : ℕ) (l : CellLiteral) (c : ℕ) (children : List Child) → P l → All (λ child. P child.literal) children
    → All (λ node. P node.literal) (nodes_in d (grown l c (child_leaves d children)))
grown_holds P d l c children own all =
    let at_node : CellNode → Type 0 = λ node. P node.literal in
    All-cons at_node (node_at d l (Some c) None) (all_nodes_in (d + 1) (child_leaves d children)) own
    (subst (All at_node) (sym (nodes_of_children d children)) (All-map at_node (child_at d) children all))

module _ (problem : Problem) (c j : ℕ) (m : MachineState) (valid : IsValid problem) (is : IsBuilt problem m)
    (may : MayTake problem.clauses (built problem.clauses m.steps) (extend c j)) where
  pub head_there : (at : LeafOf m) (literal : Literal) → slice_get (literals_at problem.clauses c) j ≡ Some literal
      → IsHeadFor problem c j (leaf_of problem m at is).literal literal
  head_there at literal has =
      head_for problem c j (leaf_of problem m at is).literal literal valid
      (literal_holds problem m at is (HasItsCount problem.symbols) is.counts)
      (step_at_leaf problem m at is (extend c j) may) has

  pub begun_in_store : (at : LeafOf m) → IsInStore (begun_at problem.clauses c m at)
  begun_in_store at =
      begins_in_store problem m at is (variables_at problem.clauses c) at.leaf.literal.args
      (leaf_holds problem m at is (HasArgsBelow (length m.equations.cells)) is.cells)

  same_counts : (at : LeafOf m) (literal : Literal) → slice_get (literals_at problem.clauses c) j ≡ Some literal
      → length at.leaf.literal.args ≡ length literal.args
  same_counts at literal has = ap (λ (l : CellLiteral). length l.args) (leaf_same problem m at is) ∙ (head_there at literal has).count

  -- the longer skeleton
  pub state_there : (at : LeafOf m) (literal : Literal) (has : slice_get (literals_at problem.clauses c) j ≡ Some literal)
      → built problem.clauses (m.steps ++ extend c j ∷ [])
      ≡ rooted (leaf_of problem m at is).root (skeletons_around (leaf_of problem m at is).context
      (made problem c j (leaf_of problem m at is).literal literal (head_there at literal has) (leaf_of problem m at is).context))
  state_there at literal has =
      let h = leaf_of problem m at is in
      extended_state problem m at is c j
      ∙ ap (λ d. rooted h.root (skeletons_around h.context (extended (face_at h.literal) c (leaves_but j d (literals_at problem.clauses c)))))
      (depth_of_goal [] h.context h.literal 1 refl)

  pub failed_extension : ExtensionFails problem.clauses c j m → (t : Tableau) → ¬ IsLabelling problem.clauses (built problem.clauses (m.steps ++ extend c j ∷ [])) t
  failed_extension failed t labelling =
      let at = failed.at in
      let h = leaf_of problem m at is in
      let head = head_there at failed.literal failed.stands in
      let none : HasNoSolutions m.equations (HasFilledArgs at.leaf.literal.args failed.literal) =
      extensions_fail (bodies_of problem.clauses) c j failed.literal (literals_at problem.clauses c) (variables_at problem.clauses c) m.equations at.branch at.leaf.literal.args
      refl (same_counts at failed.literal failed.stands) failed.fails (begun_in_store at) in
      let there = subst (λ (st : State). IsLabelling problem.clauses st t) (state_there at failed.literal failed.stands) labelling in
      let parts = apart problem m.equations h.root h.context h.literal h.is_first (built_there problem m at is)
      (made problem c j h.literal failed.literal head h.context) t there in
      let found = fills_extended problem c j h.literal failed.literal head h.context parts.trees parts.node parts.fills in
      none found.0 parts.trees parts.solves
      (subst (λ (l : CellLiteral). HasFilledArgs l.args failed.literal found.0 parts.trees) (sym (leaf_same problem m at is)) found.1)

  pub extension_builds : (new : MachineState) → Extends problem.clauses c j m new → IsBuilt problem new
  extension_builds new taken =
      let at = taken.at in
      let h = leaf_of problem m at is in
      let last : RunState = taken.last in
      let head = head_there at taken.literal taken.stands in
      let ls : List Literal = literals_at problem.clauses c in
      let begun : RunState = begun_at problem.clauses c m at in
      let step = extensions_are_steps (bodies_of problem.clauses) c j taken.literal ls (variables_at problem.clauses c) m.equations at.branch at.leaf.literal.args last
      refl (same_counts at taken.literal taken.stands) taken.runs (begun_in_store at) in
      let solutions : StepSolutions begun last (HasFilledArgs h.literal.args taken.literal) (filled_and_closed j ls) =
      subst (λ (l : CellLiteral). StepSolutions begun last (HasFilledArgs l.args taken.literal) (filled_and_closed j ls)) (leaf_same problem m at is) step.solutions in
      let below : HasArgsBelow (length m.equations.cells) h.literal = literal_holds problem m at is (HasArgsBelow (length m.equations.cells)) is.cells in
      let stays = runs_stay_in_stores (bodies_of problem.clauses) (extension_code c j taken.literal) begun last taken.runs (begun_in_store at) in
      let some = solutions.shown (tree last.equations) (trees_solve last.equations stays.0.sound) in
      let makes = extension_makes problem c j h.literal taken.literal head h.context begun last below solutions some.0 (tree last.equations) some.3 in
      let u : CellTree = extended_tree problem c j h.literal taken.literal head h.context begun last below solutions in
      let d : ℕ = depth_in 1 h.context in
      let longer : length m.equations.cells ≤ length last.equations.cells = later_is_longer m.equations last.equations stays.1 in
      let within = grown_holds (HasArgsBelow (length last.equations.cells)) d h.literal c last.children
      (below_more (length m.equations.cells) (length last.equations.cells) h.literal.args longer below) stays.0.cells.children in
      let counted = grown_holds (HasItsCount problem.symbols) d h.literal c last.children
      (literal_holds problem m at is (HasItsCount problem.symbols) is.counts)
      (children_counted problem.symbols (tree last.equations) some.0 head.given.clause.vars last.children ls (closed_are (tree last.equations) some.0 j last.children ls some.3) head.given.over) in
      let there = built_in_place problem m.equations last.equations h.root h.context h.literal u h.is_first (built_there problem m at is) makes stays.0.sound longer within counted in
      let state : built problem.clauses new.steps ≡ rooted h.root (skeletons_of (plugged h.context u)) =
      ap (built problem.clauses) taken.steps ∙ state_there at taken.literal taken.stands
      ∙ ap (λ s. rooted h.root (skeletons_around h.context s))
      (sym (extended_skeleton problem c j h.literal taken.literal head h.context begun last below solutions some.0 (tree last.equations) some.3))
      ∙ ap (rooted h.root) (sym (skeletons_plugged h.context u)) in
      let nodes : new.nodes ≡ all_nodes_in 1 (plugged h.context u) =
      taken.nodes
      ∙ ap (λ (node : CellNode). at.before ++ record node { clause = Some c } ∷ (map (child_at node.depth) last.children ++ at.after)) h.at.is_leaf
      ∙ ap (λ ns. at.before ++ node_at d h.literal (Some c) None ∷ (ns ++ at.after)) (sym (nodes_of_children d last.children))
      ∙ nodes_there problem m at is u in
      is_built problem new h.root (plugged h.context u) state nodes (subst (λ e. IsBuiltAs problem e h.root (plugged h.context u)) (sym taken.equations) there)
