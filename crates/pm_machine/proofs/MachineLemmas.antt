-- The steps of the machine, from what they do to the store and to the tree.
use Rattle.std.proofs.Common.{◌≡◌, ℕ, zero, suc, ◌+◌, ◌-◌, ◌≤◌, ◌<◌, ◌⊎◌, List, [], ◌∷◌, length, Option, Some, None, IsSomeAnd, slice_get, take, drop, not, Bool, true, false, refl, sym, ◌∙◌, ap, arith, subst}
use Rattle.std.specs.Prelude.{All}
use Rattle.std.specs.Bool.{beq}
use Rattle.std.specs.Option.{option_map_or}
use Rattle.std.proofs.lemmas.List.Elements.{All-nil, All-head, All-tail}
use Rattle.pm_logic.specs.declared.symbols.Kind.TheVariants.{Predicate, Equality}
use Rattle.pm_logic.specs.Problem.{Literal, Clause, Problem, IsValid, HasShape}
use Rattle.pm_store.specs.Equations.{Equations}
use Rattle.pm_store.specs.Sound.{IsSound}
use Rattle.pm_store.specs.Marks.{counts_of, IsLater, HasMark}
use Rattle.pm_store.proofs.MarkLemmas.{growth_is_later, later_is_transitive}
use Rattle.pm_compile.specs.Instructions.{Instruction}
use Rattle.pm_run.specs.State.{CellLiteral, Child}
use Rattle.pm_run.specs.Meaning.{Unites}
use Rattle.pm_run.specs.InStore.{AreBelow, HasArgsBelow}
use Rattle.pm_run.specs.Steps.{before_step}
use Rattle.pm_run.specs.Bodies.{bodies_of, variables_at}
use Rattle.pm_compile.specs.Scheme.{extension_code}
use Rattle.pm_run.specs.Runner.{ComesTo}
use Rattle.pm_run.proofs.StepLemmas.{steps_begin_in_stores}
use Rattle.pm_run.proofs.KeepLemmas.{runs_stay_in_stores}
use Rattle.pm_calculus.specs.Skeleton as calculus
use Rattle.pm_calculus.specs.Skeleton.{Face, State, empty, rooted, start, extend, reduce, Subgoal, selected, built, literals_at, depth_of}
use Rattle.pm_calculus.specs.Alternatives.{IsStepAt, MayTake}
use Rattle.pm_machine.specs.State.{CellNode, MachineState, IsOpen, IsSelected, IsAncestorAt, IsPlaceOfLeaf, AreAncestors}
use Rattle.pm_machine.specs.Labels.{HasItsCount}
use Rattle.pm_machine.specs.Taken.{LeafOf}
use Rattle.pm_machine.specs.Inside.Frames.{TreeValue, CanStep}
use Rattle.pm_machine.specs.declared.node.MachineNode.{MachineNode}
use Rattle.pm_machine.specs.declared.tree.Taken.{Taken}
use Rattle.pm_machine.specs.Node.{node_of, Views}
use Rattle.pm_machine.specs.Value.{MachineValue}
use Rattle.pm_machine.specs.Inside.History.{steps_of, state_of, states_before, HasPlace, IsStanding, IsHistory}
use Rattle.pm_machine.specs.Inside.Running.{MayTakeAt}
use Rattle.pm_machine.proofs.Selected.{first_is_one, selected_leaves_agree, no_leaf_is_selected, selected_leaves_have_branches}
use Rattle.pm_machine.proofs.AtLeaf.{leaf_of, leaf_holds, leaf_same, literal_holds, step_at_leaf}
use Rattle.pm_machine.proofs.Leaves.{same_shape}
use Rattle.pm_machine.proofs.Contexts.{goal_in, depth_of_goal}
use Rattle.pm_machine.proofs.Extending.{head_for}
use Rattle.pm_machine.proofs.PlaceLemmas.{selected_here, none_open, is_within, some_same, ancestor_at}

-- a run that comes to its end leaves a sound store that has grown
pub run_grows : (clauses : List Clause) (code : List Instruction) (locals : ℕ) (cells : List ℕ) (s later : Equations) (children : List Child)
    → ComesTo clauses code locals cells s later children → IsSound s → AreBelow (length s.cells) cells → IsLater s later × IsSound later
run_grows clauses code locals cells s later children comes sound below =
    let run = comes [] in
    let kept = runs_stay_in_stores (bodies_of clauses) code (before_step locals s [] cells) run.0 run.1
    (steps_begin_in_stores locals s [] cells sound below (All-nil (HasArgsBelow (length s.cells)))) in
    (subst (IsLater s) run.2 kept.1, subst IsSound run.2 kept.0.sound)

-- so do unifications
pub unites_grow : (s : Equations) (cs ds : List ℕ) (new : Equations) → Unites s cs ds new → IsSound s → IsLater s new × IsSound new
unites_grow s [] [] new is sound = (subst (IsLater s) (sym is) (growth_is_later s).unchanged, subst IsSound (sym is) sound)
unites_grow s [] (d ∷ ds) new is sound = absurd is
unites_grow s (c ∷ cs) [] new is sound = absurd is
unites_grow s (c ∷ cs) (d ∷ ds) new is sound =
    let rest = unites_grow is.0 cs ds new is.2 is.1.sound in
    (later_is_transitive s is.0 new is.1.later rest.0, rest.1)

-- a step at a leaf wants one that is selected
no_leaf_none : (clauses : List Clause) (state : State) (step : calculus.Step) → selected state ≡ None → MayTake clauses state step
    → ((c : ℕ) → step ≡ start c → ⊥) → ⊥
no_leaf_none clauses empty (start c) none may other = other c refl
no_leaf_none clauses empty (extend c j) none may other = may
no_leaf_none clauses empty (reduce k) none may other = may
no_leaf_none clauses (rooted root below) step none may other =
    subst (λ o. IsSomeAnd o (λ leaf. IsStepAt clauses leaf step)) none may

pub record LeafStands (tree : TreeValue) : Type 0 where
  pub node : CellNode
  pub stands : slice_get tree.nodes tree.leaf ≡ Some node

module _ (problem : Problem) (ground : List (Option ℕ)) (s : Equations) (tree : TreeValue) (standing : IsStanding problem ground s tree) where
  abbrev m : MachineState
  m = state_of s tree

  stands_or_none : (o : Option CellNode) → slice_get tree.nodes tree.leaf ≡ o → (step : calculus.Step) → MayTakeAt problem tree step
      → ((c : ℕ) → step ≡ start c → ⊥) → LeafStands tree
  stands_or_none (Some node) is step may other = record { node = node; stands = is }
  stands_or_none None is step may other =
      absurd (no_leaf_none problem.clauses (built problem.clauses (steps_of tree.taken)) step
      (no_leaf_is_selected problem m standing.built (none_open tree.nodes tree.leaf standing.leaf.next is)) may other)

  -- a leaf is selected, where a step may be taken at one
  pub leaf_stands : (step : calculus.Step) → MayTakeAt problem tree step → ((c : ℕ) → step ≡ start c → ⊥) → LeafStands tree
  leaf_stands step may other = stands_or_none (slice_get tree.nodes tree.leaf) refl step may other

  module _ (node : CellNode) (stands : slice_get tree.nodes tree.leaf ≡ Some node) where
    pub chosen : IsSelected tree.nodes (take tree.leaf tree.nodes) node (drop (suc tree.leaf) tree.nodes)
    chosen = selected_here tree.nodes tree.leaf node standing.leaf.next stands

    abbrev pub branched : (at : LeafOf m) × (at.before ≡ take tree.leaf tree.nodes) × (at.leaf ≡ node) × (at.after ≡ drop (suc tree.leaf) tree.nodes)
    branched = selected_leaves_have_branches problem m (take tree.leaf tree.nodes) node (drop (suc tree.leaf) tree.nodes) standing.built chosen

    pub can_step : CanStep tree
    can_step = record {
      node = node;
      stands = stands;
      below = (standing.leaf.below tree.leaf node stands).0;
      above = (standing.leaf.below tree.leaf node stands).1;
      room = standing.leaf.room;
    }

    pub args_below : AreBelow (length s.cells) node.literal.args
    args_below = subst (λ (n : CellNode). HasArgsBelow (length s.cells) n.literal) branched.2 (leaf_holds problem m branched.0 standing.built (HasArgsBelow (length s.cells)) standing.built.cells)

    -- the literal by which the leaf is extended has as many arguments as the leaf
    pub extends_by : IsValid problem → (c j : ℕ) → MayTakeAt problem tree (extend c j) → (l : Literal) → slice_get (literals_at problem.clauses c) j ≡ Some l
        → length node.literal.args ≡ length l.args
    extends_by valid c j may l is =
        let at = branched.0 in
        let head = head_for problem c j (leaf_of problem m at standing.built).literal l valid
        (literal_holds problem m at standing.built (HasItsCount problem.symbols) standing.built.counts)
        (step_at_leaf problem m at standing.built (extend c j) may) is in
        ap (λ (k : CellLiteral). length k.args) (sym (ap (λ (n : CellNode). n.literal) branched.2) ∙ leaf_same problem m at standing.built) ∙ head.count

    pub clause_within : (c j : ℕ) → MayTakeAt problem tree (extend c j) → (c < length problem.clauses) × (j < length (literals_at problem.clauses c))
    clause_within c j may =
        let head = step_at_leaf problem m branched.0 standing.built (extend c j) may in (
          is_within problem.clauses c head.its_clause head.stands,
          subst (λ o. j < length (option_map_or (λ (k : Clause). k.literals) o [])) (sym head.stands) (is_within head.its_clause.literals j head.its_literal head.has),
        )

-- a store that has grown since its mark has it, and is restored by it
pub has_mark : (s later : Equations) → IsSound s → IsLater s later → HasMark later (counts_of s)
has_mark s later sound grown = record { before = s; sound = sound; later = grown; counts = refl }

pub all_at : {A : Type 0} (P : A → Type 0) (xs : List A) (i : ℕ) (x : A) → All P xs → slice_get xs i ≡ Some x → P x
all_at P [] i x all is = absurd cc
all_at P (y ∷ xs) zero x all is = subst P (some_same y x is) (All-head P y xs all)
all_at P (y ∷ xs) (suc i) x all is = all_at P xs i x (All-tail P y xs all) is

module _ (problem : Problem) (ground : List (Option ℕ)) (s : Equations) (tree : TreeValue) (standing : IsStanding problem ground s tree)
    (node : CellNode) (stands : slice_get tree.nodes tree.leaf ≡ Some node) where
  -- there is a literal of the clause by which the leaf is extended
  pub literal_there : (c j : ℕ) → MayTakeAt problem tree (extend c j) → (l : Literal) × (slice_get (literals_at problem.clauses c) j ≡ Some l)
  literal_there c j may =
      let head = step_at_leaf problem (state_of s tree) (branched problem ground s tree standing node stands).0 standing.built (extend c j) may in
      (head.its_literal, ap (λ o. slice_get (option_map_or (λ (k : Clause). k.literals) o []) j) head.stands ∙ head.has)

  -- a reduction is by an ancestor above the leaf
  reduction_bounds : (k : ℕ) → MayTakeAt problem tree (reduce k) → (1 ≤ k) × (k < node.depth)
  reduction_bounds k may =
      let m = state_of s tree in
      let at = (branched problem ground s tree standing node stands).0 in
      let h = leaf_of problem m at standing.built in
      let bounds = step_at_leaf problem m at standing.built (reduce k) may in
      let depth : node.depth ≡ depth_of (goal_in [] h.context h.literal) =
      ap (λ (n : CellNode). n.depth) (sym (branched problem ground s tree standing node stands).2)
      ∙ ap (λ (n : CellNode). n.depth) h.at.is_leaf ∙ sym (depth_of_goal [] h.context h.literal 1 refl) in
      (bounds.0, omega (arith, bounds.1, depth))

  pub reduction_depth : (k : ℕ) → MayTakeAt problem tree (reduce k) → k < node.depth
  reduction_depth k may = (reduction_bounds k may).1

  -- the branch has the place of that ancestor
  pub place_there : (k : ℕ) → MayTakeAt problem tree (reduce k) → (level : ℕ) × (k ≡ level + 1) × HasPlace tree level
  place_there k may =
      let bounds = reduction_bounds k may in
      (k - 1, omega (arith, bounds.0), standing.leaf.above node (k - 1) stands (omega (arith, bounds.0, bounds.1)))

  -- the nodes' cells are the store's
  pub below_at : (place : ℕ) (other : CellNode) → slice_get tree.nodes place ≡ Some other → AreBelow (length s.cells) other.literal.args
  below_at place other is = all_at (λ (n : CellNode). HasArgsBelow (length s.cells) n.literal) tree.nodes place other standing.built.cells is

  -- nodes of one predicate have as many arguments
  pub same_counts : (place : ℕ) (other : CellNode) → slice_get tree.nodes place ≡ Some other → node.literal.predicate ≡ other.literal.predicate
      → length node.literal.args ≡ length other.literal.args
  same_counts place other is same =
      let counts : (place : ℕ) (n : CellNode) → slice_get tree.nodes place ≡ Some n → HasItsCount problem.symbols n.literal =
      λ place n there. all_at (λ (n : CellNode). HasItsCount problem.symbols n.literal) tree.nodes place n standing.built.counts there in
      same_shape problem.symbols node.literal.predicate (length node.literal.args) (length other.literal.args) (counts tree.leaf node stands)
      (subst (λ p. HasShape problem.symbols p Predicate (length other.literal.args) ⊎ HasShape problem.symbols p Equality (length other.literal.args)) (sym same) (counts place other is))

  -- the run of an extension's code leaves a sound store that has grown
  pub extension_grows : (c j : ℕ) → MayTakeAt problem tree (extend c j) → (later : Equations) (children : List Child)
      → ((l : Literal) → slice_get (literals_at problem.clauses c) j ≡ Some l
      → ComesTo problem.clauses (extension_code c j l) (variables_at problem.clauses c) node.literal.args s later children)
      → IsLater s later × IsSound later
  extension_grows c j may later children comes =
      let there = literal_there c j may in
      run_grows problem.clauses (extension_code c j there.0) (variables_at problem.clauses c) node.literal.args s later children (comes there.0 there.1)
      standing.built.sound (args_below problem ground s tree standing node stands)

-- signs that differ are opposite
pub opposite_of : (a b : Bool) → beq a b ≡ false → a ≡ not b
opposite_of true true differ = absurd cc
opposite_of true false differ = refl
opposite_of false true differ = refl
opposite_of false false differ = absurd cc

-- what the machine is seen as
abbrev pub value_of : Problem → Equations → TreeValue → MachineValue
value_of problem s tree = record {
  problem = problem;
  state = state_of s tree;
  before = states_before tree.taken s tree;
}

-- the state now stands
pub stands_now : (problem : Problem) (ground : List (Option ℕ)) (ts : List Taken) (s : Equations) (tree : TreeValue)
    → IsHistory problem ground ts s tree → IsStanding problem ground s tree
stands_now problem ground [] s tree history = history
stands_now problem ground (t ∷ earlier) s tree history = history.0

-- the selected leaf as it is shown
pub leaf_views : (problem : Problem) (ground : List (Option ℕ)) (s : Equations) (tree : TreeValue) → IsStanding problem ground s tree
    → (node : MachineNode) → slice_get tree.nodes tree.leaf ≡ Some (node_of node)
    → Views (selected (built problem.clauses (steps_of tree.taken))) (Some (record { depth = node.depth; positive = node.positive; predicate = node.predicate }))
leaf_views problem ground s tree standing node stands =
    let agrees = selected_leaves_agree problem (state_of s tree) (take tree.leaf tree.nodes) (node_of node) (drop (suc tree.leaf) tree.nodes) standing.built
    (chosen problem ground s tree standing (node_of node) stands) in
    subst (λ o. Views o (Some (record { depth = node.depth; positive = node.positive; predicate = node.predicate }))) (sym agrees.1)
    (record {
      depth = agrees.2.depth;
      positive = ap (λ (f : Face). f.positive) agrees.2.face;
      predicate = ap (λ (f : Face). f.predicate) agrees.2.face;
    })

pub no_leaf_views : (problem : Problem) (ground : List (Option ℕ)) (s : Equations) (tree : TreeValue) → IsStanding problem ground s tree
    → slice_get tree.nodes tree.leaf ≡ None
    → Views (selected (built problem.clauses (steps_of tree.taken))) None
no_leaf_views problem ground s tree standing none =
    subst (λ o. Views o None) (sym (no_leaf_is_selected problem (state_of s tree) standing.built (none_open tree.nodes tree.leaf standing.leaf.next none))) tt

-- the first so many of a list
get_taken : (n : ℕ) (xs : List ℕ) (i x : ℕ) → slice_get (take n xs) i ≡ Some x → (i < n) × (slice_get xs i ≡ Some x)
get_taken zero xs i x is = absurd cc
get_taken (suc n) [] i x is = absurd cc
get_taken (suc n) (y ∷ xs) zero x is = (omega arith, is)
get_taken (suc n) (y ∷ xs) (suc i) x is = let h = get_taken n xs i x is in (omega (arith, h.0), h.1)

length_taken : {A : Type 0} (n : ℕ) (xs : List A) → n ≤ length xs → length (take n xs) ≡ n
length_taken zero xs few = refl
length_taken (suc n) [] few = absurd (omega (arith, few))
length_taken (suc n) (x ∷ xs) few = ap suc (length_taken n xs (omega (arith, few)))

-- the branch has the places of the selected leaf's ancestors
module _ (problem : Problem) (ground : List (Option ℕ)) (s : Equations) (tree : TreeValue) (standing : IsStanding problem ground s tree)
    (node : CellNode) (stands : slice_get tree.nodes tree.leaf ≡ Some node) where
  one_selected : (before : List CellNode) (leaf : CellNode) (after : List CellNode) → IsSelected tree.nodes before leaf after
      → (before ≡ take tree.leaf tree.nodes) × (leaf ≡ node)
  one_selected before leaf after is =
      let own = chosen problem ground s tree standing node stands in
      let parts = first_is_one IsOpen before (take tree.leaf tree.nodes) leaf node after (drop (suc tree.leaf) tree.nodes)
      (sym is.stands ∙ own.stands) is.first own.first is.unclosed own.unclosed in
      (parts.0, parts.1)

  pub above_count : node.depth - 1 ≤ length tree.branch
  above_count =
      let bounds = standing.leaf.below tree.leaf node stands in
      let room = standing.leaf.room in
      omega (arith, bounds.1, room)

  pub are_ancestors : AreAncestors tree.nodes (take (node.depth - 1) tree.branch)
  are_ancestors = record {
    count = λ before leaf after is.
        let same = one_selected before leaf after is in
        let bounds = standing.leaf.below tree.leaf node stands in
        omega (arith, ap (λ (n : CellNode). n.depth) same.1, bounds.0, length_taken (node.depth - 1) tree.branch above_count);
    each = λ before leaf after level place is at.
        let same = one_selected before leaf after is in
        let there = get_taken (node.depth - 1) tree.branch level place at in
        let has = standing.leaf.above node level stands (omega (arith, there.0)) in
        let is_place : has.place ≡ place = some_same has.place place (sym has.at ∙ there.1) in
        let within = standing.leaf.next.passed.within in
        let low = has.before in
        let long : length before ≡ tree.leaf = ap length same.0 ∙ length_taken tree.leaf tree.nodes within in (
          omega (arith, is_place, low, long),
          has.ancestor,
          ap (slice_get tree.nodes) (sym is_place) ∙ has.stands,
          subst (λ ns. IsAncestorAt ns (level + 1) has.ancestor) (sym same.0) (ancestor_at tree level has),
        );
  }

pub is_place : (problem : Problem) (ground : List (Option ℕ)) (s : Equations) (tree : TreeValue) → IsStanding problem ground s tree → IsPlaceOfLeaf tree.nodes tree.leaf
is_place problem ground s tree standing = record {
  leaf = λ leaf is. chosen problem ground s tree standing leaf is;
  none = λ none. none_open tree.nodes tree.leaf standing.leaf.next none;
}

-- a leaf is there, where one is selected
pub leaf_there : (problem : Problem) (ground : List (Option ℕ)) (s : Equations) (tree : TreeValue) → IsStanding problem ground s tree
    → (selected (built problem.clauses (steps_of tree.taken)) ≡ None → ⊥) → LeafStands tree
leaf_there problem ground s tree standing some = by (slice_get tree.nodes tree.leaf) refl
  where
    by : (o : Option CellNode) → slice_get tree.nodes tree.leaf ≡ o → LeafStands tree
    by (Some node) is = record { node = node; stands = is }
    by None none = absurd (some (no_leaf_is_selected problem (state_of s tree) standing.built (none_open tree.nodes tree.leaf standing.leaf.next none)))
