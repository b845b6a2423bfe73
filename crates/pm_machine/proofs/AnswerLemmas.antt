-- The machine after a step: it stands, and the step is taken or refused.
use Rattle.std.proofs.Common.{◌≡◌, ℕ, zero, suc, ◌+◌, ◌-◌, ◌≤◌, ◌<◌, List, [], ◌∷◌, ◌++◌, length, map, Option, Some, None, slice_get, slice_index_or, take, drop, set, not, refl, sym, ◌∙◌, ap, ap₂, arith, subst}
use Rattle.std.specs.Prelude.{IfOk, OnOk, OnErr, Bool, true, false, Result, Ok, Err}
use Rattle.std.specs.Bool.{OnTrue, OnFalse, IsTrue}
use Rattle.std.specs.declared.alloc.AllocError.{AllocError}
use Rattle.std.proofs.lemmas.List.{append-nil, length-replicate, length-set, set-set, set-get_or}
use Rattle.std.proofs.lemmas.List.Elements.{All-nil}
use Rattle.pm_logic.specs.Problem.{Problem, IsValid}
use Rattle.pm_store.specs.Equations.{Equations}
use Rattle.pm_store.specs.Sound.{IsSound}
use Rattle.pm_store.specs.Marks.{Counts, counts_of, IsLater, HasMark, at_mark}
use Rattle.pm_compile.specs.Scheme.{start_code, extension_code}
use Rattle.pm_compile.specs.Instructions.{REDUCE, DONE}
use Rattle.pm_run.specs.State.{CellLiteral, Child, RunState, IsAncestor}
use Rattle.pm_run.specs.Meaning.{Runs, Unites}
use Rattle.pm_run.specs.Failure.{RunFails, CannotClose}
use Rattle.pm_run.proofs.BackLemmas as back
use Rattle.pm_run.specs.Steps.{before_step}
use Rattle.pm_run.specs.Bodies.{bodies_of, variables_at}
use Rattle.pm_run.specs.Runner.{HasGroundCells}
use Rattle.pm_calculus.specs.Skeleton.{start, extend, reduce, built, nodes_of}
use Rattle.pm_calculus.specs.Alternatives.{MayTake}
use Rattle.pm_machine.specs.declared.tree.Taken.{Taken}
use Rattle.pm_machine.specs.declared.tree.Step.TheVariants.{Start, Extend, Reduce}
use Rattle.pm_machine.specs.State.{CellNode, MachineState, IsOpen, IsAncestorAt, child_at, shape_of}
use Rattle.pm_machine.specs.Labels.{IsBuilt, HasItsCount}
use Rattle.pm_run.specs.InStore.{HasArgsBelow}
use Rattle.pm_machine.specs.Taken.{LeafOf, Extends, Reduces, Starts, ExtensionFails, ReductionFails}
use Rattle.pm_machine.specs.Value.{IsTaken, IsRefused, Answers, IsNotDeeper}
use Rattle.pm_machine.specs.Inside.Frames.{TreeValue, no_tree, deepest, children_at, reopened, tree_before, CanUndo, Undoes}
use Rattle.pm_machine.specs.Inside.History.{steps_of, state_of, states_before, Falls, IsAtLeaf, IsStanding, IsHistory}
use Rattle.pm_machine.specs.Inside.Running.{MayTakeAt, IsShallow, RunsStart, RunsExtension, FailsExtension, HasAncestor, RunsReduction, FailsReduction}
use Rattle.pm_run.proofs.GroundLemmas.{ground_cells_last}
use Rattle.pm_machine.proofs.Selected.{selected_leaves_agree}
use Rattle.pm_machine.proofs.Steps.{steps_build, failed_steps_label_nothing}
use Rattle.pm_machine.proofs.PlaceLemmas.{IsMoved, moves_on, falls_more, falls_at, ancestor_at, get_in_drop, some_same}
use Rattle.pm_machine.proofs.AtLeaf.{same_ancestor}
use Rattle.pm_machine.proofs.UndoLemmas.{open_again, undoes_step, can_undo, history_grows, states_grow}
use Rattle.pm_machine.proofs.MachineLemmas.{value_of, chosen, stands_now, leaf_stands, branched, literal_there, extension_grows, reduction_depth, run_grows, unites_grow}

-- a list with an item set
get_set : (xs : List ℕ) (i x : ℕ) → i < length xs → slice_get (set xs i x) i ≡ Some x
get_set [] i x within = absurd (omega (arith, within))
get_set (y ∷ xs) zero x within = refl
get_set (y ∷ xs) (suc i) x within = get_set xs i x (omega (arith, within))

get_other : (xs : List ℕ) (i j x : ℕ) → (i ≡ j → ⊥) → slice_get (set xs i x) j ≡ slice_get xs j
get_other [] i j x other = refl
get_other (y ∷ xs) zero zero x other = absurd (other refl)
get_other (y ∷ xs) zero (suc j) x other = refl
get_other (y ∷ xs) (suc i) zero x other = refl
get_other (y ∷ xs) (suc i) (suc j) x other = get_other xs i j x (λ same. other (ap suc same))

-- children fall from their depth, and then what comes after them
kids_fall : (depth : ℕ) (children : List Child) (after : List CellNode) → Falls depth after → Falls (suc depth) (children_at depth children ++ after)
kids_fall depth [] after falls = falls_more depth (suc depth) after (omega arith) falls
kids_fall depth (child ∷ children) after falls =
    (omega arith, subst (λ d. Falls d (children_at depth children ++ after)) ((omega arith)) (kids_fall depth children after falls))

-- each node that comes after has a depth within the bounds
kids_within : (depth : ℕ) (children : List Child) (after : List CellNode) → depth < deepest
    → ((j : ℕ) (n : CellNode) → slice_get after j ≡ Some n → (1 ≤ n.depth) × (n.depth ≤ deepest))
    → (j : ℕ) (n : CellNode) → slice_get (children_at depth children ++ after) j ≡ Some n → (1 ≤ n.depth) × (n.depth ≤ deepest)
kids_within depth [] after shallow each j n is = each j n is
kids_within depth (child ∷ children) after shallow each zero n is =
    let same : depth + 1 ≡ n.depth = ap (λ (x : CellNode). x.depth) (some_same (child_at depth child) n is) in
    (omega (arith, same), omega (arith, same, shallow))
kids_within depth (child ∷ children) after shallow each (suc j) n is = kids_within depth children after shallow each j n is

module _ (problem : Problem) (ground : List (Option ℕ)) (s later : Equations) (old new : TreeValue) (c j : ℕ)
    (standing : IsStanding problem ground s old) (may : MayTakeAt problem old (extend c j)) (shallow : IsShallow old)
    (runs : RunsExtension problem.clauses c j s later old new) where
  abbrev node : CellNode
  node = runs.extended.node

  abbrev t : Taken
  t = record {
    step = Extend c j;
    mark = counts_of s;
    leaf = old.leaf;
    nodes = length old.nodes;
    replaced = slice_index_or old.branch (node.depth - 1) 0;
  }

  bounds : (1 ≤ node.depth) × (node.depth ≤ deepest)
  bounds = standing.leaf.below old.leaf node runs.extended.stands

  is_open : IsOpen node
  is_open = standing.leaf.next.here node runs.extended.stands

  grown : IsLater s later × IsSound later
  grown = extension_grows problem ground s old standing node runs.extended.stands c j may later runs.children runs.comes

  takes : Extends problem.clauses c j (state_of s old) (state_of later new)
  takes =
      let there = literal_there problem ground s old standing node runs.extended.stands c j may in
      let at = branched problem ground s old standing node runs.extended.stands in
      let run = runs.comes there.0 there.1 at.0.branch in
      record {
        at = at.0;
        literal = there.0;
        stands = there.1;
        last = run.0;
        runs = subst (λ (n : CellNode). Runs (bodies_of problem.clauses) (extension_code c j there.0) (before_step (variables_at problem.clauses c) s at.0.branch n.literal.args) run.0) (sym at.2) run.1;
        steps = ap steps_of runs.extended.taken;
        equations = sym run.2;
        nodes =
            runs.extended.nodes
            ∙ (λ k. sym at.1 k ++ record (sym at.2 k) { clause = Some c } ∷ (map (child_at (sym at.2 k).depth) (sym run.3 k) ++ sym at.3 k));
      }

  built_now : IsBuilt problem (state_of later new)
  built_now = steps_build problem (extend c j) (state_of s old) (state_of later new) standing.valid standing.built may takes

  moved : IsMoved node.depth (suc node.depth) (children_at node.depth runs.children ++ drop (suc old.leaf) old.nodes) (record node { clause = Some c }) old new
  moved =
      let above = bounds.1 in
      let below = bounds.0 in
      let room = standing.leaf.room in
      let less = shallow node runs.extended.stands in
      record {
        nodes = runs.extended.nodes;
        shut = λ opened. let none : Some c ≡ None = opened.leaf in absurd cc;
        same = refl;
        falls = kids_fall node.depth runs.children (drop (suc old.leaf) old.nodes) (standing.leaf.falls node runs.extended.stands);
        top_is = omega arith;
        bounds = kids_within node.depth runs.children (drop (suc old.leaf) old.nodes) less
            (λ i n is. standing.leaf.below (suc old.leaf + i) n (sym (get_in_drop (suc old.leaf) old.nodes i) ∙ is));
        room = ap length runs.extended.branch ∙ length-set old.branch (node.depth - 1) old.leaf ∙ room;
        kept = λ level small. ap (λ ns. slice_get ns level) runs.extended.branch ∙ get_other old.branch (node.depth - 1) level old.leaf (λ same. omega (arith, same, small));
        here = λ level same deep.
            let at : node.depth - 1 ≡ level = omega (arith, same) in
            ap (λ ns. slice_get ns level) runs.extended.branch ∙ ap (λ i. slice_get (set old.branch i old.leaf) level) at
            ∙ get_set old.branch level old.leaf (omega (arith, same, above, room));
        next = runs.extended.leaf;
      }

  standing_now : IsStanding problem ground later new
  standing_now = record {
    valid = standing.valid;
    built = built_now;
    cells = ground_cells_last s later problem.terms ground grown.0 standing.cells;
    leaf = moves_on node.depth (suc node.depth) (children_at node.depth runs.children ++ drop (suc old.leaf) old.nodes) (record node { clause = Some c }) old new node standing.leaf runs.extended.stands refl moved;
  }

  branch_again : set new.branch (node.depth - 1) t.replaced ≡ old.branch
  branch_again =
      ap (λ ns. set ns (node.depth - 1) t.replaced) runs.extended.branch
      ∙ set-set old.branch (node.depth - 1) old.leaf t.replaced ∙ set-get_or old.branch (node.depth - 1) 0

  again : reopened (record node { clause = Some c }) ≡ node
  again = open_again node (record node { clause = Some c }) is_open refl refl

  undone : tree_before t old.taken new ≡ old
  undone = undoes_step old new node (record node { clause = Some c }) (children_at node.depth runs.children) t runs.extended.stands runs.extended.nodes again refl refl refl branch_again

  can : CanUndo t new
  can = can_undo old new node (record node { clause = Some c }) (children_at node.depth runs.children) t runs.extended.stands runs.extended.nodes again refl refl refl branch_again
      bounds.0 bounds.1 moved.room

  pub extension_history : IsHistory problem ground old.taken s old → IsHistory problem ground new.taken later new
  extension_history history = history_grows problem ground s later old new t runs.extended.taken undone can refl standing.built.sound grown.0 history standing_now

  pub extension_taken : IsTaken (extend c j) (value_of problem s old) (value_of problem later new)
  extension_taken = record {
    problem = refl;
    before = states_grow problem ground s later old new t runs.extended.taken undone can refl standing.built.sound grown.0;
    takes = takes;
    built = built_now;
  }

get_within : {A : Type 0} (xs : List A) (i : ℕ) → i < length xs → (x : A) × (slice_get xs i ≡ Some x)
get_within [] i within = absurd (omega (arith, within))
get_within (x ∷ xs) zero within = (x, refl)
get_within (x ∷ xs) (suc i) within = get_within xs i (omega (arith, within))

get_map : {A B : Type 0} (f : A → B) (xs : List A) (i : ℕ) (x : A) → slice_get xs i ≡ Some x → slice_get (map f xs) i ≡ Some (f x)
get_map f [] i x is = absurd cc
get_map f (y ∷ xs) zero x is = ap (λ z. Some (f z)) (some_same y x is)
get_map f (y ∷ xs) (suc i) x is = get_map f xs i x is

-- the ancestor that the branch's place gives is the one on the branch of the run
on_branch : (m : MachineState) (tree : TreeValue) (at : LeafOf m) (k : ℕ) (ancestor : CellNode) → at.before ≡ take tree.leaf tree.nodes
    → HasAncestor tree k ancestor → k < at.leaf.depth → IsAncestor at.branch k ancestor.literal at.leaf.literal
on_branch m tree at k ancestor before has less =
    let counted = has.depth in
    let long = at.leads.depth in
    let found = get_within at.leads.above has.level (omega (arith, counted, long, less)) in
    let one : IsAncestorAt at.before (has.level + 1) found.0 = at.leads.ancestors has.level found.0 found.1 in
    let other : IsAncestorAt at.before (has.level + 1) has.has.ancestor = subst (λ ns. IsAncestorAt ns (has.level + 1) has.has.ancestor) (sym before) (ancestor_at tree has.level has.has) in
    let same : found.0 ≡ ancestor = same_ancestor at.before (has.level + 1) found.0 has.has.ancestor one other ∙ has.same in
    record {
      above = map (λ (n : CellNode). n.literal) at.leads.above;
      place = has.level;
      all = at.leads.literals;
      at_depth = has.depth;
      stands = get_map (λ (n : CellNode). n.literal) at.leads.above has.level found.0 found.1 ∙ ap (λ (n : CellNode). Some n.literal) same;
    }

module _ (problem : Problem) (ground : List (Option ℕ)) (s : Equations) (tree : TreeValue) (standing : IsStanding problem ground s tree)
    (node : CellNode) (stands : slice_get tree.nodes tree.leaf ≡ Some node) (k : ℕ) (may : MayTakeAt problem tree (reduce k)) where
  -- the depth of a reduction is above the leaf's
  above_leaf : k < node.depth
  above_leaf =
      reduction_depth problem ground s tree standing node stands k may

  ancestor_on_branch : (ancestor : CellNode) → HasAncestor tree k ancestor
      → let at = branched problem ground s tree standing node stands in IsAncestor at.0.branch k ancestor.literal at.0.leaf.literal
  ancestor_on_branch ancestor has =
      let at = branched problem ground s tree standing node stands in
      on_branch (state_of s tree) tree at.0 k ancestor at.1 has (subst (λ (n : CellNode). k < n.depth) (sym at.2) above_leaf)

  pub reduction_fails : FailsReduction k s tree → IsRefused (reduce k) (value_of problem s tree) (value_of problem s tree)
  reduction_fails failed =
      let at = branched problem ground s tree standing node stands in
      let there = ancestor_on_branch failed.ancestor failed.is_ancestor in
      let leaf : failed.node ≡ at.0.leaf = some_same failed.node node (sym failed.stands ∙ stands) ∙ sym at.2 in
      let fails : ReductionFails problem.clauses k (state_of s tree) = record {
        at = at.0;
        fails = record {
          before = [];
          instruction = REDUCE k;
          after = DONE ∷ [];
          reached = before_step 0 s at.0.branch [];
          whole = refl;
          runs = refl;
          failed = λ a l is.
              let same = back.same_ancestor at.0.branch k a l failed.ancestor.literal at.0.leaf.literal is there in
              subst (λ (b : CellLiteral). CannotClose s l b) (sym same.0)
              (subst (λ (b : CellLiteral). CannotClose s b failed.ancestor.literal) (ap (λ (n : CellNode). n.literal) leaf ∙ sym same.1) failed.cannot);
        };
      } in
      record {
        same = refl;
        fails = fails;
        none = failed_steps_label_nothing problem (reduce k) (state_of s tree) standing.valid standing.built may fails;
      }

module _ (problem : Problem) (ground : List (Option ℕ)) (s later : Equations) (old new : TreeValue) (k : ℕ)
    (standing : IsStanding problem ground s old) (may : MayTakeAt problem old (reduce k)) (runs : RunsReduction k s later old new) where
  abbrev reduced_node : CellNode
  reduced_node = runs.reduced.node

  abbrev reduction : Taken
  reduction = record {
    step = Reduce k;
    mark = counts_of s;
    leaf = old.leaf;
    nodes = length old.nodes;
    replaced = slice_index_or old.branch (reduced_node.depth - 1) 0;
  }

  reduced_bounds : (1 ≤ reduced_node.depth) × (reduced_node.depth ≤ deepest)
  reduced_bounds = standing.leaf.below old.leaf reduced_node runs.reduced.stands

  reduced_open : IsOpen reduced_node
  reduced_open = standing.leaf.next.here reduced_node runs.reduced.stands

  reduced_grown : IsLater s later × IsSound later
  reduced_grown = unites_grow s reduced_node.literal.args runs.ancestor.literal.args later runs.unites standing.built.sound

  reduces : Reduces problem.clauses k (state_of s old) (state_of later new)
  reduces =
      let at = branched problem ground s old standing reduced_node runs.reduced.stands in
      let there = ancestor_on_branch problem ground s old standing reduced_node runs.reduced.stands k may runs.ancestor runs.is_ancestor in
      let leaf : reduced_node ≡ at.0.leaf = sym at.2 in
      let last : RunState = record (before_step 0 s at.0.branch []) { equations = later; closed_by = Some k } in
      record {
        at = at.0;
        last = last;
        runs = (
          last,
          (
            runs.ancestor.literal,
            at.0.leaf.literal,
            later,
            there,
            subst (λ (n : CellNode). n.literal.positive ≡ not runs.ancestor.literal.positive) leaf runs.sign,
            subst (λ (n : CellNode). n.literal.predicate ≡ runs.ancestor.literal.predicate) leaf runs.predicate,
            subst (λ (n : CellNode). Unites s n.literal.args runs.ancestor.literal.args later) leaf runs.unites,
            refl,
          ),
          (last, refl, refl),
        );
        steps = ap steps_of runs.reduced.taken;
        equations = refl;
        nodes = runs.reduced.nodes ∙ (λ i. sym at.1 i ++ record (sym at.2 i) { closed_by = Some k } ∷ sym at.3 i);
      }

  reduced_built : IsBuilt problem (state_of later new)
  reduced_built = steps_build problem (reduce k) (state_of s old) (state_of later new) standing.valid standing.built may reduces

  reduced_moved : IsMoved reduced_node.depth reduced_node.depth (drop (suc old.leaf) old.nodes) (record reduced_node { closed_by = Some k }) old new
  reduced_moved = record {
    nodes = runs.reduced.nodes;
    shut = λ opened. let none : Some k ≡ None = opened.unclosed in absurd cc;
    same = refl;
    falls = standing.leaf.falls reduced_node runs.reduced.stands;
    top_is = omega arith;
    bounds = λ i n is. standing.leaf.below (suc old.leaf + i) n (sym (get_in_drop (suc old.leaf) old.nodes i) ∙ is);
    room = ap length runs.reduced.branch ∙ standing.leaf.room;
    kept = λ level small. ap (λ ns. slice_get ns level) runs.reduced.branch;
    here = λ level same deep. absurd (omega (arith, deep));
    next = runs.reduced.leaf;
  }

  reduced_standing : IsStanding problem ground later new
  reduced_standing = record {
    valid = standing.valid;
    built = reduced_built;
    cells = ground_cells_last s later problem.terms ground reduced_grown.0 standing.cells;
    leaf = moves_on reduced_node.depth reduced_node.depth (drop (suc old.leaf) old.nodes) (record reduced_node { closed_by = Some k }) old new reduced_node standing.leaf runs.reduced.stands refl reduced_moved;
  }

  branch_same : set new.branch (reduced_node.depth - 1) reduction.replaced ≡ old.branch
  branch_same = ap (λ ns. set ns (reduced_node.depth - 1) reduction.replaced) runs.reduced.branch ∙ set-get_or old.branch (reduced_node.depth - 1) 0

  reduced_again : reopened (record reduced_node { closed_by = Some k }) ≡ reduced_node
  reduced_again = open_again reduced_node (record reduced_node { closed_by = Some k }) reduced_open refl refl

  reduced_undone : tree_before reduction old.taken new ≡ old
  reduced_undone = undoes_step old new reduced_node (record reduced_node { closed_by = Some k }) [] reduction runs.reduced.stands runs.reduced.nodes reduced_again refl refl refl branch_same

  reduced_can : CanUndo reduction new
  reduced_can = can_undo old new reduced_node (record reduced_node { closed_by = Some k }) [] reduction runs.reduced.stands runs.reduced.nodes reduced_again refl refl refl branch_same
      reduced_bounds.0 reduced_bounds.1 reduced_moved.room

  pub reduction_history : IsHistory problem ground old.taken s old → IsHistory problem ground new.taken later new
  reduction_history history = history_grows problem ground s later old new reduction runs.reduced.taken reduced_undone reduced_can refl standing.built.sound reduced_grown.0 history reduced_standing

  pub reduction_taken : IsTaken (reduce k) (value_of problem s old) (value_of problem later new)
  reduction_taken = record {
    problem = refl;
    before = states_grow problem ground s later old new reduction runs.reduced.taken reduced_undone reduced_can refl standing.built.sound reduced_grown.0;
    takes = reduces;
    built = reduced_built;
  }

-- an extension whose code fails is refused
pub extension_fails : (problem : Problem) (ground : List (Option ℕ)) (s : Equations) (tree : TreeValue) (standing : IsStanding problem ground s tree)
    (c j : ℕ) → MayTakeAt problem tree (extend c j) → FailsExtension problem.clauses c j s tree
    → IsRefused (extend c j) (value_of problem s tree) (value_of problem s tree)
extension_fails problem ground s tree standing c j may failed =
    let leaf = leaf_stands problem ground s tree standing (extend c j) may (λ n same. absurd cc) in
    let at = branched problem ground s tree standing leaf.node leaf.stands in
    let there = literal_there problem ground s tree standing leaf.node leaf.stands c j may in
    let fails : ExtensionFails problem.clauses c j (state_of s tree) = record {
      at = at.0;
      literal = there.0;
      stands = there.1;
      fails = subst (λ (n : CellNode). RunFails (bodies_of problem.clauses) (extension_code c j there.0) (before_step (variables_at problem.clauses c) s at.0.branch n.literal.args)) (sym at.2)
          (failed leaf.node leaf.stands there.0 there.1 at.0.branch);
    } in
    record {
      same = refl;
      fails = fails;
      none = failed_steps_label_nothing problem (extend c j) (state_of s tree) standing.valid standing.built may fails;
    }

module _ (problem : Problem) (ground : List (Option ℕ)) (s later : Equations) (old new : TreeValue) (c : ℕ)
    (standing : IsStanding problem ground s old) (clause : c < length problem.clauses) (first : steps_of old.taken ≡ [])
    (none : old.nodes ≡ []) (runs : RunsStart problem.clauses c s later old new) where
  abbrev start_step : Taken
  start_step = record { step = Start c; mark = counts_of s; leaf = 0; nodes = 0; replaced = 0 }

  start_grown : IsLater s later × IsSound later
  start_grown = run_grows problem.clauses (start_code c) (variables_at problem.clauses c) [] s later runs.children runs.comes standing.built.sound (All-nil (λ n. n < length s.cells))

  starts : Starts problem.clauses c (state_of s old) (state_of later new)
  starts =
      let run = runs.comes [] in
      record {
        last = run.0;
        runs = run.1;
        steps = ap steps_of runs.started.taken;
        equations = sym run.2;
        nodes = runs.started.nodes ∙ ap (children_at 0) (sym run.3);
      }

  may_start : MayTakeAt problem old (start c)
  may_start = subst (λ steps. MayTake problem.clauses (built problem.clauses steps) (start c)) (sym first) clause

  start_built : IsBuilt problem (state_of later new)
  start_built = steps_build problem (start c) (state_of s old) (state_of later new) standing.valid standing.built may_start starts

  nodes_are : new.nodes ≡ children_at 0 runs.children ++ []
  nodes_are = runs.started.nodes ∙ sym (append-nil (children_at 0 runs.children))

  depths_fall : Falls 1 new.nodes
  depths_fall = subst (Falls 1) (sym nodes_are) (kids_fall 0 runs.children [] tt)

  start_leaf : IsAtLeaf new
  start_leaf = record {
    next = runs.started.leaf;
    below = λ place n is. kids_within 0 runs.children [] (omega arith) (λ i m none_there. absurd cc) place n (ap (λ ns. slice_get ns place) (sym nodes_are) ∙ is);
    room = ap length runs.started.branch ∙ standing.leaf.room;
    falls = λ n is. (falls_at 1 new.nodes new.leaf n depths_fall is).1;
    above = λ n level is deep. let most = (falls_at 1 new.nodes new.leaf n depths_fall is).0 in absurd (omega (arith, deep, most));
  }

  start_standing : IsStanding problem ground later new
  start_standing = record {
    valid = standing.valid;
    built = start_built;
    cells = ground_cells_last s later problem.terms ground start_grown.0 standing.cells;
    leaf = start_leaf;
  }

  leaf_first : 0 ≡ old.leaf
  leaf_first = let within = subst (λ ns. old.leaf ≤ length ns) none standing.leaf.next.passed.within in omega (arith, within)

  start_undone : tree_before start_step old.taken new ≡ old
  start_undone = λ i. record { nodes = sym none i; branch = runs.started.branch i; leaf = leaf_first i; taken = old.taken }

  start_can : CanUndo start_step new
  start_can = record { reopens = λ other. absurd cc }

  pub start_history : IsHistory problem ground old.taken s old → IsHistory problem ground new.taken later new
  start_history history = history_grows problem ground s later old new start_step runs.started.taken start_undone start_can refl standing.built.sound start_grown.0 history start_standing

  pub start_taken : IsTaken (start c) (value_of problem s old) (value_of problem later new)
  start_taken = record {
    problem = refl;
    before = states_grow problem ground s later old new start_step runs.started.taken start_undone start_can refl standing.built.sound start_grown.0;
    takes = starts;
    built = start_built;
  }

-- where nothing changed, all is as before
unchanged : (problem : Problem) (ground : List (Option ℕ)) (s later : Equations) (old new : TreeValue) → IsHistory problem ground old.taken s old
    → (later ≡ s) × (new ≡ old) → IsHistory problem ground new.taken later new
unchanged problem ground s later old new history same =
    subst (λ tree. IsHistory problem ground tree.taken later tree) (sym same.1)
    (subst (λ e. IsHistory problem ground old.taken e old) (sym same.0) history)

module _ (problem : Problem) (ground : List (Option ℕ)) (s later : Equations) (old new : TreeValue)
    (history : IsHistory problem ground old.taken s old) where
  standing_old : IsStanding problem ground s old
  standing_old = stands_now problem ground old.taken s old history

  same_value : (later ≡ s) × (new ≡ old) → value_of problem later new ≡ value_of problem s old
  same_value same = ap₂ (λ e tree. value_of problem e tree) same.0 same.1

  module _ (c j : ℕ) (may : MayTakeAt problem old (extend c j)) (shallow : IsShallow old) where
    pub extended_history : (result : Result Bool AllocError)
        → IfOk result (λ done. OnTrue done (RunsExtension problem.clauses c j s later old new))
        → IfOk result (λ done. OnFalse done ((later ≡ s) × (new ≡ old)))
        → OnErr result ((later ≡ s) × (new ≡ old)) → IsHistory problem ground new.taken later new
    extended_history (Ok true) runs before err = extension_history problem ground s later old new c j standing_old may shallow runs history
    extended_history (Ok false) runs before err = unchanged problem ground s later old new history before
    extended_history (Err e) runs before err = unchanged problem ground s later old new history err

    pub extended_answer : (result : Result Bool AllocError)
        → IfOk result (λ done. OnTrue done (RunsExtension problem.clauses c j s later old new))
        → IfOk result (λ done. OnFalse done (FailsExtension problem.clauses c j s old))
        → IfOk result (λ done. OnFalse done ((later ≡ s) × (new ≡ old)))
        → IfOk result (Answers (extend c j) (value_of problem s old) (value_of problem later new))
    extended_answer (Ok true) runs fails before = extension_taken problem ground s later old new c j standing_old may shallow runs
    extended_answer (Ok false) runs fails before =
        subst (IsRefused (extend c j) (value_of problem s old)) (sym (same_value before)) (extension_fails problem ground s old standing_old c j may fails)
    extended_answer (Err e) runs fails before = tt

  module _ (k : ℕ) (may : MayTakeAt problem old (reduce k)) where
    pub reduced_history : (result : Result Bool AllocError)
        → IfOk result (λ done. OnTrue done (RunsReduction k s later old new))
        → IfOk result (λ done. OnFalse done ((later ≡ s) × (new ≡ old)))
        → OnErr result ((later ≡ s) × (new ≡ old)) → IsHistory problem ground new.taken later new
    reduced_history (Ok true) runs before err = reduction_history problem ground s later old new k standing_old may runs history
    reduced_history (Ok false) runs before err = unchanged problem ground s later old new history before
    reduced_history (Err e) runs before err = unchanged problem ground s later old new history err

    pub reduced_answer : (result : Result Bool AllocError)
        → IfOk result (λ done. OnTrue done (RunsReduction k s later old new))
        → IfOk result (λ done. OnFalse done (FailsReduction k s old))
        → IfOk result (λ done. OnFalse done ((later ≡ s) × (new ≡ old)))
        → IfOk result (Answers (reduce k) (value_of problem s old) (value_of problem later new))
    reduced_answer (Ok true) runs fails before = reduction_taken problem ground s later old new k standing_old may runs
    reduced_answer (Ok false) runs fails before =
        subst (IsRefused (reduce k) (value_of problem s old)) (sym (same_value before))
        (reduction_fails problem ground s old standing_old fails.node fails.stands k may fails)
    reduced_answer (Err e) runs fails before = tt

  module _ (c : ℕ) (clause : c < length problem.clauses) (first : steps_of old.taken ≡ []) (none : old.nodes ≡ []) where
    pub started_history : (result : Result Bool AllocError)
        → OnOk result (RunsStart problem.clauses c s later old new)
        → OnErr result ((later ≡ s) × (new ≡ old)) → IsHistory problem ground new.taken later new
    started_history (Ok taken) runs err = start_history problem ground s later old new c standing_old clause first none runs history
    started_history (Err e) runs err = unchanged problem ground s later old new history err

    pub started_answer : (result : Result Bool AllocError)
        → OnOk result (RunsStart problem.clauses c s later old new) → IfOk result (λ taken. IsTrue taken)
        → IfOk result (Answers (start c) (value_of problem s old) (value_of problem later new))
    started_answer (Ok true) runs taken = start_taken problem ground s later old new c standing_old clause first none runs
    started_answer (Ok false) runs taken = absurd cc
    started_answer (Err e) runs taken = tt

none_mapped : (nodes : List CellNode) → map shape_of nodes ≡ [] → nodes ≡ []
none_mapped [] none = refl
none_mapped (n ∷ nodes) none = absurd cc

-- before the first step there are no nodes
pub no_nodes_first : (problem : Problem) (ground : List (Option ℕ)) (s : Equations) (tree : TreeValue) → IsStanding problem ground s tree
    → steps_of tree.taken ≡ [] → tree.nodes ≡ []
no_nodes_first problem ground s tree standing first =
    none_mapped tree.nodes (standing.built.shapes ∙ ap (λ steps. nodes_of (built problem.clauses steps)) first)

-- a leaf that isn't deeper than 250 may be extended
pub shallow_leaf : (problem : Problem) (ground : List (Option ℕ)) (s : Equations) (tree : TreeValue) → IsStanding problem ground s tree
    → IsNotDeeper 250 (value_of problem s tree) → IsShallow tree
shallow_leaf problem ground s tree standing depth node stands =
    let agrees = selected_leaves_agree problem (state_of s tree) (take tree.leaf tree.nodes) node (drop (suc tree.leaf) tree.nodes) standing.built
    (chosen problem ground s tree standing node stands) in
    let deep = agrees.2.depth in
    let most = depth agrees.0 agrees.1 in
    omega (arith, deep, most)

-- the last step undone
pub history_back : (problem : Problem) (ground : List (Option ℕ)) (ts : List Taken) (s : Equations) (tree new : TreeValue) (mark : Counts)
    → IsHistory problem ground ts s tree → Undoes ts tree new mark
    → IsHistory problem ground new.taken (at_mark s mark) new
    × (state_of (at_mark s mark) new ∷ states_before new.taken (at_mark s mark) new ≡ states_before ts s tree)
    × HasMark s mark
history_back problem ground [] s tree new mark history undone = absurd undone
history_back problem ground (t ∷ earlier) s tree new mark history undone =
    let back = tree_before t earlier tree in (
      subst (λ n. IsHistory problem ground new.taken (at_mark s n) new) (sym undone.1)
          (subst (λ u. IsHistory problem ground u.taken (at_mark s t.mark) u) (sym undone.0) history.3),
      ap₂ (λ n u. state_of (at_mark s n) u ∷ states_before u.taken (at_mark s n) u) undone.1 undone.0,
      subst (HasMark s) (sym undone.1) history.1,
    )

-- before the first step
begins : (problem : Problem) (s : Equations) → IsSound s → IsBuilt problem (record { steps = []; equations = s; nodes = [] })
begins problem s sound = record {
  sound = sound;
  cells = All-nil (λ n. HasArgsBelow (length s.cells) n.literal);
  counts = All-nil (λ n. HasItsCount problem.symbols n.literal);
  shapes = refl;
  labels = λ root below is. absurd cc;
}

pub first_history : (problem : Problem) (ground : List (Option ℕ)) (s : Equations) (tree : TreeValue) → tree ≡ no_tree → IsValid problem → IsSound s
    → HasGroundCells problem.terms ground s → IsHistory problem ground tree.taken s tree
first_history problem ground s tree is valid sound cells = subst (λ t. IsHistory problem ground t.taken s t) (sym is) (record {
  valid = valid;
  built = begins problem s sound;
  cells = cells;
  leaf = record {
    next = record {
      passed = record { beyond = omega arith; within = omega arith; before = λ place node from below stands. absurd cc };
      here = λ node stands. absurd cc;
    };
    below = λ place node stands. absurd cc;
    room = length-replicate {A = ℕ} deepest 0;
    falls = λ node stands. absurd cc;
    above = λ node level stands deep. absurd cc;
  };
})
