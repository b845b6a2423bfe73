-- What is watched tells of a machine's nodes, before a step and after it.
use Rattle.std.proofs.Common.{◌≡◌, ◌≢◌, ℕ, zero, suc, ◌+◌, ◌-◌, ◌<◌, inl, inr, Bool, true, false, ◌==◌, ◌&&◌, if◌then◌else◌, List, [], ◌∷◌, ◌++◌, length, map, Option, Some, None, IsSomeAnd, slice_get, take, drop, refl, sym, ◌∙◌, ap, ap₂, subst, arith}
use Rattle.std.specs.Prelude.{◌↔◌, All, Contains}
use Rattle.std.specs.Bool.{beq}
use Rattle.std.specs.Option.{option_map_or}
use Rattle.std.proofs.lemmas.Bool.{eqb-true}
use Rattle.std.proofs.lemmas.Bool.Decides.{eqb_tells}
use Rattle.std.proofs.lemmas.List.{length-append, length-map, map-append, append-nil}
use Rattle.std.proofs.lemmas.List.Elements.{All-nil, All-cons, All-head, All-tail, All-append}
use Rattle.pm_logic.specs.Term.{Term}
use Rattle.pm_logic.specs.Problem.{Literal, Problem, IsValid}
use Rattle.pm_logic.specs.Tableau.{Tableau, forest_of}
use Rattle.pm_store.specs.Marks.{IsLater}
use Rattle.pm_store.proofs.ListLemmas.{All-left, All-right}
use Rattle.pm_compile.specs.Scheme.{start_code, extension_code}
use Rattle.pm_run.specs.State.{CellLiteral, Child, literal_under}
use Rattle.pm_run.specs.Bodies.{bodies_of, variables_at}
use Rattle.pm_run.specs.InStore.{HasArgsBelow}
use Rattle.pm_run.specs.Steps.{reduction_code}
use Rattle.pm_run.proofs.KeepLemmas.{runs_stay_in_stores}
use Rattle.pm_run.proofs.StepLemmas.{steps_begin_in_stores}
use Rattle.pm_calculus.specs.Connection.{IsRegular}
use Rattle.pm_calculus.specs.Skeleton.{State, empty, rooted, Step, start, extend, reduce, Subgoal, selected, built, nodes_of}
use Rattle.pm_calculus.specs.Alternatives.{IsStepAt, MayTake}
use Rattle.pm_diseq.specs.Notes.{Pair, as_pair}
use Rattle.pm_machine.specs.State.{CellNode, MachineState, shape_of, IsOpen, IsAncestorAt, child_at}
use Rattle.pm_machine.specs.Labels.{IsBuilt, entry_under, tableau_under}
use Rattle.pm_machine.specs.Taken.{LeafOf, begun, begun_at, Starts, Extends, Reduces, Takes}
use Rattle.pm_machine.proofs.CellTrees.{grown, node_at, all_nodes_in}
use Rattle.pm_machine.proofs.Contexts.{Context, plugged, depth_in, ancestors_in, depth_counts, ancestor_before}
use Rattle.pm_machine.proofs.Leaves.{child_leaves, nodes_of_children}
use Rattle.pm_machine.proofs.AtLeaf.{same_ancestor, leaf_of, leaf_same, nodes_there}
use Rattle.pm_machine.proofs.TreeLemmas.{slice_get-map}
use Rattle.pm_machine.proofs.Extending as extending
use Rattle.pm_machine.proofs.Reducing as reducing
use Rattle.pm_tab.specs.Repeats.{AreApart, TellsRepeats}
use Rattle.pm_tab.specs.Repeats.{has_same_face, pairs_with, family_pairs, literal_at, literals_in, literals_after, IsBranchOf, NotesBranch, last_of, new_pairs}
use Rattle.pm_tab.proofs.Around.{AreNew}
use Rattle.pm_tab.proofs.Families.{child_literals, started_regular, above, extended_regular}

-- a step only adds to the store
module _ (problem : Problem) (m new : MachineState) (valid : IsValid problem) (is : IsBuilt problem m) where
  pub step_grows : (step : Step) → MayTake problem.clauses (built problem.clauses m.steps) step → Takes problem.clauses step m new → IsLater m.equations new.equations
  step_grows (start c) may taken =
      subst (IsLater m.equations) (sym taken.equations)
      (runs_stay_in_stores (bodies_of problem.clauses) (start_code c) (begun m (variables_at problem.clauses c) [] []) taken.last taken.runs
      (steps_begin_in_stores (variables_at problem.clauses c) m.equations [] [] is.sound (All-nil (λ n. n < length m.equations.cells)) (All-nil (HasArgsBelow (length m.equations.cells))))).1
  step_grows (extend c j) may taken =
      subst (IsLater m.equations) (sym taken.equations)
      (runs_stay_in_stores (bodies_of problem.clauses) (extension_code c j taken.literal) (begun_at problem.clauses c m taken.at) taken.last taken.runs
      (extending.begun_in_store problem c j m valid is may taken.at)).1
  step_grows (reduce k) may taken =
      subst (IsLater m.equations) (sym taken.equations)
      (runs_stay_in_stores (bodies_of problem.clauses) (reduction_code k) (begun m 0 taken.at.branch []) taken.last taken.runs
      (reducing.begun_in_store problem k m is may taken.at)).1

-- what a list with a first item contains
not_first : {A : Type 0} (x : A) (xs : List A) (y : A) → ¬ Contains (x ∷ xs) y → (x ≢ y) × ¬ Contains xs y
not_first x xs y none = (λ same. none (0, omega arith, same), λ (k, lt, is). none (suc k, omega (arith, lt), is))

not_in : {A : Type 0} (x : A) (xs : List A) (y : A) → x ≢ y → ¬ Contains xs y → ¬ Contains (x ∷ xs) y
not_in x xs y other none (zero, lt, is) = other is
not_in x xs y other none (suc k, lt, is) = none (k, omega (arith, lt), is)

pub map_map : {A B C : Type 0} (f : A → B) (g : B → C) (xs : List A) → map g (map f xs) ≡ map (λ x. g (f x)) xs
map_map f g [] = refl
map_map f g (x ∷ xs) = ap (λ ys. g (f x) ∷ ys) (map_map f g xs)

same_lists : {A : Type 0} (xs ys : List A) → length xs ≡ length ys
    → ((i : ℕ) (x y : A) → slice_get xs i ≡ Some x → slice_get ys i ≡ Some y → x ≡ y) → xs ≡ ys
same_lists [] [] long each = refl
same_lists [] (y ∷ ys) long each = absurd (omega (arith, long))
same_lists (x ∷ xs) [] long each = absurd (omega (arith, long))
same_lists (x ∷ xs) (y ∷ ys) long each =
    ap₂ (λ z zs. z ∷ zs) (each 0 x y refl refl) (same_lists xs ys (omega (arith, long)) (λ i u v is_u is_v. each (suc i) u v is_u is_v))

-- literals over trees are equal only where they have the same sign and predicate, and then where their arguments are
faces_same : (a b e : Bool) → beq a b && e ≡ true → (a ≡ b) × (e ≡ true)
faces_same true true e h = (refl, h)
faces_same true false e h = absurd cc
faces_same false true e h = absurd cc
faces_same false false e h = (refl, h)

beq_same : (a : Bool) → beq a a ≡ true
beq_same true = refl
beq_same false = refl

pub eqb_same : (n : ℕ) → (n == n) ≡ true
eqb_same n = elim (eqb_tells n n) [ inl h ↦ h.0 | inr h ↦ absurd (h.1 refl) ]

module _ (trees : ℕ → Term) where
  abbrev over : CellLiteral → Literal
  over l = literal_under trees l

  face_of_same : (child above : CellLiteral) → over above ≡ over child → has_same_face child above ≡ true
  face_of_same child above same =
      let sign : above.positive ≡ child.positive = ap (λ (l : Literal). l.positive) same in
      let predicate : above.predicate ≡ child.predicate = ap (λ (l : Literal). l.predicate) same in
      ap₂ (λ b n. beq child.positive b && (child.predicate == n)) sign predicate
      ∙ ap₂ (λ b c. b && c) (beq_same child.positive) (eqb_same child.predicate)

  same_where : (child above : CellLiteral) → has_same_face child above ≡ true → map trees above.args ≡ map trees child.args → over above ≡ over child
  same_where child above face args =
      let both = faces_same child.positive above.positive (child.predicate == above.predicate) face in
      let predicate = eqb-true child.predicate above.predicate both.1 in
      λ k. record { positive = sym both.0 k; predicate = sym predicate k; args = args k }

  abbrev IsApart : Pair → Type 0
  IsApart pair = map trees pair.left ≢ map trees pair.right

  -- a literal is new below a branch where its pairs are apart
  pub new_below : (branch : List CellLiteral) (child : CellLiteral) → (¬ Contains (map over branch) (over child)) ↔ AreApart trees (pairs_with branch child)
  new_below [] child = (λ none. All-nil IsApart, λ apart (k, lt, is). omega (arith, lt))
  new_below (above ∷ branch) child = by (has_same_face child above) refl (new_below branch child)
    where
      by : (b : Bool) → has_same_face child above ≡ b → (¬ Contains (map over branch) (over child)) ↔ AreApart trees (pairs_with branch child)
          → (¬ Contains (over above ∷ map over branch) (over child))
          ↔ AreApart trees (if b then as_pair above.args child.args ∷ pairs_with branch child else pairs_with branch child)
      by true face rest = (
        λ none. let h = not_first (over above) (map over branch) (over child) none in
            All-cons IsApart (as_pair above.args child.args) (pairs_with branch child) (λ args. h.0 (same_where child above face args)) (rest.0 h.1),
        λ apart. not_in (over above) (map over branch) (over child)
            (λ same. All-head IsApart (as_pair above.args child.args) (pairs_with branch child) apart (ap (λ (l : Literal). l.args) same))
            (rest.1 (All-tail IsApart (as_pair above.args child.args) (pairs_with branch child) apart)),
      )
      by false face rest = (
        λ none. rest.0 (not_first (over above) (map over branch) (over child) none).1,
        λ apart. not_in (over above) (map over branch) (over child)
            (λ same. let test = face_of_same child above same in absurd cc) (rest.1 apart),
      )

  pub apart_parts : (ps qs : List Pair) → AreApart trees (ps ++ qs) ↔ (AreApart trees ps × AreApart trees qs)
  apart_parts ps qs = (λ all. (All-left IsApart ps qs all, All-right IsApart ps qs all), λ (p, q). All-append IsApart ps qs p q)

  abbrev IsNewIn : List CellLiteral → Literal → Type 0
  IsNewIn branch l = ¬ Contains (map over branch) l

  -- a family is new below a branch where its pairs are apart
  pub family_new : (branch children : List CellLiteral) → AreNew (map over branch) (map over children) ↔ AreApart trees (family_pairs branch children)
  family_new branch [] = (λ h. All-nil IsApart, λ h. All-nil (IsNewIn branch))
  family_new branch (child ∷ children) = (
    λ h. (apart_parts (pairs_with branch child) (family_pairs branch children)).1 (
      (new_below branch child).0 (All-head (IsNewIn branch) (over child) (map over children) h),
      (family_new branch children).0 (All-tail (IsNewIn branch) (over child) (map over children) h),
    ),
    λ h. let k = (apart_parts (pairs_with branch child) (family_pairs branch children)).0 h in
        All-cons (IsNewIn branch) (over child) (map over children) ((new_below branch child).1 k.0) ((family_new branch children).1 k.1),
  )

-- the pairs of a branch with an end
last_is : (p : ℕ) (above : List ℕ) (q : ℕ) → last_of (p ∷ (above ++ q ∷ [])) ≡ q
last_is p [] q = refl
last_is p (r ∷ above) q = last_is r above q

new_pairs_are : (nodes : List CellNode) (above : List ℕ) (q count : ℕ)
    → new_pairs nodes (above ++ q ∷ []) count ≡ family_pairs (literals_in nodes (above ++ q ∷ [])) (literals_after nodes q count)
new_pairs_are nodes [] q count = refl
new_pairs_are nodes (p ∷ above) q count =
    ap (λ end. family_pairs (literals_in nodes (p ∷ (above ++ q ∷ []))) (literals_after nodes end count)) (last_is p above q)

-- nodes around the one in a place
get_at : {A : Type 0} (xs : List A) (x : A) (ys : List A) → slice_get (xs ++ x ∷ ys) (length xs) ≡ Some x
get_at [] x ys = refl
get_at (z ∷ xs) x ys = get_at xs x ys

get_before : {A : Type 0} (xs : List A) (ys zs : List A) (i : ℕ) → i < length xs → slice_get (xs ++ ys) i ≡ slice_get (xs ++ zs) i
get_before [] ys zs i lt = absurd (omega (arith, lt))
get_before (x ∷ xs) ys zs zero lt = refl
get_before (x ∷ xs) ys zs (suc i) lt = get_before xs ys zs i (omega (arith, lt))

drop_at : {A : Type 0} (xs : List A) (x : A) (ys : List A) → drop (suc (length xs)) (xs ++ x ∷ ys) ≡ ys
drop_at [] x ys = refl
drop_at (z ∷ xs) x ys = drop_at xs x ys

take_first : {A : Type 0} (xs ys : List A) → take (length xs) (xs ++ ys) ≡ xs
take_first [] ys = refl
take_first (x ∷ xs) ys = ap (λ zs. x ∷ zs) (take_first xs ys)

pub literal_is : (nodes : List CellNode) (place : ℕ) (node : CellNode) → slice_get nodes place ≡ Some node → literal_at nodes place ≡ node.literal
literal_is nodes place node is = ap (λ o. option_map_or (λ (n : CellNode). n.literal) o (record { positive = true; predicate = 0; args = [] })) is

pub children_there : (d : ℕ) (children : List Child) → map (λ (node : CellNode). node.literal) (map (child_at d) children) ≡ map (λ (child : Child). child.literal) children
children_there d children = map_map (child_at d) (λ (node : CellNode). node.literal) children

module _ (problem : Problem) (m new : MachineState) (valid : IsValid problem) (is : IsBuilt problem m) where
  module _ (c j : ℕ) (taken : Extends problem.clauses c j m new) (places : List ℕ) (notes : NotesBranch m.nodes places) where
    abbrev at : LeafOf m
    at = taken.at

    abbrev x : Context
    x = (leaf_of problem m at is).context

    abbrev l : CellLiteral
    l = (leaf_of problem m at is).literal

    abbrev d : ℕ
    d = depth_in 1 x

    abbrev noted : IsBranchOf m.nodes at.before at.leaf places
    noted = notes.some at.before at.leaf at.after at.selected

    abbrev children : List Child
    children = taken.last.children

    abbrev grown_leaf : CellNode
    grown_leaf = record at.leaf { clause = Some c }

    abbrev after : List CellNode
    after = map (child_at at.leaf.depth) children ++ at.after

    literal_kept : (level place : ℕ) → slice_get noted.above level ≡ Some place → (a : CellNode) → slice_get (ancestors_in 1 x) level ≡ Some a
        → literal_at new.nodes place ≡ a.literal
    literal_kept level place is_place a is_a =
        let h = noted.each level place is_place in
        let old : slice_get m.nodes place ≡ Some h.1 = h.2 in
        let there : slice_get new.nodes place ≡ Some h.1 =
        ap (λ ns. slice_get ns place) taken.nodes ∙ get_before at.before (grown_leaf ∷ after) (at.leaf ∷ at.after) place h.0
        ∙ ap (λ ns. slice_get ns place) (sym at.selected.stands) ∙ old in
        let same : h.1 ≡ a = same_ancestor at.before (level + 1) h.1 a h.3
        (subst (λ ns. IsAncestorAt ns (level + 1) a) (sym (leaf_of problem m at is).at.comes_after) (ancestor_before 1 x level (level + 1) a is_a (omega arith))) in
        literal_is new.nodes place h.1 there ∙ ap (λ (n : CellNode). n.literal) same

    as_many : length noted.above ≡ length (ancestors_in 1 x)
    as_many =
        let depth : at.leaf.depth ≡ d = ap (λ (n : CellNode). n.depth) (leaf_of problem m at is).at.is_leaf in
        omega (arith, noted.depth, depth, depth_counts 1 x)

    above_kept : map (literal_at new.nodes) noted.above ≡ map (λ (n : CellNode). n.literal) (ancestors_in 1 x)
    above_kept = same_lists (map (literal_at new.nodes) noted.above) (map (λ (n : CellNode). n.literal) (ancestors_in 1 x))
        (length-map noted.above (literal_at new.nodes) ∙ as_many ∙ sym (length-map (ancestors_in 1 x) (λ (n : CellNode). n.literal)))
        (λ i u v is_u is_v.
        let p = slice_get-map (literal_at new.nodes) noted.above i u is_u in
        let a = slice_get-map (λ (n : CellNode). n.literal) (ancestors_in 1 x) i v is_v in
        sym p.2 ∙ literal_kept i p.0 p.1 a.0 a.1 ∙ a.2)

    branch_kept : literals_in new.nodes places ≡ map (λ (n : CellNode). n.literal) (ancestors_in 1 x) ++ l ∷ []
    branch_kept =
        ap (literals_in new.nodes) noted.whole ∙ map-append (literal_at new.nodes) noted.above (length at.before ∷ [])
        ∙ ap₂ (λ ks k. ks ++ k ∷ []) above_kept
        (literal_is new.nodes (length at.before) grown_leaf (ap (λ ns. slice_get ns (length at.before)) taken.nodes ∙ get_at at.before grown_leaf after)
        ∙ leaf_same problem m at is)

    counted : length new.nodes - length m.nodes ≡ length children
    counted =
        let a = ap length taken.nodes ∙ length-append at.before (grown_leaf ∷ after) in
        let b = ap length at.selected.stands ∙ length-append at.before (at.leaf ∷ at.after) in
        let e = length-append (map (child_at at.leaf.depth) children) at.after in
        omega (arith, a, b, e, length-map children (child_at at.leaf.depth))

    children_kept : literals_after new.nodes (length at.before) (length new.nodes - length m.nodes) ≡ map (λ (child : Child). child.literal) children
    children_kept =
        ap₂ (λ n ns. map (λ (node : CellNode). node.literal) (take n (drop (suc (length at.before)) ns)))
        (counted ∙ sym (length-map children (child_at at.leaf.depth))) taken.nodes
        ∙ ap (λ ns. map (λ (node : CellNode). node.literal) (take (length (map (child_at at.leaf.depth) children)) ns)) (drop_at at.before grown_leaf after)
        ∙ ap (map (λ (node : CellNode). node.literal)) (take_first (map (child_at at.leaf.depth) children) at.after)
        ∙ children_there at.leaf.depth children

    new_there : new_pairs new.nodes places (length new.nodes - length m.nodes)
        ≡ family_pairs (map (λ (n : CellNode). n.literal) (ancestors_in 1 x) ++ l ∷ []) (map (λ (child : Child). child.literal) children)
    new_there =
        ap (λ ps. new_pairs new.nodes ps (length new.nodes - length m.nodes)) noted.whole
        ∙ new_pairs_are new.nodes noted.above (length at.before) (length new.nodes - length m.nodes)
        ∙ ap₂ family_pairs (ap (literals_in new.nodes) (sym noted.whole) ∙ branch_kept) children_kept

    nodes_are : new.nodes ≡ all_nodes_in 1 (plugged x (grown l c (child_leaves d children)))
    nodes_are =
        taken.nodes
        ∙ ap (λ (node : CellNode). at.before ++ record node { clause = Some c } ∷ (map (child_at node.depth) children ++ at.after)) (leaf_of problem m at is).at.is_leaf
        ∙ ap (λ ns. at.before ++ node_at d l (Some c) None ∷ (ns ++ at.after)) (sym (nodes_of_children d children))
        ∙ nodes_there problem m at is (grown l c (child_leaves d children))

    pub tells_extended : (pairs : List Pair) → TellsRepeats m.nodes pairs → TellsRepeats new.nodes (pairs ++ new_pairs new.nodes places (length new.nodes - length m.nodes))
    tells_extended pairs tells root trees =
        let fam : List Pair = family_pairs (map (λ (n : CellNode). n.literal) (ancestors_in 1 x) ++ l ∷ []) (map (λ (child : Child). child.literal) children) in
        let branch : List CellLiteral = map (λ (n : CellNode). n.literal) (ancestors_in 1 x) ++ l ∷ [] in
        let over_l : CellLiteral → Literal = literal_under trees in
        let grows = extended_regular problem m at is trees root c children new.nodes nodes_are in
        let above_is : above problem m at is trees root ≡ map over_l branch =
        sym (map-append over_l (map (λ (n : CellNode). n.literal) (ancestors_in 1 x)) (l ∷ [])
        ∙ ap (λ ls. ls ++ over_l l ∷ []) (map_map (λ (n : CellNode). n.literal) over_l (ancestors_in 1 x))) in
        let kids_are : child_literals trees children ≡ map over_l (map (λ (child : Child). child.literal) children) = sym (map_map (λ (child : Child). child.literal) over_l children) in
        let family = family_new trees branch (map (λ (child : Child). child.literal) children) in
        subst (λ qs. IsRegular (tableau_under trees root new.nodes) ↔ AreApart trees (pairs ++ qs)) (sym new_there) (
          λ h. let k = grows.0 h in
              (apart_parts trees pairs fam).1 ((tells root trees).0 k.0, family.0 (subst (λ ks. AreNew (map over_l branch) ks) kids_are (subst (λ ns. AreNew ns (child_literals trees children)) above_is k.1))),
          λ h. let k = (apart_parts trees pairs fam).0 h in
              grows.1 (
                (tells root trees).1 k.0,
                subst (λ ns. AreNew ns (child_literals trees children)) (sym above_is) (subst (λ ks. AreNew (map over_l branch) ks) (sym kids_are) (family.1 k.1)),
              ),
        )

  -- after a start nothing can repeat
  pub begun_empty : (c : ℕ) → MayTake problem.clauses (built problem.clauses m.steps) (start c) → m.nodes ≡ []
  begun_empty c may = by (built problem.clauses m.steps) may is.shapes
    where
      by : (state : State) → MayTake problem.clauses state (start c) → map shape_of m.nodes ≡ nodes_of state → m.nodes ≡ []
      by empty may shapes = no_items m.nodes shapes
        where
          no_items : (ns : List CellNode) → map shape_of ns ≡ [] → ns ≡ []
          no_items [] same = refl
          no_items (n ∷ ns) same = absurd cc
      by (rooted root trees) may shapes = absurd (never (selected (rooted root trees)) may)
        where
          never : (o : Option Subgoal) → IsSomeAnd o (λ leaf. IsStepAt problem.clauses leaf (start c)) → ⊥
          never None h = h
          never (Some goal) h = h

  tells_started : (c : ℕ) → MayTake problem.clauses (built problem.clauses m.steps) (start c) → Starts problem.clauses c m new → (places : List ℕ) → NotesBranch m.nodes places
      → (pairs : List Pair) → TellsRepeats m.nodes pairs → TellsRepeats new.nodes (pairs ++ new_pairs new.nodes places (length new.nodes - length m.nodes))
  tells_started c may taken places notes pairs tells root trees =
      let none : m.nodes ≡ [] = begun_empty c may in
      let bare : places ≡ [] = notes.none (subst (All (λ node. ¬ IsOpen node)) (sym none) (All-nil (λ (node : CellNode). ¬ IsOpen node))) in
      let old : IsRegular (tableau_under trees root m.nodes) = subst (λ ns. IsRegular (tableau_under trees root ns)) (sym none) tt in
      subst (λ ps. IsRegular (tableau_under trees root new.nodes) ↔ AreApart trees (pairs ++ new_pairs new.nodes ps (length new.nodes - length m.nodes))) (sym bare)
      (subst (λ qs. IsRegular (tableau_under trees root new.nodes) ↔ AreApart trees qs) (sym (append-nil pairs)) (
        λ h. (tells root trees).0 old,
        λ h. started_regular trees root taken.last.children new.nodes taken.nodes,
      ))

  -- a reduction changes no literal
  same_entries : (trees : ℕ → Term) (k : ℕ) → Reduces problem.clauses k m new → map (entry_under trees) new.nodes ≡ map (entry_under trees) m.nodes
  same_entries trees k taken =
      ap (map (entry_under trees)) taken.nodes
      ∙ map-append (entry_under trees) taken.at.before (record taken.at.leaf { closed_by = taken.last.closed_by } ∷ taken.at.after)
      ∙ sym (map-append (entry_under trees) taken.at.before (taken.at.leaf ∷ taken.at.after))
      ∙ ap (map (entry_under trees)) (sym taken.at.selected.stands)

  none_new : (nodes : List CellNode) (places : List ℕ) → new_pairs nodes places 0 ≡ []
  none_new nodes [] = refl
  none_new nodes (p ∷ places) = refl

  tells_reduced : (k : ℕ) → Reduces problem.clauses k m new → (places : List ℕ) (pairs : List Pair) → TellsRepeats m.nodes pairs
      → TellsRepeats new.nodes (pairs ++ new_pairs new.nodes places (length new.nodes - length m.nodes))
  tells_reduced k taken places pairs tells root trees =
      let count : length new.nodes - length m.nodes ≡ 0 =
      let a = ap length taken.nodes ∙ length-append taken.at.before (record taken.at.leaf { closed_by = taken.last.closed_by } ∷ taken.at.after) in
      let b = ap length taken.at.selected.stands ∙ length-append taken.at.before (taken.at.leaf ∷ taken.at.after) in
      omega (arith, a, b) in
      let same : tableau_under trees root new.nodes ≡ tableau_under trees root m.nodes =
      ap (λ es. let t : Tableau = record { root = root; children = forest_of es } in t) (same_entries trees k taken) in
      subst (λ qs. IsRegular (tableau_under trees root new.nodes) ↔ AreApart trees qs)
      (sym (ap (λ n. pairs ++ new_pairs new.nodes places n) count ∙ ap (λ qs. pairs ++ qs) (none_new new.nodes places) ∙ append-nil pairs))
      (subst (λ t. IsRegular t ↔ AreApart trees pairs) (sym same) (tells root trees))

  pub tells_step : (step : Step) → MayTake problem.clauses (built problem.clauses m.steps) step → Takes problem.clauses step m new → (places : List ℕ) → NotesBranch m.nodes places
      → (pairs : List Pair) → TellsRepeats m.nodes pairs → TellsRepeats new.nodes (pairs ++ new_pairs new.nodes places (length new.nodes - length m.nodes))
  tells_step (start c) may taken places notes pairs tells = tells_started c may taken places notes pairs tells
  tells_step (extend c j) may taken places notes pairs tells = tells_extended c j taken places notes pairs tells
  tells_step (reduce k) may taken places notes pairs tells = tells_reduced k taken places pairs tells
