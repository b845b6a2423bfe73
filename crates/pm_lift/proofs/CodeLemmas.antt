-- What the code's steps say, over plain variables.
use Rattle.std.proofs.Common.{◌≡◌, ℕ, zero, suc, ◌+◌, ◌-◌, ◌*◌, ◌^◌, ◌<◌, ◌≤◌, Bool, true, false, cond, not, List, [], ◌∷◌, ◌++◌, length, map, take, drop, get_or, slice_set, drop-cons, length-drop, lit<, Some, None, All, slice_get, refl, sym, ◌∙◌, ap, ap₂, arith, append_assoc}
use Rattle.std.proofs.lemmas.List.{length-map, get_or-map, map-append, take_all}
use Rattle.std.proofs.lemmas.List.Elements.{All-nil, All-cons, All-append, All-take}
use Rattle.pm_logic.specs.declared.tableau.Node.{Node}
use Rattle.pm_logic.specs.declared.tableau.NodeKind.TheVariants.{Leaf, Inner}
use Rattle.pm_logic.specs.Term.{Term}
use Rattle.pm_logic.specs.Problem.{Literal, Clause, Problem, IsValid}
use Rattle.pm_calculus.specs.Skeleton.{Face}
use Rattle.pm_calculus.specs.Alternatives.{heads}
use Rattle.pm_contra.specs.Index.{Index, IsIndexOf, heads_in}
use Rattle.pm_logic.specs.Tableau as T
use Rattle.pm_logic.specs.Tableau.{leaf, inner, Nodes, no_nodes, more_nodes, Tableau, Entry, depth_below, depth_among, depth, preorder_of, preorder_among, preorder}
use Rattle.pm_logic.specs.View.{literal_of, entry_of, HasRows}
use Rattle.pm_lift.specs.declared.branch.Ancestor.{Ancestor}
use Rattle.pm_lift.specs.Inside.Complements.{complements}
use Rattle.pm_lift.specs.Inside.Tree.{is_closing, reduction_choice, place_of_head}
use Rattle.pm_lift.specs.Inside.Walk as walk
use Rattle.pm_lift.specs.Inside.Walk.{literals_of, waiting, answered, closing_at, leaf_choices, after_leaf, added_by, branch_after, walk}
use Rattle.pm_lift.proofs.HeadLemmas.{heads_few}
use Rattle.pm_lift.specs.Inside.View.{ancestor_of, branch_of, HaveRows}

-- the last node of a branch
pub parent_waits : (terms : List Term) (branch : List Ancestor) (a : Ancestor) → slice_get branch (length branch - 1) ≡ Some a
    → waiting (branch_of terms branch) ≡ cond a.waits (Some (literal_of terms a.literal.now)) None
parent_waits terms [] a is = cc
parent_waits terms (b ∷ []) a is = let same : b ≡ a = cc in ap (λ (x : Ancestor). cond x.waits (Some (literal_of terms x.literal.now)) None) same
parent_waits terms (b ∷ d ∷ ds) a is =
    let one : length (b ∷ d ∷ ds) - 1 ≡ suc (length (d ∷ ds) - 1) = omega arith in
    parent_waits terms (d ∷ ds) a (sym (ap (slice_get (b ∷ d ∷ ds)) one) ∙ is)

-- a leaf below a branch whose last node waits, and below one whose last node doesn't
pub closing_waits : (terms : List Term) (branch : List Ancestor) (a : Ancestor) (l : Literal) → slice_get branch (length branch - 1) ≡ Some a → a.waits ≡ true
    → complements l (literal_of terms a.literal.now) ≡ is_closing (waiting (branch_of terms branch)) (leaf l)
closing_waits terms branch a l is waits =
    sym (ap (λ o. is_closing o (leaf l)) (parent_waits terms branch a is)
    ∙ ap (λ b. is_closing (cond b (Some (literal_of terms a.literal.now)) None) (leaf l)) waits)

pub closing_not : (terms : List Term) (branch : List Ancestor) (a : Ancestor) (l : Literal) → slice_get branch (length branch - 1) ≡ Some a → a.waits ≡ false
    → a.waits ≡ is_closing (waiting (branch_of terms branch)) (leaf l)
closing_not terms branch a l is waits =
    waits ∙ sym (ap (λ o. is_closing o (leaf l)) (parent_waits terms branch a is)
    ∙ ap (λ b. is_closing (cond b (Some (literal_of terms a.literal.now)) None) (leaf l)) waits)

-- the last node of a branch is marked
pub answered_last : (terms : List Term) (branch : List Ancestor) (i : ℕ) (a : Ancestor) → 0 < length branch → i ≡ length branch - 1 → a ≡ get_or branch i a
    → branch_of terms (slice_set branch i (record { literal = a.literal; waits = false })) ≡ answered (branch_of terms branch)
answered_last terms [] i a some is at = absurd (omega (arith, some))
answered_last terms (b ∷ []) zero a some is at = ap (λ (x : Ancestor). record { literal = literal_of terms x.literal.now; waits = false } ∷ []) at
answered_last terms (b ∷ []) (suc i) a some is at = absurd (omega (arith, is))
answered_last terms (b ∷ d ∷ ds) zero a some is at = absurd (omega (arith, is))
answered_last terms (b ∷ d ∷ ds) (suc i) a some is at =
    ap (λ bs. ancestor_of terms b ∷ bs) (answered_last terms (d ∷ ds) i a (omega arith) (omega (arith, is)) at)

-- one more node of the branch in the search for the first that is complementary to a leaf
pub reduction_step : (terms : List Term) (branch : List Ancestor) (i : ℕ) (a : Ancestor) (l : Literal) (b : Bool) → i < length branch → a ≡ get_or branch i a
    → complements l (literal_of terms a.literal.now) ≡ b
    → reduction_choice (literals_of (branch_of terms (drop i branch))) l ≡ cond b 0 (1 + reduction_choice (literals_of (branch_of terms (drop (i + 1) branch))) l)
reduction_step terms branch i a l b lt is test =
    let next : suc i ≡ i + 1 = omega arith in
    let list : drop i branch ≡ a ∷ drop (i + 1) branch = drop-cons branch i a lt ∙ ap₂ (λ (x : Ancestor) n. x ∷ drop n branch) (sym is) next in
    ap (λ (bs : List Ancestor). reduction_choice (literals_of (branch_of terms bs)) l) list
    ∙ ap (λ v. cond (not v) (1 + reduction_choice (literals_of (branch_of terms (drop (i + 1) branch))) l) 0) test
    ∙ flip b
  where
    flip : (v : Bool) → cond (not v) (1 + reduction_choice (literals_of (branch_of terms (drop (i + 1) branch))) l) 0 ≡ cond v 0 (1 + reduction_choice (literals_of (branch_of terms (drop (i + 1) branch))) l)
    flip true = refl
    flip false = refl

-- each node lies at depth 1 at least, and no deeper than the tableau
mutual
  deep_below : (d : ℕ) (n : T.Node) → 1 ≤ d → All (λ (e : Entry). (1 ≤ e.depth) × (e.depth + 1 ≤ d + depth_below n)) (preorder_of d n)
  deep_below d (leaf l) le = All-cons (λ (e : Entry). (1 ≤ e.depth) × (e.depth + 1 ≤ d + depth_below (leaf l))) _ [] (le, omega arith) (All-nil (λ (e : Entry). (1 ≤ e.depth) × (e.depth + 1 ≤ d + depth_below (leaf l))))
  deep_below d (inner l c ns) le =
      All-cons (λ (e : Entry). (1 ≤ e.depth) × (e.depth + 1 ≤ d + depth_below (inner l c ns))) _ (preorder_among (d + 1) ns) (le, omega arith)
      (λ k e lt. let h = deep_among (d + 1) ns (omega arith) k e lt in (h.0, omega (arith, h.1)))

  deep_among : (d : ℕ) (ns : Nodes) → 1 ≤ d → All (λ (e : Entry). (1 ≤ e.depth) × (e.depth + 1 ≤ d + depth_among ns)) (preorder_among d ns)
  deep_among d no_nodes le = All-nil (λ (e : Entry). (1 ≤ e.depth) × (e.depth + 1 ≤ d + depth_among no_nodes))
  deep_among d (more_nodes n ns) le =
      All-append (λ (e : Entry). (1 ≤ e.depth) × (e.depth + 1 ≤ d + depth_among (more_nodes n ns))) (preorder_of d n) (preorder_among d ns)
      (λ k e lt. let h = deep_below d n le k e lt in (h.0, omega (arith, h.1)))
      (λ k e lt. let h = deep_among d ns le k e lt in (h.0, omega (arith, h.1)))

pub node_depth : (terms : List Term) (nodes : List Node) (t : Tableau) (i : ℕ) (node : Node) → map (entry_of terms) nodes ≡ preorder t → i < length nodes → node ≡ get_or nodes i node
    → (1 ≤ node.depth) × (node.depth ≤ depth t)
node_depth terms nodes t i node are lt is =
    let at : get_or (preorder t) i (entry_of terms node) ≡ entry_of terms node =
    sym (ap (λ es. get_or es i (entry_of terms node)) are) ∙ get_or-map (entry_of terms) nodes i node (entry_of terms node) lt ∙ ap (entry_of terms) (sym is) in
    let within : i < length (preorder t) = omega (arith, lt, length-map nodes (entry_of terms), ap length are) in
    let h = deep_among 1 t.children (omega arith) i (entry_of terms node) within in
    let number : (get_or (preorder t) i (entry_of terms node)).depth ≡ node.depth = ap (λ (e : Entry). e.depth) at in
    (omega (arith, h.0, number), omega (arith, h.1, number))

-- a branch that is cut off
pub branch_cut : (terms : List Term) (n : ℕ) (branch : List Ancestor) → branch_of terms (take n branch) ≡ take n (branch_of terms branch)
branch_cut terms zero branch = refl
branch_cut terms (suc n) [] = refl
branch_cut terms (suc n) (a ∷ bs) = ap (λ cs. ancestor_of terms a ∷ cs) (branch_cut terms n bs)

pub cut_rows : (count n : ℕ) (branch : List Ancestor) → HaveRows count branch → HaveRows count (take n branch)
cut_rows count n branch h = All-take (λ (a : Ancestor). HasRows count a.literal.now) n branch h

pub cut_length : (n : ℕ) (branch : List Ancestor) → length (take n branch) ≤ n
cut_length zero branch = omega arith
cut_length (suc n) [] = omega arith
cut_length (suc n) (a ∷ bs) = omega (arith, cut_length n bs)

-- a node's step of the walk
pub walk_step : (clauses : List Clause) (terms : List Term) (nodes : List Node) (branch next : List Ancestor) (i : ℕ) (node : Node) (list more total : List ℕ)
    → i < length nodes → node ≡ get_or nodes i node
    → more ≡ list ++ added_by clauses (branch_of terms (take (node.depth - 1) branch)) node.depth (literal_of terms node.literal) node.kind (map (entry_of terms) (drop (i + 1) nodes))
    → branch_of terms next ≡ branch_after (branch_of terms (take (node.depth - 1) branch)) (literal_of terms node.literal) node.kind
    → list ++ walk clauses (branch_of terms branch) (map (entry_of terms) (drop i nodes)) ≡ total
    → more ++ walk clauses (branch_of terms next) (map (entry_of terms) (drop (i + 1) nodes)) ≡ total
walk_step clauses terms nodes branch next i node list more total lt is adds moves before =
    let cut = branch_cut terms (node.depth - 1) branch in
    let later = map (entry_of terms) (drop (i + 1) nodes) in
    let one : suc i ≡ i + 1 = omega arith in
    let nodes_left : drop i nodes ≡ node ∷ drop (i + 1) nodes = drop-cons nodes i node lt ∙ ap₂ (λ (x : Node) n. x ∷ drop n nodes) (sym is) one in
    let added = added_by clauses (take (node.depth - 1) (branch_of terms branch)) node.depth (literal_of terms node.literal) node.kind later in
    let after = branch_after (take (node.depth - 1) (branch_of terms branch)) (literal_of terms node.literal) node.kind in
    ap₂ (λ ms bs. ms ++ walk clauses bs later)
    (adds ∙ ap (λ bs. list ++ added_by clauses bs node.depth (literal_of terms node.literal) node.kind later) cut)
    (moves ∙ ap (λ bs. branch_after bs (literal_of terms node.literal) node.kind) cut)
    ∙ append_assoc list added (walk clauses after later)
    ∙ sym (ap (λ (ns : List Node). list ++ walk clauses (branch_of terms branch) (map (entry_of terms) ns)) nodes_left)
    ∙ before

-- what is left of a list after a place, as a slice to its end
pub rest_whole : {A : Type 0} (n : ℕ) (xs : List A) → take (length xs - n) (drop n xs) ≡ drop n xs
rest_whole n xs = take_all (length xs - n) (drop n xs) (omega (arith, length-drop n xs))

length_literals : (terms : List Term) (branch : List Ancestor) → length (literals_of (branch_of terms branch)) ≡ length branch
length_literals terms branch = length-map (branch_of terms branch) (λ (b : walk.Ancestor). b.literal) ∙ length-map branch (ancestor_of terms)

-- what an inner node adds and leaves
pub inner_adds : (clauses : List Clause) (terms : List Term) (branch : List Ancestor) (node : Node) (clause : ℕ) (later : List Entry) (list more : List ℕ) (head place : ℕ)
    → node.kind ≡ Inner clause
    → place ≡ closing_at (literal_of terms node.literal) (node.depth + 1) later
    → head ≡ place_of_head (record { clause = clause; literal = place }) (heads (record { positive = not node.literal.positive; predicate = node.literal.predicate }) clauses)
    → more ≡ list ++ (length branch + head) ∷ []
    → more ≡ list ++ added_by clauses (branch_of terms branch) node.depth (literal_of terms node.literal) node.kind later
inner_adds clauses terms branch node clause later list more head place kind closing stands adds =
    adds
    ∙ ap₂ (λ n m. list ++ (n + m) ∷ []) (sym (length_literals terms branch))
    (stands ∙ ap (λ p. place_of_head (record { clause = clause; literal = p }) (heads (record { positive = not node.literal.positive; predicate = node.literal.predicate }) clauses)) closing)
    ∙ sym (ap (λ k. list ++ added_by clauses (branch_of terms branch) node.depth (literal_of terms node.literal) k later) kind)

pub inner_leaves : (terms : List Term) (branch cut next : List Ancestor) (node : Node) (a : Ancestor) (clause : ℕ) → node.kind ≡ Inner clause
    → next ≡ cut ++ a ∷ [] → cut ≡ branch → ancestor_of terms a ≡ record { literal = literal_of terms node.literal; waits = true }
    → branch_of terms next ≡ branch_after (branch_of terms branch) (literal_of terms node.literal) node.kind
inner_leaves terms branch cut next node a clause kind adds same is =
    ap (branch_of terms) (adds ∙ ap (λ (bs : List Ancestor). bs ++ a ∷ []) same)
    ∙ map-append (ancestor_of terms) branch (a ∷ [])
    ∙ ap (λ (b : walk.Ancestor). branch_of terms branch ++ b ∷ []) is
    ∙ sym (ap (branch_after (branch_of terms branch) (literal_of terms node.literal)) kind)

-- the numbers of alternatives are small
pub number_fits : (problem : Problem) (index : Index) (face : Face) (n m : ℕ) → IsValid problem → IsIndexOf problem.clauses index → n < 250 → m ≤ length (heads_in index face) → n + m < 2 ^ 32
number_fits problem index face n m valid is small le =
    let clauses = problem.clauses in
    let few : All (λ (c : Clause). length c.literals ≤ 255) clauses = λ k c lt. (valid.clauses k c lt).few in
    let bound : 65536 * 255 + 250 < 2 ^ 32 = lit< tt in
    omega (arith, small, le, ap length (is.its_heads face), heads_few face 0 clauses few, valid.few, bound)

-- what a leaf adds and leaves
pub leaf_adds : (clauses : List Clause) (terms : List Term) (above cut : List Ancestor) (node : Node) (later : List Entry) (list more : List ℕ)
    → node.kind ≡ Leaf → cut ≡ above → more ≡ list ++ leaf_choices (branch_of terms cut) (literal_of terms node.literal)
    → more ≡ list ++ added_by clauses (branch_of terms above) node.depth (literal_of terms node.literal) node.kind later
leaf_adds clauses terms above cut node later list more kind is adds =
    adds
    ∙ ap (λ bs. list ++ leaf_choices (branch_of terms bs) (literal_of terms node.literal)) is
    ∙ sym (ap (λ k. list ++ added_by clauses (branch_of terms above) node.depth (literal_of terms node.literal) k later) kind)

pub leaf_leaves : (terms : List Term) (above cut next : List Ancestor) (node : Node)
    → node.kind ≡ Leaf → cut ≡ above → branch_of terms next ≡ after_leaf (branch_of terms cut) (literal_of terms node.literal)
    → branch_of terms next ≡ branch_after (branch_of terms above) (literal_of terms node.literal) node.kind
leaf_leaves terms above cut next node kind is moves =
    moves
    ∙ ap (λ bs. after_leaf (branch_of terms bs) (literal_of terms node.literal)) is
    ∙ sym (ap (branch_after (branch_of terms above) (literal_of terms node.literal)) kind)
