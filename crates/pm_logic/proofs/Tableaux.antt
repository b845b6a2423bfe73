-- Trees and their nodes in pre-order.
use Rattle.std.proofs.Common.{◌≡◌, ℕ, zero, suc, ◌+◌, ◌-◌, ◌≤◌, max, List, [], ◌∷◌, ◌++◌, length, refl, sym, ◌∙◌, ap, arith, append_assoc}
use Rattle.std.specs.List.{fold}
use Rattle.std.proofs.lemmas.List.{append-nil}
use Rattle.std.proofs.lemmas.List.Sums.{fold-append}
use Rattle.pm_logic.specs.declared.tableau.NodeKind.{NodeKind}
use Rattle.pm_logic.specs.declared.tableau.NodeKind.TheVariants.{Leaf, Inner}
use Rattle.pm_logic.specs.Problem.{Literal}
use Rattle.pm_logic.specs.Tableau.{Node, leaf, inner, Nodes, no_nodes, more_nodes, Entry, Tableau, depth_below, depth_among, instances_below, instances_among, preorder_of, preorder_among, preorder, deepest_after, deepest_next, childless, with_last, with_last_child, with_entry, forest_of, PreorderDetermines}

-- how many levels the right edge of a forest has
abbrev mutual
  pub levels_among : Nodes → ℕ
  levels_among no_nodes = 0
  levels_among (more_nodes a no_nodes) = levels_below a
  levels_among (more_nodes a (more_nodes b bs)) = levels_among (more_nodes b bs)

  pub levels_below : Node → ℕ
  levels_below (leaf l) = 0
  levels_below (inner l c children) = levels_among children + 1

-- a forest with one more node isn't empty
with_last-more : (m : ℕ) (y a : Node) (n : ℕ) (x : Node) (ns : Nodes)
    → with_last m y (more_nodes a (with_last n x ns)) ≡ more_nodes a (with_last m y (with_last n x ns))
with_last-more m y a n x no_nodes = refl
with_last-more m y a zero x (more_nodes b no_nodes) = refl
with_last-more m y a (suc n) x (more_nodes b no_nodes) = refl
with_last-more m y a n x (more_nodes b (more_nodes c cs)) = refl

levels_among-more : (a : Node) (n : ℕ) (x : Node) (ns : Nodes)
    → levels_among (more_nodes a (with_last n x ns)) ≡ levels_among (with_last n x ns)
levels_among-more a n x no_nodes = refl
levels_among-more a zero x (more_nodes b no_nodes) = refl
levels_among-more a (suc n) x (more_nodes b no_nodes) = refl
levels_among-more a n x (more_nodes b (more_nodes c cs)) = refl

-- the right edge then ends at the new node
mutual
  levels_among-with_last : (n : ℕ) (x : Node) (ns : Nodes) → n ≤ levels_among ns
      → levels_among (with_last n x ns) ≡ n + levels_below x
  levels_among-with_last n x no_nodes le = omega arith
  levels_among-with_last zero x (more_nodes a no_nodes) le = omega arith
  levels_among-with_last (suc n) x (more_nodes a no_nodes) le = levels_below-with_last n x a le
  levels_among-with_last n x (more_nodes a (more_nodes b bs)) le =
      levels_among-more a n x (more_nodes b bs) ∙ levels_among-with_last n x (more_nodes b bs) le

  levels_below-with_last : (n : ℕ) (x a : Node) → suc n ≤ levels_below a
      → levels_below (with_last_child n x a) ≡ suc n + levels_below x
  levels_below-with_last n x (leaf l) le = absurd (omega arith)
  levels_below-with_last n x (inner l c children) le =
      omega (arith, levels_among-with_last n x children (omega arith))

-- in pre-order the new node comes last
mutual
  pub preorder_among-with_last : (d n : ℕ) (x : Node) (ns : Nodes) → n ≤ levels_among ns
      → preorder_among d (with_last n x ns) ≡ preorder_among d ns ++ preorder_of (d + n) x
  preorder_among-with_last d n x no_nodes le =
      let same : d ≡ d + n = omega arith in
      append-nil (preorder_of d x) ∙ ap (λ m. preorder_of m x) same
  preorder_among-with_last d zero x (more_nodes a no_nodes) le =
      let same : d ≡ d + zero = omega arith in
      simp append-nil (ap (λ m. preorder_of d a ++ preorder_of m x) same)
  preorder_among-with_last d (suc n) x (more_nodes a no_nodes) le =
      simp append-nil (preorder_of-with_last d n x a le)
  preorder_among-with_last d n x (more_nodes a (more_nodes b bs)) le =
      ap (λ es. preorder_of d a ++ es) (preorder_among-with_last d n x (more_nodes b bs) le)
      ∙ sym (append_assoc (preorder_of d a) (preorder_among d (more_nodes b bs)) (preorder_of (d + n) x))

  preorder_of-with_last : (d n : ℕ) (x a : Node) → suc n ≤ levels_below a
      → preorder_of d (with_last_child n x a) ≡ preorder_of d a ++ preorder_of (d + suc n) x
  preorder_of-with_last d n x (leaf l) le = absurd (omega arith)
  preorder_of-with_last d n x (inner l c children) le =
      let same : d + 1 + n ≡ d + suc n = omega arith in
      ap (λ es. record { depth = d; literal = l; kind = Inner c } ∷ es)
      (preorder_among-with_last (d + 1) n x children (omega arith)
      ∙ ap (λ m. preorder_among (d + 1) children ++ preorder_of m x) same)

-- the depth that an entry leaves to the next
abbrev leaves : ℕ → Entry → ℕ
leaves before e = deepest_after e.kind e.depth

deepest_next-fold : (es : List Entry) → deepest_next es ≡ fold leaves 1 es
deepest_next-fold [] = refl
deepest_next-fold (e ∷ []) = refl
deepest_next-fold (e ∷ f ∷ es) = deepest_next-fold (f ∷ es)

-- what a forest at this depth leaves to the next, where so much was left before it
abbrev left_by : ℕ → ℕ → Nodes → ℕ
left_by before d no_nodes = before
left_by before d (more_nodes a rest) = d + levels_among (more_nodes a rest)

left_by-same : (d : ℕ) (ns : Nodes) → left_by d d ns ≡ d + levels_among ns
left_by-same d no_nodes = omega arith
left_by-same d (more_nodes a rest) = refl

mutual
  leaves-among : (before d : ℕ) (ns : Nodes) → fold leaves before (preorder_among d ns) ≡ left_by before d ns
  leaves-among before d no_nodes = refl
  leaves-among before d (more_nodes a no_nodes) =
      fold-append leaves before (preorder_of d a) [] ∙ leaves-of before d a
  leaves-among before d (more_nodes a (more_nodes b bs)) =
      fold-append leaves before (preorder_of d a) (preorder_among d (more_nodes b bs))
      ∙ leaves-among (fold leaves before (preorder_of d a)) d (more_nodes b bs)

  leaves-of : (before d : ℕ) (a : Node) → fold leaves before (preorder_of d a) ≡ d + levels_below a
  leaves-of before d (leaf l) = omega arith
  leaves-of before d (inner l c children) =
      omega (arith, leaves-among (d + 1) (d + 1) children, left_by-same (d + 1) children)

-- the next node may lie one deeper than the right edge has levels
pub deepest_next-preorder : (ns : Nodes) → deepest_next (preorder_among 1 ns) ≡ 1 + levels_among ns
deepest_next-preorder ns = deepest_next-fold (preorder_among 1 ns) ∙ leaves-among 1 1 ns ∙ left_by-same 1 ns

preorder_of-childless : (d : ℕ) (literal : Literal) (kind : NodeKind)
    → preorder_of d (childless literal kind) ≡ record { depth = d; literal = literal; kind = kind } ∷ []
preorder_of-childless d literal Leaf = refl
preorder_of-childless d literal (Inner c) = refl

-- the next entry in pre-order, once it is put into the tree, is the last
pub preorder-with_entry : (ns : Nodes) (e : Entry) → 1 ≤ e.depth → e.depth ≤ deepest_next (preorder_among 1 ns)
    → preorder_among 1 (with_entry ns e) ≡ preorder_among 1 ns ++ e ∷ []
preorder-with_entry ns e positive shallow =
    let same : 1 + (e.depth - 1) ≡ e.depth = omega arith in
    preorder_among-with_last 1 (e.depth - 1) (childless e.literal e.kind) ns (omega (arith, deepest_next-preorder ns))
    ∙ ap (λ m. preorder_among 1 ns ++ preorder_of m (childless e.literal e.kind)) same
    ∙ ap (λ es. preorder_among 1 ns ++ es) (preorder_of-childless e.depth e.literal e.kind)

-- a forest with more nodes of one level, one after another
abbrev with_all : ℕ → Nodes → Nodes → Nodes
with_all n no_nodes base = base
with_all n (more_nodes a rest) base = with_all n rest (with_last n a base)

-- a child of the node that was put in last
mutual
  with_last-inner : (n : ℕ) (y : Node) (l : Literal) (c : ℕ) (ds ns : Nodes) → n ≤ levels_among ns
      → with_last (suc n) y (with_last n (inner l c ds) ns) ≡ with_last n (inner l c (with_last zero y ds)) ns
  with_last-inner zero y l c ds no_nodes le = refl
  with_last-inner (suc n) y l c ds no_nodes le = absurd (omega arith)
  with_last-inner zero y l c ds (more_nodes a no_nodes) le = refl
  with_last-inner (suc n) y l c ds (more_nodes a no_nodes) le =
      ap (λ b. more_nodes b no_nodes) (with_last_child-inner n y l c ds a le)
  with_last-inner n y l c ds (more_nodes a (more_nodes b bs)) le =
      with_last-more (suc n) y a n (inner l c ds) (more_nodes b bs)
      ∙ ap (λ ms. more_nodes a ms) (with_last-inner n y l c ds (more_nodes b bs) le)

  with_last_child-inner : (n : ℕ) (y : Node) (l : Literal) (c : ℕ) (ds : Nodes) (a : Node) → suc n ≤ levels_below a
      → with_last_child (suc n) y (with_last_child n (inner l c ds) a) ≡ with_last_child n (inner l c (with_last zero y ds)) a
  with_last_child-inner n y l c ds (leaf k) le = absurd (omega arith)
  with_last_child-inner n y l c ds (inner k d children) le =
      ap (λ ms. inner k d ms) (with_last-inner n y l c ds children (omega arith))

with_all-inner : (n : ℕ) (l : Literal) (c : ℕ) (ds cs ns : Nodes) → n ≤ levels_among ns
    → with_all (suc n) cs (with_last n (inner l c ds) ns) ≡ with_last n (inner l c (with_all zero cs ds)) ns
with_all-inner n l c ds no_nodes ns le = refl
with_all-inner n l c ds (more_nodes a rest) ns le =
    ap (λ ms. with_all (suc n) rest ms) (with_last-inner n a l c ds ns le)
    ∙ with_all-inner n l c (with_last zero a ds) rest ns le

with_last-zero : (x d : Node) (ds : Nodes) → with_last zero x (more_nodes d ds) ≡ more_nodes d (with_last zero x ds)
with_last-zero x d no_nodes = refl
with_last-zero x d (more_nodes b bs) = refl

with_all-zero : (cs : Nodes) (d : Node) (ds : Nodes) → with_all zero cs (more_nodes d ds) ≡ more_nodes d (with_all zero cs ds)
with_all-zero no_nodes d ds = refl
with_all-zero (more_nodes a rest) d ds =
    ap (λ ms. with_all zero rest ms) (with_last-zero a d ds) ∙ with_all-zero rest d (with_last zero a ds)

with_all-none : (cs : Nodes) → with_all zero cs no_nodes ≡ cs
with_all-none no_nodes = refl
with_all-none (more_nodes a rest) =
    with_all-zero rest a no_nodes ∙ ap (λ ms. more_nodes a ms) (with_all-none rest)

-- the entries of a tree, put in one after another, give the tree
mutual
  fold-preorder_of : (n : ℕ) (x : Node) (base : Nodes) → n ≤ levels_among base
      → fold with_entry base (preorder_of (suc n) x) ≡ with_last n x base
  fold-preorder_of n (leaf l) base le =
      let same : suc n - 1 ≡ n = omega arith in ap (λ m. with_last m (leaf l) base) same
  fold-preorder_of n (inner l c children) base le =
      let same : suc n - 1 ≡ n = omega arith in
      let next : suc n + 1 ≡ suc (suc n) = omega arith in
      let room : suc n ≤ levels_among (with_last n (inner l c no_nodes) base) = omega (arith, levels_among-with_last n (inner l c no_nodes) base le) in
      ap (λ m. fold with_entry (with_last m (inner l c no_nodes) base) (preorder_among (suc n + 1) children)) same
      ∙ ap (λ m. fold with_entry (with_last n (inner l c no_nodes) base) (preorder_among m children)) next
      ∙ fold-preorder_among (suc n) children (with_last n (inner l c no_nodes) base) room
      ∙ with_all-inner n l c no_nodes children base le
      ∙ ap (λ ms. with_last n (inner l c ms) base) (with_all-none children)

  fold-preorder_among : (n : ℕ) (xs base : Nodes) → n ≤ levels_among base
      → fold with_entry base (preorder_among (suc n) xs) ≡ with_all n xs base
  fold-preorder_among n no_nodes base le = refl
  fold-preorder_among n (more_nodes a rest) base le =
      let room : n ≤ levels_among (with_last n a base) = omega (arith, levels_among-with_last n a base le) in
      fold-append with_entry base (preorder_of (suc n) a) (preorder_among (suc n) rest)
      ∙ ap (λ ms. fold with_entry ms (preorder_among (suc n) rest)) (fold-preorder_of n a base le)
      ∙ fold-preorder_among n rest (with_last n a base) room

pub forest_of-preorder : (ns : Nodes) → forest_of (preorder_among 1 ns) ≡ ns
forest_of-preorder ns = fold-preorder_among zero ns no_nodes (omega arith) ∙ with_all-none ns

-- the largest depth among entries
abbrev pub deepest : List Entry → ℕ
deepest [] = 0
deepest (e ∷ es) = max e.depth (deepest es)

pub deepest-append : (es fs : List Entry) → deepest (es ++ fs) ≡ max (deepest es) (deepest fs)
deepest-append [] fs = omega arith
deepest-append (e ∷ es) fs = omega (arith, deepest-append es fs)

mutual
  deepest-of : (d : ℕ) (x : Node) → max d (deepest (preorder_of (d + 1) x)) ≡ d + depth_below x
  deepest-of d (leaf l) = omega arith
  deepest-of d (inner l c children) = omega (arith, deepest-among (d + 1) children)

  deepest-among : (d : ℕ) (xs : Nodes) → max d (deepest (preorder_among (d + 1) xs)) ≡ d + depth_among xs
  deepest-among d no_nodes = omega arith
  deepest-among d (more_nodes x xs) =
      omega (arith, deepest-append (preorder_of (d + 1) x) (preorder_among (d + 1) xs), deepest-of d x, deepest-among d xs)

-- a tableau is as deep as its deepest node
pub deepest-preorder : (t : Tableau) → deepest (preorder t) ≡ depth_among t.children
deepest-preorder t = omega (arith, deepest-among 0 t.children)

-- how many of the entries carry a clause
abbrev pub inner_of : NodeKind → ℕ
inner_of Leaf = 0
inner_of (Inner clause) = 1

abbrev pub inner_count : List Entry → ℕ
inner_count [] = 0
inner_count (e ∷ es) = inner_of e.kind + inner_count es

pub inner_count-append : (es fs : List Entry) → inner_count (es ++ fs) ≡ inner_count es + inner_count fs
inner_count-append [] fs = omega arith
inner_count-append (e ∷ es) fs = omega (arith, inner_count-append es fs)

inner_of-small : (kind : NodeKind) → inner_of kind ≤ 1
inner_of-small Leaf = omega arith
inner_of-small (Inner clause) = omega arith

pub inner_count-few : (es : List Entry) → inner_count es ≤ length es
inner_count-few [] = omega arith
inner_count-few (e ∷ es) = omega (arith, inner_of-small e.kind, inner_count-few es)

mutual
  inner_count-of : (d : ℕ) (x : Node) → inner_count (preorder_of d x) ≡ instances_below x
  inner_count-of d (leaf l) = omega arith
  inner_count-of d (inner l c children) = omega (arith, inner_count-among (d + 1) children)

  inner_count-among : (d : ℕ) (xs : Nodes) → inner_count (preorder_among d xs) ≡ instances_among xs
  inner_count-among d no_nodes = refl
  inner_count-among d (more_nodes x xs) =
      omega (arith, inner_count-append (preorder_of d x) (preorder_among d xs), inner_count-of d x, inner_count-among d xs)

-- the nodes below the root that carry a clause are counted in pre-order
pub inner_count-preorder : (t : Tableau) → inner_count (preorder t) ≡ instances_among t.children
inner_count-preorder t = inner_count-among 1 t.children

-- a tableau is determined by its root's clause and its nodes in pre-order
pub determined : PreorderDetermines
determined t u same_root same_nodes =
    let make : ℕ → Nodes → Tableau = λ root children. record { root = root; children = children } in
    let same_children : t.children ≡ u.children =
    sym (forest_of-preorder t.children) ∙ ap forest_of same_nodes ∙ forest_of-preorder u.children in
    ap (λ root. make root t.children) same_root ∙ ap (make u.root) same_children
