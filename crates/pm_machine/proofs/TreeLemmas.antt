-- Lists with a part taken out or put in.
use Rattle.std.proofs.Common.{◌≡◌, ℕ, zero, suc, ◌+◌, ◌-◌, ◌≤◌, ◌<◌, List, [], ◌∷◌, ◌++◌, length, map, Some, None, slice_get, slice_index_or, take, drop, set, refl, sym, ◌∙◌, ap, arith, subst, ◌⊎◌, inl, inr, ap₂, false, reverse}
use Rattle.std.specs.Option.{option_map_or}
use borrow.Rule.Slice.PartMut.{post_of}
use Rattle.std.proofs.lemmas.List.{append-nil, drop_all, drop-map, length-drop, length-take-le, map-append, length-map, length-append, take-map, reverse-append}
use Rattle.pm_machine.specs.declared.node.MachineNode.{MachineNode}
use Rattle.pm_machine.specs.State.{CellNode, IsOpen, child_at}
use Rattle.pm_machine.specs.Node.{node_of}
use Rattle.pm_machine.specs.declared.tree.Taken.{Taken}
use Rattle.pm_machine.specs.declared.tree.Step.{Step}
use Rattle.pm_machine.specs.declared.tree.Step.TheVariants.{Extend, Reduce}
use Rattle.pm_run.specs.State.{Child}
use Rattle.pm_machine.specs.Inside.Frames.{TreeValue, CanReopen, is_start, children_at, IsPassed, IsNext, reopened, reopened_nodes, depth_at}

module _ {A B : Type 0} (f : A → B) where
  -- an item is set, and those after it up to a place are taken out
  pub set_and_cut : (xs : List A) (i to : ℕ) (y : A) → i < length xs → i < to
      → map f (set (take (suc i) xs ++ drop to xs) i y) ≡ take i (map f xs) ++ f y ∷ drop to (map f xs)
  set_and_cut [] i to y within before = absurd (omega (arith, within))
  set_and_cut (z ∷ xs) zero zero y within before = absurd (omega (arith, before))
  set_and_cut (z ∷ xs) zero (suc to) y within before = ap (λ zs. f y ∷ zs) (sym (drop-map f to xs))
  set_and_cut (z ∷ xs) (suc i) zero y within before = absurd (omega (arith, before))
  set_and_cut (z ∷ xs) (suc i) (suc to) y within before =
      ap (λ zs. f z ∷ zs) (set_and_cut xs i to y (omega (arith, within)) (omega (arith, before)))

  -- the same where something is put behind
  kept_below : (xs : List A) (i : ℕ) (more : List A) (x : A) (z : B) → slice_get (map f xs) i ≡ Some z
      → x ≡ slice_index_or (take (suc i) xs ++ more) i x → f x ≡ z
  kept_below [] i more x z is read = absurd cc
  kept_below (y ∷ xs) zero more x z is read = ap f read ∙ cc
  kept_below (y ∷ xs) (suc i) more x z is read = kept_below xs i more x z is read

  -- an item is set
  pub set_in_map : (xs : List A) (i : ℕ) (y : A) → i < length xs
      → map f (set xs i y) ≡ take i (map f xs) ++ f y ∷ drop (suc i) (map f xs)
  set_in_map [] i y within = absurd (omega (arith, within))
  set_in_map (z ∷ xs) zero y within = refl
  set_in_map (z ∷ xs) (suc i) y within = ap (λ zs. f z ∷ zs) (set_in_map xs i y (omega (arith, within)))

  -- what is read from a place is what stands there
  pub reads : (xs : List A) (i : ℕ) (x : A) (z : B) → slice_get (map f xs) i ≡ Some z
      → x ≡ slice_index_or xs i x → f x ≡ z
  reads [] i x z is read = absurd cc
  reads (y ∷ xs) zero x z is read = ap f read ∙ cc
  reads (y ∷ xs) (suc i) x z is read = reads xs i x z is read

  -- the item before the part that is taken out stays
  pub kept_at : (xs : List A) (i to : ℕ) (x : A) (z : B) → slice_get (map f xs) i ≡ Some z
      → x ≡ slice_index_or (take (suc i) xs ++ drop to xs) i x → f x ≡ z
  kept_at xs i to = kept_below xs i (drop to xs)

-- the item in a place, as a list
pub one_at : {A : Type 0} (xs : List A) (i : ℕ) (x : A) → slice_get xs i ≡ Some x → take 1 (drop i xs) ≡ x ∷ []
one_at [] i x is = absurd cc
one_at (y ∷ xs) zero x is = ap (λ z. z ∷ []) cc
one_at (y ∷ xs) (suc i) x is = one_at xs i x is

-- what stands in a list of images is the image of what stands in the list
pub slice_get-map : {A B : Type 0} (f : A → B) (xs : List A) (i : ℕ) (y : B) → slice_get (map f xs) i ≡ Some y
    → (x : A) × (slice_get xs i ≡ Some x) × (f x ≡ y)
slice_get-map f [] i y is = absurd cc
slice_get-map f (x ∷ xs) zero y is = (x, refl, cc)
slice_get-map f (x ∷ xs) (suc i) y is = slice_get-map f xs i y is

pub at_place : {A : Type 0} (xs : List A) (i : ℕ) (x : A) → slice_get xs i ≡ Some x → x ≡ slice_index_or xs i x
at_place [] i x is = absurd cc
at_place (y ∷ xs) zero x is = cc
at_place (y ∷ xs) (suc i) x is = at_place xs i x is

pub below_or_at : (m n : ℕ) → m < n + 1 → (m < n) ⊎ (m ≡ n)
below_or_at zero zero below = inr refl
below_or_at zero (suc n) below = inl (omega arith)
below_or_at (suc m) zero below = absurd (omega (arith, below))
below_or_at (suc m) (suc n) below = elim (below_or_at m n (omega (arith, below))) [
  | inl less ↦ inl (omega (arith, less))
  | inr same ↦ inr (ap suc same)
]

-- the node as an open leaf
abbrev pub opened : MachineNode → MachineNode
opened node = record node { clause = None; closed_by = None }

within_map : {A B : Type 0} (f : A → B) (xs : List A) (i : ℕ) (y : B) → slice_get (map f xs) i ≡ Some y → i < length xs
within_map f [] i y is = absurd cc
within_map f (x ∷ xs) zero y is = omega arith
within_map f (x ∷ xs) (suc i) y is = let before = within_map f xs i y is in omega (arith, before)

pub reopens : (items cut : List MachineNode) (leaf count from to : ℕ) (now : MachineNode) (nodes : List CellNode) (node : CellNode)
    → map node_of items ≡ nodes → slice_get nodes leaf ≡ Some node → from ≡ suc leaf → to ≡ suc leaf + (length nodes - count)
    → cut ≡ take from items ++ drop to items → now ≡ slice_index_or cut leaf now
    → map node_of (set cut leaf (opened now)) ≡ reopened_nodes leaf count nodes
reopens items cut leaf count from to now nodes node shown stands next place cut_is read =
    let is : cut ≡ take (suc leaf) items ++ drop to items = cut_is ∙ ap (λ n. take n items ++ drop to items) next in
    let within : leaf < length items = within_map node_of items leaf node (ap (λ ns. slice_get ns leaf) shown ∙ stands) in
    let same : node_of now ≡ node =
    kept_at node_of items leaf to now node (ap (λ ns. slice_get ns leaf) shown ∙ stands)
    (read ∙ ap (λ xs. slice_index_or xs leaf now) is) in
    ap (λ xs. map node_of (set xs leaf (opened now))) is
    ∙ set_and_cut node_of items leaf to (opened now) within (omega (arith, place))
    ∙ ap (λ ns. take leaf ns ++ reopened (node_of now) ∷ drop to ns) shown
    ∙ ap (λ n. take leaf nodes ++ reopened n ∷ drop to nodes) same
    ∙ ap (λ ns. take leaf nodes ++ (map reopened ns ++ drop to nodes)) (sym (one_at nodes leaf node stands))
    ∙ ap (λ n. take leaf nodes ++ (map reopened (take 1 (drop leaf nodes)) ++ drop n nodes)) place

-- what was read has the depth of the node in its place
pub reads_depth : (items cut : List MachineNode) (leaf from to : ℕ) (now : MachineNode) (nodes : List CellNode) (node : CellNode)
    → map node_of items ≡ nodes → slice_get nodes leaf ≡ Some node → from ≡ suc leaf
    → cut ≡ take from items ++ drop to items → now ≡ slice_index_or cut leaf now
    → now.depth ≡ depth_at nodes leaf
reads_depth items cut leaf from to now nodes node shown stands next cut_is read =
    let is : cut ≡ take (suc leaf) items ++ drop to items = cut_is ∙ ap (λ n. take n items ++ drop to items) next in
    ap (λ n. n.depth) (kept_at node_of items leaf to now node (ap (λ ns. slice_get ns leaf) shown ∙ stands)
    (read ∙ ap (λ xs. slice_index_or xs leaf now) is))
    ∙ sym (ap (λ o. option_map_or (λ n. n.depth) o 0) stands)

-- what is open as it was read is open as it is read again
pub same_read : (items : List MachineNode) (leaf : ℕ) (first second : MachineNode) → first ≡ slice_index_or items leaf first
    → leaf < length items → second ≡ slice_index_or items leaf second
    → IsOpen (node_of first) → IsOpen (node_of second)
same_read [] leaf first second once within again is_open = absurd (omega (arith, within))
same_read (x ∷ items) zero first second once within again is_open = subst (λ n. IsOpen (node_of n)) (once ∙ sym again) is_open
same_read (x ∷ items) (suc leaf) first second once within again is_open =
    same_read items leaf first second once (omega (arith, within)) again is_open

-- one more node is passed, that isn't open
pub passes_one : (from : ℕ) (items : List MachineNode) (leaf : ℕ) (now : MachineNode)
    → IsPassed from (map node_of items) leaf → leaf < length items → now ≡ slice_index_or items leaf now
    → ¬ IsOpen (node_of now) → IsPassed from (map node_of items) (leaf + 1)
passes_one from items leaf now passed within read shut = record {
  beyond = let before = passed.beyond in omega (arith, before);
  within = let same = length-map items node_of in omega (arith, within, same);
  before = λ place node after below stands. elim (below_or_at place leaf below) [
    | inl earlier ↦ passed.before place node after earlier stands
    | inr here ↦ λ is_open.
        shut (subst IsOpen (sym (reads node_of items leaf now node (ap (λ i. slice_get (map node_of items) i) (sym here) ∙ stands) read)) is_open)
  ];
}

-- the place is that of the first open node, if one is there
pub comes_next : (from : ℕ) (items : List MachineNode) (leaf : ℕ) → IsPassed from (map node_of items) leaf
    → ((now : MachineNode) → leaf < length items → now ≡ slice_index_or items leaf now → IsOpen (node_of now))
    → IsNext from (map node_of items) leaf
comes_next from items leaf passed is_open = record {
  passed = passed;
  here = λ node stands.
      let found = slice_get-map node_of items leaf node stands in
      subst IsOpen found.2 (is_open found.0 (within_map node_of items leaf node stands) (at_place items leaf found.0 found.1));
}

-- what is taken and dropped where a list was cut
module _ {A : Type 0} where
  pub take_cut : (at : ℕ) (xs rest : List A) → at ≤ length xs → take at (take at xs ++ rest) ≡ take at xs
  take_cut zero xs rest within = refl
  take_cut (suc at) [] rest within = absurd (omega (arith, within))
  take_cut (suc at) (x ∷ xs) rest within = ap (λ ys. x ∷ ys) (take_cut at xs rest (omega (arith, within)))

  pub drop_cut : (at : ℕ) (xs rest : List A) → at ≤ length xs → drop at (take at xs ++ rest) ≡ rest
  drop_cut zero xs rest within = refl
  drop_cut (suc at) [] rest within = absurd (omega (arith, within))
  drop_cut (suc at) (x ∷ xs) rest within = drop_cut at xs rest (omega (arith, within))

  pub take_in_cut : (xs rest : List A) (i : ℕ) → i < length xs → take i (take (suc i) xs ++ rest) ≡ take i xs
  take_in_cut [] rest i within = absurd (omega (arith, within))
  take_in_cut (x ∷ xs) rest zero within = refl
  take_in_cut (x ∷ xs) rest (suc i) within = ap (λ ys. x ∷ ys) (take_in_cut xs rest i (omega (arith, within)))

  pub stands_in_cut : (xs rest : List A) (i : ℕ) (x : A) → slice_get xs i ≡ Some x → slice_get (take (suc i) xs ++ rest) i ≡ Some x
  stands_in_cut [] rest i x is = absurd cc
  stands_in_cut (y ∷ xs) rest zero x is = is
  stands_in_cut (y ∷ xs) rest (suc i) x is = stands_in_cut xs rest i x is

  pub within_slice : (xs : List A) (i : ℕ) (x : A) → slice_get xs i ≡ Some x → i < length xs
  within_slice [] i x is = absurd cc
  within_slice (y ∷ xs) zero x is = omega arith
  within_slice (y ∷ xs) (suc i) x is = let before = within_slice xs i x is in omega (arith, before)

  -- what comes first, and what comes then, where two lists are one
  take_first : (xs ys : List A) → take (length xs) (xs ++ ys) ≡ xs
  take_first [] ys = refl
  take_first (x ∷ xs) ys = ap (λ zs. x ∷ zs) (take_first xs ys)

  drop_first : (xs ys : List A) → drop (length xs) (xs ++ ys) ≡ ys
  drop_first [] ys = refl
  drop_first (x ∷ xs) ys = drop_first xs ys

  -- the items from a place on, those after the first so many brought to the place
  abbrev pub turned : ℕ → ℕ → List A → List A
  turned at count xs = take at xs ++ (drop count (drop at xs) ++ take count (drop at xs))

  -- a list that comes behind another is brought to a place in it
  turned_behind : (xs ys : List A) (at count : ℕ) → at ≤ length xs → count + length ys ≡ length (drop at (xs ++ ys))
      → turned at count (xs ++ ys) ≡ take at xs ++ (ys ++ drop at xs)
  turned_behind xs ys zero count within is =
      let first : count ≡ length xs = omega (arith, is, length-append xs ys) in
      ap (λ n. drop n (xs ++ ys) ++ take n (xs ++ ys)) first
      ∙ ap₂ (λ zs vs. zs ++ vs) (drop_first xs ys) (take_first xs ys)
  turned_behind [] ys (suc at) count within is = absurd (omega (arith, within))
  turned_behind (x ∷ xs) ys (suc at) count within is = ap (λ zs. x ∷ zs) (turned_behind xs ys at count (omega (arith, within)) is)

  -- what is written back where the items from a place on were changed
  pub written_back : (len at : ℕ) (items shown changed : List A) → shown ≡ items → len ≡ length items → at ≤ length items
      → length changed + at ≡ length items
      → take len (take at shown ++ (changed ++ post_of at (length shown - at) shown)
      ++ drop (length (take at shown ++ (changed ++ post_of at (length shown - at) shown))) items)
      ≡ take at items ++ changed
  written_back len at items shown changed same whole within long =
      let none : post_of at (length items - at) items ≡ [] =
      drop_all (length items - at) (drop at items) (omega (arith, length-drop at items)) in
      let new = take at items ++ (changed ++ []) in
      let is : new ≡ take at items ++ changed = ap (λ xs. take at items ++ xs) (append-nil changed) in
      let all : len ≡ length new =
      omega (arith, whole, long, ap length is, length-append (take at items) changed, length-take-le at items within) in
      ap (λ xs. take len (take at xs ++ (changed ++ post_of at (length xs - at) xs)
      ++ drop (length (take at xs ++ (changed ++ post_of at (length xs - at) xs))) items)) same
      ∙ ap (λ xs. take len (take at items ++ (changed ++ xs) ++ drop (length (take at items ++ (changed ++ xs))) items)) none
      ∙ ap (λ n. take n (new ++ drop (length new) items)) all ∙ take_first new (drop (length new) items) ∙ is

-- the images of a list that is turned
map_turned : {A B : Type 0} (f : A → B) (xs : List A) (at count : ℕ) → map f (turned at count xs) ≡ turned at count (map f xs)
map_turned f xs at count =
    map-append f (take at xs) (drop count (drop at xs) ++ take count (drop at xs))
    ∙ ap₂ (λ ys zs. ys ++ zs) (sym (take-map f at xs))
    (map-append f (drop count (drop at xs)) (take count (drop at xs))
    ∙ ap₂ (λ ys zs. ys ++ zs) (sym (drop-map f count (drop at xs))) (sym (take-map f count (drop at xs)))
    ∙ ap (λ ys. drop count ys ++ take count ys) (sym (drop-map f at xs)))

-- the children that were put behind the nodes stand in their place
pub brings_children : (at depth count : ℕ) (old now : List MachineNode) (kids : List Child)
    → map node_of now ≡ map node_of old ++ children_at depth kids → at ≤ length old → count + length kids + at ≡ length now
    → map node_of (turned at count now) ≡ take at (map node_of old) ++ (children_at depth kids ++ drop at (map node_of old))
brings_children at depth count old now kids is within long =
    let olds = map node_of old in
    let new = children_at depth kids in
    let fits : at ≤ length olds = let same = length-map old node_of in omega (arith, within, same) in
    let behind : count + length new ≡ length (drop at (olds ++ new)) =
    let all = ap length is in let images = length-map now node_of in let made = length-map kids (child_at depth) in
    omega (arith, long, all, images, made, length-drop at (olds ++ new)) in
    map_turned node_of now at count ∙ ap (turned at count) is ∙ turned_behind olds new at count fits behind

pub reverse_push : {A : Type 0} (xs : List A) (x : A) → reverse (xs ++ x ∷ []) ≡ x ∷ reverse xs
reverse_push xs x = reverse-append xs (x ∷ [])

-- the node in a place is changed
pub changes_node : (items : List MachineNode) (leaf at : ℕ) (nodes : List CellNode) (node : CellNode) (seen new : MachineNode)
    (change : CellNode → CellNode) → map node_of items ≡ nodes → leaf ≡ at → slice_get nodes at ≡ Some node
    → seen ≡ slice_index_or items leaf seen → node_of new ≡ change (node_of seen)
    → map node_of (set items leaf new) ≡ take at nodes ++ change node ∷ drop (suc at) nodes
changes_node items leaf at nodes node seen new change shown here stands read made =
    let stands_here : slice_get (map node_of items) leaf ≡ Some node = ap₂ (λ ns i. slice_get ns i) shown here ∙ stands in
    let same : node_of seen ≡ node = reads node_of items leaf seen node stands_here read in
    set_in_map node_of items leaf new (within_map node_of items leaf node stands_here)
    ∙ ap₂ (λ ns i. take i ns ++ node_of new ∷ drop (suc i) ns) shown here
    ∙ ap (λ n. take at nodes ++ n ∷ drop (suc at) nodes) (made ∙ ap change same)

-- the node in a place is changed, and others come in after it
pub changes_and_adds : (items new_items : List MachineNode) (leaf at depth : ℕ) (nodes : List CellNode) (node : CellNode)
    (seen new : MachineNode) (kids : List Child) (change : CellNode → CellNode)
    → map node_of items ≡ nodes → leaf ≡ at → slice_get nodes at ≡ Some node → depth ≡ node.depth
    → map node_of new_items ≡ take (leaf + 1) (map node_of items) ++ (children_at depth kids ++ drop (leaf + 1) (map node_of items))
    → seen ≡ slice_index_or new_items leaf seen → node_of new ≡ change (node_of seen)
    → map node_of (set new_items leaf new) ≡ take at nodes ++ change node ∷ (children_at node.depth kids ++ drop (suc at) nodes)
changes_and_adds items new_items leaf at depth nodes node seen new kids change shown here stands deep added read made =
    let rest = children_at node.depth kids ++ drop (suc at) nodes in
    let within : at < length nodes = within_slice nodes at node stands in
    let next : leaf + 1 ≡ suc at = omega (arith, here) in
    let is : map node_of new_items ≡ take (suc at) nodes ++ rest =
    added
    ∙ ap₂ (λ ns i. take i ns ++ (children_at depth kids ++ drop i ns)) shown next
    ∙ ap (λ d. take (suc at) nodes ++ (children_at d kids ++ drop (suc at) nodes)) deep in
    let stands_here : slice_get (take (suc at) nodes ++ rest) at ≡ Some node = stands_in_cut nodes rest at node stands in
    changes_node new_items leaf at (take (suc at) nodes ++ rest) node seen new change is here stands_here read made
    ∙ ap₂ (λ xs ys. xs ++ change node ∷ ys) (take_in_cut nodes rest at within) (drop_cut (suc at) nodes rest within)

-- what is read is the same at any default
pub read_within : (xs : List ℕ) (i x d : ℕ) → i < length xs → x ≡ slice_index_or xs i x → x ≡ slice_index_or xs i d
read_within [] i x d within read = absurd (omega (arith, within))
read_within (y ∷ xs) zero x d within read = read
read_within (y ∷ xs) (suc i) x d within read = read_within xs i x d (omega (arith, within)) read

-- a leaf can be opened again where the nodes and the branch are the same
pub reopens_same : (leaf count : ℕ) (old new : TreeValue) → old.nodes ≡ new.nodes → old.branch ≡ new.branch
    → CanReopen leaf count old → CanReopen leaf count new
reopens_same leaf count old new nodes branch can = record {
  node = can.node;
  stands = ap (λ ns. slice_get ns leaf) (sym nodes) ∙ can.stands;
  below = can.below;
  above = can.above;
  room = ap length (sym branch) ∙ can.room;
  first = can.first;
  within = subst (λ ns. count ≤ length ns) nodes can.within;
}

pub no_start : (step : Step) → ((x : ℕ) × (y : ℕ) × (step ≡ Extend x y)) ⊎ ((x : ℕ) × (step ≡ Reduce x)) → is_start step ≡ false
no_start step (inl extends) = ap is_start extends.2
no_start step (inr reduces) = ap is_start reduces.1

-- a step is noted after those before
pub notes_last : (old new : List Taken) (t u : Taken) (seen : List Taken) → new ≡ old ++ t ∷ [] → reverse old ≡ seen → t ≡ u
    → reverse new ≡ u ∷ seen
notes_last old new t u seen is shown same = ap reverse is ∙ reverse_push old t ∙ ap₂ (λ x xs. x ∷ xs) same shown

-- what is read from a place is what stands there
pub read_is : {A : Type 0} (xs : List A) (i : ℕ) (x y : A) → slice_get xs i ≡ Some y → x ≡ slice_index_or xs i x → x ≡ y
read_is [] i x y is read = absurd cc
read_is (z ∷ xs) zero x y is read = read ∙ cc
read_is (z ∷ xs) (suc i) x y is read = read_is xs i x y is read
