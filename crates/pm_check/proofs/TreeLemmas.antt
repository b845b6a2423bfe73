-- What holds of each placed node, and what holds of the tree.
use Rattle.std.proofs.Common.{◌≡◌, ℕ, zero, suc, List, [], ◌∷◌, ◌++◌, length, Option, Some, None, ap, refl, subst, arith}
use Rattle.std.specs.Prelude.{slice_get, IsSomeAnd}
use Rattle.std.specs.List.{All, AllZip, Any}
use Rattle.std.proofs.lemmas.List.Elements.{All-append, All-cons, All-contains, All-head, All-nil, All-tail, Contains-append_left, Contains-append_right}
use Rattle.std.proofs.lemmas.Option.{slice_get_within, get_or_from_slice_get}
use Rattle.pm_logic.specs.declared.problem.Class.{Class}
use Rattle.pm_logic.specs.declared.problem.Class.TheVariants.{Plain, Regular}
use Rattle.pm_logic.specs.Problem.{Literal, Clause}
use Rattle.pm_logic.specs.Tableau.{Node, leaf, inner, Nodes, no_nodes, more_nodes, Tableau}
use Rattle.pm_calculus.specs.Substitution.{AreComplementary}
use Rattle.pm_calculus.specs.Connection.{HasFamilies, HaveFamilies, IsConnectedBelow, AreConnectedBelow, IsRegularBelow, AreRegularBelow, IsRegularFor, IsClosedBelow, AreClosedBelow}
use Rattle.pm_check.specs.PlacedNodes.{PlacedNode, placed_below, placed_among, placed_nodes}
use Rattle.pm_check.specs.Verdicts.{IsClosedAsNamed}
use Rattle.pm_check.specs.Inside.Passing.{IsSound}
use Rattle.pm_check.proofs.MatchingLemmas.{All-from_contains}

All-left : {X : Type 0} (P : X → Type 0) (xs ys : List X) → All P (xs ++ ys) → All P xs
All-left P xs ys all = All-from_contains P xs (λ x there. All-contains P (xs ++ ys) x all (Contains-append_left xs ys x there))

All-right : {X : Type 0} (P : X → Type 0) (xs ys : List X) → All P (xs ++ ys) → All P ys
All-right P xs ys all = All-from_contains P ys (λ x there. All-contains P (xs ++ ys) x all (Contains-append_right xs ys x there))

-- ---- from the placed nodes to the tree

mutual
  families_below : (clauses : List Clause) (class : Class) (above : List Literal) (node : Node) → All (IsSound clauses class) (placed_below above node) → HasFamilies clauses node
  families_below clauses class above (leaf literal) all = tt
  families_below clauses class above (inner literal clause children) all = (
    (All-head (IsSound clauses class) (record { above = above; node = inner literal clause children }) (placed_among (above ++ literal ∷ []) children) all).family,
    families_among clauses class (above ++ literal ∷ []) children (All-tail (IsSound clauses class) (record { above = above; node = inner literal clause children }) (placed_among (above ++ literal ∷ []) children) all),
  )

  pub families_among : (clauses : List Clause) (class : Class) (above : List Literal) (nodes : Nodes) → All (IsSound clauses class) (placed_among above nodes) → HaveFamilies clauses nodes
  families_among clauses class above no_nodes all = tt
  families_among clauses class above (more_nodes node nodes) all = (
    families_below clauses class above node (All-left (IsSound clauses class) (placed_below above node) (placed_among above nodes) all),
    families_among clauses class above nodes (All-right (IsSound clauses class) (placed_below above node) (placed_among above nodes) all),
  )

mutual
  connected_below : (clauses : List Clause) (class : Class) (above : List Literal) (node : Node) → All (IsSound clauses class) (placed_below above node) → IsConnectedBelow node
  connected_below clauses class above (leaf literal) all = tt
  connected_below clauses class above (inner literal clause children) all = (
    (All-head (IsSound clauses class) (record { above = above; node = inner literal clause children }) (placed_among (above ++ literal ∷ []) children) all).connected,
    connected_among clauses class (above ++ literal ∷ []) children (All-tail (IsSound clauses class) (record { above = above; node = inner literal clause children }) (placed_among (above ++ literal ∷ []) children) all),
  )

  pub connected_among : (clauses : List Clause) (class : Class) (above : List Literal) (nodes : Nodes) → All (IsSound clauses class) (placed_among above nodes) → AreConnectedBelow nodes
  connected_among clauses class above no_nodes all = tt
  connected_among clauses class above (more_nodes node nodes) all = (
    connected_below clauses class above node (All-left (IsSound clauses class) (placed_below above node) (placed_among above nodes) all),
    connected_among clauses class above nodes (All-right (IsSound clauses class) (placed_below above node) (placed_among above nodes) all),
  )

mutual
  regular_below : (clauses : List Clause) (class : Class) → class ≡ Regular → (above : List Literal) (node : Node) → All (IsSound clauses class) (placed_below above node) → IsRegularBelow above node
  regular_below clauses class is above (leaf literal) all =
      (All-head (IsSound clauses class) (record { above = above; node = leaf literal }) [] all).regular is
  regular_below clauses class is above (inner literal clause children) all = (
    (All-head (IsSound clauses class) (record { above = above; node = inner literal clause children }) (placed_among (above ++ literal ∷ []) children) all).regular is,
    regular_among clauses class is (above ++ literal ∷ []) children (All-tail (IsSound clauses class) (record { above = above; node = inner literal clause children }) (placed_among (above ++ literal ∷ []) children) all),
  )

  pub regular_among : (clauses : List Clause) (class : Class) → class ≡ Regular → (above : List Literal) (nodes : Nodes) → All (IsSound clauses class) (placed_among above nodes) → AreRegularBelow above nodes
  regular_among clauses class is above no_nodes all = tt
  regular_among clauses class is above (more_nodes node nodes) all = (
    regular_below clauses class is above node (All-left (IsSound clauses class) (placed_below above node) (placed_among above nodes) all),
    regular_among clauses class is above nodes (All-right (IsSound clauses class) (placed_below above node) (placed_among above nodes) all),
  )

pub regular_for : (clauses : List Clause) (class : Class) (tableau : Tableau) → All (IsSound clauses class) (placed_nodes tableau) → IsRegularFor class tableau
regular_for clauses Plain tableau all = tt
regular_for clauses Regular tableau all = regular_among clauses Regular refl [] tableau.children all

-- ---- closed leaves

-- a leaf is closed by some ancestor
abbrev IsClosedNode : List Literal → Node → Type 0
IsClosedNode above (leaf literal) = Any (AreComplementary literal) above
IsClosedNode above (inner literal clause children) = Unit {0}

abbrev IsClosedSomehow : PlacedNode → Type 0
IsClosedSomehow placed = IsClosedNode placed.above placed.node

named_closes : (above : List Literal) (node : Node) (ancestor : ℕ) → IsClosedAsNamed above node ancestor → IsClosedNode above node
named_closes above (inner literal clause children) ancestor closed = tt
named_closes above (leaf literal) zero closed = absurd closed
named_closes above (leaf literal) (suc n) closed = somewhere (slice_get above n) refl closed
  where
    somewhere : (found : Option Literal) → slice_get above n ≡ found → IsSomeAnd found (AreComplementary literal) → Any (AreComplementary literal) above
    somewhere None is h = absurd h
    somewhere (Some other) is h = (n, other, slice_get_within above n other is, get_or_from_slice_get above n other other is, h)

zip_closes : (placed : List PlacedNode) (ancestors : List ℕ) → AllZip (λ p ancestor. IsClosedAsNamed p.above p.node ancestor) placed ancestors → All IsClosedSomehow placed
zip_closes [] [] closed = All-nil IsClosedSomehow
zip_closes [] (a ∷ ancestors) closed = absurd closed
zip_closes (p ∷ placed) [] closed = absurd closed
zip_closes (p ∷ placed) (a ∷ ancestors) closed = All-cons IsClosedSomehow p placed (named_closes p.above p.node a closed.0) (zip_closes placed ancestors closed.1)

mutual
  closed_below : (above : List Literal) (node : Node) → All IsClosedSomehow (placed_below above node) → IsClosedBelow above node
  closed_below above (leaf literal) all = All-head IsClosedSomehow (record { above = above; node = leaf literal }) [] all
  closed_below above (inner literal clause children) all =
      closed_among (above ++ literal ∷ []) children (All-tail IsClosedSomehow (record { above = above; node = inner literal clause children }) (placed_among (above ++ literal ∷ []) children) all)

  closed_among : (above : List Literal) (nodes : Nodes) → All IsClosedSomehow (placed_among above nodes) → AreClosedBelow above nodes
  closed_among above no_nodes all = tt
  closed_among above (more_nodes node nodes) all = (
    closed_below above node (All-left IsClosedSomehow (placed_below above node) (placed_among above nodes) all),
    closed_among above nodes (All-right IsClosedSomehow (placed_below above node) (placed_among above nodes) all),
  )

pub closed_tableau : (tableau : Tableau) (ancestors : List ℕ) → AllZip (λ p ancestor. IsClosedAsNamed p.above p.node ancestor) (placed_nodes tableau) ancestors → AreClosedBelow [] tableau.children
closed_tableau tableau ancestors closed = closed_among [] tableau.children (zip_closes (placed_nodes tableau) ancestors closed)

-- ---- from the tree to the placed nodes

mutual
  sound_below : (clauses : List Clause) (class : Class) (above : List Literal) (node : Node) → HasFamilies clauses node → IsConnectedBelow node → (class ≡ Regular → IsRegularBelow above node)
      → All (IsSound clauses class) (placed_below above node)
  sound_below clauses class above (leaf literal) families connected regular =
      All-cons (IsSound clauses class) (record { above = above; node = leaf literal }) []
      (record { family = tt; connected = tt; regular = regular }) (All-nil (IsSound clauses class))
  sound_below clauses class above (inner literal clause children) families connected regular =
      All-cons (IsSound clauses class) (record { above = above; node = inner literal clause children }) (placed_among (above ++ literal ∷ []) children)
      (record { family = families.0; connected = connected.0; regular = λ is. (regular is).0 })
      (sound_among clauses class (above ++ literal ∷ []) children families.1 connected.1 (λ is. (regular is).1))

  sound_among : (clauses : List Clause) (class : Class) (above : List Literal) (nodes : Nodes) → HaveFamilies clauses nodes → AreConnectedBelow nodes → (class ≡ Regular → AreRegularBelow above nodes)
      → All (IsSound clauses class) (placed_among above nodes)
  sound_among clauses class above no_nodes families connected regular = All-nil (IsSound clauses class)
  sound_among clauses class above (more_nodes node nodes) families connected regular =
      All-append (IsSound clauses class) (placed_below above node) (placed_among above nodes)
      (sound_below clauses class above node families.0 connected.0 (λ is. (regular is).0))
      (sound_among clauses class above nodes families.1 connected.1 (λ is. (regular is).1))

regular_tree : (class : Class) (tableau : Tableau) → IsRegularFor class tableau → class ≡ Regular → AreRegularBelow [] tableau.children
regular_tree Plain tableau regular is = absurd cc
regular_tree Regular tableau regular is = regular

pub sound_tableau : (clauses : List Clause) (class : Class) (tableau : Tableau) → HaveFamilies clauses tableau.children → AreConnectedBelow tableau.children → IsRegularFor class tableau
    → All (IsSound clauses class) (placed_nodes tableau)
sound_tableau clauses class tableau families connected regular =
    sound_among clauses class [] tableau.children families connected (regular_tree class tableau regular)

-- ---- places of two lists

pub zip_at : {A B : Type 0} (R : A → B → Type 0) (xs : List A) (ys : List B) (i : ℕ) (x : A) (y : B) → AllZip R xs ys → slice_get xs i ≡ Some x → slice_get ys i ≡ Some y → R x y
zip_at R [] ys i x y all is at_y = cc
zip_at R (a ∷ xs) [] i x y all is at_y = cc
zip_at R (a ∷ xs) (b ∷ ys) zero x y all is at_y =
    let first : a ≡ x = cc in
    let second : b ≡ y = cc in
    subst (λ c. R c y) first (subst (R a) second all.0)
zip_at R (a ∷ xs) (b ∷ ys) (suc i) x y all is at_y = zip_at R xs ys i x y all.1 is at_y

pub zip_from : {A B : Type 0} (R : A → B → Type 0) (xs : List A) (ys : List B) → length xs ≡ length ys → ((i : ℕ) (x : A) (y : B) → slice_get xs i ≡ Some x → slice_get ys i ≡ Some y → R x y) → AllZip R xs ys
zip_from R [] [] same each = tt
zip_from R [] (y ∷ ys) same each = absurd (omega arith)
zip_from R (x ∷ xs) [] same each = absurd (omega arith)
zip_from R (x ∷ xs) (y ∷ ys) same each = (each 0 x y refl refl, zip_from R xs ys (omega arith) (λ i a b is at_b. each (suc i) a b is at_b))

pub zip_length : {A B : Type 0} (R : A → B → Type 0) (xs : List A) (ys : List B) → AllZip R xs ys → length xs ≡ length ys
zip_length R [] [] all = refl
zip_length R [] (y ∷ ys) all = absurd all
zip_length R (x ∷ xs) [] all = absurd all
zip_length R (x ∷ xs) (y ∷ ys) all = ap suc (zip_length R xs ys all.1)
