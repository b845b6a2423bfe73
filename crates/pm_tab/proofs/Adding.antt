-- Pairs that are added to what is watched.
use Rattle.std.proofs.Common.{◌≡◌, ℕ, ◌+◌, ◌<◌, Bool, true, false, if◌then◌else◌, List, [], ◌∷◌, ◌++◌, length, map, Some, slice_get, take, drop, refl, sym, ◌∙◌, ap, subst}
use Rattle.std.specs.Prelude.{◌↔◌, ◌≢◌, All, IsTrue, OnOk, IfOk, Result, Ok, Err, get_or, option_map, ◌&&◌, ◌==◌}
use Rattle.std.specs.Bool.{beq, OnTrue, OnFalse}
use Rattle.std.proofs.lemmas.Bool.{false≢true, eqb-true}
use Rattle.std.proofs.lemmas.List.{length-map, append_assoc, append-nil, get_or-map, map-append, take_more, take-append-drop}
use Rattle.std.proofs.lemmas.List.Elements.{All-nil, All-cons, All-head}
use Rattle.std.proofs.lemmas.Option.{slice_get-map, slice_get-get_or}
use Rattle.pm_logic.specs.Term.{Term}
use Rattle.pm_store.specs.Equations.{Equations}
use Rattle.pm_store.specs.Solutions.{Solves}
use Rattle.pm_store.proofs.ListLemmas.{All-left, All-right}
use Rattle.pm_run.specs.State.{CellLiteral}
use Rattle.pm_run.specs.InStore.{HasArgsBelow}
use Rattle.pm_diseq.specs.Notes.{Pair, Note, as_pair, pairs_of, GrowsTo}
use Rattle.pm_diseq.specs.Standing.{AreIdentical, IsWithin, StandsAt}
use Rattle.pm_machine.specs.declared.node.MachineNode.{MachineNode}
use Rattle.pm_machine.specs.State.{CellNode}
use Rattle.pm_machine.specs.Node.{node_of}
use Rattle.pm_machine.proofs.MachineLemmas.{all_at}
use Rattle.pm_tab.specs.Repeats.{AreApart, has_same_face, pairs_with, family_pairs, no_literal, literal_at, literals_in}
use Rattle.pm_tab.specs.Inside.Adding.{literal_on, IsChildOf, AddsPairs, HasIdentical}
use Rattle.pm_tab.specs.Inside.Steps.{GrewTo}
use Rattle.pm_tab.proofs.Watching.{literal_is, apart_parts}

-- notes grow step by step
pub grew_none : (pool : List Note) → GrewTo pool pool
grew_none pool = record { more = []; is = sym (append-nil pool) }

pub grew_then : (pool middle grown : List Note) → GrewTo pool middle → GrewTo middle grown → GrewTo pool grown
grew_then pool middle grown first next = record {
  more = first.more ++ next.more;
  is = next.is ∙ ap (λ notes. notes ++ next.more) first.is ∙ append_assoc pool first.more next.more;
}

pub grew_by : (pool grown : List Note) (kept : List Pair) → GrowsTo pool grown kept → GrewTo pool grown
grew_by pool grown kept h = record { more = h.grows.0; is = h.grows.1 }

-- so do pairs
module _ (s : Equations) (pool : List Note) where
  -- pairs that are apart in each solution need no note
  pub adds_settled : (ps : List Pair) → StandsAt s pool → ((trees : ℕ → Term) → Solves s trees → AreApart trees ps) → AddsPairs s pool pool ps
  adds_settled ps stands apart = record {
    stands = stands;
    more = [];
    added = sym (append-nil (pairs_of pool));
    settled = ps;
    apart = apart;
    tells = λ trees. (λ h. h, λ h. h);
  }

  pub adds_none : StandsAt s pool → AddsPairs s pool pool []
  adds_none stands = adds_settled [] stands (λ trees solves. All-nil (λ (pair : Pair). map trees pair.left ≢ map trees pair.right))

  pub adds_noted : (grown : List Note) (ps : List Pair) → StandsAt s grown → pairs_of grown ≡ pairs_of pool ++ ps → AddsPairs s pool grown ps
  adds_noted grown ps stands added = record {
    stands = stands;
    more = ps;
    added = added;
    settled = [];
    apart = λ trees solves. All-nil (λ (pair : Pair). map trees pair.left ≢ map trees pair.right);
    tells = λ trees. let same = append-nil ps in (λ h. subst (AreApart trees) (sym same) h, λ h. subst (AreApart trees) same h);
  }

  pub adds_then : (middle grown : List Note) (ps qs : List Pair) → AddsPairs s pool middle ps → AddsPairs s middle grown qs → AddsPairs s pool grown (ps ++ qs)
  adds_then middle grown ps qs first next = record {
    stands = next.stands;
    more = first.more ++ next.more;
    added = next.added ∙ ap (λ pairs. pairs ++ next.more) first.added ∙ append_assoc (pairs_of pool) first.more next.more;
    settled = first.settled ++ next.settled;
    apart = λ trees solves. (apart_parts trees first.settled next.settled).1 (first.apart trees solves, next.apart trees solves);
    tells = λ trees. (
      λ h. let both = (apart_parts trees ps qs).0 h in
          let left = (apart_parts trees first.more first.settled).0 ((first.tells trees).0 both.0) in
          let right = (apart_parts trees next.more next.settled).0 ((next.tells trees).0 both.1) in
          (apart_parts trees (first.more ++ next.more) (first.settled ++ next.settled)).1
          ((apart_parts trees first.more next.more).1 (left.0, right.0), (apart_parts trees first.settled next.settled).1 (left.1, right.1)),
      λ h. let both = (apart_parts trees (first.more ++ next.more) (first.settled ++ next.settled)).0 h in
          let mores = (apart_parts trees first.more next.more).0 both.0 in
          let settled = (apart_parts trees first.settled next.settled).0 both.1 in
          (apart_parts trees ps qs).1 (
            (first.tells trees).1 ((apart_parts trees first.more first.settled).1 (mores.0, settled.0)),
            (next.tells trees).1 ((apart_parts trees next.more next.settled).1 (mores.1, settled.1)),
          ),
    );
  }

abbrev IsApartIn : Equations → Pair → Type 0
IsApartIn s pair = ¬ AreIdentical s pair

pub identical_left : (s : Equations) (ps qs : List Pair) → HasIdentical s ps → HasIdentical s (ps ++ qs)
identical_left s ps qs some all = some (All-left (IsApartIn s) ps qs all)

pub identical_right : (s : Equations) (ps qs : List Pair) → HasIdentical s qs → HasIdentical s (ps ++ qs)
identical_right s ps qs some all = some (All-right (IsApartIn s) ps qs all)

-- the pairs of a longer branch, and of more children
pub pairs_along : (branch more : List CellLiteral) (child : CellLiteral) → pairs_with (branch ++ more) child ≡ pairs_with branch child ++ pairs_with more child
pairs_along [] more child = refl
pairs_along (above ∷ branch) more child = by (has_same_face child above) (pairs_along branch more child)
  where
    by : (b : Bool) → pairs_with (branch ++ more) child ≡ pairs_with branch child ++ pairs_with more child
        → (if b then as_pair above.args child.args ∷ pairs_with (branch ++ more) child else pairs_with (branch ++ more) child)
        ≡ (if b then as_pair above.args child.args ∷ pairs_with branch child else pairs_with branch child) ++ pairs_with more child
    by true rest = ap (λ pairs. as_pair above.args child.args ∷ pairs) rest
    by false rest = rest

pub pairs_among : (branch children more : List CellLiteral) → family_pairs branch (children ++ more) ≡ family_pairs branch children ++ family_pairs branch more
pairs_among branch [] more = refl
pairs_among branch (child ∷ children) more =
    ap (λ pairs. pairs_with branch child ++ pairs) (pairs_among branch children more)
    ∙ sym (append_assoc (pairs_with branch child) (family_pairs branch children) (family_pairs branch more))

-- a pair of literals with the same face
faces_agree : (a b e : Bool) → beq a b && e ≡ true → e ≡ true
faces_agree true true e h = h
faces_agree true false e h = absurd (false≢true h)
faces_agree false true e h = absurd (false≢true h)
faces_agree false false e h = h

pub pair_within : (s : Equations) (above child : CellNode) → HasArgsBelow (length s.cells) above.literal → IsChildOf s (above ∷ []) child
    → has_same_face child.literal above.literal ≡ true → IsWithin s (as_pair above.literal.args child.literal.args)
pair_within s above child low of face =
    let predicate = eqb-true child.literal.predicate above.literal.predicate
    (faces_agree child.literal.positive above.literal.positive (child.literal.predicate == above.literal.predicate) face) in
    record {
      count = All-head (λ (node : CellNode). node.literal.predicate ≡ child.literal.predicate → length node.literal.args ≡ length child.literal.args) above [] of.counts (sym predicate);
      left = low;
      right = of.below;
    }

pub identical_pair : (s : Equations) (above child : CellLiteral) → has_same_face child above ≡ true → (apart : Bool)
    → IsTrue apart ↔ (¬ AreIdentical s (as_pair above.args child.args)) → OnFalse apart (HasIdentical s (pairs_with (above ∷ []) child))
identical_pair s above child face true tells = tt
identical_pair s above child face false tells = λ all.
    false≢true (tells.1 (All-head (IsApartIn s) (as_pair above.args child.args) []
    (subst (All (IsApartIn s)) (ap (λ b. if b then as_pair above.args child.args ∷ [] else []) face) all)))

-- literals of other faces have no pair
pub adds_no_pair : (s : Equations) (pool : List Note) (above child : CellLiteral) → has_same_face child above ≡ false → StandsAt s pool
    → AddsPairs s pool pool (pairs_with (above ∷ []) child)
adds_no_pair s pool above child face stands =
    subst (λ b. AddsPairs s pool pool (if b then as_pair above.args child.args ∷ [] else [])) (sym face) (adds_none s pool stands)

pub adds_pair : (s : Equations) (pool grown : List Note) (above child : CellLiteral) → has_same_face child above ≡ true → StandsAt s grown
    → GrowsTo pool grown (pairs_of pool ++ as_pair above.args child.args ∷ []) → AddsPairs s pool grown (pairs_with (above ∷ []) child)
adds_pair s pool grown above child face stands grows =
    subst (λ b. AddsPairs s pool grown (if b then as_pair above.args child.args ∷ [] else [])) (sym face)
    (adds_noted s pool grown (as_pair above.args child.args ∷ []) stands grows.pairs)

pub pair_added : {E : Type 0} (s : Equations) (pool grown : List Note) (above child : CellLiteral) → has_same_face child above ≡ true
    → (pair : Pair) → pair ≡ as_pair above.args child.args → (r : Result Bool E) → OnOk r (StandsAt s grown)
    → IfOk r (λ apart. OnTrue apart (GrowsTo pool grown (pairs_of pool ++ pair ∷ [])))
    → IfOk r (λ apart. OnTrue apart (AddsPairs s pool grown (pairs_with (above ∷ []) child)))
pair_added s pool grown above child face pair is (Ok true) stands kept =
    adds_pair s pool grown above child face stands (subst (λ p. GrowsTo pool grown (pairs_of pool ++ p ∷ [])) is kept)
pair_added s pool grown above child face pair is (Ok false) stands kept = tt
pair_added s pool grown above child face pair is (Err e) stands kept = tt

-- a place on the branch
pub node_there : (nodes : List MachineNode) (place : ℕ) (node : MachineNode) → place < length nodes → node ≡ get_or nodes place node
    → slice_get (map node_of nodes) place ≡ Some (node_of node)
node_there nodes place node less is = slice_get-map node_of nodes place ∙ ap (option_map node_of) (slice_get-get_or nodes place node less ∙ ap Some (sym is))

-- the branch up to a place, and the next
pub branch_next : (nodes : List CellNode) (branch : List ℕ) (i : ℕ) → i < length branch
    → literals_in nodes (take (i + 1) branch) ≡ literals_in nodes (take i branch) ++ get_or (literals_in nodes branch) i no_literal ∷ []
branch_next nodes branch i less =
    ap (literals_in nodes) (take_more branch i 0 less) ∙ map-append (literal_at nodes) (take i branch) (get_or branch i 0 ∷ [])
    ∙ ap (λ l. literals_in nodes (take i branch) ++ l ∷ []) (sym (get_or-map (literal_at nodes) branch i 0 no_literal less))

pub pairs_next : (nodes : List CellNode) (branch : List ℕ) (i : ℕ) (child : CellLiteral) → i < length branch
    → pairs_with (literals_in nodes (take (i + 1) branch)) child
    ≡ pairs_with (literals_in nodes (take i branch)) child ++ pairs_with (get_or (literals_in nodes branch) i no_literal ∷ []) child
pairs_next nodes branch i child less =
    ap (λ ls. pairs_with ls child) (branch_next nodes branch i less)
    ∙ pairs_along (literals_in nodes (take i branch)) (get_or (literals_in nodes branch) i no_literal ∷ []) child

module _ (nodes : List MachineNode) (branch : List ℕ) (i place : ℕ) (node : MachineNode) (less : i < length branch) (here : place ≡ get_or branch i 0)
    (low : place < length nodes) (is : node ≡ get_or nodes place node) where
  literal_there : get_or (literals_in (map node_of nodes) branch) i no_literal ≡ literal_on node
  literal_there =
      get_or-map (literal_at (map node_of nodes)) branch i 0 no_literal less ∙ ap (literal_at (map node_of nodes)) (sym here)
      ∙ literal_is (map node_of nodes) place (node_of node) (node_there nodes place node low is)

  pub pairs_more : (child : CellLiteral) → pairs_with (literals_in (map node_of nodes) (take (i + 1) branch)) child
      ≡ pairs_with (literals_in (map node_of nodes) (take i branch)) child ++ pairs_with (literal_on node ∷ []) child
  pairs_more child =
      pairs_next (map node_of nodes) branch i child less
      ∙ ap (λ l. pairs_with (literals_in (map node_of nodes) (take i branch)) child ++ pairs_with (l ∷ []) child) literal_there

  pub identical_on_branch : (s : Equations) (child : CellLiteral) → HasIdentical s (pairs_with (literal_on node ∷ []) child)
      → HasIdentical s (pairs_with (literals_in (map node_of nodes) branch) child)
  identical_on_branch s child some =
      let ls : List ℕ → List CellLiteral = literals_in (map node_of nodes) in
      let parts : ls branch ≡ ls (take (i + 1) branch) ++ ls (drop (i + 1) branch) =
      ap ls (sym (take-append-drop (i + 1) branch)) ∙ map-append (literal_at (map node_of nodes)) (take (i + 1) branch) (drop (i + 1) branch) in
      subst (HasIdentical s) (sym (ap (λ ks. pairs_with ks child) parts ∙ pairs_along (ls (take (i + 1) branch)) (ls (drop (i + 1) branch)) child))
      (identical_left s (pairs_with (ls (take (i + 1) branch)) child) (pairs_with (ls (drop (i + 1) branch)) child)
      (subst (HasIdentical s) (sym (pairs_more child))
      (identical_right s (pairs_with (ls (take i branch)) child) (pairs_with (literal_on node ∷ []) child) some)))

-- what holds of the nodes on a branch
pub place_low : (nodes : List MachineNode) (branch : List ℕ) (i : ℕ) → All (λ p. p < length (map node_of nodes)) branch → i < length branch
    → get_or branch i 0 < length nodes
place_low nodes branch i within less = subst (λ n. get_or branch i 0 < n) (length-map nodes node_of) (within i 0 less)

pub holds_at : (P : CellNode → Type 0) (nodes : List MachineNode) (place : ℕ) (node : MachineNode) → All P (map node_of nodes) → place < length nodes
    → node ≡ get_or nodes place node → P (node_of node)
holds_at P nodes place node all low is = all_at P (map node_of nodes) place (node_of node) all (node_there nodes place node low is)

pub child_below : (s : Equations) (nodes : List MachineNode) (place : ℕ) (node child : MachineNode) → IsChildOf s (map node_of nodes) (node_of child)
    → place < length nodes → node ≡ get_or nodes place node → IsChildOf s (node_of node ∷ []) (node_of child)
child_below s nodes place node child of low is = record {
  below = of.below;
  counts = All-cons SameCount (node_of node) [] (holds_at SameCount nodes place node of.counts low is) (All-nil SameCount);
}
  where
    SameCount : CellNode → Type 0
    SameCount n = n.literal.predicate ≡ (node_of child).literal.predicate → length n.literal.args ≡ length (node_of child).literal.args

-- a child among others
module _ (branch : List CellLiteral) (children : List MachineNode) (i : ℕ) (child : MachineNode) (less : i < length children)
    (here : child ≡ get_or children i child) where
  pub children_more : map literal_on (take (i + 1) children) ≡ map literal_on (take i children) ++ literal_on child ∷ []
  children_more =
      ap (map literal_on) (take_more children i child less) ∙ map-append literal_on (take i children) (get_or children i child ∷ [])
      ∙ ap (λ c. map literal_on (take i children) ++ literal_on c ∷ []) (sym here)

  one_more : family_pairs branch (literal_on child ∷ []) ≡ pairs_with branch (literal_on child)
  one_more = append-nil (pairs_with branch (literal_on child))

  pub family_more : family_pairs branch (map literal_on (take (i + 1) children))
      ≡ family_pairs branch (map literal_on (take i children)) ++ pairs_with branch (literal_on child)
  family_more =
      ap (family_pairs branch) children_more ∙ pairs_among branch (map literal_on (take i children)) (literal_on child ∷ [])
      ∙ ap (λ ps. family_pairs branch (map literal_on (take i children)) ++ ps) one_more

  pub identical_in_family : (s : Equations) → HasIdentical s (pairs_with branch (literal_on child)) → HasIdentical s (family_pairs branch (map literal_on children))
  identical_in_family s some =
      let ls : List MachineNode → List CellLiteral = map literal_on in
      let parts : ls children ≡ ls (take (i + 1) children) ++ ls (drop (i + 1) children) =
      ap ls (sym (take-append-drop (i + 1) children)) ∙ map-append literal_on (take (i + 1) children) (drop (i + 1) children) in
      subst (HasIdentical s) (sym (ap (family_pairs branch) parts ∙ pairs_among branch (ls (take (i + 1) children)) (ls (drop (i + 1) children))))
      (identical_left s (family_pairs branch (ls (take (i + 1) children))) (family_pairs branch (ls (drop (i + 1) children)))
      (subst (HasIdentical s) (sym family_more)
      (identical_right s (family_pairs branch (ls (take i children))) (pairs_with branch (literal_on child)) some)))

-- what is known of a test's outcome
pub on_true_so : (b : Bool) (P Q : Type 0) → (P → Q) → OnTrue b P → OnTrue b Q
on_true_so true P Q so h = so h
on_true_so false P Q so h = tt

pub on_false_so : (b : Bool) (P Q : Type 0) → (P → Q) → OnFalse b P → OnFalse b Q
on_false_so true P Q so h = tt
on_false_so false P Q so h = so h

-- pairs that are added to a pool that settled
pub adds_after : (s t : Equations) (pool middle grown : List Note) (ps qs : List Pair) → s ≡ t → pairs_of middle ≡ pairs_of pool → ps ≡ qs
    → AddsPairs s middle grown ps → AddsPairs t pool grown qs
adds_after s t pool middle grown ps qs same kept are h =
    subst (λ rs. AddsPairs t pool grown rs) are
    (subst (λ u. AddsPairs u pool grown ps) same (record {
      stands = h.stands;
      more = h.more;
      added = h.added ∙ ap (λ first. first ++ h.more) kept;
      settled = h.settled;
      apart = h.apart;
      tells = h.tells;
    }))

pub identical_after : (s t : Equations) (pool : List Note) (ps qs : List Pair) → s ≡ t → ps ≡ qs → HasIdentical s ps → HasIdentical t (pairs_of pool ++ qs)
identical_after s t pool ps qs same are some =
    identical_right t (pairs_of pool) qs (subst (λ u. HasIdentical u qs) same (subst (HasIdentical s) are some))
