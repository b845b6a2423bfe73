-- A node, its children and the branch above it.
use Rattle.std.proofs.Common.{◌≡◌, ◌≢◌, ◌∙◌, ◌↔◌, ◌<◌, ◌≤◌, ◌⊎◌, inl, inr, ℕ, zero, suc, ◌+◌, ◌-◌, Bool, List, [], ◌∷◌, length, map, get_or, drop, Bor, Some, sym, ap, refl, subst, arith}
use Rattle.std.specs.Prelude.{slice_get, slice_index, IsTrue, IsSomeAnd}
use Rattle.std.specs.List.{All, Contains}
use Rattle.std.proofs.lemmas.List.{length-map}
use Rattle.std.proofs.lemmas.Option.{slice_get_within, slice_get-get_or, get_or_from_slice_get}
use Rattle.pm_logic.specs.declared.problem.Literal.{Literal}
use Rattle.pm_logic.specs.declared.problem.Class.{Class}
use Rattle.pm_logic.specs.declared.problem.Class.TheVariants.{Regular}
use Rattle.pm_logic.specs.declared.tableau.Node.{Node}
use Rattle.pm_logic.specs.declared.tableau.NodeKind.TheVariants.{Leaf, Inner}
use Rattle.pm_logic.specs.Term.{Term}
use Rattle.pm_logic.specs.Problem.{Literal as Written, Clause}
use Rattle.pm_logic.specs.Tableau.{Node as Tree, leaf, inner, Nodes, no_nodes, more_nodes, Entry}
use Rattle.pm_logic.specs.View.{literal_of, entry_of}
use Rattle.pm_calculus.specs.Substitution.{AreComplementary}
use Rattle.pm_calculus.specs.Connection.{literal_on, literals_on, HasComplementaryLeaf}
use Rattle.pm_check.specs.declared.refusal.RefusalKind.{RefusalKind}
use Rattle.pm_check.specs.declared.refusal.RefusalKind.TheVariants.{NotStart, NotInstance, NotComplementary, NotConnected, NotRegular, DepthDiffers, SizeDiffers}
use Rattle.pm_check.specs.Kinds.{rank}
use Rattle.pm_check.specs.PlacedNodes.{PlacedNode}
use Rattle.pm_check.specs.Offences.{IsClosedAt, IsNoInstance, IsNotClosed, IsUnconnected, OffendsAt}
use Rattle.pm_check.specs.Verdicts.{IsClosedAsNamed}
use Rattle.pm_check.specs.Inside.Passing.{HasFamily, HasConnection, Passes, PassesByItself, IsFirstAt, IsOwnOffence}
use Rattle.pm_check.specs.Inside.Siblings.{siblings, AreNextPlaces, AreSteps}
use Rattle.pm_check.specs.Inside.Sights.{top_of, tops_among, children_of, literals_of, IsSeenAt, HasClosingLeaf}
use Rattle.pm_check.proofs.FamilyLemmas.{written, family_at, HasInstance, next_child, no_child, next_within, entry_stands}

-- ---- depths

steps_at : (ds : List ℕ) (deepest i : ℕ) → AreSteps deepest ds → i + 1 < length ds → slice_index ds (i + 1) ≤ slice_index ds i + 1
steps_at [] deepest i steps lt = absurd (omega arith)
steps_at (d ∷ []) deepest i steps lt = absurd (omega arith)
steps_at (d ∷ e ∷ ds) deepest zero steps lt = steps.1.0
steps_at (d ∷ e ∷ ds) deepest (suc i) steps lt =
    let next : suc i + 1 ≡ suc (i + 1) = omega arith in
    subst (λ n. slice_index (d ∷ e ∷ ds) n ≤ slice_index (e ∷ ds) i + 1) (sym next) (steps_at (e ∷ ds) (d + 1) i steps.1 (omega arith))

depth_of : (nodes : List Node) (place : ℕ) (node : Node) → slice_get nodes place ≡ Some node → slice_index (map (λ n. n.depth) nodes) place ≡ node.depth
depth_of [] place node is = cc
depth_of (n ∷ nodes) zero node is = let same : n ≡ node = cc in ap (λ (m : Node). m.depth) same
depth_of (n ∷ nodes) (suc place) node is = depth_of nodes place node is

-- the next node lies one deeper at most
pub next_depth : (nodes : List Node) (place : ℕ) (node : Node) → slice_get nodes place ≡ Some node → AreSteps 1 (map (λ n. n.depth) nodes) → place + 1 < length nodes
    → slice_index (map (λ n. n.depth) nodes) (place + 1) ≤ node.depth + 1
next_depth nodes place node is steps lt =
    omega (arith, steps_at (map (λ (n : Node). n.depth) nodes) 1 place steps (omega (arith, length-map nodes (λ (n : Node). n.depth))), depth_of nodes place node is)

-- ---- children that close

-- the children up to this one don't close the parent
pub record IsChildTurn (terms : List Term) (nodes : List Node) (place d : ℕ) (literal : Written) (child : ℕ) : Type 0 where
  pub within : child ≤ length nodes
  pub shallow : child < length nodes → slice_index (map (λ n. n.depth) nodes) child ≤ d
  pub same :
      HasClosingLeaf literal (siblings d (drop child (map (entry_of terms) nodes)))
      ↔ HasClosingLeaf literal (siblings d (drop (place + 1) (map (entry_of terms) nodes)))

pub child_first : (terms : List Term) (nodes : List Node) (place d : ℕ) (literal : Written) (node : Node) → slice_get nodes place ≡ Some node → d ≡ node.depth + 1 → AreSteps 1 (map (λ n. n.depth) nodes)
    → IsChildTurn terms nodes place d literal (place + 1)
child_first terms nodes place d literal node is depth steps = record {
  within = omega (arith, slice_get_within nodes place node is);
  shallow = λ lt. omega (arith, next_depth nodes place node is steps lt);
  same = (λ h. h, λ h. h);
}

pub child_more : (terms : List Term) (nodes : List Node) (next : List ℕ) (place d : ℕ) (literal : Written) (child : ℕ) (node : Node) → IsChildTurn terms nodes place d literal child → slice_get nodes child ≡ Some node
    → slice_index (map (λ n. n.depth) nodes) child ≡ d → AreNextPlaces (map (λ n. n.depth) nodes) next → ((node.kind ≡ Leaf) × AreComplementary (literal_of terms node.literal) literal → ⊥)
    → IsChildTurn terms nodes place d literal (slice_index next child)
child_more terms nodes next place d literal child node turn is depth places apart =
    let step = next_within nodes next d child (slice_get_within nodes child node is) depth places in
    let later = next_child terms nodes next d child node is depth places in
    record {
      within = step.0;
      shallow = step.1;
      same = (
        λ h. turn.same.0 (subst (HasClosingLeaf literal) (sym later) (inr h)),
        λ h. rest (subst (HasClosingLeaf literal) later (turn.same.1 h)),
      );
    }
  where
    rest : ((node.kind ≡ Leaf) × AreComplementary (literal_of terms node.literal) literal) ⊎ HasClosingLeaf literal (siblings d (drop (slice_index next child) (map (entry_of terms) nodes)))
        → HasClosingLeaf literal (siblings d (drop (slice_index next child) (map (entry_of terms) nodes)))
    rest (inl here) = absurd (apart here)
    rest (inr later) = later

pub child_found : (terms : List Term) (nodes : List Node) (next : List ℕ) (place d : ℕ) (literal : Written) (child : ℕ) (node : Node) → IsChildTurn terms nodes place d literal child → slice_get nodes child ≡ Some node
    → slice_index (map (λ n. n.depth) nodes) child ≡ d → AreNextPlaces (map (λ n. n.depth) nodes) next → (node.kind ≡ Leaf) × AreComplementary (literal_of terms node.literal) literal
    → HasClosingLeaf literal (siblings d (drop (place + 1) (map (entry_of terms) nodes)))
child_found terms nodes next place d literal child node turn is depth places closes =
    turn.same.0 (subst (HasClosingLeaf literal) (sym (next_child terms nodes next d child node is depth places)) (inl closes))

pub child_none : (terms : List Term) (nodes : List Node) (place d : ℕ) (literal : Written) (child : ℕ) → IsChildTurn terms nodes place d literal child
    → ((child < length nodes) × (slice_index (map (λ n. n.depth) nodes) child ≡ d) → ⊥) → HasClosingLeaf literal (siblings d (drop (place + 1) (map (entry_of terms) nodes))) → ⊥
child_none terms nodes place d literal child turn lacks h =
    subst (HasClosingLeaf literal) (no_child terms nodes d child turn.shallow lacks) (turn.same.1 h)

pub some_within : (P : Node → Type 0) (nodes : List Node) (place : ℕ) → IsSomeAnd (slice_get nodes place) P → place < length nodes
some_within P [] place h = absurd h
some_within P (n ∷ nodes) zero h = omega arith
some_within P (n ∷ nodes) (suc place) h = omega (arith, some_within P nodes place h)

-- what holds of the node at a place
pub some_node : (P : Node → Type 0) (nodes : List Node) (place : ℕ) (node : Node) → slice_get nodes place ≡ Some node → P node → IsSomeAnd (slice_get nodes place) P
some_node P nodes place node is h = subst (λ o. IsSomeAnd o P) (sym is) h

pub node_of : (P : Node → Type 0) (nodes : List Node) (place : ℕ) (node : Node) → slice_get nodes place ≡ Some node → IsSomeAnd (slice_get nodes place) P → P node
node_of P nodes place node is h = subst (λ o. IsSomeAnd o P) is h

-- ---- the branch

literal_at : (terms : List Term) (branch : List (Bor Literal)) (i : ℕ) (other : Bor Literal) → slice_get branch i ≡ Some other → slice_get (literals_of terms branch) i ≡ Some (literal_of terms other.now)
literal_at terms [] i other is = cc
literal_at terms (b ∷ branch) zero other is = let same : b ≡ other = cc in ap (λ (l : Bor Literal). Some (literal_of terms l.now)) same
literal_at terms (b ∷ branch) (suc i) other is = literal_at terms branch i other is

pub closed_at : (terms : List Term) (branch : List (Bor Literal)) (ancestor : ℕ) (other : Bor Literal) (literal : Written) (answer : Bool) → 1 ≤ ancestor → slice_get branch (ancestor - 1) ≡ Some other
    → (IsTrue answer ↔ AreComplementary literal (literal_of terms other.now)) → IsTrue answer ↔ IsClosedAt (literals_of terms branch) literal ancestor
closed_at terms branch zero other literal answer positive is says = absurd (omega arith)
closed_at terms branch (suc n) other literal answer positive is says =
    let same : suc n - 1 ≡ n = omega arith in
    let stands = literal_at terms branch n other (ap (slice_get branch) (sym same) ∙ is) in (
      λ h. subst (λ o. IsSomeAnd o (AreComplementary literal)) (sym stands) (says.0 h),
      λ h. says.1 (subst (λ o. IsSomeAnd o (AreComplementary literal)) stands h),
    )

pub repeats_not : (terms : List Term) (branch : List (Bor Literal)) (literal : Written) → All (λ b. literal_of terms b.now ≢ literal) branch → ¬ Contains (literals_of terms branch) literal
repeats_not terms branch literal apart h = by h.0 (slice_get-get_or (literals_of terms branch) h.0 literal h.1 ∙ ap Some h.2)
  where
    there : (branch : List (Bor Literal)) (i : ℕ) → slice_get (literals_of terms branch) i ≡ Some literal → (b : Bor Literal) × (slice_get branch i ≡ Some b) × (literal_of terms b.now ≡ literal)
    there [] i is = absurd cc
    there (b ∷ branch) zero is = let same : literal_of terms b.now ≡ literal = cc in (b, refl, same)
    there (b ∷ branch) (suc i) is = there branch i is

    by : (i : ℕ) → slice_get (literals_of terms branch) i ≡ Some literal → ⊥
    by i is =
        let found = there branch i is in
        let same : get_or branch i found.0 ≡ found.0 = get_or_from_slice_get branch i found.0 found.0 found.1 in
        apart i found.0 (slice_get_within branch i found.0 found.1) (ap (λ (b : Bor Literal). literal_of terms b.now) same ∙ found.2)

-- ---- children by themselves

pub written-tops : (d : ℕ) (nodes : Nodes) → written (tops_among d nodes) ≡ literals_on nodes
written-tops d no_nodes = refl
written-tops d (more_nodes (leaf literal) nodes) = ap (λ ls. literal ∷ ls) (written-tops d nodes)
written-tops d (more_nodes (inner literal clause children) nodes) = ap (λ ls. literal ∷ ls) (written-tops d nodes)

closing_tops : (literal : Written) (d : ℕ) (nodes : Nodes) → HasComplementaryLeaf literal nodes → HasClosingLeaf literal (tops_among d nodes)
closing_tops literal d no_nodes h = h
closing_tops literal d (more_nodes (leaf other) nodes) (inl here) = inl (refl, here)
closing_tops literal d (more_nodes (leaf other) nodes) (inr later) = inr (closing_tops literal d nodes later)
closing_tops literal d (more_nodes (inner other clause children) nodes) h = inr (closing_tops literal d nodes h)

tops_closing : (literal : Written) (d : ℕ) (nodes : Nodes) → HasClosingLeaf literal (tops_among d nodes) → HasComplementaryLeaf literal nodes
tops_closing literal d no_nodes h = h
tops_closing literal d (more_nodes (leaf other) nodes) (inl here) = inl here.1
tops_closing literal d (more_nodes (leaf other) nodes) (inr later) = inr (tops_closing literal d nodes later)
tops_closing literal d (more_nodes (inner other clause children) nodes) (inl here) = let apart : Inner clause ≡ Leaf = here.0 in absurd cc
tops_closing literal d (more_nodes (inner other clause children) nodes) (inr later) = tops_closing literal d nodes later

-- ---- what is wrong with a node

-- the node is seen at a place
pub record Sees (terms : List Term) (nodes : List Node) (branch : List (Bor Literal)) (place : ℕ) (above : List Written) (tree : Tree) (node : Node) : Type 0 where
  pub branch_is : above ≡ literals_of terms branch
  pub entry : entry_of terms node ≡ top_of (length above + 1) tree
  pub children : tops_among (length above + 2) (children_of tree) ≡ siblings (length above + 2) (drop (place + 1) (map (entry_of terms) nodes))

pub sees : (terms : List Term) (nodes : List Node) (branch : List (Bor Literal)) (place : ℕ) (placed : PlacedNode) (node : Node) → IsSeenAt terms nodes branch place placed → slice_get nodes place ≡ Some node
    → Sees terms nodes branch place placed.above placed.node node
sees terms nodes branch place placed node seen is =
    let both : Some (entry_of terms node) ≡ Some (top_of (length placed.above + 1) placed.node) = sym (entry_stands terms nodes place node is) ∙ seen.entry in
    let entry : entry_of terms node ≡ top_of (length placed.above + 1) placed.node = same_some both in
    record { branch_is = seen.above; entry = entry; children = seen.children }
  where
    same_some : {A : Type 0} {x y : A} → Some x ≡ Some y → x ≡ y
    same_some same = cc

first_instance : (clauses : List Clause) (class : Class) (placed : PlacedNode) (ancestor : ℕ) (other : RefusalKind) → OffendsAt clauses class placed ancestor other → 2 ≤ rank other
first_instance clauses class placed ancestor NotStart h = absurd h
first_instance clauses class placed ancestor NotInstance h = omega arith
first_instance clauses class placed ancestor NotComplementary h = omega arith
first_instance clauses class placed ancestor NotConnected h = omega arith
first_instance clauses class placed ancestor NotRegular h = omega arith
first_instance clauses class placed ancestor DepthDiffers h = absurd h
first_instance clauses class placed ancestor SizeDiffers h = absurd h

-- where the children are an instance, if there are any
after_family : (clauses : List Clause) (class : Class) (placed : PlacedNode) (ancestor : ℕ) → ¬ IsNoInstance clauses placed.node → (other : RefusalKind) → OffendsAt clauses class placed ancestor other → 3 ≤ rank other
after_family clauses class placed ancestor fine NotStart h = absurd h
after_family clauses class placed ancestor fine NotInstance h = absurd (fine h)
after_family clauses class placed ancestor fine NotComplementary h = omega arith
after_family clauses class placed ancestor fine NotConnected h = omega arith
after_family clauses class placed ancestor fine NotRegular h = omega arith
after_family clauses class placed ancestor fine DepthDiffers h = absurd h
after_family clauses class placed ancestor fine SizeDiffers h = absurd h

-- and the leaf is closed, if it is one
after_closed : (clauses : List Clause) (class : Class) (placed : PlacedNode) (ancestor : ℕ) → ¬ IsNoInstance clauses placed.node → ¬ IsNotClosed placed.above placed.node ancestor
    → (other : RefusalKind) → OffendsAt clauses class placed ancestor other → 4 ≤ rank other
after_closed clauses class placed ancestor fine closed NotStart h = absurd h
after_closed clauses class placed ancestor fine closed NotInstance h = absurd (fine h)
after_closed clauses class placed ancestor fine closed NotComplementary h = absurd (closed h)
after_closed clauses class placed ancestor fine closed NotConnected h = omega arith
after_closed clauses class placed ancestor fine closed NotRegular h = omega arith
after_closed clauses class placed ancestor fine closed DepthDiffers h = absurd h
after_closed clauses class placed ancestor fine closed SizeDiffers h = absurd h

-- and it is connected, if it is inner
after_connected : (clauses : List Clause) (class : Class) (placed : PlacedNode) (ancestor : ℕ) → ¬ IsNoInstance clauses placed.node → ¬ IsNotClosed placed.above placed.node ancestor → ¬ IsUnconnected placed.node
    → (other : RefusalKind) → OffendsAt clauses class placed ancestor other → 5 ≤ rank other
after_connected clauses class placed ancestor fine closed connected NotStart h = absurd h
after_connected clauses class placed ancestor fine closed connected NotInstance h = absurd (fine h)
after_connected clauses class placed ancestor fine closed connected NotComplementary h = absurd (closed h)
after_connected clauses class placed ancestor fine closed connected NotConnected h = absurd (connected h)
after_connected clauses class placed ancestor fine closed connected NotRegular h = omega arith
after_connected clauses class placed ancestor fine closed connected DepthDiffers h = absurd h
after_connected clauses class placed ancestor fine closed connected SizeDiffers h = absurd h

not_instance : (clauses : List Clause) (node : Tree) → HasFamily clauses node → ¬ IsNoInstance clauses node
not_instance clauses (leaf literal) fine h = h
not_instance clauses (inner literal clause children) fine h = h fine

not_closed : (above : List Written) (node : Tree) (ancestor : ℕ) → IsClosedAsNamed above node ancestor → ¬ IsNotClosed above node ancestor
not_closed above (leaf literal) ancestor fine h = h fine
not_closed above (inner literal clause children) ancestor fine h = h

not_connected : (node : Tree) → HasConnection node → ¬ IsUnconnected node
not_connected (leaf literal) fine h = h
not_connected (inner literal clause children) fine h = h fine

-- a node at which nothing is wrong offends for no kind
pub passes_not : (clauses : List Clause) (class : Class) (placed : PlacedNode) (ancestor : ℕ) → Passes clauses class placed ancestor → (kind : RefusalKind) → ¬ OffendsAt clauses class placed ancestor kind
passes_not clauses class placed ancestor passes NotStart h = h
passes_not clauses class placed ancestor passes NotInstance h = not_instance clauses placed.node passes.sound.family h
passes_not clauses class placed ancestor passes NotComplementary h = not_closed placed.above placed.node ancestor passes.closed h
passes_not clauses class placed ancestor passes NotConnected h = not_connected placed.node passes.sound.connected h
passes_not clauses class placed ancestor passes NotRegular h = passes.sound.regular h.0 h.1
passes_not clauses class placed ancestor passes DepthDiffers h = h
passes_not clauses class placed ancestor passes SizeDiffers h = h

-- ---- the answers, at an inner node and at a leaf

family_of : (terms : List Term) (nodes : List Node) (place d : ℕ) (above : List Written) (children : Nodes) → d ≡ length above + 1
    → tops_among (length above + 2) children ≡ siblings (length above + 2) (drop (place + 1) (map (entry_of terms) nodes)) → family_at terms nodes (d + 1) (place + 1) ≡ literals_on children
family_of terms nodes place d above children depth is =
    let same : d + 1 ≡ length above + 2 = omega arith in
    ap (λ n. family_at terms nodes n (place + 1)) same ∙ ap written (sym is) ∙ written-tops (length above + 2) children

pub no_instance : (clauses : List Clause) (terms : List Term) (nodes : List Node) (branch : List (Bor Literal)) (place clause : ℕ) (node : Node) (above : List Written) (tree : Tree) (ancestor : ℕ)
    → Sees terms nodes branch place above tree node → node.kind ≡ Inner clause → ¬ HasInstance clauses clause (family_at terms nodes (node.depth + 1) (place + 1))
    → IsOwnOffence clauses (record { above = above; node = tree }) ancestor NotInstance
no_instance clauses terms nodes branch place clause node above (leaf literal) ancestor seen is none =
    let kind : Inner clause ≡ Leaf = sym is ∙ ap (λ (e : Entry). e.kind) seen.entry in absurd cc
no_instance clauses terms nodes branch place clause node above (inner literal other children) ancestor seen is none =
    let kind : Inner clause ≡ Inner other = sym is ∙ ap (λ (e : Entry). e.kind) seen.entry in
    let same : clause ≡ other = cc in
    let family = family_of terms nodes place node.depth above children (ap (λ (e : Entry). e.depth) seen.entry) seen.children in
    λ class. record {
      offends = λ h. none (subst (λ c. HasInstance clauses c (family_at terms nodes (node.depth + 1) (place + 1))) (sym same) (subst (HasInstance clauses other) (sym family) h));
      first = first_instance clauses class (record { above = above; node = inner literal other children }) ancestor;
    }

pub own_inner : (clauses : List Clause) (terms : List Term) (nodes : List Node) (branch : List (Bor Literal)) (place clause : ℕ) (node : Node) (above : List Written) (tree : Tree) (ancestor : ℕ)
    → Sees terms nodes branch place above tree node → node.kind ≡ Inner clause → HasInstance clauses clause (family_at terms nodes (node.depth + 1) (place + 1))
    → HasClosingLeaf (literal_of terms node.literal) (siblings (node.depth + 1) (drop (place + 1) (map (entry_of terms) nodes)))
    → PassesByItself clauses (record { above = above; node = tree }) ancestor
own_inner clauses terms nodes branch place clause node above (leaf literal) ancestor seen is family closes =
    let kind : Inner clause ≡ Leaf = sym is ∙ ap (λ (e : Entry). e.kind) seen.entry in absurd cc
own_inner clauses terms nodes branch place clause node above (inner literal other children) ancestor seen is family closes =
    let kind : Inner clause ≡ Inner other = sym is ∙ ap (λ (e : Entry). e.kind) seen.entry in
    let same : clause ≡ other = cc in
    let depth : node.depth ≡ length above + 1 = ap (λ (e : Entry). e.depth) seen.entry in
    let deeper : node.depth + 1 ≡ length above + 2 = omega arith in
    let its_literal : literal_of terms node.literal ≡ literal = ap (λ (e : Entry). e.literal) seen.entry in
    record {
      family = subst (HasInstance clauses other) (family_of terms nodes place node.depth above children depth seen.children) (subst (λ c. HasInstance clauses c (family_at terms nodes (node.depth + 1) (place + 1))) same family);
      connected = tops_closing literal (length above + 2) children
          (subst (HasClosingLeaf literal) (ap (λ n. siblings n (drop (place + 1) (map (entry_of terms) nodes))) deeper ∙ sym seen.children)
          (subst (λ l. HasClosingLeaf l (siblings (node.depth + 1) (drop (place + 1) (map (entry_of terms) nodes)))) its_literal closes));
      closed = tt;
    }

pub no_connection : (clauses : List Clause) (terms : List Term) (nodes : List Node) (branch : List (Bor Literal)) (place clause : ℕ) (node : Node) (above : List Written) (tree : Tree) (ancestor : ℕ)
    → Sees terms nodes branch place above tree node → node.kind ≡ Inner clause → HasInstance clauses clause (family_at terms nodes (node.depth + 1) (place + 1))
    → ¬ HasClosingLeaf (literal_of terms node.literal) (siblings (node.depth + 1) (drop (place + 1) (map (entry_of terms) nodes)))
    → IsOwnOffence clauses (record { above = above; node = tree }) ancestor NotConnected
no_connection clauses terms nodes branch place clause node above (leaf literal) ancestor seen is family none =
    let kind : Inner clause ≡ Leaf = sym is ∙ ap (λ (e : Entry). e.kind) seen.entry in absurd cc
no_connection clauses terms nodes branch place clause node above (inner literal other children) ancestor seen is family none =
    let kind : Inner clause ≡ Inner other = sym is ∙ ap (λ (e : Entry). e.kind) seen.entry in
    let same : clause ≡ other = cc in
    let depth : node.depth ≡ length above + 1 = ap (λ (e : Entry). e.depth) seen.entry in
    let deeper : node.depth + 1 ≡ length above + 2 = omega arith in
    let its_literal : literal_of terms node.literal ≡ literal = ap (λ (e : Entry). e.literal) seen.entry in
    let its_family = subst (HasInstance clauses other) (family_of terms nodes place node.depth above children depth seen.children) (subst (λ c. HasInstance clauses c (family_at terms nodes (node.depth + 1) (place + 1))) same family) in
    λ class. record {
      offends = λ h. none
          (subst (λ l. HasClosingLeaf l (siblings (node.depth + 1) (drop (place + 1) (map (entry_of terms) nodes)))) (sym its_literal)
          (subst (HasClosingLeaf literal) (seen.children ∙ ap (λ n. siblings n (drop (place + 1) (map (entry_of terms) nodes))) (sym deeper))
          (closing_tops literal (length above + 2) children h)));
      first = after_closed clauses class (record { above = above; node = inner literal other children }) ancestor (λ h. h its_family) (λ h. h);
    }

pub own_leaf : (clauses : List Clause) (terms : List Term) (nodes : List Node) (branch : List (Bor Literal)) (place : ℕ) (node : Node) (above : List Written) (tree : Tree) (ancestor : ℕ)
    → Sees terms nodes branch place above tree node → node.kind ≡ Leaf → IsClosedAt (literals_of terms branch) (literal_of terms node.literal) ancestor
    → PassesByItself clauses (record { above = above; node = tree }) ancestor
own_leaf clauses terms nodes branch place node above (inner literal other children) ancestor seen is closed =
    let kind : Leaf ≡ Inner other = sym is ∙ ap (λ (e : Entry). e.kind) seen.entry in absurd cc
own_leaf clauses terms nodes branch place node above (leaf literal) ancestor seen is closed = record {
  family = tt;
  connected = tt;
  closed = subst (λ ls. IsClosedAt ls literal ancestor) (sym seen.branch_is) (subst (λ l. IsClosedAt (literals_of terms branch) l ancestor) (ap (λ (e : Entry). e.literal) seen.entry) closed);
}

pub no_closing : (clauses : List Clause) (terms : List Term) (nodes : List Node) (branch : List (Bor Literal)) (place : ℕ) (node : Node) (above : List Written) (tree : Tree) (ancestor : ℕ)
    → Sees terms nodes branch place above tree node → node.kind ≡ Leaf → ¬ IsClosedAt (literals_of terms branch) (literal_of terms node.literal) ancestor
    → IsOwnOffence clauses (record { above = above; node = tree }) ancestor NotComplementary
no_closing clauses terms nodes branch place node above (inner literal other children) ancestor seen is none =
    let kind : Leaf ≡ Inner other = sym is ∙ ap (λ (e : Entry). e.kind) seen.entry in absurd cc
no_closing clauses terms nodes branch place node above (leaf literal) ancestor seen is none =
    λ class. record {
      offends = λ h. none (subst (λ l. IsClosedAt (literals_of terms branch) l ancestor) (sym (ap (λ (e : Entry). e.literal) seen.entry)) (subst (λ ls. IsClosedAt ls literal ancestor) seen.branch_is h));
      first = after_family clauses class (record { above = above; node = leaf literal }) ancestor (λ h. h);
    }

literal_seen : (terms : List Term) (node : Node) (d : ℕ) (tree : Tree) → entry_of terms node ≡ top_of d tree → literal_of terms node.literal ≡ literal_on tree
literal_seen terms node d (leaf literal) seen = ap (λ (e : Entry). e.literal) seen
literal_seen terms node d (inner literal clause children) seen = ap (λ (e : Entry). e.literal) seen

pub passes_all : (clauses : List Clause) (class : Class) (terms : List Term) (nodes : List Node) (branch : List (Bor Literal)) (place : ℕ) (node : Node) (placed : PlacedNode) (ancestor : ℕ)
    → Sees terms nodes branch place placed.above placed.node node → PassesByItself clauses placed ancestor → (class ≡ Regular → ¬ Contains (literals_of terms branch) (literal_of terms node.literal))
    → Passes clauses class placed ancestor
passes_all clauses class terms nodes branch place node placed ancestor seen own regular = record {
  sound = record {
    family = own.family;
    connected = own.connected;
    regular = λ is h. regular is
        (subst (Contains (literals_of terms branch)) (sym (literal_seen terms node (length placed.above + 1) placed.node seen.entry))
        (subst (λ ls. Contains ls (literal_on placed.node)) seen.branch_is h));
  };
  closed = own.closed;
}

pub no_regularity : (clauses : List Clause) (class : Class) (terms : List Term) (nodes : List Node) (branch : List (Bor Literal)) (place : ℕ) (node : Node) (placed : PlacedNode) (ancestor : ℕ)
    → Sees terms nodes branch place placed.above placed.node node → PassesByItself clauses placed ancestor → class ≡ Regular → Contains (literals_of terms branch) (literal_of terms node.literal)
    → IsFirstAt clauses class placed ancestor NotRegular
no_regularity clauses class terms nodes branch place node placed ancestor seen own is repeated = record {
  offends = (
    is,
    subst (λ ls. Contains ls (literal_on placed.node)) (sym seen.branch_is)
        (subst (Contains (literals_of terms branch)) (literal_seen terms node (length placed.above + 1) placed.node seen.entry) repeated),
  );
  first = after_connected clauses class placed ancestor (not_instance clauses placed.node own.family) (not_closed placed.above placed.node ancestor own.closed) (not_connected placed.node own.connected);
}
