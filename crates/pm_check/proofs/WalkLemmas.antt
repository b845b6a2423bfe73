-- The nodes in pre-order as the placed nodes of the tree.
use Rattle.std.proofs.Common.{◌≡◌, ◌∙◌, ◌<◌, ◌≤◌, ℕ, zero, suc, ◌+◌, ◌-◌, List, [], ◌∷◌, ◌++◌, length, map, take, sym, ap, ap₂, refl, subst, arith, append_assoc}
use Rattle.std.proofs.lemmas.List.{append-nil, length_push, length-map}
use Rattle.pm_logic.specs.declared.tableau.NodeKind.TheVariants.{Leaf, Inner}
use Rattle.pm_logic.specs.Problem.{Literal}
use Rattle.pm_logic.specs.Tableau.{Node, leaf, inner, Nodes, no_nodes, more_nodes, Tableau, Entry, preorder_of, preorder_among, preorder}
use Rattle.pm_check.specs.PlacedNodes.{PlacedNode, placed_below, placed_among, placed_nodes}
use Rattle.pm_check.specs.Inside.Siblings.{siblings, depths, AreSteps}
use Rattle.pm_check.specs.Inside.Sights.{tops_among, sight_of, sights}
use Rattle.pm_check.proofs.SiblingLemmas.{siblings-above, siblings-below, siblings-at}

-- ---- siblings of a tree

-- the nodes below a deeper forest are passed over
mutual
  skip_below : (d deeper : ℕ) (node : Node) (rest : List Entry) → d < deeper → siblings d (preorder_of deeper node ++ rest) ≡ siblings d rest
  skip_below d deeper (leaf literal) rest lt = siblings-below d (record { depth = deeper; literal = literal; kind = Leaf }) rest lt
  skip_below d deeper (inner literal clause children) rest lt =
      siblings-below d (record { depth = deeper; literal = literal; kind = Inner clause }) (preorder_among (deeper + 1) children ++ rest) lt
      ∙ skip_among d (deeper + 1) children rest (omega arith)

  skip_among : (d deeper : ℕ) (nodes : Nodes) (rest : List Entry) → d < deeper → siblings d (preorder_among deeper nodes ++ rest) ≡ siblings d rest
  skip_among d deeper no_nodes rest lt = refl
  skip_among d deeper (more_nodes node nodes) rest lt =
      ap (siblings d) (append_assoc (preorder_of deeper node) (preorder_among deeper nodes) rest)
      ∙ skip_below d deeper node (preorder_among deeper nodes ++ rest) lt
      ∙ skip_among d deeper nodes rest lt

-- the first of the nodes lies so deep at most
abbrev IsShallow : ℕ → List Entry → Type 0
IsShallow d [] = Unit {0}
IsShallow d (e ∷ es) = e.depth ≤ d

siblings-shallow : (d : ℕ) (rest : List Entry) → IsShallow d rest → siblings (d + 1) rest ≡ []
siblings-shallow d [] shallow = refl
siblings-shallow d (e ∷ es) shallow = siblings-above (d + 1) e es (omega arith)

-- the siblings of a forest are its trees by themselves
pub siblings-tops : (d : ℕ) (nodes : Nodes) (rest : List Entry) → siblings d rest ≡ [] → siblings d (preorder_among d nodes ++ rest) ≡ tops_among d nodes
siblings-tops d no_nodes rest none = none
siblings-tops d (more_nodes (leaf literal) nodes) rest none =
    let e : Entry = record { depth = d; literal = literal; kind = Leaf } in
    siblings-at d e (preorder_among d nodes ++ rest) refl ∙ ap (λ es. e ∷ es) (siblings-tops d nodes rest none)
siblings-tops d (more_nodes (inner literal clause children) nodes) rest none =
    let e : Entry = record { depth = d; literal = literal; kind = Inner clause } in
    siblings-at d e ((preorder_among (d + 1) children ++ preorder_among d nodes) ++ rest) refl
    ∙ ap (λ es. e ∷ es)
    (ap (siblings d) (append_assoc (preorder_among (d + 1) children) (preorder_among d nodes) rest)
    ∙ skip_among d (d + 1) children (preorder_among d nodes ++ rest) (omega arith)
    ∙ siblings-tops d nodes rest none)

-- ---- sights

take_front : {A : Type 0} (xs ys : List A) → take (length xs) (xs ++ ys) ≡ xs
take_front [] ys = refl
take_front (x ∷ xs) ys = ap (λ zs. x ∷ zs) (take_front xs ys)

take_itself : {A : Type 0} (xs : List A) → take (length xs) xs ≡ xs
take_itself [] = refl
take_itself (x ∷ xs) = ap (λ zs. x ∷ zs) (take_itself xs)

take_shorter : {A : Type 0} (n m : ℕ) (xs : List A) → n ≤ m → take n (take m xs) ≡ take n xs
take_shorter zero m xs le = refl
take_shorter (suc n) zero xs le = absurd (omega arith)
take_shorter (suc n) (suc m) [] le = refl
take_shorter (suc n) (suc m) (x ∷ xs) le = ap (λ zs. x ∷ zs) (take_shorter n m xs (omega arith))

shallow_among : (d : ℕ) (nodes : Nodes) (rest : List Entry) → IsShallow d rest → IsShallow d (preorder_among d nodes ++ rest)
shallow_among d no_nodes rest shallow = shallow
shallow_among d (more_nodes (leaf literal) nodes) rest shallow = omega arith
shallow_among d (more_nodes (inner literal clause children) nodes) rest shallow = omega arith

-- the sights of a tree and of what comes after it, below a branch that begins with the literals above
record Shows (above branch : List Literal) (entries : List Entry) (placed : List PlacedNode) (rest : List Entry) : Type 0 where
  after : List Literal
  begins : take (length above) after ≡ above
  same : sights branch entries ≡ map sight_of placed ++ sights after rest

map-append : {A B : Type 0} (f : A → B) (xs ys : List A) → map f (xs ++ ys) ≡ map f xs ++ map f ys
map-append f [] ys = refl
map-append f (x ∷ xs) ys = ap (λ zs. f x ∷ zs) (map-append f xs ys)

-- the sight of the first node
first_sight : (above branch : List Literal) (d : ℕ) (e : Entry) (rest : List Entry) → take (length above) branch ≡ above → d ≡ length above + 1 → e.depth ≡ d
    → sights branch (e ∷ rest) ≡ (record { above = above; entry = e; children = siblings (length above + 2) rest }) ∷ sights (above ++ e.literal ∷ []) rest
first_sight above branch d e rest begins depth is =
    let shorter : e.depth - 1 ≡ length above = omega arith in
    let cut : take (e.depth - 1) branch ≡ above = ap (λ n. take n branch) shorter ∙ begins in
    let deeper : e.depth + 1 ≡ length above + 2 = omega arith in
    ap₂ (λ (ls : List Literal) n. (record { above = ls; entry = e; children = siblings n rest }) ∷ sights (ls ++ e.literal ∷ []) rest) cut deeper

deeper_shallow : (d : ℕ) (rest : List Entry) → IsShallow d rest → IsShallow (d + 1) rest
deeper_shallow d [] shallow = tt
deeper_shallow d (e ∷ es) shallow = omega arith

begins_shorter : (above : List Literal) (literal : Literal) (after : List Literal) → take (length (above ++ literal ∷ [])) after ≡ above ++ literal ∷ [] → take (length above) after ≡ above
begins_shorter above literal after is =
    sym (take_shorter (length above) (length (above ++ literal ∷ [])) after (omega (arith, length_push above literal))) ∙ ap (take (length above)) is ∙ take_front above (literal ∷ [])

mutual
  shows_below : (above branch : List Literal) (d : ℕ) (node : Node) (rest : List Entry) → take (length above) branch ≡ above → d ≡ length above + 1 → IsShallow d rest
      → Shows above branch (preorder_of d node ++ rest) (placed_below above node) rest
  shows_below above branch d (leaf literal) rest begins depth shallow =
      let e : Entry = record { depth = d; literal = literal; kind = Leaf } in
      let deeper : length above + 2 ≡ d + 1 = omega arith in
      let none : siblings (length above + 2) rest ≡ [] = ap (λ n. siblings n rest) deeper ∙ siblings-shallow d rest shallow in
      record {
        after = above ++ literal ∷ [];
        begins = take_front above (literal ∷ []);
        same = first_sight above branch d e rest begins depth refl
            ∙ ap₂ (λ n es. (record { above = above; entry = record { depth = n; literal = literal; kind = Leaf }; children = es }) ∷ sights (above ++ literal ∷ []) rest) depth none;
      }
  shows_below above branch d (inner literal clause children) rest begins depth shallow =
      let e : Entry = record { depth = d; literal = literal; kind = Inner clause } in
      let deeper : d + 1 ≡ length above + 2 = omega arith in
      let later = preorder_among (d + 1) children ++ rest in
      let none : siblings (d + 1) rest ≡ [] = siblings-shallow d rest shallow in
      let tops : siblings (length above + 2) later ≡ tops_among (length above + 2) children =
      subst (λ n. siblings n later ≡ tops_among n children) deeper (siblings-tops (d + 1) children rest none) in
      let below : Shows (above ++ literal ∷ []) (above ++ literal ∷ []) later (placed_among (above ++ literal ∷ []) children) rest =
      shows_among (above ++ literal ∷ []) (above ++ literal ∷ []) (d + 1) children rest (take_itself (above ++ literal ∷ [])) (omega (arith, length_push above literal)) (deeper_shallow d rest shallow) in
      record {
        after = below.after;
        begins = begins_shorter above literal below.after below.begins;
        same = first_sight above branch d e later begins depth refl
            ∙ ap₂ (λ n es. (record { above = above; entry = record { depth = n; literal = literal; kind = Inner clause }; children = es }) ∷ sights (above ++ literal ∷ []) later) depth tops
            ∙ ap (λ ss. sight_of (record { above = above; node = inner literal clause children }) ∷ ss) below.same;
      }

  shows_among : (above branch : List Literal) (d : ℕ) (nodes : Nodes) (rest : List Entry) → take (length above) branch ≡ above → d ≡ length above + 1 → IsShallow d rest
      → Shows above branch (preorder_among d nodes ++ rest) (placed_among above nodes) rest
  shows_among above branch d no_nodes rest begins depth shallow = record { after = branch; begins = begins; same = refl }
  shows_among above branch d (more_nodes node nodes) rest begins depth shallow =
      let first : Shows above branch (preorder_of d node ++ (preorder_among d nodes ++ rest)) (placed_below above node) (preorder_among d nodes ++ rest) =
      shows_below above branch d node (preorder_among d nodes ++ rest) begins depth (shallow_among d nodes rest shallow) in
      let others : Shows above first.after (preorder_among d nodes ++ rest) (placed_among above nodes) rest = shows_among above first.after d nodes rest first.begins depth shallow in
      record {
        after = others.after;
        begins = others.begins;
        same = ap (sights branch) (append_assoc (preorder_of d node) (preorder_among d nodes) rest)
            ∙ first.same
            ∙ ap (λ ss. map sight_of (placed_below above node) ++ ss) others.same
            ∙ sym (append_assoc (map sight_of (placed_below above node)) (map sight_of (placed_among above nodes)) (sights others.after rest))
            ∙ ap (λ ss. ss ++ sights others.after rest) (sym (map-append sight_of (placed_below above node) (placed_among above nodes)));
      }

-- the sights of a tableau are those of its nodes in pre-order
pub sights_placed : (tableau : Tableau) → map sight_of (placed_nodes tableau) ≡ sights [] (preorder tableau)
sights_placed tableau =
    let shows : Shows [] [] (preorder_among 1 tableau.children ++ []) (placed_nodes tableau) [] = shows_among [] [] 1 tableau.children [] refl refl tt in
    sym (append-nil (map sight_of (placed_nodes tableau))) ∙ sym shows.same ∙ ap (sights []) (append-nil (preorder tableau))

-- the root's children by themselves
pub siblings_root : (tableau : Tableau) → siblings 1 (preorder tableau) ≡ tops_among 1 tableau.children
siblings_root tableau = ap (siblings 1) (sym (append-nil (preorder tableau))) ∙ siblings-tops 1 tableau.children [] refl

-- ---- steps

-- from any depth that is deep enough the nodes go in steps
abbrev GoesInSteps : ℕ → List Entry → Type 0
GoesInSteps d rest = (deepest : ℕ) → d ≤ deepest → AreSteps deepest (depths rest)

mutual
  steps_below : (d deepest : ℕ) (node : Node) (rest : List Entry) → d ≤ deepest → GoesInSteps d rest → AreSteps deepest (depths (preorder_of d node ++ rest))
  steps_below d deepest (leaf literal) rest le later = (le, later (d + 1) (omega arith))
  steps_below d deepest (inner literal clause children) rest le later =
      (le, steps_among (d + 1) (d + 1) children rest (omega arith) (λ m m_le. later m (omega arith)))

  steps_among : (d deepest : ℕ) (nodes : Nodes) (rest : List Entry) → d ≤ deepest → GoesInSteps d rest → AreSteps deepest (depths (preorder_among d nodes ++ rest))
  steps_among d deepest no_nodes rest le later = later deepest le
  steps_among d deepest (more_nodes node nodes) rest le later =
      subst (λ (es : List Entry). AreSteps deepest (depths es)) (sym (append_assoc (preorder_of d node) (preorder_among d nodes) rest))
      (steps_below d deepest node (preorder_among d nodes ++ rest) le (λ m m_le. steps_among d m nodes rest m_le later))

pub steps_preorder : (tableau : Tableau) → AreSteps 1 (depths (preorder tableau))
steps_preorder tableau =
    subst (λ (es : List Entry). AreSteps 1 (depths es)) (append-nil (preorder tableau)) (steps_among 1 1 tableau.children [] (omega arith) (λ m m_le. tt))

-- ---- the sight at a place

pub length-sights : (branch : List Literal) (entries : List Entry) → length (sights branch entries) ≡ length entries
length-sights branch [] = refl
length-sights branch (e ∷ es) = ap suc (length-sights (take (e.depth - 1) branch ++ e.literal ∷ []) es)

pub length-placed : (tableau : Tableau) → length (placed_nodes tableau) ≡ length (preorder tableau)
length-placed tableau =
    sym (length-map (placed_nodes tableau) sight_of) ∙ ap length (sights_placed tableau) ∙ length-sights [] (preorder tableau)
