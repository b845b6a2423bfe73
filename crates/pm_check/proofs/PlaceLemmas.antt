-- The walk over the nodes in pre-order.
use Rattle.std.proofs.Common.{◌≡◌, ◌∙◌, ◌↔◌, ◌<◌, ◌≤◌, ◌⊎◌, inl, inr, ℕ, zero, suc, ◌+◌, ◌-◌, List, [], ◌∷◌, ◌++◌, length, map, take, drop, Bor, Some, sym, ap, ap₂, refl, subst, arith}
use Rattle.std.specs.Prelude.{slice_get, slice_index}
use Rattle.std.specs.List.{All, Contains}
use Rattle.std.specs.Option.{option_map}
use Rattle.std.proofs.lemmas.Bool.{cases_lt}
use Rattle.std.proofs.lemmas.List.{length-map}
use Rattle.std.proofs.lemmas.List.Elements.{All-push, All-take}
use Rattle.std.proofs.lemmas.Option.{slice_get_within, slice_get-map}
use Rattle.pm_logic.specs.declared.problem.Literal.{Literal}
use Rattle.pm_logic.specs.declared.tableau.Node.{Node}
use Rattle.pm_logic.specs.Term.{Term}
use Rattle.pm_logic.specs.Problem.{Problem, start_clauses}
use Rattle.pm_logic.specs.Tableau.{Node as Tree, leaf, inner, Entry, preorder}
use Rattle.pm_logic.specs.View.{literal_of, entry_of, HasRows}
use Rattle.pm_calculus.specs.Connection.{literals_on, IsFamily}
use Rattle.pm_certread.specs.Certificate.{Certificate}
use Rattle.pm_certread.specs.Laws.{HasClauseOf, IsCloserOf}
use Rattle.pm_check.specs.declared.refusal.RefusalKind.{RefusalKind}
use Rattle.pm_check.specs.declared.refusal.RefusalKind.TheVariants.{NotStart, NotInstance, NotComplementary, NotConnected, NotRegular, DepthDiffers, SizeDiffers}
use Rattle.pm_check.specs.Kinds.{rank}
use Rattle.pm_check.specs.PlacedNodes.{PlacedNode, placed_nodes}
use Rattle.pm_check.specs.Offences.{RootOffends}
use Rattle.pm_check.specs.Inside.Passing.{Passes, IsFirstAt, IsFit, AllPass, IsFirstNode, IsFirstAtRoot}
use Rattle.pm_check.specs.Inside.Ready.{IsCheckable}
use Rattle.pm_check.specs.Inside.Siblings.{siblings, depths, AreNextPlaces, AreSteps}
use Rattle.pm_check.specs.Inside.Sights.{Sight, top_of, sight_of, sights, literals_of, IsSeenAt}
use Rattle.pm_check.proofs.MatchingLemmas.{All-stands}
use Rattle.pm_check.proofs.SiblingLemmas.{stands_within, drop_stands}
use Rattle.pm_check.proofs.FamilyLemmas.{written, family_at, HasInstance, entry_stands, depths-entries, map-push}
use Rattle.pm_check.proofs.BranchLemmas.{written-tops}
use Rattle.pm_check.proofs.WalkLemmas.{sights_placed, siblings_root, steps_preorder, length-placed}
use Rattle.pm_check.proofs.TreeLemmas.{zip_at, zip_length}

-- ---- the nodes of a certificate

-- the nodes are those of the certificate's tableau
pub record AreNodesOf (certificate : Certificate) (terms : List Term) (nodes : List Node) : Type 0 where
  pub terms_are : terms ≡ certificate.tableau.terms
  pub nodes_are : map (entry_of certificate.tableau.terms) nodes ≡ preorder certificate.tableau.tableau
  pub rows : All (λ node. HasRows (length certificate.tableau.terms) node.literal) nodes

pub entries : (certificate : Certificate) (terms : List Term) (nodes : List Node) → AreNodesOf certificate terms nodes → map (entry_of terms) nodes ≡ preorder certificate.tableau.tableau
entries certificate terms nodes are = ap (λ (ts : List Term). map (entry_of ts) nodes) are.terms_are ∙ are.nodes_are

pub node_rows : (certificate : Certificate) (terms : List Term) (nodes : List Node) → AreNodesOf certificate terms nodes → All (λ node. HasRows (length terms) node.literal) nodes
node_rows certificate terms nodes are = subst (λ (ts : List Term). All (λ (node : Node). HasRows (length ts) node.literal) nodes) (sym are.terms_are) are.rows

node_depths : (certificate : Certificate) (terms : List Term) (nodes : List Node) → AreNodesOf certificate terms nodes → depths (preorder certificate.tableau.tableau) ≡ map (λ n. n.depth) nodes
node_depths certificate terms nodes are = ap depths (sym are.nodes_are) ∙ depths-entries certificate.tableau.terms nodes

pub node_places : (certificate : Certificate) (terms : List Term) (nodes : List Node) (next : List ℕ) → AreNodesOf certificate terms nodes → AreNextPlaces (depths (preorder certificate.tableau.tableau)) next
    → AreNextPlaces (map (λ n. n.depth) nodes) next
node_places certificate terms nodes next are places = subst (λ (ds : List ℕ). AreNextPlaces ds next) (node_depths certificate terms nodes are) places

pub entry_places : (certificate : Certificate) (terms : List Term) (nodes : List Node) (next : List ℕ) → AreNodesOf certificate terms nodes → AreNextPlaces (map (λ n. n.depth) nodes) next
    → AreNextPlaces (depths (preorder certificate.tableau.tableau)) next
entry_places certificate terms nodes next are places = subst (λ (ds : List ℕ). AreNextPlaces ds next) (sym (node_depths certificate terms nodes are)) places

pub node_steps : (certificate : Certificate) (terms : List Term) (nodes : List Node) → AreNodesOf certificate terms nodes → AreSteps 1 (map (λ n. n.depth) nodes)
node_steps certificate terms nodes are = subst (AreSteps 1) (node_depths certificate terms nodes are) (steps_preorder certificate.tableau.tableau)

-- ---- the root

steps_first : (ds : List ℕ) (deepest : ℕ) → AreSteps deepest ds → 0 < length ds → slice_index ds 0 ≤ deepest
steps_first [] deepest steps lt = absurd (omega arith)
steps_first (d ∷ ds) deepest steps lt = steps.0

pub first_shallow : (certificate : Certificate) (terms : List Term) (nodes : List Node) → AreNodesOf certificate terms nodes → 0 < length nodes → slice_index (map (λ n. n.depth) nodes) 0 ≤ 1
first_shallow certificate terms nodes are lt =
    steps_first (map (λ (n : Node). n.depth) nodes) 1 (node_steps certificate terms nodes are) (omega (arith, length-map nodes (λ (n : Node). n.depth)))

-- the root's children
pub root_family : (certificate : Certificate) (terms : List Term) (nodes : List Node) → AreNodesOf certificate terms nodes → family_at terms nodes 1 0 ≡ literals_on certificate.tableau.tableau.children
root_family certificate terms nodes are =
    ap (λ es. written (siblings 1 es)) (entries certificate terms nodes are)
    ∙ ap written (siblings_root certificate.tableau.tableau)
    ∙ written-tops 1 certificate.tableau.tableau.children

pub root_instance : (over : Problem) (certificate : Certificate) (terms : List Term) (nodes : List Node) (root : ℕ) → AreNodesOf certificate terms nodes → root ≡ certificate.tableau.tableau.root
    → HasInstance over.clauses root (family_at terms nodes 1 0) ↔ IsFamily over.clauses certificate.tableau.tableau.root certificate.tableau.tableau.children
root_instance over certificate terms nodes root are is =
    let family = root_family certificate terms nodes are in (
      λ h. subst (HasInstance over.clauses certificate.tableau.tableau.root) family (subst (λ r. HasInstance over.clauses r (family_at terms nodes 1 0)) is h),
      λ h. subst (λ r. HasInstance over.clauses r (family_at terms nodes 1 0)) (sym is) (subst (HasInstance over.clauses certificate.tableau.tableau.root) (sym family) h),
    )

pub root_no_instance : (over : Problem) (certificate : Certificate) → Contains (start_clauses certificate.start over.clauses) certificate.tableau.tableau.root
    → ¬ IsFamily over.clauses certificate.tableau.tableau.root certificate.tableau.tableau.children → IsFirstAtRoot over certificate (record { line = certificate.root_line; kind = NotInstance })
root_no_instance over certificate start none = record { line_is = refl; offends = none; first = first }
  where
    first : (other : RefusalKind) → RootOffends over.clauses certificate.start certificate.tableau.tableau other → 2 ≤ rank other
    first NotStart h = absurd (h start)
    first NotInstance h = omega arith
    first NotComplementary h = absurd h
    first NotConnected h = absurd h
    first NotRegular h = absurd h
    first DepthDiffers h = absurd h
    first SizeDiffers h = absurd h

-- ---- the walk

-- nothing is wrong at the nodes before this place, and the branch is that of the node before it
pub record IsWalked (over : Problem) (certificate : Certificate) (terms : List Term) (nodes : List Node) (branch : List (Bor Literal)) (place : ℕ) : Type 0 where
  pub rows : All (λ literal. HasRows (length terms) literal.now) branch
  pub same : sights (literals_of terms branch) (drop place (map (entry_of terms) nodes)) ≡ drop place (sights [] (map (entry_of terms) nodes))
  pub pass : AllPass over certificate place

-- the node at a place, and what is known of it
pub record IsAt (over : Problem) (certificate : Certificate) (terms : List Term) (nodes : List Node) (branch : List (Bor Literal)) (place : ℕ) (node : Node) (ancestor : ℕ) : Type 0 where
  pub stands : slice_get nodes place ≡ Some node
  pub named : slice_get certificate.closers place ≡ Some ancestor
  pub fit : IsFit (length over.clauses) (length (take (node.depth - 1) branch)) ancestor node
  pub seen :
      (placed : PlacedNode) → slice_get (placed_nodes certificate.tableau.tableau) place ≡ Some placed
      → IsSeenAt terms nodes (take (node.depth - 1) branch) place placed

map-take : {A B : Type 0} (f : A → B) (n : ℕ) (xs : List A) → map f (take n xs) ≡ take n (map f xs)
map-take f zero xs = refl
map-take f (suc n) [] = refl
map-take f (suc n) (x ∷ xs) = ap (λ ys. f x ∷ ys) (map-take f n xs)

drop_head : {A : Type 0} (xs : List A) (i : ℕ) (x : A) (rest : List A) → drop i xs ≡ x ∷ rest → (slice_get xs i ≡ Some x) × (drop (i + 1) xs ≡ rest)
drop_head [] zero x rest is = cc
drop_head [] (suc i) x rest is = cc
drop_head (y ∷ xs) zero x rest is = let first : y ≡ x = cc in let later : xs ≡ rest = cc in (ap Some first, later)
drop_head (y ∷ xs) (suc i) x rest is =
    let next : suc i + 1 ≡ suc (i + 1) = omega arith in
    let step = drop_head xs i x rest is in (step.0, ap (λ n. drop n (y ∷ xs)) next ∙ step.1)

top_depth : (d : ℕ) (tree : Tree) → (top_of d tree).depth ≡ d
top_depth d (leaf literal) = refl
top_depth d (inner literal clause children) = refl

-- the sight at the place
walked_step : (over : Problem) (certificate : Certificate) (terms : List Term) (nodes : List Node) (branch : List (Bor Literal)) (place : ℕ) (node : Node) → IsWalked over certificate terms nodes branch place → slice_get nodes place ≡ Some node
    → drop place (sights [] (map (entry_of terms) nodes))
    ≡ (record {
      above = take (node.depth - 1) (literals_of terms branch);
      entry = entry_of terms node;
      children = siblings (node.depth + 1) (drop (place + 1) (map (entry_of terms) nodes));
    }) ∷ sights (take (node.depth - 1) (literals_of terms branch) ++ literal_of terms node.literal ∷ []) (drop (place + 1) (map (entry_of terms) nodes))
walked_step over certificate terms nodes branch place node walked is =
    sym walked.same ∙ ap (sights (literals_of terms branch)) (drop_stands (map (entry_of terms) nodes) place (entry_of terms node) (entry_stands terms nodes place node is))

seen_at : (over : Problem) (certificate : Certificate) (terms : List Term) (nodes : List Node) (branch : List (Bor Literal)) (place : ℕ) (node : Node) → AreNodesOf certificate terms nodes → IsWalked over certificate terms nodes branch place
    → slice_get nodes place ≡ Some node → (placed : PlacedNode) → slice_get (placed_nodes certificate.tableau.tableau) place ≡ Some placed
    → IsSeenAt terms nodes (take (node.depth - 1) branch) place placed × (node.depth ≡ length placed.above + 1)
seen_at over certificate terms nodes branch place node are walked is placed stands =
    let es = map (entry_of terms) nodes in
    let s : Sight = record {
      above = take (node.depth - 1) (literals_of terms branch);
      entry = entry_of terms node;
      children = siblings (node.depth + 1) (drop (place + 1) es);
    } in
    let there : slice_get (sights [] es) place ≡ Some s = (drop_head (sights [] es) place s _ (walked_step over certificate terms nodes branch place node walked is)).0 in
    let shown : slice_get (sights [] es) place ≡ Some (sight_of placed) =
    ap (λ xs. slice_get (sights [] xs) place) (entries certificate terms nodes are)
    ∙ ap (λ ss. slice_get ss place) (sym (sights_placed certificate.tableau.tableau))
    ∙ slice_get-map sight_of (placed_nodes certificate.tableau.tableau) place
    ∙ ap (option_map sight_of) stands in
    let same : sight_of placed ≡ s = same_some (sym shown ∙ there) in
    let depth : length placed.above + 1 ≡ node.depth = sym (top_depth (length placed.above + 1) placed.node) ∙ ap (λ (x : Sight). x.entry.depth) same in
    let deeper : node.depth + 1 ≡ length placed.above + 2 = omega arith in (
      record {
        above = ap (λ (x : Sight). x.above) same ∙ sym (map-take (λ (literal : Bor Literal). literal_of terms literal.now) (node.depth - 1) branch);
        entry = entry_stands terms nodes place node is ∙ ap (λ (x : Sight). Some x.entry) (sym same);
        children = ap (λ (x : Sight). x.children) same ∙ ap (λ n. siblings n (drop (place + 1) es)) deeper;
      },
      sym depth,
    )
  where
    same_some : {A : Type 0} {x y : A} → Some x ≡ Some y → x ≡ y
    same_some h = cc

pub walked_at : (over : Problem) (certificate : Certificate) (terms : List Term) (nodes : List Node) (branch : List (Bor Literal)) (place : ℕ) (node : Node) (ancestor : ℕ) → IsCheckable over certificate → AreNodesOf certificate terms nodes
    → IsWalked over certificate terms nodes branch place → slice_get nodes place ≡ Some node → slice_get certificate.closers place ≡ Some ancestor → IsAt over certificate terms nodes branch place node ancestor
walked_at over certificate terms nodes branch place node ancestor ready are walked is named =
    let tableau = certificate.tableau.tableau in
    let entry : slice_get (preorder tableau) place ≡ Some (entry_of terms node) = ap (λ es. slice_get es place) (sym (entries certificate terms nodes are)) ∙ entry_stands terms nodes place node is in
    let within : place < length (placed_nodes tableau) = omega (arith, length-placed tableau, slice_get_within (preorder tableau) place (entry_of terms node) entry) in
    let placed = stands_within (placed_nodes tableau) place within in
    let seen = seen_at over certificate terms nodes branch place node are walked is placed.0 placed.1 in
    let cut = take (node.depth - 1) branch in
    let many : length placed.0.above ≡ length cut = ap length seen.0.above ∙ length-map cut (λ (literal : Bor Literal). literal_of terms literal.now) in
    let deep = All-stands (λ (e : Entry). (1 ≤ e.depth) × (e.depth ≤ 250)) (preorder tableau) place (entry_of terms node) ready.over_problem.depths entry in
    record {
      stands = is;
      named = named;
      fit = record {
        depth = omega (arith, seen.1, many);
        shallow = deep.1;
        clause = All-stands (λ (e : Entry). HasClauseOf (length over.clauses) e.kind) (preorder tableau) place (entry_of terms node) ready.over_problem.clauses entry;
        closer = zip_at (λ (e : Entry) closer. IsCloserOf e.kind e.depth closer) (preorder tableau) certificate.closers place (entry_of terms node) ancestor ready.over_problem.closers entry named;
      };
      seen = λ other stands. (seen_at over certificate terms nodes branch place node are walked is other stands).0;
    }

pub walked_more : (over : Problem) (certificate : Certificate) (terms : List Term) (nodes : List Node) (branch next : List (Bor Literal)) (place : ℕ) (node : Node) (literal : Bor Literal) (ancestor : ℕ)
    → IsWalked over certificate terms nodes branch place → IsAt over certificate terms nodes branch place node ancestor → next ≡ take (node.depth - 1) branch ++ literal ∷ [] → literal.now ≡ node.literal
    → HasRows (length terms) node.literal
    → ((placed : PlacedNode) → IsSeenAt terms nodes (take (node.depth - 1) branch) place placed → Passes over.clauses certificate.class placed ancestor)
    → IsWalked over certificate terms nodes next (place + 1)
walked_more over certificate terms nodes branch next place node literal ancestor walked at_place is its_literal rows passes = record {
  rows = subst (All (λ (l : Bor Literal). HasRows (length terms) l.now)) (sym is)
      (All-push (λ (l : Bor Literal). HasRows (length terms) l.now) (take (node.depth - 1) branch) literal (All-take (λ (l : Bor Literal). HasRows (length terms) l.now) (node.depth - 1) branch walked.rows)
      (subst (HasRows (length terms)) (sym its_literal) rows));
  same = ap (λ ls. sights ls (drop (place + 1) es)) literals
      ∙ sym (drop_head (sights [] es) place _ (sights (take (node.depth - 1) (literals_of terms branch) ++ literal_of terms node.literal ∷ []) (drop (place + 1) es)) (walked_step over certificate terms nodes branch place node walked at_place.stands)).1;
  pass = λ i placed named lt. pass i placed named (cases_lt i place) lt;
}
  where
    es : List Entry
    es = map (entry_of terms) nodes

    literals : literals_of terms next ≡ take (node.depth - 1) (literals_of terms branch) ++ literal_of terms node.literal ∷ []
    literals =
        ap (literals_of terms) is
        ∙ map-push (λ (l : Bor Literal). literal_of terms l.now) (take (node.depth - 1) branch) literal
        ∙ ap₂ (λ ls l. ls ++ literal_of terms l ∷ []) (map-take (λ (l : Bor Literal). literal_of terms l.now) (node.depth - 1) branch) its_literal

    pass : (i : ℕ) (placed : PlacedNode) (named : ℕ) → (i < place) ⊎ (place ≤ i) → i < place + 1 → slice_get (placed_nodes certificate.tableau.tableau) i ≡ Some placed → slice_get certificate.closers i ≡ Some named
        → Passes over.clauses certificate.class placed named
    pass i placed named (inl before) lt stands is_named = walked.pass i placed named before stands is_named
    pass i placed named (inr from) lt stands is_named =
        let here : i ≡ place = omega arith in
        let names : Some named ≡ Some ancestor = sym is_named ∙ ap (slice_get certificate.closers) here ∙ at_place.named in
        let one : ancestor ≡ named = sym cc in
        subst (Passes over.clauses certificate.class placed) one
        (passes placed (at_place.seen placed (ap (slice_get (placed_nodes certificate.tableau.tableau)) (sym here) ∙ stands)))

-- the place of the first node at which something is wrong
pub walked_wrong : (over : Problem) (certificate : Certificate) (terms : List Term) (nodes : List Node) (branch : List (Bor Literal)) (place : ℕ) (node : Node) (ancestor line : ℕ) (kind : RefusalKind)
    → AreNodesOf certificate terms nodes → IsWalked over certificate terms nodes branch place → IsAt over certificate terms nodes branch place node ancestor → line ≡ certificate.root_line + 1 + place
    → ((placed : PlacedNode) → IsSeenAt terms nodes (take (node.depth - 1) branch) place placed → IsFirstAt over.clauses certificate.class placed ancestor kind)
    → IsFirstNode over certificate (record { line = line; kind = kind })
walked_wrong over certificate terms nodes branch place node ancestor line kind are walked at_place is wrong =
    let tableau = certificate.tableau.tableau in
    let within : place < length (placed_nodes tableau) =
    omega (arith, length-placed tableau, slice_get_within nodes place node at_place.stands, ap length are.nodes_are, length-map nodes (entry_of certificate.tableau.terms)) in
    let placed = stands_within (placed_nodes tableau) place within in
    record {
      index = place;
      placed = placed.0;
      ancestor = ancestor;
      line_is = is;
      stands = placed.1;
      named = at_place.named;
      offends = wrong placed.0 (at_place.seen placed.0 placed.1);
      before = walked.pass;
    }

pub walked_all : (over : Problem) (certificate : Certificate) (terms : List Term) (nodes : List Node) (branch : List (Bor Literal)) (place : ℕ) → AreNodesOf certificate terms nodes → length nodes ≤ place
    → IsWalked over certificate terms nodes branch place → AllPass over certificate (length (placed_nodes certificate.tableau.tableau))
walked_all over certificate terms nodes branch place are all walked = λ i placed ancestor lt.
    walked.pass i placed ancestor
    (omega (arith, length-placed certificate.tableau.tableau, ap length are.nodes_are, length-map nodes (entry_of certificate.tableau.terms)))

-- the numbers of nodes, closers and lines
pub node_counts : (over : Problem) (certificate : Certificate) (terms : List Term) (nodes : List Node) → IsCheckable over certificate → AreNodesOf certificate terms nodes
    → (length nodes ≡ length certificate.closers) × (length nodes ≡ length (preorder certificate.tableau.tableau))
node_counts over certificate terms nodes ready are =
    let count : length nodes ≡ length (preorder certificate.tableau.tableau) = sym (length-map nodes (entry_of certificate.tableau.terms)) ∙ ap length are.nodes_are in
    (count ∙ zip_length (λ (e : Entry) closer. IsCloserOf e.kind e.depth closer) (preorder certificate.tableau.tableau) certificate.closers ready.over_problem.closers, count)

pub node_deep : (over : Problem) (certificate : Certificate) (nodes : List Node) (place : ℕ) (node : Node) → IsCheckable over certificate → AreNodesOf certificate certificate.tableau.terms nodes → slice_get nodes place ≡ Some node
    → (1 ≤ node.depth) × (node.depth ≤ 250)
node_deep over certificate nodes place node ready are is =
    let terms = certificate.tableau.terms in
    let entry : slice_get (preorder certificate.tableau.tableau) place ≡ Some (entry_of terms node) = ap (λ (es : List Entry). slice_get es place) (sym are.nodes_are) ∙ entry_stands terms nodes place node is in
    All-stands (λ (e : Entry). (1 ≤ e.depth) × (e.depth ≤ 250)) (preorder certificate.tableau.tableau) place (entry_of terms node) ready.over_problem.depths entry

pub take_length : {A : Type 0} (n : ℕ) (xs : List A) → length (take n xs) ≤ n
take_length zero xs = omega arith
take_length (suc n) [] = omega arith
take_length (suc n) (x ∷ xs) = omega (arith, take_length n xs)

-- a node is seen in the same way with the same terms and the same branch
pub seen_same : (terms others : List Term) (nodes : List Node) (branch cut : List (Bor Literal)) (place : ℕ) (placed : PlacedNode) → others ≡ terms → cut ≡ branch → IsSeenAt terms nodes branch place placed → IsSeenAt others nodes cut place placed
seen_same terms others nodes branch cut place placed same_terms same_branch seen =
    subst (λ (ts : List Term). IsSeenAt ts nodes cut place placed) (sym same_terms) (subst (λ (bs : List (Bor Literal)). IsSeenAt terms nodes bs place placed) (sym same_branch) seen)

pub pushed : (next cut branch : List (Bor Literal)) (literal : Bor Literal) → next ≡ cut ++ literal ∷ [] → cut ≡ branch → next ≡ branch ++ literal ∷ []
pushed next cut branch literal is same = is ∙ ap (λ (bs : List (Bor Literal)). bs ++ literal ∷ []) same
