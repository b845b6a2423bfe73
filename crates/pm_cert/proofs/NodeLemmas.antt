-- Nodes and their lines.
use Rattle.std.proofs.Common.{◌≡◌, ◌↔◌, ℕ, ◌+◌, ◌-◌, ◌<◌, ◌≤◌, not, Bool, true, false, IsTrue, List, [], ◌∷◌, ◌++◌, Bor, Option, Some, length, map, take, drop, get_or, codes, decimal, refl, sym, ap, ap₂, subst, ◌∙◌, append_assoc, length-append, arith, below_more}
use mathlib.Core.Bool.{beq}
use Rattle.std.specs.Prelude.{slice_get}
use Rattle.std.specs.List.{All, AllZip, Any, Contains}
use Rattle.std.specs.Option.{IsSomeAnd}
use Rattle.std.proofs.lemmas.List.{append-nil, map-append, length-map, get_or-map, take-map, drop_more}
use Rattle.std.proofs.lemmas.List.Elements.{All-nil, All-cons, All-head, All-tail, All-append, All-push, All-take}
use Rattle.std.proofs.lemmas.Option.{slice_get-get_or}
use Rattle.std.proofs.Math.Seq.{take-append_seam}
use Rattle.pm_logic.specs.declared.problem.Literal.{Literal as Rows}
use Rattle.pm_logic.specs.declared.tableau.Node.{Node as RowNode}
use Rattle.pm_logic.specs.declared.tableau.NodeKind.{NodeKind}
use Rattle.pm_logic.specs.declared.tableau.NodeKind.TheVariants.{Leaf, Inner}
use Rattle.pm_logic.specs.Lists.{AreDistinct}
use Rattle.pm_logic.specs.Problem.{Symbol, Literal}
use Rattle.pm_logic.specs.Term.{Term, tree_at}
use Rattle.pm_logic.specs.View.{HasRows, literal_of, entry_of}
use Rattle.pm_logic.specs.Word.{written_symbol}
use Rattle.pm_calculus.specs.Substitution.{AreComplementary}
use Rattle.pm_calculus.specs.Connection.{IsClosedBelow, AreClosedBelow}
use Rattle.pm_certread.specs.Lines.{ended, text_of, spaced, sign_word, Ending, closed_by, extended_by, NodeLine, node_line}
use Rattle.pm_logic.specs.Tableau.{Node, leaf, inner, Nodes, no_nodes, more_nodes, Entry, Tableau, preorder, preorder_of, preorder_among}
use Rattle.pm_cert.specs.Ancestors.{PlacedNode, placed_below, placed_among, placed_nodes, IsComplementaryAt, IsCloser}
use Rattle.pm_cert.specs.Terms.{ArePlacesOf}
use Rattle.pm_cert.specs.Text.{IsEndingOf, IsLineOf}
use Rattle.pm_cert.specs.Inside.Lines.{numbers_text}
use Rattle.pm_cert.specs.Inside.Nodes.{literals_on, IsClosedAt, IsWritableNode, front_text, ending_text, placed_from}
use Rattle.pm_cert.proofs.RowLemmas.{same_row}
use Rattle.pm_cert.proofs.LineLemmas.{text_of-append, term_places, all_zip_push}

-- ---- nodes in pre-order with their ancestors

-- more literals on the branch change nothing for a node below its first ones
above-branch : (above more : List Literal) → take (length above + 1 - 1) (above ++ more) ≡ above
above-branch above more =
    let less : length above + 1 - 1 ≡ length above = omega arith in
    ap (λ (n : ℕ). take n (above ++ more)) less ∙ take-append_seam above more

-- The whole is these nodes and then those of the rest, for a branch that begins alike.
abbrev Goes : List Literal → List PlacedNode → List Entry → List PlacedNode → Type 0
Goes above placed rest whole = (more : List Literal) × (whole ≡ placed ++ placed_from (above ++ more) rest)

mutual
  goes_below : (above more : List Literal) (node : Node) (rest : List Entry)
      → Goes above (placed_below above node) rest (placed_from (above ++ more) (preorder_of (length above + 1) node ++ rest))
  goes_below above more (leaf literal) rest =
      (literal ∷ [], ap (λ (branch : List Literal). record { above = branch; literal = literal; kind = Leaf } ∷ placed_from (branch ++ literal ∷ []) rest) (above-branch above more))
  goes_below above more (inner literal clause children) rest =
      let branch : List Literal = above ++ literal ∷ [] in
      let deeper : length branch + 1 ≡ length above + 1 + 1 = ap (λ (n : ℕ). n + 1) (length-append above (literal ∷ [])) in
      let own : PlacedNode = record { above = above; literal = literal; kind = Inner clause } in
      let entries : ℕ → List Entry = λ n. preorder_among n children ++ rest in
      let others : Goes branch (placed_among branch children) rest (placed_from (branch ++ []) (preorder_among (length branch + 1) children ++ rest)) = goes_among branch [] children rest in (
        literal ∷ others.0,
        ap (λ (b : List Literal). record { above = b; literal = literal; kind = Inner clause } ∷ placed_from (b ++ literal ∷ []) (entries (length above + 1 + 1))) (above-branch above more)
            ∙ ap (λ (ps : List PlacedNode). own ∷ ps)
            (ap (λ (b : List Literal). placed_from b (entries (length above + 1 + 1))) (sym (append-nil branch))
            ∙ ap (λ (n : ℕ). placed_from (branch ++ []) (entries n)) (sym deeper)
            ∙ others.1
            ∙ ap (λ (b : List Literal). placed_among branch children ++ placed_from b rest) (append_assoc above (literal ∷ []) others.0)),
      )

  goes_among : (above more : List Literal) (nodes : Nodes) (rest : List Entry)
      → Goes above (placed_among above nodes) rest (placed_from (above ++ more) (preorder_among (length above + 1) nodes ++ rest))
  goes_among above more no_nodes rest = (more, refl)
  goes_among above more (more_nodes node nodes) rest =
      let later : List Entry = preorder_among (length above + 1) nodes in
      let first : Goes above (placed_below above node) (later ++ rest) (placed_from (above ++ more) (preorder_of (length above + 1) node ++ (later ++ rest))) = goes_below above more node (later ++ rest) in
      let others : Goes above (placed_among above nodes) rest (placed_from (above ++ first.0) (later ++ rest)) = goes_among above first.0 nodes rest in (
        others.0,
        ap (λ (es : List Entry). placed_from (above ++ more) es) (append_assoc (preorder_of (length above + 1) node) later rest)
            ∙ first.1
            ∙ ap (λ (ps : List PlacedNode). placed_below above node ++ ps) others.1
            ∙ sym (append_assoc (placed_below above node) (placed_among above nodes) (placed_from (above ++ others.0) rest)),
      )

pub placed-preorder : (nodes : Nodes) → placed_from [] (preorder_among 1 nodes) ≡ placed_among [] nodes
placed-preorder nodes =
    ap (λ (es : List Entry). placed_from [] es) (sym (append-nil (preorder_among 1 nodes)))
    ∙ (goes_among [] [] nodes []).1
    ∙ append-nil (placed_among [] nodes)

-- ---- complementary literals

same_rows : (terms : List Term) (rows others : List ℕ) → AreDistinct terms → All (λ row. row < length terms) rows → All (λ row. row < length terms) others
    → map (tree_at terms) rows ≡ map (tree_at terms) others → rows ≡ others
same_rows terms [] [] distinct within within_too e = refl
same_rows terms [] (r ∷ rs) distinct within within_too e = absurd cc
same_rows terms (r ∷ rs) [] distinct within within_too e = absurd cc
same_rows terms (r ∷ rs) (q ∷ qs) distinct within within_too e =
    let P : ℕ → Type 0 = λ (row : ℕ). row < length terms in
    let first : tree_at terms r ≡ tree_at terms q = cc in
    let later : map (tree_at terms) rs ≡ map (tree_at terms) qs = cc in
    let here : r ≡ q = same_row terms r q distinct (All-head P r rs within) (All-head P q qs within_too) first in
    let rest : rs ≡ qs = same_rows terms rs qs distinct (All-tail P r rs within) (All-tail P q qs within_too) later in
    cc

pub opposite_sign : (a b : Bool) → not (beq a b) ≡ true → a ≡ not b
opposite_sign true true e = absurd cc
opposite_sign true false e = refl
opposite_sign false true e = refl
opposite_sign false false e = absurd cc

pub complementary_told : (terms : List Term) (literal other : Rows) (b : Bool) → AreDistinct terms → HasRows (length terms) literal → HasRows (length terms) other
    → literal.positive ≡ not other.positive → literal.predicate ≡ other.predicate → IsTrue b ↔ (literal.args.items ≡ other.args.items)
    → IsTrue b ↔ AreComplementary (literal_of terms literal) (literal_of terms other)
complementary_told terms literal other b distinct within within_too sign predicate same = (
  λ h. record { sign = sign; predicate = predicate; args = ap (map (tree_at terms)) (same.0 h) },
  λ h. same.1 (same_rows terms literal.args.items other.args.items distinct within within_too h.args),
)

-- ---- the ancestor that closes a leaf

stands : (terms : List Term) (branch : List (Bor Rows)) (i : ℕ) (ancestor : Bor Rows) → i < length branch → ancestor ≡ get_or branch i ancestor
    → slice_get (literals_on terms branch) i ≡ Some (literal_of terms ancestor.now)
stands terms branch i ancestor lt is =
    slice_get-get_or (literals_on terms branch) i (literal_of terms ancestor.now) (omega (arith, length-map branch (λ (l : Bor Rows). literal_of terms l.now)))
    ∙ ap Some (get_or-map (λ (l : Bor Rows). literal_of terms l.now) branch i ancestor (literal_of terms ancestor.now) lt)
    ∙ ap (λ (l : Bor Rows). Some (literal_of terms l.now)) (sym is)

-- the next one is complementary
pub closer_found : (terms : List Term) (branch : List (Bor Rows)) (literal : Literal) (i : ℕ) (ancestor : Bor Rows) → i < length branch → ancestor ≡ get_or branch i ancestor
    → AreComplementary literal (literal_of terms ancestor.now) → ((earlier : ℕ) → earlier < i → ¬ IsComplementaryAt (literals_on terms branch) literal earlier)
    → IsCloser (literals_on terms branch) literal (i + 1)
closer_found terms branch literal i ancestor lt is here none =
    record {
      place = i;
      is = refl;
      complementary = subst (λ (o : Option Literal). IsSomeAnd o (AreComplementary literal)) (sym (stands terms branch i ancestor lt is)) here;
      least = none;
    }

-- the next one isn't
pub closer_next : (terms : List Term) (branch : List (Bor Rows)) (literal : Literal) (i : ℕ) (ancestor : Bor Rows) → i < length branch → ancestor ≡ get_or branch i ancestor
    → ¬ AreComplementary literal (literal_of terms ancestor.now) → ((earlier : ℕ) → earlier < i → ¬ IsComplementaryAt (literals_on terms branch) literal earlier)
    → (earlier : ℕ) → earlier < i + 1 → ¬ IsComplementaryAt (literals_on terms branch) literal earlier
closer_next terms branch literal i ancestor lt is not_here none =
    below_more (λ (k : ℕ). ¬ IsComplementaryAt (literals_on terms branch) literal k) i none
    (λ h. not_here (subst (λ (o : Option Literal). IsSomeAnd o (AreComplementary literal)) (stands terms branch i ancestor lt is) h))

-- some literal is
pub closed_somewhere : (above : List Literal) (literal : Literal) (i : ℕ) → length above ≤ i → Any (AreComplementary literal) above
    → ((earlier : ℕ) → earlier < i → ¬ IsComplementaryAt above literal earlier) → ⊥
closed_somewhere above literal i le closed none =
    none closed.0 (omega (arith, closed.2))
    (subst (λ (o : Option Literal). IsSomeAnd o (AreComplementary literal)) (sym (slice_get-get_or above closed.0 closed.1 closed.2 ∙ ap Some closed.3)) closed.4)

-- ---- node lines

spaced_both : (word : List ℕ) (numbers : List ℕ) (next : List ℕ) (words : List (List ℕ)) → spaced (word ∷ map decimal numbers ++ next ∷ words) ≡ word ++ (numbers_text numbers ++ 32 ∷ spaced (next ∷ words))
spaced_both word [] next words = refl
spaced_both word (n ∷ ns) next words =
    ap (λ (t : List ℕ). word ++ 32 ∷ t) (spaced_both (decimal n) ns next words)
    ∙ ap (λ (t : List ℕ). word ++ 32 ∷ t) (sym (append_assoc (decimal n) (numbers_text ns) (32 ∷ spaced (next ∷ words))))

abbrev node_with : ℕ → Bool → Symbol → List ℕ → Ending → NodeLine
node_with depth positive symbol numbers ending =
    record { depth = depth; positive = positive; symbol = symbol; numbers = numbers; ending = ending }

pub node_text : (depth : ℕ) (positive : Bool) (symbol : Symbol) (numbers : List ℕ) (ending : Ending)
    → front_text depth positive symbol numbers ++ ending_text ending ≡ ended (node_line (node_with depth positive symbol numbers ending))
node_text depth positive symbol numbers (closed_by closer) =
    join depth positive symbol numbers (codes "close") (decimal closer ∷ [])
  where
    join : (depth : ℕ) (positive : Bool) (symbol : Symbol) (numbers : List ℕ) (next : List ℕ) (words : List (List ℕ))
        → front_text depth positive symbol numbers ++ (32 ∷ spaced (next ∷ words) ++ 10 ∷ [])
        ≡ ended (spaced (decimal depth ∷ sign_word positive ∷ written_symbol symbol ∷ map decimal numbers ++ next ∷ words))
    join depth positive symbol numbers next words =
        simp (append_assoc, spaced_both (written_symbol symbol) numbers next words) refl
node_text depth positive symbol numbers (extended_by clause) =
    join depth positive symbol numbers (codes "extend") (decimal clause ∷ [])
  where
    join : (depth : ℕ) (positive : Bool) (symbol : Symbol) (numbers : List ℕ) (next : List ℕ) (words : List (List ℕ))
        → front_text depth positive symbol numbers ++ (32 ∷ spaced (next ∷ words) ++ 10 ∷ [])
        ≡ ended (spaced (decimal depth ∷ sign_word positive ∷ written_symbol symbol ∷ map decimal numbers ++ next ∷ words))
    join depth positive symbol numbers next words =
        simp (append_assoc, spaced_both (written_symbol symbol) numbers next words) refl

module _ (kind : NodeKind) (above : List Literal) (literal : Literal) (old t1 t2 new : List ℕ) where
  pub leaf_told : (depth : ℕ) → kind ≡ Leaf → IsCloser above literal depth → t1 ≡ old ++ codes " close " → t2 ≡ t1 ++ decimal depth → new ≡ t2 ++ 10 ∷ []
      → (ending : Ending) × IsEndingOf kind above literal ending × (new ≡ old ++ ending_text ending)
  leaf_told depth is closer e1 e2 e3 = (
    closed_by depth,
    subst (λ (k : NodeKind). IsEndingOf k above literal (closed_by depth)) (sym is) (depth, closer, refl),
    simp (e3, e2, e1, append_assoc) refl,
  )

  pub inner_told : (clause : ℕ) → kind ≡ Inner clause → t1 ≡ old ++ codes " extend " → t2 ≡ t1 ++ decimal clause → new ≡ t2 ++ 10 ∷ []
      → (ending : Ending) × IsEndingOf kind above literal ending × (new ≡ old ++ ending_text ending)
  inner_told clause is e1 e2 e3 = (
    extended_by clause,
    subst (λ (k : NodeKind). IsEndingOf k above literal (extended_by clause)) (sym is) refl,
    simp (e3, e2, e1, append_assoc) refl,
  )

-- ---- the loop over nodes

-- the literals above a node are the first ones of the branch
pub above_cut : (terms : List Term) (branch cut : List (Bor Rows)) (n : ℕ) → cut ≡ take n branch → literals_on terms cut ≡ take n (literals_on terms branch)
above_cut terms branch cut n is = ap (literals_on terms) is ∙ sym (take-map (λ (l : Bor Rows). literal_of terms l.now) n branch)

module _ (terms : List Term) (branch : List (Bor Rows)) (nodes : List RowNode) (i : ℕ) (node : RowNode) (lt : i < length nodes) (is : node ≡ get_or nodes i node)
    (placed all : List PlacedNode) (so_far : placed ++ placed_from (literals_on terms branch) (map (entry_of terms) (drop i nodes)) ≡ all) where
  -- the next node is placed below the branch, and the others below it and the branch
  next_placed : (placed ++ record { above = take (node.depth - 1) (literals_on terms branch); literal = literal_of terms node.literal; kind = node.kind } ∷ [])
      ++ placed_from (take (node.depth - 1) (literals_on terms branch) ++ literal_of terms node.literal ∷ []) (map (entry_of terms) (drop (i + 1) nodes)) ≡ all
  next_placed =
      append_assoc placed _ _
      ∙ ap (λ (ns : List RowNode). placed ++ placed_from (literals_on terms branch) (map (entry_of terms) ns))
      (sym (drop_more nodes i node lt ∙ ap (λ (n : RowNode). n ∷ drop (i + 1) nodes) (sym is)))
      ∙ so_far

  pub of_next : (P : PlacedNode → Type 0) → All P all → P (record { above = take (node.depth - 1) (literals_on terms branch); literal = literal_of terms node.literal; kind = node.kind })
  of_next P h =
      let later : List PlacedNode = placed_from (take (node.depth - 1) (literals_on terms branch) ++ literal_of terms node.literal ∷ []) (map (entry_of terms) (drop (i + 1) nodes)) in
      last_of P placed (record { above = take (node.depth - 1) (literals_on terms branch); literal = literal_of terms node.literal; kind = node.kind }) later (subst (All P) (sym next_placed) h)
    where
      last_of : (P : PlacedNode → Type 0) (ps : List PlacedNode) (p : PlacedNode) (qs : List PlacedNode) → All P ((ps ++ p ∷ []) ++ qs) → P p
      last_of P [] p qs h = All-head P p qs h
      last_of P (x ∷ ps) p qs h = last_of P ps p qs (All-tail P x ((ps ++ p ∷ []) ++ qs) h)

  pub more_placed : (cut pushed : List (Bor Rows)) (own : Bor Rows) → cut ≡ take (node.depth - 1) branch → pushed ≡ cut ++ own ∷ [] → own.now ≡ node.literal
      → (placed ++ record { above = take (node.depth - 1) (literals_on terms branch); literal = literal_of terms node.literal; kind = node.kind } ∷ [])
      ++ placed_from (literals_on terms pushed) (map (entry_of terms) (drop (i + 1) nodes)) ≡ all
  more_placed cut pushed own cuts pushes same =
      ap (λ (ls : List Literal). (placed ++ record { above = take (node.depth - 1) (literals_on terms branch); literal = literal_of terms node.literal; kind = node.kind } ∷ [])
      ++ placed_from ls (map (entry_of terms) (drop (i + 1) nodes)))
      (ap (literals_on terms) pushes ∙ map-append (λ (l : Bor Rows). literal_of terms l.now) cut (own ∷ [])
      ∙ ap (λ (ls : List Literal). ls ++ literal_of terms own.now ∷ []) (above_cut terms branch cut (node.depth - 1) cuts)
      ∙ ap (λ (l : Rows). take (node.depth - 1) (literals_on terms branch) ++ literal_of terms l ∷ []) same)
      ∙ next_placed

pub rows_cut : (count : ℕ) (branch cut pushed : List (Bor Rows)) (own : Bor Rows) (n : ℕ) → cut ≡ take n branch → pushed ≡ cut ++ own ∷ [] → HasRows count own.now
    → All (λ l. HasRows count l.now) branch → All (λ l. HasRows count l.now) pushed
rows_cut count branch cut pushed own n is pushes has all =
    let P : Bor Rows → Type 0 = λ (l : Bor Rows). HasRows count l.now in
    subst (All P) (sym pushes) (All-push P cut own (subst (All P) (sym is) (All-take P n branch all)) has)

-- a node with its line
pub node_more : (symbols : List Symbol) (terms trees : List Term) (keys : List ℕ) (above : List Literal) (node : RowNode) (placed : List PlacedNode) (lines : List NodeLine) (depth : ℕ) (old before t1 after : List ℕ)
    → trees ≡ map (tree_at terms) keys → depth ≡ length above + 1
    → AllZip (IsLineOf symbols trees) placed lines → before ≡ old ++ text_of (map node_line lines)
    → (front : (symbol : Symbol) × (numbers : List ℕ) × (slice_get symbols node.literal.predicate ≡ Some symbol) × (map (slice_get keys) numbers ≡ map Some node.literal.args.items)
    × (t1 ≡ before ++ front_text depth node.literal.positive symbol numbers))
    → (end : (ending : Ending) × IsEndingOf node.kind above (literal_of terms node.literal) ending × (after ≡ t1 ++ ending_text ending))
    → (more : List NodeLine) × AllZip (IsLineOf symbols trees) (placed ++ record { above = above; literal = literal_of terms node.literal; kind = node.kind } ∷ []) more × (after ≡ old ++ text_of (map node_line more))
node_more symbols terms trees keys above node placed lines depth old before t1 after same deep zip so_far front end =
    let line : NodeLine = node_with depth node.literal.positive front.0 front.1 end.0 in
    let p : PlacedNode = record { above = above; literal = literal_of terms node.literal; kind = node.kind } in
    let whole : after ≡ before ++ ended (node_line line) =
    end.2 ∙ ap (λ (t : List ℕ). t ++ ending_text end.0) front.4
    ∙ append_assoc before (front_text depth node.literal.positive front.0 front.1) (ending_text end.0)
    ∙ ap (λ (t : List ℕ). before ++ t) (node_text depth node.literal.positive front.0 front.1 end.0) in
    let is_line : IsLineOf symbols trees p line = record {
      depth = deep;
      positive = refl;
      symbol = front.2;
      numbers = subst (λ (ts : List Term). ArePlacesOf ts (map (tree_at terms) node.literal.args.items) front.1) (sym same) (term_places terms keys node.literal.args.items front.1 front.3);
      ending = end.1;
    } in (
      lines ++ line ∷ [],
      all_zip_push (IsLineOf symbols trees) placed lines p line zip is_line,
      whole ∙ ap (λ (t : List ℕ). t ++ ended (node_line line)) so_far
          ∙ append_assoc old (text_of (map node_line lines)) (ended (node_line line))
          ∙ ap (λ (t : List ℕ). old ++ t) (sym (ap text_of (map-append node_line lines (line ∷ [])) ∙ text_of-append (map node_line lines) (node_line line ∷ []))),
    )

-- ---- what can be written

-- the nodes' literals, with or without their ancestors
mutual
  literals_below : (d : ℕ) (above : List Literal) (node : Node) → map (λ (p : PlacedNode). p.literal) (placed_below above node) ≡ map (λ (e : Entry). e.literal) (preorder_of d node)
  literals_below d above (leaf literal) = refl
  literals_below d above (inner literal clause children) = ap (λ (ls : List Literal). literal ∷ ls) (literals_among (d + 1) (above ++ literal ∷ []) children)

  pub literals_among : (d : ℕ) (above : List Literal) (nodes : Nodes) → map (λ (p : PlacedNode). p.literal) (placed_among above nodes) ≡ map (λ (e : Entry). e.literal) (preorder_among d nodes)
  literals_among d above no_nodes = refl
  literals_among d above (more_nodes node nodes) =
      map-append (λ (p : PlacedNode). p.literal) (placed_below above node) (placed_among above nodes)
      ∙ ap₂ (λ (ls ms : List Literal). ls ++ ms) (literals_below d above node) (literals_among d above nodes)
      ∙ sym (map-append (λ (e : Entry). e.literal) (preorder_of d node) (preorder_among d nodes))

abbrev Closed : PlacedNode → Type 0
Closed placed = IsClosedAt placed.kind placed.above placed.literal

mutual
  closed_below : (above : List Literal) (node : Node) → IsClosedBelow above node → All Closed (placed_below above node)
  closed_below above (leaf literal) h = All-cons Closed (record { above = above; literal = literal; kind = Leaf }) [] h (All-nil Closed)
  closed_below above (inner literal clause children) h =
      All-cons Closed (record { above = above; literal = literal; kind = Inner clause }) (placed_among (above ++ literal ∷ []) children) tt
      (closed_among (above ++ literal ∷ []) children h)

  pub closed_among : (above : List Literal) (nodes : Nodes) → AreClosedBelow above nodes → All Closed (placed_among above nodes)
  closed_among above no_nodes h = All-nil Closed
  closed_among above (more_nodes node nodes) h =
      All-append Closed (placed_below above node) (placed_among above nodes) (closed_below above node h.0) (closed_among above nodes h.1)

-- of each literal of the nodes in pre-order, and so of each node with its ancestors
of_literals : (P : Literal → Type 0) (placed : List PlacedNode) (entries : List Entry) → map (λ (p : PlacedNode). p.literal) placed ≡ map (λ (e : Entry). e.literal) entries
    → All (λ e. P e.literal) entries → All (λ p. P p.literal) placed
of_literals P [] entries same h = All-nil (λ (p : PlacedNode). P p.literal)
of_literals P (p ∷ ps) [] same h = absurd cc
of_literals P (p ∷ ps) (e ∷ es) same h =
    let first : e.literal ≡ p.literal = cc in
    let later : map (λ (p : PlacedNode). p.literal) ps ≡ map (λ (e : Entry). e.literal) es = cc in
    All-cons (λ (p : PlacedNode). P p.literal) p ps (subst P first (All-head (λ (e : Entry). P e.literal) e es h))
    (of_literals P ps es later (All-tail (λ (e : Entry). P e.literal) e es h))

pub writable_nodes : (symbols : List Symbol) (terms : List Term) (tableau : Tableau) → AreClosedBelow [] tableau.children
    → All (λ e. (e.literal.predicate < length symbols) × All (Contains terms) e.literal.args) (preorder tableau)
    → All (IsWritableNode symbols terms) (placed_nodes tableau)
writable_nodes symbols terms tableau closed each =
    let placed : List PlacedNode = placed_nodes tableau in
    let literals : All (λ p. (p.literal.predicate < length symbols) × All (Contains terms) p.literal.args) placed =
    of_literals (λ l. (l.predicate < length symbols) × All (Contains terms) l.args) placed (preorder tableau) (literals_among 1 [] tableau.children) each in
    λ k d lt. record { predicate = (literals k d lt).0; args = (literals k d lt).1; closed = closed_among [] tableau.children closed k d lt }
