-- What a readable list of items tells of each of them.
use Rattle.std.proofs.Common.{◌≡◌, ℕ, zero, suc, ◌+◌, ◌-◌, ◌^◌, ◌<◌, ◌≤◌, List, [], ◌∷◌, ◌++◌, length, take, drop, get_or, sym, ap, subst, ◌∙◌, arith}
use Rattle.std.specs.Prelude.{All, map, not}
use Rattle.std.specs.List.{flat_map, list_all}
use Rattle.std.proofs.lemmas.List.{length-append, length-map, map-append, map_more, take-append-drop, append-nil}
use Rattle.std.proofs.lemmas.Grind.{flat_map-append}
use Rattle.std.proofs.lemmas.List.Elements.{All-head, All-tail}
use Rattle.pm_logic.specs.Problem as logic
use Rattle.pm_logic.specs.Problem.{IsPrintable, IsValid}
use Rattle.pm_logic.specs.Term as tree
use Rattle.pm_logic.specs.View.{clause_of}
use Rattle.pm_logic.specs.declared.problem.Clause.{Clause}
use Rattle.pm_logic.proofs.Gathering.{Extends, Gathers-extends}
use Rattle.pm_cnf.specs.declared.item.Item as code
use Rattle.pm_cnf.specs.declared.item.Node as code_node
use Rattle.pm_cnf.specs.Grammar.{Item}
use Rattle.pm_cnf.specs.Inside.Draft.{Written, written}
use Rattle.pm_cnf.specs.Meaning.{literals_of, item_symbols}
use Rattle.pm_cnf.specs.Inside.Readable.{HasPrintableName, AreReadable}
use Rattle.pm_cnf.specs.Inside.Parsed.{name_of, node_of, item_of}
use Rattle.pm_cnf.specs.Inside.Parts.{node_symbol, node_holds, ArePrintable, IsNumbered}
use Rattle.pm_cnf.proofs.parts.ItemSteps.{literals_symbols, all-map, ItemsSoFar}
use Rattle.pm_cnf.proofs.meaning.ValidItems.{problem_valid}

-- an item that was written, and what is known of it
pub record ItemRead (one : code.Item) : Type 0 where
  pub item : Item
  pub is : item_of one ≡ written item
  pub named : HasPrintableName item.name
  pub printable : All (λ s. IsPrintable s.text) (item_symbols item)

read_at : (items : List code.Item) (file : List Item) (i : ℕ) (one : code.Item) → map item_of items ≡ map written file → i < length items → one ≡ get_or items i one
    → All (λ item. HasPrintableName item.name) file → All (λ item. All (λ s. IsPrintable s.text) (item_symbols item)) file → ItemRead one
read_at [] file i one are lt is names printable = absurd (omega (arith, lt))
read_at (x ∷ items) [] i one are lt is names printable = absurd cc
read_at (x ∷ items) (f ∷ file) zero one are lt is names printable =
    let first : item_of x ≡ written f = cc in
    record {
      item = f;
      is = ap item_of is ∙ first;
      named = All-head (λ (item : Item). HasPrintableName item.name) f file names;
      printable = All-head (λ (item : Item). All (λ s. IsPrintable s.text) (item_symbols item)) f file printable;
    }
read_at (x ∷ items) (f ∷ file) (suc i) one are lt is names printable =
    let rest : map item_of items ≡ map written file = cc in
    read_at items file i one rest (omega (arith, lt)) is (All-tail (λ (item : Item). HasPrintableName item.name) f file names)
    (All-tail (λ (item : Item). All (λ s. IsPrintable s.text) (item_symbols item)) f file printable)

pub item_read : (items : List code.Item) (i : ℕ) (one : code.Item) → AreReadable (map item_of items) → i < length items → one ≡ get_or items i one → ItemRead one
item_read items i one readable lt is = read_at items readable.items i one readable.are lt is readable.names readable.printable

pub item_name_printable : (one : code.Item) → ItemRead one → HasPrintableName (name_of one.name)
item_name_printable one r = subst HasPrintableName (sym (ap (λ (w : Written). w.name) r.is)) r.named

pub nodes_printable : (one : code.Item) → ItemRead one → ArePrintable (map node_of one.nodes.items)
nodes_printable one r =
    subst (All (λ (s : logic.Symbol). IsPrintable s.text)) (sym (ap (λ (w : Written). flat_map node_symbol w.nodes) r.is ∙ literals_symbols (literals_of r.item.formula))) r.printable

pub items_more : (items : List code.Item) (i : ℕ) (one : code.Item) → i < length items → one ≡ get_or items i one → map item_of (take (i + 1) items) ≡ map item_of (take i items) ++ item_of one ∷ []
items_more items i one lt is = map_more item_of items i one lt ∙ ap (λ x. map item_of (take i items) ++ item_of x ∷ []) (sym is)

nodes_total : (kept : List Written) (one : Written) (rest : List Written) → length (flat_map (λ w. w.nodes) ((kept ++ one ∷ []) ++ rest)) ≡ length (flat_map (λ w. w.nodes) kept) + length one.nodes + length (flat_map (λ w. w.nodes) rest)
nodes_total kept one rest =
    ap length (flat_map-append (λ (w : Written). w.nodes) (kept ++ one ∷ []) rest ∙ ap (λ l. l ++ flat_map (λ w. w.nodes) rest) (flat_map-append (λ (w : Written). w.nodes) kept (one ∷ []) ∙ ap (λ l. flat_map (λ w. w.nodes) kept ++ l) (append-nil one.nodes)))
    ∙ length-append (flat_map (λ w. w.nodes) kept ++ one.nodes) (flat_map (λ w. w.nodes) rest) ∙ ap (λ n. n + length (flat_map (λ w. w.nodes) rest)) (length-append (flat_map (λ w. w.nodes) kept) one.nodes)

pub item_room : (items : List code.Item) (i : ℕ) (one : code.Item) (symbols : List logic.Symbol) (terms : List tree.Term) (clauses : List Clause) → AreReadable (map item_of items) → i < length items → one ≡ get_or items i one
    → ItemsSoFar (map item_of (take i items)) symbols terms clauses → length symbols + length one.nodes.items ≤ 2 ^ 32 - 1
item_room items i one symbols terms clauses readable lt is so_far =
    let whole : map item_of items ≡ (map item_of (take i items) ++ item_of one ∷ []) ++ map item_of (drop (i + 1) items) =
    ap (map item_of) (sym (take-append-drop (i + 1) items)) ∙ map-append item_of (take (i + 1) items) (drop (i + 1) items) ∙ ap (λ l. l ++ map item_of (drop (i + 1) items)) (items_more items i one lt is) in
    omega (arith, so_far.few, readable.short, ap (λ (ws : List Written). length (flat_map (λ w. w.nodes) ws)) whole, nodes_total (map item_of (take i items)) (item_of one) (map item_of (drop (i + 1) items)), length-map one.nodes.items node_of)

pub terms_grow : (one : code.Item) (old new : List logic.Symbol) (before after : List tree.Term) (clause : logic.Clause) → ItemRead one → ((item : Item) → item_of one ≡ written item → IsNumbered old new before after item clause) → Extends before after
terms_grow one old new before after clause r numbered = Gathers-extends _ before after (numbered r.item r.is).terms

-- whether the nodes are those of an item that is kept
pub nodes_hold : (one : code.Item) (nodes : List code_node.Node) → nodes ≡ one.nodes.items → list_all (λ node. not (node_holds (node_of node))) nodes ≡ list_all (λ node. not (node_holds node)) (item_of one).nodes
nodes_hold one nodes is = ap (list_all (λ node. not (node_holds (node_of node)))) is ∙ all-map node_of (λ node. not (node_holds node)) one.nodes.items

-- readable items make a valid problem
pub items_valid : (items : List code.Item) (symbols : List logic.Symbol) (terms : List tree.Term) (clauses : List Clause) → AreReadable (map item_of items) → ItemsSoFar (map item_of items) symbols terms clauses
    → IsValid (record { symbols = symbols; terms = terms; clauses = map (clause_of terms) clauses })
items_valid items symbols terms clauses readable so_far =
    problem_valid readable.items (record { symbols = symbols; terms = terms; clauses = map (clause_of terms) clauses }) (so_far.means readable.items readable.are) readable.few readable.literals readable.printable
