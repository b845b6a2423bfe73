-- The nodes of the code, one after the other.
use Rattle.std.proofs.Common.{◌≡◌, ℕ, ◌+◌, ◌-◌, ◌^◌, ◌<◌, ◌≤◌, List, [], ◌∷◌, ◌++◌, length, take, drop, get_or, sym, ap, subst, ◌∙◌, arith}
use Rattle.std.specs.Prelude.{All, map}
use Rattle.std.proofs.lemmas.List.{map_more, map-append, take-append-drop, length-map, length-take-le}
use Rattle.std.proofs.lemmas.List.Elements.{All-head}
use Rattle.pm_logic.specs.Problem.{Symbol, IsPrintable}
use Rattle.pm_cnf.specs.declared.item.Word.{Word}
use Rattle.pm_cnf.specs.declared.item.Node as code
use Rattle.pm_cnf.specs.declared.item.Node.TheVariants as nodes
use Rattle.pm_cnf.specs.declared.number.Part.{Part}
use Rattle.pm_cnf.specs.Grammar.{word_text}
use Rattle.pm_cnf.specs.Inside.Parsed.{word_of, node_of}
use Rattle.pm_cnf.specs.Inside.Parts.{IsArgument, Tables, ArePrintable}
use Rattle.pm_cnf.proofs.parts.Tabling.{AreParts, All-front, All-back, symbols-count, printable-append}

pub node_more : (ns : List code.Node) (i : ℕ) (past node : code.Node) → i < length ns → get_or ns i past ≡ node → map node_of (take (i + 1) ns) ≡ map node_of (take i ns) ++ node_of node ∷ []
node_more ns i past node lt is = map_more node_of ns i past lt ∙ ap (λ n. map node_of (take i ns) ++ node_of n ∷ []) is

node_split : (ns : List code.Node) (i : ℕ) (past node : code.Node) → i < length ns → get_or ns i past ≡ node → map node_of ns ≡ (map node_of (take i ns) ++ node_of node ∷ []) ++ map node_of (drop (i + 1) ns)
node_split ns i past node lt is =
    ap (map node_of) (sym (take-append-drop (i + 1) ns)) ∙ map-append node_of (take (i + 1) ns) (drop (i + 1) ns) ∙ ap (λ xs. xs ++ map node_of (drop (i + 1) ns)) (node_more ns i past node lt is)

pub node_printable : (ns : List code.Node) (i : ℕ) (past node : code.Node) → i < length ns → get_or ns i past ≡ node → ArePrintable (map node_of ns) → ArePrintable (node_of node ∷ [])
node_printable ns i past node lt is all =
    let front = (printable-append (map node_of (take i ns) ++ node_of node ∷ []) (map node_of (drop (i + 1) ns)) (subst ArePrintable (node_split ns i past node lt is) all)).0 in
    (printable-append (map node_of (take i ns)) (node_of node ∷ []) front).1

pub function_printable : (ns : List code.Node) (i : ℕ) (past : code.Node) (w : Word) (k : ℕ) → i < length ns → get_or ns i past ≡ nodes.Function w k → ArePrintable (map node_of ns) → IsPrintable (word_text (word_of w))
function_printable ns i past w k lt is all = All-head (λ (s : Symbol). IsPrintable s.text) _ [] (node_printable ns i past (nodes.Function w k) lt is all)

pub node_argument : (ns : List code.Node) (i : ℕ) (past node : code.Node) → i < length ns → get_or ns i past ≡ node → All IsArgument (map node_of ns) → IsArgument (node_of node)
node_argument ns i past node lt is all =
    let front = All-front IsArgument (map node_of (take i ns) ++ node_of node ∷ []) (map node_of (drop (i + 1) ns)) (subst (All IsArgument) (node_split ns i past node lt is) all) in
    All-head IsArgument (node_of node) [] (All-back IsArgument (map node_of (take i ns)) (node_of node ∷ []) front)

pub room : (start now : Tables) (ns : List code.Node) (i : ℕ) (ps : List Part) → i < length ns → length start.symbols + length ns ≤ 2 ^ 32 - 1 → AreParts start (map node_of (take i ns)) now ps → length now.symbols < 2 ^ 32 - 1
room start now ns i ps lt few so_far =
    omega (arith, symbols-count start now (map node_of (take i ns)) _ so_far.grows, length-map (take i ns) node_of, length-take-le i ns (omega (arith, lt)), lt, few)
