-- The words of node lines, and what the code reads of them.
use Rattle.std.specs.Prelude.{◌≡◌, ◌≢◌, ◌^◌, ◌<◌, ◌⊎◌, ◌++◌, ℕ, Bool, List, [], ◌∷◌, Option, None, Some, All, codes, decimal, length, map, string_bytes}
use Rattle.pm_logic.specs.declared.symbols.Kind.{Kind}
use Rattle.pm_logic.specs.declared.symbols.Kind.TheVariants.{Predicate, Equality}
use Rattle.pm_logic.specs.Problem.{Symbol, IsPrintable}
use Rattle.pm_logic.specs.Tableau.{preorder, deepest_next}
use Rattle.pm_logic.specs.Word.{written_as}
use Rattle.pm_certread.specs.declared.node_line.Ending.{Ending as CodeEnding}
use Rattle.pm_certread.specs.declared.node_line.Ending.TheVariants.{ClosedBy, ExtendedBy}
use Rattle.pm_certread.specs.declared.node_line.PredicateWord.{PredicateWord}
use Rattle.pm_certread.specs.declared.node_line.Front.{Front}
use Rattle.pm_certread.specs.declared.node_line.NodeLine.{NodeLine as CodeLine}
use Rattle.pm_certread.specs.declared.nodes.NodeRows.{NodeRows}
use Rattle.pm_certread.specs.Lines.{Ending, closed_by, extended_by, ending_words, NodeLine, sign_word}
use Rattle.pm_certread.specs.Forms.{IsNumber, IsNode, ending_number}
use Rattle.pm_certread.specs.Reading.{NodeLines}

abbrev pub ReadsSign : List ℕ → Option Bool → Type 0
ReadsSign word None = (positive : Bool) → word ≢ sign_word positive
ReadsSign word (Some positive) = word ≡ sign_word positive

-- a text that may stand for a symbol of this kind in a node line
abbrev pub IsNamed : Kind → List ℕ → Type 0
IsNamed kind text =
    IsPrintable text × ((kind ≡ Predicate) ⊎ ((kind ≡ Equality) × (text ≡ codes "=")))

abbrev pub ReadsPredicate : List ℕ → Option PredicateWord → Type 0
ReadsPredicate word None =
    (kind : Kind) (text : List ℕ) → IsNamed kind text → word ≢ written_as kind text
ReadsPredicate word (Some found) =
    IsNamed found.kind (string_bytes found.text)
    × (word ≡ written_as found.kind (string_bytes found.text))

abbrev pub front_words : ℕ → Bool → Kind → List ℕ → List (List ℕ)
front_words depth positive kind text =
    decimal depth ∷ sign_word positive ∷ written_as kind text ∷ []

abbrev pub ReadsFront : List (List ℕ) → Option Front → Type 0
ReadsFront words None =
    (depth : ℕ) (positive : Bool) (kind : Kind) (text : List ℕ) → IsNumber depth
    → IsNamed kind text → words ≢ front_words depth positive kind text
ReadsFront words (Some front) =
    IsNumber front.depth × IsNamed front.kind (string_bytes front.text)
    × (words ≡ front_words front.depth front.positive front.kind (string_bytes front.text))

abbrev pub ending_of : CodeEnding → Ending
ending_of (ClosedBy depth) = closed_by depth
ending_of (ExtendedBy clause) = extended_by clause

abbrev pub ReadsEnding : List (List ℕ) → Option CodeEnding → Type 0
ReadsEnding words None =
    (ending : Ending) → IsNumber (ending_number ending) → words ≢ ending_words ending
ReadsEnding words (Some ending) =
    IsNumber (ending_number (ending_of ending)) × (words ≡ ending_words (ending_of ending))

abbrev pub symbol_of : Kind → List ℕ → ℕ → Symbol
symbol_of kind text arity = record { text = text; arity = arity; kind = kind }

abbrev pub line_of : CodeLine → NodeLine
line_of line =
    record {
      depth = line.depth;
      positive = line.positive;
      symbol = symbol_of line.kind (string_bytes line.text) (length line.numbers.items);
      numbers = line.numbers.items;
      ending = ending_of line.ending;
    }

-- the words of a node's line
pub record AreNode (words : List (List ℕ)) (node : NodeLine) : Type 0 where
  pub small_depth : IsNumber node.depth
  pub named : IsNamed node.symbol.kind node.symbol.text
  pub count : node.symbol.arity ≡ length node.numbers
  pub small_numbers : All IsNumber node.numbers
  pub small_ending : IsNumber (ending_number node.ending)
  pub is :
      words
      ≡ front_words node.depth node.positive node.symbol.kind node.symbol.text
      ++ (map decimal node.numbers ++ ending_words node.ending)

abbrev pub ReadsNode : List (List ℕ) → Option CodeLine → Type 0
ReadsNode words None = (node : NodeLine) → ¬ AreNode words node
ReadsNode words (Some line) = AreNode words (line_of line)

abbrev pub IsNodeLine : List ℕ → Option CodeLine → Type 0
IsNodeLine raw None = (node : NodeLine) → ¬ IsNode raw node
IsNodeLine raw (Some line) = IsNode raw (line_of line)

-- the nodes so far, and how deep the next may lie
abbrev pub nodes_of : NodeRows → NodeLines
nodes_of given =
    record {
      root = given.tableau.tableau.root;
      entries = preorder given.tableau.tableau;
      closers = given.closers.items;
    }

-- the next node may lie as deep as it says
abbrev pub IsDeepest : NodeRows → Type 0
IsDeepest given = given.deepest ≡ deepest_next (preorder given.tableau.tableau)

-- the numbers of the ending fit the code's nodes
abbrev pub HasSmallClause : CodeEnding → Type 0
HasSmallClause (ClosedBy depth) = Unit {0}
HasSmallClause (ExtendedBy clause) = clause < 2 ^ 32
