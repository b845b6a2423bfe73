-- The certificate of a tableau, as it is written.
use Rattle.std.specs.Prelude.{◌≡◌, ℕ, ◌+◌, List, [], ◌∷◌, ◌++◌, Some, length, map, slice_get}
use Rattle.std.specs.List.{AllZip}
use Rattle.pm_logic.specs.declared.problem.Class.{Class}
use Rattle.pm_logic.specs.declared.problem.Start.{Start}
use Rattle.pm_logic.specs.declared.tableau.BoundKind.{BoundKind}
use Rattle.pm_logic.specs.declared.tableau.BoundKind.TheVariants.{Depth, Inferences}
use Rattle.pm_logic.specs.declared.tableau.NodeKind.{NodeKind}
use Rattle.pm_logic.specs.declared.tableau.NodeKind.TheVariants.{Leaf, Inner}
use Rattle.pm_logic.specs.Problem.{Symbol, Literal}
use Rattle.pm_logic.specs.Tableau.{Tableau, preorder, size}
use Rattle.pm_logic.specs.Term.{Term, var, app, list_of}
use Rattle.pm_certread.specs.Lines.{Line, text_of, status_line, level_lines, proof_line, Header, header_line_1, header_line_2, variable_line, application_line, root_line, Ending, closed_by, extended_by, NodeLine, node_line, end_line}
use Rattle.pm_cert.specs.Ancestors.{PlacedNode, placed_nodes, IsCloser}
use Rattle.pm_cert.specs.Terms.{AreListed, ArePlacesOf}

-- What a certificate says beside its tableau: what was searched; the attempts of each exhausted
-- level, and those of the level with the proof.
pub record SearchReport : Type 0 where
  pub class : Class
  pub start : Start
  pub bound : BoundKind
  pub works : List ℕ
  pub last : ℕ

abbrev pub report_of : Class → Start → BoundKind → List ℕ → ℕ → SearchReport
report_of class start bound works last =
    record { class = class; start = start; bound = bound; works = works; last = last }

abbrev pub header_of : SearchReport → Tableau → List Term → Header
header_of report tableau terms =
    record {
      class = report.class;
      start = report.start;
      bound = report.bound;
      size = size report.bound tableau;
      terms = length terms;
      nodes = length (preorder tableau);
    }

-- the header of version 1 where the depth is the bound, and of version 2 where instances are
abbrev pub header_line : BoundKind → Header → Line
header_line Depth header = header_line_1 header
header_line Inferences header = header_line_2 header

-- the line of a term; its arguments by the numbers of their lines
abbrev pub IsTermLine : List Symbol → List Term → Term → Line → Type 0
IsTermLine symbols terms (var n) line = line ≡ variable_line
IsTermLine symbols terms (app number args) line =
    (symbol : Symbol) × (numbers : List ℕ) × (slice_get symbols number ≡ Some symbol)
    × ArePlacesOf terms (list_of args) numbers × (line ≡ application_line symbol numbers)

-- how the line of a node ends: with the depth of the leaf's closer, or the inner node's clause
abbrev pub IsEndingOf : NodeKind → List Literal → Literal → Ending → Type 0
IsEndingOf Leaf above literal ending =
    (closer : ℕ) × IsCloser above literal closer × (ending ≡ closed_by closer)
IsEndingOf (Inner clause) above literal ending = ending ≡ extended_by clause

-- what the line of a node says; its literal's arguments by the numbers of their lines
pub record IsLineOf (symbols : List Symbol) (terms : List Term) (placed : PlacedNode)
    (node : NodeLine) : Type 0 where
  pub depth : node.depth ≡ length placed.above + 1
  pub positive : node.positive ≡ placed.literal.positive
  pub symbol : slice_get symbols placed.literal.predicate ≡ Some node.symbol
  pub numbers : ArePlacesOf terms placed.literal.args node.numbers
  pub ending : IsEndingOf placed.kind placed.above placed.literal node.ending

abbrev pub document_lines :
    SearchReport → Tableau → List Term → List Line → List NodeLine → List Line
document_lines report tableau terms term_lines nodes =
    status_line ∷ level_lines report.works
    ++ proof_line (length report.works) report.last
    ∷ header_line report.bound (header_of report tableau terms)
    ∷ term_lines
    ++ root_line tableau.root ∷ map node_line nodes
    ++ end_line ∷ []

-- The text is the certificate of the tableau: the levels, the header, a line for each term, the
-- root's clause, a line for each node in pre-order, and the end.
pub record IsDocument (symbols : List Symbol) (report : SearchReport) (tableau : Tableau)
    (text : List ℕ) : Type 0 where
  pub terms : List Term
  pub listed : AreListed tableau terms
  pub term_lines : List Line
  pub lines_of_terms : AllZip (IsTermLine symbols terms) terms term_lines
  pub nodes : List NodeLine
  pub lines_of_nodes : AllZip (IsLineOf symbols terms) (placed_nodes tableau) nodes
  pub is : text ≡ text_of (document_lines report tableau terms term_lines nodes)
