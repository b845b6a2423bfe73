-- How bytes are read: as a certificate, or with their first refusal.
use Rattle.std.specs.Prelude.{◌≡◌, ◌≢◌, ℕ, ◌+◌, ◌<◌, ◌≤◌, ◌⊎◌, List, [], ◌∷◌, ◌++◌, length, map, All, Contains, Some, slice_get}
use Rattle.pm_logic.specs.declared.tableau.NodeKind.{NodeKind}
use Rattle.pm_logic.specs.declared.tableau.NodeKind.TheVariants.{Leaf, Inner}
use Rattle.pm_logic.specs.Term.{Term, var, app, as_terms, tree_at}
use Rattle.pm_logic.specs.Table.{Adds, variable_count}
use Rattle.pm_logic.specs.Problem.{Symbol, Problem}
use Rattle.pm_logic.specs.Tableau.{Entry, preorder, deepest_next}
use Rattle.pm_certread.specs.declared.error.CertKind.{CertKind}
use Rattle.pm_certread.specs.declared.error.CertKind.TheVariants.{Syntax, TermRange, UnknownSymbol, ClauseRange, DepthOrder, Counts}
use Rattle.pm_certread.specs.Lines.{ended, cut_lines, status_line, Header, variable_line, Ending, closed_by, extended_by, NodeLine, end_line}
use Rattle.pm_certread.specs.Forms.{IsExhausted, IsProved, IsHeader, IsApplication, IsRoot, IsNode}
use Rattle.pm_certread.specs.Certificate.{Certificate}

-- the header, and its line
pub record Head : Type 0 where
  pub header : Header
  pub line : ℕ

-- the terms of the term lines, one for each, and these terms each once
pub record TermLines : Type 0 where
  pub each : List Term
  pub table : List Term

-- the root's clause; the nodes in pre-order, and for each the depth of the ancestor that closes it,
-- 0 for an inner node
pub record NodeLines : Type 0 where
  pub root : ℕ
  pub entries : List Entry
  pub closers : List ℕ

-- what the lines so far have given
pub data Stage : Type 0 where
  opening : Stage
  levels : ℕ → Stage
  heading : Stage
  terms : Head → TermLines → Stage
  nodes : Head → TermLines → NodeLines → Stage

-- ---- a term line

-- the next variable
pub record AddsVariable (old new : TermLines) : Type 0 where
  pub each : new.each ≡ old.each ++ var (variable_count old.table) ∷ []
  pub table : new.table ≡ old.table ++ var (variable_count old.table) ∷ []

-- the application of the symbol of this number to the terms of these lines
pub record AddsApplication (old new : TermLines) (symbol : ℕ) (numbers : List ℕ) : Type 0 where
  pub each : new.each ≡ old.each ++ app symbol (as_terms (map (tree_at old.each) numbers)) ∷ []
  pub table :
      (row : ℕ)
      × Adds old.table new.table (app symbol (as_terms (map (tree_at old.each) numbers))) row

-- these are numbers of the term lines so far
abbrev pub AreThere : List Term → List ℕ → Type 0
AreThere each numbers = All (λ number. number < length each) numbers

abbrev pub GivesTerm : List Symbol → TermLines → List ℕ → TermLines → Type 0
GivesTerm symbols old raw new =
    ((raw ≡ ended variable_line) × AddsVariable old new)
    ⊎ ((symbol : Symbol) × (numbers : List ℕ) × (number : ℕ) × IsApplication raw symbol numbers
    × AreThere old.each numbers × (slice_get symbols number ≡ Some symbol)
    × AddsApplication old new number numbers)

-- of several kinds the first counts
abbrev pub TermOffends : List Symbol → TermLines → List ℕ → CertKind → Type 0
TermOffends symbols old raw Syntax =
    (raw ≢ ended variable_line)
    × ((symbol : Symbol) (numbers : List ℕ) → ¬ IsApplication raw symbol numbers)
TermOffends symbols old raw TermRange =
    (symbol : Symbol) × (numbers : List ℕ) × IsApplication raw symbol numbers
    × (¬ AreThere old.each numbers)
TermOffends symbols old raw UnknownSymbol =
    (symbol : Symbol) × (numbers : List ℕ) × IsApplication raw symbol numbers
    × AreThere old.each numbers × (¬ Contains symbols symbol)
TermOffends symbols old raw kind = ⊥

-- ---- the root's line

abbrev pub RootOffends : ℕ → List ℕ → CertKind → Type 0
RootOffends clauses raw Syntax = (clause : ℕ) → ¬ IsRoot raw clause
RootOffends clauses raw ClauseRange = (clause : ℕ) × IsRoot raw clause × (clauses ≤ clause)
RootOffends clauses raw kind = ⊥

-- ---- a node's line

abbrev pub kind_of : Ending → NodeKind
kind_of (closed_by depth) = Leaf
kind_of (extended_by clause) = Inner clause

abbrev pub closer_of : Ending → ℕ
closer_of (closed_by depth) = depth
closer_of (extended_by clause) = 0

-- the node of a line, its predicate by number
abbrev pub entry_of : List Term → NodeLine → ℕ → Entry
entry_of each node predicate =
    record {
      depth = node.depth;
      literal =
          record {
            positive = node.positive;
            predicate = predicate;
            args = map (tree_at each) node.numbers;
          };
      kind = kind_of node.ending;
    }

abbrev pub with_node : NodeLines → Entry → ℕ → NodeLines
with_node old entry closer =
    record {
      root = old.root;
      entries = old.entries ++ entry ∷ [];
      closers = old.closers ++ closer ∷ [];
    }

-- the clause of an inner node is one of so many
abbrev pub HasClause : ℕ → Ending → Type 0
HasClause clauses (closed_by depth) = Unit {0}
HasClause clauses (extended_by clause) = clause < clauses

-- a leaf is closed by an ancestor, which lies above it
abbrev pub ClosesAbove : ℕ → Ending → Type 0
ClosesAbove depth (closed_by above) = (1 ≤ above) × (above < depth)
ClosesAbove depth (extended_by clause) = Unit {0}

-- the node may come after these in pre-order
pub record IsInOrder (before : List Entry) (node : NodeLine) : Type 0 where
  pub below_root : 1 ≤ node.depth
  pub shallow : node.depth ≤ 250
  pub next : node.depth ≤ deepest_next before
  pub closer : ClosesAbove node.depth node.ending

-- a line that gives the next node
pub record GivesNode (over : Problem) (each : List Term) (old new : NodeLines) (node : NodeLine)
    (predicate : ℕ) : Type 0 where
  pub numbers : AreThere each node.numbers
  pub symbol : slice_get over.symbols predicate ≡ Some node.symbol
  pub clause : HasClause (length over.clauses) node.ending
  pub order : IsInOrder old.entries node
  pub is : new ≡ with_node old (entry_of each node predicate) (closer_of node.ending)

-- what is wrong with a node, its line having the form of one; of several kinds the first counts
abbrev pub NodeOffends : Problem → List Term → NodeLines → NodeLine → CertKind → Type 0
NodeOffends over each old node TermRange = ¬ AreThere each node.numbers
NodeOffends over each old node UnknownSymbol =
    AreThere each node.numbers × (¬ Contains over.symbols node.symbol)
NodeOffends over each old node ClauseRange =
    AreThere each node.numbers × Contains over.symbols node.symbol
    × (¬ HasClause (length over.clauses) node.ending)
NodeOffends over each old node DepthOrder =
    AreThere each node.numbers × Contains over.symbols node.symbol
    × HasClause (length over.clauses) node.ending × (¬ IsInOrder old.entries node)
NodeOffends over each old node kind = ⊥

-- a node's line may also have another form
abbrev pub NodeLineOffends : Problem → List Term → NodeLines → List ℕ → CertKind → Type 0
NodeLineOffends over each old raw Syntax = (node : NodeLine) → ¬ IsNode raw node
NodeLineOffends over each old raw kind =
    (node : NodeLine) × IsNode raw node × NodeOffends over each old node kind

-- ---- the whole

abbrev pub no_terms : TermLines
no_terms = record { each = []; table = [] }

abbrev pub no_nodes : ℕ → NodeLines
no_nodes clause = record { root = clause; entries = []; closers = [] }

-- The line leads from one stage to the next, where so many lines stand before it and so many after
-- it.
abbrev pub Leads : Problem → ℕ → ℕ → Stage → List ℕ → Stage → Type 0
Leads over before after opening raw next = (raw ≡ ended status_line) × (next ≡ levels 0)
Leads over before after (levels level) raw next =
    (work : ℕ)
    × ((IsExhausted raw level work × (next ≡ levels (level + 1)))
    ⊎ (IsProved raw level work × (next ≡ heading)))
Leads over before after heading raw next =
    (h : Header) × IsHeader raw h × (after ≡ h.terms + h.nodes + 2)
    × (next ≡ terms (record { header = h; line = before + 1 }) no_terms)
Leads over before after (terms head old) raw next =
    ((length old.each < head.header.terms)
    × (new : TermLines) × GivesTerm over.symbols old raw new × (next ≡ terms head new))
    ⊎ ((head.header.terms ≤ length old.each)
    × (clause : ℕ) × IsRoot raw clause × (clause < length over.clauses)
    × (next ≡ nodes head old (no_nodes clause)))
Leads over before after (nodes head each old) raw next =
    (length old.entries < head.header.nodes)
    × (node : NodeLine) × (predicate : ℕ) × (new : NodeLines) × IsNode raw node
    × GivesNode over each.each old new node predicate × (next ≡ nodes head each new)

-- the line is refused
abbrev pub Offends : Problem → ℕ → Stage → List ℕ → CertKind → Type 0
Offends over after opening raw kind = (raw ≢ ended status_line) × (kind ≡ Syntax)
Offends over after (levels level) raw kind =
    ((work : ℕ) → ¬ (IsExhausted raw level work ⊎ IsProved raw level work)) × (kind ≡ Syntax)
Offends over after heading raw kind =
    (((h : Header) → ¬ IsHeader raw h) × (kind ≡ Syntax))
    ⊎ (((h : Header) × IsHeader raw h × (after ≢ h.terms + h.nodes + 2)) × (kind ≡ Counts))
Offends over after (terms head old) raw kind =
    ((length old.each < head.header.terms) × TermOffends over.symbols old raw kind)
    ⊎ ((head.header.terms ≤ length old.each) × RootOffends (length over.clauses) raw kind)
Offends over after (nodes head each old) raw kind =
    ((length old.entries < head.header.nodes) × NodeLineOffends over each.each old raw kind)
    ⊎ ((head.header.nodes ≤ length old.entries) × (raw ≢ ended end_line) × (kind ≡ Syntax))

-- the certificate of the lines
pub record IsCertificateOf (head : Head) (each : TermLines) (all : NodeLines)
    (certificate : Certificate) : Type 0 where
  pub class : certificate.class ≡ head.header.class
  pub start : certificate.start ≡ head.header.start
  pub bound : certificate.bound ≡ head.header.bound
  pub size : certificate.size ≡ head.header.size
  pub header : certificate.header ≡ head.line
  pub root_line : certificate.root_line ≡ head.line + head.header.terms + 1
  pub terms : certificate.tableau.terms ≡ each.table
  pub root : certificate.tableau.tableau.root ≡ all.root
  pub nodes : preorder certificate.tableau.tableau ≡ all.entries
  pub closers : certificate.closers ≡ all.closers

-- the line is the last, and all lines give this certificate
abbrev pub Ends : Stage → List ℕ → Certificate → Type 0
Ends (nodes head each all) raw certificate =
    (head.header.nodes ≤ length all.entries) × (raw ≡ ended end_line)
    × IsCertificateOf head each all certificate
Ends stage raw certificate = ⊥

pub data Outcome : Type 0 where
  accepted : Certificate → Outcome
  refused : ℕ → CertKind → Outcome

-- What the lines come to from a stage on, where so many stand before them: they are read in order,
-- a line that is missing is of wrong form, and the first refusal counts.
abbrev pub ReadsFrom : Problem → Stage → ℕ → List (List ℕ) → Outcome → Type 0
ReadsFrom over stage before [] outcome = outcome ≡ refused (before + 1) Syntax
ReadsFrom over stage before (raw ∷ raws) outcome =
    ((next : Stage) × Leads over before (length raws) stage raw next
    × ReadsFrom over next (before + 1) raws outcome)
    ⊎ ((kind : CertKind) × Offends over (length raws) stage raw kind
    × (outcome ≡ refused (before + 1) kind))
    ⊎ ((certificate : Certificate) × Ends stage raw certificate
    × (outcome ≡ accepted certificate))

-- the reading of a document
abbrev pub Reads : Problem → List ℕ → Outcome → Type 0
Reads over bytes outcome = ReadsFrom over opening 0 (cut_lines bytes) outcome
