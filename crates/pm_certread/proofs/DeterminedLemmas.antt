-- Bytes have one reading.
use Rattle.std.proofs.Common.{◌≡◌, ◌∙◌, ◌<◌, ◌⊎◌, inl, inr, ℕ, ◌+◌, List, [], ◌∷◌, ◌++◌, length, map, Some, sym, ap, refl, subst, arith}
use Rattle.std.specs.Prelude.{slice_get}
use Rattle.std.specs.List.{Contains}
use Rattle.std.proofs.lemmas.Option.{slice_get_within, get_or_from_slice_get}
use Rattle.pm_logic.specs.declared.problem.Class.{Class}
use Rattle.pm_logic.specs.declared.problem.Start.{Start}
use Rattle.pm_logic.specs.declared.tableau.BoundKind.{BoundKind}
use Rattle.pm_logic.specs.Lists.{AreDistinct}
use Rattle.pm_logic.specs.Term.{Term, app, as_terms, tree_at}
use Rattle.pm_logic.specs.Table.{Adds}
use Rattle.pm_logic.specs.Problem.{Symbol, Problem}
use Rattle.pm_logic.specs.Tableau.{Tableau}
use Rattle.pm_logic.proofs.Tableaux.{determined}
use Rattle.pm_certread.specs.declared.error.CertKind.{CertKind}
use Rattle.pm_certread.specs.declared.error.CertKind.TheVariants.{Syntax, TermRange, UnknownSymbol, ClauseRange, DepthOrder, Counts}
use Rattle.pm_certread.specs.Lines.{cut_lines, Header, NodeLine}
use Rattle.pm_certread.specs.Forms.{IsApplication, IsRoot, IsNode}
use Rattle.pm_certread.specs.Certificate.{Certificate}
use Rattle.pm_certread.specs.Reading.{Stage, opening, levels, heading, terms, nodes, Head, TermLines, NodeLines, no_terms, no_nodes, GivesTerm, AddsApplication, AreThere, TermOffends, RootOffends, GivesNode, NodeOffends, NodeLineOffends, entry_of, closer_of, with_node, Leads, Offends, Ends, IsCertificateOf, Outcome, accepted, refused, ReadsFrom}
use Rattle.pm_certread.specs.Laws.{ReadingsAreDetermined}
use Rattle.pm_certread.proofs.SameLines.{not_both_levels, same_header, no_application, same_application, same_root, same_node}

there : (symbols : List Symbol) (number : ℕ) (symbol : Symbol) → slice_get symbols number ≡ Some symbol → Contains symbols symbol
there symbols number symbol found = (number, slice_get_within symbols number symbol found, get_or_from_slice_get symbols number symbol symbol found)

one_number : (symbols : List Symbol) (i j : ℕ) (s t : Symbol) → AreDistinct symbols → slice_get symbols i ≡ Some s → slice_get symbols j ≡ Some t → s ≡ t → i ≡ j
one_number symbols i j s t distinct found found_too same =
    distinct i j (slice_get_within symbols i s found) (slice_get_within symbols j t found_too) (found ∙ ap (λ (x : Symbol). Some x) same ∙ sym found_too)

-- ---- term lines

abbrev lines_with : List Term → List Term → TermLines
lines_with each table = record { each = each; table = table }

lines_same : (a b : TermLines) → a.each ≡ b.each → a.table ≡ b.table → a ≡ b
lines_same a b each table = ap (λ (ts : List Term). lines_with ts a.table) each ∙ ap (λ (ts : List Term). lines_with b.each ts) table

adds_same : (old new other : List Term) (t : Term) (row place : ℕ) → Adds old new t row → Adds old other t place → new ≡ other
adds_same old new other t row place a b = go a.grows b.grows
  where
    go : (((new ≡ old) × Contains old t) ⊎ ((new ≡ old ++ t ∷ []) × (¬ Contains old t))) → (((other ≡ old) × Contains old t) ⊎ ((other ≡ old ++ t ∷ []) × (¬ Contains old t))) → new ≡ other
    go (inl x) (inl y) = x.0 ∙ sym y.0
    go (inl x) (inr y) = absurd (y.1 x.1)
    go (inr x) (inl y) = absurd (x.1 y.1)
    go (inr x) (inr y) = x.0 ∙ sym y.0

application_same : (old new other : TermLines) (symbol : ℕ) (numbers : List ℕ) → AddsApplication old new symbol numbers → AddsApplication old other symbol numbers → new ≡ other
application_same old new other symbol numbers a b =
    lines_same new other (a.each ∙ sym b.each) (adds_same old.table new.table other.table (app symbol (as_terms (map (tree_at old.each) numbers))) a.table.0 b.table.0 a.table.1 b.table.1)

one_term : (symbols : List Symbol) (old new other : TermLines) (raw : List ℕ) → AreDistinct symbols → GivesTerm symbols old raw new → GivesTerm symbols old raw other → new ≡ other
one_term symbols old new other raw distinct (inl a) (inl b) = lines_same new other (a.1.each ∙ sym b.1.each) (a.1.table ∙ sym b.1.table)
one_term symbols old new other raw distinct (inl a) (inr (s, ns, i, is, within, found, adds)) = absurd (no_application raw s ns a.0 is)
one_term symbols old new other raw distinct (inr (s, ns, i, is, within, found, adds)) (inl b) = absurd (no_application raw s ns b.0 is)
one_term symbols old new other raw distinct (inr (s, ns, i, is, within, found, adds)) (inr (t, ms, j, is_too, within_too, found_too, adds_too)) =
    let same = same_application raw s t ns ms is is_too in
    let number : i ≡ j = one_number symbols i j s t distinct found found_too same.0 in
    application_same old new other j ms
    (subst (λ (n : ℕ). AddsApplication old new n ms) number (subst (λ (l : List ℕ). AddsApplication old new i l) same.1 adds)) adds_too

-- numbers that are there in one reading of a line are so in the other
same_numbers : (raw : List ℕ) (each : List Term) (s t : Symbol) (ns ms : List ℕ) → IsApplication raw s ns → IsApplication raw t ms → AreThere each ns → AreThere each ms
same_numbers raw each s t ns ms is is_too within = subst (AreThere each) (same_application raw s t ns ms is is_too).1 within

term_kinds : (symbols : List Symbol) (old : TermLines) (raw : List ℕ) (k l : CertKind) → TermOffends symbols old raw k → TermOffends symbols old raw l → k ≡ l
term_kinds symbols old raw Syntax Syntax a b = refl
term_kinds symbols old raw Syntax TermRange a b = absurd (a.1 b.0 b.1 b.2)
term_kinds symbols old raw Syntax UnknownSymbol a b = absurd (a.1 b.0 b.1 b.2)
term_kinds symbols old raw Syntax ClauseRange a b = absurd b
term_kinds symbols old raw Syntax DepthOrder a b = absurd b
term_kinds symbols old raw Syntax Counts a b = absurd b
term_kinds symbols old raw TermRange Syntax a b = absurd (b.1 a.0 a.1 a.2)
term_kinds symbols old raw TermRange TermRange a b = refl
term_kinds symbols old raw TermRange UnknownSymbol a b = absurd (a.3 (same_numbers raw old.each b.0 a.0 b.1 a.1 b.2 a.2 b.3))
term_kinds symbols old raw TermRange ClauseRange a b = absurd b
term_kinds symbols old raw TermRange DepthOrder a b = absurd b
term_kinds symbols old raw TermRange Counts a b = absurd b
term_kinds symbols old raw UnknownSymbol Syntax a b = absurd (b.1 a.0 a.1 a.2)
term_kinds symbols old raw UnknownSymbol TermRange a b = absurd (b.3 (same_numbers raw old.each a.0 b.0 a.1 b.1 a.2 b.2 a.3))
term_kinds symbols old raw UnknownSymbol UnknownSymbol a b = refl
term_kinds symbols old raw UnknownSymbol ClauseRange a b = absurd b
term_kinds symbols old raw UnknownSymbol DepthOrder a b = absurd b
term_kinds symbols old raw UnknownSymbol Counts a b = absurd b
term_kinds symbols old raw ClauseRange Syntax a b = absurd a
term_kinds symbols old raw ClauseRange TermRange a b = absurd a
term_kinds symbols old raw ClauseRange UnknownSymbol a b = absurd a
term_kinds symbols old raw ClauseRange ClauseRange a b = absurd a
term_kinds symbols old raw ClauseRange DepthOrder a b = absurd a
term_kinds symbols old raw ClauseRange Counts a b = absurd a
term_kinds symbols old raw DepthOrder Syntax a b = absurd a
term_kinds symbols old raw DepthOrder TermRange a b = absurd a
term_kinds symbols old raw DepthOrder UnknownSymbol a b = absurd a
term_kinds symbols old raw DepthOrder ClauseRange a b = absurd a
term_kinds symbols old raw DepthOrder DepthOrder a b = absurd a
term_kinds symbols old raw DepthOrder Counts a b = absurd a
term_kinds symbols old raw Counts Syntax a b = absurd a
term_kinds symbols old raw Counts TermRange a b = absurd a
term_kinds symbols old raw Counts UnknownSymbol a b = absurd a
term_kinds symbols old raw Counts ClauseRange a b = absurd a
term_kinds symbols old raw Counts DepthOrder a b = absurd a
term_kinds symbols old raw Counts Counts a b = absurd a

term_gives_or_offends : (symbols : List Symbol) (old new : TermLines) (raw : List ℕ) (k : CertKind) → GivesTerm symbols old raw new → TermOffends symbols old raw k → ⊥
term_gives_or_offends symbols old new raw Syntax (inl a) bad = bad.0 a.0
term_gives_or_offends symbols old new raw Syntax (inr (s, ns, i, is, within, found, adds)) bad = bad.1 s ns is
term_gives_or_offends symbols old new raw TermRange (inl a) bad = no_application raw bad.0 bad.1 a.0 bad.2
term_gives_or_offends symbols old new raw TermRange (inr (s, ns, i, is, within, found, adds)) bad = bad.3 (same_numbers raw old.each s bad.0 ns bad.1 is bad.2 within)
term_gives_or_offends symbols old new raw UnknownSymbol (inl a) bad = no_application raw bad.0 bad.1 a.0 bad.2
term_gives_or_offends symbols old new raw UnknownSymbol (inr (s, ns, i, is, within, found, adds)) bad =
    bad.4 (subst (Contains symbols) (same_application raw s bad.0 ns bad.1 is bad.2).0 (there symbols i s found))
term_gives_or_offends symbols old new raw ClauseRange gives bad = bad
term_gives_or_offends symbols old new raw DepthOrder gives bad = bad
term_gives_or_offends symbols old new raw Counts gives bad = bad

-- ---- the root's line

root_kinds : (clauses : ℕ) (raw : List ℕ) (k l : CertKind) → RootOffends clauses raw k → RootOffends clauses raw l → k ≡ l
root_kinds clauses raw Syntax Syntax a b = refl
root_kinds clauses raw Syntax TermRange a b = absurd b
root_kinds clauses raw Syntax UnknownSymbol a b = absurd b
root_kinds clauses raw Syntax ClauseRange a b = absurd (a b.0 b.1)
root_kinds clauses raw Syntax DepthOrder a b = absurd b
root_kinds clauses raw Syntax Counts a b = absurd b
root_kinds clauses raw TermRange Syntax a b = absurd a
root_kinds clauses raw TermRange TermRange a b = absurd a
root_kinds clauses raw TermRange UnknownSymbol a b = absurd a
root_kinds clauses raw TermRange ClauseRange a b = absurd a
root_kinds clauses raw TermRange DepthOrder a b = absurd a
root_kinds clauses raw TermRange Counts a b = absurd a
root_kinds clauses raw UnknownSymbol Syntax a b = absurd a
root_kinds clauses raw UnknownSymbol TermRange a b = absurd a
root_kinds clauses raw UnknownSymbol UnknownSymbol a b = absurd a
root_kinds clauses raw UnknownSymbol ClauseRange a b = absurd a
root_kinds clauses raw UnknownSymbol DepthOrder a b = absurd a
root_kinds clauses raw UnknownSymbol Counts a b = absurd a
root_kinds clauses raw ClauseRange Syntax a b = absurd (b a.0 a.1)
root_kinds clauses raw ClauseRange TermRange a b = absurd b
root_kinds clauses raw ClauseRange UnknownSymbol a b = absurd b
root_kinds clauses raw ClauseRange ClauseRange a b = refl
root_kinds clauses raw ClauseRange DepthOrder a b = absurd b
root_kinds clauses raw ClauseRange Counts a b = absurd b
root_kinds clauses raw DepthOrder Syntax a b = absurd a
root_kinds clauses raw DepthOrder TermRange a b = absurd a
root_kinds clauses raw DepthOrder UnknownSymbol a b = absurd a
root_kinds clauses raw DepthOrder ClauseRange a b = absurd a
root_kinds clauses raw DepthOrder DepthOrder a b = absurd a
root_kinds clauses raw DepthOrder Counts a b = absurd a
root_kinds clauses raw Counts Syntax a b = absurd a
root_kinds clauses raw Counts TermRange a b = absurd a
root_kinds clauses raw Counts UnknownSymbol a b = absurd a
root_kinds clauses raw Counts ClauseRange a b = absurd a
root_kinds clauses raw Counts DepthOrder a b = absurd a
root_kinds clauses raw Counts Counts a b = absurd a

root_gives_or_offends : (clauses : ℕ) (raw : List ℕ) (clause : ℕ) (k : CertKind) → IsRoot raw clause → clause < clauses → RootOffends clauses raw k → ⊥
root_gives_or_offends clauses raw clause Syntax is lt bad = bad clause is
root_gives_or_offends clauses raw clause TermRange is lt bad = bad
root_gives_or_offends clauses raw clause UnknownSymbol is lt bad = bad
root_gives_or_offends clauses raw clause ClauseRange is lt bad = let same : bad.0 ≡ clause = same_root raw bad.0 clause bad.1 is in omega (arith, bad.2)
root_gives_or_offends clauses raw clause DepthOrder is lt bad = bad
root_gives_or_offends clauses raw clause Counts is lt bad = bad

-- ---- node lines

one_node : (over : Problem) (each : List Term) (old new other : NodeLines) (raw : List ℕ) (node line : NodeLine) (i j : ℕ) → AreDistinct over.symbols → IsNode raw node → IsNode raw line
    → GivesNode over each old new node i → GivesNode over each old other line j → new ≡ other
one_node over each old new other raw node line i j distinct is is_too a b =
    let same : node ≡ line = same_node raw node line is is_too in
    let number : i ≡ j = one_number over.symbols i j node.symbol line.symbol distinct a.symbol b.symbol (ap (λ (n : NodeLine). n.symbol) same) in
    a.is
    ∙ ap (λ (n : NodeLine). with_node old (entry_of each n i) (closer_of n.ending)) same
    ∙ ap (λ (k : ℕ). with_node old (entry_of each line k) (closer_of line.ending)) number
    ∙ sym b.is

node_kinds : (over : Problem) (each : List Term) (old : NodeLines) (node : NodeLine) (k l : CertKind) → NodeOffends over each old node k → NodeOffends over each old node l → k ≡ l
node_kinds over each old node Syntax Syntax a b = absurd a
node_kinds over each old node Syntax TermRange a b = absurd a
node_kinds over each old node Syntax UnknownSymbol a b = absurd a
node_kinds over each old node Syntax ClauseRange a b = absurd a
node_kinds over each old node Syntax DepthOrder a b = absurd a
node_kinds over each old node Syntax Counts a b = absurd a
node_kinds over each old node TermRange Syntax a b = absurd b
node_kinds over each old node TermRange TermRange a b = refl
node_kinds over each old node TermRange UnknownSymbol a b = absurd (a b.0)
node_kinds over each old node TermRange ClauseRange a b = absurd (a b.0)
node_kinds over each old node TermRange DepthOrder a b = absurd (a b.0)
node_kinds over each old node TermRange Counts a b = absurd b
node_kinds over each old node UnknownSymbol Syntax a b = absurd b
node_kinds over each old node UnknownSymbol TermRange a b = absurd (b a.0)
node_kinds over each old node UnknownSymbol UnknownSymbol a b = refl
node_kinds over each old node UnknownSymbol ClauseRange a b = absurd (a.1 b.1)
node_kinds over each old node UnknownSymbol DepthOrder a b = absurd (a.1 b.1)
node_kinds over each old node UnknownSymbol Counts a b = absurd b
node_kinds over each old node ClauseRange Syntax a b = absurd b
node_kinds over each old node ClauseRange TermRange a b = absurd (b a.0)
node_kinds over each old node ClauseRange UnknownSymbol a b = absurd (b.1 a.1)
node_kinds over each old node ClauseRange ClauseRange a b = refl
node_kinds over each old node ClauseRange DepthOrder a b = absurd (a.2 b.2)
node_kinds over each old node ClauseRange Counts a b = absurd b
node_kinds over each old node DepthOrder Syntax a b = absurd b
node_kinds over each old node DepthOrder TermRange a b = absurd (b a.0)
node_kinds over each old node DepthOrder UnknownSymbol a b = absurd (b.1 a.1)
node_kinds over each old node DepthOrder ClauseRange a b = absurd (b.2 a.2)
node_kinds over each old node DepthOrder DepthOrder a b = refl
node_kinds over each old node DepthOrder Counts a b = absurd b
node_kinds over each old node Counts Syntax a b = absurd a
node_kinds over each old node Counts TermRange a b = absurd a
node_kinds over each old node Counts UnknownSymbol a b = absurd a
node_kinds over each old node Counts ClauseRange a b = absurd a
node_kinds over each old node Counts DepthOrder a b = absurd a
node_kinds over each old node Counts Counts a b = absurd a

other_kinds : (over : Problem) (each : List Term) (old : NodeLines) (raw : List ℕ) (k l : CertKind) (node line : NodeLine) → IsNode raw node → IsNode raw line
    → NodeOffends over each old node k → NodeOffends over each old line l → k ≡ l
other_kinds over each old raw k l node line is is_too a b =
    node_kinds over each old line k l (subst (λ (n : NodeLine). NodeOffends over each old n k) (same_node raw node line is is_too) a) b

node_line_kinds : (over : Problem) (each : List Term) (old : NodeLines) (raw : List ℕ) (k l : CertKind) → NodeLineOffends over each old raw k → NodeLineOffends over each old raw l → k ≡ l
node_line_kinds over each old raw Syntax Syntax a b = refl
node_line_kinds over each old raw Syntax TermRange a b = absurd (a b.0 b.1)
node_line_kinds over each old raw Syntax UnknownSymbol a b = absurd (a b.0 b.1)
node_line_kinds over each old raw Syntax ClauseRange a b = absurd (a b.0 b.1)
node_line_kinds over each old raw Syntax DepthOrder a b = absurd (a b.0 b.1)
node_line_kinds over each old raw Syntax Counts a b = absurd (a b.0 b.1)
node_line_kinds over each old raw TermRange Syntax a b = absurd (b a.0 a.1)
node_line_kinds over each old raw TermRange TermRange a b = other_kinds over each old raw TermRange TermRange a.0 b.0 a.1 b.1 a.2 b.2
node_line_kinds over each old raw TermRange UnknownSymbol a b = other_kinds over each old raw TermRange UnknownSymbol a.0 b.0 a.1 b.1 a.2 b.2
node_line_kinds over each old raw TermRange ClauseRange a b = other_kinds over each old raw TermRange ClauseRange a.0 b.0 a.1 b.1 a.2 b.2
node_line_kinds over each old raw TermRange DepthOrder a b = other_kinds over each old raw TermRange DepthOrder a.0 b.0 a.1 b.1 a.2 b.2
node_line_kinds over each old raw TermRange Counts a b = other_kinds over each old raw TermRange Counts a.0 b.0 a.1 b.1 a.2 b.2
node_line_kinds over each old raw UnknownSymbol Syntax a b = absurd (b a.0 a.1)
node_line_kinds over each old raw UnknownSymbol TermRange a b = other_kinds over each old raw UnknownSymbol TermRange a.0 b.0 a.1 b.1 a.2 b.2
node_line_kinds over each old raw UnknownSymbol UnknownSymbol a b = other_kinds over each old raw UnknownSymbol UnknownSymbol a.0 b.0 a.1 b.1 a.2 b.2
node_line_kinds over each old raw UnknownSymbol ClauseRange a b = other_kinds over each old raw UnknownSymbol ClauseRange a.0 b.0 a.1 b.1 a.2 b.2
node_line_kinds over each old raw UnknownSymbol DepthOrder a b = other_kinds over each old raw UnknownSymbol DepthOrder a.0 b.0 a.1 b.1 a.2 b.2
node_line_kinds over each old raw UnknownSymbol Counts a b = other_kinds over each old raw UnknownSymbol Counts a.0 b.0 a.1 b.1 a.2 b.2
node_line_kinds over each old raw ClauseRange Syntax a b = absurd (b a.0 a.1)
node_line_kinds over each old raw ClauseRange TermRange a b = other_kinds over each old raw ClauseRange TermRange a.0 b.0 a.1 b.1 a.2 b.2
node_line_kinds over each old raw ClauseRange UnknownSymbol a b = other_kinds over each old raw ClauseRange UnknownSymbol a.0 b.0 a.1 b.1 a.2 b.2
node_line_kinds over each old raw ClauseRange ClauseRange a b = other_kinds over each old raw ClauseRange ClauseRange a.0 b.0 a.1 b.1 a.2 b.2
node_line_kinds over each old raw ClauseRange DepthOrder a b = other_kinds over each old raw ClauseRange DepthOrder a.0 b.0 a.1 b.1 a.2 b.2
node_line_kinds over each old raw ClauseRange Counts a b = other_kinds over each old raw ClauseRange Counts a.0 b.0 a.1 b.1 a.2 b.2
node_line_kinds over each old raw DepthOrder Syntax a b = absurd (b a.0 a.1)
node_line_kinds over each old raw DepthOrder TermRange a b = other_kinds over each old raw DepthOrder TermRange a.0 b.0 a.1 b.1 a.2 b.2
node_line_kinds over each old raw DepthOrder UnknownSymbol a b = other_kinds over each old raw DepthOrder UnknownSymbol a.0 b.0 a.1 b.1 a.2 b.2
node_line_kinds over each old raw DepthOrder ClauseRange a b = other_kinds over each old raw DepthOrder ClauseRange a.0 b.0 a.1 b.1 a.2 b.2
node_line_kinds over each old raw DepthOrder DepthOrder a b = other_kinds over each old raw DepthOrder DepthOrder a.0 b.0 a.1 b.1 a.2 b.2
node_line_kinds over each old raw DepthOrder Counts a b = other_kinds over each old raw DepthOrder Counts a.0 b.0 a.1 b.1 a.2 b.2
node_line_kinds over each old raw Counts Syntax a b = absurd (b a.0 a.1)
node_line_kinds over each old raw Counts TermRange a b = other_kinds over each old raw Counts TermRange a.0 b.0 a.1 b.1 a.2 b.2
node_line_kinds over each old raw Counts UnknownSymbol a b = other_kinds over each old raw Counts UnknownSymbol a.0 b.0 a.1 b.1 a.2 b.2
node_line_kinds over each old raw Counts ClauseRange a b = other_kinds over each old raw Counts ClauseRange a.0 b.0 a.1 b.1 a.2 b.2
node_line_kinds over each old raw Counts DepthOrder a b = other_kinds over each old raw Counts DepthOrder a.0 b.0 a.1 b.1 a.2 b.2
node_line_kinds over each old raw Counts Counts a b = other_kinds over each old raw Counts Counts a.0 b.0 a.1 b.1 a.2 b.2

node_gives_or_offends : (over : Problem) (each : List Term) (old new : NodeLines) (node : NodeLine) (predicate : ℕ) (k : CertKind) → GivesNode over each old new node predicate → NodeOffends over each old node k → ⊥
node_gives_or_offends over each old new node predicate Syntax gives bad = bad
node_gives_or_offends over each old new node predicate TermRange gives bad = bad gives.numbers
node_gives_or_offends over each old new node predicate UnknownSymbol gives bad = bad.1 (there over.symbols predicate node.symbol gives.symbol)
node_gives_or_offends over each old new node predicate ClauseRange gives bad = bad.2 gives.clause
node_gives_or_offends over each old new node predicate DepthOrder gives bad = bad.3 gives.order
node_gives_or_offends over each old new node predicate Counts gives bad = bad

node_leads_or_offends : (over : Problem) (each : List Term) (old new : NodeLines) (raw : List ℕ) (node : NodeLine) (predicate : ℕ) (k : CertKind) → IsNode raw node → GivesNode over each old new node predicate
    → NodeLineOffends over each old raw k → ⊥
node_leads_or_offends over each old new raw node predicate Syntax is gives bad = bad node is
node_leads_or_offends over each old new raw node predicate TermRange is gives bad = node_gives_or_offends over each old new node predicate TermRange gives (subst (λ (n : NodeLine). NodeOffends over each old n TermRange) (same_node raw bad.0 node bad.1 is) bad.2)
node_leads_or_offends over each old new raw node predicate UnknownSymbol is gives bad = node_gives_or_offends over each old new node predicate UnknownSymbol gives (subst (λ (n : NodeLine). NodeOffends over each old n UnknownSymbol) (same_node raw bad.0 node bad.1 is) bad.2)
node_leads_or_offends over each old new raw node predicate ClauseRange is gives bad = node_gives_or_offends over each old new node predicate ClauseRange gives (subst (λ (n : NodeLine). NodeOffends over each old n ClauseRange) (same_node raw bad.0 node bad.1 is) bad.2)
node_leads_or_offends over each old new raw node predicate DepthOrder is gives bad = node_gives_or_offends over each old new node predicate DepthOrder gives (subst (λ (n : NodeLine). NodeOffends over each old n DepthOrder) (same_node raw bad.0 node bad.1 is) bad.2)
node_leads_or_offends over each old new raw node predicate Counts is gives bad = node_gives_or_offends over each old new node predicate Counts gives (subst (λ (n : NodeLine). NodeOffends over each old n Counts) (same_node raw bad.0 node bad.1 is) bad.2)

-- ---- a line at a stage

one_next : (over : Problem) (before after : ℕ) (stage next other : Stage) (raw : List ℕ) → AreDistinct over.symbols → Leads over before after stage raw next → Leads over before after stage raw other → next ≡ other
one_next over before after opening next other raw distinct a b = a.1 ∙ sym b.1
one_next over before after (levels level) next other raw distinct (work, inl a) (more, inl b) = a.1 ∙ sym b.1
one_next over before after (levels level) next other raw distinct (work, inl a) (more, inr b) = absurd (not_both_levels raw level work more a.0 b.0)
one_next over before after (levels level) next other raw distinct (work, inr a) (more, inl b) = absurd (not_both_levels raw level more work b.0 a.0)
one_next over before after (levels level) next other raw distinct (work, inr a) (more, inr b) = a.1 ∙ sym b.1
one_next over before after heading next other raw distinct a b =
    a.3 ∙ ap (λ (h : Header). terms (record { header = h; line = before + 1 }) no_terms) (same_header raw a.0 b.0 a.1 b.1) ∙ sym b.3
one_next over before after (terms head old) next other raw distinct (inl a) (inl b) =
    a.3 ∙ ap (terms head) (one_term over.symbols old a.1 b.1 raw distinct a.2 b.2) ∙ sym b.3
one_next over before after (terms head old) next other raw distinct (inl a) (inr b) = absurd (omega (arith, a.0, b.0))
one_next over before after (terms head old) next other raw distinct (inr a) (inl b) = absurd (omega (arith, a.0, b.0))
one_next over before after (terms head old) next other raw distinct (inr a) (inr b) =
    a.4 ∙ ap (λ (clause : ℕ). nodes head old (no_nodes clause)) (same_root raw a.1 b.1 a.2 b.2) ∙ sym b.4
one_next over before after (nodes head each old) next other raw distinct a b =
    a.6 ∙ ap (nodes head each) (one_node over each.each old a.3 b.3 raw a.1 b.1 a.2 b.2 distinct a.4 b.4 a.5 b.5) ∙ sym b.6

leads_or_offends : (over : Problem) (before after : ℕ) (stage next : Stage) (raw : List ℕ) (kind : CertKind) → Leads over before after stage raw next → Offends over after stage raw kind → ⊥
leads_or_offends over before after opening next raw kind a b = b.0 a.0
leads_or_offends over before after (levels level) next raw kind (work, inl a) b = b.0 work (inl a.0)
leads_or_offends over before after (levels level) next raw kind (work, inr a) b = b.0 work (inr a.0)
leads_or_offends over before after heading next raw kind a (inl b) = b.0 a.0 a.1
leads_or_offends over before after heading next raw kind a (inr b) =
    b.0.2 (subst (λ (h : Header). after ≡ h.terms + h.nodes + 2) (same_header raw a.0 b.0.0 a.1 b.0.1) a.2)
leads_or_offends over before after (terms head old) next raw kind (inl a) (inl b) = term_gives_or_offends over.symbols old a.1 raw kind a.2 b.1
leads_or_offends over before after (terms head old) next raw kind (inl a) (inr b) = omega (arith, a.0, b.0)
leads_or_offends over before after (terms head old) next raw kind (inr a) (inl b) = omega (arith, a.0, b.0)
leads_or_offends over before after (terms head old) next raw kind (inr a) (inr b) = root_gives_or_offends (length over.clauses) raw a.1 kind a.2 a.3 b.1
leads_or_offends over before after (nodes head each old) next raw kind a (inl b) = node_leads_or_offends over each.each old a.3 raw a.1 a.2 kind a.4 a.5 b.1
leads_or_offends over before after (nodes head each old) next raw kind a (inr b) = omega (arith, a.0, b.0)

one_kind : (over : Problem) (after : ℕ) (stage : Stage) (raw : List ℕ) (k l : CertKind) → Offends over after stage raw k → Offends over after stage raw l → k ≡ l
one_kind over after opening raw k l a b = a.1 ∙ sym b.1
one_kind over after (levels level) raw k l a b = a.1 ∙ sym b.1
one_kind over after heading raw k l (inl a) (inl b) = a.1 ∙ sym b.1
one_kind over after heading raw k l (inl a) (inr b) = absurd (a.0 b.0.0 b.0.1)
one_kind over after heading raw k l (inr a) (inl b) = absurd (b.0 a.0.0 a.0.1)
one_kind over after heading raw k l (inr a) (inr b) = a.1 ∙ sym b.1
one_kind over after (terms head old) raw k l (inl a) (inl b) = term_kinds over.symbols old raw k l a.1 b.1
one_kind over after (terms head old) raw k l (inl a) (inr b) = absurd (omega (arith, a.0, b.0))
one_kind over after (terms head old) raw k l (inr a) (inl b) = absurd (omega (arith, a.0, b.0))
one_kind over after (terms head old) raw k l (inr a) (inr b) = root_kinds (length over.clauses) raw k l a.1 b.1
one_kind over after (nodes head each old) raw k l (inl a) (inl b) = node_line_kinds over each.each old raw k l a.1 b.1
one_kind over after (nodes head each old) raw k l (inl a) (inr b) = absurd (omega (arith, a.0, b.0))
one_kind over after (nodes head each old) raw k l (inr a) (inl b) = absurd (omega (arith, a.0, b.0))
one_kind over after (nodes head each old) raw k l (inr a) (inr b) = a.2 ∙ sym b.2

ends_or_leads : (over : Problem) (before after : ℕ) (stage next : Stage) (raw : List ℕ) (certificate : Certificate) → Ends stage raw certificate → Leads over before after stage raw next → ⊥
ends_or_leads over before after opening next raw certificate a b = a
ends_or_leads over before after (levels level) next raw certificate a b = a
ends_or_leads over before after heading next raw certificate a b = a
ends_or_leads over before after (terms head old) next raw certificate a b = a
ends_or_leads over before after (nodes head each old) next raw certificate a b = omega (arith, a.0, b.0)

ends_or_offends : (over : Problem) (after : ℕ) (stage : Stage) (raw : List ℕ) (kind : CertKind) (certificate : Certificate) → Ends stage raw certificate → Offends over after stage raw kind → ⊥
ends_or_offends over after opening raw kind certificate a b = a
ends_or_offends over after (levels level) raw kind certificate a b = a
ends_or_offends over after heading raw kind certificate a b = a
ends_or_offends over after (terms head old) raw kind certificate a b = a
ends_or_offends over after (nodes head each old) raw kind certificate a (inl b) = omega (arith, a.0, b.0)
ends_or_offends over after (nodes head each old) raw kind certificate a (inr b) = b.1 a.1

-- ---- certificates

abbrev certificate_with : Class → Start → BoundKind → ℕ → ℕ → ℕ → List Term → Tableau → List ℕ → Certificate
certificate_with class start bound size header root_line trees tableau closers =
    record {
      class = class;
      start = start;
      bound = bound;
      size = size;
      header = header;
      root_line = root_line;
      tableau = record { terms = trees; tableau = tableau };
      closers = closers;
    }

one_certificate : (head : Head) (each : TermLines) (all : NodeLines) (c d : Certificate) → IsCertificateOf head each all c → IsCertificateOf head each all d → c ≡ d
one_certificate head each all c d a b =
    ap (λ (x : Class). certificate_with x c.start c.bound c.size c.header c.root_line c.tableau.terms c.tableau.tableau c.closers) (a.class ∙ sym b.class)
    ∙ ap (λ (x : Start). certificate_with d.class x c.bound c.size c.header c.root_line c.tableau.terms c.tableau.tableau c.closers) (a.start ∙ sym b.start)
    ∙ ap (λ (x : BoundKind). certificate_with d.class d.start x c.size c.header c.root_line c.tableau.terms c.tableau.tableau c.closers) (a.bound ∙ sym b.bound)
    ∙ ap (λ (x : ℕ). certificate_with d.class d.start d.bound x c.header c.root_line c.tableau.terms c.tableau.tableau c.closers) (a.size ∙ sym b.size)
    ∙ ap (λ (x : ℕ). certificate_with d.class d.start d.bound d.size x c.root_line c.tableau.terms c.tableau.tableau c.closers) (a.header ∙ sym b.header)
    ∙ ap (λ (x : ℕ). certificate_with d.class d.start d.bound d.size d.header x c.tableau.terms c.tableau.tableau c.closers) (a.root_line ∙ sym b.root_line)
    ∙ ap (λ (x : List Term). certificate_with d.class d.start d.bound d.size d.header d.root_line x c.tableau.tableau c.closers) (a.terms ∙ sym b.terms)
    ∙ ap (λ (x : Tableau). certificate_with d.class d.start d.bound d.size d.header d.root_line d.tableau.terms x c.closers)
    (determined c.tableau.tableau d.tableau.tableau (a.root ∙ sym b.root) (a.nodes ∙ sym b.nodes))
    ∙ ap (λ (x : List ℕ). certificate_with d.class d.start d.bound d.size d.header d.root_line d.tableau.terms d.tableau.tableau x) (a.closers ∙ sym b.closers)

ends_same : (stage : Stage) (raw : List ℕ) (c d : Certificate) → Ends stage raw c → Ends stage raw d → c ≡ d
ends_same opening raw c d a b = absurd a
ends_same (levels level) raw c d a b = absurd a
ends_same heading raw c d a b = absurd a
ends_same (terms head old) raw c d a b = absurd a
ends_same (nodes head each all) raw c d a b = one_certificate head each all c d a.2 b.2

-- ---- the whole

one_outcome : (over : Problem) (raws : List (List ℕ)) (stage : Stage) (before : ℕ) (one other : Outcome) → AreDistinct over.symbols → ReadsFrom over stage before raws one → ReadsFrom over stage before raws other → one ≡ other
one_outcome over [] stage before one other distinct a b = a ∙ sym b
one_outcome over (raw ∷ raws) stage before one other distinct (inl (next, leads, later)) (inl (after, leads_too, later_too)) =
    one_outcome over raws after (before + 1) one other distinct
    (subst (λ (s : Stage). ReadsFrom over s (before + 1) raws one) (one_next over before (length raws) stage next after raw distinct leads leads_too) later) later_too
one_outcome over (raw ∷ raws) stage before one other distinct (inl (next, leads, later)) (inr (inl (kind, bad, is))) = absurd (leads_or_offends over before (length raws) stage next raw kind leads bad)
one_outcome over (raw ∷ raws) stage before one other distinct (inl (next, leads, later)) (inr (inr (c, ends, is))) = absurd (ends_or_leads over before (length raws) stage next raw c ends leads)
one_outcome over (raw ∷ raws) stage before one other distinct (inr (inl (kind, bad, is))) (inl (next, leads, later)) = absurd (leads_or_offends over before (length raws) stage next raw kind leads bad)
one_outcome over (raw ∷ raws) stage before one other distinct (inr (inl (kind, bad, is))) (inr (inl (second, bad_too, is_too))) =
    is ∙ ap (refused (before + 1)) (one_kind over (length raws) stage raw kind second bad bad_too) ∙ sym is_too
one_outcome over (raw ∷ raws) stage before one other distinct (inr (inl (kind, bad, is))) (inr (inr (c, ends, is_too))) = absurd (ends_or_offends over (length raws) stage raw kind c ends bad)
one_outcome over (raw ∷ raws) stage before one other distinct (inr (inr (c, ends, is))) (inl (next, leads, later)) = absurd (ends_or_leads over before (length raws) stage next raw c ends leads)
one_outcome over (raw ∷ raws) stage before one other distinct (inr (inr (c, ends, is))) (inr (inl (kind, bad, is_too))) = absurd (ends_or_offends over (length raws) stage raw kind c ends bad)
one_outcome over (raw ∷ raws) stage before one other distinct (inr (inr (c, ends, is))) (inr (inr (d, ends_too, is_too))) =
    is ∙ ap accepted (ends_same stage raw c d ends ends_too) ∙ sym is_too

pub determined_reading : ReadingsAreDetermined
determined_reading over bytes one other distinct a b = one_outcome over (cut_lines bytes) opening 0 one other distinct a b
