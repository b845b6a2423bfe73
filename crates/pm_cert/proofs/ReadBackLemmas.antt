-- A written certificate is read, line by line.
use Rattle.std.proofs.Common.{◌≡◌, ◌⊎◌, inl, inr, ℕ, zero, suc, ◌+◌, ◌<◌, ◌≤◌, Bool, List, [], ◌∷◌, ◌++◌, Option, Some, None, length, map, refl, sym, ap, ap₂, subst, ◌∙◌, append_assoc, length-append, arith}
use Rattle.std.specs.Prelude.{slice_get}
use Rattle.std.specs.List.{All, AllZip, Contains}
use Rattle.std.specs.Option.{IsSomeAnd}
use Rattle.std.proofs.lemmas.List.{append-nil, map-append, length-map}
use Rattle.std.proofs.lemmas.List.Elements.{All-nil, All-cons, All-head, All-tail, All-contains}
use Rattle.std.proofs.lemmas.Option.{slice_get_within, get_or_from_slice_get}
use Rattle.pm_logic.specs.declared.tableau.BoundKind.{BoundKind}
use Rattle.pm_logic.specs.declared.tableau.BoundKind.TheVariants.{Depth, Inferences}
use Rattle.pm_logic.specs.declared.tableau.NodeKind.{NodeKind}
use Rattle.pm_logic.specs.declared.tableau.NodeKind.TheVariants.{Leaf, Inner}
use Rattle.pm_logic.specs.declared.symbols.Kind.{Kind}
use Rattle.pm_logic.specs.declared.symbols.Kind.TheVariants.{Predicate, Function, Equality}
use Rattle.pm_logic.specs.Lists.{AreDistinct}
use Rattle.pm_logic.specs.Problem.{Problem, Symbol, Literal, HasShape, IsEquality, IsPrintable, IsTermOver, IsLiteralOver, IsValid}
use Rattle.pm_logic.specs.Tableau.{Entry, Tableau, deepest_after, deepest_next, preorder, size}
use Rattle.pm_logic.specs.Term as term
use Rattle.pm_logic.specs.Term.{Term, Terms, var, app, as_terms, list_of, tree_at}
use Rattle.pm_logic.proofs.ListLemmas.{slice_get-last, Contains-from, Contains-stands}
use Rattle.pm_calculus.specs.Substitution.{AreComplementary}
use Rattle.pm_certread.specs.Certificate.{Certificate}
use Rattle.pm_certread.specs.Lines.{Line, ended, text_of, cut_lines, level_line, level_lines, level_lines_from, proof_line, Header, root_line, Ending, NodeLine, node_line, end_line, status_line}
use Rattle.pm_certread.specs.Forms.{IsNumber, IsExhausted, IsProved, IsHeader, IsApplication, IsPredicate, IsNode, ending_number}
use Rattle.pm_certread.specs.Laws.{HasClauseOf}
use Rattle.pm_certread.specs.Reading.{Head, TermLines, NodeLines, Stage, opening, levels, heading, terms, nodes, AreThere, GivesTerm, kind_of, closer_of, entry_of, with_node, HasClause, ClosesAbove, GivesNode, no_terms, no_nodes, Leads, Ends, Outcome, accepted, ReadsFrom}
use Rattle.pm_certread.proofs.NodeLemmas.{deepest_grows}
use Rattle.pm_cert.specs.Ancestors.{PlacedNode, placed_nodes, IsComplementaryAt, IsCloser}
use Rattle.pm_cert.specs.Terms.{ArePlacesOf}
use Rattle.pm_cert.specs.Text.{SearchReport, header_of, header_line, IsTermLine, IsEndingOf, IsLineOf, IsDocument}
use Rattle.pm_cert.specs.Laws.{IsCloserBeside, IsCertifiable, HasSmallNumbers, CertificatesReadBack}
use Rattle.pm_cert.specs.Inside.Listing.{HasArgsIn, FollowArgs}
use Rattle.pm_cert.proofs.OrderLemmas.{AreInTurn, listed-in_turn, AreNested, nested_nodes, shallow_nodes, entry_at, entries_among}
use Rattle.pm_cert.proofs.DocumentLemmas.{listed-follow, listed-over, nested_lines, document_nested}
use Rattle.pm_cert.proofs.DeterminedLemmas.{listed_distinct}
use Rattle.pm_cert.proofs.PlainLemmas.{HasNoEnd, HaveNoEnds, no_ends-append, cut_text, level_inside, proof_inside, header_inside, application_inside, root_inside, node_inside}

-- ---- a line that leads on

leads_on : (over : Problem) (stage next : Stage) (n : ℕ) (raw : List ℕ) (raws : List (List ℕ)) (outcome : Outcome)
    → Leads over n (length raws) stage raw next → ReadsFrom over next (n + 1) raws outcome → ReadsFrom over stage n (raw ∷ raws) outcome
leads_on over stage next n raw raws outcome leads later = inl (next, leads, later)

-- ---- the levels

pub levels_read : (over : Problem) (works : List ℕ) (level n : ℕ) (raws : List (List ℕ)) (outcome : Outcome) → All IsNumber works → IsNumber (level + length works)
    → ReadsFrom over (levels (level + length works)) (n + length works) raws outcome
    → ReadsFrom over (levels level) n (map ended (level_lines_from level works) ++ raws) outcome
levels_read over [] level n raws outcome small few later =
    let same : level + 0 ≡ level = omega arith in
    let place : n + 0 ≡ n = omega arith in
    subst (λ (k : ℕ). ReadsFrom over (levels k) n raws outcome) same (subst (λ (k : ℕ). ReadsFrom over (levels (level + 0)) k raws outcome) place later)
levels_read over (work ∷ works) level n raws outcome small few later =
    let same : level + suc (length works) ≡ level + 1 + length works = omega arith in
    let place : n + suc (length works) ≡ n + 1 + length works = omega arith in
    let line : IsExhausted (ended (level_line level work)) level work = record { small_level = omega arith; small_work = All-head IsNumber work works small; is = refl } in
    leads_on over (levels level) (levels (level + 1)) n (ended (level_line level work)) (map ended (level_lines_from (level + 1) works) ++ raws) outcome
    (work, inl (line, refl))
    (levels_read over works (level + 1) (n + 1) raws outcome (All-tail IsNumber work works small) (subst IsNumber same few)
    (subst (λ (k : ℕ). ReadsFrom over (levels k) (n + 1 + length works) raws outcome) same (subst (λ (k : ℕ). ReadsFrom over (levels (level + suc (length works))) k raws outcome) place later)))

-- ---- term lines

-- the terms of the lines so far, each of which is another
abbrev lines_for : List Term → TermLines
lines_for ts = record { each = ts; table = ts }

as_list : (ts : Terms) → as_terms (list_of ts) ≡ ts
as_list term.no_terms = refl
as_list (term.more_terms t ts) = ap (term.more_terms t) (as_list ts)

stands_before : (before rest : List Term) (t : Term) (i : ℕ) → slice_get before i ≡ Some t → slice_get (before ++ rest) i ≡ Some t
stands_before [] rest t i e = absurd cc
stands_before (x ∷ xs) rest t zero e = e
stands_before (x ∷ xs) rest t (suc i) e = stands_before xs rest t i e

-- arguments that are among the terms before have their places there
places_before : (before rest args : List Term) (numbers : List ℕ) → AreDistinct (before ++ rest) → All (Contains before) args → ArePlacesOf (before ++ rest) args numbers
    → AreThere before numbers × (map (tree_at before) numbers ≡ args)
places_before before rest [] [] distinct there places = (All-nil (λ n. n < length before), refl)
places_before before rest [] (n ∷ ns) distinct there places = absurd cc
places_before before rest (t ∷ ts) [] distinct there places = absurd cc
places_before before rest (t ∷ ts) (n ∷ ns) distinct there places =
    let stands : slice_get (before ++ rest) n ≡ Some t = cc in
    let later : map (slice_get (before ++ rest)) ns ≡ map Some ts = cc in
    let place = Contains-stands before t (All-head (Contains before) t ts there) in
    let also : slice_get (before ++ rest) place.0 ≡ Some t = stands_before before rest t place.0 place.1 in
    let same : place.0 ≡ n = distinct place.0 n (slice_get_within (before ++ rest) place.0 t also) (slice_get_within (before ++ rest) n t stands) (also ∙ sym stands) in
    let here : slice_get before n ≡ Some t = ap (slice_get before) (sym same) ∙ place.1 in
    let others = places_before before rest ts ns distinct (All-tail (Contains before) t ts there) later in (
      All-cons (λ k. k < length before) n ns (slice_get_within before n t here) others.0,
      ap₂ (λ (u : Term) (us : List Term). u ∷ us) (get_or_from_slice_get before n t (var 0) here) others.1,
    )

-- a term that is listed later isn't there yet
not_before : (before rest : List Term) (t : Term) → AreDistinct (before ++ t ∷ rest) → ¬ Contains before t
not_before before rest t distinct there =
    let place = Contains-stands before t there in
    let also : slice_get (before ++ t ∷ rest) place.0 ≡ Some t = stands_before before (t ∷ rest) t place.0 place.1 in
    let own : slice_get (before ++ t ∷ rest) (length before) ≡ Some t = middle before in
    let lt : place.0 < length before = slice_get_within before place.0 t place.1 in
    let same : place.0 ≡ length before = distinct place.0 (length before) (slice_get_within (before ++ t ∷ rest) place.0 t also) (slice_get_within (before ++ t ∷ rest) (length before) t own) (also ∙ sym own) in
    omega arith
  where
    middle : (xs : List Term) → slice_get (xs ++ t ∷ rest) (length xs) ≡ Some t
    middle [] = refl
    middle (x ∷ xs) = middle xs

pub places_small : (full : List Term) (args : List Term) (numbers : List ℕ) → IsNumber (length full) → ArePlacesOf full args numbers → All IsNumber numbers
places_small full [] [] few places = All-nil IsNumber
places_small full [] (n ∷ ns) few places = absurd cc
places_small full (t ∷ ts) [] few places = absurd cc
places_small full (t ∷ ts) (n ∷ ns) few places =
    let stands : slice_get full n ≡ Some t = cc in
    let later : map (slice_get full) ns ≡ map Some ts = cc in
    let lt : n < length full = slice_get_within full n t stands in
    All-cons IsNumber n ns (omega arith) (places_small full ts ns few later)

places_count : (full args : List Term) (numbers : List ℕ) → ArePlacesOf full args numbers → length numbers ≡ length args
places_count full args numbers places = sym (length-map numbers (slice_get full)) ∙ ap length places ∙ length-map args Some

-- the symbol of a shape
pub shaped : (symbols : List Symbol) (number : ℕ) (kind : Kind) (arity : ℕ) (symbol : Symbol) → HasShape symbols number kind arity → slice_get symbols number ≡ Some symbol
    → (symbol.kind ≡ kind) × (symbol.arity ≡ arity)
shaped symbols number kind arity symbol h e = subst (λ (o : Option Symbol). IsSomeAnd o (λ s. (s.kind ≡ kind) × (s.arity ≡ arity))) e h

pub in_valid : (over : Problem) (P : Symbol → Type 0) (number : ℕ) (symbol : Symbol) → All P over.symbols → slice_get over.symbols number ≡ Some symbol → P symbol
in_valid over P number symbol all e = All-contains P over.symbols symbol all (Contains-from over.symbols number symbol e)

module _ (over : Problem) (valid : IsValid over) (full : List Term) (few : IsNumber (length full)) (distinct : AreDistinct full) where
  -- the line of a term gives it
  gives : (before rest : List Term) (t : Term) (vars : ℕ) (line : Line) → full ≡ before ++ t ∷ rest → IsTermOver over.symbols vars t → HasArgsIn before t → AreInTurn before (t ∷ rest)
      → IsTermLine over.symbols full t line → GivesTerm over.symbols (lines_for before) (ended line) (lines_for (before ++ t ∷ []))
  gives before rest (var n) vars line is own args turn told =
      inl (
        ap ended told,
        record {
          each = ap (λ (m : ℕ). before ++ var m ∷ []) turn.0;
          table = ap (λ (m : ℕ). before ++ var m ∷ []) turn.0;
        },
      )
  gives before rest (app f ts) vars line is own args turn told =
      let split : ArePlacesOf (before ++ app f ts ∷ rest) (list_of ts) told.1 = subst (λ (all : List Term). ArePlacesOf all (list_of ts) told.1) is told.3 in
      let once : AreDistinct (before ++ app f ts ∷ rest) = subst (λ (all : List Term). AreDistinct all) is distinct in
      let places = places_before before (app f ts ∷ rest) (list_of ts) told.1 once args split in
      let shape = shaped over.symbols f Function (length (list_of ts)) told.0 own.0 told.2 in
      let tree : app f (as_terms (map (tree_at before) told.1)) ≡ app f ts = ap (λ (us : List Term). app f (as_terms us)) places.1 ∙ ap (app f) (as_list ts) in
      let form : IsApplication (ended line) told.0 told.1 = record {
        function = record {
          text = in_valid over (λ s. IsPrintable s.text) f told.0 valid.texts told.2;
          count = shape.1 ∙ sym (places_count full (list_of ts) told.1 told.3);
          kind = shape.0;
        };
        small = places_small full (list_of ts) told.1 few told.3;
        is = ap ended told.4;
      } in
      inr (
        told.0,
        told.1,
        f,
        form,
        places.0,
        told.2,
        record {
          each = ap (λ (u : Term). before ++ u ∷ []) (sym tree);
          table = (
            length before,
            record {
              stands = slice_get-last before (app f ts) ∙ ap Some (sym tree);
              grows = inr (ap (λ (u : Term). before ++ u ∷ []) (sym tree), λ h. not_before before rest (app f ts) once (subst (Contains before) tree h));
            },
          );
        },
      )

  pub terms_read : (head : Head) (before ts : List Term) (vars n : ℕ) (lines : List Line) (raws : List (List ℕ)) (outcome : Outcome) → full ≡ before ++ ts
      → length full ≤ head.header.terms → All (IsTermOver over.symbols vars) ts → FollowArgs before ts → AreInTurn before ts → AllZip (IsTermLine over.symbols full) ts lines
      → ReadsFrom over (terms head (lines_for full)) (n + length ts) raws outcome
      → ReadsFrom over (terms head (lines_for before)) n (map ended lines ++ raws) outcome
  terms_read head before [] vars n [] raws outcome is room own follow turn told later =
      let place : n + 0 ≡ n = omega arith in
      subst (λ (ts : List Term). ReadsFrom over (terms head (lines_for ts)) n raws outcome) (is ∙ append-nil before)
      (subst (λ (k : ℕ). ReadsFrom over (terms head (lines_for full)) k raws outcome) place later)
  terms_read head before [] vars n (l ∷ ls) raws outcome is room own follow turn told later = absurd told
  terms_read head before (t ∷ ts) vars n [] raws outcome is room own follow turn told later = absurd told
  terms_read head before (t ∷ ts) vars n (l ∷ ls) raws outcome is room own follow turn told later =
      let place : n + suc (length ts) ≡ n + 1 + length ts = omega arith in
      let count : length full ≡ length before + suc (length ts) = ap length is ∙ length-append before (t ∷ ts) in
      let lt : length before < head.header.terms = omega (arith, count, room) in
      let first = All-head (IsTermOver over.symbols vars) t ts own in
      leads_on over (terms head (lines_for before)) (terms head (lines_for (before ++ t ∷ []))) n (ended l) (map ended ls ++ raws) outcome
      (inl (lt, lines_for (before ++ t ∷ []), gives before ts t vars l is first follow.0 turn told.0, refl))
      (terms_read head (before ++ t ∷ []) ts vars (n + 1) ls raws outcome (is ∙ sym (append_assoc before (t ∷ []) ts)) room
      (All-tail (IsTermOver over.symbols vars) t ts own) follow.1 (turn_next before t ts turn) told.1
      (subst (λ (k : ℕ). ReadsFrom over (terms head (lines_for full)) k raws outcome) place later))
    where
      turn_next : (before : List Term) (t : Term) (ts : List Term) → AreInTurn before (t ∷ ts) → AreInTurn (before ++ t ∷ []) ts
      turn_next before (var n) ts h = h.1
      turn_next before (app f args) ts h = h

-- ---- node lines

-- what holds of a node of a tableau that a certificate can hold
pub record IsFit (over : Problem) (vars : ℕ) (e : Entry) : Type 0 where
  pub literal : IsLiteralOver over.symbols vars e.literal
  pub clause : HasClauseOf (length over.clauses) e.kind
  pub shallow : e.depth ≤ 250

-- the terms of the places
places_terms : (full args : List Term) (numbers : List ℕ) → ArePlacesOf full args numbers → AreThere full numbers × (map (tree_at full) numbers ≡ args)
places_terms full [] [] places = (All-nil (λ n. n < length full), refl)
places_terms full [] (n ∷ ns) places = absurd cc
places_terms full (t ∷ ts) [] places = absurd cc
places_terms full (t ∷ ts) (n ∷ ns) places =
    let stands : slice_get full n ≡ Some t = cc in
    let later : map (slice_get full) ns ≡ map Some ts = cc in
    let others = places_terms full ts ns later in (
      All-cons (λ k. k < length full) n ns (slice_get_within full n t stands) others.0,
      ap₂ (λ (u : Term) (us : List Term). u ∷ us) (get_or_from_slice_get full n t (var 0) stands) others.1,
    )

closer_within : (above : List Literal) (literal : Literal) (place : ℕ) → IsComplementaryAt above literal place → place < length above
closer_within above literal place h = by (slice_get above place) refl h
  where
    by : (o : Option Literal) → slice_get above place ≡ o → IsSomeAnd o (AreComplementary literal) → place < length above
    by None e h = absurd h
    by (Some l) e h = slice_get_within above place l e

-- what an ending says of the node
record EndsAs (clauses : ℕ) (kind : NodeKind) (at_depth : ℕ) (ending : Ending) : Type 0 where
  pub same : kind_of ending ≡ kind
  pub clause : HasClause clauses ending
  pub above : ClosesAbove at_depth ending
  pub small : IsNumber (ending_number ending)

ends_as : (clauses : ℕ) (kind : NodeKind) (above : List Literal) (literal : Literal) (at_depth : ℕ) (ending : Ending) → clauses ≤ 65536 → at_depth ≡ length above + 1 → at_depth ≤ 250
    → HasClauseOf clauses kind → IsEndingOf kind above literal ending → EndsAs clauses kind at_depth ending
ends_as clauses Leaf above literal at_depth ending few deep shallow has is =
    let closer = is.1 in
    let within : closer.place < length above = closer_within above literal closer.place closer.complementary in
    subst (EndsAs clauses Leaf at_depth) (sym is.2)
    (record { same = refl; clause = tt; above = (omega (arith, closer.is), omega (arith, closer.is, within)); small = omega (arith, closer.is, within) })
ends_as clauses (Inner clause) above literal at_depth ending few deep shallow has is =
    subst (EndsAs clauses (Inner clause) at_depth) (sym is) (record { same = refl; clause = has; above = tt; small = omega (arith, has) })

abbrev literal_with : Bool → ℕ → List Term → Literal
literal_with positive predicate args = record { positive = positive; predicate = predicate; args = args }

abbrev entry_with : ℕ → Literal → NodeKind → Entry
entry_with at_depth literal kind = record { depth = at_depth; literal = literal; kind = kind }

-- the nodes and closers with more of them
abbrev with_nodes : NodeLines → List Entry → List ℕ → NodeLines
with_nodes old es cs = record { root = old.root; entries = old.entries ++ es; closers = old.closers ++ cs }

with_more : (old : NodeLines) (e : Entry) (c : ℕ) (es : List Entry) (cs : List ℕ) → with_nodes (with_node old e c) es cs ≡ with_nodes old (e ∷ es) (c ∷ cs)
with_more old e c es cs =
    ap₂ (λ (all : List Entry) (closers : List ℕ). record { root = old.root; entries = all; closers = closers })
    (append_assoc old.entries (e ∷ []) es) (append_assoc old.closers (c ∷ []) cs)

with_none : (old : NodeLines) → with_nodes old [] [] ≡ old
with_none old =
    ap₂ (λ (all : List Entry) (closers : List ℕ). record { root = old.root; entries = all; closers = closers }) (append-nil old.entries) (append-nil old.closers)

module _ (over : Problem) (valid : IsValid over) (full : List Term) (few : IsNumber (length full)) where
  predicate_of : (vars : ℕ) (literal : Literal) (symbol : Symbol) (numbers : List ℕ) → IsLiteralOver over.symbols vars literal → slice_get over.symbols literal.predicate ≡ Some symbol
      → ArePlacesOf full literal.args numbers → IsPredicate symbol (length numbers)
  predicate_of vars literal symbol numbers own stands places = by own.predicate
    where
      count : length literal.args ≡ length numbers
      count = sym (places_count full literal.args numbers places)

      by : HasShape over.symbols literal.predicate Predicate (length literal.args) ⊎ HasShape over.symbols literal.predicate Equality (length literal.args) → IsPredicate symbol (length numbers)
      by (inl h) =
          let shape = shaped over.symbols literal.predicate Predicate (length literal.args) symbol h stands in
          record { text = in_valid over (λ s. IsPrintable s.text) literal.predicate symbol valid.texts stands; count = shape.1 ∙ count; kind = inl shape.0 }
      by (inr h) =
          let shape = shaped over.symbols literal.predicate Equality (length literal.args) symbol h stands in
          let equality = in_valid over (λ s. s.kind ≡ Equality → IsEquality s) literal.predicate symbol valid.equality stands shape.0 in
          record { text = in_valid over (λ s. IsPrintable s.text) literal.predicate symbol valid.texts stands; count = shape.1 ∙ count; kind = inr (shape.0, equality.0) }

  pub is_node : (placed : PlacedNode) (node : NodeLine) (vars : ℕ) → IsFit over vars (entry_at placed) → IsLineOf over.symbols full placed node → IsNode (ended (node_line node)) node
  is_node placed node vars fit line =
      let ends = ends_as (length over.clauses) placed.kind placed.above placed.literal node.depth node.ending valid.few line.depth (omega (arith, line.depth, fit.shallow)) fit.clause line.ending in
      record {
        small_depth = omega (arith, line.depth, fit.shallow);
        predicate = predicate_of vars placed.literal node.symbol node.numbers fit.literal line.symbol line.numbers;
        small_numbers = places_small full placed.literal.args node.numbers few line.numbers;
        small_ending = ends.small;
        is = refl;
      }

  -- the line of a node gives it
  gives_node : (old : NodeLines) (placed : PlacedNode) (node : NodeLine) (vars : ℕ) → IsFit over vars (entry_at placed) → IsLineOf over.symbols full placed node
      → 1 ≤ length placed.above + 1 → length placed.above + 1 ≤ deepest_next old.entries
      → GivesNode over full old (with_node old (entry_at placed) (closer_of node.ending)) node placed.literal.predicate
  gives_node old placed node vars fit line positive low =
      let places = places_terms full placed.literal.args node.numbers line.numbers in
      let ends = ends_as (length over.clauses) placed.kind placed.above placed.literal node.depth node.ending valid.few line.depth (omega (arith, line.depth, fit.shallow)) fit.clause line.ending in
      let literal : literal_with node.positive placed.literal.predicate (map (tree_at full) node.numbers) ≡ placed.literal =
      ap₂ (λ (p : Bool) (ts : List Term). literal_with p placed.literal.predicate ts) line.positive places.1 in
      let same : entry_of full node placed.literal.predicate ≡ entry_at placed =
      ap (λ (d : ℕ). entry_with d (literal_with node.positive placed.literal.predicate (map (tree_at full) node.numbers)) (kind_of node.ending)) line.depth
      ∙ ap₂ (λ (l : Literal) (k : NodeKind). entry_with (length placed.above + 1) l k) literal ends.same in
      record {
        numbers = places.0;
        symbol = line.symbol;
        clause = ends.clause;
        order = record { below_root = omega (arith, line.depth); shallow = omega (arith, line.depth, fit.shallow); next = omega (arith, line.depth, low); closer = ends.above };
        is = ap (λ (e : Entry). with_node old e (closer_of node.ending)) (sym same);
      }

  pub nodes_read : (head : Head) (each : TermLines) (vars n : ℕ) (old : NodeLines) (placed : List PlacedNode) (lines : List NodeLine) (raws : List (List ℕ)) (outcome : Outcome) → each.each ≡ full
      → length old.entries + length placed ≤ head.header.nodes → All (λ p. IsFit over vars (entry_at p)) placed → AreNested (deepest_next old.entries) (map entry_at placed)
      → AllZip (IsLineOf over.symbols full) placed lines
      → ReadsFrom over (nodes head each (with_nodes old (map entry_at placed) (map (λ (l : NodeLine). closer_of l.ending) lines))) (n + length placed) raws outcome
      → ReadsFrom over (nodes head each old) n (map (λ (l : NodeLine). ended (node_line l)) lines ++ raws) outcome
  nodes_read head each vars n old [] [] raws outcome same room fit nested told later =
      let place : n + 0 ≡ n = omega arith in
      subst (λ (ns : NodeLines). ReadsFrom over (nodes head each ns) n raws outcome) (with_none old)
      (subst (λ (k : ℕ). ReadsFrom over (nodes head each (with_nodes old [] [])) k raws outcome) place later)
  nodes_read head each vars n old [] (l ∷ ls) raws outcome same room fit nested told later = absurd told
  nodes_read head each vars n old (p ∷ ps) [] raws outcome same room fit nested told later = absurd told
  nodes_read head each vars n old (p ∷ ps) (l ∷ ls) raws outcome same room fit nested told later =
      let Fit : PlacedNode → Type 0 = λ (q : PlacedNode). IsFit over vars (entry_at q) in
      let place : n + suc (length ps) ≡ n + 1 + length ps = omega arith in
      let new : NodeLines = with_node old (entry_at p) (closer_of l.ending) in
      let lt : length old.entries < head.header.nodes = omega arith in
      let given = gives_node old p l vars (All-head Fit p ps fit) told.0 nested.0 nested.1 in
      let gives : GivesNode over each.each old new l p.literal.predicate = subst (λ (ts : List Term). GivesNode over ts old new l p.literal.predicate) (sym same) given in
      let deeper : deepest_next new.entries ≡ deepest_after p.kind (length p.above + 1) = deepest_grows old.entries new.entries (entry_at p) refl in
      let count : length new.entries ≡ length old.entries + 1 = length-append old.entries (entry_at p ∷ []) in
      leads_on over (nodes head each old) (nodes head each new) n (ended (node_line l)) (map (λ (l : NodeLine). ended (node_line l)) ls ++ raws) outcome
      (lt, l, p.literal.predicate, new, is_node p l vars (All-head Fit p ps fit) told.0, gives, refl)
      (nodes_read head each vars (n + 1) new ps ls raws outcome same (omega (arith, count, room)) (All-tail Fit p ps fit)
      (subst (λ (b : ℕ). AreNested b (map entry_at ps)) (sym deeper) nested.2) told.1
      (subst (λ (ns : NodeLines). ReadsFrom over (nodes head each ns) (n + 1 + length ps) raws outcome)
      (sym (with_more old (entry_at p) (closer_of l.ending) (map entry_at ps) (map (λ (l : NodeLine). closer_of l.ending) ls)))
      (subst (λ (k : ℕ). ReadsFrom over (nodes head each (with_nodes old (entry_at p ∷ map entry_at ps) (closer_of l.ending ∷ map (λ (l : NodeLine). closer_of l.ending) ls))) k raws outcome) place later)))

-- ---- the header

pub header_is : (bound : BoundKind) (h : Header) → h.bound ≡ bound → IsNumber h.size → IsNumber h.terms → IsNumber h.nodes → IsHeader (ended (header_line bound h)) h
header_is Depth h same size count number = record { size = size; terms = count; nodes = number; is = inl (same, refl) }
header_is Inferences h same size count number = record { size = size; terms = count; nodes = number; is = inr refl }

-- ---- no line has an LF

pub levels_inside : (level : ℕ) (works : List ℕ) → IsNumber (level + length works) → All IsNumber works → HaveNoEnds (level_lines_from level works)
levels_inside level [] few small = tt
levels_inside level (work ∷ works) few small =
    let next : IsNumber (level + 1 + length works) = omega arith in
    (level_inside level work (omega arith) (All-head IsNumber work works small), levels_inside (level + 1) works next (All-tail IsNumber work works small))

terms_inside : (over : Problem) (full : List Term) → IsValid over → IsNumber (length full) → (ts : List Term) (lines : List Line) → AllZip (IsTermLine over.symbols full) ts lines → HaveNoEnds lines
terms_inside over full valid few [] [] told = tt
terms_inside over full valid few [] (l ∷ ls) told = absurd told
terms_inside over full valid few (t ∷ ts) [] told = absurd told
terms_inside over full valid few (t ∷ ts) (l ∷ ls) told = (one t told.0, terms_inside over full valid few ts ls told.1)
  where
    one : (t : Term) → IsTermLine over.symbols full t l → HasNoEnd l
    one (var n) is = subst HasNoEnd (sym is) refl
    one (app f args) is =
        subst HasNoEnd (sym is.4)
        (application_inside is.0 is.1 (in_valid over (λ s. IsPrintable s.text) f is.0 valid.texts is.2) (places_small full (list_of args) is.1 few is.3))

nodes_inside : (over : Problem) (full : List Term) (valid : IsValid over) (few : IsNumber (length full)) (vars : ℕ) (placed : List PlacedNode) (lines : List NodeLine)
    → All (λ p. IsFit over vars (entry_at p)) placed → AllZip (IsLineOf over.symbols full) placed lines → HaveNoEnds (map node_line lines)
nodes_inside over full valid few vars [] [] fit told = tt
nodes_inside over full valid few vars [] (l ∷ ls) fit told = absurd told
nodes_inside over full valid few vars (p ∷ ps) [] fit told = absurd told
nodes_inside over full valid few vars (p ∷ ps) (l ∷ ls) fit told =
    let Fit : PlacedNode → Type 0 = λ (q : PlacedNode). IsFit over vars (entry_at q) in
    let form = is_node over valid full few p l vars (All-head Fit p ps fit) told.0 in
    (node_inside l form.small_depth form.predicate.text form.small_numbers form.small_ending, nodes_inside over full valid few vars ps ls (All-tail Fit p ps fit) told.1)

-- ---- the whole

count_beside : {A B : Type 0} (R : A → B → Type 0) (xs : List A) (ys : List B) → AllZip R xs ys → length ys ≡ length xs
count_beside R [] [] told = refl
count_beside R [] (y ∷ ys) told = absurd told
count_beside R (x ∷ xs) [] told = absurd told
count_beside R (x ∷ xs) (y ∷ ys) told = ap suc (count_beside R xs ys told.1)

closer_told : (kind : NodeKind) (above : List Literal) (literal : Literal) (ending : Ending) → IsEndingOf kind above literal ending → IsCloserBeside kind above literal (closer_of ending)
closer_told Leaf above literal ending is = subst (λ (e : Ending). IsCloser above literal (closer_of e)) (sym is.2) is.1
closer_told (Inner clause) above literal ending is = ap closer_of is

closers_told : (symbols : List Symbol) (full : List Term) (placed : List PlacedNode) (lines : List NodeLine) → AllZip (IsLineOf symbols full) placed lines
    → AllZip (λ p c. IsCloserBeside p.kind p.above p.literal c) placed (map (λ (l : NodeLine). closer_of l.ending) lines)
closers_told symbols full [] [] told = tt
closers_told symbols full [] (l ∷ ls) told = absurd told
closers_told symbols full (p ∷ ps) [] told = absurd told
closers_told symbols full (p ∷ ps) (l ∷ ls) told = (closer_told p.kind p.above p.literal l.ending told.0.ending, closers_told symbols full ps ls told.1)

all_unmap : {A B : Type 0} (P : B → Type 0) (f : A → B) (xs : List A) → All P (map f xs) → All (λ x. P (f x)) xs
all_unmap P f [] h = All-nil (λ x. P (f x))
all_unmap P f (x ∷ xs) h = All-cons (λ x. P (f x)) x xs (All-head P (f x) (map f xs) h) (all_unmap P f xs (All-tail P (f x) (map f xs) h))

ended_nodes : (lines : List NodeLine) → map ended (map node_line lines) ≡ map (λ (l : NodeLine). ended (node_line l)) lines
ended_nodes [] = refl
ended_nodes (l ∷ ls) = ap (λ (ps : List (List ℕ)). ended (node_line l) ∷ ps) (ended_nodes ls)

-- the pieces of the document
ended_lines : (report : SearchReport) (tableau : Tableau) (full : List Term) (term_lines : List Line) (lines : List NodeLine)
    → map ended (nested_lines report tableau full term_lines (map node_line lines))
    ≡ ended status_line ∷ (map ended (level_lines report.works) ++ (ended (proof_line (length report.works) report.last) ∷ (ended (header_line report.bound (header_of report tableau full))
    ∷ (map ended term_lines ++ (ended (root_line tableau.root) ∷ (map (λ (l : NodeLine). ended (node_line l)) lines ++ (ended end_line ∷ [])))))))
ended_lines report tableau full term_lines lines =
    let rest : List Line = root_line tableau.root ∷ (map node_line lines ++ (end_line ∷ [])) in
    let front : List Line = proof_line (length report.works) report.last ∷ (header_line report.bound (header_of report tableau full) ∷ (term_lines ++ rest)) in
    let last : map ended (map node_line lines ++ (end_line ∷ [])) ≡ map (λ (l : NodeLine). ended (node_line l)) lines ++ (ended end_line ∷ []) =
    map-append ended (map node_line lines) (end_line ∷ []) ∙ ap (λ (ps : List (List ℕ)). ps ++ (ended end_line ∷ [])) (ended_nodes lines) in
    ap (λ (ps : List (List ℕ)). ended status_line ∷ ps)
    (map-append ended (level_lines report.works) front
    ∙ ap (λ (ps : List (List ℕ)). map ended (level_lines report.works) ++ (ended (proof_line (length report.works) report.last) ∷ (ended (header_line report.bound (header_of report tableau full)) ∷ ps)))
    (map-append ended term_lines rest
    ∙ ap (λ (ps : List (List ℕ)). map ended term_lines ++ (ended (root_line tableau.root) ∷ ps)) last))

module _ (over : Problem) (report : SearchReport) (tableau : Tableau) (text : List ℕ) (ok : IsCertifiable over tableau) (small : HasSmallNumbers report tableau)
    (document : IsDocument over.symbols report tableau text) where
  pub few_terms : IsNumber (length document.terms)
  few_terms = small.terms document.terms document.listed

  root_number : IsNumber tableau.root
  root_number = omega (arith, ok.root, ok.valid.few)

  -- each node's line has its form
  pub fit_nodes : All (λ p. IsFit over ok.symbols.vars (entry_at p)) (placed_nodes tableau)
  fit_nodes =
      let shallow = shallow_nodes tableau 250 ok.shallow in
      all_unmap (IsFit over ok.symbols.vars) entry_at (placed_nodes tableau)
      (subst (All (IsFit over ok.symbols.vars)) (sym (entries_among [] tableau.children))
      (λ k d lt. record { literal = ok.symbols.literals k d lt; clause = ok.clauses k d lt; shallow = shallow k d lt }))

  abbrev pub pieces_after_levels : List (List ℕ)
  pieces_after_levels =
      ended (proof_line (length report.works) report.last)
      ∷ (ended (header_line report.bound (header_of report tableau document.terms))
      ∷ (map ended document.term_lines ++ (ended (root_line tableau.root) ∷ (map (λ (l : NodeLine). ended (node_line l)) document.nodes ++ (ended end_line ∷ [])))))

  -- the pieces into which the document is cut
  pub document_pieces : cut_lines text ≡ ended status_line ∷ (map ended (level_lines report.works) ++ pieces_after_levels)
  document_pieces =
      let from_zero : length report.works ≡ 0 + length report.works = omega arith in
      let inside : HaveNoEnds (nested_lines report tableau document.terms document.term_lines (map node_line document.nodes)) = (
        refl,
        no_ends-append (level_lines report.works) _ (levels_inside 0 report.works (subst IsNumber from_zero small.levels) small.works) (
          proof_inside (length report.works) report.last small.levels small.last,
          (
            header_inside report.bound (header_of report tableau document.terms) small.size few_terms small.nodes,
            no_ends-append document.term_lines _ (terms_inside over document.terms ok.valid few_terms document.terms document.term_lines document.lines_of_terms)
                (root_inside tableau.root root_number, no_ends-append (map node_line document.nodes) _ (nodes_inside over document.terms ok.valid few_terms ok.symbols.vars (placed_nodes tableau) document.nodes fit_nodes document.lines_of_nodes) (refl, tt)),
          ),
        ),
      ) in
      ap cut_lines (document.is ∙ ap text_of (document_nested report tableau document.terms document.term_lines document.nodes))
      ∙ cut_text (nested_lines report tableau document.terms document.term_lines (map node_line document.nodes)) inside
      ∙ ended_lines report tableau document.terms document.term_lines document.nodes

pub read_back : CertificatesReadBack
read_back over report tableau text ok small document =
    let full : List Term = document.terms in
    let few : IsNumber (length full) = small.terms full document.listed in
    let distinct : AreDistinct full = listed_distinct tableau full document.listed in
    let vars : ℕ = ok.symbols.vars in
    let h : Header = header_of report tableau full in
    let placed : List PlacedNode = placed_nodes tableau in
    let are : map entry_at placed ≡ preorder tableau = entries_among [] tableau.children in
    let closers : List ℕ = map (λ (l : NodeLine). closer_of l.ending) document.nodes in
    let fit = fit_nodes over report tableau text ok small document in
    let nested : AreNested 1 (map entry_at placed) = subst (AreNested 1) (sym are) (nested_nodes tableau) in
    let term_count : length document.term_lines ≡ length full = count_beside (IsTermLine over.symbols full) full document.term_lines document.lines_of_terms in
    let node_count : length document.nodes ≡ length placed = count_beside (IsLineOf over.symbols full) placed document.nodes document.lines_of_nodes in
    let entry_count : length placed ≡ length (preorder tableau) = sym (length-map placed entry_at) ∙ ap length are in
    let place : ℕ = 1 + length report.works + 1 in
    let head : Head = record { header = h; line = place + 1 } in
    let all : NodeLines = with_nodes (no_nodes tableau.root) (map entry_at placed) closers in
    let certificate : Certificate = record {
      class = report.class;
      start = report.start;
      bound = report.bound;
      size = size report.bound tableau;
      header = place + 1;
      root_line = place + 1 + length full + 1;
      tableau = record { terms = full; tableau = tableau };
      closers = closers;
    } in
    let outcome : Outcome = accepted certificate in
    let last : List (List ℕ) = ended end_line ∷ [] in
    let node_lines : List (List ℕ) = map (λ (l : NodeLine). ended (node_line l)) document.nodes in
    let after_terms : List (List ℕ) = ended (root_line tableau.root) ∷ (node_lines ++ last) in
    let after_header : List (List ℕ) = map ended document.term_lines ++ after_terms in
    let at_root : ℕ = place + 1 + length full in
    let root_small = root_number over report tableau text ok small document in
    let ends : Ends (nodes head (lines_for full) all) (ended end_line) certificate = (
      omega (arith, entry_count, length-map placed entry_at),
      refl,
      record { class = refl; start = refl; bound = refl; size = refl; header = refl; root_line = refl; terms = refl; root = refl; nodes = sym are; closers = refl },
    ) in
    let at_end : ReadsFrom over (nodes head (lines_for full) all) (at_root + 1 + length placed) last outcome = inr (inr (certificate, ends, refl)) in
    let at_nodes : ReadsFrom over (nodes head (lines_for full) (no_nodes tableau.root)) (at_root + 1) (node_lines ++ last) outcome =
    nodes_read over ok.valid full few head (lines_for full) vars (at_root + 1) (no_nodes tableau.root) placed document.nodes last outcome refl (omega (arith, entry_count)) fit nested document.lines_of_nodes at_end in
    let at_terms_end : ReadsFrom over (terms head (lines_for full)) at_root after_terms outcome =
    leads_on over (terms head (lines_for full)) (nodes head (lines_for full) (no_nodes tableau.root)) at_root (ended (root_line tableau.root)) (node_lines ++ last) outcome
    (inr (omega arith, tableau.root, record { small = root_small; is = refl }, ok.root, refl)) at_nodes in
    let at_terms : ReadsFrom over (terms head no_terms) (place + 1) after_header outcome =
    terms_read over ok.valid full few distinct head [] full vars (place + 1) document.term_lines after_terms outcome refl (omega arith) (listed-over tableau full document.listed over.symbols ok.symbols)
    (listed-follow tableau full document.listed) (listed-in_turn tableau full ok.variables document.listed) document.lines_of_terms at_terms_end in
    let lines_after : length after_header ≡ h.terms + h.nodes + 2 =
    omega (
      arith,
      length-append (map ended document.term_lines) after_terms,
      length-map document.term_lines ended,
      length-append node_lines last,
      length-map document.nodes (λ (l : NodeLine). ended (node_line l)),
      term_count,
      node_count,
      entry_count,
    ) in
    let at_header : ReadsFrom over heading place (ended (header_line report.bound h) ∷ after_header) outcome =
    leads_on over heading (terms head no_terms) place (ended (header_line report.bound h)) after_header outcome
    (h, header_is report.bound h refl small.size few small.nodes, lines_after, refl) at_terms in
    let from_zero : length report.works ≡ 0 + length report.works = omega arith in
    let proved : IsProved (ended (proof_line (length report.works) report.last)) (length report.works) report.last = record { small_level = small.levels; small_work = small.last; is = refl } in
    let at_proof : ReadsFrom over (levels (length report.works)) (1 + length report.works) (ended (proof_line (length report.works) report.last) ∷ (ended (header_line report.bound h) ∷ after_header)) outcome =
    leads_on over (levels (length report.works)) heading (1 + length report.works) (ended (proof_line (length report.works) report.last)) (ended (header_line report.bound h) ∷ after_header) outcome
    (report.last, inr (proved, refl)) at_header in
    let after_levels : List (List ℕ) = ended (proof_line (length report.works) report.last) ∷ (ended (header_line report.bound h) ∷ after_header) in
    let at_levels : ReadsFrom over (levels 0) 1 (map ended (level_lines report.works) ++ after_levels) outcome =
    levels_read over report.works 0 1 after_levels outcome small.works (subst IsNumber from_zero small.levels)
    (subst (λ (k : ℕ). ReadsFrom over (levels k) (1 + length report.works) after_levels outcome) from_zero at_proof) in
    let at_start : ReadsFrom over opening 0 (ended status_line ∷ (map ended (level_lines report.works) ++ after_levels)) outcome =
    leads_on over opening (levels 0) 0 (ended status_line) (map ended (level_lines report.works) ++ after_levels) outcome (refl, refl) at_levels in
    let pieces = document_pieces over report tableau text ok small document in (
      certificate,
      subst (λ (raws : List (List ℕ)). ReadsFrom over opening 0 raws outcome) (sym pieces) at_start,
      record {
        class = refl;
        start = refl;
        bound = refl;
        size = refl;
        tree = refl;
        terms = document.listed;
        closers = closers_told over.symbols full placed document.nodes document.lines_of_nodes;
      },
    )
