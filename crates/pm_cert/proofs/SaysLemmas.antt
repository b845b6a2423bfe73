-- Which lines of a certificate tell of exhausted levels.
use Rattle.std.proofs.Common.{◌≡◌, ℕ, zero, suc, ◌%◌, ◌+◌, ◌<◌, ◌≤◌, ◌^◌, ◌⊎◌, inl, inr, List, [], ◌∷◌, ◌++◌, length, map, get_or, refl, sym, ap, subst, ◌∙◌, arith, codes, decimal}
use Rattle.std.specs.List.{All, AllZip, Contains}
use Rattle.std.proofs.lemmas.Fmt.{decimal_by_steps}
use Rattle.std.proofs.lemmas.List.Elements.{Contains-append_cases, All-head, All-tail}
use Rattle.pm_logic.specs.declared.tableau.BoundKind.{BoundKind}
use Rattle.pm_logic.specs.declared.tableau.BoundKind.TheVariants.{Depth, Inferences}
use Rattle.pm_logic.specs.Problem.{Problem, Symbol}
use Rattle.pm_logic.specs.Tableau.{Tableau}
use Rattle.pm_logic.specs.Word.{written_symbol}
use Rattle.pm_logic.specs.Term.{Term, var, app, list_of}
use Rattle.pm_certread.specs.Forms.{IsNumber, IsNode}
use Rattle.pm_certread.specs.Lines.{Line, ended, cut_lines, spaced, status_line, level_line, level_lines, proof_line, Header, variable_line, application_line, root_line, sign_word, ending_words, NodeLine, node_line, end_line}
use Rattle.pm_certread.proofs.NodeLemmas.{node_whole}
use Rattle.pm_certread.proofs.SameLines.{same_words}
use Rattle.pm_certread.proofs.WordLemmas.{same_line, solid_whole, decimal_whole, symbol_whole, decimals_whole}
use Rattle.pm_cert.specs.Ancestors.{PlacedNode, placed_nodes}
use Rattle.pm_cert.specs.Laws.{IsCertifiable, HasSmallNumbers}
use Rattle.pm_cert.specs.Text.{SearchReport, header_of, header_line, IsTermLine, IsLineOf, IsDocument}
use Rattle.pm_cert.proofs.ReadBackLemmas.{IsFit, is_node, places_small, fit_nodes, few_terms, pieces_after_levels, document_pieces}
use Rattle.pm_cert.proofs.OrderLemmas.{entry_at}

first_byte : (v w : List ℕ) → v ≡ w → get_or v 0 0 ≡ get_or w 0 0
first_byte v w e = ap (λ (l : List ℕ). get_or l 0 0) e

-- a number begins with a digit
begins : (n : ℕ) → n < 2 ^ 64 → (0 < length (decimal n)) × (get_or (decimal n) 0 0 < 58)
begins = decimal_by_steps (λ n ds. (0 < length ds) × (get_or ds 0 0 < 58))
    (λ n small. (omega arith, omega arith))
    (λ n ds large h. later ds (48 + n % 10) h)
  where
    later : (ds : List ℕ) (d : ℕ) → (0 < length ds) × (get_or ds 0 0 < 58) → (0 < length (ds ++ d ∷ [])) × (get_or (ds ++ d ∷ []) 0 0 < 58)
    later [] d h = absurd (omega (arith, h.0))
    later (x ∷ xs) d h = (omega arith, h.1)

no_number : (n : ℕ) (word : List ℕ) → IsNumber n → 58 ≤ get_or word 0 0 → decimal n ≡ word → ⊥
no_number n word small high e = omega (arith, (begins n small).1, first_byte (decimal n) word e, high)

-- an ended line among ended lines is a line among them
pub unended : (lines : List Line) (line : Line) → Contains (map ended lines) (ended line) → Contains lines line
unended [] line h = absurd (omega (arith, h.1))
unended (l ∷ lines) line (zero, lt, e) = (0, omega arith, same_line l line e)
unended (l ∷ lines) line (suc k, lt, e) = (let later = unended lines line (k, omega arith, e) in (suc later.0, omega (arith, later.1), later.2))

module _ (level work : ℕ) (small : IsNumber level) (small_work : IsNumber work) where
  abbrev told : List ℕ
  told = ended (level_line level work)

  abbrev words : List (List ℕ)
  words = codes "level" ∷ decimal level ∷ codes "exhausted" ∷ codes "attempts" ∷ decimal work ∷ []

  -- the line of a proof
  no_proof : (other last : ℕ) → IsNumber other → IsNumber last → ended (proof_line other last) ≡ told → ⊥
  no_proof other last small_other small_last e =
      let proof : List (List ℕ) = codes "level" ∷ decimal other ∷ codes "proof" ∷ codes "attempts" ∷ decimal last ∷ [] in
      let same : proof ≡ words =
      same_words told proof words tt tt (solid_whole (codes "level") refl, (decimal_whole other small_other, (solid_whole (codes "proof") refl, (solid_whole (codes "attempts") refl, (decimal_whole last small_last, tt)))))
      (solid_whole (codes "level") refl, (decimal_whole level small, (solid_whole (codes "exhausted") refl, (solid_whole (codes "attempts") refl, (decimal_whole work small_work, tt))))) (sym e) refl in
      let third : codes "proof" ≡ codes "exhausted" = cc in
      let bad : ◌≡◌ {A = ℕ} 112 101 = first_byte (codes "proof") (codes "exhausted") third in
      omega arith

  -- the line of a term
  no_term : (symbols : List Symbol) (terms : List Term) (few : IsNumber (length terms)) (t : Term) (line : Line) → IsTermLine symbols terms t line → ended line ≡ told → ⊥
  no_term symbols terms few (var n) line is e =
      let same : variable_line ≡ level_line level work = sym is ∙ same_line line (level_line level work) e in
      let bad : ◌≡◌ {A = ℕ} 63 108 = first_byte variable_line (level_line level work) same in
      omega arith
  no_term symbols terms few (app f args) line is e = numbers is.1 (places_small terms (list_of args) is.1 few is.3) both
    where
      both : ended (application_line is.0 is.1) ≡ told
      both = ap ended (sym is.4) ∙ e

      numbers : (ns : List ℕ) → All IsNumber ns → ended (application_line is.0 ns) ≡ told → ⊥
      numbers ns all e =
          by ns all (same_words told (written ns) words tt tt (symbol_whole is.0, decimals_whole ns all) (solid_whole (codes "level") refl, (decimal_whole level small, (solid_whole (codes "exhausted") refl, (solid_whole (codes "attempts") refl, (decimal_whole work small_work, tt))))) (sym e) refl)
        where
          written : List ℕ → List (List ℕ)
          written ns = written_symbol is.0 ∷ map decimal ns

          by : (ns : List ℕ) → All IsNumber ns → written ns ≡ words → ⊥
          by [] all e = absurd cc
          by (n ∷ []) all e = absurd cc
          by (n ∷ m ∷ ns) all e =
              let third : decimal m ≡ codes "exhausted" = cc in
              no_number m (codes "exhausted") (All-head IsNumber m ns (All-tail IsNumber n (m ∷ ns) all)) (omega arith) third

  no_header : (bound : BoundKind) (h : Header) → ended (header_line bound h) ≡ told → ⊥
  no_header Depth h e = (let bad : ◌≡◌ {A = ℕ} 112 108 = first_byte (ended (header_line Depth h)) told e in omega arith)
  no_header Inferences h e = (let bad : ◌≡◌ {A = ℕ} 112 108 = first_byte (ended (header_line Inferences h)) told e in omega arith)

  no_node : (node : NodeLine) → IsNode (ended (node_line node)) node → ended (node_line node) ≡ told → ⊥
  no_node node is e =
      let others : List (List ℕ) = sign_word node.positive ∷ written_symbol node.symbol ∷ map decimal node.numbers ++ ending_words node.ending in
      let same : decimal node.depth ∷ others ≡ words =
      same_words told (decimal node.depth ∷ others) words tt tt (node_whole node is.small_depth is.small_numbers is.small_ending)
      (solid_whole (codes "level") refl, (decimal_whole level small, (solid_whole (codes "exhausted") refl, (solid_whole (codes "attempts") refl, (decimal_whole work small_work, tt))))) (sym e) refl in
      let word : decimal node.depth ≡ codes "level" = cc in
      no_number node.depth (codes "level") is.small_depth (omega arith) word

  among_terms : (symbols : List Symbol) (terms : List Term) (few : IsNumber (length terms)) (ts : List Term) (lines : List Line) → AllZip (IsTermLine symbols terms) ts lines
      → Contains (map ended lines) told → ⊥
  among_terms symbols terms few ts [] all h = absurd (omega (arith, h.1))
  among_terms symbols terms few [] (line ∷ lines) all h = absurd all
  among_terms symbols terms few (t ∷ ts) (line ∷ lines) all (zero, lt, e) = no_term symbols terms few t line all.0 e
  among_terms symbols terms few (t ∷ ts) (line ∷ lines) all (suc k, lt, e) = among_terms symbols terms few ts lines all.1 (k, omega arith, e)

  among_nodes : (over : Problem) (report : SearchReport) (tableau : Tableau) (text : List ℕ) (ok : IsCertifiable over tableau) (counts : HasSmallNumbers report tableau)
      (document : IsDocument over.symbols report tableau text) (placed : List PlacedNode) (lines : List NodeLine) → All (λ p. IsFit over ok.symbols.vars (entry_at p)) placed
      → AllZip (IsLineOf over.symbols document.terms) placed lines → Contains (map (λ (l : NodeLine). ended (node_line l)) lines) told → ⊥
  among_nodes over report tableau text ok counts document placed [] fit all h = absurd (omega (arith, h.1))
  among_nodes over report tableau text ok counts document [] (line ∷ lines) fit all h = absurd all
  among_nodes over report tableau text ok counts document (p ∷ ps) (line ∷ lines) fit all (zero, lt, e) =
      no_node line
      (is_node over ok.valid document.terms (few_terms over report tableau text ok counts document) p line ok.symbols.vars (All-head (λ q. IsFit over ok.symbols.vars (entry_at q)) p ps fit) all.0) e
  among_nodes over report tableau text ok counts document (p ∷ ps) (line ∷ lines) fit all (suc k, lt, e) =
      among_nodes over report tableau text ok counts document ps lines (All-tail (λ q. IsFit over ok.symbols.vars (entry_at q)) p ps fit) all.1 (k, omega arith, e)

  module _ (over : Problem) (report : SearchReport) (tableau : Tableau) (text : List ℕ) (ok : IsCertifiable over tableau) (counts : HasSmallNumbers report tableau)
      (document : IsDocument over.symbols report tableau text) where
    abbrev last_pieces : List (List ℕ)
    last_pieces = ended end_line ∷ []

    abbrev node_pieces : List (List ℕ)
    node_pieces = map (λ (l : NodeLine). ended (node_line l)) document.nodes

    at_end : Contains last_pieces told → ⊥
    at_end (zero, lt, e) = (let bad : ◌≡◌ {A = ℕ} 101 108 = first_byte (ended end_line) told e in omega arith)
    at_end (suc k, lt, e) = omega arith

    at_nodes : Contains (node_pieces ++ last_pieces) told → ⊥
    at_nodes h = elim (Contains-append_cases node_pieces last_pieces told h) [
      | inl node ↦ among_nodes over report tableau text ok counts document (placed_nodes tableau) document.nodes (fit_nodes over report tableau text ok counts document) document.lines_of_nodes node
      | inr last ↦ at_end last
    ]

    at_root : Contains (ended (root_line tableau.root) ∷ (node_pieces ++ last_pieces)) told → ⊥
    at_root (zero, lt, e) = (let bad : ◌≡◌ {A = ℕ} 114 108 = first_byte (ended (root_line tableau.root)) told e in omega arith)
    at_root (suc k, lt, e) = at_nodes (k, omega arith, e)

    at_terms : Contains (map ended document.term_lines ++ (ended (root_line tableau.root) ∷ (node_pieces ++ last_pieces))) told → ⊥
    at_terms h = elim (Contains-append_cases (map ended document.term_lines) (ended (root_line tableau.root) ∷ (node_pieces ++ last_pieces)) told h) [
      | inl term ↦ among_terms over.symbols document.terms (few_terms over report tableau text ok counts document) document.terms document.term_lines document.lines_of_terms term
      | inr later ↦ at_root later
    ]

    after_levels : Contains (pieces_after_levels over report tableau text ok counts document) told → ⊥
    after_levels (zero, lt, e) =
        no_proof (length report.works) report.last counts.levels counts.last e
    after_levels (suc zero, lt, e) = no_header report.bound (header_of report tableau document.terms) e
    after_levels (suc (suc k), lt, e) = at_terms (k, omega arith, e)

    -- a piece that tells of an exhausted level is one of the level lines
    pub says_level : Contains (cut_lines text) told → Contains (level_lines report.works) (level_line level work)
    says_level h = by (subst (λ (pieces : List (List ℕ)). Contains pieces told) (document_pieces over report tableau text ok counts document) h)
      where
        by : Contains (ended status_line ∷ (map ended (level_lines report.works) ++ pieces_after_levels over report tableau text ok counts document)) told
            → Contains (level_lines report.works) (level_line level work)
        by (zero, lt, e) = (let bad : ◌≡◌ {A = ℕ} 37 108 = first_byte (ended status_line) told e in absurd (omega arith))
        by (suc k, lt, e) = elim (Contains-append_cases (map ended (level_lines report.works)) (pieces_after_levels over report tableau text ok counts document) told (k, omega arith, e)) [
          | inl here ↦ unended (level_lines report.works) (level_line level work) here
          | inr later ↦ absurd (after_levels later)
        ]
