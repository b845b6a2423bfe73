-- What a proof search prints is accepted by a check.
use Rattle.std.proofs.Common.{◌≡◌, ℕ, suc, ◌+◌, ◌≤◌, inl, inr, Bool, List, [], ◌∷◌, ◌++◌, length, map, Option, Some, None, refl, sym, ◌∙◌, ap, ap₂, subst, arith, length-append}
use Rattle.std.specs.Prelude.{if◌then◌else◌}
use Rattle.std.specs.List.{AllZip}
use Rattle.std.proofs.lemmas.Bool.{le-leb}
use Rattle.std.proofs.lemmas.List.{length-map, map-append}
use Rattle.pm_logic.specs.declared.problem.Class.{Class}
use Rattle.pm_logic.specs.declared.problem.Start.{Start}
use Rattle.pm_logic.specs.declared.tableau.BoundKind.{BoundKind}
use Rattle.pm_logic.specs.declared.tableau.NodeKind.{NodeKind}
use Rattle.pm_logic.specs.declared.tableau.NodeKind.TheVariants.{Leaf, Inner}
use Rattle.pm_logic.specs.Problem.{Literal, Problem, IsValid}
use Rattle.pm_logic.specs.Tableau.{Node, leaf, inner, Nodes, no_nodes, more_nodes, Tableau, size, preorder}
use Rattle.pm_logic.specs.Term.{Term}
use Rattle.pm_calculus.specs.Connection.{literal_on, Level, IsInClass}
use Rattle.pm_calculus.specs.Agreement.{IsLeastList}
use Rattle.pm_calculus.proofs.Least.{least_followed}
use Rattle.pm_calculus.proofs.Levels.{followed_complete}
use Rattle.pm_deepen.specs.declared.DeepEnd.{DeepEnd}
use Rattle.pm_deepen.specs.declared.DeepEnd.TheVariants.{Proof, DepthReached, BudgetOut}
use Rattle.pm_deepen.specs.Levels.{level_at, IsAnswerOf}
use Rattle.pm_cnf.specs.Limits.{AreUsual}
use Rattle.pm_cnf.proofs.meaning.ReadValid.{read_valid}
use Rattle.pm_certread.specs.Certificate.{Certificate}
use Rattle.pm_certread.specs.Forms.{IsNumber}
use Rattle.pm_certread.specs.Lines.{Line, text_of, level_lines, proof_line, root_line, NodeLine, node_line, end_line}
use Rattle.pm_cert.specs.Ancestors as written
use Rattle.pm_cert.specs.Laws.{HasSmallNumbers, IsCloserBeside, IsCertificateFor}
use Rattle.pm_cert.specs.Text.{SearchReport, header_of, header_line, IsTermLine, IsLineOf, document_lines, IsDocument}
use Rattle.pm_cert.proofs.DeterminedLemmas.{listed_same}
use Rattle.pm_cert.proofs.DocumentLemmas.{document_nested}
use Rattle.pm_cert.proofs.OrderLemmas.{entry_at, entries_among}
use Rattle.pm_cert.proofs.ReadBackLemmas.{read_back}
use Rattle.pm_check.specs.Offences.{IsClosedAt}
use Rattle.pm_check.specs.PlacedNodes as checked
use Rattle.pm_check.specs.Verdicts.{certified_level, IsClosedAsNamed, AreClosedAsNamed}
use Rattle.pm_check.proofs.TreeLemmas.{zip_length}
use Rattle.pm_check.proofs.VerdictLemmas.{member_accepted}
use Rattle.pm_lift.proofs.LeastLemmas.{has_least_list}
use Rattle.pm_args.specs.declared.job.Options.{Options}
use Rattle.pm_args.specs.Jobs.{Job, prove, check}
use Rattle.pm_top.specs.declared.files.TheConstants.{MAX_CERT_BYTES, MAX_FILE_BYTES}
use Rattle.pm_top.specs.declared.status.Status.TheVariants as ends
use Rattle.pm_top.specs.Files.{Held, missing, over_limit, these_bytes, held_of, held_in, given_by}
use Rattle.pm_top.specs.Output.{standard_limits, searched_with, status_of, report, IsTextOf, EndsSearch, verdict_lines, IsAcceptedWith, EndsReading, IsProblemOf, EndsOver, OutputOf}
use Rattle.pm_top.specs.Run.{HasProblem}
use Rattle.pm_top.specs.Accepted.{IsProvedAt, ProofsAreAccepted}
use Rattle.pm_top.specs.Inside.Stops.{AreWithinLimits}
use Rattle.pm_top.proofs.Answered.{not_done}
use Rattle.pm_top.proofs.FirstLists.{least_not_later}
use Rattle.pm_top.proofs.Limits.{job_within}
use Rattle.pm_top.proofs.Says.{few, small}
use Rattle.pm_top.proofs.Searches.{own_size, found_member, found_certifiable}

-- ---- the numbers in a document

-- a text has a byte for each line
line_count : (lines : List Line) → length lines ≤ length (text_of lines)
line_count [] = omega arith
line_count (line ∷ lines) = omega (arith, length-append line (10 ∷ text_of lines), line_count lines)

-- a document has a line for each term and node
document_count : (said : SearchReport) (t : Tableau) (terms : List Term) (term_lines : List Line) (nodes : List NodeLine)
    → length term_lines + length nodes ≤ length (document_lines said t terms term_lines nodes)
document_count said t terms term_lines nodes =
    let after_terms : List Line = root_line t.root ∷ (map node_line nodes ++ (end_line ∷ [])) in
    let after_levels : List Line = proof_line (length said.works) said.last ∷ (header_line said.bound (header_of said t terms) ∷ (term_lines ++ after_terms)) in
    omega (
      arith,
      ap length (document_nested said t terms term_lines nodes),
      length-append (level_lines said.works) after_levels,
      length-append term_lines after_terms,
      length-append (map node_line nodes) (end_line ∷ []),
      length-map nodes node_line,
    )

-- ---- closers

-- a node as it is written, of a node as it is checked
abbrev kind_on : Node → NodeKind
kind_on (leaf literal) = Leaf
kind_on (inner literal clause children) = Inner clause

abbrev written_node : checked.PlacedNode → written.PlacedNode
written_node placed = record { above = placed.above; literal = literal_on placed.node; kind = kind_on placed.node }

mutual
  written_below : (above : List Literal) (node : Node) → map written_node (checked.placed_below above node) ≡ written.placed_below above node
  written_below above (leaf literal) = refl
  written_below above (inner literal clause children) =
      ap (λ (ps : List written.PlacedNode). record { above = above; literal = literal; kind = Inner clause } ∷ ps) (written_among (above ++ literal ∷ []) children)

  written_among : (above : List Literal) (nodes : Nodes) → map written_node (checked.placed_among above nodes) ≡ written.placed_among above nodes
  written_among above no_nodes = refl
  written_among above (more_nodes node nodes) =
      map-append written_node (checked.placed_below above node) (checked.placed_among above nodes)
      ∙ ap₂ (λ (ps qs : List written.PlacedNode). ps ++ qs) (written_below above node) (written_among above nodes)

zip_unmap : {A B C : Type 0} (R : B → C → Type 0) (S : A → C → Type 0) (f : A → B) → ((x : A) (y : C) → R (f x) y → S x y)
    → (xs : List A) (ys : List C) → AllZip R (map f xs) ys → AllZip S xs ys
zip_unmap R S f each [] [] h = tt
zip_unmap R S f each [] (y ∷ ys) h = absurd h
zip_unmap R S f each (x ∷ xs) [] h = absurd h
zip_unmap R S f each (x ∷ xs) (y ∷ ys) h = (each x y h.0, zip_unmap R S f each xs ys h.1)

-- what is written beside a leaf closes it
closes_as_named : (above : List Literal) (node : Node) (closer : ℕ) → IsCloserBeside (kind_on node) above (literal_on node) closer → IsClosedAsNamed above node closer
closes_as_named above (leaf literal) closer h =
    let is : closer ≡ suc h.place = omega (arith, h.is) in
    subst (IsClosedAt above literal) (sym is) h.complementary
closes_as_named above (inner literal clause children) closer h = tt

abbrev NamedAt : checked.PlacedNode → ℕ → Type 0
NamedAt placed closer = IsClosedAsNamed placed.above placed.node closer

abbrev WrittenAt : written.PlacedNode → ℕ → Type 0
WrittenAt placed closer = IsCloserBeside placed.kind placed.above placed.literal closer

closed_as_named : (said : SearchReport) (t : Tableau) (certificate : Certificate) → IsCertificateFor said t certificate → AreClosedAsNamed certificate
closed_as_named said t certificate is =
    let told : AllZip WrittenAt (map written_node (checked.placed_nodes t)) certificate.closers = subst (λ (ps : List written.PlacedNode). AllZip WrittenAt ps certificate.closers) (sym (written_among [] t.children)) is.closers in
    let named : AllZip NamedAt (checked.placed_nodes t) certificate.closers =
    zip_unmap WrittenAt NamedAt written_node (λ placed closer h. closes_as_named placed.above placed.node closer h) (checked.placed_nodes t) certificate.closers told in
    subst (λ (u : Tableau). AllZip NamedAt (checked.placed_nodes u) certificate.closers) (sym is.tree) named

-- ---- the certificate of a proof

module _ (problem : Problem) (options : Options) (limits : AreWithinLimits options) (valid : IsValid problem) (works : List ℕ) (level work : ℕ) (path : List ℕ) (t : Tableau)
    (answer : IsAnswerOf problem (searched_with options) works (Proof level path work) (Some t))
    (text : List ℕ) (document : IsDocument problem.symbols (report options works work) t text) (fits : length text ≤ MAX_CERT_BYTES) where
  abbrev proof_level : Level
  proof_level = level_at problem (searched_with options) level

  abbrev said : SearchReport
  said = report options works work

  member : IsInClass proof_level t
  member = found_member problem options works level work path t valid answer.search answer.goes

  size_is : size options.bound t ≡ level
  size_is = own_size problem options works level t answer.search.exhausted answer.search.ends.0 member

  proved_at : IsProvedAt options level path problem
  proved_at = record { works = works; work = work; tableau = t; answer = answer }

  -- the list that was found is the least that the tableau follows
  least : IsLeastList proof_level t path
  least =
      let first = answer.search.ends.2.first in
      let has = has_least_list proof_level t
      (record { start = member.start; over = member.over; closed = member.closed; connected = member.connected }) member.within in
      elim (least_not_later proof_level t path has.0 first.marked answer.goes.labelling has.1) [
        | inl same ↦ subst (IsLeastList proof_level t) same has.1
        | inr before ↦ absurd (first.least has.0 (followed_complete proof_level has.0 t member (least_followed proof_level t has.0 has.1))
            (record { not_below = λ lower. lower; below = tt }) before)
      ]

  -- a document within the limit has no large numbers
  counted : length document.terms + length (preorder t) ≤ MAX_CERT_BYTES
  counted =
      let placed : List written.PlacedNode = written.placed_nodes t in
      omega (
        arith,
        fits,
        ap length document.is,
        line_count (document_lines said t document.terms document.term_lines document.nodes),
        document_count said t document.terms document.term_lines document.nodes,
        zip_length (IsTermLine problem.symbols document.terms) document.terms document.term_lines document.lines_of_terms,
        zip_length (IsLineOf problem.symbols document.terms) placed document.nodes document.lines_of_nodes,
        length-map placed entry_at,
        ap length (entries_among [] t.children),
      )

  small_numbers : HasSmallNumbers said t
  small_numbers = record {
    levels = few problem options limits works (Proof level path work) (Some t) answer;
    works = small problem options limits works (Proof level path work) (Some t) answer;
    last = omega (arith, answer.search.ends.3, limits.1);
    size = omega (arith, size_is, answer.search.ends.1, limits.0);
    terms = λ terms listed. subst (λ (ts : List Term). IsNumber (length ts)) (listed_same t document.terms terms document.listed listed) (omega (arith, counted));
    nodes = omega (arith, counted);
  }

  -- its level, as the certificate says it
  abbrev level_with : Class → Start → BoundKind → Level
  level_with class start kind = record { problem = problem; class = class; start = start; kind = kind; bound = level }

  level_told : (certificate : Certificate) → IsCertificateFor said t certificate → certified_level problem certificate level ≡ proof_level
  level_told certificate is =
      ap (λ (class : Class). level_with class certificate.start certificate.bound) is.class
      ∙ ap (λ (start : Start). level_with options.class start certificate.bound) is.start
      ∙ ap (λ (kind : BoundKind). level_with options.class options.start kind) is.bound

  accepted_with : (certificate : Certificate) → IsCertificateFor said t certificate → IsAcceptedWith problem certificate level path
  accepted_with certificate is =
      let same : proof_level ≡ certified_level problem certificate level = sym (level_told certificate is) in
      let tree : t ≡ certificate.tableau.tableau = sym is.tree in
      record {
        accepted = member_accepted problem certificate level (ap₂ size is.bound is.tree ∙ size_is) (is.size ∙ size_is)
            (subst (λ (l : Level). IsInClass l certificate.tableau.tableau) same (subst (IsInClass proof_level) tree member)) (closed_as_named said t certificate is);
        least = subst (λ (l : Level). IsLeastList l certificate.tableau.tableau path) same (subst (λ (u : Tableau). IsLeastList proof_level u path) tree least);
      }

  reads_accepted : EndsReading problem text ends.Done (text_of (verdict_lines options.bound level path))
  reads_accepted =
      let back = read_back problem said t text (found_certifiable problem options works level work path t valid answer.search answer.goes limits.0) small_numbers document in
      inr (back.0, back.1, inr (level, path, accepted_with back.0 back.2, refl, ap (λ (kind : BoundKind). text_of (verdict_lines kind level path)) (sym back.2.bound)))

-- ---- the jobs

usual : AreUsual standard_limits
usual = record { clauses = omega arith; literals = omega arith; variables = omega arith; arity = omega arith; nesting = omega arith }

-- the problem of a clause file is valid
file_valid : (held : Held) (problem : Problem) → IsProblemOf held problem → IsValid problem
file_valid missing problem h = absurd h
file_valid over_limit problem h = absurd h
file_valid (these_bytes bytes) problem h = read_valid standard_limits bytes problem usual h

held_fits : (limit : ℕ) (bytes : List ℕ) → length bytes ≤ limit → held_of limit (Some bytes) ≡ these_bytes bytes
held_fits limit bytes le = ap (λ (within : Bool). if within then these_bytes bytes else over_limit) (le-leb (length bytes) limit le)

-- a search that is done has searched a problem
searched : (held : Held) (options : Options) (text : List ℕ) → EndsOver held (EndsSearch options) ends.Done text → HasProblem held (λ problem. EndsSearch options problem ends.Done text)
searched held options text (inl unread) = absurd (not_done held ends.Done text (inl unread) refl)
searched held options text (inr (inl offence)) = absurd (not_done held ends.Done text (inr offence) refl)
searched held options text (inr (inr found)) = found

-- the proof at a level, and the verdict on its text
abbrev IsAcceptedAt : Problem → Options → List ℕ → Type 0
IsAcceptedAt problem options text =
    (level : ℕ) × (path : List ℕ) × IsProvedAt options level path problem × EndsReading problem text ends.Done (text_of (verdict_lines options.bound level path))

module _ (problem : Problem) (options : Options) (limits : AreWithinLimits options) (valid : IsValid problem) (text : List ℕ) (fits : length text ≤ MAX_CERT_BYTES) where
  end_accepted : (works : List ℕ) (end : DeepEnd) (tableau : Option Tableau) → IsAnswerOf problem (searched_with options) works end tableau → ends.Done ≡ status_of end
      → IsTextOf problem options works end tableau text → IsAcceptedAt problem options text
  end_accepted works (Proof level path work) (Some t) answer is document = (
    level,
    path,
    proved_at problem options limits valid works level work path t answer text document fits,
    reads_accepted problem options limits valid works level work path t answer text document fits,
  )
  end_accepted works (Proof level path work) None answer is text_is = absurd text_is
  end_accepted works DepthReached tableau answer is text_is = absurd cc
  end_accepted works (BudgetOut level) tableau answer is text_is = absurd cc

  search_accepted : EndsSearch options problem ends.Done text → IsAcceptedAt problem options text
  search_accepted h = end_accepted h.works h.end h.tableau h.answer h.status_is h.text_is

pub proofs_accepted : ProofsAreAccepted
proofs_accepted words checking files later file options text job printed fits is_check =
    let held : Held = held_in files MAX_FILE_BYTES (Some file) in
    let found = searched held options text (subst (λ (o : Option Job). OutputOf o (given_by files o) ends.Done text) job printed) in
    let problem : Problem = found.0 in
    let proof : IsAcceptedAt problem options text = search_accepted problem options (job_within words (prove file options) job) (file_valid held problem found.1) text fits found.2 in
    let verdict : List ℕ = text_of (verdict_lines options.bound proof.0 proof.1) in
    let clauses : IsProblemOf (held_in later MAX_FILE_BYTES (Some file)) problem = subst (λ (h : Held). IsProblemOf h problem) (sym (ap (held_of MAX_FILE_BYTES) is_check.clauses)) found.1 in
    let certificate : held_in later MAX_CERT_BYTES (Some is_check.cert) ≡ these_bytes text = ap (held_of MAX_CERT_BYTES) is_check.certificate ∙ held_fits MAX_CERT_BYTES text fits in
    let answered : OutputOf (Some (check file is_check.cert)) (given_by later (Some (check file is_check.cert))) ends.Done verdict = inr (inr (problem, clauses, inr (text, certificate, proof.3))) in
    (proof.0, proof.1, (problem, found.1, proof.2), subst (λ (o : Option Job). OutputOf o (given_by later o) ends.Done verdict) (sym is_check.job) answered)
