-- A tableau over symbols, and its list of terms.
use Rattle.std.proofs.Common.{◌≡◌, ◌⊎◌, inl, inr, ℕ, ◌<◌, List, [], ◌∷◌, ◌++◌, Option, Some, None, length, map, refl, sym, ap, ap₂, subst, ◌∙◌, append_assoc, codes}
use Rattle.std.specs.Prelude.{slice_get, slice_index_or}
use Rattle.std.specs.List.{All, Contains, flat_map}
use Rattle.std.specs.Option.{IsSomeAnd}
use Rattle.std.proofs.lemmas.List.Elements.{All-nil, All-cons, All-head, All-tail, All-append, All-weaker, Contains-append_left, Contains-push}
use Rattle.std.proofs.lemmas.Option.{slice_get_within}
use Rattle.pm_logic.specs.declared.symbols.Kind.{Kind}
use Rattle.pm_logic.specs.declared.symbols.Kind.TheVariants.{Predicate, Equality}
use Rattle.pm_logic.specs.Lists.{Gathers}
use Rattle.pm_logic.specs.Problem.{Symbol, HasShape, IsTermOver, AreTermsOver, IsLiteralOver}
use Rattle.pm_logic.specs.Tableau.{Entry, Tableau, preorder, size}
use Rattle.pm_logic.specs.Term.{Term, Terms, var, app, no_terms, more_terms, as_terms}
use Rattle.pm_logic.proofs.Gathering.{Gathers-all, Gathers-extends}
use Rattle.pm_logic.proofs.TableLemmas.{list_of-as_terms}
use Rattle.pm_calculus.specs.Connection.{IsOverSymbols}
use Rattle.pm_certread.specs.Lines.{Line, ended, text_of, status_line, level_lines, proof_line, root_line, NodeLine, node_line, end_line, Header}
use Rattle.pm_cert.specs.declared.head.Header.{Header as CodeHeader}
use Rattle.pm_cert.proofs.LineLemmas.{text_of-append}
use Rattle.pm_cert.specs.Terms.{subterms, subterms_among, terms_in, terms_in_order, AreListed}
use Rattle.pm_cert.specs.Text.{SearchReport, header_of, header_line, document_lines}
use Rattle.pm_cert.specs.Inside.Lines.{IsWritableTerm, described}
use Rattle.pm_cert.specs.Inside.Listing.{HasArgsIn, FollowArgs}
use Rattle.pm_cert.proofs.TermLemmas.{follow-append, subterms_among-follow, gathered-follow, args_among}

-- a shape is that of a symbol of the list
pub shape_there : (symbols : List Symbol) (number : ℕ) (kind : Kind) (arity : ℕ) → HasShape symbols number kind arity → number < length symbols
shape_there symbols number kind arity h = by (slice_get symbols number) refl h
  where
    by : (o : Option Symbol) → slice_get symbols number ≡ o → IsSomeAnd o (λ s. (s.kind ≡ kind) × (s.arity ≡ arity)) → number < length symbols
    by None e h = absurd h
    by (Some s) e h = slice_get_within symbols number s e

-- the parts of a term over symbols are over them
mutual
  pub over-parts : (symbols : List Symbol) (vars : ℕ) (t : Term) → IsTermOver symbols vars t → All (IsTermOver symbols vars) (subterms t)
  over-parts symbols vars (var n) h = All-cons (IsTermOver symbols vars) (var n) [] h (All-nil (IsTermOver symbols vars))
  over-parts symbols vars (app f args) h =
      All-append (IsTermOver symbols vars) (subterms_among args) (app f args ∷ []) (over-parts_among symbols vars args h.1)
      (All-cons (IsTermOver symbols vars) (app f args) [] h (All-nil (IsTermOver symbols vars)))

  pub over-parts_among : (symbols : List Symbol) (vars : ℕ) (ts : Terms) → AreTermsOver symbols vars ts → All (IsTermOver symbols vars) (subterms_among ts)
  over-parts_among symbols vars no_terms h = All-nil (IsTermOver symbols vars)
  over-parts_among symbols vars (more_terms t ts) h =
      All-append (IsTermOver symbols vars) (subterms t) (subterms_among ts) (over-parts symbols vars t h.0) (over-parts_among symbols vars ts h.1)

over-all : (symbols : List Symbol) (vars : ℕ) (ts : List Term) → All (IsTermOver symbols vars) ts → AreTermsOver symbols vars (as_terms ts)
over-all symbols vars [] h = tt
over-all symbols vars (t ∷ ts) h = (All-head (IsTermOver symbols vars) t ts h, over-all symbols vars ts (All-tail (IsTermOver symbols vars) t ts h))

over-entries : (symbols : List Symbol) (vars : ℕ) (es : List Entry) → All (λ e. IsLiteralOver symbols vars e.literal) es → All (IsTermOver symbols vars) (flat_map (λ (e : Entry). terms_in e.literal) es)
over-entries symbols vars [] h = All-nil (IsTermOver symbols vars)
over-entries symbols vars (e ∷ es) h =
    let P : Entry → Type 0 = λ (e : Entry). IsLiteralOver symbols vars e.literal in
    let first : IsLiteralOver symbols vars e.literal = All-head P e es h in
    All-append (IsTermOver symbols vars) (terms_in e.literal) (flat_map (λ (e : Entry). terms_in e.literal) es)
    (over-parts_among symbols vars (as_terms e.literal.args) (over-all symbols vars e.literal.args first.args)) (over-entries symbols vars es (All-tail P e es h))

-- the terms in a tableau follow their arguments
pub entries-follow : (es : List Entry) (before : List Term) → FollowArgs before (flat_map (λ (e : Entry). terms_in e.literal) es)
entries-follow [] before = tt
entries-follow (e ∷ es) before =
    follow-append (terms_in e.literal) (flat_map (λ (e : Entry). terms_in e.literal) es) before
    (subterms_among-follow (as_terms e.literal.args) before) (entries-follow es (before ++ terms_in e.literal))

-- what is gathered is there
gathered-there : (xs old new : List Term) → Gathers old xs new → All (Contains new) xs
gathered-there [] old new h = All-nil (Contains new)
gathered-there (x ∷ xs) old new (inl h) =
    let more = Gathers-extends xs old new h.1 in
    All-cons (Contains new) x xs (subst (λ (ts : List Term). Contains ts x) (sym more.1) (Contains-append_left old more.0 x h.0)) (gathered-there xs old new h.1)
gathered-there (x ∷ xs) old new (inr h) =
    let more = Gathers-extends xs (old ++ x ∷ []) new h.1 in
    All-cons (Contains new) x xs (subst (λ (ts : List Term). Contains ts x) (sym more.1) (Contains-append_left (old ++ x ∷ []) more.0 x (Contains-push old x))) (gathered-there xs (old ++ x ∷ []) new h.1)

module _ (tableau : Tableau) (terms : List Term) (listed : AreListed tableau terms) where
  -- in the list each term follows its arguments
  pub listed-follow : FollowArgs [] terms
  listed-follow = gathered-follow (terms_in_order tableau) [] [] terms (entries-follow (preorder tableau) []) (λ t h. h) tt listed

  pub listed-over : (symbols : List Symbol) (over : IsOverSymbols symbols tableau) → All (IsTermOver symbols over.vars) terms
  listed-over symbols over =
      Gathers-all (IsTermOver symbols over.vars) (terms_in_order tableau) [] terms listed (All-nil (IsTermOver symbols over.vars))
      (over-entries symbols over.vars (preorder tableau) over.literals)

  -- the list has the arguments of each literal
  pub listed-args : All (λ e. All (Contains terms) e.literal.args) (preorder tableau)
  listed-args = each (preorder tableau) (gathered-there (terms_in_order tableau) [] terms listed)
    where
      each : (es : List Entry) → All (Contains terms) (flat_map (λ (e : Entry). terms_in e.literal) es) → All (λ e. All (Contains terms) e.literal.args) es
      each [] h = All-nil (λ (e : Entry). All (Contains terms) e.literal.args)
      each (e ∷ es) h =
          let rest : List Term = flat_map (λ (e : Entry). terms_in e.literal) es in
          let own : (t : Term) → Contains (terms_in e.literal) t → Contains terms t = λ t there. there_too (terms_in e.literal ++ rest) t h (Contains-append_left (terms_in e.literal) rest t there) in
          let args : All (Contains (terms_in e.literal)) e.literal.args = subst (All (Contains (terms_in e.literal))) (list_of-as_terms e.literal.args) (args_among (as_terms e.literal.args)) in
          All-cons (λ (e : Entry). All (Contains terms) e.literal.args) e es
          (All-weaker (Contains (terms_in e.literal)) (Contains terms) own e.literal.args args)
          (each es (rest_there (terms_in e.literal) rest h))
        where
          there_too : (xs : List Term) (t : Term) → All (Contains terms) xs → Contains xs t → Contains terms t
          there_too xs t all there = subst (Contains terms) there.2 (all there.0 t there.1)

          rest_there : (xs ys : List Term) → All (Contains terms) (xs ++ ys) → All (Contains terms) ys
          rest_there [] ys all = all
          rest_there (x ∷ xs) ys all = rest_there xs ys (All-tail (Contains terms) x (xs ++ ys) all)

pub writable-terms : (symbols : List Symbol) (terms : List Term) (vars : ℕ) (ts : List Term) → All (IsTermOver symbols vars) ts → All (HasArgsIn terms) ts → All (IsWritableTerm symbols terms) ts
writable-terms symbols terms vars [] over closed = All-nil (IsWritableTerm symbols terms)
writable-terms symbols terms vars (t ∷ ts) over closed =
    All-cons (IsWritableTerm symbols terms) t ts (one t (All-head (IsTermOver symbols vars) t ts over) (All-head (HasArgsIn terms) t ts closed))
    (writable-terms symbols terms vars ts (All-tail (IsTermOver symbols vars) t ts over) (All-tail (HasArgsIn terms) t ts closed))
  where
    one : (t : Term) → IsTermOver symbols vars t → HasArgsIn terms t → IsWritableTerm symbols terms t
    one (var n) h k = tt
    one (app f args) h k = (shape_there symbols f _ _ h.0, k)

-- each literal's predicate is a symbol
pub literal_predicates : (symbols : List Symbol) (tableau : Tableau) → IsOverSymbols symbols tableau → All (λ e. e.literal.predicate < length symbols) (preorder tableau)
literal_predicates symbols tableau over = λ k d lt. by (slice_index_or (preorder tableau) k d) (over.literals k d lt).predicate
  where
    by : (e : Entry) → HasShape symbols e.literal.predicate Predicate (length e.literal.args) ⊎ HasShape symbols e.literal.predicate Equality (length e.literal.args) → e.literal.predicate < length symbols
    by e (inl h) = shape_there symbols e.literal.predicate Predicate (length e.literal.args) h
    by e (inr h) = shape_there symbols e.literal.predicate Equality (length e.literal.args) h

-- ---- the whole document

pub header_told : (report : SearchReport) (tableau : Tableau) (terms : List Term) (header : CodeHeader) → header.class ≡ report.class → header.start ≡ report.start → header.bound ≡ report.bound
    → header.size ≡ size report.bound tableau → header.terms ≡ length terms → header.nodes ≡ length (preorder tableau) → described header ≡ header_of report tableau terms
header_told report tableau terms header class start bound is_size count nodes = cc

-- the lines, each part before the rest
abbrev pub nested_lines : SearchReport → Tableau → List Term → List Line → List Line → List Line
nested_lines report tableau terms term_lines nodes =
    status_line ∷ (level_lines report.works ++ (proof_line (length report.works) report.last ∷ (header_line report.bound (header_of report tableau terms)
    ∷ (term_lines ++ (root_line tableau.root ∷ (nodes ++ (end_line ∷ [])))))))

pub document_nested : (report : SearchReport) (tableau : Tableau) (terms : List Term) (term_lines : List Line) (nodes : List NodeLine)
    → document_lines report tableau terms term_lines nodes ≡ nested_lines report tableau terms term_lines (map node_line nodes)
document_nested report tableau terms term_lines nodes = simp append_assoc

pub document_told : (report : SearchReport) (tableau : Tableau) (terms : List Term) (term_lines : List Line) (nodes : List NodeLine) (header : Header) (clause : ℕ) (t0 t1 t2 t3 t4 t5 t6 : List ℕ)
    → header ≡ header_of report tableau terms → clause ≡ tableau.root → t0 ≡ []
    → t1 ≡ t0 ++ text_of (status_line ∷ level_lines report.works ++ proof_line (length report.works) report.last ∷ [])
    → t2 ≡ t1 ++ ended (header_line report.bound header) → t3 ≡ t2 ++ text_of term_lines → t4 ≡ t3 ++ ended (root_line clause)
    → t5 ≡ t4 ++ text_of (map node_line nodes) → t6 ≡ t5 ++ codes "end\n"
    → t6 ≡ text_of (document_lines report tableau terms term_lines nodes)
document_told report tableau terms term_lines nodes header clause t0 t1 t2 t3 t4 t5 t6 same root e0 e1 e2 e3 e4 e5 e6 =
    let first : List Line = status_line ∷ level_lines report.works ++ proof_line (length report.works) report.last ∷ [] in
    let head : Line = header_line report.bound (header_of report tableau terms) in
    let last : List Line = root_line tableau.root ∷ (map node_line nodes ++ (end_line ∷ [])) in
    let joined : text_of (first ++ (head ∷ (term_lines ++ last))) ≡ text_of first ++ (ended head ++ (text_of term_lines ++ (ended (root_line tableau.root) ++ (text_of (map node_line nodes) ++ codes "end\n")))) =
    text_of-append first (head ∷ (term_lines ++ last))
    ∙ ap (λ (t : List ℕ). text_of first ++ t)
    (sym (append_assoc head (10 ∷ []) (text_of (term_lines ++ last)))
    ∙ ap (λ (t : List ℕ). ended head ++ t)
    (text_of-append term_lines last
    ∙ ap (λ (t : List ℕ). text_of term_lines ++ t)
    (sym (append_assoc (root_line tableau.root) (10 ∷ []) (text_of (map node_line nodes ++ (end_line ∷ []))))
    ∙ ap (λ (t : List ℕ). ended (root_line tableau.root) ++ t) (text_of-append (map node_line nodes) (end_line ∷ []))))) in
    let lines : first ++ (head ∷ (term_lines ++ last)) ≡ document_lines report tableau terms term_lines nodes =
    ap (λ (ls : List Line). status_line ∷ ls) (append_assoc (level_lines report.works) (proof_line (length report.works) report.last ∷ []) (head ∷ (term_lines ++ last)))
    ∙ sym (document_nested report tableau terms term_lines nodes) in
    let written : t6 ≡ ((((text_of first ++ ended head) ++ text_of term_lines) ++ ended (root_line tableau.root)) ++ text_of (map node_line nodes)) ++ codes "end\n" =
    e6 ∙ ap (λ (t : List ℕ). t ++ codes "end\n")
    (e5 ∙ ap (λ (t : List ℕ). t ++ text_of (map node_line nodes))
    (e4 ∙ ap₂ (λ (t : List ℕ) (n : ℕ). t ++ ended (root_line n))
    (e3 ∙ ap (λ (t : List ℕ). t ++ text_of term_lines)
    (e2 ∙ ap₂ (λ (t : List ℕ) (h : Header). t ++ ended (header_line report.bound h)) (e1 ∙ ap (λ (t : List ℕ). t ++ text_of first) e0) same)) root)) in
    written
    ∙ regroup (text_of first) (ended head) (text_of term_lines) (ended (root_line tableau.root)) (text_of (map node_line nodes)) (codes "end\n")
    ∙ sym joined ∙ ap text_of lines
  where
    regroup : (a b c d e f : List ℕ) → ((((a ++ b) ++ c) ++ d) ++ e) ++ f ≡ a ++ (b ++ (c ++ (d ++ (e ++ f))))
    regroup a b c d e f = simp append_assoc
