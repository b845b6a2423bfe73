-- What lines give is over the problem.
use Rattle.std.proofs.Common.{◌≡◌, ◌∙◌, ◌<◌, ◌≤◌, inl, inr, ℕ, zero, suc, ◌+◌, List, [], ◌∷◌, ◌++◌, length, map, get_or, Some, sym, ap, refl, subst, arith}
use Rattle.std.specs.Prelude.{slice_get, IsSomeAnd}
use Rattle.std.specs.List.{All, AllZip}
use Rattle.std.proofs.lemmas.List.{length-map}
use Rattle.std.proofs.lemmas.List.Elements.{All-push}
use Rattle.pm_logic.specs.declared.symbols.Kind.{Kind}
use Rattle.pm_logic.specs.declared.symbols.Kind.TheVariants.{Predicate, Function, Equality}
use Rattle.pm_logic.specs.Term.{Term, var, app, Terms, no_terms, more_terms, as_terms, list_of, tree_at}
use Rattle.pm_logic.specs.Table.{variable_count}
use Rattle.pm_logic.specs.Problem.{Symbol, Problem, HasShape, IsTermOver, AreTermsOver, IsLiteralOver}
use Rattle.pm_logic.specs.Tableau.{Entry, preorder}
use Rattle.pm_logic.proofs.TableLemmas.{list_of-as_terms}
use Rattle.pm_certread.specs.declared.error.CertKind.{CertKind}
use Rattle.pm_certread.specs.Lines.{cut_lines, Ending, closed_by, extended_by, NodeLine}
use Rattle.pm_certread.specs.Forms.{IsNode, IsPredicate}
use Rattle.pm_certread.specs.Certificate.{Certificate}
use Rattle.pm_certread.specs.Reading.{Leads, Stage, opening, levels, heading, terms, nodes, TermLines, NodeLines, GivesTerm, AddsVariable, AddsApplication, AreThere, GivesNode, ClosesAbove, HasClause, entry_of, closer_of, kind_of, accepted, refused, ReadsFrom, Ends}
use Rattle.pm_certread.specs.Laws.{IsOverProblem, IsCloserOf, HasClauseOf, CertificatesAreOverProblems}

-- ---- terms over more variables

mutual
  term_more : (symbols : List Symbol) (m n : ℕ) → m ≤ n → (t : Term) → IsTermOver symbols m t → IsTermOver symbols n t
  term_more symbols m n le (var k) h = omega arith
  term_more symbols m n le (app f ts) h = (h.0, terms_more symbols m n le ts h.1)

  terms_more : (symbols : List Symbol) (m n : ℕ) → m ≤ n → (ts : Terms) → AreTermsOver symbols m ts → AreTermsOver symbols n ts
  terms_more symbols m n le no_terms h = tt
  terms_more symbols m n le (more_terms t ts) h = (term_more symbols m n le t h.0, terms_more symbols m n le ts h.1)

all_more : (symbols : List Symbol) (m n : ℕ) → m ≤ n → (ts : List Term) → All (IsTermOver symbols m) ts → All (IsTermOver symbols n) ts
all_more symbols m n le ts h = λ k d lt. term_more symbols m n le (get_or ts k d) (h k d lt)

as_terms_over : (symbols : List Symbol) (vars : ℕ) (each : List Term) (numbers : List ℕ) → All (IsTermOver symbols vars) each → AreThere each numbers
    → AreTermsOver symbols vars (as_terms (map (tree_at each) numbers))
as_terms_over symbols vars each [] over there = tt
as_terms_over symbols vars each (number ∷ numbers) over there =
    (over number (var 0) (there 0 0 (omega arith)), as_terms_over symbols vars each numbers over (λ k d lt. there (suc k) d (omega arith)))

trees_over : (symbols : List Symbol) (vars : ℕ) (each : List Term) (numbers : List ℕ) → All (IsTermOver symbols vars) each → AreThere each numbers
    → All (IsTermOver symbols vars) (map (tree_at each) numbers)
trees_over symbols vars each [] over there = λ k d lt. absurd (omega arith)
trees_over symbols vars each (number ∷ numbers) over there = go (trees_over symbols vars each numbers over (λ k d lt. there (suc k) d (omega arith)))
  where
    go : All (IsTermOver symbols vars) (map (tree_at each) numbers) → All (IsTermOver symbols vars) (map (tree_at each) (number ∷ numbers))
    go later zero d lt = over number (var 0) (there 0 0 (omega arith))
    go later (suc k) d lt = later k d (omega arith)

has_shape : (symbols : List Symbol) (number : ℕ) (symbol : Symbol) (kind : Kind) (arity : ℕ) → slice_get symbols number ≡ Some symbol → symbol.kind ≡ kind → symbol.arity ≡ arity
    → HasShape symbols number kind arity
has_shape symbols number symbol kind arity found is count =
    subst (λ o. IsSomeAnd o (λ s. (s.kind ≡ kind) × (s.arity ≡ arity))) (sym found) (is, count)

count_push : (table : List Term) (n : ℕ) → variable_count (table ++ var n ∷ []) ≡ variable_count table + 1
count_push [] n = refl
count_push (var k ∷ table) n = ap (λ (m : ℕ). 1 + m) (count_push table n) ∙ omega arith
count_push (app f ts ∷ table) n = count_push table n

count_app : (table : List Term) (f : ℕ) (ts : Terms) → variable_count (table ++ app f ts ∷ []) ≡ variable_count table
count_app [] f ts = refl
count_app (var k ∷ table) f ts = ap (λ (m : ℕ). 1 + m) (count_app table f ts)
count_app (app g us ∷ table) f ts = count_app table f ts

-- ---- term lines

abbrev Are : List Symbol → TermLines → Type 0
Are symbols given = All (IsTermOver symbols (variable_count given.table)) given.each

push_over : (symbols : List Symbol) (vars : ℕ) (each more : List Term) (t : Term) → more ≡ each ++ t ∷ [] → All (IsTermOver symbols vars) each → IsTermOver symbols vars t → All (IsTermOver symbols vars) more
push_over symbols vars each more t is over here = subst (All (IsTermOver symbols vars)) (sym is) (All-push (IsTermOver symbols vars) each t over here)

variable_over : (symbols : List Symbol) (old new : TermLines) → AddsVariable old new → Are symbols old → Are symbols new
variable_over symbols old new adds over =
    let count : variable_count new.table ≡ variable_count old.table + 1 = ap variable_count adds.table ∙ count_push old.table (variable_count old.table) in
    push_over symbols (variable_count new.table) old.each new.each (var (variable_count old.table)) adds.each
    (all_more symbols (variable_count old.table) (variable_count new.table) (omega arith) old.each over) (omega arith)

application_over : (symbols : List Symbol) (old new : TermLines) (symbol : Symbol) (numbers : List ℕ) (number : ℕ) → symbol.kind ≡ Function → symbol.arity ≡ length numbers
    → AreThere old.each numbers → slice_get symbols number ≡ Some symbol → AddsApplication old new number numbers → Are symbols old → Are symbols new
application_over symbols old new symbol numbers number is count there found adds over =
    let vars : ℕ = variable_count old.table in
    let args : List Term = map (tree_at old.each) numbers in
    let same : variable_count new.table ≡ vars = elim adds.table.1.grows [
      | inl kept ↦ ap variable_count kept.0
      | inr grown ↦ ap variable_count grown.0 ∙ count_app old.table number (as_terms args)
    ] in
    let arity : length (list_of (as_terms args)) ≡ length numbers = ap length (list_of-as_terms args) ∙ length-map numbers (tree_at old.each) in
    subst (λ (n : ℕ). All (IsTermOver symbols n) new.each) (sym same)
    (push_over symbols vars old.each new.each (app number (as_terms args)) adds.each over (
      has_shape symbols number symbol Function (length (list_of (as_terms args))) found is (count ∙ sym arity),
      as_terms_over symbols vars old.each numbers over there,
    ))

term_over : (symbols : List Symbol) (old new : TermLines) (raw : List ℕ) → GivesTerm symbols old raw new → Are symbols old → Are symbols new
term_over symbols old new raw (inl gives) over = variable_over symbols old new gives.1 over
term_over symbols old new raw (inr (symbol, numbers, number, is, there, found, adds)) over =
    application_over symbols old new symbol numbers number is.function.kind is.function.count there found adds over

-- ---- node lines

pub record Fit (over : Problem) (given : TermLines) (all : NodeLines) : Type 0 where
  pub root : all.root < length over.clauses
  pub depths : All (λ entry. (1 ≤ entry.depth) × (entry.depth ≤ 250)) all.entries
  pub clauses : All (λ entry. HasClauseOf (length over.clauses) entry.kind) all.entries
  pub closers : AllZip (λ entry closer. IsCloserOf entry.kind entry.depth closer) all.entries all.closers
  pub literals : All (λ entry. IsLiteralOver over.symbols (variable_count given.table) entry.literal) all.entries

zip_push : (R : Entry → ℕ → Type 0) (xs : List Entry) (ys : List ℕ) (x : Entry) (y : ℕ) → AllZip R xs ys → R x y → AllZip R (xs ++ x ∷ []) (ys ++ y ∷ [])
zip_push R [] [] x y h here = (here, tt)
zip_push R [] (b ∷ ys) x y h here = absurd h
zip_push R (a ∷ xs) [] x y h here = absurd h
zip_push R (a ∷ xs) (b ∷ ys) x y h here = (h.0, zip_push R xs ys x y h.1 here)

clause_over : (clauses : ℕ) (ending : Ending) → HasClause clauses ending → HasClauseOf clauses (kind_of ending)
clause_over clauses (closed_by depth) h = tt
clause_over clauses (extended_by clause) h = h

closer_over : (depth : ℕ) (ending : Ending) → ClosesAbove depth ending → IsCloserOf (kind_of ending) depth (closer_of ending)
closer_over depth (closed_by above) h = h
closer_over depth (extended_by clause) h = refl

literal_over : (symbols : List Symbol) (vars : ℕ) (each : List Term) (node : NodeLine) (predicate : ℕ) → IsPredicate node.symbol (length node.numbers) → slice_get symbols predicate ≡ Some node.symbol
    → All (IsTermOver symbols vars) each → AreThere each node.numbers → IsLiteralOver symbols vars (entry_of each node predicate).literal
literal_over symbols vars each node predicate is found over there =
    let count : node.symbol.arity ≡ length (map (tree_at each) node.numbers) = is.count ∙ sym (length-map node.numbers (tree_at each)) in
    record {
      predicate = elim is.kind [
        | inl plain ↦ inl (has_shape symbols predicate node.symbol Predicate (length (map (tree_at each) node.numbers)) found plain count)
        | inr equal ↦ inr (has_shape symbols predicate node.symbol Equality (length (map (tree_at each) node.numbers)) found equal.0 count)
      ];
      args = trees_over symbols vars each node.numbers over there;
    }

node_over : (over : Problem) (given : TermLines) (old new : NodeLines) (raw : List ℕ) (node : NodeLine) (predicate : ℕ) → IsNode raw node → GivesNode over given.each old new node predicate
    → Are over.symbols given → Fit over given old → Fit over given new
node_over over given old new raw node predicate is gives are fit =
    let entry : Entry = entry_of given.each node predicate in
    subst (Fit over given) (sym gives.is) (record {
      root = fit.root;
      depths = All-push (λ e. (1 ≤ e.depth) × (e.depth ≤ 250)) old.entries entry fit.depths (gives.order.below_root, gives.order.shallow);
      clauses = All-push (λ e. HasClauseOf (length over.clauses) e.kind) old.entries entry fit.clauses (clause_over (length over.clauses) node.ending gives.clause);
      closers = zip_push (λ e k. IsCloserOf e.kind e.depth k) old.entries old.closers entry (closer_of node.ending) fit.closers (closer_over node.depth node.ending gives.order.closer);
      literals = All-push (λ e. IsLiteralOver over.symbols (variable_count given.table) e.literal) old.entries entry fit.literals (literal_over over.symbols (variable_count given.table) given.each node predicate is.predicate gives.symbol are gives.numbers);
    })

-- ---- the whole

abbrev Fits : Problem → Stage → Type 0
Fits over opening = Unit {0}
Fits over (levels level) = Unit {0}
Fits over heading = Unit {0}
Fits over (terms head given) = Are over.symbols given
Fits over (nodes head given all) = Are over.symbols given × Fit over given all

not_accepted : (line : ℕ) (kind : CertKind) (certificate : Certificate) → accepted certificate ≡ refused line kind → ⊥
not_accepted line kind certificate e = absurd cc

ends_over : (over : Problem) (stage : Stage) (raw : List ℕ) (certificate : Certificate) → Fits over stage → Ends stage raw certificate → IsOverProblem over certificate
ends_over over opening raw certificate fits ends = absurd ends
ends_over over (levels level) raw certificate fits ends = absurd ends
ends_over over heading raw certificate fits ends = absurd ends
ends_over over (terms head given) raw certificate fits ends = absurd ends
ends_over over (nodes head given all) raw certificate fits ends =
    let is = ends.2 in
    record {
      root = rw is.root fits.1.root;
      depths = subst (λ (es : List Entry). All (λ entry. (1 ≤ entry.depth) × (entry.depth ≤ 250)) es) (sym is.nodes) fits.1.depths;
      clauses = subst (λ (es : List Entry). All (λ entry. HasClauseOf (length over.clauses) entry.kind) es) (sym is.nodes) fits.1.clauses;
      closers = subst (λ (ks : List ℕ). AllZip (λ entry closer. IsCloserOf entry.kind entry.depth closer) (preorder certificate.tableau.tableau) ks) (sym is.closers)
          (subst (λ (es : List Entry). AllZip (λ entry closer. IsCloserOf entry.kind entry.depth closer) es all.closers) (sym is.nodes) fits.1.closers);
      symbols = record {
        vars = variable_count given.table;
        literals = subst (λ (es : List Entry). All (λ entry. IsLiteralOver over.symbols (variable_count given.table) entry.literal) es) (sym is.nodes) fits.1.literals;
      };
      lines = omega (arith, is.header, is.root_line);
    }

leads_over : (over : Problem) (before after : ℕ) (stage next : Stage) (raw : List ℕ) → Leads over before after stage raw next → Fits over stage → Fits over next
leads_over over before after opening next raw leads fits = subst (Fits over) (sym leads.1) tt
leads_over over before after (levels level) next raw leads fits = elim leads.1 [
  | inl more ↦ subst (Fits over) (sym more.1) tt
  | inr last ↦ subst (Fits over) (sym last.1) tt
]
leads_over over before after heading next raw leads fits = subst (Fits over) (sym leads.3) (λ k d lt. absurd (omega arith))
leads_over over before after (terms head given) next raw (inl (lt, new, gives, is)) fits = subst (Fits over) (sym is) (term_over over.symbols given new raw gives fits)
leads_over over before after (terms head given) next raw (inr (le, clause, root, within, is)) fits = subst (Fits over) (sym is) (
  fits,
  record {
    root = within;
    depths = λ k d lt. absurd (omega arith);
    clauses = λ k d lt. absurd (omega arith);
    closers = tt;
    literals = λ k d lt. absurd (omega arith);
  },
)
leads_over over before after (nodes head given old) next raw (lt, node, predicate, new, is, gives, next_is) fits =
    subst (Fits over) (sym next_is) (fits.0, node_over over given old new raw node predicate is gives fits.0 fits.1)

reads_over : (over : Problem) (raws : List (List ℕ)) (stage : Stage) (before : ℕ) (certificate : Certificate) → Fits over stage → ReadsFrom over stage before raws (accepted certificate) → IsOverProblem over certificate
reads_over over [] stage before certificate fits h = absurd (not_accepted _ _ certificate h)
reads_over over (raw ∷ raws) stage before certificate fits (inl (next, leads, later)) =
    reads_over over raws next (before + 1) certificate (leads_over over before (length raws) stage next raw leads fits) later
reads_over over (raw ∷ raws) stage before certificate fits (inr (inl (kind, bad, is))) = absurd (not_accepted _ _ certificate is)
reads_over over (raw ∷ raws) stage before certificate fits (inr (inr (other, ends, is))) =
    let same : other ≡ certificate = sym cc in
    subst (IsOverProblem over) same (ends_over over stage raw other fits ends)

pub over_problem : CertificatesAreOverProblems
over_problem over bytes certificate h = reads_over over (cut_lines bytes) opening 0 certificate tt h
