-- The problems and tableaux of the tests are as described, and valid.
use Rattle.std.proofs.Common.{◌≡◌, ℕ, zero, suc, ◌+◌, ◌<◌, ◌≤◌, inl, Bool, List, [], ◌∷◌, ◌++◌, length, map, take, get_or, Bor, refl, sym, ◌∙◌, ap, ap₂, subst, arith, lit<, lit≤, codes}
use Rattle.std.specs.Prelude.{All}
use Rattle.std.proofs.lemmas.List.{length-map, map-append, take_more}
use Rattle.std.proofs.lemmas.List.Elements.{All-nil, All-cons, All-map, All-push}
use Rattle.pm_logic.specs.declared.problem.Literal.{Literal}
use Rattle.pm_logic.specs.declared.problem.Clause.{Clause}
use Rattle.pm_logic.specs.declared.symbols.Kind.TheVariants.{Predicate, Function, Equality}
use Rattle.pm_logic.specs.declared.tableau.NodeKind.{NodeKind}
use Rattle.pm_logic.specs.declared.tableau.NodeKind.TheVariants.{Leaf, Inner}
use Rattle.pm_logic.specs.Term.{Term, tree_at}
use Rattle.pm_logic.specs.Problem as problem
use Rattle.pm_logic.specs.Problem.{Symbol, IsTermOver, IsLiteralOver, IsClauseOver, IsPrintable, IsEquality, IsValid}
use Rattle.pm_logic.specs.Tableau.{Entry, deepest_after, deepest_next}
use Rattle.pm_logic.specs.View.{HasRows, literal_of, clause_of}
use Rattle.pm_lift.specs.Inside.Example.{symbol, example_symbols, example_terms, described, described_clause, described_entry, AreFew}

-- one more literal of a clause
pub literals_more : (terms : List Term) (done now : List Literal) (l : Literal) (atoms : List (Bool × ℕ × ℕ)) (i : ℕ) (d : Bool × ℕ × ℕ) → i < length atoms
    → now ≡ done ++ l ∷ [] → literal_of terms l ≡ described terms (get_or atoms i d)
    → map (literal_of terms) done ≡ map (described terms) (take i atoms)
    → map (literal_of terms) now ≡ map (described terms) (take (i + 1) atoms)
literals_more terms done now l atoms i d lt is same before =
    ap (map (literal_of terms)) is ∙ map-append (literal_of terms) done (l ∷ [])
    ∙ ap₂ (λ ms m. ms ++ m ∷ []) before same
    ∙ sym (map-append (described terms) (take i atoms) (get_or atoms i d ∷ []))
    ∙ sym (ap (map (described terms)) (take_more atoms i d lt))

pub rows_more : (count : ℕ) (done now : List Literal) (l : Literal) → now ≡ done ++ l ∷ [] → HasRows count l → All (HasRows count) done → All (HasRows count) now
rows_more count done now l is own before = subst (All (HasRows count)) (sym is) (All-push (HasRows count) done l before own)

pub predicates_more : (atoms : List (Bool × ℕ × ℕ)) (i : ℕ) (d : Bool × ℕ × ℕ) → i < length atoms → (get_or atoms i d).1 ≤ 2
    → All (λ (atom : Bool × ℕ × ℕ). atom.1 ≤ 2) (take i atoms) → All (λ (atom : Bool × ℕ × ℕ). atom.1 ≤ 2) (take (i + 1) atoms)
predicates_more atoms i d lt own before =
    let P = λ (atom : Bool × ℕ × ℕ). atom.1 ≤ 2 in
    subst (All P) (sym (take_more atoms i d lt)) (All-push P (take i atoms) (get_or atoms i d) before own)

-- the depth that a node leaves to the next
pub deepest_push : (es : List Entry) (e : Entry) → deepest_next (es ++ e ∷ []) ≡ deepest_after e.kind e.depth
deepest_push [] e = refl
deepest_push (d ∷ []) e = refl
deepest_push (d ∷ c ∷ es) e = deepest_push (c ∷ es) e

-- the terms are over the symbols and two variables
abbrev IsOver : Term → Type 0
IsOver = IsTermOver example_symbols 2

term_over : (row : ℕ) → IsOver (tree_at example_terms row)
term_over zero = lit< tt
term_over (suc zero) = ((refl, refl), tt)
term_over (suc (suc zero)) = ((refl, refl), (lit< tt, tt))
term_over (suc (suc (suc zero))) = ((refl, refl), (((refl, refl), tt), tt))
term_over (suc (suc (suc (suc zero)))) = ((refl, refl), (((refl, refl), (((refl, refl), tt), tt)), tt))
term_over (suc (suc (suc (suc (suc zero))))) = lit< tt
term_over (suc (suc (suc (suc (suc (suc row)))))) = lit< tt

literal_over : (positive : Bool) (predicate row : ℕ) → predicate ≤ 2 → IsLiteralOver example_symbols 2 (described example_terms (positive, predicate, row))
literal_over positive zero row le = record {
  predicate = inl (refl, refl);
  args = All-cons IsOver (tree_at example_terms row) [] (term_over row) (All-nil IsOver);
}
literal_over positive (suc zero) row le = record { predicate = inl (refl, refl); args = All-nil IsOver }
literal_over positive (suc (suc zero)) row le = record { predicate = inl (refl, refl); args = All-nil IsOver }
literal_over positive (suc (suc (suc n))) row le = absurd (omega (arith, le))

pub clause_over : (atoms : List (Bool × ℕ × ℕ)) → length atoms ≤ 255 → All (λ (atom : Bool × ℕ × ℕ). atom.1 ≤ 2) atoms → IsClauseOver example_symbols (described_clause example_terms atoms)
clause_over atoms few each = record {
  few = omega (arith, few, length-map atoms (described example_terms));
  literals = All-map (IsLiteralOver example_symbols 2) (described example_terms) atoms
      (λ k d lt. literal_over (get_or atoms k d).0 (get_or atoms k d).1 (get_or atoms k d).2 (each k d lt));
}

byte_printable : (b : ℕ) → 32 ≤ b → b ≤ 126 → IsPrintable (b ∷ [])
byte_printable b low high = (lit< tt, All-cons (λ b. (32 ≤ b) × (b ≤ 126)) b [] (low, high) (All-nil (λ b. (32 ≤ b) × (b ≤ 126))))

-- what holds of each of the five symbols
each_symbol : (P : Symbol → Type 0) → P (symbol (codes "p") 1 Predicate) → P (symbol (codes "q") 0 Predicate) → P (symbol (codes "r") 0 Predicate) → P (symbol (codes "a") 0 Function) → P (symbol (codes "f") 1 Function)
    → All P example_symbols
each_symbol P p q r s t =
    All-cons P (symbol (codes "p") 1 Predicate) (symbol (codes "q") 0 Predicate ∷ symbol (codes "r") 0 Predicate ∷ symbol (codes "a") 0 Function ∷ symbol (codes "f") 1 Function ∷ []) p
    (All-cons P (symbol (codes "q") 0 Predicate) (symbol (codes "r") 0 Predicate ∷ symbol (codes "a") 0 Function ∷ symbol (codes "f") 1 Function ∷ []) q
    (All-cons P (symbol (codes "r") 0 Predicate) (symbol (codes "a") 0 Function ∷ symbol (codes "f") 1 Function ∷ []) r
    (All-cons P (symbol (codes "a") 0 Function) (symbol (codes "f") 1 Function ∷ []) s (All-cons P (symbol (codes "f") 1 Function) [] t (All-nil P)))))

-- a problem of clauses over these symbols and terms is valid
pub valid_example : (p : problem.Problem) → p.symbols ≡ example_symbols → length p.clauses ≤ 65536 → All (IsClauseOver example_symbols) p.clauses → IsValid p
valid_example p are few each =
    let P : Symbol → Type 0 = λ s. IsPrintable s.text in
    let Q : Symbol → Type 0 = λ s. s.kind ≡ Equality → IsEquality s in
    record {
      few = few;
      texts = subst (All P) (sym are) (each_symbol P (byte_printable 112 (lit≤ tt) (lit≤ tt)) (byte_printable 113 (lit≤ tt) (lit≤ tt)) (byte_printable 114 (lit≤ tt) (lit≤ tt))
          (byte_printable 97 (lit≤ tt) (lit≤ tt)) (byte_printable 102 (lit≤ tt) (lit≤ tt)));
      equality = subst (All Q) (sym are) (each_symbol Q (λ same. absurd cc) (λ same. absurd cc) (λ same. absurd cc) (λ same. absurd cc) (λ same. absurd cc));
      clauses = subst (λ (ss : List Symbol). All (IsClauseOver ss) p.clauses) (sym are) each;
    }

-- one more node of a tableau
pub nodes_more : (terms known : List Term) (nodes : List (ℕ × (Bool × ℕ × ℕ) × NodeKind)) (i : ℕ) (d : ℕ × (Bool × ℕ × ℕ) × NodeKind) (before after : List Entry) (l : Literal)
    → known ≡ example_terms → terms ≡ known → i < length nodes
    → after ≡ before ++ record { depth = (get_or nodes i d).0; literal = literal_of known l; kind = (get_or nodes i d).2 } ∷ []
    → literal_of terms l ≡ described terms (get_or nodes i d).1
    → before ≡ map (described_entry example_terms) (take i nodes)
    → after ≡ map (described_entry example_terms) (take (i + 1) nodes)
nodes_more terms known nodes i d before after l are same lt adds literal is =
    let own : literal_of known l ≡ described example_terms (get_or nodes i d).1 =
    ap (λ (ts : List Term). literal_of ts l) (sym same) ∙ literal ∙ ap (λ (ts : List Term). described ts (get_or nodes i d).1) (same ∙ are) in
    adds
    ∙ ap₂ (λ es m. es ++ record { depth = (get_or nodes i d).0; literal = m; kind = (get_or nodes i d).2 } ∷ []) is own
    ∙ sym (map-append (described_entry example_terms) (take i nodes) (get_or nodes i d ∷ []))
    ∙ sym (ap (map (described_entry example_terms)) (take_more nodes i d lt))

pub deepest_more : (before after : List Entry) (e : Entry) (n : ℕ) → after ≡ before ++ e ∷ [] → n ≡ deepest_after e.kind e.depth → n ≡ deepest_next after
deepest_more before after e n adds is = is ∙ sym (ap deepest_next adds ∙ deepest_push before e)

pub deepest_leaf : (k : NodeKind) (d n : ℕ) → k ≡ Leaf → n ≡ d → n ≡ deepest_after k d
deepest_leaf k d n is same = same ∙ sym (ap (λ (j : NodeKind). deepest_after j d) is)

pub deepest_inner : (k : NodeKind) (c d n : ℕ) → k ≡ Inner c → n ≡ d + 1 → n ≡ deepest_after k d
deepest_inner k c d n is same = same ∙ sym (ap (λ (j : NodeKind). deepest_after j d) is)

-- one more clause of a problem
pub clauses_more : (terms : List Term) (done now : List Clause) (clause : Clause) (lists : List (Bor (List (Bool × ℕ × ℕ)))) (i : ℕ) (d : Bor (List (Bool × ℕ × ℕ))) → i < length lists
    → now ≡ done ++ clause ∷ [] → clause_of terms clause ≡ described_clause terms (get_or lists i d).now
    → map (clause_of terms) done ≡ map (λ (l : Bor (List (Bool × ℕ × ℕ))). described_clause terms l.now) (take i lists)
    → map (clause_of terms) now ≡ map (λ (l : Bor (List (Bool × ℕ × ℕ))). described_clause terms l.now) (take (i + 1) lists)
clauses_more terms done now clause lists i d lt adds same is =
    let D = λ (l : Bor (List (Bool × ℕ × ℕ))). described_clause terms l.now in
    ap (map (clause_of terms)) adds ∙ map-append (clause_of terms) done (clause ∷ [])
    ∙ ap₂ (λ es m. es ++ m ∷ []) is same
    ∙ sym (map-append D (take i lists) (get_or lists i d ∷ []))
    ∙ sym (ap (map D) (take_more lists i d lt))

pub clause_rows_more : (count : ℕ) (done now : List Clause) (clause : Clause) → now ≡ done ++ clause ∷ [] → All (HasRows count) clause.literals.items
    → All (λ (c : Clause). All (HasRows count) c.literals.items) done → All (λ (c : Clause). All (HasRows count) c.literals.items) now
clause_rows_more count done now clause is own before =
    let P = λ (c : Clause). All (HasRows count) c.literals.items in subst (All P) (sym is) (All-push P done clause before own)

pub few_more : (lists : List (Bor (List (Bool × ℕ × ℕ)))) (i : ℕ) (d : Bor (List (Bool × ℕ × ℕ))) → i < length lists → AreFew (get_or lists i d).now
    → All (λ (l : Bor (List (Bool × ℕ × ℕ))). AreFew l.now) (take i lists) → All (λ (l : Bor (List (Bool × ℕ × ℕ))). AreFew l.now) (take (i + 1) lists)
few_more lists i d lt few before =
    let P = λ (l : Bor (List (Bool × ℕ × ℕ))). AreFew l.now in
    subst (All P) (sym (take_more lists i d lt)) (All-push P (take i lists) (get_or lists i d) before few)

pub clauses_valid : (lists : List (Bor (List (Bool × ℕ × ℕ)))) → All (λ (l : Bor (List (Bool × ℕ × ℕ))). AreFew l.now) lists
    → All (IsClauseOver example_symbols) (map (λ (l : Bor (List (Bool × ℕ × ℕ))). described_clause example_terms l.now) lists)
clauses_valid lists each =
    All-map (IsClauseOver example_symbols) (λ (l : Bor (List (Bool × ℕ × ℕ))). described_clause example_terms l.now) lists
    (λ k d lt. clause_over (get_or lists k d).now ((each k d lt).0) ((each k d lt).1))
