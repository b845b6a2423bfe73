-- The problem of the tests is a valid one.
use Rattle.std.proofs.Common.{◌≡◌, ◌<◌, ◌≤◌, inl, ℕ, zero, suc, List, [], ◌∷◌, length, map, get_or, refl, sym, subst, arith, lit<, lit≤, codes}
use Rattle.std.specs.List.{All}
use Rattle.std.proofs.lemmas.List.{length-map}
use Rattle.std.proofs.lemmas.List.Elements.{All-nil, All-cons, All-map}
use Rattle.pm_logic.specs.declared.problem.Literal.{Literal}
use Rattle.pm_logic.specs.declared.problem.Clause.{Clause}
use Rattle.pm_logic.specs.declared.symbols.Kind.TheVariants.{Predicate, Function, Equality}
use Rattle.pm_logic.specs.Term.{Term, tree_at}
use Rattle.pm_logic.specs.Problem.{Symbol, HasShape, IsTermOver, IsLiteralOver, IsClauseOver, IsPrintable, IsEquality, IsValid}
use Rattle.pm_logic.specs.View.{literal_of, clause_of}
use Rattle.pm_check.specs.Inside.Example.{example_symbols, example_terms, IsExampleLiteral, IsExampleClause}

byte_printable : (b : ℕ) → 32 ≤ b → b ≤ 126 → IsPrintable (b ∷ [])
byte_printable b low high = (lit< tt, All-cons (λ b. (32 ≤ b) × (b ≤ 126)) b [] (low, high) (All-nil (λ b. (32 ≤ b) × (b ≤ 126))))

-- what holds of both symbols
each_symbol : (P : Symbol → Type 0) → P (record { text = codes "p"; arity = 1; kind = Predicate }) → P (record { text = codes "a"; arity = 0; kind = Function }) → All P example_symbols
each_symbol P first second =
    All-cons P (record { text = codes "p"; arity = 1; kind = Predicate }) (record { text = codes "a"; arity = 0; kind = Function } ∷ []) first
    (All-cons P (record { text = codes "a"; arity = 0; kind = Function }) [] second (All-nil P))

term_over : (row : ℕ) → row < 2 → IsTermOver example_symbols 1 (tree_at example_terms row)
term_over zero lt = lit< tt
term_over (suc zero) lt = ((refl, refl), tt)
term_over (suc (suc row)) lt = absurd (omega arith)

literal_over : (literal : Literal) → IsExampleLiteral literal → IsLiteralOver example_symbols 1 (literal_of example_terms literal)
literal_over literal is = record {
  predicate = inl
      (subst (λ n. HasShape example_symbols n Predicate (length (map (tree_at example_terms) literal.args.items))) (sym is.predicate)
      (subst (λ (rows : List ℕ). HasShape example_symbols 0 Predicate (length (map (tree_at example_terms) rows))) (sym is.args) (refl, refl)));
  args = subst (λ (rows : List ℕ). All (IsTermOver example_symbols 1) (map (tree_at example_terms) rows)) (sym is.args)
      (All-cons (IsTermOver example_symbols 1) (tree_at example_terms is.row) [] (term_over is.row is.there) (All-nil (IsTermOver example_symbols 1)));
}

clause_over : (clause : Clause) → IsExampleClause clause → IsClauseOver example_symbols (clause_of example_terms clause)
clause_over clause is = record {
  few = omega (arith, is.few, length-map clause.literals.items (literal_of example_terms));
  literals = subst (λ vars. All (IsLiteralOver example_symbols vars) (map (literal_of example_terms) clause.literals.items)) (sym is.vars)
      (All-map (IsLiteralOver example_symbols 1) (literal_of example_terms) clause.literals.items (λ k d lt. literal_over (get_or clause.literals.items k d) (is.literals k d lt)));
}

-- a problem of clauses of these literals is valid
pub valid_example : (symbols : List Symbol) (terms : List Term) (clauses : List Clause) → symbols ≡ example_symbols → terms ≡ example_terms → length clauses ≤ 65536 → All IsExampleClause clauses
    → IsValid (record { symbols = symbols; terms = terms; clauses = map (clause_of terms) clauses })
valid_example symbols terms clauses are shown few each =
    let P : Symbol → Type 0 = λ s. IsPrintable s.text in
    let Q : Symbol → Type 0 = λ s. s.kind ≡ Equality → IsEquality s in
    record {
      few = omega (arith, few, length-map clauses (clause_of terms));
      texts = subst (All P) (sym are) (each_symbol P (byte_printable 112 (lit≤ tt) (lit≤ tt)) (byte_printable 97 (lit≤ tt) (lit≤ tt)));
      equality = subst (All Q) (sym are) (each_symbol Q (λ same. absurd cc) (λ same. absurd cc));
      clauses = subst (λ (ss : List Symbol). All (IsClauseOver ss) (map (clause_of terms) clauses)) (sym are)
          (subst (λ (ts : List Term). All (IsClauseOver example_symbols) (map (clause_of ts) clauses)) (sym shown)
          (All-map (IsClauseOver example_symbols) (clause_of example_terms) clauses (λ k d lt. clause_over (get_or clauses k d) (each k d lt))));
    }
