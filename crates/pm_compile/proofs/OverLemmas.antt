-- What is compiled is over the symbols.
use Rattle.std.proofs.Common.{◌≡◌, ℕ, ◌<◌, ◌≤◌, ◌^◌, inl, inr, List, [], ◌∷◌, Option, Some, None, All, length, map, slice_get, refl, sym, ◌∙◌, subst, arith}
use Rattle.std.specs.Prelude.{IsSomeAnd}
use Rattle.std.proofs.lemmas.List.Elements.{All-nil, All-cons, All-head, All-tail}
use Rattle.std.proofs.lemmas.Option.{slice_get_within, get_or_from_slice_get}
use Rattle.pm_logic.specs.declared.problem.Clause as code
use Rattle.pm_logic.specs.declared.problem.Literal.{Literal}
use Rattle.pm_logic.specs.Problem.{Symbol, Clause, IsTermOver, AreTermsOver, IsLiteralOver, IsClauseOver, HasShape}
use Rattle.pm_logic.specs.declared.symbols.Kind.{Kind}
use Rattle.pm_logic.specs.Term.{Term, var, app, as_terms, tree_at}
use Rattle.pm_logic.specs.Table.{variable_count}
use Rattle.pm_logic.specs.View.{HasRows, literal_of, clause_of}
use Rattle.pm_compile.specs.Scheme.{count}
use Rattle.pm_compile.specs.Inside.Ground.{IsRowOver}
use Rattle.pm_compile.specs.Inside.Clauses.{IsOver}
use Rattle.pm_compile.proofs.SchemeLemmas.{count-rows}

-- a symbol takes as many arguments as its shape says
shape_arity : (kind : Kind) (n m : ℕ) (o : Option Symbol)
    → IsSomeAnd o (λ s. (s.kind ≡ kind) × (s.arity ≡ m)) → IsSomeAnd o (λ s. s.arity ≡ n) → n ≡ m
shape_arity kind n m None shape arity = absurd shape
shape_arity kind n m (Some s) shape arity = sym arity ∙ shape.1

shape_there : (kind : Kind) (m : ℕ) (o : Option Symbol) → IsSomeAnd o (λ s. (s.kind ≡ kind) × (s.arity ≡ m)) → (s : Symbol) × (o ≡ Some s)
shape_there kind m None shape = absurd shape
shape_there kind m (Some s) shape = (s, refl)

pub shape_within : (symbols : List Symbol) (f m : ℕ) (kind : Kind) → HasShape symbols f kind m → f < length symbols
shape_within symbols f m kind shape =
    let there = shape_there kind m (slice_get symbols f) shape in
    slice_get_within symbols f there.0 there.1

-- an application's symbol is one of the symbols, and takes so many arguments
pub symbol-over : (symbols : List Symbol) (terms : List Term) (row f : ℕ) (args : List ℕ) → IsRowOver symbols terms row
    → tree_at terms row ≡ app f (as_terms (map (tree_at terms) args)) → f < length symbols
symbol-over symbols terms row f args over is =
    let shape : IsTermOver symbols over.1.0 (app f (as_terms (map (tree_at terms) args))) = subst (IsTermOver symbols over.1.0) is over.1.2 in
    shape_within symbols f (count (as_terms (map (tree_at terms) args))) _ shape.0

pub arity-over : (symbols : List Symbol) (terms : List Term) (row f n : ℕ) (args : List ℕ) → IsRowOver symbols terms row
    → tree_at terms row ≡ app f (as_terms (map (tree_at terms) args)) → IsSomeAnd (slice_get symbols f) (λ s. s.arity ≡ n) → n ≡ length args
arity-over symbols terms row f n args over is arity =
    let shape : IsTermOver symbols over.1.0 (app f (as_terms (map (tree_at terms) args))) = subst (IsTermOver symbols over.1.0) is over.1.2 in
    shape_arity _ n (count (as_terms (map (tree_at terms) args))) (slice_get symbols f) shape.0 arity ∙ count-rows terms args

-- no more variables than terms
pub variables-few : (ts : List Term) → variable_count ts ≤ length ts
variables-few [] = omega arith
variables-few (var n ∷ ts) = omega (arith, variables-few ts)
variables-few (app f args ∷ ts) = omega (arith, variables-few ts)

trees-over : (symbols : List Symbol) (vars : ℕ) (terms : List Term) (rows : List ℕ) → AreTermsOver symbols vars (as_terms (map (tree_at terms) rows))
    → All (λ row. IsTermOver symbols vars (tree_at terms row)) rows
trees-over symbols vars terms [] over = All-nil (λ row. IsTermOver symbols vars (tree_at terms row))
trees-over symbols vars terms (row ∷ rows) over =
    All-cons (λ row. IsTermOver symbols vars (tree_at terms row)) row rows over.0 (trees-over symbols vars terms rows over.1)

-- the arguments of a term are rows over the symbols
pub args-over : (symbols : List Symbol) (terms : List Term) (row f : ℕ) (args : List ℕ) → IsRowOver symbols terms row
    → tree_at terms row ≡ app f (as_terms (map (tree_at terms) args)) → All (λ arg. arg < row) args
    → All (IsRowOver symbols terms) args
args-over symbols terms row f args over is below k d lt =
    let whole : IsTermOver symbols over.1.0 (app f (as_terms (map (tree_at terms) args))) = subst (IsTermOver symbols over.1.0) is over.1.2 in
    let small = below k d lt in
    (omega (arith, small, over.0), (over.1.0, over.1.1, trees-over symbols over.1.0 terms args whole.1 k d lt))

-- what holds of each element's image
pub All-images : {X Y : Type 0} (P : Y → Type 0) (f : X → Y) (xs : List X) → All P (map f xs) → All (λ x. P (f x)) xs
All-images P f [] h = All-nil (λ x. P (f x))
All-images P f (x ∷ xs) h = All-cons (λ x. P (f x)) x xs (All-head P (f x) (map f xs) h) (All-images P f xs (All-tail P (f x) (map f xs) h))

-- the arguments of a literal are rows over the symbols
pub literal_args-over : (symbols : List Symbol) (terms : List Term) (literal : Literal) → IsOver symbols terms literal
    → All (IsRowOver symbols terms) literal.args.items
literal_args-over symbols terms literal over k d lt =
    (over.0 k d lt, (over.1.0, over.1.1, All-images (IsTermOver symbols over.1.0) (tree_at terms) literal.args.items over.1.2.args k d lt))

-- its predicate is one of the symbols, and takes so many arguments
pub predicate-over : (symbols : List Symbol) (terms : List Term) (literal : Literal) → IsOver symbols terms literal
    → literal.predicate < length symbols
predicate-over symbols terms literal over =
    elim over.1.2.predicate [
      | inl shape ↦ shape_within symbols literal.predicate (length (literal_of terms literal).args) _ shape
      | inr shape ↦ shape_within symbols literal.predicate (length (literal_of terms literal).args) _ shape
    ]

pub predicate_arity-over : (symbols : List Symbol) (terms : List Term) (literal : Literal) (n : ℕ) → IsOver symbols terms literal
    → IsSomeAnd (slice_get symbols literal.predicate) (λ s. s.arity ≡ n) → n ≡ length (literal_of terms literal).args
predicate_arity-over symbols terms literal n over arity =
    elim over.1.2.predicate [
      | inl shape ↦ shape_arity _ n (length (literal_of terms literal).args) (slice_get symbols literal.predicate) shape arity
      | inr shape ↦ shape_arity _ n (length (literal_of terms literal).args) (slice_get symbols literal.predicate) shape arity
    ]

-- the literals of a clause are over the symbols, and are few
pub clause-over : (symbols : List Symbol) (clauses : List Clause) (i : ℕ) (clause : Clause)
    → All (IsClauseOver symbols) clauses → slice_get clauses i ≡ Some clause → IsClauseOver symbols clause
clause-over symbols clauses i clause are stands =
    subst (IsClauseOver symbols) (get_or_from_slice_get clauses i clause clause stands) (are i clause (slice_get_within clauses i clause stands))

pub literals-over : (symbols : List Symbol) (terms : List Term) (clause : code.Clause) → clause.vars < 2 ^ 32
    → IsClauseOver symbols (clause_of terms clause) → All (HasRows (length terms)) clause.literals.items
    → All (IsOver symbols terms) clause.literals.items
literals-over symbols terms clause small over rows k d lt =
    (rows k d lt, (clause.vars, small, All-images (IsLiteralOver symbols clause.vars) (literal_of terms) clause.literals.items over.literals k d lt))
