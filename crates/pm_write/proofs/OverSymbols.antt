-- What is written is over the symbols.
use Rattle.std.proofs.Common.{◌≡◌, ◌<◌, ◌++◌, ℕ, List, [], ◌∷◌, Bor, Some, All, length, map, sym, subst, slice_get, arith}
use Rattle.std.proofs.lemmas.List.Elements.{All-nil, All-cons, All-append, All-head, All-tail}
use Rattle.std.proofs.lemmas.Option.{slice_get_within, get_or_from_slice_get}
use Rattle.pm_logic.specs.declared.problem.Clause as code
use Rattle.pm_logic.specs.declared.problem.Literal.{Literal}
use Rattle.pm_logic.specs.Problem.{Symbol, Clause, IsTermOver, AreTermsOver, IsLiteralOver, IsClauseOver}
use Rattle.pm_logic.specs.Term.{Term, app, as_terms, tree_at}
use Rattle.pm_logic.specs.View.{HasRows, literal_of, clause_of}
use Rattle.pm_write.specs.declared.terms.Pending.{Pending}
use Rattle.pm_write.specs.Rows.{IsTerm}
use Rattle.pm_write.specs.Inside.Pending.{AreTerms, IsOver}

-- what holds of each element's image
All-images : {X Y : Type 0} (P : Y → Type 0) (f : X → Y) (xs : List X) → All P (map f xs) → All (λ x. P (f x)) xs
All-images P f [] h = All-nil (λ x. P (f x))
All-images P f (x ∷ xs) h = All-cons (λ x. P (f x)) x xs (All-head P (f x) (map f xs) h) (All-images P f xs (All-tail P (f x) (map f xs) h))

All-both : {X : Type 0} (P Q : X → Type 0) (xs : List X) → All P xs → All Q xs → All (λ x. P x × Q x) xs
All-both P Q xs p q k d lt = (p k d lt, q k d lt)

-- a list that begins
pub terms-begun : (symbols : List Symbol) (terms : List Term) (before after : List Pending) (args : Bor (List ℕ))
    → after ≡ before ++ record { mark = 40; args = args } ∷ [] → All (IsTerm symbols terms) args.now → AreTerms symbols terms before → AreTerms symbols terms after
terms-begun symbols terms before after args is new are =
    let P : Pending → Type 0 = λ (l : Pending). All (IsTerm symbols terms) l.args.now in
    let list : Pending = record { mark = 40; args = args } in
    subst (AreTerms symbols terms) (sym is) (All-append P before (list ∷ []) are (All-cons P list [] new (All-nil P)))

-- the arguments of a term over the symbols
trees-over : (symbols : List Symbol) (vars : ℕ) (terms : List Term) (rows : List ℕ) → AreTermsOver symbols vars (as_terms (map (tree_at terms) rows))
    → All (λ row. IsTermOver symbols vars (tree_at terms row)) rows
trees-over symbols vars terms [] h = All-nil (λ row. IsTermOver symbols vars (tree_at terms row))
trees-over symbols vars terms (row ∷ rows) h = All-cons (λ row. IsTermOver symbols vars (tree_at terms row)) row rows h.0 (trees-over symbols vars terms rows h.1)

pub args-over : (symbols : List Symbol) (terms : List Term) (term f : ℕ) (args : List ℕ)
    → IsTerm symbols terms term → tree_at terms term ≡ app f (as_terms (map (tree_at terms) args)) → All (λ arg. arg < term) args
    → All (IsTerm symbols terms) args
args-over symbols terms term f args is shows below k d lt =
    let over : IsTermOver symbols is.1.0 (app f (as_terms (map (tree_at terms) args))) = subst (IsTermOver symbols is.1.0) shows is.1.1 in
    let small = below k d lt in
    (omega (arith, small, is.0), (is.1.0, trees-over symbols is.1.0 terms args over.1 k d lt))

-- the arguments of a literal over the symbols
pub literal_args-over : (symbols : List Symbol) (terms : List Term) (literal : Literal) → IsOver symbols terms literal → All (IsTerm symbols terms) literal.args.items
literal_args-over symbols terms literal is k d lt =
    (is.0 k d lt, (is.1.0, All-images (IsTermOver symbols is.1.0) (tree_at terms) literal.args.items is.1.1.args k d lt))

-- the literals of a clause over the symbols
pub literals-over : (symbols : List Symbol) (terms : List Term) (clauses : List Clause) (i : ℕ) (clause : code.Clause)
    → All (IsClauseOver symbols) clauses → slice_get clauses i ≡ Some (clause_of terms clause) → All (HasRows (length terms)) clause.literals.items
    → All (IsOver symbols terms) clause.literals.items
literals-over symbols terms clauses i clause are stands rows k d lt =
    let this : Clause = clause_of terms clause in
    let over : IsClauseOver symbols this =
    subst (IsClauseOver symbols) (get_or_from_slice_get clauses i this this stands) (are i this (slice_get_within clauses i this stands)) in
    (rows k d lt, (clause.vars, All-images (IsLiteralOver symbols clause.vars) (literal_of terms) clause.literals.items over.literals k d lt))
