-- What terms and arguments begin with, in a valid problem.
use Rattle.std.proofs.Common.{◌≡◌, ℕ, ◌<◌, ◌≤◌, List, [], length, get_or, Option, Some, None, refl, sym, ◌∙◌, ap, subst, arith, slice_get, option_map, option_and_then}
use Rattle.std.specs.List.{All}
use Rattle.std.specs.Option.{IsSomeAnd, option_map_or}
use Rattle.std.proofs.lemmas.Option.{slice_get-map, slice_get_within, slice_get_read, slice_get_past, get_or_from_slice_get}
use Rattle.pm_logic.specs.declared.problem.Literal.{Literal}
use Rattle.pm_logic.specs.declared.problem.Clause.{Clause}
use Rattle.pm_logic.specs.declared.symbols.Kind.{Kind}
use Rattle.pm_logic.specs.Term.{Term, var, app, tree_at}
use Rattle.pm_logic.specs.Problem as problem
use Rattle.pm_logic.specs.View.{literal_of, clause_of}
use Rattle.pm_calculus.specs.Skeleton.{literals_at}
use Rattle.pm_calculus.specs.Alternatives.{Head}
use Rattle.pm_contra.specs.Index.{top, top_at}

-- what holds of each item holds of one
pub all_at : {A : Type 0} (P : A → Type 0) (xs : List A) (i : ℕ) (x : A) → All P xs → slice_get xs i ≡ Some x → P x
all_at P xs i x each is = subst P (get_or_from_slice_get xs i x x is) (each i x (slice_get_within xs i x is))

-- the symbols of a valid problem's literals and terms are numbers of symbols
pub shape_below : (symbols : List problem.Symbol) (f : ℕ) (kind : Kind) (n : ℕ) → problem.HasShape symbols f kind n → f < length symbols
shape_below symbols f kind n h = by (slice_get symbols f) refl h
  where
    by : (o : Option problem.Symbol) → slice_get symbols f ≡ o → IsSomeAnd o (λ s. (s.kind ≡ kind) × (s.arity ≡ n)) → f < length symbols
    by None is h = absurd h
    by (Some s) is h = slice_get_within symbols f s is

top-le : (symbols : List problem.Symbol) (vars : ℕ) (t : Term) → problem.IsTermOver symbols vars t → top (Some t) ≤ length symbols
top-le symbols vars (var n) h = omega arith
top-le symbols vars (app f ts) h = omega (arith, shape_below symbols f _ _ h.0)

-- an argument begins with a symbol of the problem
pub top_at-le : (p : problem.Problem) → problem.IsValid p → (q : ℕ) (head : Head) → top_at p.clauses q head ≤ length p.symbols
top_at-le p valid q head = clause (slice_get p.clauses head.clause) refl
  where
    argument : (vars : ℕ) (l : problem.Literal) → problem.IsLiteralOver p.symbols vars l → (o : Option Term) → slice_get l.args q ≡ o → top o ≤ length p.symbols
    argument vars l over None is = omega arith
    argument vars l over (Some t) is = top-le p.symbols vars t (all_at (problem.IsTermOver p.symbols vars) l.args q t over.args is)

    literal : (c : problem.Clause) → problem.IsClauseOver p.symbols c → (o : Option problem.Literal) → slice_get c.literals head.literal ≡ o
        → top (option_and_then (λ l. slice_get l.args q) o) ≤ length p.symbols
    literal c over None is = omega arith
    literal c over (Some l) is =
        argument c.vars l (all_at (problem.IsLiteralOver p.symbols c.vars) c.literals head.literal l over.literals is) (slice_get l.args q) refl

    clause : (o : Option problem.Clause) → slice_get p.clauses head.clause ≡ o
        → top (option_and_then (λ l. slice_get l.args q) (slice_get (option_map_or (λ c. c.literals) o []) head.literal)) ≤ length p.symbols
    clause None is = omega arith
    clause (Some c) is =
        literal c (all_at (problem.IsClauseOver p.symbols) p.clauses head.clause c valid.clauses is) (slice_get c.literals head.literal) refl

-- the literal at a head, as the code has it
literal_stands : (clauses : List problem.Clause) (terms : List Term) (i j : ℕ) (c : Clause) (l : Literal)
    → slice_get clauses i ≡ Some (clause_of terms c) → slice_get c.literals.items j ≡ Some l
    → slice_get (literals_at clauses i) j ≡ Some (literal_of terms l)
literal_stands clauses terms i j c l c-is l-is =
    ap (λ (o : Option problem.Clause). slice_get (option_map_or (λ d. d.literals) o []) j) c-is
    ∙ slice_get-map (literal_of terms) c.literals.items j ∙ ap (option_map (literal_of terms)) l-is

-- and its argument
top_at-argument : (clauses : List problem.Clause) (terms : List Term) (q : ℕ) (head : Head) (c : Clause) (l : Literal)
    → slice_get clauses head.clause ≡ Some (clause_of terms c) → slice_get c.literals.items head.literal ≡ Some l
    → top_at clauses q head ≡ top (option_map (tree_at terms) (slice_get l.args.items q))
top_at-argument clauses terms q head c l c-is l-is =
    ap (λ (o : Option problem.Literal). top (option_and_then (λ k. slice_get k.args q) o)) (literal_stands clauses terms head.clause head.literal c l c-is l-is)
    ∙ ap top (slice_get-map (tree_at terms) l.args.items q)

-- the argument at a place of the literal that was read at a head
pub top_at-read : (clauses : List problem.Clause) (terms : List Term) (q : ℕ) (head : Head) (i j : ℕ) (c : Clause) (ls : List Literal) (l : Literal) (args : List ℕ)
    → record { clause = i; literal = j } ≡ head → slice_get clauses i ≡ Some (clause_of terms c)
    → ls ≡ c.literals.items → j < length ls → l ≡ get_or ls j l → args ≡ l.args.items
    → top_at clauses q head ≡ top (option_map (tree_at terms) (slice_get args q))
top_at-read clauses terms q head i j c ls l args seen c-is ls-is lt read args-is =
    let l-is : slice_get c.literals.items j ≡ Some l =
    ap (λ (ks : List Literal). slice_get ks j) (sym ls-is) ∙ slice_get_read ls (length ls) j l refl lt read in
    ap (top_at clauses q) (sym seen) ∙ top_at-argument clauses terms q (record { clause = i; literal = j }) c l c-is l-is
    ∙ ap (λ (rows : List ℕ). top (option_map (tree_at terms) (slice_get rows q))) (sym args-is)

pub top_at-row : (clauses : List problem.Clause) (terms : List Term) (q : ℕ) (head : Head) (args : List ℕ) (row : ℕ)
    → top_at clauses q head ≡ top (option_map (tree_at terms) (slice_get args q)) → q < length args → row ≡ get_or args q row
    → top_at clauses q head ≡ top (Some (tree_at terms row))
top_at-row clauses terms q head args row is lt read =
    is ∙ ap (λ (o : Option ℕ). top (option_map (tree_at terms) o)) (slice_get_read args (length args) q row refl lt read)

pub top_at-none : (clauses : List problem.Clause) (terms : List Term) (q : ℕ) (head : Head) (args : List ℕ)
    → top_at clauses q head ≡ top (option_map (tree_at terms) (slice_get args q)) → length args ≤ q → top_at clauses q head ≡ 0
top_at-none clauses terms q head args is le =
    is ∙ ap (λ (o : Option ℕ). top (option_map (tree_at terms) o)) (slice_get_past args q le)
