-- The problem of the tests is a valid one.
use Rattle.std.proofs.Common.{◌≡◌, ℕ, ◌<◌, ◌≤◌, inl, inr, List, [], ◌∷◌, ◌++◌, length, map, Some, slice_get, refl, sym, ◌∙◌, ap, subst, arith, lit<, lit≤}
use Rattle.std.specs.Prelude.{All, IsSomeAnd}
use Rattle.std.proofs.lemmas.List.Elements.{All-nil, All-cons, All-push}
use Rattle.std.proofs.lemmas.Option.{slice_get_within, get_or_from_slice_get}
use Rattle.pm_logic.specs.declared.problem.Clause as code
use Rattle.pm_logic.specs.declared.problem.Literal.{Literal}
use Rattle.pm_logic.specs.declared.symbols.Kind.{Kind}
use Rattle.pm_logic.specs.declared.symbols.Kind.TheVariants.{Predicate, Function, Equality}
use Rattle.pm_logic.specs.Term.{Term, var, app, no_terms, more_terms, tree_at}
use Rattle.pm_logic.specs.Table.{Adds, variable_count}
use Rattle.pm_logic.specs.Problem as spec
use Rattle.pm_logic.specs.Problem.{Symbol, Numbers, HasShape, IsTermOver, IsLiteralOver, IsClauseOver, IsPrintable, IsEquality, IsValid}
use Rattle.pm_logic.specs.View.{HasRows, literal_of, clause_of}
use Rattle.pm_store.proofs.ListLemmas.{slice_get-append}
use Rattle.pm_store.specs.Equations.{Equations}
use Rattle.pm_store.specs.Marks.{IsLater}
use Rattle.pm_calculus.specs.Skeleton.{literals_at}
use Rattle.pm_run.specs.Runner.{CanMeet}
use Rattle.pm_run.proofs.StoreLemmas.{later_is_longer}
use Rattle.pm_run.specs.Inside.Example.{HasThreeLiterals}

abbrev pub symbol_of : ℕ → ℕ → Kind → Symbol
symbol_of letter arity kind = record { text = letter ∷ []; arity = arity; kind = kind }

-- what holds of the symbols and of a new one
numbered_all : (P : Symbol → Type 0) (old new : List Symbol) (s : Symbol) (n : ℕ) → Numbers old new s n → All P old → P s → All P new
numbered_all P old new s n numbers all this =
    elim numbers.grows [
      | inl known ↦ subst (All P) (sym known.0) all
      | inr added ↦ subst (All P) (sym added.0) (All-push P old s all this)
    ]

numbered_kept : (old new : List Symbol) (s : Symbol) (n k : ℕ) (t : Symbol) → Numbers old new s n → slice_get old k ≡ Some t → slice_get new k ≡ Some t
numbered_kept old new s n k t numbers stands =
    elim numbers.grows [
      | inl known ↦ ap (λ (ss : List Symbol). slice_get ss k) known.0 ∙ stands
      | inr added ↦ ap (λ (ss : List Symbol). slice_get ss k) added.0 ∙ slice_get-append old (s ∷ []) k t stands
    ]

-- the same of terms
added_all : (P : Term → Type 0) (old new : List Term) (t : Term) (row : ℕ) → Adds old new t row → All P old → P t → All P new
added_all P old new t row adds all this =
    elim adds.grows [
      | inl known ↦ subst (All P) (sym known.0) all
      | inr added ↦ subst (All P) (sym added.0) (All-push P old t all this)
    ]

one : {X : Type 0} (P : X → Type 0) (x : X) → P x → All P (x ∷ [])
one P x h = All-cons P x [] h (All-nil P)

pub pushed : {X : Type 0} (new old xs : List X) (x : X) → new ≡ old ++ x ∷ [] → old ≡ xs → new ≡ xs ++ x ∷ []
pushed new old xs x is known = is ∙ ap (λ ys. ys ++ x ∷ []) known

letter_printable : (letter : ℕ) → 32 ≤ letter → letter ≤ 126 → IsPrintable (letter ∷ [])
letter_printable letter low high = (lit< tt, one (λ b. (32 ≤ b) × (b ≤ 126)) letter (low, high))

-- the symbols p, a and f, and what was numbered last
module _ (none first second symbols : List Symbol) (p a f : ℕ) (empty : none ≡ []) (has_p : Numbers none first (symbol_of 112 1 Predicate) p)
    (has_a : Numbers first second (symbol_of 97 0 Function) a) (has_f : Numbers second symbols (symbol_of 102 1 Function) f) where
  all_symbols : (P : Symbol → Type 0) → P (symbol_of 112 1 Predicate) → P (symbol_of 97 0 Function) → P (symbol_of 102 1 Function) → All P symbols
  all_symbols P of_p of_a of_f =
      numbered_all P second symbols (symbol_of 102 1 Function) f has_f
      (numbered_all P first second (symbol_of 97 0 Function) a has_a
      (numbered_all P none first (symbol_of 112 1 Predicate) p has_p (subst (All P) (sym empty) (All-nil P)) of_p) of_a) of_f

  p_stands : slice_get symbols p ≡ Some (symbol_of 112 1 Predicate)
  p_stands =
      numbered_kept second symbols (symbol_of 102 1 Function) f p (symbol_of 112 1 Predicate) has_f
      (numbered_kept first second (symbol_of 97 0 Function) a p (symbol_of 112 1 Predicate) has_a has_p.stands)

  a_stands : slice_get symbols a ≡ Some (symbol_of 97 0 Function)
  a_stands = numbered_kept second symbols (symbol_of 102 1 Function) f a (symbol_of 97 0 Function) has_f has_a.stands

  shape : (n arity : ℕ) (kind : Kind) (letter : ℕ) → slice_get symbols n ≡ Some (symbol_of letter arity kind) → HasShape symbols n kind arity
  shape n arity kind letter stands = subst (λ o. IsSomeAnd o (λ s. (s.kind ≡ kind) × (s.arity ≡ arity))) (sym stands) (refl, refl)

  abbrev IsOver : Term → Type 0
  IsOver = IsTermOver symbols 2

  -- the terms X, Y, f(X) and a
  module _ (t0 t1 t2 t3 terms : List Term) (x y f_x constant : ℕ) (no_rows : t0 ≡ []) (at_x : x ≡ length t0) (adds_x : t1 ≡ t0 ++ var (variable_count t0) ∷ [])
      (adds_y : t2 ≡ t1 ++ var (variable_count t1) ∷ []) (adds_f_x : Adds t2 t3 (app f (more_terms (tree_at t2 x) no_terms)) f_x)
      (adds_a : Adds t3 terms (app a no_terms) constant) where
    two_variables : t2 ≡ var 0 ∷ var 1 ∷ []
    two_variables =
        let one_variable : t1 ≡ var 0 ∷ [] = adds_x ∙ ap (λ (ts : List Term). ts ++ var (variable_count ts) ∷ []) no_rows in
        adds_y ∙ ap (λ (ts : List Term). ts ++ var (variable_count ts) ∷ []) one_variable

    x_tree : tree_at t2 x ≡ var 0
    x_tree = ap (λ (ts : List Term). tree_at ts x) two_variables ∙ ap (tree_at (var 0 ∷ var 1 ∷ [])) (at_x ∙ ap length no_rows)

    f_x_over : IsOver (app f (more_terms (tree_at t2 x) no_terms))
    f_x_over = (shape f 1 Function 102 has_f.stands, (subst IsOver (sym x_tree) (lit< tt), tt))

    pub terms_over : All IsOver terms
    terms_over =
        added_all IsOver t3 terms (app a no_terms) constant adds_a
        (added_all IsOver t2 t3 (app f (more_terms (tree_at t2 x) no_terms)) f_x adds_f_x
        (subst (All IsOver) (sym two_variables) (All-cons IsOver (var 0) (var 1 ∷ []) (lit< tt) (one IsOver (var 1) (lit< tt)))) f_x_over)
        (shape a 0 Function 97 a_stands, tt)

    -- a literal of p
    pub literal_over : (l : Literal) (row : ℕ) → l.predicate ≡ p → l.args.items ≡ row ∷ [] → row < length terms → IsLiteralOver symbols 2 (literal_of terms l)
    literal_over l row of_p args within = record {
      predicate =
          inl (subst (λ (n : ℕ). HasShape symbols n Predicate (length (map (tree_at terms) l.args.items))) (sym of_p)
          (subst (λ (rows : List ℕ). HasShape symbols p Predicate (length (map (tree_at terms) rows))) (sym args) (shape p 1 Predicate 112 p_stands)));
      args =
          subst (λ (rows : List ℕ). All IsOver (map (tree_at terms) rows)) (sym args)
          (one IsOver (tree_at terms row) (terms_over row (var 0) within));
    }

    module _ (literals : List Literal) (clauses : List code.Clause) (clause : code.Clause) (l m n : Literal) (are : clauses ≡ clause ∷ [])
        (vars : clause.vars ≡ 2) (its : clause.literals.items ≡ l ∷ m ∷ n ∷ [])
        (l_over : IsLiteralOver symbols 2 (literal_of terms l)) (m_over : IsLiteralOver symbols 2 (literal_of terms m))
        (n_over : IsLiteralOver symbols 2 (literal_of terms n)) where
      clause_over : IsClauseOver symbols (clause_of terms clause)
      clause_over =
          let L : spec.Literal → Type 0 = IsLiteralOver symbols 2 in
          record {
            few = subst (λ (ls : List Literal). length (map (literal_of terms) ls) ≤ 255) (sym its) (lit≤ tt);
            literals =
                subst (λ (v : ℕ). All (IsLiteralOver symbols v) (map (literal_of terms) clause.literals.items)) (sym vars)
                (subst (λ (ls : List Literal). All L (map (literal_of terms) ls)) (sym its)
                (All-cons L (literal_of terms l) (literal_of terms m ∷ literal_of terms n ∷ []) l_over
                (All-cons L (literal_of terms m) (literal_of terms n ∷ []) m_over (one L (literal_of terms n) n_over))));
          }

      pub valid_example : IsValid (record { symbols = symbols; terms = terms; clauses = map (clause_of terms) clauses })
      valid_example = record {
        few = subst (λ (cs : List code.Clause). length (map (clause_of terms) cs) ≤ 65536) (sym are) (lit≤ tt);
        texts = all_symbols (λ s. IsPrintable s.text) (letter_printable 112 (lit≤ tt) (lit≤ tt)) (letter_printable 97 (lit≤ tt) (lit≤ tt)) (letter_printable 102 (lit≤ tt) (lit≤ tt));
        equality = all_symbols (λ s. s.kind ≡ Equality → IsEquality s) (λ same. absurd cc) (λ same. absurd cc) (λ same. absurd cc);
        clauses =
            subst (λ (cs : List code.Clause). All (IsClauseOver symbols) (map (clause_of terms) cs)) (sym are)
            (one (IsClauseOver symbols) (clause_of terms clause) clause_over);
      }

-- three literals, each of one argument
module _ (terms : List Term) (literals : List Literal) (clauses : List code.Clause) (clause : code.Clause) (l m n : Literal) (i j k : ℕ)
    (are : clauses ≡ clause ∷ []) (its : clause.literals.items ≡ l ∷ m ∷ n ∷ []) (of_l : l.args.items ≡ i ∷ []) (of_m : m.args.items ≡ j ∷ [])
    (of_n : n.args.items ≡ k ∷ []) where
  abbrev IsUnary : spec.Literal → Type 0
  IsUnary literal = length literal.args ≡ 1

  unary : (a : Literal) (row : ℕ) → a.args.items ≡ row ∷ [] → IsUnary (literal_of terms a)
  unary a row args = ap (λ (rows : List ℕ). length (map (tree_at terms) rows)) args

  pub three_literals : HasThreeLiterals (map (clause_of terms) clauses)
  three_literals =
      subst (λ (cs : List code.Clause). HasThreeLiterals (map (clause_of terms) cs)) (sym are)
      (record {
        one = refl;
        three = ap (λ (ls : List Literal). length (map (literal_of terms) ls)) its;
        unary =
            subst (λ (ls : List Literal). All IsUnary (map (literal_of terms) ls)) (sym its)
            (All-cons IsUnary (literal_of terms l) (literal_of terms m ∷ literal_of terms n ∷ []) (unary l i of_l)
            (All-cons IsUnary (literal_of terms m) (literal_of terms n ∷ []) (unary m j of_m) (one IsUnary (literal_of terms n) (unary n k of_n))));
      })

  -- the rows of the clause are those of the terms
  pub three_rows : (count : ℕ) → i < count → j < count → k < count → All (λ (c : code.Clause). All (HasRows count) c.literals.items) clauses
  three_rows count i-within j-within k-within =
      let P : Literal → Type 0 = HasRows count in
      let of : (a : Literal) (row : ℕ) → a.args.items ≡ row ∷ [] → row < count → P a =
      λ a row args within. subst (λ (rows : List ℕ). All (λ r. r < count) rows) (sym args) (one (λ r. r < count) row within) in
      subst (λ (cs : List code.Clause). All (λ (c : code.Clause). All P c.literals.items) cs) (sym are)
      (one (λ (c : code.Clause). All P c.literals.items) clause
      (subst (All P) (sym its) (All-cons P l (m ∷ n ∷ []) (of l i of_l i-within) (All-cons P m (n ∷ []) (of m j of_m j-within) (one P n (of n k of_n k-within))))))

-- a leaf of one argument may be extended by each of them
pub can_meet : (clauses : List spec.Clause) (j leaf : ℕ) (s new : Equations) → HasThreeLiterals clauses → j < 3 → leaf < length s.cells → IsLater s new
    → CanMeet clauses 0 j (leaf ∷ []) new
can_meet clauses j leaf s new three lt within later = record {
  literal = omega (arith, three.three, lt);
  count = λ literal at. sym (subst (λ (l : spec.Literal). length l.args ≡ 1) (get_or_from_slice_get (literals_at clauses 0) j literal literal at)
      (three.unary j literal (slice_get_within (literals_at clauses 0) j literal at)));
  below = one (λ c. c < length new.cells) leaf (omega (arith, within, later_is_longer s new later));
}
