use Rattle.std.proofs.Common.{◌≡◌, ◌≤◌, ℕ, List, [], ◌∷◌, ◌++◌, Some, length, map, slice_get, inl, inr, refl, ◌∙◌, ap, sym, subst, arith, lit<, lit≤}
use Rattle.std.specs.Prelude.{All, Contains, IsSomeAnd}
use Rattle.std.proofs.lemmas.List.Elements.{All-nil, All-cons}
use Rattle.pm_logic.specs.declared.problem.Clause.{Clause}
use Rattle.pm_logic.specs.declared.problem.Literal.{Literal}
use Rattle.pm_logic.specs.declared.symbols.Kind.TheVariants.{Equality}
use Rattle.pm_logic.specs.Term.{Term, var, tree_at}
use Rattle.pm_logic.specs.Problem as spec
use Rattle.pm_logic.specs.Problem.{Symbol, Numbers, IsTermOver, IsLiteralOver, IsClauseOver, IsPrintable, IsEquality, IsValid}
use Rattle.pm_logic.specs.Table.{variable_count}
use Rattle.pm_logic.specs.View.{literal_of, clause_of}
use Rattle.pm_compile.proofs.tests.reflexivity.Goals as goal

abbrev equals : Symbol
equals = record { text = 61 ∷ []; arity = 2; kind = Equality }

only_symbol : (old new : List Symbol) (s : Symbol) (n : ℕ) → old ≡ [] → Numbers old new s n → new ≡ s ∷ []
only_symbol old new s n none h =
    elim h.grows [
      | inl known ↦ let place = subst (λ symbols. Contains symbols s) none known.1 in absurd (omega (arith, place.1))
      | inr added ↦ added.0 ∙ ap (λ symbols. symbols ++ s ∷ []) none
    ]

one : {X : Type 0} (P : X → Type 0) (xs : List X) (x : X) → xs ≡ x ∷ [] → P x → All P xs
one P xs x is h = subst (All P) (sym is) (All-cons P x [] h (All-nil P))

literal-over : (symbols : List Symbol) (terms : List Term) (x n : ℕ) (literal : Literal) → slice_get symbols n ≡ Some equals → terms ≡ var 0 ∷ [] → x ≡ 0
    → literal.predicate ≡ n → literal.args.items ≡ x ∷ x ∷ [] → IsLiteralOver symbols 1 (literal_of terms literal)
literal-over symbols terms x n literal stands is first predicate args =
    let P : Term → Type 0 = IsTermOver symbols 1 in
    let tree : tree_at terms x ≡ var 0 = ap (λ ts. tree_at ts x) is ∙ ap (tree_at (var 0 ∷ [])) first in
    let over : P (tree_at terms x) = subst P (sym tree) (lit< tt) in
    let there : slice_get symbols literal.predicate ≡ Some equals = ap (slice_get symbols) predicate ∙ stands in
    record {
      predicate =
          inr (subst (λ o. IsSomeAnd o (λ s. (s.kind ≡ Equality) × (s.arity ≡ length (map (tree_at terms) literal.args.items)))) (sym there)
          (refl, sym (ap (λ (rows : List ℕ). length (map (tree_at terms) rows)) args)));
      args =
          subst (λ (rows : List ℕ). All P (map (tree_at terms) rows)) (sym args)
          (All-cons P (tree_at terms x) (tree_at terms x ∷ []) over (All-cons P (tree_at terms x) [] over (All-nil P)));
    }

valid : (symbols : List Symbol) (terms : List Term) (clauses : List Clause) (clause : Clause) (literal : Literal) (x n : ℕ)
    → symbols ≡ equals ∷ [] → slice_get symbols n ≡ Some equals → terms ≡ var 0 ∷ [] → x ≡ 0
    → clauses ≡ clause ∷ [] → clause.vars ≡ 1 → clause.literals.items ≡ literal ∷ [] → literal.predicate ≡ n → literal.args.items ≡ x ∷ x ∷ []
    → IsValid (record { symbols = symbols; terms = terms; clauses = map (clause_of terms) clauses })
valid symbols terms clauses clause literal x n only stands is first are vars literals predicate args =
    let P : spec.Clause → Type 0 = IsClauseOver symbols in
    let L : spec.Literal → Type 0 = IsLiteralOver symbols clause.vars in
    let over : L (literal_of terms literal) = subst (λ v. IsLiteralOver symbols v (literal_of terms literal)) (sym vars) (literal-over symbols terms x n literal stands is first predicate args) in
    record {
      few = subst (λ (cs : List Clause). length (map (clause_of terms) cs) ≤ 65536) (sym are) (lit≤ tt);
      texts = one (λ s. IsPrintable s.text) symbols equals only (lit< tt, All-cons (λ b. (32 ≤ b) × (b ≤ 126)) 61 [] (lit≤ tt, lit≤ tt) (All-nil (λ b. (32 ≤ b) × (b ≤ 126))));
      equality = one (λ s. s.kind ≡ Equality → IsEquality s) symbols equals only (λ same. (refl, refl));
      clauses =
          subst (λ (cs : List Clause). All P (map (clause_of terms) cs)) (sym are)
          (one P (clause_of terms clause ∷ []) (clause_of terms clause) refl
          (record {
            few = subst (λ (ls : List Literal). length (map (literal_of terms) ls) ≤ 255) (sym literals) (lit≤ tt);
            literals =
                subst (λ (ls : List Literal). All L (map (literal_of terms) ls)) (sym literals)
                (one L (literal_of terms literal ∷ []) (literal_of terms literal) refl over);
          }));
    }

pushed : {X : Type 0} (new old : List X) (x : X) → new ≡ old ++ x ∷ [] → old ≡ [] → new ≡ x ∷ []
pushed new old x is none = is ∙ ap (λ xs. xs ++ x ∷ []) none

pub new-requires-clause-valid : goal.new-requires-clause-valid
new-requires-clause-valid c =
    let n = c.in_ok-equality.equality in
    let symbols = c.number.new.self in
    let terms : c.add_var.new.self ≡ var 0 ∷ [] =
    c.in_ok-x.ensures.added ∙ ap (λ (ts : List Term). ts ++ var (variable_count ts) ∷ []) c.new-terms.ensures in
    let first : c.in_ok-x.x ≡ 0 = c.in_ok-x.ensures.row ∙ ap length c.new-terms.ensures in
    valid symbols c.add_var.new.self c.push-2.new.self.items _ _ c.in_ok-x.x n
    (only_symbol c.new-symbols.result symbols equals n c.new-symbols.ensures c.in_ok-equality.ensures.numbered)
    c.in_ok-equality.ensures.numbered.stands terms first
    (pushed _ _ _ c.in_ok-push-2.ensures.items c.new-clauses.ensures.items) refl
    (pushed _ _ _ c.in_ok-push.ensures.items c.new-literals.ensures.items) refl c.in_ok-from_slice.ensures.items
