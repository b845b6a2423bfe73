use Rattle.std.proofs.Common.{◌≡◌, ◌<◌, ◌≤◌, ℕ, List, [], ◌∷◌, ◌++◌, length, map, get_or, inl, inr, refl, ◌∙◌, ap, sym, subst, arith, lit<, lit≤}
use Rattle.std.specs.Prelude.{All, Contains}
use Rattle.std.proofs.lemmas.List.{length-map}
use Rattle.std.proofs.lemmas.List.Elements.{All-nil, All-cons, All-map}
use Rattle.pm_logic.specs.declared.problem.Clause.{Clause}
use Rattle.pm_logic.specs.declared.symbols.Kind.TheVariants.{Predicate, Equality}
use Rattle.pm_logic.specs.Term.{Term, tree_at}
use Rattle.pm_logic.specs.Problem as spec
use Rattle.pm_logic.specs.Problem.{Symbol, Numbers, HasShape, IsTermOver, IsLiteralOver, IsClauseOver, IsPrintable, IsEquality, IsValid}
use Rattle.pm_logic.specs.View.{HasRows, literal_of, clause_of}
use Rattle.pm_logic.proofs.problem.tests.contradiction.Goals as goal

-- the clause of one literal, the symbol 0 with no arguments
record IsUnit (clause : Clause) : Type 0 where
  one : length clause.literals.items ≡ 1
  symbol : All (λ literal. literal.predicate ≡ 0) clause.literals.items
  args : All (λ literal. literal.args.items ≡ []) clause.literals.items

rows_of_unit : (count : ℕ) (u : Clause) → IsUnit u → All (HasRows count) u.literals.items
rows_of_unit count u h = λ k d within.
    subst (λ (args : List ℕ). All (λ row. row < count) args) (sym (h.args k d within)) (All-nil (λ row. row < count))

valid_unit : (symbols : List Symbol) (terms : List Term) (u : Clause) → HasShape symbols 0 Predicate 0 → IsUnit u → IsClauseOver symbols (clause_of terms u)
valid_unit symbols terms u shape h = record {
  few = omega (arith, h.one, length-map u.literals.items (literal_of terms));
  literals = All-map (IsLiteralOver symbols u.vars) (literal_of terms) u.literals.items (λ k d within. record {
    predicate =
        let P : ℕ → ℕ → Type 0 = λ number arity. HasShape symbols number Predicate arity in
        inl (subst (λ number. P number (length (map (tree_at terms) (get_or u.literals.items k d).args.items))) (sym (h.symbol k d within))
        (subst (λ args. P 0 (length (map (tree_at terms) args))) (sym (h.args k d within)) shape));
    args = subst (λ args. All (IsTermOver symbols u.vars) (map (tree_at terms) args)) (sym (h.args k d within)) (All-nil (IsTermOver symbols u.vars));
  });
}

first_symbol : (old new : List Symbol) (s : Symbol) (n : ℕ) → old ≡ [] → Numbers old new s n → new ≡ s ∷ []
first_symbol old new s n none h =
    elim h.grows [
      | inl known ↦ let place = subst (λ symbols. Contains symbols s) none known.1 in absurd (omega (arith, place.1))
      | inr added ↦ added.0 ∙ ap (λ symbols. symbols ++ s ∷ []) none
    ]

-- the predicate `p` with no arguments
abbrev p : Symbol
p = record { text = 112 ∷ []; arity = 0; kind = Predicate }

IsPrintable-p : IsPrintable p.text
IsPrintable-p = (lit< tt, All-cons (λ b. (32 ≤ b) × (b ≤ 126)) 112 [] (lit≤ tt, lit≤ tt) (All-nil (λ b. (32 ≤ b) × (b ≤ 126))))

valid_units : (symbols : List Symbol) (terms : List Term) (clauses : List Clause) (u v : Clause) → symbols ≡ p ∷ [] → clauses ≡ u ∷ v ∷ []
    → IsUnit u → IsUnit v → IsValid (record { symbols = symbols; terms = terms; clauses = map (clause_of terms) clauses })
valid_units symbols terms clauses u v is are first second =
    let shape = subst (λ symbols. HasShape symbols 0 Predicate 0) (sym is) (refl, refl) in
    let P : spec.Clause → Type 0 = IsClauseOver symbols in
    record {
      few = subst (λ (cs : List Clause). length (map (clause_of terms) cs) ≤ 65536) (sym are) (lit≤ tt);
      texts = subst (λ symbols. All (λ s. IsPrintable s.text) symbols) (sym is) (All-cons (λ s. IsPrintable s.text) p [] IsPrintable-p (All-nil (λ s. IsPrintable s.text)));
      equality = subst (λ symbols. All (λ s. s.kind ≡ Equality → IsEquality s) symbols) (sym is)
          (All-cons (λ s. s.kind ≡ Equality → IsEquality s) p [] (λ same. absurd cc) (All-nil (λ s. s.kind ≡ Equality → IsEquality s)));
      clauses = subst (λ (cs : List Clause). All P (map (clause_of terms) cs)) (sym are)
          (All-cons P (clause_of terms u) (clause_of terms v ∷ []) (valid_unit symbols terms u shape first)
          (All-cons P (clause_of terms v) [] (valid_unit symbols terms v shape second) (All-nil P)));
    }

pub new-requires-2-clause-rows : goal.new-requires-2-clause-rows
new-requires-2-clause-rows c =
    let u = c.in_ok-unit_clause.field-0 in
    let v = c.in_ok-unit_clause-2.field-0 in
    let first : IsUnit u = record { one = c.in_ok-unit_clause.ensures.one; symbol = c.in_ok-unit_clause.ensures.symbol; args = c.in_ok-unit_clause.ensures.args } in
    let second : IsUnit v = record { one = c.in_ok-unit_clause-2.ensures.one; symbol = c.in_ok-unit_clause-2.ensures.symbol; args = c.in_ok-unit_clause-2.ensures.args } in
    let both = c.in_ok-push-2.ensures.items ∙ ap (λ cs. cs ++ v ∷ []) (c.in_ok-push.ensures.items ∙ ap (λ cs. cs ++ u ∷ []) c.new-clauses.ensures.items) in
    let P : Clause → Type 0 = λ clause. All (HasRows (length c.new.result)) clause.literals.items in
    subst (λ (clauses : List Clause). All P clauses) (sym both)
    (All-cons P u (v ∷ []) (rows_of_unit _ u first) (All-cons P v [] (rows_of_unit _ v second) (All-nil P)))

pub new-requires-2-clause-valid : goal.new-requires-2-clause-valid
new-requires-2-clause-valid c =
    let u = c.in_ok-unit_clause.field-0 in
    let v = c.in_ok-unit_clause-2.field-0 in
    let first : IsUnit u = record { one = c.in_ok-unit_clause.ensures.one; symbol = c.in_ok-unit_clause.ensures.symbol; args = c.in_ok-unit_clause.ensures.args } in
    let second : IsUnit v = record { one = c.in_ok-unit_clause-2.ensures.one; symbol = c.in_ok-unit_clause-2.ensures.symbol; args = c.in_ok-unit_clause-2.ensures.args } in
    let both = c.in_ok-push-2.ensures.items ∙ ap (λ cs. cs ++ v ∷ []) (c.in_ok-push.ensures.items ∙ ap (λ cs. cs ++ u ∷ []) c.new-clauses.ensures.items) in
    let symbols = first_symbol c.new-symbols.result c.number.new.self p c.in_ok-number.field-0 c.new-symbols.ensures c.in_ok-number.ensures.numbered in
    valid_units c.number.new.self c.new.result c.push-2.new.self.items u v symbols both first second
