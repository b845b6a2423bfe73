-- The clause of a step, and its instances.
use Rattle.std.proofs.Common.{◌≡◌, ℕ, ◌<◌, List, [], ◌∷◌, map, Some, IsSomeAnd, slice_get, refl, sym, ◌∙◌, ap, ap₂, subst, arith}
use Rattle.std.specs.Prelude.{All}
use Rattle.std.specs.List.{range_with_len}
use Rattle.std.specs.Option.{option_map_or}
use Rattle.std.proofs.lemmas.List.FromFn.{length-map-range_with_len, get_or-map-range_with_len}
use Rattle.std.proofs.lemmas.List.Elements.{All-head, All-tail, All-contains}
use Rattle.pm_logic.specs.Term.{Term, var, app, Terms, no_terms, more_terms}
use Rattle.pm_logic.specs.Problem.{Symbol, Literal, Clause, Problem, IsTermOver, AreTermsOver, IsLiteralOver, IsClauseOver, IsValid}
use Rattle.pm_logic.specs.Tableau.{Nodes}
use Rattle.pm_logic.specs.Filling.{fill, fill_among, term_for}
use Rattle.pm_logic.proofs.ListLemmas.{Contains-from}
use Rattle.pm_run.specs.Wants.{filled_literal}
use Rattle.pm_calculus.specs.Substitution.{IsInstance}
use Rattle.pm_calculus.specs.Connection.{literals_on, IsFamily}
use Rattle.pm_calculus.specs.Skeleton.{literals_at}
use Rattle.pm_machine.proofs.Leaves.{leaf_nodes, literals_of_leaves}

-- terms that agree on a clause's variables fill its literals alike
mutual
  fill_alike : (symbols : List Symbol) (f g : ℕ → Term) (vars : ℕ) (t : Term) → ((n : ℕ) → n < vars → f n ≡ g n) → IsTermOver symbols vars t → fill f t ≡ fill g t
  fill_alike symbols f g vars (var n) alike over = alike n over
  fill_alike symbols f g vars (app h ts) alike over = ap (app h) (all_fill_alike symbols f g vars ts alike over.1)

  all_fill_alike : (symbols : List Symbol) (f g : ℕ → Term) (vars : ℕ) (ts : Terms) → ((n : ℕ) → n < vars → f n ≡ g n) → AreTermsOver symbols vars ts
      → fill_among f ts ≡ fill_among g ts
  all_fill_alike symbols f g vars no_terms alike over = refl
  all_fill_alike symbols f g vars (more_terms t ts) alike over = ap₂ more_terms (fill_alike symbols f g vars t alike over.0) (all_fill_alike symbols f g vars ts alike over.1)

args_alike : (symbols : List Symbol) (f g : ℕ → Term) (vars : ℕ) (ts : List Term) → ((n : ℕ) → n < vars → f n ≡ g n) → All (IsTermOver symbols vars) ts
    → map (fill f) ts ≡ map (fill g) ts
args_alike symbols f g vars [] alike over = refl
args_alike symbols f g vars (t ∷ ts) alike over =
    ap₂ (λ u us. u ∷ us) (fill_alike symbols f g vars t alike (All-head (IsTermOver symbols vars) t ts over))
    (args_alike symbols f g vars ts alike (All-tail (IsTermOver symbols vars) t ts over))

literals_alike : (symbols : List Symbol) (f g : ℕ → Term) (vars : ℕ) (ls : List Literal) → ((n : ℕ) → n < vars → f n ≡ g n) → All (IsLiteralOver symbols vars) ls
    → map (filled_literal f) ls ≡ map (filled_literal g) ls
literals_alike symbols f g vars [] alike over = refl
literals_alike symbols f g vars (l ∷ ls) alike over =
    let own = All-head (IsLiteralOver symbols vars) l ls over in
    ap₂ (λ k ks. k ∷ ks)
    (ap (λ (ts : List Term). let k : Literal = record { positive = l.positive; predicate = l.predicate; args = ts } in k) (args_alike symbols f g vars l.args alike own.args))
    (literals_alike symbols f g vars ls alike (All-tail (IsLiteralOver symbols vars) l ls over))

-- the trees of the first variables, as a list
abbrev pub first_trees : (ℕ → Term) → ℕ → List Term
first_trees variables vars = map variables (range_with_len 0 vars)

-- a clause's literals, filled, are an instance
filled_is_instance : (symbols : List Symbol) (clause : Clause) (variables : ℕ → Term) → All (IsLiteralOver symbols clause.vars) clause.literals
    → IsInstance clause (map (filled_literal variables) clause.literals)
filled_is_instance symbols clause variables over = record {
  terms = first_trees variables clause.vars;
  count = length-map-range_with_len variables 0 clause.vars;
  each = literals_alike symbols variables (term_for (first_trees variables clause.vars)) clause.vars clause.literals
      (λ n lt. sym (get_or-map-range_with_len variables 0 clause.vars n n (var n) lt (omega arith))) over;
}

-- the clause of an index, over the problem's symbols
pub record HasClause (problem : Problem) (c : ℕ) : Type 0 where
  pub clause : Clause
  pub stands : slice_get problem.clauses c ≡ Some clause
  pub literals : literals_at problem.clauses c ≡ clause.literals
  pub over : All (IsLiteralOver problem.symbols clause.vars) (literals_at problem.clauses c)

pub clause_there : (problem : Problem) (c : ℕ) (clause : Clause) → IsValid problem → slice_get problem.clauses c ≡ Some clause → HasClause problem c
clause_there problem c clause valid stands =
    let literals : literals_at problem.clauses c ≡ clause.literals = ap (λ o. option_map_or (λ (d : Clause). d.literals) o []) stands in
    let over = All-contains (IsClauseOver problem.symbols) problem.clauses clause valid.clauses (Contains-from problem.clauses c clause stands) in
    record { clause = clause; stands = stands; literals = literals; over = subst (All (IsLiteralOver problem.symbols clause.vars)) (sym literals) over.literals }

-- leaves with its literals, filled, are a family
pub filled_family : (problem : Problem) (c : ℕ) (given : HasClause problem c) (variables : ℕ → Term)
    → IsFamily problem.clauses c (leaf_nodes (map (filled_literal variables) (literals_at problem.clauses c)))
filled_family problem c given variables =
    let filled : List Literal = map (filled_literal variables) (literals_at problem.clauses c) in
    let over = subst (All (IsLiteralOver problem.symbols given.clause.vars)) given.literals given.over in
    let instance : IsInstance given.clause filled =
    subst (λ ls. IsInstance given.clause (map (filled_literal variables) ls)) (sym given.literals) (filled_is_instance problem.symbols given.clause variables over) in
    subst (λ o. IsSomeAnd o (λ clause. IsInstance clause (literals_on (leaf_nodes filled)))) (sym given.stands)
    (subst (IsInstance given.clause) (sym (literals_of_leaves filled)) instance)

-- and a family has its literals, filled
abbrev pub IsFilled : List Clause → ℕ → Nodes → Type 0
IsFilled clauses c nodes = (variables : ℕ → Term) × (literals_on nodes ≡ map (filled_literal variables) (literals_at clauses c))

pub family_filled : (problem : Problem) (c : ℕ) (nodes : Nodes) → HasClause problem c → IsFamily problem.clauses c nodes → IsFilled problem.clauses c nodes
family_filled problem c nodes given family =
    let instance : IsInstance given.clause (literals_on nodes) = subst (λ o. IsSomeAnd o (λ clause. IsInstance clause (literals_on nodes))) given.stands family in
    (term_for instance.terms, instance.each ∙ ap (map (filled_literal (term_for instance.terms))) (sym given.literals))
