-- The numbers of the literals that a step gives, among those of all clauses.
use Rattle.std.proofs.Common.{◌≡◌, ℕ, zero, suc, ◌<◌, inl, inr, ◌⊎◌, List, [], ◌∷◌, length, map, Option, Some, None, IsSomeAnd, slice_get, get_or, refl, sym, ◌∙◌, ap, subst, arith}
use Rattle.std.specs.Prelude.{option_map}
use Rattle.std.specs.Option.{option_map_or}
use Rattle.std.specs.List.{AllZip}
use Rattle.std.proofs.lemmas.List.{length-map}
use Rattle.std.proofs.lemmas.Option.{slice_get-map, slice_get-get_or, slice_get_within}
use Rattle.pm_logic.specs.Problem.{Clause}
use Rattle.pm_calculus.specs.Skeleton.{State, empty, rooted, Step, start, extend, Subgoal, selected, literals_at}
use Rattle.pm_calculus.specs.Alternatives.{IsStepAt, MayTake}
use Rattle.pm_tab.specs.Inside.Numbering.{all_literals, AreNumbersOf, AreNumbers, AreNumbersFor}

zip_there : {A B : Type 0} (R : A → B → Type 0) (xs : List A) (ys : List B) (i : ℕ) (x : A) → AllZip R xs ys → slice_get xs i ≡ Some x
    → (y : B) × (slice_get ys i ≡ Some y) × R x y
zip_there R [] ys i x h is = absurd cc
zip_there R (u ∷ xs) [] i x h is = absurd h
zip_there R (u ∷ xs) (v ∷ ys) zero x h is = let same : u ≡ x = cc in (v, refl, subst (λ a. R a v) same h.0)
zip_there R (u ∷ xs) (v ∷ ys) (suc i) x h is = zip_there R xs ys i x h.1 is

-- a start or an extension is by this clause
abbrev pub IsBy : Step → ℕ → Type 0
IsBy step c = (step ≡ start c) ⊎ ((j : ℕ) × (step ≡ extend c j))

abbrev pub HasItem : List Clause → ℕ → Type 0
HasItem clauses c = (clause : Clause) × (slice_get clauses c ≡ Some clause)

one_there : (clauses : List Clause) (c : ℕ) → c < length clauses → HasItem clauses c
one_there [] c less = absurd (omega (arith, less))
one_there (clause ∷ clauses) zero less = (clause, refl)
one_there (clause ∷ clauses) (suc c) less = one_there clauses c (omega (arith, less))

clause_by : (clauses : List Clause) (state : State) (step : Step) (c : ℕ) → IsBy step c → MayTake clauses state step → HasItem clauses c
clause_by clauses state step c by_it may = elim by_it [
  | inl is ↦ started state (subst (MayTake clauses state) is may)
  | inr (j, is) ↦ extended j state (subst (MayTake clauses state) is may)
]
  where
    at_leaf : (j : ℕ) (o : Option Subgoal) → IsSomeAnd o (λ leaf. IsStepAt clauses leaf (extend c j)) → HasItem clauses c
    at_leaf j None h = absurd h
    at_leaf j (Some leaf) h = (h.its_clause, h.stands)

    no_start : (o : Option Subgoal) → IsSomeAnd o (λ leaf. IsStepAt clauses leaf (start c)) → HasItem clauses c
    no_start None h = absurd h
    no_start (Some leaf) h = absurd h

    started : (s : State) → MayTake clauses s (start c) → HasItem clauses c
    started empty takes = one_there clauses c takes
    started (rooted root trees) takes = no_start (selected (rooted root trees)) takes

    extended : (j : ℕ) (s : State) → MayTake clauses s (extend c j) → HasItem clauses c
    extended j empty takes = absurd takes
    extended j (rooted root trees) takes = at_leaf j (selected (rooted root trees)) takes

for_step : (clauses : List Clause) (step : Step) (c : ℕ) (numbers : List ℕ) → IsBy step c → AreNumbersOf (all_literals clauses) (literals_at clauses c) numbers
    → AreNumbersFor clauses step numbers
for_step clauses step c numbers by_it h = elim by_it [
  | inl is ↦ subst (λ s. AreNumbersFor clauses s numbers) (sym is) h
  | inr (j, is) ↦ subst (λ s. AreNumbersFor clauses s numbers) (sym is) h
]

module _ {A : Type 0} (f : A → List ℕ) (clauses : List Clause) (numbers : List A) (are : AreNumbers clauses (map f numbers))
    (state : State) (step : Step) (c : ℕ) (by_it : IsBy step c) (may : MayTake clauses state step) where
  abbrev there : (own : List ℕ) × (slice_get (map f numbers) c ≡ Some own) × AreNumbersOf (all_literals clauses) (clause_by clauses state step c by_it may).0.literals own
  there = let clause = clause_by clauses state step c by_it may in
      zip_there (λ (k : Clause) own. AreNumbersOf (all_literals clauses) k.literals own) clauses (map f numbers) c clause.0 are clause.1

  pub own_within : c < length numbers
  own_within = let within = slice_get_within (map f numbers) c there.0 there.1 in omega (arith, within, length-map numbers f)

  pub own_numbers : (own : A) → own ≡ get_or numbers c own → AreNumbersFor clauses step (f own)
  own_numbers own is =
      let clause = clause_by clauses state step c by_it may in
      let shown : Some (f own) ≡ Some there.0 =
      sym (slice_get-map f numbers c ∙ ap (option_map f) (slice_get-get_or numbers c own own_within ∙ ap Some (sym is))) ∙ there.1 in
      let same : f own ≡ there.0 = cc in
      let literals : literals_at clauses c ≡ clause.0.literals = ap (λ o. option_map_or (λ (k : Clause). k.literals) o []) clause.1 in
      for_step clauses step c (f own) by_it
      (subst (λ ls. AreNumbersOf (all_literals clauses) ls (f own)) (sym literals)
      (subst (AreNumbersOf (all_literals clauses) clause.0.literals) (sym same) there.2))
