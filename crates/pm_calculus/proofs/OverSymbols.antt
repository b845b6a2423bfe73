-- The general tableau of a valid problem is over the problem's symbols: putting a variable for each part of a
-- term that isn't would give another labelling, and no instance has fewer symbols.
use Rattle.std.proofs.Common.{◌≡◌, ℕ, zero, suc, ◌+◌, ◌≤◌, ◌⊎◌, Bool, true, false, cond, ◌&&◌, ◌==◌, List, [], ◌∷◌, length, map, max, get_or, Option, Some, None, IsSomeAnd, All, slice_get, refl, sym, ◌∙◌, ap, ap₂, subst, arith, eq-eqb}
use Rattle.std.specs.Option.{option_map_or}
use Rattle.std.proofs.lemmas.Bool.{eqb-true}
use Rattle.std.proofs.lemmas.List.{length-map}
use Rattle.std.proofs.lemmas.List.Elements.{All-head, All-tail, All-nil, All-cons, All-append, All-contains}
use Rattle.pm_logic.specs.declared.symbols.Kind.{Kind}
use Rattle.pm_logic.specs.declared.symbols.Kind.TheVariants.{Predicate, Function, Equality}
use Rattle.pm_logic.specs.Term.{Term, var, app, Terms, no_terms, more_terms, list_of}
use Rattle.pm_logic.specs.Problem.{Symbol, Literal, Clause, Problem, HasShape, IsTermOver, AreTermsOver, IsLiteralOver, IsClauseOver, IsValid}
use Rattle.pm_logic.specs.Tableau.{Node, leaf, inner, Nodes, no_nodes, more_nodes, Tableau, Entry, preorder_of, preorder_among}
use Rattle.pm_logic.proofs.ListLemmas.{Contains-from}
use Rattle.pm_logic.specs.Filling.{put}
use Rattle.pm_calculus.proofs.Putting.{put_among}
use Rattle.pm_calculus.specs.Substitution.{put_in_literal, IsInstance, each_below, each_among, each_in_tableau}
use Rattle.pm_calculus.specs.Connection.{literal_on, literals_on, IsFamily, HasFamilies, HaveFamilies, IsOver}
use Rattle.pm_calculus.specs.Skeleton.{State}
use Rattle.pm_calculus.specs.Alternatives.{state_after}
use Rattle.pm_calculus.specs.Choices.{IsLabelling}
use Rattle.pm_calculus.specs.Laws.{GeneralTableauxAreOverSymbols}
use Rattle.pm_calculus.proofs.Growth.{and_true}
use Rattle.pm_calculus.proofs.Instances.{KeepsLabels, labelling_kept}

abbrev is_function : Kind → Bool
is_function Predicate = false
is_function Function = true
is_function Equality = false

-- whether the number is that of a function with so many arguments
abbrev has_shape : List Symbol → ℕ → ℕ → Bool
has_shape symbols f n = option_map_or (λ s. is_function s.kind && (s.arity == n)) (slice_get symbols f) false

both_true : (a b : Bool) → a ≡ true → b ≡ true → a && b ≡ true
both_true true b p q = q
both_true false b p q = cc

shape_holds : (symbols : List Symbol) (f n : ℕ) → HasShape symbols f Function n → has_shape symbols f n ≡ true
shape_holds symbols f n h = by (slice_get symbols f) h
  where
    by : (o : Option Symbol) → IsSomeAnd o (λ s. (s.kind ≡ Function) × (s.arity ≡ n)) → option_map_or (λ s. is_function s.kind && (s.arity == n)) o false ≡ true
    by None h = absurd h
    by (Some s) h = both_true (is_function s.kind) (s.arity == n) (ap is_function h.0) (eq-eqb s.arity n h.1)

function_is : (k : Kind) → is_function k ≡ true → k ≡ Function
function_is Predicate is = cc
function_is Function is = refl
function_is Equality is = cc

holds_shape : (symbols : List Symbol) (f n : ℕ) → has_shape symbols f n ≡ true → HasShape symbols f Function n
holds_shape symbols f n h = by (slice_get symbols f) h
  where
    by : (o : Option Symbol) → option_map_or (λ s. is_function s.kind && (s.arity == n)) o false ≡ true → IsSomeAnd o (λ s. (s.kind ≡ Function) × (s.arity ≡ n))
    by None h = cc
    by (Some s) h =
        let both = and_true (is_function s.kind) (s.arity == n) h in
        (function_is s.kind both.0, eqb-true s.arity n both.1)

-- the term with a variable for each part whose symbol isn't a function of that many arguments
abbrev mutual
  cleared : List Symbol → Term → Term
  cleared symbols (var n) = var n
  cleared symbols (app f ts) = cond (has_shape symbols f (length (list_of ts))) (app f (cleared_among symbols ts)) (var 0)

  cleared_among : List Symbol → Terms → Terms
  cleared_among symbols no_terms = no_terms
  cleared_among symbols (more_terms t ts) = more_terms (cleared symbols t) (cleared_among symbols ts)

abbrev cleared_literal : List Symbol → Literal → Literal
cleared_literal symbols l = record { positive = l.positive; predicate = l.predicate; args = map (cleared symbols) l.args }

-- clearing goes past the substitution of a clause's terms
cleared_get : (symbols : List Symbol) (terms : List Term) (n m : ℕ) → cleared symbols (get_or terms n (var m)) ≡ get_or (map (cleared symbols) terms) n (var m)
cleared_get symbols [] n m = refl
cleared_get symbols (t ∷ ts) zero m = refl
cleared_get symbols (t ∷ ts) (suc n) m = cleared_get symbols ts n m

same_length : (terms : List Term) (ts : Terms) → length (list_of (put_among terms ts)) ≡ length (list_of ts)
same_length terms no_terms = refl
same_length terms (more_terms t ts) = ap suc (same_length terms ts)

mutual
  cleared_put : (symbols : List Symbol) (vars : ℕ) (terms : List Term) (t : Term) → IsTermOver symbols vars t
      → cleared symbols (put terms t) ≡ put (map (cleared symbols) terms) t
  cleared_put symbols vars terms (var n) h = cleared_get symbols terms n n
  cleared_put symbols vars terms (app f ts) h =
      let shape : has_shape symbols f (length (list_of (put_among terms ts))) ≡ true =
      ap (has_shape symbols f) (same_length terms ts) ∙ shape_holds symbols f (length (list_of ts)) h.0 in
      ap (λ b. cond b (app f (cleared_among symbols (put_among terms ts))) (var 0)) shape
      ∙ ap (app f) (cleared_put_among symbols vars terms ts h.1)

  cleared_put_among : (symbols : List Symbol) (vars : ℕ) (terms : List Term) (ts : Terms) → AreTermsOver symbols vars ts
      → cleared_among symbols (put_among terms ts) ≡ put_among (map (cleared symbols) terms) ts
  cleared_put_among symbols vars terms no_terms h = refl
  cleared_put_among symbols vars terms (more_terms t ts) h =
      ap₂ more_terms (cleared_put symbols vars terms t h.0) (cleared_put_among symbols vars terms ts h.1)

cleared_args : (symbols : List Symbol) (vars : ℕ) (terms ts : List Term) → All (IsTermOver symbols vars) ts
    → map (cleared symbols) (map (put terms) ts) ≡ map (put (map (cleared symbols) terms)) ts
cleared_args symbols vars terms [] h = refl
cleared_args symbols vars terms (t ∷ ts) h =
    ap₂ (λ u us. u ∷ us) (cleared_put symbols vars terms t (All-head (IsTermOver symbols vars) t ts h))
    (cleared_args symbols vars terms ts (All-tail (IsTermOver symbols vars) t ts h))

cleared_literals : (symbols : List Symbol) (vars : ℕ) (terms : List Term) (ls : List Literal) → All (IsLiteralOver symbols vars) ls
    → map (cleared_literal symbols) (map (put_in_literal terms) ls) ≡ map (put_in_literal (map (cleared symbols) terms)) ls
cleared_literals symbols vars terms [] h = refl
cleared_literals symbols vars terms (l ∷ ls) h =
    let own = All-head (IsLiteralOver symbols vars) l ls h in
    ap₂ (λ k ks. k ∷ ks)
    (ap (λ (args : List Term). let new : Literal = record { positive = l.positive; predicate = l.predicate; args = args } in new) (cleared_args symbols vars terms l.args own.args))
    (cleared_literals symbols vars terms ls (All-tail (IsLiteralOver symbols vars) l ls h))

clearing_keeps : (problem : Problem) → IsValid problem → KeepsLabels problem (cleared_literal problem.symbols)
clearing_keeps problem valid = record {
  instances = λ clause literals has h.
      let over : IsClauseOver problem.symbols clause = All-contains (IsClauseOver problem.symbols) problem.clauses clause valid.clauses has in
      record {
        terms = map (cleared problem.symbols) h.terms;
        count = length-map h.terms (cleared problem.symbols) ∙ h.count;
        each = ap (map (cleared_literal problem.symbols)) h.each ∙ cleared_literals problem.symbols clause.vars h.terms clause.literals over.literals;
      };
  pairs = λ a b h. record { sign = h.sign; predicate = h.predicate; args = ap (map (cleared problem.symbols)) h.args };
}

-- a number above all variables
abbrev mutual
  limit : Term → ℕ
  limit (var n) = n + 1
  limit (app f ts) = limit_among ts

  limit_among : Terms → ℕ
  limit_among no_terms = 0
  limit_among (more_terms t ts) = max (limit t) (limit_among ts)

abbrev limit_of : List Term → ℕ
limit_of [] = 0
limit_of (t ∷ ts) = max (limit t) (limit_of ts)

abbrev mutual
  limit_below : Node → ℕ
  limit_below (leaf l) = limit_of l.args
  limit_below (inner l c ns) = max (limit_of l.args) (limit_in ns)

  limit_in : Nodes → ℕ
  limit_in no_nodes = 0
  limit_in (more_nodes n ns) = max (limit_below n) (limit_in ns)

-- what is cleared by a substitution has nothing to clear
clean_app : (symbols : List Symbol) (terms : List Term) (vars f : ℕ) (ts : Terms) (b : Bool) → has_shape symbols f (length (list_of ts)) ≡ b
    → cond b (app f (cleared_among symbols ts)) (var 0) ≡ app f (put_among terms ts)
    → (cleared_among symbols ts ≡ put_among terms ts → AreTermsOver symbols vars ts) → IsTermOver symbols vars (app f ts)
clean_app symbols terms vars f ts true shape is rest =
    let args : cleared_among symbols ts ≡ put_among terms ts = cc in
    (holds_shape symbols f (length (list_of ts)) shape, rest args)
clean_app symbols terms vars f ts false shape is rest = absurd cc

mutual
  clean : (symbols : List Symbol) (terms : List Term) (vars : ℕ) (t : Term) → limit t ≤ vars → cleared symbols t ≡ put terms t → IsTermOver symbols vars t
  clean symbols terms vars (var n) le is = omega arith
  clean symbols terms vars (app f ts) le is =
      clean_app symbols terms vars f ts (has_shape symbols f (length (list_of ts))) refl is (clean_among symbols terms vars ts le)

  clean_among : (symbols : List Symbol) (terms : List Term) (vars : ℕ) (ts : Terms) → limit_among ts ≤ vars → cleared_among symbols ts ≡ put_among terms ts
      → AreTermsOver symbols vars ts
  clean_among symbols terms vars no_terms le is = tt
  clean_among symbols terms vars (more_terms t ts) le is =
      let head : cleared symbols t ≡ put terms t = cc in
      let tail : cleared_among symbols ts ≡ put_among terms ts = cc in
      (clean symbols terms vars t (omega arith) head, clean_among symbols terms vars ts (omega arith) tail)

clean_args : (symbols : List Symbol) (terms : List Term) (vars : ℕ) (ts : List Term) → limit_of ts ≤ vars → map (cleared symbols) ts ≡ map (put terms) ts
    → All (IsTermOver symbols vars) ts
clean_args symbols terms vars [] le is = All-nil (IsTermOver symbols vars)
clean_args symbols terms vars (t ∷ ts) le is =
    let head : cleared symbols t ≡ put terms t = cc in
    let tail : map (cleared symbols) ts ≡ map (put terms) ts = cc in
    All-cons (IsTermOver symbols vars) t ts (clean symbols terms vars t (omega arith) head) (clean_args symbols terms vars ts (omega arith) tail)

-- a literal whose predicate is a predicate or equality of that many arguments
abbrev IsFit : List Symbol → Literal → Type 0
IsFit symbols l = HasShape symbols l.predicate Predicate (length l.args) ⊎ HasShape symbols l.predicate Equality (length l.args)

fit_put : (symbols : List Symbol) (terms : List Term) (l : Literal) → IsFit symbols l → IsFit symbols (put_in_literal terms l)
fit_put symbols terms l h =
    subst (λ (n : ℕ). HasShape symbols l.predicate Predicate n ⊎ HasShape symbols l.predicate Equality n) (sym (length-map l.args (put terms))) h

fit_all : (symbols : List Symbol) (vars : ℕ) (terms : List Term) (ls : List Literal) → All (IsLiteralOver symbols vars) ls → All (IsFit symbols) (map (put_in_literal terms) ls)
fit_all symbols vars terms [] h = All-nil (IsFit symbols)
fit_all symbols vars terms (l ∷ ls) h =
    All-cons (IsFit symbols) (put_in_literal terms l) (map (put_in_literal terms) ls)
    (fit_put symbols terms l (All-head (IsLiteralOver symbols vars) l ls h).predicate)
    (fit_all symbols vars terms ls (All-tail (IsLiteralOver symbols vars) l ls h))

fit_family : (problem : Problem) → IsValid problem → (c : ℕ) (ns : Nodes) → IsFamily problem.clauses c ns → All (IsFit problem.symbols) (literals_on ns)
fit_family problem valid c ns h = by (slice_get problem.clauses c) refl h
  where
    by : (o : Option Clause) → slice_get problem.clauses c ≡ o → IsSomeAnd o (λ clause. IsInstance clause (literals_on ns)) → All (IsFit problem.symbols) (literals_on ns)
    by None is h = absurd h
    by (Some clause) is h =
        let over : IsClauseOver problem.symbols clause = All-contains (IsClauseOver problem.symbols) problem.clauses clause valid.clauses (Contains-from problem.clauses c clause is) in
        subst (λ (ls : List Literal). All (IsFit problem.symbols) ls) (sym h.each) (fit_all problem.symbols clause.vars h.terms clause.literals over.literals)

over_literal : (symbols : List Symbol) (terms : List Term) (vars : ℕ) (l : Literal) → IsFit symbols l → limit_of l.args ≤ vars
    → cleared_literal symbols l ≡ put_in_literal terms l → IsLiteralOver symbols vars l
over_literal symbols terms vars l fit le is =
    record { predicate = fit; args = clean_args symbols terms vars l.args le (ap (λ (k : Literal). k.args) is) }

abbrev OverEntry : List Symbol → ℕ → Entry → Type 0
OverEntry symbols vars e = IsLiteralOver symbols vars e.literal

mutual
  over_below : (problem : Problem) → IsValid problem → (terms : List Term) (vars d : ℕ) (n : Node) → IsFit problem.symbols (literal_on n) → HasFamilies problem.clauses n
      → limit_below n ≤ vars → each_below (cleared_literal problem.symbols) n ≡ each_below (put_in_literal terms) n
      → All (OverEntry problem.symbols vars) (preorder_of d n)
  over_below problem valid terms vars d (leaf l) fit families le is =
      let own : cleared_literal problem.symbols l ≡ put_in_literal terms l = cc in
      All-cons (OverEntry problem.symbols vars) _ [] (over_literal problem.symbols terms vars l fit le own) (All-nil (OverEntry problem.symbols vars))
  over_below problem valid terms vars d (inner l c ns) fit families le is =
      let own : cleared_literal problem.symbols l ≡ put_in_literal terms l = cc in
      let rest : each_among (cleared_literal problem.symbols) ns ≡ each_among (put_in_literal terms) ns = cc in
      All-cons (OverEntry problem.symbols vars) _ (preorder_among (d + 1) ns) (over_literal problem.symbols terms vars l fit (omega arith) own)
      (over_among problem valid terms vars (d + 1) ns (fit_family problem valid c ns families.0) families.1 (omega arith) rest)

  over_among : (problem : Problem) → IsValid problem → (terms : List Term) (vars d : ℕ) (ns : Nodes) → All (IsFit problem.symbols) (literals_on ns) → HaveFamilies problem.clauses ns
      → limit_in ns ≤ vars → each_among (cleared_literal problem.symbols) ns ≡ each_among (put_in_literal terms) ns
      → All (OverEntry problem.symbols vars) (preorder_among d ns)
  over_among problem valid terms vars d no_nodes fit families le is = All-nil (OverEntry problem.symbols vars)
  over_among problem valid terms vars d (more_nodes n ns) fit families le is =
      let own : each_below (cleared_literal problem.symbols) n ≡ each_below (put_in_literal terms) n = cc in
      let rest : each_among (cleared_literal problem.symbols) ns ≡ each_among (put_in_literal terms) ns = cc in
      All-append (OverEntry problem.symbols vars) (preorder_of d n) (preorder_among d ns)
      (over_below problem valid terms vars d n (All-head (IsFit problem.symbols) (literal_on n) (literals_on ns) fit) families.0 (omega arith) own)
      (over_among problem valid terms vars d ns (All-tail (IsFit problem.symbols) (literal_on n) (literals_on ns) fit) families.1 (omega arith) rest)

over_of : (problem : Problem) (o : Option State) (t : Tableau) → IsSomeAnd o (λ state. IsLabelling problem.clauses state t) → IsOver problem.clauses t
over_of problem None t h = absurd h
over_of problem (Some state) t h = h.over

cleared_labelling : (problem : Problem) → IsValid problem → (o : Option State) (t : Tableau) → IsSomeAnd o (λ state. IsLabelling problem.clauses state t)
    → IsSomeAnd o (λ state. IsLabelling problem.clauses state (each_in_tableau (cleared_literal problem.symbols) t))
cleared_labelling problem valid None t h = h
cleared_labelling problem valid (Some state) t h = labelling_kept problem (cleared_literal problem.symbols) (clearing_keeps problem valid) state t h

pub general_over_symbols : GeneralTableauxAreOverSymbols
general_over_symbols level choices t valid general =
    let over = over_of level.problem (state_after level choices) t general.labelling in
    let instance = general.most (each_in_tableau (cleared_literal level.problem.symbols) t) (cleared_labelling level.problem valid (state_after level choices) t general.labelling) in
    record {
      vars = limit_in t.children;
      literals = over_among level.problem valid instance.0 (limit_in t.children) 1 t.children
          (fit_family level.problem valid t.root t.children over.0) over.1 (omega arith) (ap (λ (u : Tableau). u.children) instance.1);
    }
