-- Substitutions one after another, and what instances keep.
use Rattle.std.proofs.Common.{◌≡◌, ℕ, zero, suc, ◌<◌, ◌≤◌, inl, inr, List, [], ◌∷◌, ◌++◌, length, map, drop, get_or, Option, Some, None, IsSomeAnd, All, Contains, slice_get, option_map, refl, sym, ◌∙◌, ap, ap₂, subst, arith}
use Rattle.std.proofs.lemmas.List.{length-map, map-append, get_or-map, get_or_past}
use Rattle.std.proofs.lemmas.List.Elements.{All-head, All-tail, All-contains}
use Rattle.std.proofs.lemmas.Option.{slice_get-map}
use Rattle.std.proofs.lemmas.Bool.{cases_lt}
use Rattle.pm_logic.specs.Term.{Term, var, app, Terms, no_terms, more_terms}
use Rattle.pm_logic.specs.Problem.{Symbol, Literal, Clause, Problem, IsTermOver, AreTermsOver, IsLiteralOver, IsClauseOver, IsValid}
use Rattle.pm_logic.specs.Tableau.{Node, leaf, inner, Nodes, no_nodes, more_nodes, Tableau}
use Rattle.pm_logic.specs.Filling.{fill, fill_among, put, term_for}
use Rattle.pm_calculus.proofs.Putting.{put_among}
use Rattle.pm_calculus.specs.Substitution.{put_in_literal, IsInstance, each_below, each_among, each_in_tableau, put_in_tableau, AreComplementary}
use Rattle.pm_calculus.specs.Connection.{literal_on, literals_on, IsFamily, HasFamilies, HaveFamilies, IsRegularBelow, AreRegularBelow, IsRegular}
use Rattle.pm_calculus.specs.Skeleton.{Skeleton, unclosed, closed, extended, Skeletons, no_skeletons, more_skeletons, State, empty, rooted}
use Rattle.pm_calculus.specs.Choices.{at_depth, FitsBelow, FitAmong, IsLabelling}
use Rattle.pm_calculus.specs.Laws.{InstancesCompose, ClauseInstancesCompose, FilledInstances, InstancesLabel, RegularityReflects}
use Rattle.pm_logic.proofs.ListLemmas.{Contains-from}

-- the terms of one substitution and then another
abbrev then : List Term → List Term → List Term
then first second = map (put second) first ++ drop (length first) second

drop-nil : (n : ℕ) → ◌≡◌ {A = List Term} (drop n []) []
drop-nil zero = refl
drop-nil (suc n) = refl

within : (second first rest : List Term) (n : ℕ) (d e : Term) → n < length first
    → get_or (map (put second) first ++ rest) n e ≡ put second (get_or first n d)
within second [] rest n d e lt = absurd (omega arith)
within second (t ∷ ts) rest zero d e lt = refl
within second (t ∷ ts) rest (suc n) d e lt = within second ts rest n d e (omega arith)

beyond : (second : List Term) (first rest : List Term) (n : ℕ) (e : Term) → length first ≤ n
    → get_or (map (put second) first ++ drop (length first) rest) n e ≡ get_or rest n e
beyond second [] rest n e le = refl
beyond second (t ∷ ts) rest zero e le = absurd (omega arith)
beyond second (t ∷ ts) [] (suc n) e le =
    ap (λ r. get_or (map (put second) ts ++ r) n e) (sym (drop-nil (length ts))) ∙ beyond second ts [] n e (omega arith)
beyond second (t ∷ ts) (u ∷ us) (suc n) e le = beyond second ts us n e (omega arith)

put-var : (first second : List Term) (n : ℕ) → put second (get_or first n (var n)) ≡ get_or (then first second) n (var n)
put-var first second n =
    elim (cases_lt n (length first)) [
      | inl lt ↦ sym (within second first (drop (length first) second) n (var n) (var n) lt)
      | inr le ↦ ap (put second) (get_or_past first n (var n) le) ∙ sym (beyond second first second n (var n) le)
    ]

mutual
  put-put : (first second : List Term) (t : Term) → put second (put first t) ≡ put (then first second) t
  put-put first second (var n) = put-var first second n
  put-put first second (app f ts) = ap (app f) (put-put_among first second ts)

  put-put_among : (first second : List Term) (ts : Terms) → put_among second (put_among first ts) ≡ put_among (then first second) ts
  put-put_among first second no_terms = refl
  put-put_among first second (more_terms t ts) = ap₂ more_terms (put-put first second t) (put-put_among first second ts)

map_put : (first second : List Term) (ts : List Term) → map (put second) (map (put first) ts) ≡ map (put (then first second)) ts
map_put first second [] = refl
map_put first second (t ∷ ts) = ap₂ (λ u us. u ∷ us) (put-put first second t) (map_put first second ts)

put_in_literal-twice : (first second : List Term) (l : Literal) → put_in_literal second (put_in_literal first l) ≡ put_in_literal (then first second) l
put_in_literal-twice first second l =
    ap (λ (args : List Term). let new : Literal = record { positive = l.positive; predicate = l.predicate; args = args } in new) (map_put first second l.args)

mutual
  each_below-twice : (first second : List Term) (n : Node) → each_below (put_in_literal second) (each_below (put_in_literal first) n) ≡ each_below (put_in_literal (then first second)) n
  each_below-twice first second (leaf l) = ap leaf (put_in_literal-twice first second l)
  each_below-twice first second (inner l c ns) =
      ap₂ (λ k ks. inner k c ks) (put_in_literal-twice first second l) (each_among-twice first second ns)

  each_among-twice : (first second : List Term) (ns : Nodes) → each_among (put_in_literal second) (each_among (put_in_literal first) ns) ≡ each_among (put_in_literal (then first second)) ns
  each_among-twice first second no_nodes = refl
  each_among-twice first second (more_nodes n ns) = ap₂ more_nodes (each_below-twice first second n) (each_among-twice first second ns)

pub compose : InstancesCompose
compose a b c h k =
    let same : put_in_tableau k.0 (put_in_tableau h.0 a) ≡ put_in_tableau (then h.0 k.0) a =
    ap (λ (ns : Nodes). let t : Tableau = record { root = a.root; children = ns } in t) (each_among-twice h.0 k.0 a.children) in
    (then h.0 k.0, k.1 ∙ ap (put_in_tableau k.0) h.1 ∙ same)

-- over a clause's own variables, filling an instance fills the terms of the instance
mutual
  pub fill_over : (symbols : List Symbol) (vars : ℕ) (first : List Term) (trees : ℕ → Term) → length first ≡ vars → (t : Term) → IsTermOver symbols vars t
      → fill trees (put first t) ≡ put (map (fill trees) first) t
  fill_over symbols vars first trees len (var n) h =
      let lt : n < length first = omega arith in sym (get_or-map (fill trees) first n (var n) (var n) lt)
  fill_over symbols vars first trees len (app f ts) h = ap (app f) (fill_over_among symbols vars first trees len ts h.1)

  fill_over_among : (symbols : List Symbol) (vars : ℕ) (first : List Term) (trees : ℕ → Term) → length first ≡ vars → (ts : Terms) → AreTermsOver symbols vars ts
      → fill_among trees (put_among first ts) ≡ put_among (map (fill trees) first) ts
  fill_over_among symbols vars first trees len no_terms h = refl
  fill_over_among symbols vars first trees len (more_terms t ts) h =
      ap₂ more_terms (fill_over symbols vars first trees len t h.0) (fill_over_among symbols vars first trees len ts h.1)

pub filled_instances : FilledInstances
filled_instances symbols terms trees t over = fill_over symbols (length terms) terms trees refl t over

put_over_args : (symbols : List Symbol) (vars : ℕ) (first second : List Term) → length first ≡ vars → (ts : List Term) → All (IsTermOver symbols vars) ts
    → map (put second) (map (put first) ts) ≡ map (put (map (put second) first)) ts
put_over_args symbols vars first second len [] h = refl
put_over_args symbols vars first second len (t ∷ ts) h =
    ap₂ (λ u us. u ∷ us) (fill_over symbols vars first (term_for second) len t (All-head (IsTermOver symbols vars) t ts h))
    (put_over_args symbols vars first second len ts (All-tail (IsTermOver symbols vars) t ts h))

put_over_literals : (symbols : List Symbol) (vars : ℕ) (first second : List Term) → length first ≡ vars → (ls : List Literal)
    → All (IsLiteralOver symbols vars) ls
    → map (put_in_literal second) (map (put_in_literal first) ls) ≡ map (put_in_literal (map (put second) first)) ls
put_over_literals symbols vars first second len [] h = refl
put_over_literals symbols vars first second len (l ∷ ls) h =
    let own = All-head (IsLiteralOver symbols vars) l ls h in
    ap₂ (λ k ks. k ∷ ks)
    (ap (λ (args : List Term). let new : Literal = record { positive = l.positive; predicate = l.predicate; args = args } in new)
    (put_over_args symbols vars first second len l.args own.args))
    (put_over_literals symbols vars first second len ls (All-tail (IsLiteralOver symbols vars) l ls h))

pub clause_compose : ClauseInstancesCompose
clause_compose symbols clause literals terms over h = record {
  terms = map (put terms) h.terms;
  count = length-map h.terms (put terms) ∙ h.count;
  each = ap (map (put_in_literal terms)) h.each ∙ put_over_literals symbols clause.vars h.terms terms h.count clause.literals over.literals;
}

-- a change of literals that keeps clause instances and complementary pairs
pub record KeepsLabels (problem : Problem) (f : Literal → Literal) : Type 0 where
  pub instances : (clause : Clause) (literals : List Literal) → Contains problem.clauses clause → IsInstance clause literals → IsInstance clause (map f literals)
  pub pairs : (a b : Literal) → AreComplementary a b → AreComplementary (f a) (f b)

literal_on-each : (f : Literal → Literal) (n : Node) → literal_on (each_below f n) ≡ f (literal_on n)
literal_on-each f (leaf l) = refl
literal_on-each f (inner l c ns) = refl

pub literals_on-each : (f : Literal → Literal) (ns : Nodes) → literals_on (each_among f ns) ≡ map f (literals_on ns)
literals_on-each f no_nodes = refl
literals_on-each f (more_nodes n ns) = ap₂ (λ l ls. l ∷ ls) (literal_on-each f n) (literals_on-each f ns)

family_kept : (problem : Problem) (f : Literal → Literal) → KeepsLabels problem f → (c : ℕ) (ns : Nodes) → IsFamily problem.clauses c ns
    → IsFamily problem.clauses c (each_among f ns)
family_kept problem f keeps c ns h = by (slice_get problem.clauses c) refl h
  where
    by : (o : Option Clause) → slice_get problem.clauses c ≡ o → IsSomeAnd o (λ clause. IsInstance clause (literals_on ns))
        → IsSomeAnd o (λ clause. IsInstance clause (literals_on (each_among f ns)))
    by None is h = h
    by (Some clause) is h =
        subst (λ (ls : List Literal). IsInstance clause ls) (sym (literals_on-each f ns)) (keeps.instances clause (literals_on ns) (Contains-from problem.clauses c clause is) h)

mutual
  families_kept : (problem : Problem) (f : Literal → Literal) → KeepsLabels problem f → (n : Node) → HasFamilies problem.clauses n
      → HasFamilies problem.clauses (each_below f n)
  families_kept problem f keeps (leaf l) h = tt
  families_kept problem f keeps (inner l c ns) h = (family_kept problem f keeps c ns h.0, all_families_kept problem f keeps ns h.1)

  all_families_kept : (problem : Problem) (f : Literal → Literal) → KeepsLabels problem f → (ns : Nodes) → HaveFamilies problem.clauses ns
      → HaveFamilies problem.clauses (each_among f ns)
  all_families_kept problem f keeps no_nodes h = tt
  all_families_kept problem f keeps (more_nodes n ns) h = (families_kept problem f keeps n h.0, all_families_kept problem f keeps ns h.1)

at_depth_kept : (problem : Problem) (f : Literal → Literal) → KeepsLabels problem f → (l : Literal) (above : List Literal) (k : ℕ) → IsSomeAnd (at_depth above k) (AreComplementary l)
    → IsSomeAnd (at_depth (map f above) k) (AreComplementary (f l))
at_depth_kept problem f keeps l above zero h = h
at_depth_kept problem f keeps l above (suc n) h =
    subst (λ (o : Option Literal). IsSomeAnd o (AreComplementary (f l))) (sym (slice_get-map f above n)) (by (slice_get above n) h)
  where
    by : (o : Option Literal) → IsSomeAnd o (AreComplementary l) → IsSomeAnd (option_map f o) (AreComplementary (f l))
    by None h = h
    by (Some m) h = keeps.pairs l m h

branch_each : (f : Literal → Literal) (above : List Literal) (l : Literal) → map f (above ++ l ∷ []) ≡ map f above ++ f l ∷ []
branch_each f above l = map-append f above (l ∷ [])

mutual
  fits_kept : (problem : Problem) (f : Literal → Literal) → KeepsLabels problem f → (above : List Literal) (s : Skeleton) (n : Node) → FitsBelow above s n
      → FitsBelow (map f above) s (each_below f n)
  fits_kept problem f keeps above (unclosed face) (leaf l) h = tt
  fits_kept problem f keeps above (unclosed face) (inner l c ns) h = h
  fits_kept problem f keeps above (closed face a) (leaf l) h = at_depth_kept problem f keeps l above a h
  fits_kept problem f keeps above (closed face a) (inner l c ns) h = h
  fits_kept problem f keeps above (extended face e trees) (leaf l) h = h
  fits_kept problem f keeps above (extended face e trees) (inner l c ns) h =
      (h.0, subst (λ (ls : List Literal). FitAmong ls trees (each_among f ns)) (branch_each f above l) (fit_kept problem f keeps (above ++ l ∷ []) trees ns h.1))

  fit_kept : (problem : Problem) (f : Literal → Literal) → KeepsLabels problem f → (above : List Literal) (ss : Skeletons) (ns : Nodes) → FitAmong above ss ns
      → FitAmong (map f above) ss (each_among f ns)
  fit_kept problem f keeps above no_skeletons no_nodes h = h
  fit_kept problem f keeps above no_skeletons (more_nodes n ns) h = h
  fit_kept problem f keeps above (more_skeletons s ss) no_nodes h = h
  fit_kept problem f keeps above (more_skeletons s ss) (more_nodes n ns) h = (fits_kept problem f keeps above s n h.0, fit_kept problem f keeps above ss ns h.1)

-- such a change makes a labelling of a labelling
pub labelling_kept : (problem : Problem) (f : Literal → Literal) → KeepsLabels problem f → (state : State) (t : Tableau) → IsLabelling problem.clauses state t
    → IsLabelling problem.clauses state (each_in_tableau f t)
labelling_kept problem f keeps empty t h = absurd h.fits
labelling_kept problem f keeps (rooted root trees) t h = record {
  fits = (h.fits.0, fit_kept problem f keeps [] trees t.children h.fits.1);
  over = (family_kept problem f keeps t.root t.children h.over.0, all_families_kept problem f keeps t.children h.over.1);
}

put_keeps : (problem : Problem) → IsValid problem → (terms : List Term) → KeepsLabels problem (put_in_literal terms)
put_keeps problem valid terms = record {
  instances = λ clause literals has h. clause_compose problem.symbols clause literals terms (All-contains (IsClauseOver problem.symbols) problem.clauses clause valid.clauses has) h;
  pairs = λ a b h. record { sign = h.sign; predicate = h.predicate; args = ap (map (put terms)) h.args };
}

pub instance_labels : InstancesLabel
instance_labels problem state t other valid h is =
    subst (λ (u : Tableau). IsLabelling problem.clauses state u) (sym is.1) (labelling_kept problem (put_in_literal is.0) (put_keeps problem valid is.0) state other h)

-- a literal that stands twice on a branch still does
contains_put : (terms : List Term) (above : List Literal) (l : Literal) → Contains above l
    → Contains (map (put_in_literal terms) above) (put_in_literal terms l)
contains_put terms above l h =
    (h.0, omega (arith, length-map above (put_in_literal terms), h.1), get_or-map (put_in_literal terms) above h.0 l (put_in_literal terms l) h.1 ∙ ap (put_in_literal terms) h.2)

mutual
  regular_below : (terms : List Term) (above : List Literal) (n : Node) → IsRegularBelow (map (put_in_literal terms) above) (each_below (put_in_literal terms) n)
      → IsRegularBelow above n
  regular_below terms above (leaf l) h = λ twice. h (contains_put terms above l twice)
  regular_below terms above (inner l c ns) h = (
    λ twice. h.0 (contains_put terms above l twice),
    regular_among terms (above ++ l ∷ []) ns (subst (λ (ls : List Literal). AreRegularBelow ls (each_among (put_in_literal terms) ns)) (sym (branch_each (put_in_literal terms) above l)) h.1),
  )

  regular_among : (terms : List Term) (above : List Literal) (ns : Nodes) → AreRegularBelow (map (put_in_literal terms) above) (each_among (put_in_literal terms) ns)
      → AreRegularBelow above ns
  regular_among terms above no_nodes h = tt
  regular_among terms above (more_nodes n ns) h = (regular_below terms above n h.0, regular_among terms above ns h.1)

pub regular_reflects : RegularityReflects
regular_reflects t other is h = regular_among is.0 [] other.children (subst (λ (u : Tableau). IsRegular u) is.1 h)
