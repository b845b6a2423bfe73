-- What the tests of terms and literals say.
use Rattle.std.proofs.Common.{◌≡◌, ℕ, ◌<◌, Bool, true, false, not, ◌&&◌, ◌==◌, List, [], ◌∷◌, length, map, get_or, refl, sym, ◌∙◌, ap, ap₂, subst, eq-eqb, eqb-true}
use Rattle.std.proofs.lemmas.List.{length-map, get_or-map}
use Rattle.pm_logic.specs.Term.{Term, var, app, Terms, no_terms, more_terms, as_terms, list_of, tree_at}
use Rattle.pm_logic.specs.Problem.{Literal}
use Rattle.pm_calculus.specs.Substitution.{AreComplementary}
use Rattle.pm_lift.specs.Inside.Complements.{is_same, are_same, differ, complements}

pub and_true : (a b : Bool) → a && b ≡ true → (a ≡ true) × (b ≡ true)
and_true true b h = (refl, h)
and_true false b h = cc

pub and_both : (a b : Bool) → a ≡ true → b ≡ true → a && b ≡ true
and_both true b p q = q
and_both false b p q = cc

mutual
  same_sound : (t u : Term) → is_same t u ≡ true → t ≡ u
  same_sound (var m) (var n) h = ap var (eqb-true m n h)
  same_sound (var m) (app g us) h = cc
  same_sound (app f ts) (var n) h = cc
  same_sound (app f ts) (app g us) h =
      let both = and_true (f == g) (are_same ts us) h in
      ap₂ app (eqb-true f g both.0) (all_same_sound ts us both.1)

  all_same_sound : (ts us : Terms) → are_same ts us ≡ true → ts ≡ us
  all_same_sound no_terms no_terms h = refl
  all_same_sound no_terms (more_terms u us) h = cc
  all_same_sound (more_terms t ts) no_terms h = cc
  all_same_sound (more_terms t ts) (more_terms u us) h =
      let both = and_true (is_same t u) (are_same ts us) h in
      ap₂ more_terms (same_sound t u both.0) (all_same_sound ts us both.1)

mutual
  same_itself : (t : Term) → is_same t t ≡ true
  same_itself (var m) = eq-eqb m m refl
  same_itself (app f ts) = and_both (f == f) (are_same ts ts) (eq-eqb f f refl) (all_same_itself ts)

  all_same_itself : (ts : Terms) → are_same ts ts ≡ true
  all_same_itself no_terms = refl
  all_same_itself (more_terms t ts) =
      and_both (is_same t t) (are_same ts ts) (same_itself t) (all_same_itself ts)

list_as_terms : (ts : List Term) → list_of (as_terms ts) ≡ ts
list_as_terms [] = refl
list_as_terms (t ∷ ts) = ap (λ us. t ∷ us) (list_as_terms ts)

differ_sound : (a b : Bool) → differ a b ≡ true → a ≡ not b
differ_sound true b h = sym h
differ_sound false true h = refl
differ_sound false false h = cc

differ_complete : (a b : Bool) → a ≡ not b → differ a b ≡ true
differ_complete true b h = sym h
differ_complete false true h = refl
differ_complete false false h = cc

pub complements_sound : (a b : Literal) → complements a b ≡ true → AreComplementary a b
complements_sound a b h =
    let signs = differ a.positive b.positive in
    let predicates = a.predicate == b.predicate in
    let args = are_same (as_terms a.args) (as_terms b.args) in
    let outer = and_true (signs && predicates) args h in
    let inside = and_true signs predicates outer.0 in
    record {
      sign = differ_sound a.positive b.positive inside.0;
      predicate = eqb-true a.predicate b.predicate inside.1;
      args = sym (list_as_terms a.args)
          ∙ ap list_of (all_same_sound (as_terms a.args) (as_terms b.args) outer.1)
          ∙ list_as_terms b.args;
    }

pub complements_complete : (a b : Literal) → AreComplementary a b → complements a b ≡ true
complements_complete a b h =
    let signs = differ a.positive b.positive in
    let predicates = a.predicate == b.predicate in
    let args = are_same (as_terms a.args) (as_terms b.args) in
    and_both (signs && predicates) args
    (and_both signs predicates (differ_complete a.positive b.positive h.sign)
    (eq-eqb a.predicate b.predicate h.predicate))
    (subst (λ (ts : List Term). are_same (as_terms a.args) (as_terms ts) ≡ true) h.args
    (all_same_itself (as_terms a.args)))

-- rows are of the same terms exactly where the test says so
pub same_rows : (ts : List Term) (a b : List ℕ) → map (tree_at ts) a ≡ map (tree_at ts) b
    → true ≡ are_same (as_terms (map (tree_at ts) a)) (as_terms (map (tree_at ts) b))
same_rows ts a b is =
    sym (subst (λ (us : List Term). are_same (as_terms (map (tree_at ts) a)) (as_terms us) ≡ true) is
    (all_same_itself (as_terms (map (tree_at ts) a))))

pub other_rows : (ts : List Term) (a b : List ℕ) → ¬ (map (tree_at ts) a ≡ map (tree_at ts) b)
    → false ≡ are_same (as_terms (map (tree_at ts) a)) (as_terms (map (tree_at ts) b))
other_rows ts a b differ =
    by (are_same (as_terms (map (tree_at ts) a)) (as_terms (map (tree_at ts) b))) refl
  where
    by : (v : Bool) → are_same (as_terms (map (tree_at ts) a)) (as_terms (map (tree_at ts) b)) ≡ v → false ≡ v
    by false is = refl
    by true is =
        absurd (differ (sym (list_as_terms (map (tree_at ts) a))
        ∙ ap list_of (all_same_sound (as_terms (map (tree_at ts) a)) (as_terms (map (tree_at ts) b)) is)
        ∙ list_as_terms (map (tree_at ts) b)))

-- lists of other lengths are of other terms
pub other_lengths : (ts : List Term) (a b : List ℕ) → ¬ (length a ≡ length b) → ¬ (map (tree_at ts) a ≡ map (tree_at ts) b)
other_lengths ts a b differ is =
    differ (sym (length-map a (tree_at ts)) ∙ ap length is ∙ length-map b (tree_at ts))

-- so are lists with other terms at a place
pub other_at : (ts : List Term) (a b : List ℕ) (i x y : ℕ) → i < length a → i < length b → x ≡ get_or a i x → y ≡ get_or b i y → ¬ (tree_at ts x ≡ tree_at ts y)
    → ¬ (map (tree_at ts) a ≡ map (tree_at ts) b)
other_at ts a b i x y la lb at_a at_b differ is =
    differ (ap (tree_at ts) at_a ∙ sym (get_or-map (tree_at ts) a i x (var 0) la)
    ∙ ap (λ us. get_or us i (var 0)) is ∙ get_or-map (tree_at ts) b i y (var 0) lb ∙ ap (tree_at ts) (sym at_b))
