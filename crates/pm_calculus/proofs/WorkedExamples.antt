-- The worked examples, mostly by computation.
use Rattle.std.proofs.Common.{◌≡◌, ℕ, zero, ◌+◌, inl, inr, Bool, true, false, cond, nat_lt, not, List, [], ◌∷◌, ◌++◌, get_or, IsSomeAnd, Contains, slice_get, option_map, refl, sym, ◌∙◌, ap, subst, arith}
use Rattle.pm_logic.specs.declared.problem.Class.TheVariants.{Plain, Regular}
use Rattle.pm_logic.specs.Term.{Term, var, app, Terms, no_terms, more_terms}
use Rattle.pm_logic.specs.Problem.{Literal}
use Rattle.pm_logic.specs.Tableau.{leaf, inner, Nodes, no_nodes, more_nodes, Tableau}
use Rattle.pm_calculus.specs.Substitution.{put_in_literal, each_among, IsInstanceOf, AreComplementary}
use Rattle.pm_calculus.specs.Connection.{IsFamily, HaveFamilies, AreRegularBelow}
use Rattle.pm_calculus.specs.Skeleton.{Face, Skeleton, unclosed, closed, extended, Skeletons, no_skeletons, more_skeletons, State, empty, rooted, Step, extend, after_step}
use Rattle.pm_calculus.specs.Choices.{at_depth, FitAmong, IsReachedState, IsReached, IsLabellingOf}
use Rattle.pm_calculus.specs.Examples.{p, t, u, a, f, x, holds, fails, level, steps, diagonal, tautology, shared, apart, apart_tableau, DepthExample, FiniteTermsExample, LeafExample, ClosedBranchExample, FreeVariableExample}
use Rattle.pm_calculus.proofs.Refutation.{not_among}

abbrev steps_tableau : Tableau
steps_tableau = record {
  root = 2;
  children = more_nodes (inner (fails p (f (f a) ∷ [])) 1
      (more_nodes (inner (fails p (f a ∷ [])) 1
      (more_nodes (inner (fails p (a ∷ [])) 0 (more_nodes (leaf (holds p (a ∷ []))) no_nodes))
      (more_nodes (leaf (holds p (f a ∷ []))) no_nodes)))
      (more_nodes (leaf (holds p (f (f a) ∷ []))) no_nodes))) no_nodes;
}

pub opposite : (predicate : ℕ) (args : List Term) → AreComplementary (holds predicate args) (fails predicate args)
opposite predicate args = record { sign = refl; predicate = refl; args = refl }

steps_reached : IsReached (level steps Plain 4) (0 ∷ 1 ∷ 2 ∷ 2 ∷ [])
steps_reached = record {
  tableau = steps_tableau;
  labelling = record {
    fits = (refl, ((refl, ((refl, ((refl, (opposite p (a ∷ []), tt)), (opposite p (f a ∷ []), tt))), (opposite p (f (f a) ∷ []), tt))), tt));
    over = (
      record { terms = []; count = refl; each = refl },
      (
        (
          record { terms = f a ∷ []; count = refl; each = refl },
          (
            (
              record { terms = a ∷ []; count = refl; each = refl },
              ((record { terms = []; count = refl; each = refl }, (tt, tt)), (tt, tt)),
            ),
            (tt, tt),
          ),
        ),
        tt,
      ),
    );
  };
  regular = tt;
  within = omega arith;
}

pub depth_example : DepthExample
depth_example = (record { reached = steps_reached; begun = omega arith; closed = refl }, λ h. h, refl, refl)

abbrev pub plus : ℕ → Face
plus predicate = record { positive = true; predicate = predicate }

abbrev pub minus : ℕ → Face
minus predicate = record { positive = false; predicate = predicate }

-- the parts of a tableau that fits a tree
pub inner_case : (face : Face) (P : Nodes → Type 0) (above : List Literal) (c : ℕ) (trees ss : Skeletons)
    → ((l : Literal) (children others : Nodes) → FitAmong (above ++ l ∷ []) trees children → FitAmong above ss others → P (more_nodes (inner l c children) others))
    → (ns : Nodes) → FitAmong above (more_skeletons (extended face c trees) ss) ns → P ns
inner_case face P above c trees ss here no_nodes fits = absurd fits
inner_case face P above c trees ss here (more_nodes (leaf l) ns) fits = absurd fits.0
inner_case face P above c trees ss here (more_nodes (inner l d children) ns) fits =
    subst (λ (e : ℕ). P (more_nodes (inner l e children) ns)) (fits.0).0 (here l children ns (fits.0).1 fits.1)

pub leaf_case : (face : Face) (P : Nodes → Type 0) (above : List Literal) (k : ℕ) (ss : Skeletons)
    → ((l : Literal) (others : Nodes) → IsSomeAnd (at_depth above k) (AreComplementary l) → FitAmong above ss others → P (more_nodes (leaf l) others))
    → (ns : Nodes) → FitAmong above (more_skeletons (closed face k) ss) ns → P ns
leaf_case face P above k ss here no_nodes fits = absurd fits
leaf_case face P above k ss here (more_nodes (leaf l) ns) fits = here l ns fits.0 fits.1
leaf_case face P above k ss here (more_nodes (inner l d children) ns) fits = absurd fits.0

-- how many symbols and variables a term has
abbrev mutual
  size : Term → ℕ
  size (var n) = 1
  size (app symbol args) = 1 + size_among args

  size_among : Terms → ℕ
  size_among no_terms = 0
  size_among (more_terms s ss) = size s + size_among ss

pub first_same : {A : Type 0} (v w : A) (vs ws : List A) → v ∷ vs ≡ w ∷ ws → v ≡ w
first_same v w vs ws is = cc

pub second_same : {A : Type 0} (v w v' w' : A) (vs ws : List A) → v ∷ v' ∷ vs ≡ w ∷ w' ∷ ws → v' ≡ w'
second_same v w v' w' vs ws is = cc

-- p(X,X) isn't complementary to ~p(Y,f(Y))
no_diagonal : (l m : Literal) (r s : Term) → l ≡ fails p (s ∷ f s ∷ []) → m ≡ holds p (r ∷ r ∷ []) → AreComplementary m l → ⊥
no_diagonal l m r s l_is m_is h =
    let args : r ∷ r ∷ [] ≡ s ∷ f s ∷ [] = sym (ap (λ (k : Literal). k.args) m_is) ∙ h.args ∙ ap (λ (k : Literal). k.args) l_is in
    let first : r ≡ s = cc in
    let second : r ≡ f s = cc in
    let sizes : size s ≡ size (f s) = ap size (sym first ∙ second) in
    omega (arith, sizes)

diagonal_fits : (ns : Nodes) → FitAmong [] (more_skeletons (extended (minus p) 0 (more_skeletons (closed (plus p) 1) no_skeletons)) no_skeletons) ns
    → IsFamily diagonal 1 ns → HaveFamilies diagonal ns → ⊥
diagonal_fits = inner_case (minus p) (λ ns. IsFamily diagonal 1 ns → HaveFamilies diagonal ns → ⊥) [] 0 (more_skeletons (closed (plus p) 1) no_skeletons) no_skeletons
    (λ l children others fits rest.
    leaf_case (plus p) (λ ns. IsFamily diagonal 1 (more_nodes (inner l 0 ns) others) → HaveFamilies diagonal (more_nodes (inner l 0 ns) others) → ⊥) (l ∷ []) 1 no_skeletons
    (λ m ms pair none root inside.
    no_diagonal l m (get_or ((inside.0).0).terms 0 (var 0)) (get_or root.terms 0 (var 0)) (first_same _ _ _ _ root.each) (first_same _ _ _ _ ((inside.0).0).each) pair)
    children fits)

pub finite_terms : FiniteTermsExample
finite_terms bound h = by (nat_lt 1 bound) h
  where
    by : (b : Bool) → IsSomeAnd (option_map (after_step diagonal (rooted 1 (more_skeletons (unclosed (minus p)) no_skeletons))) (slice_get (cond b (extend 0 0 ∷ []) []) 0)) (IsReachedState (level diagonal Plain bound)) → ⊥
    by false h = h
    by true h = diagonal_fits h.tableau.children h.labelling.fits.1
        (subst (λ (c : ℕ). IsFamily diagonal c h.tableau.children) (sym h.labelling.fits.0) h.labelling.over.0) h.labelling.over.1

-- a literal that is complementary to a positive one
complement : (args : List Term) (predicate : ℕ) (m l : Literal) → m ≡ holds predicate args → AreComplementary m l → l ≡ fails predicate args
complement args predicate m l is h =
    let sign : l.positive ≡ false = negative l.positive (sym h.sign ∙ ap (λ (k : Literal). k.positive) is) in
    let same_predicate : l.predicate ≡ predicate = sym h.predicate ∙ ap (λ (k : Literal). k.predicate) is in
    let same_args : l.args ≡ args = sym h.args ∙ ap (λ (k : Literal). k.args) is in
    let make : Bool → ℕ → List Term → Literal = λ b q ts. record { positive = b; predicate = q; args = ts } in
    ap (λ (b : Bool). make b l.predicate l.args) sign ∙ ap (λ (q : ℕ). make false q l.args) same_predicate ∙ ap (make false predicate) same_args
  where
    negative : (b : Bool) → not b ≡ true → b ≡ false
    negative true is = cc
    negative false is = refl

-- no regular tableau has these children of the root
abbrev Repeats : Nodes → Type 0
Repeats ns = IsFamily shared 2 ns → HaveFamilies shared ns → AreRegularBelow [] ns → ⊥

-- X is a, since ~t(X) is complementary to t(a); so p(X) is the p(a) that closes the node below it
repeats : (l m n q k r : Literal) (qs ms ns ks : Nodes)
    → IsFamily shared 2 (more_nodes (inner l 0 (more_nodes (leaf m) (more_nodes (inner n 1 (more_nodes (leaf q) qs)) ms))) (more_nodes (inner k 3 (more_nodes (leaf r) ks)) ns))
    → HaveFamilies shared (more_nodes (inner l 0 (more_nodes (leaf m) (more_nodes (inner n 1 (more_nodes (leaf q) qs)) ms))) (more_nodes (inner k 3 (more_nodes (leaf r) ks)) ns))
    → AreComplementary q n → AreComplementary r k → l ≡ n
repeats l m n q k r qs ms ns ks root inside q_n r_k =
    let s : Term = get_or root.terms 0 (var 0) in
    let l_is : l ≡ fails p (s ∷ []) = first_same _ _ _ _ root.each in
    let k_is : k ≡ fails t (s ∷ []) = second_same _ _ _ _ _ _ root.each in
    let q_is : q ≡ holds p (a ∷ []) = first_same _ _ _ _ ((((((inside.0).1).1).0).0).each) in
    let r_is : r ≡ holds t (a ∷ []) = first_same _ _ _ _ ((((inside.1).0).0).each) in
    let n_is : n ≡ fails p (a ∷ []) = complement (a ∷ []) p q n q_is q_n in
    let k_also : k ≡ fails t (a ∷ []) = complement (a ∷ []) t r k r_is r_k in
    let args : s ∷ [] ≡ a ∷ [] = ap (λ (j : Literal). j.args) (sym k_is ∙ k_also) in
    l_is ∙ ap (λ (ts : List Term). fails p ts) args ∙ sym n_is

shared_fits : (ns : Nodes) → FitAmong [] (more_skeletons (extended (minus p) 0 (more_skeletons (closed (plus p) 1) (more_skeletons (extended (minus p) 1 (more_skeletons (closed (plus p) 2) no_skeletons)) no_skeletons)))
    (more_skeletons (extended (minus t) 3 (more_skeletons (closed (plus t) 1) (more_skeletons (unclosed (minus u)) no_skeletons))) no_skeletons)) ns → Repeats ns
shared_fits = inner_case (minus p) Repeats [] 0 (more_skeletons (closed (plus p) 1) (more_skeletons (extended (minus p) 1 (more_skeletons (closed (plus p) 2) no_skeletons)) no_skeletons)) (more_skeletons (extended (minus t) 3 (more_skeletons (closed (plus t) 1) (more_skeletons (unclosed (minus u)) no_skeletons))) no_skeletons) (λ l ls others l_fits others_fit.
    leaf_case (plus p) (λ children. Repeats (more_nodes (inner l 0 children) others)) (l ∷ []) 1 (more_skeletons (extended (minus p) 1 (more_skeletons (closed (plus p) 2) no_skeletons)) no_skeletons) (λ m children m_pair children_fit.
    inner_case (minus p) (λ children. Repeats (more_nodes (inner l 0 (more_nodes (leaf m) children)) others)) (l ∷ []) 1 (more_skeletons (closed (plus p) 2) no_skeletons) no_skeletons (λ n below ms below_fit ms_fit.
    leaf_case (plus p) (λ below. Repeats (more_nodes (inner l 0 (more_nodes (leaf m) (more_nodes (inner n 1 below) ms))) others)) (l ∷ n ∷ []) 2 no_skeletons (λ q qs q_pair qs_fit.
    inner_case (minus t) (λ others. Repeats (more_nodes (inner l 0 (more_nodes (leaf m) (more_nodes (inner n 1 (more_nodes (leaf q) qs)) ms))) others)) [] 3 (more_skeletons (closed (plus t) 1) (more_skeletons (unclosed (minus u)) no_skeletons)) no_skeletons (λ k below ns k_fits ns_fit.
    leaf_case (plus t) (λ below. Repeats (more_nodes (inner l 0 (more_nodes (leaf m) (more_nodes (inner n 1 (more_nodes (leaf q) qs)) ms))) (more_nodes (inner k 3 below) ns))) (k ∷ []) 1 (more_skeletons (unclosed (minus u)) no_skeletons) (λ r ks r_pair ks_fit root inside regular.
    ((((regular.0).1).1).0).0 (zero, omega arith, repeats l m n q k r qs ms ns ks root inside q_pair r_pair))
    below k_fits)
    others others_fit)
    below below_fit)
    children children_fit)
    ls l_fits)

pub absent_nil : (l : Literal) → ¬ Contains [] l
absent_nil l h = absurd (omega (arith, h.1))

absent_cons : (m : Literal) (ms : List Literal) (l : Literal) → (¬ m ≡ l) → (¬ Contains ms l) → ¬ Contains (m ∷ ms) l
absent_cons m ms l differs absent h = not_among m ms l differs absent h.0 h.1 h.2

pub absent_one : (m l : Literal) → (¬ m ≡ l) → ¬ Contains (m ∷ []) l
absent_one m l differs = absent_cons m [] l differs (absent_nil l)

pub absent_two : (m n l : Literal) → (¬ m ≡ l) → (¬ n ≡ l) → ¬ Contains (m ∷ n ∷ []) l
absent_two m n l first second = absent_cons m (n ∷ []) l first (absent_one n l second)

pub other_sign : (q r : ℕ) (ts us : List Term) → ¬ fails q ts ≡ holds r us
other_sign q r ts us is = let sign : false ≡ true = ap (λ (l : Literal). l.positive) is in cc

pub other_predicate : (b : Bool) (ts us : List Term) (q r : ℕ) → (¬ q ≡ r) → ¬ fails q ts ≡ fails r us
other_predicate b ts us q r differ is = differ (ap (λ (l : Literal). l.predicate) is)

shared_reached : IsReached (level shared Plain 3) (0 ∷ 0 ∷ 2 ∷ 0 ∷ [])
shared_reached = record {
  tableau = record {
    root = 2;
    children = more_nodes (inner (fails p (a ∷ [])) 0 (more_nodes (leaf (holds p (a ∷ []))) (more_nodes (inner (fails p (a ∷ [])) 1 (more_nodes (leaf (holds p (a ∷ []))) no_nodes)) no_nodes)))
        (more_nodes (inner (fails t (a ∷ [])) 3 (more_nodes (leaf (holds t (a ∷ []))) (more_nodes (leaf (fails u [])) no_nodes))) no_nodes);
  };
  labelling = record {
    fits = (refl, ((refl, (opposite p (a ∷ []), ((refl, (opposite p (a ∷ []), tt)), tt))), ((refl, (opposite t (a ∷ []), (tt, tt))), tt)));
    over = (
      record { terms = a ∷ []; count = refl; each = refl },
      (
        (record { terms = a ∷ a ∷ []; count = refl; each = refl }, (tt, ((record { terms = []; count = refl; each = refl }, (tt, tt)), tt))),
        ((record { terms = []; count = refl; each = refl }, (tt, (tt, tt))), tt),
      ),
    );
  };
  regular = tt;
  within = omega arith;
}

shared_complete : IsReached (level shared Regular 3) (0 ∷ 1 ∷ 0 ∷ 1 ∷ [])
shared_complete = record {
  tableau = record {
    root = 2;
    children = more_nodes (inner (fails p (a ∷ [])) 1 (more_nodes (leaf (holds p (a ∷ []))) no_nodes))
        (more_nodes (inner (fails t (a ∷ [])) 3 (more_nodes (leaf (holds t (a ∷ []))) (more_nodes (inner (fails u []) 4 (more_nodes (leaf (holds u [])) no_nodes)) no_nodes))) no_nodes);
  };
  labelling = record {
    fits = (refl, ((refl, (opposite p (a ∷ []), tt)), ((refl, (opposite t (a ∷ []), ((refl, (opposite u [], tt)), tt))), tt)));
    over = (
      record { terms = a ∷ []; count = refl; each = refl },
      (
        (record { terms = []; count = refl; each = refl }, (tt, tt)),
        ((record { terms = []; count = refl; each = refl }, (tt, ((record { terms = []; count = refl; each = refl }, (tt, tt)), tt))), tt),
      ),
    );
  };
  regular = (
    (absent_nil (fails p (a ∷ [])), (absent_one _ _ (other_sign p p (a ∷ []) (a ∷ [])), tt)),
    (
      (
        absent_nil (fails t (a ∷ [])),
        (
          absent_one _ _ (other_sign t t (a ∷ []) (a ∷ [])),
          (
            (
              absent_one _ _ (other_predicate false (a ∷ []) [] t u (λ is. absurd (omega arith))),
              (absent_two _ _ _ (other_sign t u (a ∷ []) []) (other_sign u u [] []), tt),
            ),
            tt,
          ),
        ),
      ),
      tt,
    ),
  );
  within = omega arith;
}

pub closed_branch : ClosedBranchExample
closed_branch = (
  λ h. shared_fits h.tableau.children h.labelling.fits.1
      (subst (λ (c : ℕ). IsFamily shared c h.tableau.children) (sym h.labelling.fits.0) h.labelling.over.0) h.labelling.over.1 h.regular,
  shared_reached,
  record { reached = shared_complete; begun = omega arith; closed = refl },
)

apart_reached : IsReached (level apart Regular 3) (0 ∷ 0 ∷ 2 ∷ 0 ∷ 1 ∷ [])
apart_reached = record {
  tableau = apart_tableau;
  labelling = record {
    fits = (refl, ((refl, (opposite p (x ∷ []), ((refl, (opposite p (a ∷ []), tt)), tt))), ((refl, (opposite t [], ((refl, (opposite u [], tt)), tt))), tt)));
    over = (
      record { terms = x ∷ []; count = refl; each = refl },
      (
        (record { terms = x ∷ a ∷ []; count = refl; each = refl }, (tt, ((record { terms = []; count = refl; each = refl }, (tt, tt)), tt))),
        ((record { terms = []; count = refl; each = refl }, (tt, ((record { terms = []; count = refl; each = refl }, (tt, tt)), tt))), tt),
      ),
    );
  };
  regular = (
    (
      absent_nil (fails p (x ∷ [])),
      (
        absent_one _ _ (other_sign p p (x ∷ []) (x ∷ [])),
        (
          (
            absent_one _ _ free,
            (absent_two _ _ _ (other_sign p p (x ∷ []) (a ∷ [])) (other_sign p p (a ∷ []) (a ∷ [])), tt),
          ),
          tt,
        ),
      ),
    ),
    (
      (
        absent_nil (fails t []),
        (
          absent_one _ _ (other_sign t t [] []),
          (
            (
              absent_one _ _ (other_predicate false [] [] t u (λ is. absurd (omega arith))),
              (absent_two _ _ _ (other_sign t u [] []) (other_sign u u [] []), tt),
            ),
            tt,
          ),
        ),
      ),
      tt,
    ),
  );
  within = omega arith;
}
  where
    free : ¬ fails p (x ∷ []) ≡ fails p (a ∷ [])
    free is = let args : x ∷ [] ≡ a ∷ [] = ap (λ (l : Literal). l.args) is in cc

pub open_case : (P : Nodes → Type 0) (above : List Literal) (face : Rattle.pm_calculus.specs.Skeleton.Face) (ss : Skeletons)
    → ((l : Literal) (others : Nodes) → FitAmong above ss others → P (more_nodes (leaf l) others))
    → (ns : Nodes) → FitAmong above (more_skeletons (unclosed face) ss) ns → P ns
open_case P above face ss here no_nodes fits = absurd fits
open_case P above face ss here (more_nodes (leaf l) ns) fits = here l ns fits.1
open_case P above face ss here (more_nodes (inner l d children) ns) fits = absurd fits.0

pub none_case : (P : Nodes → Type 0) (above : List Literal) → P no_nodes → (ns : Nodes) → FitAmong above no_skeletons ns → P ns
none_case P above here no_nodes fits = here
none_case P above here (more_nodes n ns) fits = absurd fits

-- p(X) is complementary to ~p(a), so ~p(X) is ~p(a)
same_leaf : (l m n : Literal) (ns ms : Nodes) → IsFamily tautology 2 (more_nodes (inner l 0 (more_nodes (leaf m) (more_nodes (leaf n) ms))) ns)
    → HaveFamilies tautology (more_nodes (inner l 0 (more_nodes (leaf m) (more_nodes (leaf n) ms))) ns) → AreComplementary m l → l ≡ n
same_leaf l m n ns ms root inside pair =
    let s : Term = get_or ((inside.0).0).terms 0 (var 0) in
    let l_is : l ≡ fails p (a ∷ []) = first_same _ _ _ _ root.each in
    let m_is : m ≡ holds p (s ∷ []) = first_same _ _ _ _ ((inside.0).0).each in
    let n_is : n ≡ fails p (s ∷ []) = second_same _ _ _ _ _ _ ((inside.0).0).each in
    complement (s ∷ []) p m l m_is pair ∙ sym n_is

abbrev NoLeaf : Nodes → Type 0
NoLeaf ns = IsFamily tautology 2 ns → HaveFamilies tautology ns → AreRegularBelow [] ns → ⊥

abbrev one_open : Skeletons
one_open = more_skeletons (unclosed (minus p)) no_skeletons

leaf_fits : (ns : Nodes) → FitAmong [] (more_skeletons (extended (minus p) 0 (more_skeletons (closed (plus p) 1) one_open)) no_skeletons) ns → NoLeaf ns
leaf_fits = inner_case (minus p) NoLeaf [] 0 (more_skeletons (closed (plus p) 1) one_open) no_skeletons (λ l children ns fits ns_fit.
    leaf_case (plus p) (λ below. NoLeaf (more_nodes (inner l 0 below) ns)) (l ∷ []) 1 one_open (λ m others pair others_fit.
    open_case (λ below. NoLeaf (more_nodes (inner l 0 (more_nodes (leaf m) below)) ns)) (l ∷ []) (minus p) no_skeletons (λ n ms ms_fit root inside regular.
    (((regular.0).1).1).0 (zero, omega arith, same_leaf l m n ns ms root inside pair))
    others others_fit)
    children fits)

tautology_reached : IsReached (level tautology Plain 2) (0 ∷ 0 ∷ [])
tautology_reached = record {
  tableau = record {
    root = 2;
    children = more_nodes (inner (fails p (a ∷ [])) 0 (more_nodes (leaf (holds p (a ∷ []))) (more_nodes (leaf (fails p (a ∷ []))) no_nodes))) no_nodes;
  };
  labelling = record {
    fits = (refl, ((refl, (opposite p (a ∷ []), (tt, tt))), tt));
    over = (record { terms = []; count = refl; each = refl }, ((record { terms = a ∷ []; count = refl; each = refl }, (tt, (tt, tt))), tt));
  };
  regular = tt;
  within = omega arith;
}

pub leaf_counts : LeafExample
leaf_counts = (
  tautology_reached,
  λ h. leaf_fits h.tableau.children h.labelling.fits.1
      (subst (λ (c : ℕ). IsFamily tautology c h.tableau.children) (sym h.labelling.fits.0) h.labelling.over.0) h.labelling.over.1 h.regular,
)

-- each labelling of 0 0 2 0 1 over the clauses `apart` is an instance of the tableau with X left free
abbrev IsFree : Nodes → Type 0
IsFree ns = IsFamily apart 2 ns → HaveFamilies apart ns → (terms : List Term) × (ns ≡ each_among (put_in_literal terms) apart_tableau.children)

abbrev apart_nodes : (l m n q k r j v : Literal) → Nodes
apart_nodes l m n q k r j v =
    more_nodes (inner l 0 (more_nodes (leaf m) (more_nodes (inner n 1 (more_nodes (leaf q) no_nodes)) no_nodes)))
    (more_nodes (inner k 3 (more_nodes (leaf r) (more_nodes (inner j 4 (more_nodes (leaf v) no_nodes)) no_nodes))) no_nodes)

free : (l m n q k r j v : Literal) → AreComplementary m l → AreComplementary q n → IsFree (apart_nodes l m n q k r j v)
free l m n q k r j v m_l q_n root inside =
    let s : Term = get_or root.terms 0 (var 0) in
    let z : Term = get_or ((inside.0).0).terms 0 (var 0) in
    let l_is : l ≡ fails p (s ∷ []) = first_same _ _ _ _ root.each in
    let k_is : k ≡ fails t [] = second_same _ _ _ _ _ _ root.each in
    let m_first : m ≡ holds p (z ∷ []) = first_same _ _ _ _ ((inside.0).0).each in
    let args : z ∷ [] ≡ s ∷ [] = sym (ap (λ (i : Literal). i.args) m_first) ∙ m_l.args ∙ ap (λ (i : Literal). i.args) l_is in
    let m_is : m ≡ holds p (s ∷ []) = m_first ∙ ap (λ (ts : List Term). holds p ts) args in
    let q_is : q ≡ holds p (a ∷ []) = first_same _ _ _ _ ((((((inside.0).1).1).0).0).each) in
    let n_is : n ≡ fails p (a ∷ []) = complement (a ∷ []) p q n q_is q_n in
    let r_is : r ≡ holds t [] = first_same _ _ _ _ ((((inside.1).0).0).each) in
    let j_is : j ≡ fails u [] = second_same _ _ _ _ _ _ ((((inside.1).0).0).each) in
    let v_is : v ≡ holds u [] = first_same _ _ _ _ (((((((inside.1).0).1).1).0).0).each) in (
      s ∷ [],
      ap (λ (i : Literal). apart_nodes i m n q k r j v) l_is
          ∙ ap (λ (i : Literal). apart_nodes (fails p (s ∷ [])) i n q k r j v) m_is
          ∙ ap (λ (i : Literal). apart_nodes (fails p (s ∷ [])) (holds p (s ∷ [])) i q k r j v) n_is
          ∙ ap (λ (i : Literal). apart_nodes (fails p (s ∷ [])) (holds p (s ∷ [])) (fails p (a ∷ [])) i k r j v) q_is
          ∙ ap (λ (i : Literal). apart_nodes (fails p (s ∷ [])) (holds p (s ∷ [])) (fails p (a ∷ [])) (holds p (a ∷ [])) i r j v) k_is
          ∙ ap (λ (i : Literal). apart_nodes (fails p (s ∷ [])) (holds p (s ∷ [])) (fails p (a ∷ [])) (holds p (a ∷ [])) (fails t []) i j v) r_is
          ∙ ap (λ (i : Literal). apart_nodes (fails p (s ∷ [])) (holds p (s ∷ [])) (fails p (a ∷ [])) (holds p (a ∷ [])) (fails t []) (holds t []) i v) j_is
          ∙ ap (λ (i : Literal). apart_nodes (fails p (s ∷ [])) (holds p (s ∷ [])) (fails p (a ∷ [])) (holds p (a ∷ [])) (fails t []) (holds t []) (fails u []) i) v_is,
    )

abbrev closed_alone : Face → ℕ → Skeletons
closed_alone face k = more_skeletons (closed face k) no_skeletons

abbrev right_children : Skeletons
right_children = more_skeletons (closed (plus t) 1) (more_skeletons (extended (minus u) 4 (closed_alone (plus u) 2)) no_skeletons)

abbrev left_children : Skeletons
left_children = more_skeletons (closed (plus p) 1) (more_skeletons (extended (minus p) 1 (closed_alone (plus p) 2)) no_skeletons)

right_fits : (l m n q : Literal) → AreComplementary m l → AreComplementary q n
    → (ns : Nodes) → FitAmong [] (more_skeletons (extended (minus t) 3 right_children) no_skeletons) ns
    → IsFree (more_nodes (inner l 0 (more_nodes (leaf m) (more_nodes (inner n 1 (more_nodes (leaf q) no_nodes)) no_nodes))) ns)
right_fits l m n q m_l q_n = inner_case (minus t) (λ ns. IsFree (more_nodes (inner l 0 (more_nodes (leaf m) (more_nodes (inner n 1 (more_nodes (leaf q) no_nodes)) no_nodes))) ns)) [] 3 right_children no_skeletons (λ k children ns fits ns_fit.
    none_case (λ ns. IsFree (more_nodes (inner l 0 (more_nodes (leaf m) (more_nodes (inner n 1 (more_nodes (leaf q) no_nodes)) no_nodes))) (more_nodes (inner k 3 children) ns))) []
    (leaf_case (plus t) (λ below. IsFree (more_nodes (inner l 0 (more_nodes (leaf m) (more_nodes (inner n 1 (more_nodes (leaf q) no_nodes)) no_nodes))) (more_nodes (inner k 3 below) no_nodes))) (k ∷ []) 1 (more_skeletons (extended (minus u) 4 (closed_alone (plus u) 2)) no_skeletons) (λ r others r_k others_fit.
    inner_case (minus u) (λ below. IsFree (more_nodes (inner l 0 (more_nodes (leaf m) (more_nodes (inner n 1 (more_nodes (leaf q) no_nodes)) no_nodes))) (more_nodes (inner k 3 (more_nodes (leaf r) below)) no_nodes))) (k ∷ []) 4 (closed_alone (plus u) 2) no_skeletons (λ j below ms below_fit ms_fit.
    none_case (λ ms. IsFree (more_nodes (inner l 0 (more_nodes (leaf m) (more_nodes (inner n 1 (more_nodes (leaf q) no_nodes)) no_nodes))) (more_nodes (inner k 3 (more_nodes (leaf r) (more_nodes (inner j 4 below) ms))) no_nodes))) (k ∷ [])
    (leaf_case (plus u) (λ below. IsFree (more_nodes (inner l 0 (more_nodes (leaf m) (more_nodes (inner n 1 (more_nodes (leaf q) no_nodes)) no_nodes))) (more_nodes (inner k 3 (more_nodes (leaf r) (more_nodes (inner j 4 below) no_nodes))) no_nodes))) (k ∷ j ∷ []) 2 no_skeletons (λ v vs v_j vs_fit.
    none_case (λ vs. IsFree (more_nodes (inner l 0 (more_nodes (leaf m) (more_nodes (inner n 1 (more_nodes (leaf q) no_nodes)) no_nodes))) (more_nodes (inner k 3 (more_nodes (leaf r) (more_nodes (inner j 4 (more_nodes (leaf v) vs)) no_nodes))) no_nodes))) (k ∷ j ∷ [])
    (free l m n q k r j v m_l q_n) vs vs_fit)
    below below_fit)
    ms ms_fit)
    others others_fit)
    children fits)
    ns ns_fit)

apart_fits : (ns : Nodes) → FitAmong [] (more_skeletons (extended (minus p) 0 left_children) (more_skeletons (extended (minus t) 3 right_children) no_skeletons)) ns → IsFree ns
apart_fits = inner_case (minus p) IsFree [] 0 left_children (more_skeletons (extended (minus t) 3 right_children) no_skeletons) (λ l children others fits others_fit.
    leaf_case (plus p) (λ below. IsFree (more_nodes (inner l 0 below) others)) (l ∷ []) 1 (more_skeletons (extended (minus p) 1 (closed_alone (plus p) 2)) no_skeletons) (λ m below m_l below_fit.
    inner_case (minus p) (λ below. IsFree (more_nodes (inner l 0 (more_nodes (leaf m) below)) others)) (l ∷ []) 1 (closed_alone (plus p) 2) no_skeletons (λ n qs ms qs_fit ms_fit.
    none_case (λ ms. IsFree (more_nodes (inner l 0 (more_nodes (leaf m) (more_nodes (inner n 1 qs) ms))) others)) (l ∷ [])
    (leaf_case (plus p) (λ qs. IsFree (more_nodes (inner l 0 (more_nodes (leaf m) (more_nodes (inner n 1 qs) no_nodes))) others)) (l ∷ n ∷ []) 2 no_skeletons (λ q rest q_n rest_fit.
    none_case (λ rest. IsFree (more_nodes (inner l 0 (more_nodes (leaf m) (more_nodes (inner n 1 (more_nodes (leaf q) rest)) no_nodes))) others)) (l ∷ n ∷ [])
    (right_fits l m n q m_l q_n others others_fit) rest rest_fit)
    qs qs_fit)
    ms ms_fit)
    below below_fit)
    children fits)

most_free : (other : Tableau) → IsLabellingOf (level apart Regular 3) (0 ∷ 0 ∷ 2 ∷ 0 ∷ 1 ∷ []) other → IsInstanceOf other apart_tableau
most_free other h =
    let found = apart_fits other.children h.fits.1 (subst (λ (c : ℕ). IsFamily apart c other.children) (sym h.fits.0) h.over.0) h.over.1 in
    let make : ℕ → Nodes → Tableau = λ root children. record { root = root; children = children } in
    (found.0, ap (λ (c : ℕ). make c other.children) (sym h.fits.0) ∙ ap (make 2) found.1)

pub free_variable : FreeVariableExample
unfolding apart_reached
free_variable = (
  record { reached = apart_reached; begun = omega arith; closed = refl },
  record {
    labelling = apart_reached.labelling;
    most = most_free;
    numbered = inr (refl, inl (omega arith, tt));
  },
)
