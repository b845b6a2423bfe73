-- Marks of rows, and the terms that occur in a tableau.
use Rattle.std.proofs.Common.{◌≡◌, ◌⊎◌, ◌∙◌, ◌+◌, ◌<◌, ◌≤◌, ◌==◌, ◌||◌, ℕ, zero, suc, Bool, true, false, cond, List, [], ◌∷◌, length, get_or, Some, refl, sym, ap, subst, arith, inl, inr, true≢false}
use Rattle.std.specs.List.{All, Contains, list_any, count_by}
use Rattle.std.specs.Prelude.{map, slice_get}
use Rattle.std.proofs.lemmas.Bool.{cases_lt}
use Rattle.std.proofs.lemmas.Bool.Decides.{Decides-eqb}
use Rattle.std.proofs.lemmas.List.Sums.{sum_by-append}
use Rattle.std.proofs.lemmas.Option.{get_or_from_slice_get, slice_get-get_or}
use Rattle.pm_logic.specs.declared.tableau.Node.{Node as CodeNode}
use Rattle.pm_logic.specs.Lists.{AreDistinct}
use Rattle.pm_logic.specs.Tableau.{Entry, Tableau, preorder}
use Rattle.pm_logic.specs.Term.{Term, Terms, var, app, no_terms, more_terms, as_terms, list_of, tree_at}
use Rattle.pm_logic.specs.View.{entry_of}
use Rattle.pm_report.specs.Summary.{AreTermsIn, IsPart, IsPartAmong, Occurs}
use Rattle.pm_report.specs.Inside.Marks.{AreArgsMarked, IsArgOf, has_mark, is_row_among}
use Rattle.pm_report.proofs.LineLemmas.{contains_cases, contains_here, contains_later}

-- ---- lists

module _ {Z : Type 0} where
  or_cases : (a b : Bool) → (a || b) ≡ true → (a ≡ true → Z) → (b ≡ true → Z) → Z
  or_cases true b e f g = f refl
  or_cases false b e f g = g e

or_left : (a b : Bool) → a ≡ true → (a || b) ≡ true
or_left a b e = rw e refl

or_right : (a b : Bool) → b ≡ true → (a || b) ≡ true
or_right true b e = refl
or_right false b e = e

module _ {X : Type 0} where
  pub any_element : (p : X → Bool) (xs : List X) → list_any p xs ≡ true → (x : X) × Contains xs x × (p x ≡ true)
  any_element p [] e = absurd (true≢false (sym e))
  any_element p (x ∷ xs) e = or_cases (p x) (list_any p xs) e
      (λ here. (x, contains_here x xs, here))
      (λ later. let found = any_element p xs later in (found.0, contains_later x found.0 xs found.1, found.2))

  pub element_any : (p : X → Bool) (xs : List X) (x : X) → Contains xs x → p x ≡ true → list_any p xs ≡ true
  element_any p [] x h e = absurd (omega (arith, h.1))
  element_any p (y ∷ xs) x h e = elim (contains_cases y x xs h) [
    | inl same ↦ or_left (p y) (list_any p xs) (ap p same ∙ e)
    | inr later ↦ or_right (p y) (list_any p xs) (element_any p xs x later e)
  ]

  pub all_at : (P : X → Type 0) (xs : List X) (x : X) → All P xs → Contains xs x → P x
  all_at P xs x all h = subst P h.2 (all h.0 x h.1)

module _ {X Y : Type 0} (f : X → Y) where
  pub contains_map : (xs : List X) (x : X) → Contains xs x → Contains (map f xs) (f x)
  contains_map [] x h = absurd (omega (arith, h.1))
  contains_map (y ∷ xs) x h = elim (contains_cases y x xs h) [
    | inl same ↦ subst (λ (z : X). Contains (f y ∷ map f xs) (f z)) same (contains_here (f y) (map f xs))
    | inr later ↦ contains_later (f y) (f x) (map f xs) (contains_map xs x later)
  ]

  pub map_contains : (xs : List X) (y : Y) → Contains (map f xs) y → (x : X) × Contains xs x × (f x ≡ y)
  map_contains [] y h = absurd (omega (arith, h.1))
  map_contains (x ∷ xs) y h = elim (contains_cases (f x) y (map f xs) h) [
    | inl same ↦ (x, contains_here x xs, same)
    | inr later ↦ (let found = map_contains xs y later in (found.0, contains_later x found.0 xs found.1, found.2))
  ]

pub list_of-as_terms : (ts : List Term) → list_of (as_terms ts) ≡ ts
list_of-as_terms [] = refl
list_of-as_terms (t ∷ ts) = ap (λ (l : List Term). t ∷ l) (list_of-as_terms ts)

pub among_contains : (row : ℕ) (rows : List ℕ) → is_row_among row rows ≡ true → Contains rows row
among_contains row rows e =
    let found = any_element (λ r. r == row) rows e in
    subst (λ (r : ℕ). Contains rows r) ((Decides-eqb found.0 row).0 found.2) found.1

pub contains_among : (row : ℕ) (rows : List ℕ) → Contains rows row → is_row_among row rows ≡ true
contains_among row rows h = element_any (λ r. r == row) rows row h ((Decides-eqb row row).1 refl)

-- ---- parts

pub part_itself : (t : Term) → IsPart t t
part_itself (var n) = refl
part_itself (app symbol args) = inl refl

pub part_among : (t : Term) (args : Terms) → Contains (list_of args) t → IsPartAmong t args
part_among t no_terms h = absurd (omega (arith, h.1))
part_among t (more_terms u us) h = elim (contains_cases u t (list_of us) h) [
  | inl same ↦ inl (subst (λ (v : Term). IsPart t v) (sym same) (part_itself t))
  | inr later ↦ inr (part_among t us later)
]

mutual
  pub part_of_part : (t u v : Term) → IsPart t u → IsPart u v → IsPart t v
  part_of_part t u (var n) p q = subst (λ (w : Term). IsPart t w) q p
  part_of_part t u (app symbol args) p (inl same) = subst (λ (w : Term). IsPart t w) same p
  part_of_part t u (app symbol args) p (inr among) = inr (part_of_parts t u args p among)

  pub part_of_parts : (t u : Term) (vs : Terms) → IsPart t u → IsPartAmong u vs → IsPartAmong t vs
  part_of_parts t u no_terms p q = absurd q
  part_of_parts t u (more_terms v vs) p (inl here) = inl (part_of_part t u v p here)
  part_of_parts t u (more_terms v vs) p (inr later) = inr (part_of_parts t u vs p later)

pub arg_is_part : (terms : List Term) (arg row : ℕ) → IsArgOf terms arg row → IsPart (tree_at terms arg) (tree_at terms row)
arg_is_part terms arg row h =
    subst (λ (whole : Term). IsPart (tree_at terms arg) whole) (sym h.1.2) (inr (part_among (tree_at terms arg) h.1.1 h.1.3))

pub occurs_part : (t u : Term) (tableau : Tableau) → IsPart t u → Occurs u tableau → Occurs t tableau
occurs_part t u tableau p h = (h.0, h.1, part_of_parts t u (as_terms h.0.literal.args) p h.2)

-- ---- the marks of the arguments of one term

pub new_mark : (terms : List Term) (old new : List Bool) (row symbol other : ℕ) (args : List ℕ)
    → tree_at terms row ≡ app symbol (as_terms (map (tree_at terms) args)) → All (λ arg. arg < row) args
    → has_mark new other ≡ (is_row_among other args || has_mark old other) → has_mark new other ≡ true → (has_mark old other ≡ true) ⊎ IsArgOf terms other row
new_mark terms old new row symbol other args shows below marked e =
    or_cases (is_row_among other args) (has_mark old other) (sym marked ∙ e)
    (λ among. let h = among_contains other args among in
    inr (
      all_at (λ arg. arg < row) args other below h,
      (
        symbol,
        as_terms (map (tree_at terms) args),
        shows,
        subst (λ (l : List Term). Contains l (tree_at terms other)) (sym (list_of-as_terms (map (tree_at terms) args))) (contains_map (tree_at terms) args other h),
      ),
    ))
    (λ before. inl before)

same_args : (s r : ℕ) (us vs : Terms) → app s us ≡ app r vs → us ≡ vs
same_args s r us vs e = cc

pub args_marked : (terms : List Term) (old new : List Bool) (row symbol : ℕ) (args : List ℕ)
    → tree_at terms row ≡ app symbol (as_terms (map (tree_at terms) args))
    → ((other : ℕ) → has_mark new other ≡ (is_row_among other args || has_mark old other)) → AreArgsMarked terms new row
args_marked terms old new row symbol args shows marked s us is t h =
    let same : us ≡ as_terms (map (tree_at terms) args) = same_args s symbol us _ (sym is ∙ shows) in
    let among : Contains (map (tree_at terms) args) t =
    subst (λ (l : List Term). Contains l t) (list_of-as_terms (map (tree_at terms) args)) (subst (λ (l : Terms). Contains (list_of l) t) same h) in
    let found = map_contains (tree_at terms) args t among in
    (found.0, found.2, marked found.0 ∙ or_left (is_row_among found.0 args) (has_mark old found.0) (contains_among found.0 args found.1))

-- ---- rows from the last one on

-- the marks, where the rows from one on are done
pub record Marks (terms : List Term) (initial marks : List Bool) (from : ℕ) : Type 0 where
  pub count : length marks ≡ length initial
  pub grows : (row : ℕ) → has_mark initial row ≡ true → has_mark marks row ≡ true
  pub parts : (row : ℕ) → has_mark marks row ≡ true → (whole : ℕ) × (has_mark initial whole ≡ true) × IsPart (tree_at terms row) (tree_at terms whole)
  pub closed : (row : ℕ) → from ≤ row → has_mark marks row ≡ true → AreArgsMarked terms marks row

no_mark_past : (marks : List Bool) (row : ℕ) → length marks ≤ row → has_mark marks row ≡ false
no_mark_past [] row le = refl
no_mark_past (b ∷ marks) zero le = absurd (omega arith)
no_mark_past (b ∷ marks) (suc row) le = no_mark_past marks row (omega arith)

pub marks_start : (terms : List Term) (marks : List Bool) (from : ℕ) → length marks ≤ from → Marks terms marks marks from
marks_start terms marks from le = record {
  count = refl;
  grows = λ row e. e;
  parts = λ row e. (row, e, part_itself (tree_at terms row));
  closed = λ row far e. absurd (true≢false (sym e ∙ no_mark_past marks row (omega arith)));
}

pub marks_pass : (terms : List Term) (initial marks : List Bool) (row from : ℕ) → from ≡ row + 1 → Marks terms initial marks from → has_mark marks row ≡ false → Marks terms initial marks row
marks_pass terms initial marks row from next m none = record {
  count = m.count;
  grows = m.grows;
  parts = m.parts;
  closed = λ other le e. elim (cases_lt row other) [
    | inl above ↦ m.closed other (omega arith) e
    | inr not_above ↦ (let same : other ≡ row = omega arith in absurd (true≢false (sym e ∙ ap (has_mark marks) same ∙ none)))
  ];
}

pub marks_more : (terms : List Term) (initial marks new : List Bool) (row from : ℕ) → from ≡ row + 1 → Marks terms initial marks from → has_mark marks row ≡ true
    → length new ≡ length marks → ((other : ℕ) → has_mark marks other ≡ true → has_mark new other ≡ true)
    → ((other : ℕ) → has_mark new other ≡ true → (has_mark marks other ≡ true) ⊎ IsArgOf terms other row) → AreArgsMarked terms new row
    → Marks terms initial new row
marks_more terms initial marks new row from next m here count grows fresh args = record {
  count = count ∙ m.count;
  grows = λ other e. grows other (m.grows other e);
  parts = λ other e. elim (fresh other e) [
    | inl before ↦ m.parts other before
    | inr arg ↦ (let whole = m.parts row here in
        (whole.0, whole.1, part_of_part (tree_at terms other) (tree_at terms row) (tree_at terms whole.0) (arg_is_part terms other row arg) whole.2))
  ];
  closed = λ other le e. elim (cases_lt row other) [
    | inl above ↦ elim (fresh other e) [
      | inl before ↦ λ s us is t h. (let found = m.closed other (omega arith) before s us is t h in (found.0, found.1, grows found.0 found.2))
      | inr arg ↦ absurd (omega (arith, arg.0))
    ]
    | inr not_above ↦ (let same : row ≡ other = omega arith in subst (λ (r : ℕ). AreArgsMarked terms new r) same args)
  ];
}

-- ---- the marked terms

abbrev pub pick : List Bool → List Term → List Term
pick [] ts = []
pick (b ∷ bs) [] = []
pick (b ∷ bs) (t ∷ ts) = cond b (t ∷ pick bs ts) (pick bs ts)

pub length-pick : (marks : List Bool) (terms : List Term) → length marks ≡ length terms → length (pick marks terms) ≡ count_by (λ b. b) marks
length-pick [] terms e = refl
length-pick (b ∷ marks) [] e = absurd (omega arith)
length-pick (true ∷ marks) (t ∷ terms) e =
    let later = length-pick marks terms (omega arith) in
    ap suc later ∙ count_more marks
  where
    count_more : (ms : List Bool) → suc (count_by (λ b. b) ms) ≡ count_by (λ b. b) (true ∷ ms)
    count_more ms = sym (sum_by-append (λ b. cond b 1 0) (true ∷ []) ms ∙ omega arith)
length-pick (false ∷ marks) (t ∷ terms) e = length-pick marks terms (omega arith)

pub picked_row : (marks : List Bool) (terms : List Term) (t : Term) → Contains (pick marks terms) t → (row : ℕ) × (has_mark marks row ≡ true) × (tree_at terms row ≡ t)
picked_row [] terms t h = absurd (omega (arith, h.1))
picked_row (b ∷ marks) [] t h = absurd (omega (arith, h.1))
picked_row (true ∷ marks) (u ∷ terms) t h = elim (contains_cases u t (pick marks terms) h) [
  | inl same ↦ (0, refl, same)
  | inr later ↦ (let found = picked_row marks terms t later in (suc found.0, found.1, found.2))
]
picked_row (false ∷ marks) (u ∷ terms) t h = let found = picked_row marks terms t h in (suc found.0, found.1, found.2)

pub row_picked : (marks : List Bool) (terms : List Term) (row : ℕ) → length marks ≡ length terms → has_mark marks row ≡ true → Contains (pick marks terms) (tree_at terms row)
row_picked [] terms row e m = absurd (true≢false (sym m))
row_picked (b ∷ marks) [] row e m = absurd (omega arith)
row_picked (true ∷ marks) (u ∷ terms) zero e m = contains_here u (pick marks terms)
row_picked (true ∷ marks) (u ∷ terms) (suc row) e m = contains_later u (tree_at terms row) (pick marks terms) (row_picked marks terms row (omega arith) m)
row_picked (false ∷ marks) (u ∷ terms) zero e m = absurd (true≢false (sym m))
row_picked (false ∷ marks) (u ∷ terms) (suc row) e m = row_picked marks terms row (omega arith) m

-- no element stands again behind itself
abbrev Apart : List Term → Type 0
Apart [] = Unit {0}
Apart (t ∷ ts) = (¬ Contains ts t) × Apart ts

distinct_apart : (ts : List Term) → AreDistinct ts → Apart ts
distinct_apart [] d = tt
distinct_apart (t ∷ ts) d = (
  λ h. (let got : slice_get ts h.0 ≡ Some t = slice_get-get_or ts h.0 t h.1 ∙ ap Some h.2 in
      let bad : suc h.0 ≡ 0 = d (suc h.0) 0 (omega (arith, h.1)) (omega arith) got in omega arith),
  distinct_apart ts (λ i j lt lt_j e. let next : suc i ≡ suc j = d (suc i) (suc j) (omega arith) (omega arith) e in omega arith),
)

apart_distinct : (ts : List Term) → Apart ts → AreDistinct ts
apart_distinct [] a i j lt lt_j e = absurd (omega arith)
apart_distinct (t ∷ ts) a zero zero lt lt_j e = refl
apart_distinct (t ∷ ts) a zero (suc j) lt lt_j e = absurd (a.0 (j, omega arith, get_or_from_slice_get ts j t t (sym e)))
apart_distinct (t ∷ ts) a (suc i) zero lt lt_j e = absurd (a.0 (i, omega arith, get_or_from_slice_get ts i t t e))
apart_distinct (t ∷ ts) a (suc i) (suc j) lt lt_j e = ap suc (apart_distinct ts a.1 i j (omega arith) (omega arith) e)

pick_contains : (marks : List Bool) (terms : List Term) (t : Term) → Contains (pick marks terms) t → Contains terms t
pick_contains [] terms t h = absurd (omega (arith, h.1))
pick_contains (b ∷ marks) [] t h = absurd (omega (arith, h.1))
pick_contains (true ∷ marks) (u ∷ terms) t h = elim (contains_cases u t (pick marks terms) h) [
  | inl same ↦ subst (λ (v : Term). Contains (u ∷ terms) v) same (contains_here u terms)
  | inr later ↦ contains_later u t terms (pick_contains marks terms t later)
]
pick_contains (false ∷ marks) (u ∷ terms) t h = contains_later u t terms (pick_contains marks terms t h)

pick_apart : (marks : List Bool) (terms : List Term) → Apart terms → Apart (pick marks terms)
pick_apart [] terms a = tt
pick_apart (b ∷ marks) [] a = tt
pick_apart (true ∷ marks) (t ∷ terms) a = (λ h. a.0 (pick_contains marks terms t h), pick_apart marks terms a.1)
pick_apart (false ∷ marks) (t ∷ terms) a = pick_apart marks terms a.1

-- ---- the terms of a tableau

module _ (terms : List Term) (marks : List Bool) (closed : (row : ℕ) → has_mark marks row ≡ true → AreArgsMarked terms marks row) (t : Term) where
  mutual
    descend : (u : Term) (row : ℕ) → tree_at terms row ≡ u → has_mark marks row ≡ true → IsPart t u → (q : ℕ) × (tree_at terms q ≡ t) × (has_mark marks q ≡ true)
    descend (var n) row is m p = (row, is ∙ sym p, m)
    descend (app symbol args) row is m (inl same) = (row, is ∙ sym same, m)
    descend (app symbol args) row is m (inr among) = descend_among args (λ v h. closed row m symbol args is v h) among

    descend_among : (us : Terms) → ((v : Term) → Contains (list_of us) v → (q : ℕ) × (tree_at terms q ≡ v) × (has_mark marks q ≡ true)) → IsPartAmong t us
        → (q : ℕ) × (tree_at terms q ≡ t) × (has_mark marks q ≡ true)
    descend_among no_terms found p = absurd p
    descend_among (more_terms u us) found (inl here) = (let row = found u (contains_here u (list_of us)) in descend u row.0 row.1 row.2 here)
    descend_among (more_terms u us) found (inr later) = descend_among us (λ v h. found v (contains_later u v (list_of us) h)) later

pub terms_marked : (terms : List Term) (tableau : Tableau) (first marks : List Bool) → AreDistinct terms → length first ≡ length terms → length marks ≡ length first
    → ((row : ℕ) → has_mark first row ≡ true → Occurs (tree_at terms row) tableau)
    → ((e : Entry) → Contains (preorder tableau) e → (t : Term) → Contains e.literal.args t → (row : ℕ) × (tree_at terms row ≡ t) × (has_mark first row ≡ true))
    → ((row : ℕ) → has_mark first row ≡ true → has_mark marks row ≡ true)
    → ((row : ℕ) → has_mark marks row ≡ true → (whole : ℕ) × (has_mark first whole ≡ true) × IsPart (tree_at terms row) (tree_at terms whole))
    → ((row : ℕ) → has_mark marks row ≡ true → AreArgsMarked terms marks row)
    → AreTermsIn tableau (pick marks terms)
terms_marked terms tableau first marks distinct count same_count occur each grows parts closed = record {
  distinct = apart_distinct (pick marks terms) (pick_apart marks terms (distinct_apart terms distinct));
  exactly = λ t. (
    λ h. (let row = picked_row marks terms t h in
        let whole = parts row.0 row.1 in
        subst (λ (u : Term). Occurs u tableau) row.2 (occurs_part (tree_at terms row.0) (tree_at terms whole.0) tableau whole.2 (occur whole.0 whole.1))),
    λ o. (let found = descend_among terms marks closed t (as_terms o.0.literal.args)
        (λ v h. let row = each o.0 o.1 v (subst (λ (l : List Term). Contains l v) (list_of-as_terms o.0.literal.args) h) in (row.0, row.1, grows row.0 row.2)) o.2 in
        subst (λ (u : Term). Contains (pick marks terms) u) found.1 (row_picked marks terms found.0 (same_count ∙ count) found.2)),
  );
}

-- ---- the arguments of a tableau's literals

pub row_occurs : (terms : List Term) (tableau : Tableau) (nodes : List CodeNode) (row : ℕ) → map (entry_of terms) nodes ≡ preorder tableau
    → list_any (λ node. is_row_among row node.literal.args.items) nodes ≡ true → Occurs (tree_at terms row) tableau
row_occurs terms tableau nodes row are e =
    let found = any_element (λ (node : CodeNode). is_row_among row node.literal.args.items) nodes e in
    let node = found.0 in
    let args = node.literal.args.items in
    let among : Contains (list_of (as_terms (map (tree_at terms) args))) (tree_at terms row) =
    subst (λ (l : List Term). Contains l (tree_at terms row)) (sym (list_of-as_terms (map (tree_at terms) args)))
    (contains_map (tree_at terms) args row (among_contains row args found.2)) in (
      entry_of terms node,
      subst (λ (l : List Entry). Contains l (entry_of terms node)) are (contains_map (entry_of terms) nodes node found.1),
      part_among (tree_at terms row) (as_terms (map (tree_at terms) args)) among,
    )

pub argument_row : (terms : List Term) (tableau : Tableau) (nodes : List CodeNode) → map (entry_of terms) nodes ≡ preorder tableau
    → (e : Entry) → Contains (preorder tableau) e → (t : Term) → Contains e.literal.args t
    → (row : ℕ) × (tree_at terms row ≡ t) × (list_any (λ node. is_row_among row node.literal.args.items) nodes ≡ true)
argument_row terms tableau nodes are e there t h =
    let found = map_contains (entry_of terms) nodes e (subst (λ (l : List Entry). Contains l e) (sym are) there) in
    let node = found.0 in
    let args = node.literal.args.items in
    let among : Contains (map (tree_at terms) args) t = subst (λ (x : Entry). Contains x.literal.args t) (sym found.2) h in
    let row = map_contains (tree_at terms) args t among in
    (row.0, row.2, element_any (λ (n : CodeNode). is_row_among row.0 n.literal.args.items) nodes node found.1 (contains_among row.0 args row.1))

pub mark_default : (marks : List Bool) (row : ℕ) (d : Bool) → row < length marks → get_or marks row d ≡ has_mark marks row
mark_default [] row d lt = absurd (omega arith)
mark_default (b ∷ marks) zero d lt = refl
mark_default (b ∷ marks) (suc row) d lt = mark_default marks row d (omega arith)

-- ---- the number of different terms is determined

unfoldable without_place : List Term → ℕ → List Term
without_place [] k = []
without_place (t ∷ ts) zero = ts
without_place (t ∷ ts) (suc k) = t ∷ without_place ts k

length-without_place : (ts : List Term) (k : ℕ) → k < length ts → suc (length (without_place ts k)) ≡ length ts
unfolding without_place
length-without_place [] k lt = absurd (omega arith)
length-without_place (t ∷ ts) zero lt = refl
length-without_place (t ∷ ts) (suc k) lt = ap suc (length-without_place ts k (omega arith))

still_there : (ts : List Term) (k : ℕ) (x t : Term) → k < length ts → get_or ts k x ≡ x → Contains ts t → (x ≡ t) ⊎ Contains (without_place ts k) t
unfolding without_place
still_there [] k x t lt is h = absurd (omega arith)
still_there (u ∷ ts) zero x t lt is h = elim (contains_cases u t ts h) [
  | inl same ↦ inl (sym is ∙ same)
  | inr later ↦ inr later
]
still_there (u ∷ ts) (suc k) x t lt is h = elim (contains_cases u t ts h) [
  | inl same ↦ inr (subst (λ (v : Term). Contains (u ∷ without_place ts k) v) same (contains_here u (without_place ts k)))
  | inr later ↦ elim (still_there ts k x t (omega arith) is later) [
    | inl e ↦ inl e
    | inr kept ↦ inr (contains_later u t (without_place ts k) kept)
  ]
]

no_more : (xs ys : List Term) → Apart xs → ((t : Term) → Contains xs t → Contains ys t) → length xs ≤ length ys
no_more [] ys apart within = omega arith
no_more (x ∷ xs) ys apart within =
    let place = within x (contains_here x xs) in
    let others : length xs ≤ length (without_place ys place.0) =
    no_more xs (without_place ys place.0) apart.1 (λ t h. elim (still_there ys place.0 x t place.1 place.2 (within t (contains_later x t xs h))) [
      | inl same ↦ absurd (apart.0 (subst (λ (v : Term). Contains xs v) (sym same) h))
      | inr kept ↦ kept
    ]) in
    let count = length-without_place ys place.0 place.1 in
    omega arith

pub same_count : (tableau : Tableau) (xs ys : List Term) → AreTermsIn tableau xs → AreTermsIn tableau ys → length xs ≡ length ys
same_count tableau xs ys of_xs of_ys =
    let up = no_more xs ys (distinct_apart xs of_xs.distinct) (λ t h. (of_ys.exactly t).1 ((of_xs.exactly t).0 h)) in
    let down = no_more ys xs (distinct_apart ys of_ys.distinct) (λ t h. (of_xs.exactly t).1 ((of_ys.exactly t).0 h)) in
    omega arith
