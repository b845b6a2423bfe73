-- How many alternatives there are, and what each is.
use Rattle.std.proofs.Common.{◌≡◌, ℕ, zero, suc, ◌+◌, ◌-◌, ◌*◌, ◌<◌, ◌≤◌, ◌^◌, Bool, true, false, cond, not, nat_lt, List, [], ◌∷◌, ◌++◌, length, map, Option, Some, None, option_map, slice_get, refl, sym, ◌∙◌, ap, ap₂, subst, arith}
use Rattle.std.specs.Prelude.{All}
use Rattle.std.specs.List.{range_with_len}
use Rattle.std.proofs.lemmas.List.{length-append, length-map, length_push}
use Rattle.std.proofs.lemmas.List.Elements.{All-head, All-tail}
use Rattle.std.proofs.lemmas.Option.{slice_get-map}
use Rattle.pm_logic.specs.declared.tableau.BoundKind.{BoundKind}
use Rattle.pm_logic.specs.declared.tableau.BoundKind.TheVariants.{Depth, Inferences}
use Rattle.pm_logic.specs.Lists.{places}
use Rattle.pm_logic.specs.Problem.{Symbol, Clause, Problem, IsClauseOver, IsValid, is_start, start_clauses}
use Rattle.pm_calculus.specs.Connection.{Level}
use Rattle.pm_calculus.specs.Skeleton.{Face, Skeleton, unclosed, closed, extended, Skeletons, no_skeletons, more_skeletons, State, empty, rooted, start, reduce, Subgoal, depth_of, is_closed_below, extended_below, extended_among, instances_built, selected_below, selected_among, selected}
use Rattle.pm_calculus.specs.Alternatives.{has_face, opposite, Head, heads_from, heads, reductions, extension_by, extensions, has_room, used, alternatives, alternatives_for}
use Rattle.pm_machine.specs.declared.node.LeafView.{LeafView}
use Rattle.pm_machine.specs.Node.{IsViewOf, Views}
use Rattle.pm_tab.specs.Searched.{Searched, level_of}
use Rattle.pm_tab.specs.Inside.Counting.{has_room_for}
use Rattle.pm_tab.proofs.Paths.{count_reductions}

-- what a view of the selected leaf says
pub views_none : (o : Option Subgoal) → Views o None → o ≡ None
views_none None h = refl
views_none (Some goal) h = absurd h

pub views_some : (o : Option Subgoal) (view : LeafView) → Views o (Some view) → (goal : Subgoal) × (o ≡ Some goal) × IsViewOf goal view
views_some None view h = absurd h
views_some (Some goal) view h = (goal, refl, h)

-- the faces of a view
abbrev pub face_in : LeafView → Face
face_in view = record { positive = view.positive; predicate = view.predicate }

abbrev pub opposite_in : LeafView → Face
opposite_in view = record { positive = not view.positive; predicate = view.predicate }

pub face_seen : (goal : Subgoal) (view : LeafView) → IsViewOf goal view → face_in view ≡ goal.face
face_seen goal view h = λ k. record { positive = h.positive k; predicate = h.predicate k }

pub opposite_seen : (goal : Subgoal) (view : LeafView) → IsViewOf goal view → opposite_in view ≡ opposite goal.face
opposite_seen goal view h = ap opposite (face_seen goal view h)

-- there are no more places than items
places_few : {A : Type 0} (test : A → Bool) (from : ℕ) (xs : List A) → length (places test from xs) ≤ length xs
places_few test from [] = omega arith
places_few test from (x ∷ xs) = by (test x) (places_few test (from + 1) xs)
  where
    by : (b : Bool) → length (places test (from + 1) xs) ≤ length xs → length (cond b (from ∷ places test (from + 1) xs) (places test (from + 1) xs)) ≤ suc (length xs)
    by true few = omega (arith, few)
    by false few = omega (arith, few)

heads_few : (symbols : List Symbol) (face : Face) (from : ℕ) (cs : List Clause) → All (IsClauseOver symbols) cs → length (heads_from face from cs) ≤ 255 * length cs
heads_few symbols face from [] all = omega arith
heads_few symbols face from (c ∷ cs) all =
    let here : ℕ → Head = λ j. record { clause = from; literal = j } in
    let own : IsClauseOver symbols c = All-head (IsClauseOver symbols) c cs all in
    let few = own.few in
    omega (
      arith,
      few,
      places_few (has_face face) 0 c.literals,
      length-map (places (has_face face) 0 c.literals) here,
      length-append (map here (places (has_face face) 0 c.literals)) (heads_from face (from + 1) cs),
      heads_few symbols face (from + 1) cs (All-tail (IsClauseOver symbols) c cs all),
    )

pub few_heads : (problem : Problem) (face : Face) → IsValid problem → length (heads face problem.clauses) ≤ 2 ^ 24
few_heads problem face valid =
    let few = valid.few in
    omega (arith, few, heads_few problem.symbols face 0 problem.clauses valid.clauses)

pub few_starts : (searched : Searched) → IsValid searched.problem → length (start_clauses searched.start searched.problem.clauses) ≤ 65536
few_starts searched valid =
    let few = valid.few in
    omega (arith, few, places_few (is_start searched.start) 0 searched.problem.clauses)

-- a leaf lies no deeper than there are instances
deeper_of : (b : Bool) (later first : Option Subgoal) (goal : Subgoal) (n m k : ℕ) → (later ≡ Some goal → depth_of goal ≤ n + k) → (first ≡ Some goal → depth_of goal ≤ n + m)
    → cond b later first ≡ Some goal → depth_of goal ≤ n + (m + k)
deeper_of true later first goal n m k among below is = omega (arith, among is)
deeper_of false later first goal n m k among below is = omega (arith, below is)

mutual
  deep_below : (above : List Face) (s : Skeleton) (goal : Subgoal) → selected_below above s ≡ Some goal → depth_of goal ≤ length above + 1 + extended_below s
  deep_below above (unclosed face) goal is =
      let own : Subgoal = record { above = above; face = face } in
      let same : own ≡ goal = cc in
      subst (λ (g : Subgoal). depth_of g ≤ length above + 1 + 0) same (omega arith)
  deep_below above (closed face k) goal is = absurd cc
  deep_below above (extended face c trees) goal is =
      omega (arith, length_push above face, deep_among (above ++ face ∷ []) trees goal is)

  deep_among : (above : List Face) (ss : Skeletons) (goal : Subgoal) → selected_among above ss ≡ Some goal → depth_of goal ≤ length above + 1 + extended_among ss
  deep_among above no_skeletons goal is = absurd cc
  deep_among above (more_skeletons s ss) goal is =
      deeper_of (is_closed_below s) (selected_among above ss) (selected_below above s) goal (length above + 1) (extended_below s) (extended_among ss)
      (λ later. deep_among above ss goal later) (λ first. deep_below above s goal first) is

pub deep_goal : (state : State) (goal : Subgoal) → selected state ≡ Some goal → depth_of goal ≤ instances_built state
deep_goal empty goal is = absurd cc
deep_goal (rooted root trees) goal is = omega (arith, deep_among [] trees goal is)

-- room, as it is counted
pub room_is : (level : Level) (state : State) (goal : Subgoal) (instances depth : ℕ) → instances ≡ instances_built state → depth ≡ depth_of goal
    → has_room_for level.kind instances depth level.bound ≡ has_room level state goal
room_is level state goal instances depth counted deep = by level.kind
  where
    by : (kind : BoundKind) → has_room_for kind instances depth level.bound ≡ nat_lt (used kind state goal) level.bound
    by Depth = ap (λ n. nat_lt n level.bound) deep
    by Inferences = ap (λ n. nat_lt n level.bound) counted

-- the widths
pub width_at_start : (searched : Searched) (n instances : ℕ) (state : State) → instances ≡ instances_built state → instances ≡ 0
    → length (start_clauses searched.start searched.problem.clauses) ≡ length (alternatives (level_of searched n) state)
width_at_start searched n instances empty counted none = sym (length-map (start_clauses searched.start searched.problem.clauses) start)
width_at_start searched n instances (rooted root trees) counted none = absurd (omega (arith, counted, none))

rooted_if : (state : State) (instances : ℕ) → instances ≡ instances_built state → (instances ≡ 0 → ⊥) → (root : ℕ) × (trees : Skeletons) × (state ≡ rooted root trees)
rooted_if empty instances counted some = absurd (some counted)
rooted_if (rooted root trees) instances counted some = (root, trees, refl)

pub alternatives_at : (level : Level) (state : State) (instances : ℕ) (o : Option Subgoal) → instances ≡ instances_built state → (instances ≡ 0 → ⊥)
    → selected state ≡ o → alternatives level state ≡ alternatives_for level state o
alternatives_at level state instances o counted some is =
    let r = rooted_if state instances counted some in
    subst (λ (s : State). selected s ≡ o → alternatives level s ≡ alternatives_for level s o) (sym r.2)
    (λ own. ap (alternatives_for level (rooted r.0 r.1)) own) is

-- a leaf is selected only where there is a root
pub rooted_leaf : (level : Level) (state : State) (goal : Subgoal) → selected state ≡ Some goal → alternatives level state ≡ alternatives_for level state (Some goal)
rooted_leaf level empty goal is = absurd cc
rooted_leaf level (rooted root trees) goal is = ap (alternatives_for level (rooted root trees)) is

length_cond : {A : Type 0} (b : Bool) (xs : List A) → length (cond b xs []) ≡ cond b (length xs) 0
length_cond true xs = refl
length_cond false xs = refl

pub width_for : (level : Level) (state : State) (goal : Subgoal)
    → length (alternatives_for level state (Some goal)) ≡ depth_of goal - 1 + cond (has_room level state goal) (length (heads (opposite goal.face) level.problem.clauses)) 0
width_for level state goal =
    length-append (reductions goal) (cond (has_room level state goal) (extensions goal.face level.problem.clauses) [])
    ∙ ap₂ (λ m n. m + n) (count_reductions goal)
    (length_cond (has_room level state goal) (extensions goal.face level.problem.clauses)
    ∙ ap (λ n. cond (has_room level state goal) n 0) (length-map (heads (opposite goal.face) level.problem.clauses) extension_by))

-- items of a list of two parts
pub get_left : {A : Type 0} (xs ys : List A) (k : ℕ) → k < length xs → slice_get (xs ++ ys) k ≡ slice_get xs k
get_left [] ys k lt = absurd (omega (arith, lt))
get_left (x ∷ xs) ys zero lt = refl
get_left (x ∷ xs) ys (suc k) lt = get_left xs ys k (omega (arith, lt))

pub get_right : {A : Type 0} (xs ys : List A) (k : ℕ) → length xs ≤ k → slice_get (xs ++ ys) k ≡ slice_get ys (k - length xs)
get_right [] ys k le = let same : k ≡ k - 0 = omega arith in ap (slice_get ys) same
get_right (x ∷ xs) ys zero le = absurd (omega (arith, le))
get_right (x ∷ xs) ys (suc k) le =
    let same : k - length xs ≡ suc k - suc (length xs) = omega arith in
    get_right xs ys k (omega (arith, le)) ∙ ap (slice_get ys) same

get_range : (a n k : ℕ) → k < n → slice_get (range_with_len a n) k ≡ Some (a + k)
get_range a zero k lt = absurd (omega (arith, lt))
get_range a (suc n) zero lt = let same : a ≡ a + zero = omega arith in ap Some same
get_range a (suc n) (suc k) lt = let same : a + 1 + k ≡ a + suc k = omega arith in get_range (a + 1) n k (omega (arith, lt)) ∙ ap Some same

-- a reduction by its number
pub reduction_at : (level : Level) (state : State) (goal : Subgoal) (k : ℕ) → k < depth_of goal - 1
    → slice_get (alternatives_for level state (Some goal)) k ≡ Some (reduce (k + 1))
reduction_at level state goal k lt =
    let next : 1 + k ≡ k + 1 = omega arith in
    get_left (reductions goal) (cond (has_room level state goal) (extensions goal.face level.problem.clauses) []) k (omega (arith, lt, count_reductions goal))
    ∙ slice_get-map reduce (range_with_len 1 (depth_of goal - 1)) k ∙ ap (option_map reduce) (get_range 1 (depth_of goal - 1) k lt ∙ ap Some next)

cond_if : (b : Bool) (m n : ℕ) → n < cond b m 0 → b ≡ true
cond_if true m n lt = refl
cond_if false m n lt = absurd (omega (arith, lt))

-- an extension by its number
pub extension_at : (level : Level) (state : State) (goal : Subgoal) (k : ℕ) → depth_of goal - 1 ≤ k → k < length (alternatives_for level state (Some goal))
    → (has_room level state goal ≡ true)
    × (k - (depth_of goal - 1) < length (heads (opposite goal.face) level.problem.clauses))
    × (slice_get (alternatives_for level state (Some goal)) k ≡ option_map extension_by (slice_get (heads (opposite goal.face) level.problem.clauses) (k - (depth_of goal - 1))))
extension_at level state goal k le lt =
    let counted = width_for level state goal in
    let count = count_reductions goal in
    let heads_there : List Head = heads (opposite goal.face) level.problem.clauses in
    let beyond : k - (depth_of goal - 1) < cond (has_room level state goal) (length heads_there) 0 = omega (arith, le, lt, counted) in
    let room = cond_if (has_room level state goal) (length heads_there) (k - (depth_of goal - 1)) beyond in
    let within : k - (depth_of goal - 1) < length heads_there = subst (λ b. k - (depth_of goal - 1) < cond b (length heads_there) 0) room beyond in (
      room,
      within,
      get_right (reductions goal) (cond (has_room level state goal) (extensions goal.face level.problem.clauses) []) k (omega (arith, le, count))
          ∙ ap (λ n. slice_get (cond (has_room level state goal) (extensions goal.face level.problem.clauses) []) (k - n)) count
          ∙ ap (λ b. slice_get (cond b (extensions goal.face level.problem.clauses) []) (k - (depth_of goal - 1))) room
          ∙ slice_get-map extension_by heads_there (k - (depth_of goal - 1)),
    )
