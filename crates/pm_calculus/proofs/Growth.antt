-- What holds of every state that choices lead to.
use Rattle.std.proofs.Common.{◌≡◌, ◌≢◌, ℕ, zero, suc, ◌+◌, ◌<◌, ◌⊎◌, inl, inr, Bool, true, false, cond, ◌&&◌, List, [], ◌∷◌, ◌++◌, length, Option, Some, None, IsSomeAnd, IfSome, Contains, slice_get, fold, option_map, refl, sym, ◌∙◌, ap, subst, arith}
use Rattle.std.specs.Option.{option_map_or}
use Rattle.std.proofs.lemmas.List.{length_push}
use Rattle.std.proofs.lemmas.Option.{slice_get_within}
use Rattle.pm_logic.specs.Problem.{Literal, start_clauses}
use Rattle.pm_calculus.specs.Connection.{Level}
use Rattle.pm_calculus.specs.Skeleton.{Face, Skeleton, unclosed, closed, extended, Skeletons, no_skeletons, more_skeletons, State, empty, rooted, Step, start, extend, reduce, Subgoal, depth_of, is_closed_below, are_closed_below, is_closed, selected_below, selected_among, filled_below, filled_among, leaves, leaves_but, literals_at, extension, reduction, after_step}
use Rattle.pm_calculus.specs.Alternatives.{alternatives, alternatives_for, after_choice, state_after}
use Rattle.pm_calculus.specs.Laws.{CompleteListsEnd}
use Rattle.pm_logic.proofs.ListLemmas.{Contains-from}
use Rattle.pm_calculus.proofs.Alternatives.{IsStepFor, alternative_sound, map_among}

-- what a step keeps holds after all choices
pub kept : (level : Level) (P : State → Type 0)
    → ((state : State) (n : ℕ) (step : Step) → P state → slice_get (alternatives level state) n ≡ Some step → P (after_step level.problem.clauses state step))
    → (o : Option State) (choices : List ℕ) → IfSome o P → IfSome (fold (after_choice level) o choices) P
kept level P keeps o [] h = h
kept level P keeps o (n ∷ ns) h = kept level P keeps (after_choice level o n) ns (one o h)
  where
    one : (o : Option State) → IfSome o P → IfSome (after_choice level o n) P
    one None h = tt
    one (Some state) h = by (slice_get (alternatives level state) n) refl
      where
        by : (chosen : Option Step) → slice_get (alternatives level state) n ≡ chosen → IfSome (option_map (after_step level.problem.clauses state) chosen) P
        by None is = tt
        by (Some step) is = keeps state n step h is

abbrev pub IsBegun : State → Type 0
IsBegun empty = ⊥
IsBegun (rooted root trees) = Unit {0}

pub begun_kept : (level : Level) (state : State) (n : ℕ) (step : Step) → IsBegun state → slice_get (alternatives level state) n ≡ Some step
    → IsBegun (after_step level.problem.clauses state step)
begun_kept level empty n step h is = absurd h
begun_kept level (rooted root trees) n (start c) h is = tt
begun_kept level (rooted root trees) n (extend c j) h is = tt
begun_kept level (rooted root trees) n (reduce k) h is = tt

pub begun_first : (level : Level) (n : ℕ) → IfSome (after_choice level (Some empty) n) IsBegun
begun_first level n = by (slice_get (alternatives level empty) n) refl
  where
    by : (chosen : Option Step) → slice_get (alternatives level empty) n ≡ chosen → IfSome (option_map (after_step level.problem.clauses empty) chosen) IsBegun
    by None is = tt
    by (Some step) is =
        let h = map_among start (start_clauses level.start level.problem.clauses) step n is in
        subst (λ (s : Step). IsBegun (after_step level.problem.clauses empty s)) h.2 tt

-- after a choice there is a root
pub begun : (level : Level) (choices : List ℕ) → 0 < length choices → IfSome (state_after level choices) IsBegun
begun level [] some = absurd (omega arith)
begun level (n ∷ ns) some = kept level IsBegun (begun_kept level) (after_choice level (Some empty) n) ns (begun_first level n)

pub and_true : (a b : Bool) → a && b ≡ true → (a ≡ true) × (b ≡ true)
and_true true b h = (refl, h)
and_true false b h = cc

-- where no leaf is unclosed, none is selected
mutual
  none_selected_below : (above : List Face) (s : Skeleton) → is_closed_below s ≡ true → selected_below above s ≡ None
  none_selected_below above (unclosed face) h = cc
  none_selected_below above (closed face k) h = refl
  none_selected_below above (extended face c trees) h = none_selected (above ++ face ∷ []) trees h

  pub none_selected : (above : List Face) (ss : Skeletons) → are_closed_below ss ≡ true → selected_among above ss ≡ None
  none_selected above no_skeletons h = refl
  none_selected above (more_skeletons s ss) h =
      let both = and_true (is_closed_below s) (are_closed_below ss) h in
      ap (λ b. cond b (selected_among above ss) (selected_below above s)) both.0 ∙ none_selected above ss both.1

closed_width : (level : Level) (o : Option State) → IfSome o IsBegun → IsSomeAnd o (λ state. is_closed state ≡ true)
    → option_map_or (λ state. length (alternatives level state)) o 0 ≡ 0
closed_width level None b h = absurd h
closed_width level (Some empty) b h = absurd b
closed_width level (Some (rooted root trees)) b h = ap (λ o. length (alternatives_for level (rooted root trees) o)) (none_selected [] trees h)

not_empty : (choices : List ℕ) → 0 < length choices → choices ≢ []
not_empty [] some = absurd (omega arith)
not_empty (n ∷ ns) some = λ is. cc

pub complete_ends : CompleteListsEnd
complete_ends level choices h =
    (h.reached, not_empty choices h.begun, closed_width level (state_after level choices) (begun level choices h.begun) h.closed)

-- one of the trees is a leaf that the ancestor at this depth closes
abbrev pub HasClosedBy : ℕ → Skeletons → Type 0
HasClosedBy k no_skeletons = ⊥
HasClosedBy k (more_skeletons (unclosed face) trees) = HasClosedBy k trees
HasClosedBy k (more_skeletons (closed face ancestor) trees) = (ancestor ≡ k) ⊎ HasClosedBy k trees
HasClosedBy k (more_skeletons (extended face c children) trees) = HasClosedBy k trees

-- each node that was extended closes one of its children
abbrev mutual
  pub IsJoined : ℕ → Skeleton → Type 0
  IsJoined d (unclosed face) = Unit {0}
  IsJoined d (closed face ancestor) = Unit {0}
  IsJoined d (extended face c children) = HasClosedBy d children × AreJoined (d + 1) children

  pub AreJoined : ℕ → Skeletons → Type 0
  AreJoined d no_skeletons = Unit {0}
  AreJoined d (more_skeletons tree trees) = IsJoined d tree × AreJoined d trees

cond_both : {A : Type 0} (P : A → Type 0) (b : Bool) (x y : A) → P x → P y → P (cond b x y)
cond_both P true x y p q = p
cond_both P false x y p q = q

has_more : (k : ℕ) (s : Skeleton) (ss : Skeletons) → HasClosedBy k ss → HasClosedBy k (more_skeletons s ss)
has_more k (unclosed face) ss h = h
has_more k (closed face a) ss h = inr h
has_more k (extended face c trees) ss h = h

has_filled : (made : Subgoal → Skeleton) (above : List Face) (k : ℕ) (ss : Skeletons) → HasClosedBy k ss → HasClosedBy k (filled_among made above ss)
has_filled made above k no_skeletons h = h
has_filled made above k (more_skeletons (unclosed face) ss) h = has_more k (made (record { above = above; face = face })) ss h
has_filled made above k (more_skeletons (closed face a) ss) (inl is) = inl is
has_filled made above k (more_skeletons (closed face a) ss) (inr h) = inr (has_filled made above k ss h)
has_filled made above k (more_skeletons (extended face c trees) ss) h =
    cond_both (HasClosedBy k) (are_closed_below trees) (more_skeletons (extended face c trees) (filled_among made above ss)) (more_skeletons (extended face c (filled_among made (above ++ face ∷ []) trees)) ss)
    (has_filled made above k ss h) h

-- the depth below the faces above a child
pub one_deeper : (d : ℕ) (above : List Face) (face : Face) → d ≡ length above + 1 → d + 1 ≡ length (above ++ face ∷ []) + 1
one_deeper d above face is = omega (arith, length_push above face)

mutual
  joined_filled : (made : Subgoal → Skeleton) → ((leaf : Subgoal) → IsJoined (depth_of leaf) (made leaf)) → (d : ℕ) (above : List Face) (s : Skeleton)
      → d ≡ length above + 1 → IsJoined d s → IsJoined d (filled_below made above s)
  joined_filled made m d above (unclosed face) is h =
      subst (λ (k : ℕ). IsJoined k (made (record { above = above; face = face }))) (sym is) (m (record { above = above; face = face }))
  joined_filled made m d above (closed face k) is h = h
  joined_filled made m d above (extended face c trees) is h =
      (has_filled made (above ++ face ∷ []) d trees h.0, joined_filled_among made m (d + 1) (above ++ face ∷ []) trees (one_deeper d above face is) h.1)

  joined_filled_among : (made : Subgoal → Skeleton) → ((leaf : Subgoal) → IsJoined (depth_of leaf) (made leaf)) → (d : ℕ) (above : List Face) (ss : Skeletons)
      → d ≡ length above + 1 → AreJoined d ss → AreJoined d (filled_among made above ss)
  joined_filled_among made m d above no_skeletons is h = h
  joined_filled_among made m d above (more_skeletons s ss) is h =
      cond_both (AreJoined d) (is_closed_below s) (more_skeletons s (filled_among made above ss)) (more_skeletons (filled_below made above s) ss)
      (h.0, joined_filled_among made m d above ss is h.1) (joined_filled made m d above s is h.0, h.1)

joined_leaves : (d : ℕ) (ls : List Literal) → AreJoined d (leaves ls)
joined_leaves d [] = tt
joined_leaves d (l ∷ ls) = (tt, joined_leaves d ls)

joined_leaves_but : (d j k : ℕ) (ls : List Literal) → AreJoined d (leaves_but j k ls)
joined_leaves_but d j k [] = tt
joined_leaves_but d zero k (l ∷ ls) = (tt, joined_leaves d ls)
joined_leaves_but d (suc j) k (l ∷ ls) = (tt, joined_leaves_but d j k ls)

has_leaf : (j k : ℕ) (ls : List Literal) → j < length ls → HasClosedBy k (leaves_but j k ls)
has_leaf j k [] lt = absurd (omega arith)
has_leaf zero k (l ∷ ls) lt = inl refl
has_leaf (suc j) k (l ∷ ls) lt = has_leaf j k ls (omega arith)

-- the root has a start clause, and extensions are joined
abbrev pub IsGrown : Level → State → Type 0
IsGrown level empty = Unit {0}
IsGrown level (rooted root trees) = Contains (start_clauses level.start level.problem.clauses) root × AreJoined 1 trees

grown_step : (level : Level) (leaf : Subgoal) (root : ℕ) (trees : Skeletons) (step : Step) → IsStepFor level (rooted root trees) leaf step
    → IsGrown level (rooted root trees) → IsGrown level (after_step level.problem.clauses (rooted root trees) step)
grown_step level leaf root trees (start c) ok h = h
grown_step level leaf root trees (reduce k) ok h = (h.0, joined_filled_among (reduction k) (λ leaf. tt) 1 [] trees refl h.1)
grown_step level leaf root trees (extend c j) ok h =
    let same : literals_at level.problem.clauses c ≡ ok.1.its_clause.literals = ap (λ o. option_map_or (λ clause. clause.literals) o []) ok.1.stands in
    let within : j < length ok.1.its_clause.literals = slice_get_within ok.1.its_clause.literals j ok.1.its_literal ok.1.has in
    let fits : j < length (literals_at level.problem.clauses c) = subst (λ (ls : List Literal). j < length ls) (sym same) within in (
      h.0,
      joined_filled_among (extension level.problem.clauses c j)
          (λ leaf. (has_leaf j (depth_of leaf) (literals_at level.problem.clauses c) fits, joined_leaves_but (depth_of leaf + 1) j (depth_of leaf) (literals_at level.problem.clauses c)))
          1 [] trees refl h.1,
    )

grown_kept : (level : Level) (state : State) (n : ℕ) (step : Step) → IsGrown level state → slice_get (alternatives level state) n ≡ Some step
    → IsGrown level (after_step level.problem.clauses state step)
grown_kept level empty n step h is =
    let first = map_among start (start_clauses level.start level.problem.clauses) step n is in
    let good : IsGrown level (after_step level.problem.clauses empty (start first.0)) = (Contains-from (start_clauses level.start level.problem.clauses) n first.0 first.1, joined_leaves 1 (literals_at level.problem.clauses first.0)) in
    subst (λ (s : Step). IsGrown level (after_step level.problem.clauses empty s)) first.2 good
grown_kept level (rooted root trees) n step h is = by (selected_among [] trees) is
  where
    by : (o : Option Subgoal) → slice_get (alternatives_for level (rooted root trees) o) n ≡ Some step → IsGrown level (after_step level.problem.clauses (rooted root trees) step)
    by None none = cc
    by (Some leaf) is = grown_step level leaf root trees step (alternative_sound level (rooted root trees) leaf step n is) h

pub grown : (level : Level) (choices : List ℕ) → IfSome (state_after level choices) (IsGrown level)
grown level choices = kept level (IsGrown level) (grown_kept level) (Some empty) choices tt
