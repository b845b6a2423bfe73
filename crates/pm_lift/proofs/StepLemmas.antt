-- One least choice: a reduction at a leaf, and an extension at an inner node.
use Rattle.std.proofs.Common.{◌≡◌, ℕ, zero, suc, ◌+◌, ◌-◌, ◌<◌, ◌≤◌, inl, inr, true, false, cond, not, List, [], ◌∷◌, ◌++◌, length, map, Option, Some, None, IsSomeAnd, Any, slice_get, option_map, refl, sym, ◌∙◌, ap, ap₂, subst, arith, lt-ltb}
use Rattle.std.specs.List.{range_with_len}
use Rattle.std.specs.Option.{option_map_or}
use Rattle.std.proofs.lemmas.Bool.{cases_lt}
use Rattle.std.proofs.lemmas.List.{length_push}
use Rattle.std.proofs.lemmas.Option.{slice_get_within}
use Rattle.std.proofs.lemmas.List.FromFn.{length-map-range_with_len}
use Rattle.pm_logic.specs.Problem.{Literal, Clause}
use Rattle.pm_logic.specs.Tableau.{leaf, inner, Nodes, Tableau}
use Rattle.pm_calculus.specs.Substitution.{AreComplementary}
use Rattle.pm_calculus.specs.Connection.{IsFamily, HasComplementaryLeaf, IsWithinBound, Level}
use Rattle.pm_calculus.specs.Skeleton.{Face, face_of, Skeleton, unclosed, closed, extended, Skeletons, State, rooted, Step, extend, reduce, Subgoal, depth_of, selected_among, filled_among, literals_at, extension, reduction, after_step}
use Rattle.pm_calculus.specs.Alternatives.{reductions, has_face, opposite, Head, heads, extension_by, extensions, used, has_room, alternatives_for, alternatives, IsHead}
use Rattle.pm_calculus.specs.Agreement.{AgreeAmong, Agrees, AreLeast}
use Rattle.pm_calculus.proofs.Alternatives.{alternative_complete, extension_sound, map_among}
use Rattle.pm_calculus.proofs.ListsToTrees.{own_depth}
use Rattle.pm_calculus.proofs.Sizes.{size_agrees, room_needed}
use Rattle.pm_lift.specs.Inside.Complements.{complements}
use Rattle.pm_lift.specs.Inside.Tree.{closing_place, reduction_choice, is_before, place_of_head, extension_choice}
use Rattle.pm_lift.proofs.ComplementLemmas.{complements_complete}
use Rattle.pm_lift.proofs.ListLemmas.{passes_before, get_left, get_right}
use Rattle.pm_lift.proofs.HeadLemmas.{before_sound, place_found}
use Rattle.pm_lift.proofs.TreeLemmas.{todo_among, todo_agree, closes, family_faces, connects, no_earlier, parent_pushed}
use Rattle.pm_lift.proofs.HoleLemmas.{Hole}

-- these choices lead from the first trees to the others, each the least
abbrev pub Leads : Level → Tableau → Skeletons → Skeletons → List ℕ → Type 0
Leads level t before after choices =
    (rest : List ℕ) → AreLeast level t (Some (rooted t.root after)) rest → AreLeast level t (Some (rooted t.root before)) (choices ++ rest)

-- a step at the selected leaf that is the first to agree leads on by one choice
pub one_choice : (level : Level) (t : Tableau) (before after : Skeletons) (subgoal : Subgoal) (choice : ℕ) (step : Step)
    → selected_among [] before ≡ Some subgoal
    → slice_get (alternatives_for level (rooted t.root before) (Some subgoal)) choice ≡ Some step
    → after_step level.problem.clauses (rooted t.root before) step ≡ rooted t.root after
    → AgreeAmong [] after t.children
    → ((other : ℕ) (s : Step) → other < choice → slice_get (alternatives_for level (rooted t.root before) (Some subgoal)) other ≡ Some s
    → ¬ Agrees (after_step level.problem.clauses (rooted t.root before) s) t)
    → Leads level t before after (choice ∷ [])
one_choice level t before after subgoal choice step selects stands makes fits earlier rest least =
    let state : State = rooted t.root before in
    let clauses = level.problem.clauses in
    let same : (n : ℕ) → slice_get (alternatives level state) n ≡ slice_get (alternatives_for level state (Some subgoal)) n = λ n. ap (λ o. slice_get (alternatives_for level state o) n) selects in
    let at : slice_get (alternatives level state) choice ≡ Some step = same choice ∙ stands in
    let good : Agrees (after_step clauses state step) t = subst (λ (s : State). Agrees s t) (sym makes) (refl, fits) in (
      record {
        agrees = subst (λ (o : Option Step). IsSomeAnd o (λ s. Agrees (after_step clauses state s) t)) (sym at) good;
        least = λ other lt agrees.
            by other lt (slice_get (alternatives_for level state (Some subgoal)) other) refl
            (subst (λ (o : Option Step). IsSomeAnd o (λ s. Agrees (after_step clauses state s) t)) (same other) agrees);
      },
      subst (λ (o : Option State). AreLeast level t o rest) (sym (ap (option_map (after_step clauses state)) at ∙ ap Some makes)) least,
    )
  where
    by : (other : ℕ) → other < choice → (o : Option Step) → slice_get (alternatives_for level (rooted t.root before) (Some subgoal)) other ≡ o
        → IsSomeAnd o (λ s. Agrees (after_step level.problem.clauses (rooted t.root before) s) t) → ⊥
    by other lt None is agrees = absurd agrees
    by other lt (Some s) is agrees = earlier other s lt is agrees

reductions_at : (a m k : ℕ) → k < m → slice_get (map reduce (range_with_len a m)) k ≡ Some (reduce (a + k))
reductions_at a zero k lt = absurd (omega (arith, lt))
reductions_at a (suc m) zero lt = let same : a ≡ a + zero = omega arith in ap (λ n. Some (reduce n)) same
reductions_at a (suc m) (suc k) lt =
    let same : a + 1 + k ≡ a + suc k = omega arith in reductions_at (a + 1) m k (omega (arith, lt)) ∙ ap (λ n. Some (reduce n)) same

-- the leaf below these literals, which have these faces
abbrev subgoal_at : List Face → Literal → Subgoal
subgoal_at faces l = record { above = faces; face = face_of l }

-- the first alternatives are the reductions, with the ancestors in turn
reduction_at : (level : Level) (state : State) (faces : List Face) (l : Literal) (n : ℕ) → n < length faces
    → slice_get (alternatives_for level state (Some (subgoal_at faces l))) n ≡ Some (reduce (suc n))
reduction_at level state faces l n lt =
    let number : depth_of (subgoal_at faces l) - 1 ≡ length faces = omega arith in
    let count : length (reductions (subgoal_at faces l)) ≡ length faces = length-map-range_with_len reduce 1 (depth_of (subgoal_at faces l) - 1) ∙ number in
    let next : 1 + n ≡ suc n = omega arith in
    get_left (reductions (subgoal_at faces l)) (cond (has_room level state (subgoal_at faces l)) (extensions (face_of l) level.problem.clauses) []) n (omega (arith, lt, count))
    ∙ reductions_at 1 (depth_of (subgoal_at faces l) - 1) n (omega (arith, lt, number))
    ∙ ap (λ k. Some (reduce k)) next

-- the others are the extensions, where there is room
extension_at : (level : Level) (state : State) (faces : List Face) (l : Literal) (m n : ℕ) → has_room level state (subgoal_at faces l) ≡ true → n ≡ length faces + m
    → slice_get (alternatives_for level state (Some (subgoal_at faces l))) n ≡ slice_get (extensions (face_of l) level.problem.clauses) m
extension_at level state faces l m n room is =
    let number : depth_of (subgoal_at faces l) - 1 ≡ length faces = omega arith in
    let count : length (reductions (subgoal_at faces l)) ≡ length faces = length-map-range_with_len reduce 1 (depth_of (subgoal_at faces l) - 1) ∙ number in
    get_right (reductions (subgoal_at faces l)) (cond (has_room level state (subgoal_at faces l)) (extensions (face_of l) level.problem.clauses) []) m n (omega (arith, is, count))
    ∙ ap (λ b. slice_get (cond b (extensions (face_of l) level.problem.clauses) []) m) room

same_step : (s r : Step) → Some s ≡ Some r → s ≡ r
same_step s r is = cc

-- at a leaf the least choice is the reduction with the first ancestor that is complementary to it
pub leaf_choice : (level : Level) (t : Tableau) (above : List Literal) (faces : List Face) (l : Literal) (plug : Skeleton → Skeletons)
    → Hole t above faces (leaf l) plug → Any (AreComplementary l) above
    → Leads level t (plug (unclosed (face_of l))) (plug (closed (face_of l) (suc (reduction_choice above l)))) (reduction_choice above l ∷ [])
leaf_choice level t above faces l plug h closes_here =
    let clauses = level.problem.clauses in
    let first = closes l above closes_here in
    let k = reduction_choice above l in
    let before = plug (unclosed (face_of l)) in
    let within : k < length faces = omega (arith, h.own, slice_get_within above k first.ancestor first.stands) in
    one_choice level t before (plug (closed (face_of l) (suc k))) (subgoal_at faces l) k (reduce (suc k))
    (h.selects (unclosed (face_of l)) refl)
    (reduction_at level (rooted t.root before) faces l k within)
    (ap (rooted t.root) (h.fills (reduction (suc k)) (unclosed (face_of l)) refl))
    ((h.agrees (closed (face_of l) (suc k))).1 (refl, subst (λ (o : Option Literal). IsSomeAnd o (AreComplementary l)) (sym first.stands) first.complement))
    (λ other s lt is agrees. earlier other s lt (omega (arith, lt, within)) is agrees)
  where
    -- none of the ancestors before it is complementary to the leaf
    none_before : (other : ℕ) → other < reduction_choice above l → (o : Option Literal) → slice_get above other ≡ o → IsSomeAnd o (AreComplementary l) → ⊥
    none_before other lt None is c = absurd c
    none_before other lt (Some a) is c =
        let fails : not (complements l a) ≡ true = passes_before (λ x. not (complements l x)) above other a lt is in
        let never : false ≡ true = sym (ap not (complements_complete l a c)) ∙ fails in cc

    earlier : (other : ℕ) (s : Step) → other < reduction_choice above l → other < length faces
        → slice_get (alternatives_for level (rooted t.root (plug (unclosed (face_of l)))) (Some (subgoal_at faces l))) other ≡ Some s
        → ¬ Agrees (after_step level.problem.clauses (rooted t.root (plug (unclosed (face_of l)))) s) t
    earlier other s lt within is agrees =
        let it : reduce (suc other) ≡ s = same_step (reduce (suc other)) s (sym (reduction_at level (rooted t.root (plug (unclosed (face_of l)))) faces l other within) ∙ is) in
        let moved : Agrees (after_step level.problem.clauses (rooted t.root (plug (unclosed (face_of l)))) (reduce (suc other))) t = subst (λ (r : Step). Agrees (after_step level.problem.clauses (rooted t.root (plug (unclosed (face_of l)))) r) t) (sym it) agrees in
        let fits : AgreeAmong [] (plug (closed (face_of l) (suc other))) t.children = subst (λ (ss : Skeletons). AgreeAmong [] ss t.children) (h.fills (reduction (suc other)) (unclosed (face_of l)) refl) moved.1 in
        none_before other lt (slice_get above other) refl (((h.agrees (closed (face_of l) (suc other))).0 fits).1)

-- a literal of a family's clause with the face is a head
is_head : (clauses : List Clause) (face : Face) (c j : ℕ) (k : Literal) → slice_get (literals_at clauses c) j ≡ Some k → has_face face k ≡ true → IsHead clauses face c j
is_head clauses face c j k has shows = by (slice_get clauses c) refl has
  where
    by : (o : Option Clause) → slice_get clauses c ≡ o → slice_get (option_map_or (λ clause. clause.literals) o []) j ≡ Some k → IsHead clauses face c j
    by None is at = cc
    by (Some clause) is at = record { its_clause = clause; stands = is; its_literal = k; has = at; shows = shows }

same_indices : (c j d k : ℕ) → extend c j ≡ extend d k → (c ≡ d) × (j ≡ k)
same_indices c j d k is = (cc, cc)

no_reduction : (k c j : ℕ) → Some (reduce k) ≡ Some (extend c j) → ⊥
no_reduction k c j is = cc

-- the literals that the extensions of a leaf of this literal are by
abbrev heads_for : Level → Literal → List Head
heads_for level l = heads (opposite (face_of l)) level.problem.clauses

-- the place of an extension among the alternatives
extension_place : (level : Level) (state : State) (faces : List Face) (l : Literal) (c j : ℕ) → has_room level state (subgoal_at faces l) ≡ true
    → used level.kind state (subgoal_at faces l) < level.bound → IsHead level.problem.clauses (opposite (face_of l)) c j
    → slice_get (alternatives_for level state (Some (subgoal_at faces l))) (length faces + place_of_head (record { clause = c; literal = j }) (heads_for level l)) ≡ Some (extend c j)
extension_place level state faces l c j room less head =
    let there = alternative_complete level state (subgoal_at faces l) (extend c j) (less, head) in
    elim (cases_lt there.0 (length faces)) [
      | inl lt ↦ absurd (no_reduction (suc there.0) c j (sym (reduction_at level state faces l there.0 lt) ∙ there.1))
      | inr le ↦ at there.0 (there.0 - length faces) (omega (arith, le)) there.1
    ]
  where
    at : (n m : ℕ) → n ≡ length faces + m → slice_get (alternatives_for level state (Some (subgoal_at faces l))) n ≡ Some (extend c j)
        → slice_get (alternatives_for level state (Some (subgoal_at faces l))) (length faces + place_of_head (record { clause = c; literal = j }) (heads_for level l)) ≡ Some (extend c j)
    at n m is stands =
        let h = map_among extension_by (heads_for level l) (extend c j) m (sym (extension_at level state faces l m n room is) ∙ stands) in
        let same = same_indices h.0.clause h.0.literal c j h.2 in
        let place : place_of_head (record { clause = c; literal = j }) (heads_for level l) ≡ m =
        sym (ap₂ (λ a b. place_of_head (record { clause = a; literal = b }) (heads_for level l)) same.0 same.1)
        ∙ place_found (opposite (face_of l)) level.problem.clauses h.0 m h.1 in
        let number : length faces + place_of_head (record { clause = c; literal = j }) (heads_for level l) ≡ n = omega (arith, place, is) in
        ap (slice_get (alternatives_for level state (Some (subgoal_at faces l)))) number ∙ stands

-- no reduction agrees with an inner node
no_reduction_agrees : (clauses : List Clause) (t : Tableau) (above : List Literal) (faces : List Face) (l : Literal) (c : ℕ) (ns : Nodes) (plug : Skeleton → Skeletons) → Hole t above faces (inner l c ns) plug
    → (k : ℕ) → ¬ Agrees (after_step clauses (rooted t.root (plug (unclosed (face_of l)))) (reduce k)) t
no_reduction_agrees clauses t above faces l c ns plug h k agrees =
    (h.agrees (closed (face_of l) k)).0 (subst (λ (ss : Skeletons). AgreeAmong [] ss t.children) (h.fills (reduction k) (unclosed (face_of l)) refl) agrees.1)

-- an extension that agrees is by the node's clause, and by a literal no earlier than the first whose leaf closes by the node
agreeing_extension : (clauses : List Clause) (t : Tableau) (above : List Literal) (faces : List Face) (l : Literal) (c : ℕ) (ns : Nodes) (plug : Skeleton → Skeletons) → Hole t above faces (inner l c ns) plug
    → (face : Face) (d j : ℕ) → IsHead clauses face d j → Agrees (after_step clauses (rooted t.root (plug (unclosed (face_of l)))) (extend d j)) t
    → (d ≡ c) × (closing_place l ns ≤ j)
agreeing_extension clauses t above faces l c ns plug h face d j head agrees =
    let goal = subgoal_at faces l in
    let fits = (h.agrees (extension clauses d j goal)).0 (subst (λ (ss : Skeletons). AgreeAmong [] ss t.children) (h.fills (extension clauses d j) (unclosed (face_of l)) refl) agrees.1) in
    let stands : slice_get (literals_at clauses d) j ≡ Some head.its_literal = ap (λ o. slice_get (option_map_or (λ clause. clause.literals) o []) j) head.stands ∙ head.has in
    let deep : depth_of goal ≡ length above + 1 = omega (arith, h.own) in
    (fits.1, no_earlier (above ++ l ∷ []) l (depth_of goal) j (literals_at clauses d) head.its_literal ns (own_depth above l (depth_of goal) deep) stands fits.2)

-- the alternatives before the extension by its clause and that literal don't agree
none_earlier : (level : Level) (t : Tableau) (above : List Literal) (faces : List Face) (l : Literal) (c : ℕ) (ns : Nodes) (plug : Skeleton → Skeletons) → Hole t above faces (inner l c ns) plug
    → has_room level (rooted t.root (plug (unclosed (face_of l)))) (subgoal_at faces l) ≡ true
    → (other : ℕ) (s : Step) → other < length faces + place_of_head (record { clause = c; literal = closing_place l ns }) (heads_for level l)
    → slice_get (alternatives_for level (rooted t.root (plug (unclosed (face_of l)))) (Some (subgoal_at faces l))) other ≡ Some s
    → ¬ Agrees (after_step level.problem.clauses (rooted t.root (plug (unclosed (face_of l)))) s) t
none_earlier level t above faces l c ns plug h room other s lt is agrees =
    elim (cases_lt other (length faces)) [
      | inl less ↦
          let it : s ≡ reduce (suc other) = same_step s (reduce (suc other)) (sym is ∙ reduction_at level (rooted t.root (plug (unclosed (face_of l)))) faces l other less) in
          no_reduction_agrees level.problem.clauses t above faces l c ns plug h (suc other)
          (subst (λ (r : Step). Agrees (after_step level.problem.clauses (rooted t.root (plug (unclosed (face_of l)))) r) t) it agrees)
      | inr le ↦ by (other - length faces) (omega (arith, le)) (omega (arith, le, lt))
    ]
  where
    by : (m : ℕ) → other ≡ length faces + m → m < place_of_head (record { clause = c; literal = closing_place l ns }) (heads_for level l) → ⊥
    by m number less =
        let stands : slice_get (extensions (face_of l) level.problem.clauses) m ≡ Some s = sym (extension_at level (rooted t.root (plug (unclosed (face_of l)))) faces l m other room number) ∙ is in
        let found = extension_sound (face_of l) level.problem.clauses s m stands in
        let head = map_among extension_by (heads_for level l) s m stands in
        let same = same_indices head.0.clause head.0.literal found.0 found.1 (head.2 ∙ found.2) in
        let fits = agreeing_extension level.problem.clauses t above faces l c ns plug h (opposite (face_of l)) found.0 found.1 found.3
        (subst (λ (r : Step). Agrees (after_step level.problem.clauses (rooted t.root (plug (unclosed (face_of l)))) r) t) found.2 agrees) in
        let before = before_sound head.0 (record { clause = c; literal = closing_place l ns })
        (passes_before (λ x. is_before x (record { clause = c; literal = closing_place l ns })) (heads_for level l) m head.0 less head.1) in
        elim before [
          | inl p ↦ omega (arith, p, same.0, fits.0)
          | inr p ↦ omega (arith, p.1, same.1, fits.1)
        ]

-- at an inner node the least choice is the extension by its clause and the first literal whose leaf closes by the node
pub inner_choice : (level : Level) (t : Tableau) → IsWithinBound level.kind level.bound t → (above : List Literal) (faces : List Face) (l : Literal) (c : ℕ) (ns : Nodes) (plug : Skeleton → Skeletons)
    → Hole t above faces (inner l c ns) plug → IsFamily level.problem.clauses c ns → HasComplementaryLeaf l ns
    → Leads level t (plug (unclosed (face_of l))) (plug (extended (face_of l) c (todo_among (length (above ++ l ∷ [])) (Some l) ns)))
    (extension_choice level.problem.clauses above l c (closing_place l ns) ∷ [])
inner_choice level t within above faces l c ns plug h family connected =
    let clauses = level.problem.clauses in
    let j = closing_place l ns in
    let goal = subgoal_at faces l in
    let before = plug (unclosed (face_of l)) in
    let state : State = rooted t.root before in
    let after = plug (extended (face_of l) c (todo_among (length (above ++ l ∷ [])) (Some l) ns)) in
    let depth : depth_of goal ≡ length (above ++ l ∷ []) = omega (arith, h.own, length_push above l) in
    let meets = connects l (depth_of goal) (literals_at clauses c) ns (family_faces clauses c ns family) connected in
    let head = is_head clauses (opposite (face_of l)) c j meets.literal meets.has meets.shows in
    let selects = h.selects (unclosed (face_of l)) refl in
    let made : filled_among (extension clauses c j) [] before ≡ after =
    h.fills (extension clauses c j) (unclosed (face_of l)) refl
    ∙ ap (λ ss. plug (extended (face_of l) c ss)) (meets.same ∙ ap (λ d. todo_among d (Some l) ns) depth) in
    let fits : AgreeAmong [] after t.children = (h.agrees (extended (face_of l) c (todo_among (length (above ++ l ∷ [])) (Some l) ns))).1 (refl, refl, todo_agree (above ++ l ∷ []) (Some l) ns (parent_pushed above l)) in
    let makes : after_step clauses state (extend c j) ≡ rooted t.root after = ap (rooted t.root) made in
    let agrees : Agrees (after_step clauses state (extend c j)) t = subst (λ (s : State). Agrees s t) (sym makes) (refl, fits) in
    let less : used level.kind state goal < level.bound =
    room_needed level.kind clauses t.root before goal (opposite (face_of l)) c j level.bound selects head
    (omega (arith, size_agrees level.kind (after_step clauses state (extend c j)) t agrees, within)) in
    let room : has_room level state goal ≡ true = lt-ltb (used level.kind state goal) level.bound less in
    let number : length above + place_of_head (record { clause = c; literal = j }) (heads_for level l) ≡ length faces + place_of_head (record { clause = c; literal = j }) (heads_for level l) = ap (λ n. n + place_of_head (record { clause = c; literal = j }) (heads_for level l)) (sym h.own) in
    one_choice level t before after goal (extension_choice clauses above l c j) (extend c j) selects
    (ap (slice_get (alternatives_for level state (Some goal))) number ∙ extension_place level state faces l c j room less head)
    makes fits
    (λ other s lt is bad. none_earlier level t above faces l c ns plug h room other s (omega (arith, lt, number)) is bad)
