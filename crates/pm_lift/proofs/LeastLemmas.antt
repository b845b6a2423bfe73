-- The list that is read off a tree is the least that the tableau follows, at each level with room for it.
use Rattle.std.proofs.Common.{◌≡◌, ℕ, ◌<◌, Bool, true, false, cond, not, ◌==◌, List, [], ◌∷◌, ◌++◌, length, map, Option, Some, None, IsSomeAnd, Contains, slice_get, option_map, refl, sym, ◌∙◌, ap, ap₂, subst, arith, append_assoc, eq-eqb, eqb-true}
use Rattle.std.proofs.lemmas.List.{append-nil}
use Rattle.pm_logic.specs.declared.problem.Class.TheVariants.{Plain}
use Rattle.pm_logic.specs.declared.problem.Start.{Start}
use Rattle.pm_logic.specs.declared.tableau.BoundKind.TheVariants.{Depth}
use Rattle.pm_logic.specs.Problem.{Literal, Problem, start_clauses}
use Rattle.pm_logic.specs.Tableau.{Node, leaf, inner, Nodes, no_nodes, more_nodes, Tableau, size}
use Rattle.pm_logic.proofs.ListLemmas.{Contains-stands}
use Rattle.pm_calculus.specs.Connection.{literal_on, IsWithinBound, Level}
use Rattle.pm_calculus.specs.Skeleton.{Face, face_of, Skeleton, unclosed, closed, extended, Skeletons, no_skeletons, more_skeletons, State, empty, rooted, Step, start, leaves, literals_at, after_step}
use Rattle.pm_calculus.specs.Alternatives.{alternatives}
use Rattle.pm_calculus.specs.Choices.{Follows}
use Rattle.pm_calculus.specs.Agreement.{AgreeAmong, Agrees, AlternativeAgrees, AreLeast, IsLeastList}
use Rattle.pm_calculus.proofs.Alternatives.{among_map, map_among}
use Rattle.pm_calculus.proofs.Levels.{followed_complete}
use Rattle.pm_calculus.proofs.Least.{least_followed}
use Rattle.pm_lift.specs.Lift.{IsProof, IsLeastAtEach, IsCompleteAtEach}
use Rattle.pm_lift.specs.Inside.Tree.{is_closing, choices_below, choices_among, start_choice, least_choices}
use Rattle.pm_lift.proofs.ListLemmas.{passes_before, first_found}
use Rattle.pm_lift.proofs.TreeLemmas.{done_below, done_among, todo_among, IsParent, AreGood, IsGood, good_first, good_others, good_children, parent_pushed, agrees_closed, done_closed, all_done_closed, done_agrees, todo_agree, family_faces, leaves_todo}
use Rattle.pm_lift.proofs.HoleLemmas.{Hole, Holes, whole_tree, children_hole, first_hole, others_hole}
use Rattle.pm_lift.proofs.StepLemmas.{Leads, leaf_choice, inner_choice}

leads_same : (level : Level) (t : Tableau) (ss : Skeletons) → Leads level t ss ss []
leads_same level t ss rest h = h

leads_on : (level : Level) (t : Tableau) (ss rs qs : Skeletons) (ns ms : List ℕ) → Leads level t ss rs ns → Leads level t rs qs ms → Leads level t ss qs (ns ++ ms)
leads_on level t ss rs qs ns ms first then rest h =
    subst (AreLeast level t (Some (rooted t.root ss))) (sym (append_assoc ns ms rest)) (first (ms ++ rest) (then rest h))

-- a node that closes by its parent is done, and any other is the next to be done
by_test : (level : Level) (t : Tableau) (above : List Literal) (parent : Option Literal) (n : Node) (ns : Nodes) (plug : Skeletons → Skeletons) (b : Bool) → is_closing parent n ≡ b
    → (is_closing parent n ≡ true
    → Leads level t (plug (more_skeletons (closed (face_of (literal_on n)) (length above)) (todo_among (length above) None ns)))
    (plug (more_skeletons (closed (face_of (literal_on n)) (length above)) (done_among above None ns)))
    (choices_among level.problem.clauses above None ns))
    → Leads level t (plug (more_skeletons (unclosed (face_of (literal_on n))) (todo_among (length above) parent ns)))
    (plug (more_skeletons (done_below above n) (todo_among (length above) parent ns)))
    (choices_below level.problem.clauses above n)
    → Leads level t (plug (more_skeletons (done_below above n) (todo_among (length above) parent ns)))
    (plug (more_skeletons (done_below above n) (done_among above parent ns)))
    (choices_among level.problem.clauses above parent ns)
    → Leads level t (plug (todo_among (length above) parent (more_nodes n ns))) (plug (done_among above parent (more_nodes n ns)))
    (choices_among level.problem.clauses above parent (more_nodes n ns))
by_test level t above parent n ns plug b is closing first others =
    subst (λ (v : Bool). Leads level t
    (plug (cond v (more_skeletons (closed (face_of (literal_on n)) (length above)) (todo_among (length above) None ns)) (more_skeletons (unclosed (face_of (literal_on n))) (todo_among (length above) parent ns))))
    (plug (cond v (more_skeletons (closed (face_of (literal_on n)) (length above)) (done_among above None ns)) (more_skeletons (done_below above n) (done_among above parent ns))))
    (cond v (choices_among level.problem.clauses above None ns) (choices_below level.problem.clauses above n ++ choices_among level.problem.clauses above parent ns)))
    (sym is) (at b is)
  where
    at : (b : Bool) → is_closing parent n ≡ b → Leads level t
        (plug (cond b (more_skeletons (closed (face_of (literal_on n)) (length above)) (todo_among (length above) None ns)) (more_skeletons (unclosed (face_of (literal_on n))) (todo_among (length above) parent ns))))
        (plug (cond b (more_skeletons (closed (face_of (literal_on n)) (length above)) (done_among above None ns)) (more_skeletons (done_below above n) (done_among above parent ns))))
        (cond b (choices_among level.problem.clauses above None ns) (choices_below level.problem.clauses above n ++ choices_among level.problem.clauses above parent ns))
    at true yields = closing yields
    at false fails =
        leads_on level t
        (plug (more_skeletons (unclosed (face_of (literal_on n))) (todo_among (length above) parent ns)))
        (plug (more_skeletons (done_below above n) (todo_among (length above) parent ns)))
        (plug (more_skeletons (done_below above n) (done_among above parent ns)))
        (choices_below level.problem.clauses above n) (choices_among level.problem.clauses above parent ns) first others

-- from the nodes before any choice the choices lead to the nodes done
mutual
  least_below : (level : Level) (t : Tableau) → IsWithinBound level.kind level.bound t → (above : List Literal) (faces : List Face) (n : Node) (plug : Skeleton → Skeletons)
      → IsGood level.problem.clauses above n → Hole t above faces n plug
      → Leads level t (plug (unclosed (face_of (literal_on n)))) (plug (done_below above n)) (choices_below level.problem.clauses above n)
  least_below level t within above faces (leaf l) plug g h = leaf_choice level t above faces l plug h g.closed
  least_below level t within above faces (inner l c ns) plug g h =
      leads_on level t (plug (unclosed (face_of l)))
      (plug (extended (face_of l) c (todo_among (length (above ++ l ∷ [])) (Some l) ns)))
      (plug (done_below above (inner l c ns)))
      (_ ∷ []) (choices_among level.problem.clauses (above ++ l ∷ []) (Some l) ns)
      (inner_choice level t within above faces l c ns plug h g.families.0 g.connected.0)
      (least_among level t within (above ++ l ∷ []) (faces ++ face_of l ∷ []) (Some l) ns (λ ss. plug (extended (face_of l) c ss))
      (parent_pushed above l) (good_children level.problem.clauses above l c ns g) (children_hole t above faces l c ns plug h))

  least_among : (level : Level) (t : Tableau) → IsWithinBound level.kind level.bound t → (above : List Literal) (faces : List Face) (parent : Option Literal) (ns : Nodes) (plug : Skeletons → Skeletons)
      → IsParent above parent → AreGood level.problem.clauses above ns → Holes t above faces ns plug
      → Leads level t (plug (todo_among (length above) parent ns)) (plug (done_among above parent ns)) (choices_among level.problem.clauses above parent ns)
  least_among level t within above faces parent no_nodes plug own g h = leads_same level t (plug no_skeletons)
  least_among level t within above faces parent (more_nodes n ns) plug own g h =
      by_test level t above parent n ns plug (is_closing parent n) refl
      (λ is. least_among level t within above faces None ns (λ ss. plug (more_skeletons (closed (face_of (literal_on n)) (length above)) ss)) tt
      (good_others level.problem.clauses above n ns g)
      (others_hole t above faces n ns plug (closed (face_of (literal_on n)) (length above)) refl (agrees_closed above parent n own is) h))
      (least_below level t within above faces n (λ s. plug (more_skeletons s (todo_among (length above) parent ns)))
      (good_first level.problem.clauses above n ns g)
      (first_hole t above faces n ns plug (todo_among (length above) parent ns) (todo_agree above parent ns own) h))
      (least_among level t within above faces parent ns (λ ss. plug (more_skeletons (done_below above n) ss)) own
      (good_others level.problem.clauses above n ns g)
      (others_hole t above faces n ns plug (done_below above n) (done_closed above n)
      (done_agrees level.problem.clauses above n (good_first level.problem.clauses above n ns g)) h))

-- the root's place is the first at which the start agrees
record Starts (level : Level) (t : Tableau) : Type 0 where
  stands : slice_get (alternatives level empty) (start_choice level.problem.clauses level.start t.root) ≡ Some (start t.root)
  least : (other : ℕ) → other < start_choice level.problem.clauses level.start t.root → ¬ AlternativeAgrees level t empty other

starts : (level : Level) (t : Tableau) → Contains (start_clauses level.start level.problem.clauses) t.root → Starts level t
starts level t there =
    let all = start_clauses level.start level.problem.clauses in
    let place = Contains-stands all t.root there in
    let first = first_found (λ clause. clause == t.root) all place.0 t.root place.1 (eq-eqb t.root t.root refl) in
    record {
      stands = among_map start all first.0 (start_choice level.problem.clauses level.start t.root) first.1
          ∙ ap (λ c. Some (start c)) (eqb-true first.0 t.root first.2);
      least = λ other lt agrees. by other lt (slice_get (map start all) other) refl agrees;
    }
  where
    by : (other : ℕ) → other < start_choice level.problem.clauses level.start t.root → (o : Option Step)
        → slice_get (map start (start_clauses level.start level.problem.clauses)) other ≡ o
        → IsSomeAnd o (λ s. Agrees (after_step level.problem.clauses empty s) t) → ⊥
    by other lt None is agrees = absurd agrees
    by other lt (Some s) is agrees =
        let h = map_among start (start_clauses level.start level.problem.clauses) s other is in
        let same : Agrees (after_step level.problem.clauses empty (start h.0)) t = subst (λ (r : Step). Agrees (after_step level.problem.clauses empty r) t) (sym h.2) agrees in
        let fails : not (h.0 == t.root) ≡ true = passes_before (λ clause. not (clause == t.root)) (start_clauses level.start level.problem.clauses) other h.0 lt h.1 in
        let never : false ≡ true = sym (ap not (eq-eqb h.0 t.root same.0)) ∙ fails in cc

-- a tableau with room at a level has its least list there
pub least_list : (level : Level) (t : Tableau) → IsProof level.problem level.start t → IsWithinBound level.kind level.bound t
    → IsLeastList level t (least_choices level.problem.clauses level.start t)
least_list level t proof within =
    let clauses = level.problem.clauses in
    let first = starts level t proof.start in
    let before = leaves (literals_at clauses t.root) in
    let same : before ≡ todo_among 0 None t.children = leaves_todo 0 (literals_at clauses t.root) t.children (family_faces clauses t.root t.children proof.over.0) in
    let choices = choices_among clauses [] None t.children in
    let good : AreGood clauses [] t.children = record { closed = proof.closed; connected = proof.connected; families = proof.over.1 } in
    let begun : AgreeAmong [] before t.children = subst (λ (ss : Skeletons). AgreeAmong [] ss t.children) (sym same) (todo_agree [] None t.children tt) in
    let leads = least_among level t within [] [] None t.children (λ ss. ss) tt good (whole_tree t) in
    let ended : AreLeast level t (Some (rooted t.root (todo_among 0 None t.children))) (choices ++ []) = leads [] (all_done_closed [] None t.children) in
    let rest : AreLeast level t (Some (rooted t.root before)) choices =
    subst (λ (ss : Skeletons). AreLeast level t (Some (rooted t.root ss)) choices) (sym same)
    (subst (AreLeast level t (Some (rooted t.root (todo_among 0 None t.children)))) (append-nil choices) ended) in
    let stands = first.stands in (
      omega arith,
      (
        record {
          agrees = subst (λ (o : Option Step). IsSomeAnd o (λ s. Agrees (after_step clauses empty s) t)) (sym stands) (refl, begun);
          least = first.least;
        },
        subst (λ (o : Option State). AreLeast level t o choices) (sym (ap (option_map (after_step clauses empty)) stands)) rest,
      ),
    )

-- so there is one
pub has_least_list : (level : Level) (t : Tableau) → IsProof level.problem level.start t → IsWithinBound level.kind level.bound t
    → (choices : List ℕ) × IsLeastList level t choices
has_least_list level t proof within = (least_choices level.problem.clauses level.start t, least_list level t proof within)

-- so at each level with room
pub least_at_each : (problem : Problem) (rule : Start) (t : Tableau) → IsProof problem rule t → IsLeastAtEach problem rule t (least_choices problem.clauses rule t)
least_at_each problem rule t proof level room =
    let moved : IsProof level.problem level.start t = subst (λ (p : Problem). IsProof p level.start t) (sym room.problem_is) (subst (λ (r : Start). IsProof problem r t) (sym room.start_is) proof) in
    subst (IsLeastList level t) (ap₂ (λ (p : Problem) r. least_choices p.clauses r t) room.problem_is room.start_is) (least_list level t moved room.within)

-- a level that has just room for the tableau
abbrev tight_level : Problem → Start → Tableau → Level
tight_level problem rule t = record { problem = problem; class = Plain; start = rule; kind = Depth; bound = size Depth t }

pub follows : (problem : Problem) (rule : Start) (t : Tableau) (list : List ℕ) → IsLeastAtEach problem rule t list → Follows problem rule list t
follows problem rule t list least =
    least_followed (tight_level problem rule t) t list (least (tight_level problem rule t) (record { problem_is = refl; start_is = refl; within = omega arith }))

pub complete_at_each : (problem : Problem) (rule : Start) (t : Tableau) (list : List ℕ) → IsProof problem rule t → IsLeastAtEach problem rule t list
    → IsCompleteAtEach problem rule t list
complete_at_each problem rule t list proof least level room regular =
    let moved : IsProof level.problem level.start t = subst (λ (p : Problem). IsProof p level.start t) (sym room.problem_is) (subst (λ (r : Start). IsProof problem r t) (sym room.start_is) proof) in
    followed_complete level list t
    (record { start = moved.start; over = moved.over; closed = moved.closed; connected = moved.connected; regular = regular; within = room.within })
    (least_followed level t list (least level room))
