-- No list that leads to a tableau comes before the least list that the tableau follows.
use Rattle.std.proofs.Common.{◌≡◌, ℕ, ◌+◌, ◌⊎◌, inl, inr, Bool, true, false, cond, List, [], ◌∷◌, ◌++◌, Option, Some, None, IsSomeAnd, IfSome, slice_get, fold, option_map, refl, ap, ap₂, sym, subst, arith, append_assoc}
use Rattle.std.specs.List.{AllZip}
use Rattle.std.proofs.lemmas.Bool.{cases_order}
use Rattle.std.proofs.lemmas.List.{append-nil}
use Rattle.pm_logic.specs.Problem.{Literal, Clause}
use Rattle.pm_logic.specs.Tableau.{Node, leaf, inner, Nodes, no_nodes, more_nodes, Entry, Tableau, preorder_of, preorder_among}
use Rattle.pm_choice.specs.Order.{Precedes}
use Rattle.pm_calculus.specs.Connection.{literal_on, Level}
use Rattle.pm_calculus.specs.Skeleton.{Face, face_of, Skeleton, unclosed, closed, extended, Skeletons, no_skeletons, more_skeletons, State, empty, rooted, is_closed_below, are_closed_below, is_closed, Subgoal, filled_below, filled_among, Step, start, extend, reduce, extension, reduction, after_step, SkeletonNode, nodes_below, nodes_among}
use Rattle.pm_calculus.specs.Alternatives.{alternatives_for, alternatives, after_choice, state_after}
use Rattle.pm_calculus.specs.Choices.{FitsBelow, FitAmong, IsLabelling, IsShownBy, IsComplete, IsLabellingOf}
use Rattle.pm_calculus.specs.Agreement.{AgreesBelow, AgreeAmong, Agrees, AlternativeAgrees, AreLeast, IsLeastList}
use Rattle.pm_calculus.proofs.Growth.{IsBegun, begun_kept, begun_first, kept, and_true, none_selected}
use Rattle.pm_calculus.proofs.Faces.{labellings_show}

-- ---- at the end

abbrev Shown : List SkeletonNode → List Entry → Type 0
Shown nodes entries = AllZip IsShownBy nodes entries

-- closed trees that fit nodes and show what they show agree with them
mutual
  agrees_below : (above : List Literal) (d : ℕ) (s : Skeleton) (n : Node) (rest : List SkeletonNode) (more : List Entry) → is_closed_below s ≡ true → FitsBelow above s n
      → Shown (nodes_below d s ++ rest) (preorder_of d n ++ more) → AgreesBelow above s n × Shown rest more
  agrees_below above d (unclosed face) n rest more c f h = absurd cc
  agrees_below above d (closed face k) (leaf l) rest more c f h = ((h.0.face, f), h.1)
  agrees_below above d (closed face k) (inner l e ns) rest more c f h = absurd f
  agrees_below above d (extended face e trees) (leaf l) rest more c f h = absurd f
  agrees_below above d (extended face e trees) (inner l g ns) rest more c f h =
      let children = agree_among (above ++ l ∷ []) (d + 1) trees ns rest more c f.1 h.1 in
      ((h.0.face, f.0, children.0), children.1)

  agree_among : (above : List Literal) (d : ℕ) (ss : Skeletons) (ns : Nodes) (rest : List SkeletonNode) (more : List Entry) → are_closed_below ss ≡ true → FitAmong above ss ns
      → Shown (nodes_among d ss ++ rest) (preorder_among d ns ++ more) → AgreeAmong above ss ns × Shown rest more
  agree_among above d no_skeletons no_nodes rest more c f h = (tt, h)
  agree_among above d no_skeletons (more_nodes n ns) rest more c f h = absurd f
  agree_among above d (more_skeletons s ss) no_nodes rest more c f h = absurd f
  agree_among above d (more_skeletons s ss) (more_nodes n ns) rest more c f h =
      let both = and_true (is_closed_below s) (are_closed_below ss) c in
      let entries = subst (Shown ((nodes_below d s ++ nodes_among d ss) ++ rest)) (append_assoc (preorder_of d n) (preorder_among d ns) more) h in
      let moved = subst (λ (nodes : List SkeletonNode). Shown nodes (preorder_of d n ++ (preorder_among d ns ++ more))) (append_assoc (nodes_below d s) (nodes_among d ss) rest) entries in
      let first = agrees_below above d s n (nodes_among d ss ++ rest) (preorder_among d ns ++ more) both.0 f.0 moved in
      let others = agree_among above d ss ns rest more both.1 f.1 first.1 in
      ((first.0, others.0), others.1)

agrees_at_end : (level : Level) (choices : List ℕ) (state : State) (t : Tableau) → state_after level choices ≡ Some state → is_closed state ≡ true
    → IsLabelling level.problem.clauses state t → Agrees state t
agrees_at_end level choices empty t is c h = tt
agrees_at_end level choices (rooted root trees) t is c h =
    let shown : Shown (nodes_among 1 trees) (preorder_among 1 t.children) = labellings_show level choices (rooted root trees) t is h in
    let entries = subst (Shown (nodes_among 1 trees)) (sym (append-nil (preorder_among 1 t.children))) shown in
    let whole = subst (λ (nodes : List SkeletonNode). Shown nodes (preorder_among 1 t.children ++ [])) (sym (append-nil (nodes_among 1 trees))) entries in
    (h.fits.0, (agree_among [] 1 trees t.children [] [] c h.fits.1 whole).0)

-- ---- before a step

-- what takes a leaf's place agrees only where the leaf does
abbrev KeepsFace : (Subgoal → Skeleton) → Type 0
KeepsFace made = (goal : Subgoal) (above : List Literal) (n : Node) → AgreesBelow above (made goal) n → goal.face ≡ face_of (literal_on n)

-- either the first tree is closed and the others are filled, or it is filled itself
filled_first : (above : List Literal) (s filled : Skeleton) (ss others : Skeletons) (ns : Nodes) (b : Bool) → ((n : Node) → AgreesBelow above filled n → AgreesBelow above s n)
    → ((rest : Nodes) → AgreeAmong above others rest → AgreeAmong above ss rest)
    → AgreeAmong above (cond b (more_skeletons s others) (more_skeletons filled ss)) ns → AgreeAmong above (more_skeletons s ss) ns
filled_first above s filled ss others no_nodes true first later h = absurd h
filled_first above s filled ss others no_nodes false first later h = absurd h
filled_first above s filled ss others (more_nodes n ns) true first later h = (h.0, later ns h.1)
filled_first above s filled ss others (more_nodes n ns) false first later h = (first n h.0, h.1)

-- so what agrees once a leaf is filled agreed before
mutual
  before_below : (made : Subgoal → Skeleton) → KeepsFace made → (above : List Literal) (faces : List Face) (s : Skeleton) (n : Node)
      → AgreesBelow above (filled_below made faces s) n → AgreesBelow above s n
  before_below made keeps above faces (unclosed face) n h = keeps (record { above = faces; face = face }) above n h
  before_below made keeps above faces (closed face k) n h = h
  before_below made keeps above faces (extended face c trees) (leaf l) h = absurd h
  before_below made keeps above faces (extended face c trees) (inner l e ns) h = (h.0, h.1, before_among made keeps (above ++ l ∷ []) (faces ++ face ∷ []) trees ns h.2)

  before_among : (made : Subgoal → Skeleton) → KeepsFace made → (above : List Literal) (faces : List Face) (ss : Skeletons) (ns : Nodes)
      → AgreeAmong above (filled_among made faces ss) ns → AgreeAmong above ss ns
  before_among made keeps above faces no_skeletons ns h = h
  before_among made keeps above faces (more_skeletons s ss) ns h =
      filled_first above s (filled_below made faces s) ss (filled_among made faces ss) ns (is_closed_below s)
      (λ n. before_below made keeps above faces s n) (λ rest. before_among made keeps above faces ss rest) h

extension_keeps : (clauses : List Clause) (c j : ℕ) → KeepsFace (extension clauses c j)
extension_keeps clauses c j goal above (leaf l) h = absurd h
extension_keeps clauses c j goal above (inner l e ns) h = h.0

reduction_keeps : (k : ℕ) → KeepsFace (reduction k)
reduction_keeps k goal above (leaf l) h = h.0
reduction_keeps k goal above (inner l e ns) h = absurd h

step_before : (clauses : List Clause) (state : State) (step : Step) (t : Tableau) → Agrees (after_step clauses state step) t → Agrees state t
step_before clauses empty step t h = tt
step_before clauses (rooted root trees) (start c) t h = h
step_before clauses (rooted root trees) (extend c j) t h = (h.0, before_among (extension clauses c j) (extension_keeps clauses c j) [] [] trees t.children h.1)
step_before clauses (rooted root trees) (reduce k) t h = (h.0, before_among (reduction k) (reduction_keeps k) [] [] trees t.children h.1)

-- ---- along a list

module _ (level : Level) (t : Tableau) where
  -- the choices lead from a state to the whole tableau
  abbrev LeadsTo : Option State → List ℕ → Type 0
  LeadsTo state choices = IsSomeAnd (fold (after_choice level) state choices) (λ last. (is_closed last ≡ true) × Agrees last t)

  leads_on : (choices : List ℕ) → ¬ LeadsTo None choices
  leads_on [] h = h
  leads_on (n ∷ ns) h = leads_on ns h

  -- a choice on the way names a step, and what it builds agrees
  at_choice : (state : State) (chosen : Option Step) (ns : List ℕ) → ((next : State) → LeadsTo (Some next) ns → Agrees next t)
      → LeadsTo (option_map (after_step level.problem.clauses state) chosen) ns → IsSomeAnd chosen (λ step. Agrees (after_step level.problem.clauses state step) t)
  at_choice state None ns go h = absurd (leads_on ns h)
  at_choice state (Some step) ns go h = go (after_step level.problem.clauses state step) h

  before_choice : (state : State) (chosen : Option Step) → IsSomeAnd chosen (λ step. Agrees (after_step level.problem.clauses state step) t) → Agrees state t
  before_choice state None h = absurd h
  before_choice state (Some step) h = step_before level.problem.clauses state step t h

  agrees_before : (choices : List ℕ) (state : State) → LeadsTo (Some state) choices → Agrees state t
  agrees_before [] state h = h.1
  agrees_before (n ∷ ns) state h =
      let chosen = slice_get (alternatives level state) n in
      before_choice state chosen (at_choice state chosen ns (agrees_before ns) h)

  choice_agrees : (state : State) (n : ℕ) (ns : List ℕ) → LeadsTo (Some state) (n ∷ ns) → AlternativeAgrees level t state n
  choice_agrees state n ns h = at_choice state (slice_get (alternatives level state) n) ns (agrees_before ns) h

  -- where no leaf is unclosed there is no alternative
  none_left : (state : State) (n : ℕ) → IsBegun state → is_closed state ≡ true → ¬ AlternativeAgrees level t state n
  none_left empty n b c h = absurd b
  none_left (rooted root trees) n b c h =
      subst (λ (steps : List Step). IsSomeAnd (slice_get steps n) (λ step. Agrees (after_step level.problem.clauses (rooted root trees) step) t))
      (ap (alternatives_for level (rooted root trees)) (none_selected [] trees c)) h

  -- least choices come no later than others that lead to the tableau
  by_first : (state : State) (n m : ℕ) (ns ms : List ℕ) → (AreLeast level t (after_choice level (Some state) n) ms → (ms ≡ ns) ⊎ Precedes ms ns)
      → LeadsTo (Some state) (n ∷ ns) → AreLeast level t (Some state) (m ∷ ms) → (m ∷ ms ≡ n ∷ ns) ⊎ Precedes (m ∷ ms) (n ∷ ns)
  by_first state n m ns ms later h least = elim (cases_order m n) [
    | inl same ↦ elim (later (subst (λ (k : ℕ). AreLeast level t (after_choice level (Some state) k) ms) same least.1)) [
      | inl is ↦ inl (ap₂ (λ (k : ℕ) (ks : List ℕ). k ∷ ks) same is)
      | inr before ↦ inr (inr (same, before))
    ]
    | inr differ ↦ elim differ [
      | inl less ↦ inr (inl less)
      | inr more ↦ absurd (least.0.least n more (choice_agrees state n ns h))
    ]
  ]

  not_later : (state : Option State) (ns ms : List ℕ) → IfSome state IsBegun → LeadsTo state ns → AreLeast level t state ms → (ms ≡ ns) ⊎ Precedes ms ns
  not_later None ns ms b h least = absurd least
  not_later (Some state) [] [] b h least = inl refl
  not_later (Some state) [] (m ∷ ms) b h least = absurd (none_left state m b h.0 least.0.agrees)
  not_later (Some state) (n ∷ ns) [] b h least = inr tt
  not_later (Some state) (n ∷ ns) (m ∷ ms) b h least =
      by_first state n m ns ms (λ rest. not_later (after_choice level (Some state) n) ns ms (kept level IsBegun (begun_kept level) (Some state) (n ∷ []) b) h rest) h least

  -- a complete list of which the tableau is a labelling
  complete_leads : (path : List ℕ) → IsComplete level path → IsLabellingOf level path t → LeadsTo (Some empty) path
  complete_leads path complete labelled = by (state_after level path) refl complete.closed labelled
    where
      by : (o : Option State) → state_after level path ≡ o → IsSomeAnd o (λ state. is_closed state ≡ true) → IsSomeAnd o (λ state. IsLabelling level.problem.clauses state t)
          → IsSomeAnd o (λ last. (is_closed last ≡ true) × Agrees last t)
      by None is c h = absurd c
      by (Some state) is c h = (c, agrees_at_end level path state t is c h)

  pub least_not_later : (path choices : List ℕ) → IsComplete level path → IsLabellingOf level path t → IsLeastList level t choices → (choices ≡ path) ⊎ Precedes choices path
  least_not_later [] choices complete labelled least = absurd (omega (arith, complete.begun))
  least_not_later (n ∷ ns) [] complete labelled least = absurd (omega (arith, least.0))
  least_not_later (n ∷ ns) (m ∷ ms) complete labelled least =
      let leads = complete_leads (n ∷ ns) complete labelled in
      by_first empty n m ns ms (λ rest. not_later (after_choice level (Some empty) n) ns ms (begun_first level n) leads rest) leads least.1
