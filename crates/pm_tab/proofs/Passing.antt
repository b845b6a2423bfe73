-- Alternatives that are passed over.
use Rattle.std.proofs.Common.{◌≡◌, ℕ, zero, suc, ◌+◌, ◌-◌, ◌<◌, ◌≤◌, ◌^◌, inl, inr, Bool, cond, true, false, ◌==◌, ◌&&◌, ◌||◌, List, [], ◌∷◌, length, map, Option, Some, None, IsSomeAnd, option_map, slice_get, get_or, take, drop, refl, sym, ◌∙◌, ap, ap₂, subst, arith}
use Rattle.std.specs.Prelude.{All}
use Rattle.std.specs.Slice.Scan.{IsFirstPlace}
use Rattle.std.proofs.lemmas.Bool.{false≢true, cases_eq, cases_lt, eq-eqb, ne_eqb}
use Rattle.std.proofs.lemmas.List.{length-map}
use Rattle.std.proofs.lemmas.List.Elements.{All-nil, All-cons}
use Rattle.std.proofs.lemmas.Option.{slice_get-map, get_or_from_slice_get, slice_get_within}
use Rattle.pm_logic.specs.Term.{app, as_terms}
use Rattle.pm_logic.specs.Problem.{Clause, Problem, start_clauses}
use Rattle.pm_store.specs.Equations.{Equations, IsFree}
use Rattle.pm_store.specs.Trees.{tree}
use Rattle.pm_store.specs.Sound.{IsSound}
use Rattle.pm_store.proofs.TreeLemmas.{free_variables_stand}
use Rattle.pm_calculus.specs.Skeleton.{Face, Step, extend, reduce, Subgoal, depth_of, selected, built}
use Rattle.pm_calculus.specs.Alternatives.{Head, heads, has_room, alternatives}
use Rattle.pm_contra.specs.Index.{top, top_at}
use Rattle.pm_lanes.specs.Lanes.{agrees, is_compatible}
use Rattle.pm_machine.specs.declared.node.LeafView.{LeafView}
use Rattle.pm_machine.specs.declared.node.MachineNode.{MachineNode}
use Rattle.pm_machine.specs.Node.{node_of, IsViewOf, Views}
use Rattle.pm_machine.specs.State.{CellNode, MachineState, IsOpen, IsSelected, IsAncestorAt, IsPlaceOfLeaf, AreAncestors}
use Rattle.pm_machine.specs.Labels.{IsBuilt}
use Rattle.pm_machine.specs.Value.{MachineValue, skeleton}
use Rattle.pm_machine.proofs.Selected.{first_is_one, selected_leaves_agree, no_leaf_is_selected}
use Rattle.pm_machine.proofs.AtLeaf.{same_ancestor}
use Rattle.pm_machine.proofs.PlaceLemmas.{some_same}
use Rattle.pm_tab.specs.Hopeful.{AreOpposite, cell_top, MayMatch, IsHopeful, IsHopefulAt, IsFirstHopeful}
use Rattle.pm_tab.specs.Repeats.{literal_at}
use Rattle.pm_tab.specs.Searched.{Searched, level_of}
use Rattle.pm_tab.specs.Inside.Passing.{opposite_of, column_of, matches_at, IsOppositeAt, IsFirstOpposite, top_in}
use Rattle.pm_tab.proofs.Watching.{literal_is}
use Rattle.pm_tab.proofs.Adding.{node_there}
use Rattle.pm_tab.proofs.Counted.{views_some, width_for}
use Rattle.pm_tab.proofs.Finding.{alternatives_are, heads_same, reduction_found, extension_within, extension_found, start_within, start_found}

-- what a cell's term begins with
pub top_free : (s : Equations) (args : List ℕ) (q c v : ℕ) → IsSound s → slice_get args q ≡ Some c → tree s c ≡ tree s v → IsFree s v → 0 ≡ top_in s args q
top_free s args q c v sound there same free =
    sym (ap (λ o. top (option_map (tree s) o)) there ∙ ap (λ t. top (Some t)) (same ∙ free_variables_stand s v sound free))

pub top_app : (s : Equations) (args : List ℕ) (q c symbol : ℕ) (us : List ℕ) → slice_get args q ≡ Some c → tree s c ≡ app symbol (as_terms (map (tree s) us))
    → symbol + 1 ≡ top_in s args q
top_app s args q c symbol us there same = sym (ap (λ o. top (option_map (tree s) o)) there ∙ ap (λ t. top (Some t)) same)

pub top_none : (s : Equations) (args : List ℕ) (q : ℕ) → slice_get args q ≡ None → 0 ≡ top_in s args q
top_none s args q none = sym (ap (λ o. top (option_map (tree s) o)) none)

-- columns are as long as each other, and the first place in them that agrees is the first that matches
pub as_long : (clauses : List Clause) (face : Face) (p q : ℕ) (first other : List ℕ) → first ≡ column_of clauses face p → other ≡ column_of clauses face q
    → length other ≡ length first
as_long clauses face p q first other is_first is_other =
    ap length is_other ∙ length-map (heads face clauses) (top_at clauses q) ∙ sym (ap length is_first ∙ length-map (heads face clauses) (top_at clauses p))

pub first_matching : (clauses all : List Clause) (same : clauses ≡ all) (face : Face) (goal : List ℕ) (from result : ℕ) (c0 c1 c2 c3 : List ℕ)
    → c0 ≡ column_of clauses face 0 → c1 ≡ column_of clauses face 1 → c2 ≡ column_of clauses face 2 → c3 ≡ column_of clauses face 3
    → IsFirstPlace (is_compatible goal c0 c1 c2 c3) from (length c0) result → IsFirstPlace (matches_at all face goal) from (length (heads face all)) result
first_matching clauses all same face goal from result c0 c1 c2 c3 is0 is1 is2 is3 found =
    subst (λ cs. IsFirstPlace (matches_at cs face goal) from (length (heads face cs)) result) same
    (subst (λ n. IsFirstPlace (matches_at clauses face goal) from n result) (ap length is0 ∙ length-map (heads face clauses) (top_at clauses 0))
    (subst (λ x. IsFirstPlace (is_compatible goal (column_of clauses face 0) (column_of clauses face 1) (column_of clauses face 2) x) from (length c0) result) is3
    (subst (λ x. IsFirstPlace (is_compatible goal (column_of clauses face 0) (column_of clauses face 1) x c3) from (length c0) result) is2
    (subst (λ x. IsFirstPlace (is_compatible goal (column_of clauses face 0) x c2 c3) from (length c0) result) is1
    (subst (λ x. IsFirstPlace (is_compatible goal x c1 c2 c3) from (length c0) result) is0 found)))))

-- what agrees may match
abbrev some_of : Bool → Bool → Bool → Bool
some_of a b c = a || b || c

first_of : (b c : Bool) → some_of true b c ≡ true
first_of true true = refl
first_of true false = refl
first_of false true = refl
first_of false false = refl

second_of : (a c : Bool) → some_of a true c ≡ true
second_of true true = refl
second_of true false = refl
second_of false true = refl
second_of false false = refl

third_of : (a b : Bool) → some_of a b true ≡ true
third_of true true = refl
third_of true false = refl
third_of false true = refl
third_of false false = refl

agrees_match : (wanted entry : ℕ) → agrees wanted entry ≡ true → MayMatch wanted entry
agrees_match wanted entry h =
    elim (cases_eq entry wanted) [
      | inl same ↦ inr (inr (sym same))
      | inr other ↦ elim (cases_eq entry 0) [
        | inl none ↦ inr (inl none)
        | inr some ↦ elim (cases_eq wanted 0) [
          | inl free ↦ inl free
          | inr bound ↦ absurd (false≢true
              (sym (ap₂ (λ a b. some_of a b (wanted == 0)) (ne_eqb entry wanted other) (ne_eqb entry 0 some)
              ∙ ap (some_of false false) (ne_eqb wanted 0 bound)) ∙ h))
        ]
      ]
    ]

match_agrees : (wanted entry : ℕ) → MayMatch wanted entry → agrees wanted entry ≡ true
match_agrees wanted entry h =
    elim h [
      | inl free ↦ ap (some_of (entry == wanted) (entry == 0)) (eq-eqb wanted 0 free) ∙ third_of (entry == wanted) (entry == 0)
      | inr (inl none) ↦ ap (λ b. some_of (entry == wanted) b (wanted == 0)) (eq-eqb entry 0 none) ∙ second_of (entry == wanted) (wanted == 0)
      | inr (inr same) ↦ ap (λ a. some_of a (entry == 0) (wanted == 0)) (eq-eqb entry wanted (sym same)) ∙ first_of (entry == 0) (wanted == 0)
    ]

-- four tests that all hold
abbrev all_of : Bool → Bool → Bool → Bool → Bool
all_of a b c d = a && b && c && d

parts_of : (a b c d : Bool) → all_of a b c d ≡ true → (a ≡ true) × (b ≡ true) × (c ≡ true) × (d ≡ true)
parts_of true true true true h = (refl, refl, refl, refl)
parts_of true true true false h = absurd (false≢true h)
parts_of true true false d h = absurd (false≢true (sym (none_of d) ∙ h))
  where
    none_of : (d : Bool) → all_of true true false d ≡ false
    none_of true = refl
    none_of false = refl
parts_of true false c d h = absurd (false≢true (sym (none_of c d) ∙ h))
  where
    none_of : (c d : Bool) → all_of true false c d ≡ false
    none_of true true = refl
    none_of true false = refl
    none_of false true = refl
    none_of false false = refl
parts_of false b c d h = absurd (false≢true (sym (none_of b c d) ∙ h))
  where
    none_of : (b c d : Bool) → all_of false b c d ≡ false
    none_of true true true = refl
    none_of true true false = refl
    none_of true false true = refl
    none_of true false false = refl
    none_of false true true = refl
    none_of false true false = refl
    none_of false false true = refl
    none_of false false false = refl

together : (a b c d : Bool) → a ≡ true → b ≡ true → c ≡ true → d ≡ true → all_of a b c d ≡ true
together a b c d ha hb hc hd = ap₂ (λ x y. all_of x y c d) ha hb ∙ ap₂ (all_of true true) hc hd

-- the machine's selected leaf in its place
module _ (problem : Problem) (m : MachineState) (is : IsBuilt problem m) (goal : Subgoal) (own : selected (built problem.clauses m.steps) ≡ Some goal)
    (place : ℕ) (at : IsPlaceOfLeaf m.nodes place) where
  pub leaf_there : (leaf : CellNode) × (slice_get m.nodes place ≡ Some leaf)
  leaf_there = by (slice_get m.nodes place) refl
    where
      clash : None ≡ Some goal → ⊥
      clash same = absurd cc

      by : (o : Option CellNode) → slice_get m.nodes place ≡ o → (leaf : CellNode) × (o ≡ Some leaf)
      by None none = absurd (clash (sym (no_leaf_is_selected problem m is (at.none none)) ∙ own))
      by (Some leaf) stands = (leaf, refl)

  pub place_within : place < length m.nodes
  place_within = slice_get_within m.nodes place leaf_there.0 leaf_there.1

  pub selected_there : (leaf : CellNode) → slice_get m.nodes place ≡ Some leaf → IsSelected m.nodes (take place m.nodes) leaf (drop (suc place) m.nodes)
  selected_there leaf stands = at.leaf leaf stands

  -- each selected leaf is this one
  pub one_leaf : (leaf : CellNode) → slice_get m.nodes place ≡ Some leaf → (before : List CellNode) (other : CellNode) (after : List CellNode)
      → IsSelected m.nodes before other after → (before ≡ take place m.nodes) × (other ≡ leaf)
  one_leaf leaf stands before other after chosen =
      let mine = at.leaf leaf stands in
      let parts = first_is_one IsOpen before (take place m.nodes) other leaf after (drop (suc place) m.nodes) (sym chosen.stands ∙ mine.stands)
      chosen.first mine.first chosen.unclosed mine.unclosed in
      (parts.0, parts.1)

  module _ (leaf : CellNode) (stands : slice_get m.nodes place ≡ Some leaf) (places : List ℕ) (ancestors : AreAncestors m.nodes places) where
    abbrev mine : IsSelected m.nodes (take place m.nodes) leaf (drop (suc place) m.nodes)
    mine = at.leaf leaf stands

    pub as_many : length places ≡ depth_of goal - 1
    as_many =
        let agree = selected_leaves_agree problem m (take place m.nodes) leaf (drop (suc place) m.nodes) is mine in
        let same : agree.0 ≡ goal = some_same agree.0 goal (sym agree.1 ∙ own) in
        let depth : leaf.depth ≡ depth_of goal = agree.2.depth ∙ ap depth_of same in
        let count = ancestors.count (take place m.nodes) leaf (drop (suc place) m.nodes) mine in
        omega (arith, depth, count)

    pub places_within : All (λ p. p < length m.nodes) places
    places_within = each places (λ i p stands_p. let h = ancestors.each (take place m.nodes) leaf (drop (suc place) m.nodes) i p mine stands_p in
        slice_get_within m.nodes p h.1 h.2)
      where
        each : (ps : List ℕ) → ((i p : ℕ) → slice_get ps i ≡ Some p → p < length m.nodes) → All (λ p. p < length m.nodes) ps
        each [] all = All-nil (λ p. p < length m.nodes)
        each (p ∷ ps) all = All-cons (λ q. q < length m.nodes) p ps (all 0 p refl) (each ps (λ i q is_q. all (suc i) q is_q))

    opposite_hopeful : (k p : ℕ) → slice_get places k ≡ Some p → IsOppositeAt m.nodes places leaf k → IsHopeful problem.clauses m (reduce (k + 1))
    opposite_hopeful k p stands_p opposite before other after ancestor chosen above =
        let h = ancestors.each (take place m.nodes) leaf (drop (suc place) m.nodes) k p mine stands_p in
        let one = one_leaf leaf stands before other after chosen in
        let same : h.1 ≡ ancestor = same_ancestor (take place m.nodes) (k + 1) h.1 ancestor h.3 (subst (λ ns. IsAncestorAt ns (k + 1) ancestor) one.0 above) in
        let there_p : literal_at m.nodes (get_or places k 0) ≡ h.1.literal =
        ap (literal_at m.nodes) (get_or_from_slice_get places k p 0 stands_p) ∙ literal_is m.nodes p h.1 h.2 in
        subst (λ (n : CellNode). AreOpposite ancestor.literal n.literal) (sym one.1)
        (subst (λ (n : CellNode). AreOpposite n.literal leaf.literal) same
        (subst (λ l. AreOpposite l leaf.literal) there_p opposite))

    hopeful_opposite : (k p : ℕ) → slice_get places k ≡ Some p → IsHopeful problem.clauses m (reduce (k + 1)) → IsOppositeAt m.nodes places leaf k
    hopeful_opposite k p stands_p hopeful =
        let h = ancestors.each (take place m.nodes) leaf (drop (suc place) m.nodes) k p mine stands_p in
        let there_p : literal_at m.nodes (get_or places k 0) ≡ h.1.literal =
        ap (literal_at m.nodes) (get_or_from_slice_get places k p 0 stands_p) ∙ literal_is m.nodes p h.1 h.2 in
        subst (λ l. AreOpposite l leaf.literal) (sym there_p)
        (hopeful (take place m.nodes) leaf (drop (suc place) m.nodes) h.1 mine h.3)

    abbrev goal_tops : List ℕ
    goal_tops = map (top_in m.equations leaf.literal.args) (0 ∷ 1 ∷ 2 ∷ 3 ∷ [])

    column_at : (face : Face) (q i : ℕ) (head : Head) → slice_get (heads face problem.clauses) i ≡ Some head
        → get_or (column_of problem.clauses face q) i 0 ≡ top_at problem.clauses q head
    column_at face q i head stands_i =
        get_or_from_slice_get (column_of problem.clauses face q) i (top_at problem.clauses q head) 0
        (slice_get-map (top_at problem.clauses q) (heads face problem.clauses) i ∙ ap (option_map (top_at problem.clauses q)) stands_i)

    four : (P : ℕ → Type 0) → P 0 → P 1 → P 2 → P 3 → (q : ℕ) → q < 4 → P q
    four P a b c d zero lt = a
    four P a b c d (suc zero) lt = b
    four P a b c d (suc (suc zero)) lt = c
    four P a b c d (suc (suc (suc zero))) lt = d
    four P a b c d (suc (suc (suc (suc q)))) lt = absurd (omega (arith, lt))

    abbrev AgreesAt : Face → ℕ → ℕ → Type 0
    AgreesAt face i q = agrees (top_in m.equations leaf.literal.args q) (get_or (column_of problem.clauses face q) i 0) ≡ true

    matched : (face : Face) (i : ℕ) (head : Head) → slice_get (heads face problem.clauses) i ≡ Some head → matches_at problem.clauses face goal_tops i ≡ true
        → IsHopeful problem.clauses m (extend head.clause head.literal)
    matched face i head stands_i test before other after q chosen lt =
        let one = one_leaf leaf stands before other after chosen in
        let parts = parts_of _ _ _ _ test in
        let agree = four (AgreesAt face i) parts.0 parts.1 parts.2 parts.3 q lt in
        subst (λ (n : CellNode). MayMatch (cell_top m.equations n.literal q) (top_at problem.clauses q head)) (sym one.1)
        (agrees_match (top_in m.equations leaf.literal.args q) (top_at problem.clauses q head)
        (subst (λ e. agrees (top_in m.equations leaf.literal.args q) e ≡ true) (column_at face q i head stands_i) agree))

    matching : (face : Face) (i : ℕ) (head : Head) → slice_get (heads face problem.clauses) i ≡ Some head → IsHopeful problem.clauses m (extend head.clause head.literal)
        → matches_at problem.clauses face goal_tops i ≡ true
    matching face i head stands_i hopeful =
        let one : (q : ℕ) → q < 4 → AgreesAt face i q =
        λ q lt. subst (λ e. agrees (top_in m.equations leaf.literal.args q) e ≡ true) (sym (column_at face q i head stands_i))
        (match_agrees (top_in m.equations leaf.literal.args q) (top_at problem.clauses q head) (hopeful (take place m.nodes) leaf (drop (suc place) m.nodes) q mine lt)) in
        together _ _ _ _ (one 0 (omega arith)) (one 1 (omega arith)) (one 2 (omega arith)) (one 3 (omega arith))

module _ {A : Type 0} where
  item_at : (xs : List A) (i : ℕ) → i < length xs → (x : A) × (slice_get xs i ≡ Some x)
  item_at [] i less = absurd (omega (arith, less))
  item_at (x ∷ xs) zero less = (x, refl)
  item_at (x ∷ xs) (suc i) less = item_at xs i (omega (arith, less))

-- what the code passes over, and where it stops
module _ (searched : Searched) (state : MachineState) (is : IsBuilt searched.problem state) (view : LeafView)
    (shown : Views (selected (built searched.problem.clauses state.steps)) (Some view)) (place : ℕ) (at : IsPlaceOfLeaf state.nodes place)
    (leaf : CellNode) (stands : slice_get state.nodes place ≡ Some leaf) (places : List ℕ) (ancestors : AreAncestors state.nodes places) where
  abbrev value : MachineValue
  value = record { problem = searched.problem; state = state; before = [] }

  abbrev clauses : List Clause
  clauses = searched.problem.clauses

  abbrev goal : Subgoal
  goal = (views_some (selected (skeleton value)) view shown).0

  abbrev own : selected (skeleton value) ≡ Some goal
  own = (views_some (selected (skeleton value)) view shown).1

  abbrev face : Face
  face = opposite_of view

  abbrev all_heads : List Head
  all_heads = heads face clauses

  abbrev items : ℕ → List Step
  items n = alternatives (level_of searched n) (skeleton value)

  abbrev tops : List ℕ
  tops = goal_tops searched.problem state is goal own place at leaf stands places ancestors

  pub count : length places ≡ view.depth - 1
  count =
      let d = (views_some (selected (skeleton value)) view shown).2.depth in
      omega (arith, d, as_many searched.problem state is goal own place at leaf stands places ancestors)

  wide_by : (n : ℕ) (b : Bool) → has_room (level_of searched n) (skeleton value) goal ≡ b → length (items n) ≡ view.depth - 1 + cond b (length all_heads) 0
  wide_by n b room =
      let d = (views_some (selected (skeleton value)) view shown).2.depth in
      ap length (alternatives_are searched value view shown n) ∙ width_for (level_of searched n) (skeleton value) goal
      ∙ ap₂ (λ e hs. e - 1 + cond (has_room (level_of searched n) (skeleton value) goal) (length hs) 0) (sym d) (heads_same searched value view shown all_heads refl)
      ∙ ap (λ c. view.depth - 1 + cond c (length all_heads) 0) room

  pub at_least : (n : ℕ) → view.depth - 1 ≤ length (items n)
  at_least n = omega (arith, wide_by n (has_room (level_of searched n) (skeleton value) goal) refl)

  pub more_than : (n : ℕ) → (length (items n) ≡ view.depth - 1 → ⊥) → length (items n) ≡ view.depth - 1 + length all_heads
  more_than n more = by (has_room (level_of searched n) (skeleton value) goal) refl
    where
      by : (b : Bool) → has_room (level_of searched n) (skeleton value) goal ≡ b → length (items n) ≡ view.depth - 1 + length all_heads
      by true room = wide_by n true room
      by false room = absurd (more (omega (arith, wide_by n false room)))

  abbrev HopefulAt : ℕ → ℕ → Type 0
  HopefulAt n k = IsHopefulAt (level_of searched n) state k

  -- a reduction
  reduction_there : (n k : ℕ) → k < view.depth - 1 → HopefulAt n k ≡ IsHopeful clauses state (reduce (k + 1))
  reduction_there n k less = ap (λ o. IsSomeAnd o (IsHopeful clauses state)) (reduction_found searched value view shown n k less)

  at_reduction : (n k : ℕ) → k < view.depth - 1 → IsOppositeAt state.nodes places leaf k → HopefulAt n k
  at_reduction n k less opposite =
      let p = item_at places k (omega (arith, less, count)) in
      subst (λ (P : Type 0). P) (sym (reduction_there n k less))
      (opposite_hopeful searched.problem state is goal own place at leaf stands places ancestors k p.0 p.1 opposite)

  not_at_reduction : (n k : ℕ) → k < view.depth - 1 → ¬ IsOppositeAt state.nodes places leaf k → ¬ HopefulAt n k
  not_at_reduction n k less none hopeful =
      let p = item_at places k (omega (arith, less, count)) in
      none (hopeful_opposite searched.problem state is goal own place at leaf stands places ancestors k p.0 p.1
      (subst (λ (P : Type 0). P) (reduction_there n k less) hopeful))

  -- an extension
  extension_there : (n k : ℕ) → view.depth - 1 ≤ k → k < length (items n)
      → (head : Head) × (slice_get all_heads (k - (view.depth - 1)) ≡ Some head) × (HopefulAt n k ≡ IsHopeful clauses state (extend head.clause head.literal))
  extension_there n k low less =
      let h = item_at all_heads (k - (view.depth - 1)) (extension_within searched value view shown all_heads refl n k low less) in
      (h.0, h.1, ap (λ o. IsSomeAnd o (IsHopeful clauses state)) (extension_found searched value view shown all_heads refl n k h.0 low h.1 less))

  at_extension : (n k : ℕ) → view.depth - 1 ≤ k → k < length (items n) → matches_at clauses face tops (k - (view.depth - 1)) ≡ true → HopefulAt n k
  at_extension n k low less test =
      let h = extension_there n k low less in
      subst (λ (P : Type 0). P) (sym h.2)
      (matched searched.problem state is goal own place at leaf stands places ancestors face (k - (view.depth - 1)) h.0 h.1 test)

  not_at_extension : (n k : ℕ) → view.depth - 1 ≤ k → k < length (items n) → matches_at clauses face tops (k - (view.depth - 1)) ≡ false → ¬ HopefulAt n k
  not_at_extension n k low less test hopeful =
      let h = extension_there n k low less in
      false≢true (sym test ∙ matching searched.problem state is goal own place at leaf stands places ancestors face (k - (view.depth - 1)) h.0 h.1
      (subst (λ (P : Type 0). P) h.2 hopeful))

  module _ (from first : ℕ) (opposite : IsFirstOpposite state.nodes places leaf from first) where
    none_before : (n k : ℕ) → from ≤ k → k < first → k < view.depth - 1 → ¬ HopefulAt n k
    none_before n k low less within = not_at_reduction n k within (opposite.passed k low less (omega (arith, within, count)))

    pub stops_at_reduction : (n : ℕ) → first < view.depth - 1 → IsFirstHopeful (level_of searched n) state from first
    stops_at_reduction n less = record {
      beyond = opposite.beyond;
      within = omega (arith, less, at_least n);
      passed = λ k low before. none_before n k low before (omega (arith, before, less));
      here = λ _. at_reduction n first less (opposite.here (omega (arith, less, count)));
    }

    pub stops_at_none : (n : ℕ) → from ≤ length (items n) → length (items n) ≡ view.depth - 1 → view.depth - 1 ≤ first
        → IsFirstHopeful (level_of searched n) state from first
    stops_at_none n low wide beyond =
        let end : first ≤ length (items n) = elim opposite.within [ inl le ↦ omega (arith, le, count, wide) | inr same ↦ omega (arith, same, low) ] in
        record {
          beyond = opposite.beyond;
          within = end;
          passed = λ k above before. none_before n k above before (omega (arith, before, end, wide));
          here = λ less. absurd (omega (arith, less, wide, beyond));
        }

    pub start_within_heads : (n : ℕ) → from ≤ length (items n) → length (items n) ≡ view.depth - 1 + length all_heads → view.depth - 1 ≤ first
        → first - (view.depth - 1) ≤ length all_heads
    start_within_heads n low wide beyond =
        elim opposite.within [ inl le ↦ omega (arith, le, count) | inr same ↦ omega (arith, same, low, wide) ]

    pub stops_at_extension : (n next : ℕ) → length (items n) ≡ view.depth - 1 + length all_heads → view.depth - 1 ≤ first
        → IsFirstPlace (matches_at clauses face tops) (first - (view.depth - 1)) (length all_heads) next
        → IsFirstHopeful (level_of searched n) state from (view.depth - 1 + next)
    stops_at_extension n next wide beyond found =
        let end : first ≤ view.depth - 1 + next = let low = found.low in omega (arith, low, beyond) in
        let high : next ≤ length all_heads = found.high in
        record {
          beyond = let up = opposite.beyond in omega (arith, end, up);
          within = omega (arith, wide, high);
          passed = λ k above before. elim (cases_lt k (view.depth - 1)) [
            | inl less ↦ none_before n k above (omega (arith, less, beyond)) less
            | inr more ↦ not_at_extension n k more (omega (arith, before, wide, high))
                (found.before (k - (view.depth - 1)) (from_above k above more) (omega (arith, before, more)))
          ];
          here = λ less.
              let back : view.depth - 1 + next - (view.depth - 1) ≡ next = omega arith in
              at_extension n (view.depth - 1 + next) (omega arith) less
              (ap (matches_at clauses face tops) back ∙ found.hit (omega (arith, less, wide)));
        }
      where
        from_above : (k : ℕ) → from ≤ k → view.depth - 1 ≤ k → first - (view.depth - 1) ≤ k - (view.depth - 1)
        from_above k above more =
            elim opposite.within [ inl le ↦ omega (arith, le, count) | inr same ↦ omega (arith, same, above, more) ]

-- with no leaf selected each alternative is a start
pub stops_at_start : (searched : Searched) (state : MachineState) (n from : ℕ) → selected (built searched.problem.clauses state.steps) ≡ None
    → from ≤ length (alternatives (level_of searched n) (built searched.problem.clauses state.steps)) → IsFirstHopeful (level_of searched n) state from from
stops_at_start searched state n from none low = record {
  beyond = omega arith;
  within = low;
  passed = λ k above before. absurd (omega (arith, above, before));
  here = λ less.
      let within = start_within searched (built searched.problem.clauses state.steps) none n from less in
      let clause = item_at (start_clauses searched.start searched.problem.clauses) from within in
      subst (λ (o : Option Step). IsSomeAnd o (IsHopeful searched.problem.clauses state))
      (sym (start_found searched (built searched.problem.clauses state.steps) none n from clause.0 less clause.1)) tt;
}

-- the goals of the code, from what it has at hand
module _ (searched : Searched) (value : MachineValue) (same : value.problem ≡ searched.problem) (is : IsBuilt value.problem value.state) (view : LeafView)
    (shown : Views (selected (skeleton value)) (Some view)) (all : List MachineNode) (are : map node_of all ≡ value.state.nodes) (place : ℕ)
    (at : IsPlaceOfLeaf value.state.nodes place) where
  abbrev own_built : IsBuilt searched.problem value.state
  own_built = subst (λ p. IsBuilt p value.state) same is

  abbrev own_shown : Views (selected (built searched.problem.clauses value.state.steps)) (Some view)
  own_shown = subst (λ (p : Problem). Views (selected (built p.clauses value.state.steps)) (Some view)) same shown

  abbrev own_goal : (goal : Subgoal) × (selected (built searched.problem.clauses value.state.steps) ≡ Some goal) × IsViewOf goal view
  own_goal = views_some (selected (built searched.problem.clauses value.state.steps)) view own_shown

  pub place_below : place < length all
  place_below =
      subst (λ n. place < n) (ap length (sym are) ∙ length-map all node_of)
      (place_within searched.problem value.state own_built own_goal.0 own_goal.1 place at)

  module _ (node : MachineNode) (is_node : node ≡ get_or all place node) (places : List ℕ) (ancestors : AreAncestors value.state.nodes places) where
    stands_there : slice_get value.state.nodes place ≡ Some (node_of node)
    stands_there = ap (λ ns. slice_get ns place) (sym are) ∙ node_there all place node place_below is_node

    pub places_below : All (λ p. p < length all) places
    places_below =
        subst (λ n. All (λ p. p < n) places) (ap length (sym are) ∙ length-map all node_of)
        (places_within searched.problem value.state own_built own_goal.0 own_goal.1 place at (node_of node) stands_there places ancestors)

    pub few_places : (n width : ℕ) → width ≡ length (alternatives (level_of searched n) (skeleton value)) → width < 2 ^ 32 → length places < 2 ^ 32
    few_places n width wide low =
        let here : length (alternatives (level_of searched n) (skeleton value)) ≡ length (alternatives (level_of searched n) (built searched.problem.clauses value.state.steps)) =
        ap (λ (p : Problem). length (alternatives (level_of searched n) (built p.clauses value.state.steps))) same in
        omega (
          arith,
          low,
          wide,
          here,
          count searched value.state own_built view own_shown place at (node_of node) stands_there places ancestors,
          at_least searched value.state own_built view own_shown place at (node_of node) stands_there places ancestors n,
        )

    module _ (from first : ℕ) (opposite : IsFirstOpposite (map node_of all) places (node_of node) from first) where
      own_opposite : IsFirstOpposite value.state.nodes places (node_of node) from first
      own_opposite = subst (λ ns. IsFirstOpposite ns places (node_of node) from first) are opposite

      abbrev width_of : ℕ → ℕ
      width_of n = length (alternatives (level_of searched n) (skeleton value))

      same_width : (n : ℕ) → width_of n ≡ length (alternatives (level_of searched n) (built searched.problem.clauses value.state.steps))
      same_width n = ap (λ (p : Problem). length (alternatives (level_of searched n) (built p.clauses value.state.steps))) same

      pub first_at_reduction : (n : ℕ) → first < view.depth - 1 → IsFirstHopeful (level_of searched n) value.state from first
      first_at_reduction n less =
          stops_at_reduction searched value.state own_built view own_shown place at (node_of node) stands_there places ancestors from first own_opposite n less

      pub first_at_none : (n width : ℕ) → width ≡ width_of n → from ≤ width → width ≡ view.depth - 1 → view.depth - 1 ≤ first
          → IsFirstHopeful (level_of searched n) value.state from first
      first_at_none n width wide low none beyond =
          stops_at_none searched value.state own_built view own_shown place at (node_of node) stands_there places ancestors from first own_opposite n
          (subst (λ w. from ≤ w) (wide ∙ same_width n) low) (sym (wide ∙ same_width n) ∙ none) beyond

      all_wide : (n width : ℕ) → width ≡ width_of n → (width ≡ view.depth - 1 → ⊥)
          → length (alternatives (level_of searched n) (built searched.problem.clauses value.state.steps)) ≡ view.depth - 1 + length (heads (opposite_of view) searched.problem.clauses)
      all_wide n width wide more =
          more_than searched value.state own_built view own_shown place at (node_of node) stands_there places ancestors n (λ none. more (wide ∙ same_width n ∙ none))

      pub first_within_heads : (n width : ℕ) → width ≡ width_of n → from ≤ width → (width ≡ view.depth - 1 → ⊥) → view.depth - 1 ≤ first
          → first - (view.depth - 1) ≤ length (heads (opposite_of view) searched.problem.clauses)
      first_within_heads n width wide low more beyond =
          start_within_heads searched value.state own_built view own_shown place at (node_of node) stands_there places ancestors from first own_opposite n
          (subst (λ w. from ≤ w) (wide ∙ same_width n) low) (all_wide n width wide more) beyond

      pub next_below : (n width next : ℕ) → width ≡ width_of n → (width ≡ view.depth - 1 → ⊥) → next ≤ length (heads (opposite_of view) searched.problem.clauses)
          → view.depth - 1 + next ≤ width
      next_below n width next wide more high = omega (arith, wide, same_width n, all_wide n width wide more, high)

      pub first_at_extension : (n width next : ℕ) → width ≡ width_of n → (width ≡ view.depth - 1 → ⊥) → view.depth - 1 ≤ first
          → IsFirstPlace (matches_at searched.problem.clauses (opposite_of view) (map (top_in value.state.equations (node_of node).literal.args) (0 ∷ 1 ∷ 2 ∷ 3 ∷ [])))
          (first - (view.depth - 1)) (length (heads (opposite_of view) searched.problem.clauses)) next
          → IsFirstHopeful (level_of searched n) value.state from (view.depth - 1 + next)
      first_at_extension n width next wide more beyond found =
          stops_at_extension searched value.state own_built view own_shown place at (node_of node) stands_there places ancestors from first own_opposite n next
          (all_wide n width wide more) beyond found
