-- The branch to the selected leaf, and the nodes after its end.
use Rattle.std.proofs.Common.{◌≡◌, ◌≢◌, ℕ, zero, suc, ◌+◌, ◌-◌, ◌<◌, ◌≤◌, inl, inr, true, false, List, [], ◌∷◌, ◌++◌, length, map, Option, Some, None, IsSomeAnd, slice_get, take, drop, refl, sym, ◌∙◌, ap, ap₂, subst, arith}
use Rattle.std.specs.Prelude.{All}
use Rattle.std.specs.Option.{is_some}
use Rattle.std.proofs.lemmas.Bool.{false≢true}
use Rattle.std.proofs.lemmas.List.{length-map, take-map, drop-map}
use Rattle.std.proofs.lemmas.List.Elements.{All-nil, All-cons, All-head, All-tail, All-weaker}
use Rattle.std.proofs.lemmas.Option.{slice_get_within}
use Rattle.pm_logic.specs.declared.symbols.Kind.{Kind}
use Rattle.pm_logic.specs.Problem.{Symbol, Problem, HasShape}
use Rattle.pm_calculus.specs.Skeleton.{Subgoal, selected, built}
use Rattle.pm_run.specs.State.{CellLiteral}
use Rattle.pm_run.specs.InStore.{HasArgsBelow}
use Rattle.pm_store.specs.Equations.{Equations}
use Rattle.pm_machine.specs.declared.node.LeafView.{LeafView}
use Rattle.pm_machine.specs.declared.node.MachineNode.{MachineNode}
use Rattle.pm_machine.specs.Node.{node_of, Views}
use Rattle.pm_machine.specs.State.{CellNode, MachineState, IsPlaceOfLeaf, AreAncestors}
use Rattle.pm_machine.specs.Labels.{IsBuilt, HasItsCount}
use Rattle.pm_machine.proofs.Selected.{selected_leaves_agree, no_leaf_is_selected}
use Rattle.pm_tab.specs.Repeats.{family_pairs, literals_in, literals_after, NotesBranch, last_of, new_pairs}
use Rattle.pm_tab.specs.Inside.Adding.{literal_on, IsChildOf, AreChildrenOf, HasFamilyAfter}
use Rattle.pm_tab.specs.Inside.Numbering.{AreNumbered}
use Rattle.pm_tab.proofs.Counted.{views_none, views_some}
use Rattle.pm_tab.proofs.Passing.{leaf_there, one_leaf}

-- the places that are noted
module _ (problem : Problem) (m : MachineState) (is : IsBuilt problem m) where
  pub notes_none : Views (selected (built problem.clauses m.steps)) None → NotesBranch m.nodes []
  notes_none shown = record {
    some = λ before leaf after chosen.
        let agree = selected_leaves_agree problem m before leaf after is chosen in
        absurd (clash agree.0 (sym (views_none (selected (built problem.clauses m.steps)) shown) ∙ agree.1));
    none = λ _. refl;
  }
    where
      clash : (goal : Subgoal) → None ≡ Some goal → ⊥
      clash goal same = absurd cc

  pub notes_some : (view : LeafView) → Views (selected (built problem.clauses m.steps)) (Some view) → (places : List ℕ) (place : ℕ)
      → AreAncestors m.nodes places → IsPlaceOfLeaf m.nodes place → NotesBranch m.nodes (places ++ place ∷ [])
  notes_some view shown places place ancestors at =
      let goal = views_some (selected (built problem.clauses m.steps)) view shown in
      let found = leaf_there problem m is goal.0 goal.1 place at in
      record {
        some = λ before leaf after chosen.
            let one = one_leaf problem m is goal.0 goal.1 place at found.0 found.1 before leaf after chosen in
            let long : place ≡ length before =
            sym (ap length one.0 ∙ whole m.nodes place (slice_get_within m.nodes place found.0 found.1)) in
            record {
              above = places;
              whole = ap (λ p. places ++ p ∷ []) long;
              depth = ancestors.count before leaf after chosen;
              each = λ level p stands. ancestors.each before leaf after level p chosen stands;
            };
        none = λ all. absurd (clash goal.0 (sym (no_leaf_is_selected problem m is all) ∙ goal.1));
      }
    where
      clash : (goal : Subgoal) → None ≡ Some goal → ⊥
      clash goal same = absurd cc

      whole : (xs : List CellNode) (i : ℕ) → i < length xs → length (take i xs) ≡ i
      whole [] i less = absurd (omega (arith, less))
      whole (x ∷ xs) zero less = refl
      whole (x ∷ xs) (suc i) less = ap suc (whole xs i (omega (arith, less)))

  pub notes_of : (o : Option LeafView) → Views (selected (built problem.clauses m.steps)) o → is_some o ≡ true → (places : List ℕ) (place : ℕ)
      → AreAncestors m.nodes places → IsPlaceOfLeaf m.nodes place → NotesBranch m.nodes (places ++ place ∷ [])
  notes_of None shown some = absurd (false≢true some)
  notes_of (Some view) shown some = notes_some view shown

  pub notes_no : (o : Option LeafView) → Views (selected (built problem.clauses m.steps)) o → is_some o ≡ false → NotesBranch m.nodes []
  notes_no None shown none = notes_none shown
  notes_no (Some view) shown none = absurd (false≢true (sym none))

-- nodes of a machine are all like children of it: of one predicate they have as many arguments
same_count : (symbols : List Symbol) (predicate n m : ℕ) (kind other : Kind) → HasShape symbols predicate kind n → HasShape symbols predicate other m → n ≡ m
same_count symbols predicate n m kind other h k = by (slice_get symbols predicate) h k
  where
    by : (o : Option Symbol) → IsSomeAnd o (λ s. (s.kind ≡ kind) × (s.arity ≡ n)) → IsSomeAnd o (λ s. (s.kind ≡ other) × (s.arity ≡ m)) → n ≡ m
    by None h k = absurd h
    by (Some s) h k = sym h.1 ∙ k.1

counts_agree : (symbols : List Symbol) (l o : CellLiteral) → HasItsCount symbols l → HasItsCount symbols o → l.predicate ≡ o.predicate
    → length l.args ≡ length o.args
counts_agree symbols l o h k same =
    elim h [
      | inl a ↦ elim (moved k) [
        | inl b ↦ same_count symbols l.predicate (length l.args) (length o.args) _ _ a b
        | inr b ↦ same_count symbols l.predicate (length l.args) (length o.args) _ _ a b
      ]
      | inr a ↦ elim (moved k) [
        | inl b ↦ same_count symbols l.predicate (length l.args) (length o.args) _ _ a b
        | inr b ↦ same_count symbols l.predicate (length l.args) (length o.args) _ _ a b
      ]
    ]
  where
    moved : HasItsCount symbols o → HasItsCount symbols (record o { predicate = l.predicate })
    moved k = subst (λ p. HasItsCount symbols (record o { predicate = p })) (sym same) k

module _ (problem : Problem) (m : MachineState) (is : IsBuilt problem m) where
  child_of : (child : CellNode) → HasArgsBelow (length m.equations.cells) child.literal → HasItsCount problem.symbols child.literal → IsChildOf m.equations m.nodes child
  child_of child low count = record {
    below = low;
    counts = All-weaker (λ (node : CellNode). HasItsCount problem.symbols node.literal)
        (λ (node : CellNode). node.literal.predicate ≡ child.literal.predicate → length node.literal.args ≡ length child.literal.args)
        (λ node h same. counts_agree problem.symbols node.literal child.literal h count same) m.nodes is.counts;
  }

  some_children : (nodes : List CellNode) → All (λ (node : CellNode). HasArgsBelow (length m.equations.cells) node.literal) nodes
      → All (λ (node : CellNode). HasItsCount problem.symbols node.literal) nodes → AreChildrenOf m.equations m.nodes nodes
  some_children [] low counts = All-nil (IsChildOf m.equations m.nodes)
  some_children (n ∷ ns) low counts =
      All-cons (IsChildOf m.equations m.nodes) n ns
      (child_of n (All-head (λ (node : CellNode). HasArgsBelow (length m.equations.cells) node.literal) n ns low) (All-head (λ (node : CellNode). HasItsCount problem.symbols node.literal) n ns counts))
      (some_children ns (All-tail (λ (node : CellNode). HasArgsBelow (length m.equations.cells) node.literal) n ns low) (All-tail (λ (node : CellNode). HasItsCount problem.symbols node.literal) n ns counts))

  pub children_after : (all : List MachineNode) → map node_of all ≡ m.nodes → (count place : ℕ)
      → AreChildrenOf m.equations (map node_of all) (map node_of (take count (drop (place + 1) all)))
  children_after all are count place =
      subst (λ ns. AreChildrenOf m.equations ns (map node_of (take count (drop (place + 1) all)))) (sym are)
      (part (subst (AreChildrenOf m.equations m.nodes) (sym are) (some_children m.nodes is.cells is.counts)))
    where
      dropped : (n : ℕ) (ns : List MachineNode) → AreChildrenOf m.equations m.nodes (map node_of ns) → AreChildrenOf m.equations m.nodes (map node_of (drop n ns))
      dropped zero ns h = h
      dropped (suc n) [] h = h
      dropped (suc n) (x ∷ ns) h = dropped n ns (All-tail (IsChildOf m.equations m.nodes) (node_of x) (map node_of ns) h)

      taken : (n : ℕ) (ns : List MachineNode) → AreChildrenOf m.equations m.nodes (map node_of ns) → AreChildrenOf m.equations m.nodes (map node_of (take n ns))
      taken zero ns h = All-nil (IsChildOf m.equations m.nodes)
      taken (suc n) [] h = h
      taken (suc n) (x ∷ ns) h =
          All-cons (IsChildOf m.equations m.nodes) (node_of x) (map node_of (take n ns)) (All-head (IsChildOf m.equations m.nodes) (node_of x) (map node_of ns) h)
          (taken n ns (All-tail (IsChildOf m.equations m.nodes) (node_of x) (map node_of ns) h))

      part : AreChildrenOf m.equations m.nodes (map node_of all) → AreChildrenOf m.equations m.nodes (map node_of (take count (drop (place + 1) all)))
      part h = taken count (drop (place + 1) all) (dropped (place + 1) all h)

map_map : (ns : List MachineNode) → map (λ (n : CellNode). n.literal) (map node_of ns) ≡ map literal_on ns
map_map [] = refl
map_map (n ∷ ns) = ap (λ ls. literal_on n ∷ ls) (map_map ns)

-- the literals of the nodes after a place
literals_there : (all : List MachineNode) (place count : ℕ) → literals_after (map node_of all) place count ≡ map literal_on (take count (drop (place + 1) all))
literals_there all place count =
    let next : suc place ≡ place + 1 = omega arith in
    ap (λ n. map (λ (node : CellNode). node.literal) (take count (drop n (map node_of all)))) next
    ∙ ap (λ ns. map (λ (node : CellNode). node.literal) (take count ns)) (drop-map node_of (place + 1) all)
    ∙ ap (map (λ (node : CellNode). node.literal)) (take-map node_of count (drop (place + 1) all))
    ∙ map_map (take count (drop (place + 1) all))

-- the pairs of a branch that isn't empty
pub pairs_of_family : (all : List MachineNode) (branch : List ℕ) (place count : ℕ) → branch ≢ [] → place ≡ last_of branch
    → new_pairs (map node_of all) branch count
    ≡ family_pairs (literals_in (map node_of all) branch) (map literal_on (take count (drop (place + 1) all)))
pairs_of_family all [] place count some is = absurd (some refl)
pairs_of_family all (p ∷ branch) place count some is =
    ap (family_pairs (literals_in (map node_of all) (p ∷ branch)))
    (ap (λ q. literals_after (map node_of all) q count) (sym is) ∙ literals_there all place count)

-- the last place of a branch
pub last_place : (branch : List ℕ) (leaf : ℕ) → Some leaf ≡ slice_get branch (length branch - 1) → (branch ≢ []) × (leaf ≡ last_of branch)
last_place [] leaf is = absurd cc
last_place (p ∷ []) leaf is = (λ none. absurd cc, cc)
last_place (p ∷ q ∷ branch) leaf is =
    let less : length (p ∷ q ∷ branch) - 1 ≡ suc (length (q ∷ branch) - 1) = omega arith in
    let rest = last_place (q ∷ branch) leaf (is ∙ ap (slice_get (p ∷ q ∷ branch)) less) in
    (λ none. absurd cc, rest.1)

pub last_none : (branch : List ℕ) → None ≡ slice_get branch (length branch - 1) → branch ≡ []
last_none [] is = refl
last_none (p ∷ []) is = absurd cc
last_none (p ∷ q ∷ branch) is =
    let less : length (p ∷ q ∷ branch) - 1 ≡ suc (length (q ∷ branch) - 1) = omega arith in
    let rest : q ∷ branch ≡ [] = last_none (q ∷ branch) (is ∙ ap (slice_get (p ∷ q ∷ branch)) less) in
    absurd cc

module _ (all : List MachineNode) (nodes : List CellNode) (are : map node_of all ≡ nodes) (branch : List ℕ) (leaf : ℕ)
    (last : Some leaf ≡ slice_get branch (length branch - 1)) (before : ℕ) where
  -- the pairs that are watched are the new ones
  pub watched_pairs : (children : List MachineNode) → children ≡ take (length all - before) (drop (leaf + 1) all)
      → family_pairs (literals_in (map node_of all) branch) (map literal_on children) ≡ new_pairs nodes branch (length nodes - before)
  watched_pairs children is =
      let h = last_place branch leaf last in
      let count : length all - before ≡ length nodes - before = ap (λ n. n - before) (sym (length-map all node_of) ∙ ap length are) in
      ap (λ cs. family_pairs (literals_in (map node_of all) branch) (map literal_on cs)) is
      ∙ sym (pairs_of_family all branch leaf (length all - before) h.0 h.1)
      ∙ ap₂ (λ ns n. new_pairs ns branch n) are count

  -- so are their numbers
  pub watched_numbers : (s : Equations) (ids numbers : List ℕ) (children : List MachineNode) → children ≡ take (length all - before) (drop (leaf + 1) all)
      → AreNumbered s (literals_in nodes branch) ids (literals_after nodes (last_of branch) (length nodes - before)) numbers
      → AreNumbered s (literals_in (map node_of all) branch) ids (map literal_on children) numbers
  watched_numbers s ids numbers children is numbered =
      let h = last_place branch leaf last in
      let count : length nodes - before ≡ length all - before = ap (λ n. n - before) (sym (ap length are) ∙ length-map all node_of) in
      let family : literals_after nodes (last_of branch) (length nodes - before) ≡ map literal_on children =
      ap₂ (literals_after nodes) (sym h.1) count ∙ ap (λ ns. literals_after ns leaf (length all - before)) (sym are)
      ∙ literals_there all leaf (length all - before) ∙ ap (map literal_on) (sym is) in
      subst (λ ns. AreNumbered s (literals_in ns branch) ids (map literal_on children) numbers) (sym are)
      (subst (λ ls. AreNumbered s (literals_in nodes branch) ids ls numbers) family numbered)

  pub room_after : HasFamilyAfter nodes branch before → leaf + 1 + (length all - before) ≤ length all
  room_after has =
      let h = last_place branch leaf last in
      omega (arith, has.room h.0, h.1, sym (length-map all node_of) ∙ ap length are)
