-- The literals that a step gives, with their numbers.
use Rattle.std.proofs.Common.{◌≡◌, ◌≢◌, ℕ, zero, suc, ◌+◌, ◌-◌, ◌<◌, ◌≤◌, List, [], ◌∷◌, ◌++◌, length, map, Some, get_or, take, drop, refl, sym, ◌∙◌, ap, ap₂, subst, arith}
use Rattle.std.specs.Prelude.{All}
use Rattle.std.proofs.lemmas.List.{append-nil, length-append, length-map, map-append, take-append-drop, take-map, drop-map}
use Rattle.std.proofs.lemmas.List.Elements.{All-nil, All-weaker}
use Rattle.pm_logic.specs.Term.{Term}
use Rattle.pm_logic.specs.Problem.{Literal, Problem, IsValid}
use Rattle.pm_store.specs.Trees.{tree}
use Rattle.pm_store.specs.Solutions.{Solves}
use Rattle.pm_store.specs.Marks.{IsLater}
use Rattle.pm_store.proofs.TreeLemmas.{trees_solve}
use Rattle.pm_run.specs.State.{CellLiteral, Child, literal_under}
use Rattle.pm_run.specs.Wants.{filled_literal}
use Rattle.pm_run.specs.Bodies.{bodies_of, variables_at}
use Rattle.pm_run.proofs.StepLemmas.{steps_begin_in_stores, starts_are_steps, extensions_are_steps}
use Rattle.pm_run.specs.InStore.{HasArgsBelow}
use Rattle.pm_calculus.specs.Skeleton.{Step, start, extend, reduce, built, literals_at}
use Rattle.pm_calculus.specs.Alternatives.{MayTake}
use Rattle.pm_calculus.proofs.Zips.{zip_append}
use Rattle.pm_machine.specs.State.{CellNode, MachineState, IsOpen, child_at}
use Rattle.pm_machine.specs.Labels.{IsBuilt}
use Rattle.pm_machine.specs.Taken.{Starts, Extends, Reduces, Takes}
use Rattle.pm_machine.proofs.Leaves.{filled_are, closed_are}
use Rattle.pm_machine.proofs.AtLeaf.{leaf_same}
use Rattle.pm_machine.proofs.Extending as extending
use Rattle.pm_tab.specs.Repeats.{literal_at, literals_in, literals_after, NotesBranch, last_of}
use Rattle.pm_tab.specs.Inside.Numbering.{all_literals, AreNumbersFor, AreNumbersOf, IsNumberedBy, AreNumberedBy, AreNumbered}
use Rattle.pm_tab.proofs.Told.{AreFilled, zip_take, zip_drop, zip_long, zip_among, family_told, told_at, told_later}
use Rattle.pm_tab.proofs.Watching.{map_map, begun_empty, children_there}
use Rattle.pm_tab.proofs.Branches.{end_of, branch_within}

abbrev literals_of : List CellNode → List CellLiteral
literals_of nodes = map (λ (node : CellNode). node.literal) nodes

-- items that come in at a place
module _ {A : Type 0} where
  in_place : (before : List A) (x : A) (kids after : List A) (place : ℕ) → place ≡ length before + 1
      → before ++ x ∷ (kids ++ after) ≡ take place (before ++ x ∷ after) ++ (kids ++ drop place (before ++ x ∷ after))
  in_place [] x kids after zero is = absurd (omega (arith, is))
  in_place [] x kids after (suc zero) is = refl
  in_place [] x kids after (suc (suc n)) is = absurd (omega (arith, is))
  in_place (y ∷ before) x kids after zero is = absurd (omega (arith, is))
  in_place (y ∷ before) x kids after (suc n) is = ap (λ ys. y ∷ ys) (in_place before x kids after n (omega (arith, is)))

  drop_front : (xs ys : List A) (n : ℕ) → n ≡ length xs → drop n (xs ++ ys) ≡ ys
  drop_front [] ys zero is = refl
  drop_front [] ys (suc n) is = absurd (omega (arith, is))
  drop_front (x ∷ xs) ys zero is = absurd (omega (arith, is))
  drop_front (x ∷ xs) ys (suc n) is = drop_front xs ys n (omega (arith, is))

  take_front : (xs ys : List A) (n : ℕ) → n ≡ length xs → take n (xs ++ ys) ≡ xs
  take_front [] ys zero is = refl
  take_front [] ys (suc n) is = absurd (omega (arith, is))
  take_front (x ∷ xs) ys zero is = absurd (omega (arith, is))
  take_front (x ∷ xs) ys (suc n) is = ap (λ zs. x ∷ zs) (take_front xs ys n (omega (arith, is)))

  abbrev pub put_in : ℕ → List A → List A → List A
  put_in place items xs = take place xs ++ (items ++ drop place xs)

  pub long_put_in : (place : ℕ) (items xs : List A) → length (put_in place items xs) ≡ length items + length xs
  long_put_in place items xs =
      let whole = ap length (take-append-drop place xs) in
      omega (arith, whole, length-append (take place xs) (drop place xs), length-append (take place xs) (items ++ drop place xs), length-append items (drop place xs))

  pub cut_out : (place to : ℕ) (items xs : List A) → place ≤ length xs → to ≡ place + length items
      → take place (put_in place items xs) ++ drop to (put_in place items xs) ≡ xs
  cut_out zero to items xs within is = drop_front items xs to (omega (arith, is))
  cut_out (suc place) zero items xs within is = absurd (omega (arith, is))
  cut_out (suc place) (suc to) items [] within is = absurd (omega (arith, within))
  cut_out (suc place) (suc to) items (x ∷ xs) within is = ap (λ ys. x ∷ ys) (cut_out place to items xs (omega (arith, within)) (omega (arith, is)))

  shown_between : (place count : ℕ) (items xs : List A) → place ≤ length xs → count ≡ length items → take count (drop place (put_in place items xs)) ≡ items
  shown_between zero count items xs within is = take_front items xs count is
  shown_between (suc place) count items [] within is = absurd (omega (arith, within))
  shown_between (suc place) count items (x ∷ xs) within is = shown_between place count items xs (omega (arith, within)) is

  kept_before : (place : ℕ) (items xs : List A) (p : ℕ) (d : A) → p < place → place ≤ length xs → get_or (put_in place items xs) p d ≡ get_or xs p d
  kept_before zero items xs p d less within = absurd (omega (arith, less))
  kept_before (suc place) items [] p d less within = absurd (omega (arith, within))
  kept_before (suc place) items (x ∷ xs) zero d less within = refl
  kept_before (suc place) items (x ∷ xs) (suc p) d less within = kept_before place items xs p d (omega (arith, less)) (omega (arith, within))

-- the place after a branch's end; the first one, where it is empty
pub record IsPlaceAfter (places : List ℕ) (place : ℕ) : Type 0 where
  pub some : places ≢ [] → place ≡ last_of places + 1
  pub none : places ≡ [] → place ≡ 0

-- a step gives literals after the branch's end, which these are the numbers of
pub record Gives (all : List Literal) (m new : MachineState) (places : List ℕ) (place : ℕ) (numbers : List ℕ) : Type 0 where
  pub kids : List CellLiteral
  pub nodes : literals_of new.nodes ≡ put_in place kids (literals_of m.nodes)
  pub numbered : AreNumberedBy all new.equations kids numbers
  pub fits : place ≤ length m.nodes
  pub below : All (λ p. p < place) places

after_leaf : (places : List ℕ) (place : ℕ) → IsPlaceAfter places place → (above : List ℕ) (end : ℕ) → places ≡ above ++ end ∷ [] → place ≡ end + 1
after_leaf places place after above end whole =
    let some : places ≢ [] = λ bare. not_bare above (sym whole ∙ bare) in
    after.some some ∙ ap (λ n. n + 1) (ap last_of whole ∙ end_of above end)
  where
    not_bare : (above : List ℕ) → above ++ end ∷ [] ≡ [] → ⊥
    not_bare [] is = absurd cc
    not_bare (p ∷ above) is = absurd cc

abbrev kids_of : List Child → List CellLiteral
kids_of children = map (λ (child : Child). child.literal) children

module _ (problem : Problem) (m new : MachineState) (valid : IsValid problem) (is : IsBuilt problem m) (built_new : IsBuilt problem new)
    (places : List ℕ) (notes : NotesBranch m.nodes places) (place : ℕ) (after : IsPlaceAfter places place) (numbers : List ℕ) where
  abbrev all : List Literal
  all = all_literals problem.clauses

  told : (children : List Child) (ls : List Literal)
      → ((trees : ℕ → Term) → Solves new.equations trees → (variables : ℕ → Term) × (map (λ (child : Child). literal_under trees child.literal) children ≡ map (filled_literal variables) ls))
      → AreNumbersOf all ls numbers → AreNumberedBy all new.equations (kids_of children) numbers
  told children ls filled given =
      let among : AreFilled new.equations (kids_of children) ls =
      λ trees solves. let h = filled trees solves in (h.0, map_map (λ (child : Child). child.literal) (literal_under trees) children ∙ h.1) in
      let one = among (tree new.equations) (trees_solve new.equations built_new.sound) in
      let long : length (kids_of children) ≡ length ls =
      sym (length-map (kids_of children) (literal_under (tree new.equations))) ∙ ap length one.1 ∙ length-map ls (filled_literal one.0) in
      family_told all new.equations (kids_of children) ls numbers long among given

  start_gives : (c : ℕ) → MayTake problem.clauses (built problem.clauses m.steps) (start c) → Starts problem.clauses c m new
      → AreNumbersFor problem.clauses (start c) numbers → Gives all m new places place numbers
  start_gives c may taken given =
      let none : m.nodes ≡ [] = begun_empty problem m new valid is c may in
      let bare : places ≡ [] = notes.none (subst (All (λ node. ¬ IsOpen node)) (sym none) (All-nil (λ (node : CellNode). ¬ IsOpen node))) in
      let first : place ≡ 0 = after.none bare in
      let children : List Child = taken.last.children in
      let step = starts_are_steps (bodies_of problem.clauses) c (literals_at problem.clauses c) (variables_at problem.clauses c) m.equations [] taken.last refl taken.runs
      (steps_begin_in_stores (variables_at problem.clauses c) m.equations [] [] is.sound (All-nil (λ n. n < length m.equations.cells)) (All-nil (HasArgsBelow (length m.equations.cells)))) in
      record {
        kids = kids_of children;
        nodes =
            ap literals_of taken.nodes ∙ children_there 0 children ∙ sym (append-nil (kids_of children))
            ∙ ap₂ (λ n ls. put_in n (kids_of children) ls) (sym first) (ap literals_of (sym none));
        numbered = told children (literals_at problem.clauses c)
            (λ trees solves.
            let h = step.solutions.shown trees (subst (λ s. Solves s trees) taken.equations solves) in
            (h.0, filled_are trees h.0 children (literals_at problem.clauses c) h.3)) given;
        fits = omega (arith, first);
        below = subst (All (λ p. p < place)) (sym bare) (All-nil (λ p. p < place));
      }

  extension_gives : (c j : ℕ) → MayTake problem.clauses (built problem.clauses m.steps) (extend c j) → Extends problem.clauses c j m new
      → AreNumbersFor problem.clauses (extend c j) numbers → Gives all m new places place numbers
  extension_gives c j may taken given =
      let at = taken.at in
      let noted = notes.some at.before at.leaf at.after at.selected in
      let children : List Child = taken.last.children in
      let step = extensions_are_steps (bodies_of problem.clauses) c j taken.literal (literals_at problem.clauses c) (variables_at problem.clauses c) m.equations at.branch at.leaf.literal.args taken.last
      refl (ap (λ (l : CellLiteral). length l.args) (leaf_same problem m at is) ∙ (extending.head_there problem c j m valid is may at taken.literal taken.stands).count)
      taken.runs (extending.begun_in_store problem c j m valid is may at) in
      let there : place ≡ length at.before + 1 = after_leaf places place after noted.above (length at.before) noted.whole in
      let grown : CellNode = record at.leaf { clause = Some c } in
      record {
        kids = kids_of children;
        nodes =
            ap literals_of taken.nodes ∙ map-append (λ (node : CellNode). node.literal) at.before (grown ∷ (map (child_at at.leaf.depth) children ++ at.after))
            ∙ ap (λ ls. literals_of at.before ++ at.leaf.literal ∷ ls) (map-append (λ (node : CellNode). node.literal) (map (child_at at.leaf.depth) children) at.after
            ∙ ap (λ ls. ls ++ literals_of at.after) (children_there at.leaf.depth children))
            ∙ in_place (literals_of at.before) at.leaf.literal (kids_of children) (literals_of at.after) place (there ∙ ap (λ n. n + 1) (sym (length-map at.before (λ (node : CellNode). node.literal))))
            ∙ ap (put_in place (kids_of children)) (sym (map-append (λ (node : CellNode). node.literal) at.before (at.leaf ∷ at.after)) ∙ ap literals_of (sym at.selected.stands));
        numbered = told children (literals_at problem.clauses c)
            (λ trees solves.
            let h = step.solutions.shown trees (subst (λ s. Solves s trees) taken.equations solves) in
            (h.0, closed_are trees h.0 j children (literals_at problem.clauses c) h.3)) given;
        fits = omega (arith, there, ap length at.selected.stands, length-append at.before (at.leaf ∷ at.after));
        below = branch_within m.nodes at.before at.leaf places noted place (omega (arith, there));
      }

  reduction_gives : (k : ℕ) → Reduces problem.clauses k m new → AreNumbersFor problem.clauses (reduce k) numbers → Gives all m new places place numbers
  reduction_gives k taken given =
      let at = taken.at in
      let noted = notes.some at.before at.leaf at.after at.selected in
      let there : place ≡ length at.before + 1 = after_leaf places place after noted.above (length at.before) noted.whole in
      record {
        kids = [];
        nodes =
            ap literals_of taken.nodes ∙ map-append (λ (node : CellNode). node.literal) at.before (record at.leaf { closed_by = taken.last.closed_by } ∷ at.after)
            ∙ sym (map-append (λ (node : CellNode). node.literal) at.before (at.leaf ∷ at.after)) ∙ ap literals_of (sym at.selected.stands)
            ∙ sym (take-append-drop place (literals_of m.nodes));
        numbered = nothing numbers given;
        fits = omega (arith, there, ap length at.selected.stands, length-append at.before (at.leaf ∷ at.after));
        below = branch_within m.nodes at.before at.leaf places noted place (omega (arith, there));
      }
    where
      nothing : (ns : List ℕ) → AreNumbersOf all [] ns → AreNumberedBy all new.equations [] ns
      nothing [] h = tt
      nothing (n ∷ ns) h = absurd h

  pub step_gives : (step : Step) → MayTake problem.clauses (built problem.clauses m.steps) step → Takes problem.clauses step m new
      → AreNumbersFor problem.clauses step numbers → Gives all m new places place numbers
  step_gives (start c) may taken given = start_gives c may taken given
  step_gives (extend c j) may taken given = extension_gives c j may taken given
  step_gives (reduce k) may taken given = reduction_gives k taken given

-- the numbers of all nodes after a step
module _ (all : List Literal) (m new : MachineState) (later : IsLater m.equations new.equations) (places : List ℕ) (place : ℕ) (numbers : List ℕ)
    (gives : Gives all m new places place numbers) (own : List ℕ) (numbered : AreNumberedBy all m.equations (literals_of m.nodes) own) where
  pub as_long : length own ≡ length m.nodes
  as_long = sym (zip_long (IsNumberedBy all m.equations) (literals_of m.nodes) own numbered) ∙ length-map m.nodes (λ (node : CellNode). node.literal)

  pub numbered_after : AreNumberedBy all new.equations (literals_of new.nodes) (put_in place numbers own)
  numbered_after =
      let R : CellLiteral → ℕ → Type 0 = IsNumberedBy all new.equations in
      let old = told_later all m.equations new.equations later (literals_of m.nodes) own numbered in
      subst (λ ls. AreNumberedBy all new.equations ls (put_in place numbers own)) (sym gives.nodes)
      (zip_append R (take place (literals_of m.nodes)) (take place own) (gives.kids ++ drop place (literals_of m.nodes)) (numbers ++ drop place own)
      (zip_take R place (literals_of m.nodes) own old)
      (zip_append R gives.kids numbers (drop place (literals_of m.nodes)) (drop place own) gives.numbered (zip_drop R place (literals_of m.nodes) own old)))

  kids_count : length new.nodes - length m.nodes ≡ length gives.kids
  kids_count =
      let whole = ap length gives.nodes ∙ long_put_in place gives.kids (literals_of m.nodes) in
      omega (arith, whole, length-map new.nodes (λ (node : CellNode). node.literal), length-map m.nodes (λ (node : CellNode). node.literal))

  pub branch_numbered : places ≢ [] → place ≡ last_of places + 1
      → AreNumbered new.equations (literals_in new.nodes places) (map (λ p. get_or own p 0) places)
      (literals_after new.nodes (last_of places) (length new.nodes - length m.nodes)) numbers
  branch_numbered some end =
      let R : CellLiteral → ℕ → Type 0 = IsNumberedBy all new.equations in
      let longer : length m.nodes ≤ length new.nodes =
      let whole = ap length gives.nodes ∙ long_put_in place gives.kids (literals_of m.nodes) in
      omega (arith, whole, length-map new.nodes (λ (node : CellNode). node.literal), length-map m.nodes (λ (node : CellNode). node.literal)) in
      let fits : place ≤ length (literals_of m.nodes) = omega (arith, gives.fits, length-map m.nodes (λ (node : CellNode). node.literal)) in
      let next : suc (last_of places) ≡ place = omega (arith, end) in
      let shown : literals_after new.nodes (last_of places) (length new.nodes - length m.nodes) ≡ gives.kids =
      sym (take-map (λ (node : CellNode). node.literal) (length new.nodes - length m.nodes) (drop (suc (last_of places)) new.nodes))
      ∙ ap (take (length new.nodes - length m.nodes)) (sym (drop-map (λ (node : CellNode). node.literal) (suc (last_of places)) new.nodes))
      ∙ ap₂ (λ n ls. take (length new.nodes - length m.nodes) (drop n ls)) next gives.nodes
      ∙ shown_between place (length new.nodes - length m.nodes) gives.kids (literals_of m.nodes) fits kids_count in
      record {
        all = all;
        branch = zip_among R (literal_at new.nodes) (λ p. get_or own p 0) places
            (All-weaker (λ p. p < place) (λ p. R (literal_at new.nodes p) (get_or own p 0))
            (λ p less. subst (R (literal_at new.nodes p)) (kept_before place numbers own p 0 less (omega (arith, as_long, gives.fits)))
            (told_at all new.equations new.nodes (put_in place numbers own) p (omega (arith, less, gives.fits, longer)) numbered_after))
            places gives.below);
        family = subst (λ ls. AreNumberedBy all new.equations ls numbers) (sym shown) gives.numbered;
      }
