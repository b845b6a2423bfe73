-- What is watched, before a step and after it.
use Rattle.std.proofs.Common.{◌≡◌, ◌≢◌, ℕ, suc, ◌+◌, ◌-◌, ◌<◌, ◌≤◌, Bool, true, false, List, [], ◌∷◌, ◌++◌, length, map, Some, get_or, take, drop, refl, sym, ◌∙◌, ap, ap₂, subst, arith}
use Rattle.std.specs.Prelude.{All}
use Rattle.std.proofs.lemmas.List.{length-append}
use Rattle.std.proofs.lemmas.List.Elements.{All-nil, All-append}
use Rattle.std.proofs.lemmas.Bool.{false≢true}
use Rattle.std.proofs.lemmas.List.Sums.{fold_push}
use Rattle.pm_logic.specs.declared.problem.Start.TheVariants.{Negative}
use Rattle.pm_logic.specs.declared.tableau.BoundKind.TheVariants.{Depth}
use Rattle.pm_logic.specs.Problem.{Clause, Problem, IsValid}
use Rattle.pm_logic.specs.Tableau.{Tableau}
use Rattle.pm_store.specs.Trees.{tree}
use Rattle.pm_store.proofs.ListLemmas.{All-left, All-right}
use Rattle.pm_store.specs.Marks.{Counts, counts_of, IsLater, HasMark, bound_since}
use Rattle.pm_calculus.specs.Connection.{IsRegular, Level}
use Rattle.pm_calculus.specs.Skeleton.{empty, rooted, Step, start, extend, reduce, after_step, built}
use Rattle.pm_calculus.specs.Alternatives.{MayTake}
use Rattle.pm_calculus.specs.Choices.{IsLabelling, plain_level}
use Rattle.pm_diseq.specs.Notes.{Pair, Note, pairs_of}
use Rattle.pm_diseq.specs.Standing.{AreIdentical, StoodBefore}
use Rattle.pm_diseq.proofs.StandingLemmas.{pools_stood_at_marks}
use Rattle.pm_machine.specs.State.{CellNode, MachineState, IsOpen, child_at}
use Rattle.pm_machine.specs.Labels.{IsBuilt}
use Rattle.pm_machine.specs.Taken.{Extends, Reduces, Takes}
use Rattle.pm_tab.specs.General.{general_tableau}
use Rattle.pm_machine.specs.Value.{MachineValue, Answers, IsTaken, IsBack}
use Rattle.pm_tab.specs.Repeats.{AreApart, TellsRepeats, literals_in, literals_after, NotesBranch, last_of, new_pairs}
use Rattle.pm_tab.specs.declared.repeats.Watermark.{Watermark}
use Rattle.pm_tab.specs.Inside.Adding.{HasFamilyAfter, HasIdentical, WatchesMore, RepeatsSome}
use Rattle.pm_tab.specs.Inside.Steps.{GrewTo}
use Rattle.pm_tab.specs.Inside.Numbering.{all_literals, AreNumbersFor, AreNumbered}
use Rattle.pm_tab.specs.Inside.Watched.{Watch, Watches, GrewFrom}
use Rattle.pm_tab.proofs.Watching.{step_grows, tells_step, begun_empty, apart_parts}
use Rattle.pm_tab.proofs.Branches.{end_of, branch_within}
use Rattle.pm_tab.proofs.Told.{solved_before}
use Rattle.pm_tab.proofs.Giving.{put_in, long_put_in, cut_out, IsPlaceAfter, Gives, step_gives, as_long, numbered_after, branch_numbered}
use Rattle.pm_tab.proofs.Taking.{rooted_from, none_regular}

-- the new nodes of a step stand after the branch's end
module _ (problem : Problem) (m new : MachineState) (valid : IsValid problem) (is : IsBuilt problem m) (places : List ℕ) (notes : NotesBranch m.nodes places) where
  after_start : (c : ℕ) → MayTake problem.clauses (built problem.clauses m.steps) (start c) → HasFamilyAfter new.nodes places (length m.nodes)
  after_start c may =
      let none : m.nodes ≡ [] = begun_empty problem m new valid is c may in
      let bare : places ≡ [] = notes.none (subst (All (λ node. ¬ IsOpen node)) (sym none) (All-nil (λ (node : CellNode). ¬ IsOpen node))) in
      record {
        more = omega (arith, ap length none);
        within = subst (All (λ place. place < length new.nodes)) (sym bare) (All-nil (λ place. place < length new.nodes));
        room = λ some. absurd (some bare);
      }

  after_extension : (c j : ℕ) → Extends problem.clauses c j m new → HasFamilyAfter new.nodes places (length m.nodes)
  after_extension c j taken =
      let at = taken.at in
      let noted = notes.some at.before at.leaf at.after at.selected in
      let children = map (child_at at.leaf.depth) taken.last.children in
      let long : length new.nodes ≡ length at.before + suc (length (children ++ at.after)) =
      ap length taken.nodes ∙ length-append at.before (record at.leaf { clause = Some c } ∷ (children ++ at.after)) in
      let old : length m.nodes ≡ length at.before + suc (length at.after) = ap length at.selected.stands ∙ length-append at.before (at.leaf ∷ at.after) in
      let both : length (children ++ at.after) ≡ length children + length at.after = length-append children at.after in
      let end : last_of places ≡ length at.before = ap last_of noted.whole ∙ end_of noted.above (length at.before) in
      record {
        more = omega (arith, long, old, both);
        within = branch_within m.nodes at.before at.leaf places noted (length new.nodes) (omega (arith, long));
        room = λ some. omega (arith, long, old, both, end);
      }

  after_reduction : (k : ℕ) → Reduces problem.clauses k m new → HasFamilyAfter new.nodes places (length m.nodes)
  after_reduction k taken =
      let at = taken.at in
      let noted = notes.some at.before at.leaf at.after at.selected in
      let long : length new.nodes ≡ length at.before + suc (length at.after) =
      ap length taken.nodes ∙ length-append at.before (record at.leaf { closed_by = taken.last.closed_by } ∷ at.after) in
      let old : length m.nodes ≡ length at.before + suc (length at.after) = ap length at.selected.stands ∙ length-append at.before (at.leaf ∷ at.after) in
      let end : last_of places ≡ length at.before = ap last_of noted.whole ∙ end_of noted.above (length at.before) in
      record {
        more = omega (arith, long, old);
        within = branch_within m.nodes at.before at.leaf places noted (length new.nodes) (omega (arith, long));
        room = λ some. omega (arith, long, old, end);
      }

  pub family_after : (step : Step) → MayTake problem.clauses (built problem.clauses m.steps) step → Takes problem.clauses step m new
      → HasFamilyAfter new.nodes places (length m.nodes)
  family_after (start c) may taken = after_start c may
  family_after (extend c j) may taken = after_extension c j taken
  family_after (reduce k) may taken = after_reduction k taken

-- where pairs that tell of repeats are identical, the general tableau has a literal twice
pub general_repeats : (m : MachineState) (root : ℕ) (pairs : List Pair) → TellsRepeats m.nodes pairs → HasIdentical m.equations pairs
    → ¬ IsRegular (general_tableau root m)
general_repeats m root pairs tells some regular = some ((tells root (tree m.equations)).0 regular)

pub general_regular : (m : MachineState) (root : ℕ) (pairs : List Pair) → TellsRepeats m.nodes pairs
    → All (λ (pair : Pair). map (tree m.equations) pair.left ≢ map (tree m.equations) pair.right) pairs → IsRegular (general_tableau root m)
general_regular m root pairs tells apart = (tells root (tree m.equations)).1 apart

-- the steps with one more
pub steps_taken : (clauses : List Clause) (step : Step) (m new : MachineState) → Takes clauses step m new → new.steps ≡ m.steps ++ step ∷ []
steps_taken clauses (start c) m new taken = taken.steps
steps_taken clauses (extend c j) m new taken = taken.steps
steps_taken clauses (reduce k) m new taken = taken.steps

pub answers_taken : (step : Step) (old new : MachineValue) (b : Bool) → b ≡ true → Answers step old new b → IsTaken step old new
answers_taken step old new true is h = h
answers_taken step old new false is h = absurd (false≢true is)

take_whole : (pool more : List Note) → take (length pool) (pool ++ more) ≡ pool
take_whole [] more = refl
take_whole (n ∷ pool) more = ap (λ ns. n ∷ ns) (take_whole pool more)

pub undone : (pool grown new : List Note) (mark : ℕ) → GrewTo pool grown → mark ≡ length pool → new ≡ take mark grown → new ≡ pool
undone pool grown new mark grew is taken = taken ∙ ap₂ take is grew.is ∙ take_whole pool grew.more

-- a machine that took a step and went back is as it was
pub gone_back : (step : Step) (old middle new : MachineValue) → IsTaken step old middle → IsBack middle new → new ≡ old
gone_back step old middle new taken back =
    let states : new.state ∷ new.before ≡ old.state ∷ old.before = back.states ∙ taken.before in
    let problem : new.problem ≡ old.problem = back.problem ∙ taken.problem in
    let state : new.state ≡ old.state = cc in
    let before : new.before ≡ old.before = cc in
    λ k. record { problem = problem k; state = state k; before = before k }

-- a step that was taken, and what is watched then
module _ (old new : MachineValue) (step : Step) (valid : IsValid old.problem) (is : IsBuilt old.problem old.state)
    (may : MayTake old.problem.clauses (built old.problem.clauses old.state.steps) step) (taken : IsTaken step old new)
    (watch : Watch) (watches : Watches old.problem.clauses old.state watch) (places : List ℕ) (notes : NotesBranch old.state.nodes places) (nodes : ℕ) (counted : nodes ≡ length old.state.nodes) where
  abbrev clauses : List Clause
  clauses = old.problem.clauses

  abbrev later : IsLater old.state.equations new.state.equations
  later = step_grows old.problem old.state new.state valid is step may taken.takes

  pub marked : (mark : Counts) → mark ≡ counts_of old.state.equations → HasMark new.state.equations mark
  marked mark counts = record { before = old.state.equations; sound = is.sound; later = later; counts = counts }

  pub stood : (mark : Counts) → mark ≡ counts_of old.state.equations → StoodBefore new.state.equations watch.notes (bound_since new.state.equations mark)
  stood mark counts = pools_stood_at_marks old.state.equations new.state.equations watch.notes mark is.sound watches.stands later counts

  pub room : HasFamilyAfter new.state.nodes places nodes
  room = subst (HasFamilyAfter new.state.nodes places) (sym counted)
      (family_after old.problem old.state new.state valid is places notes step may taken.takes)

  abbrev more_pairs : List Pair
  more_pairs = new_pairs new.state.nodes places (length new.state.nodes - nodes)

  tells : TellsRepeats new.state.nodes ((pairs_of watch.notes ++ watches.settled) ++ more_pairs)
  tells = subst (λ n. TellsRepeats new.state.nodes ((pairs_of watch.notes ++ watches.settled) ++ new_pairs new.state.nodes places (length new.state.nodes - n))) (sym counted)
      (tells_step old.problem old.state new.state valid is step may taken.takes places notes (pairs_of watch.notes ++ watches.settled) watches.tells)

  module _ (place : ℕ) (after : IsPlaceAfter places place) (numbers : List ℕ) (given : AreNumbersFor clauses step numbers) where
    gives : Gives (all_literals clauses) old.state new.state places place numbers
    gives = step_gives old.problem old.state new.state valid is (subst (λ p. IsBuilt p new.state) taken.problem taken.built) places notes place after numbers step may taken.takes given

    pub ids_numbered : places ≢ [] → AreNumbered new.state.equations (literals_in new.state.nodes places) (map (λ p. get_or watch.numbers p 0) places)
        (literals_after new.state.nodes (last_of places) (length new.state.nodes - nodes)) numbers
    ids_numbered some =
        subst (λ n. AreNumbered new.state.equations (literals_in new.state.nodes places) (map (λ p. get_or watch.numbers p 0) places)
        (literals_after new.state.nodes (last_of places) (length new.state.nodes - n)) numbers) (sym counted)
        (branch_numbered (all_literals clauses) old.state new.state later places place numbers gives watch.numbers watches.numbers some (after.some some))

    pub within_numbers : place ≤ length watch.numbers
    within_numbers = let long = as_long (all_literals clauses) old.state new.state later places place numbers gives watch.numbers watches.numbers in omega (arith, long, gives.fits)

    -- what is watched then
    module _ (grown : List Note) (more : WatchesMore new.state watch.notes grown places (length new.state.nodes - nodes)) where
      abbrev watched : Watch
      watched = record { notes = grown; numbers = put_in place numbers watch.numbers }

      pub watches_then : Watches clauses new.state watched
      watches_then = record {
        stands = more.stands;
        numbers = numbered_after (all_literals clauses) old.state new.state later places place numbers gives watch.numbers watches.numbers;
        settled = watches.settled ++ more.settled;
        apart = λ trees solves.
            (apart_parts trees watches.settled more.settled).1
            (watches.apart trees (solved_before old.state.equations new.state.equations later trees solves), more.apart trees solves);
        tells = λ root trees. (
          λ regular. let all = (apart_parts trees (pairs_of watch.notes ++ watches.settled) more_pairs).0 ((tells root trees).0 regular) in
              let first = (apart_parts trees (pairs_of watch.notes) watches.settled).0 all.0 in
              let next = (apart_parts trees more.more more.settled).0 ((more.tells trees).0 all.1) in
              (apart_parts trees (pairs_of grown) (watches.settled ++ more.settled)).1 (
                subst (AreApart trees) (sym more.added) ((apart_parts trees (pairs_of watch.notes) more.more).1 (first.0, next.0)),
                (apart_parts trees watches.settled more.settled).1 (first.1, next.1),
              ),
          λ apart. let all = (apart_parts trees (pairs_of grown) (watches.settled ++ more.settled)).0 apart in
              let noted = (apart_parts trees (pairs_of watch.notes) more.more).0 (subst (AreApart trees) more.added all.0) in
              let settled = (apart_parts trees watches.settled more.settled).0 all.1 in
              (tells root trees).1 ((apart_parts trees (pairs_of watch.notes ++ watches.settled) more_pairs).1 (
                (apart_parts trees (pairs_of watch.notes) watches.settled).1 (noted.0, settled.0),
                (more.tells trees).1 ((apart_parts trees more.more more.settled).1 (noted.1, settled.1)),
              )),
        );
      }

      pub grew_from : (mark : Watermark) → mark.notes ≡ length watch.notes → mark.place ≡ place → mark.count ≡ length numbers → GrewTo watch.notes grown
          → GrewFrom mark watch watched
      grew_from mark first at count grew = record {
        has = record {
          notes = omega (arith, first, ap length grew.is, length-append watch.notes grew.more);
          numbers = omega (arith, at, count, within_numbers, long_put_in place numbers watch.numbers);
        };
        back = λ k. record {
          notes = undone watch.notes grown (take mark.notes grown) mark.notes grew first refl k;
          numbers = (ap (λ p. take p (put_in place numbers watch.numbers) ++ drop (mark.place + mark.count) (put_in place numbers watch.numbers)) at
              ∙ cut_out place (mark.place + mark.count) numbers watch.numbers within_numbers (omega (arith, at, count))) k;
        };
      }

  pub none_labelled : RepeatsSome new.state watch.notes places (length new.state.nodes - nodes) → (t : Tableau)
      → IsLabelling clauses (built clauses (old.state.steps ++ step ∷ [])) t → ¬ IsRegular t
  none_labelled repeats t labelling regular =
      let steps = steps_taken clauses step old.state new.state taken.takes in
      let h = rooted_from clauses (built clauses old.state.steps) step may in
      let is_root : built clauses (old.state.steps ++ step ∷ []) ≡ rooted h.0 h.1 = fold_push (after_step clauses) empty old.state.steps step ∙ h.2 in
      let level : Level = plain_level old.problem Negative Depth 0 in
      let s = new.state.equations in
      let identical : HasIdentical s ((pairs_of watch.notes ++ watches.settled) ++ more_pairs) =
      λ all. let old_pairs = All-left (λ pair. ¬ AreIdentical s pair) (pairs_of watch.notes ++ watches.settled) more_pairs all in
      repeats (All-append (λ pair. ¬ AreIdentical s pair) (pairs_of watch.notes) more_pairs
      (All-left (λ pair. ¬ AreIdentical s pair) (pairs_of watch.notes) watches.settled old_pairs)
      (All-right (λ pair. ¬ AreIdentical s pair) (pairs_of watch.notes ++ watches.settled) more_pairs all)) in
      none_regular level new.state h.0 h.1 (subst (λ p. IsBuilt p new.state) taken.problem taken.built) (ap (built clauses) steps ∙ is_root)
      (general_repeats new.state h.0 ((pairs_of watch.notes ++ watches.settled) ++ more_pairs) tells identical) t
      (subst (λ s. IsLabelling clauses s t) is_root labelling) regular
