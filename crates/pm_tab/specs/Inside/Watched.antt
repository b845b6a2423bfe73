-- What is watched, so that no branch has a literal twice.
use Rattle.std.specs.Prelude.{◌≡◌, ℕ, ◌+◌, ◌≤◌, List, [], ◌++◌, length, map, take, drop}
use Rattle.pm_logic.specs.Term.{Term}
use Rattle.pm_logic.specs.Problem.{Clause}
use Rattle.pm_logic.specs.declared.problem.Class.{Class}
use Rattle.pm_logic.specs.declared.problem.Class.TheVariants.{Plain, Regular}
use Rattle.pm_store.specs.Solutions.{Solves}
use Rattle.pm_diseq.specs.Notes.{Pair, Note, pairs_of}
use Rattle.pm_diseq.specs.Standing.{StandsAt}
use Rattle.pm_machine.specs.State.{MachineState}
use Rattle.pm_tab.specs.Repeats.{AreApart, TellsRepeats}
use Rattle.pm_tab.specs.Inside.Numbering.{all_literals, AreNumberedBy}
use Rattle.pm_tab.specs.declared.repeats.Watermark.{Watermark}

-- the notes of a pool, and a number for each node
pub record Watch : Type 0 where
  pub notes : List Note
  pub numbers : List ℕ

abbrev pub no_watch : Watch
no_watch = record { notes = []; numbers = [] }

-- The pool stands at the machine's store, and the numbers are those of the nodes' literals. With
-- pairs that are apart in whatever solution, those of the pool tell of the machine's nodes.
pub record Watches (clauses : List Clause) (m : MachineState) (watch : Watch) : Type 0 where
  pub stands : StandsAt m.equations watch.notes
  pub numbers :
      AreNumberedBy (all_literals clauses) m.equations (map (λ node. node.literal) m.nodes)
      watch.numbers
  pub settled : List Pair
  pub apart : (trees : ℕ → Term) → Solves m.equations trees → AreApart trees settled
  pub tells : TellsRepeats m.nodes (pairs_of watch.notes ++ settled)

-- in the class plain nothing is watched
abbrev pub WatchesFor : Class → List Clause → MachineState → Watch → Type 0
WatchesFor Plain clauses m watch = watch ≡ no_watch
WatchesFor Regular clauses m watch = Watches clauses m watch

-- without the notes after the mark, and without the numbers that came in there
abbrev pub unwatched : Watermark → Watch → Watch
unwatched mark watch = record {
  notes = take mark.notes watch.notes;
  numbers = take mark.place watch.numbers ++ drop (mark.place + mark.count) watch.numbers;
}

-- there is as much as the mark tells
pub record HasWatermark (mark : Watermark) (watch : Watch) : Type 0 where
  pub notes : mark.notes ≤ length watch.notes
  pub numbers : mark.place + mark.count ≤ length watch.numbers

-- what is watched has grown from what was, which the mark gives back
pub record GrewFrom (mark : Watermark) (watch grown : Watch) : Type 0 where
  pub has : HasWatermark mark grown
  pub back : unwatched mark grown ≡ watch
