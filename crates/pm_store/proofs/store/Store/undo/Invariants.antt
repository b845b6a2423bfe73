use Rattle.std.proofs.Common.{◌≡◌, ◌++◌, ◌≤◌, List, length}
use Rattle.pm_store.specs.Equations.{Binding}
use Rattle.pm_store.specs.Inside.Stored.{bindings_of}
use Rattle.pm_store.specs.Inside.Slots.{entries_of, targets_of, IsFlat}
use Rattle.pm_store.proofs.store.Store.undo.Given as goal

abbrev pub invariant-loop-self : goal.invariant-loop-self
invariant-loop-self l = record {
  flat : IsFlat l.self-inside.slots.items l.self-inside.args.items l.self-inside.trail.items;
  cells : entries_of l.self-inside.args.items l.self-inside.slots.items ≡ entries_of l.initial.self-inside.args.items l.initial.self-inside.slots.items;
  bindings : (undone : List Binding) × (bindings_of (targets_of l.initial.self-inside.slots.items) l.initial.self-inside.trail.items
      ≡ undone ++ bindings_of (targets_of l.self-inside.slots.items) l.self-inside.trail.items);
  count : l.mark-inside.bindings ≤ length l.self-inside.trail.items;
}

abbrev pub decreases-loop-self : goal.decreases-loop-self
decreases-loop-self l = length l.self-inside.trail.items
