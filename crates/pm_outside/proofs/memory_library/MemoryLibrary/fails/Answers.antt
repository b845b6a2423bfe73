use Rattle.std.proofs.Common.{sym, ◌∙◌}
use Rattle.std.specs.FinSet.{contains-from_list_nat}
use Rattle.pm_outside.proofs.memory_library.MemoryLibrary.fails.Goals as goal

pub returns : goal.returns
returns c = rw (← c.self.view_is) (rw c.deref.ensures.value at c.contains.ensures.value ∙ sym (contains-from_list_nat c.self.inside.failing.items c.self.inside.calls))
