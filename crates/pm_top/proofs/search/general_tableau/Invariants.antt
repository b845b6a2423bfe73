use Rattle.std.proofs.Common.{◌≡◌, take}
use Rattle.pm_tab.specs.Searched.{level_of}
use Rattle.pm_top.proofs.search.general_tableau.Given as goal

abbrev pub invariant-choices : goal.invariant-choices
invariant-choices l = (l.space.path ≡ take l.choice-index l.path) × (l.space.level ≡ level_of l.fn.maker l.level)
