-- Terms with the terms of a list put for their variables.
use Rattle.std.specs.Prelude.{List}
use Rattle.pm_logic.specs.Term.{Term, Terms}
use Rattle.pm_logic.specs.Filling.{fill_among, term_for}

abbrev pub put_among : List Term → Terms → Terms
put_among terms = fill_among (term_for terms)
