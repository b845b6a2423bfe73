use Rattle.std.proofs.Common.{map, sym, subst}
use Rattle.pm_cnf.specs.Inside.Parsed.{item_of}
use Rattle.pm_cnf.specs.Inside.Readable.{AreReadable}
use Rattle.pm_cnf.proofs.parsed.Progressing.{read_readable}
use Rattle.pm_cnf.proofs.reading.read.Goals as goal

pub number_items-requires : goal.number_items-requires
number_items-requires c =
    subst (λ items. AreReadable (map item_of items)) (sym c.deref.ensures.value)
    (read_readable _ _ _ c.requires.usual c.requires.short c.in_ok-items.ensures.read)
