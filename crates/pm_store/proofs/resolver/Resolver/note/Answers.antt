use Rattle.std.proofs.Common.{◌∙◌, ap}
use Rattle.indexmap.proofs.CallerLemmas.{insert_entry-new}
use Rattle.pm_store.specs.contracts.store.AddrPartialEq.TheImpl as addr_eq
use Rattle.pm_store.specs.Resolved.{row_of}
use Rattle.pm_store.proofs.RowLemmas.{row_among-lookup}
use Rattle.pm_store.proofs.ResolvedLemmas.{with_row}
use Rattle.pm_store.proofs.resolver.Resolver.note.Goals as goal

pub returns-clause-ok : goal.returns-clause-ok
returns-clause-ok c =
    let none = row_among-lookup c.self.inside.rows.entries c.args.cell ∙ ap (λ r. row_of r c.args.cell) c.self.view_is ∙ c.requires in
    ap (λ es. record { rows = es; free = c.self.inside.free.items })
    (c.in_ok-insert.ensures.entries ∙ insert_entry-new (addr_eq.ghosts).eq c.self.inside.rows c.args.cell c.args.row none)
    ∙ ap (λ r. with_row r c.args.cell c.args.row) c.self.view_is
