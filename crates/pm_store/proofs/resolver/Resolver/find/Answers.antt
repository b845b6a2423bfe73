use Rattle.std.proofs.Common.{◌∙◌, ap}
use Rattle.pm_store.specs.Resolved.{row_of}
use Rattle.pm_store.proofs.RowLemmas.{row_among-lookup}
use Rattle.pm_store.proofs.resolver.Resolver.find.Goals as goal

pub returns : goal.returns
returns c =
    c.copied.ensures ∙ c.get.ensures.value ∙ row_among-lookup c.self.inside.rows.entries c.args.cell
    ∙ ap (λ r. row_of r c.args.cell) c.self.view_is
