use Rattle.std.proofs.Common.{[], get_or, ◌∙◌, ap}
use Rattle.pm_contra.specs.Index.{Index, heads_in}
use Rattle.pm_contra.specs.Inside.Ranges.{ranges}
use Rattle.pm_contra.proofs.RangeLemmas.{range_at}
use Rattle.pm_contra.proofs.index.Contras.heads.Goals as goal

pub returns : goal.returns
returns c =
    let inside = c.self.inside in
    range_at inside.heads.items c.deref.result.now inside.ends.items c.face_number.result c.range-start.result.0 c.range-start.result.1 c.deref.ensures.value c.range-start.ensures.start c.range-start.ensures.end
    ∙ ap (λ n. get_or (ranges 0 inside.ends.items inside.heads.items) n []) c.face_number.ensures
    ∙ ap (λ (index : Index). heads_in index (record { positive = c.args.positive; predicate = c.args.predicate })) c.self.view_is
