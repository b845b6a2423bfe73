use Rattle.std.proofs.Common.{◌≤◌, [], length, map, get_or, ◌∙◌, ap, arith}
use Rattle.pm_contra.specs.Index.{Index, column_in}
use Rattle.pm_contra.specs.Inside.Ranges.{ranges}
use Rattle.pm_contra.proofs.RangeLemmas.{column_within, column_at}
use Rattle.pm_contra.proofs.index.Contras.column.Goals as goal

pub offset_bounds-deref-start : goal.offset_bounds-deref-start
offset_bounds-deref-start c =
    let inside = c.self.inside in
    let within = column_within (λ v. v.items) inside.columns inside.ends.items inside.heads.items c.args.q c.face_number.result c.index-self-q.result c.deref.result.now c.self.invariant c.requires c.deref.ensures.value in
    omega (arith, within, c.deref.type_inv, c.range-start.ensures.start)

pub slice_bounds-result-end : goal.slice_bounds-result-end
slice_bounds-result-end c =
    let inside = c.self.inside in
    let within = column_within (λ v. v.items) inside.columns inside.ends.items inside.heads.items c.args.q c.face_number.result c.index-self-q.result c.deref.result.now c.self.invariant c.requires c.deref.ensures.value in
    let high : c.range-start.result.1 ≤ length c.deref.result.now = omega (arith, within, c.range-start.ensures.end) in
    high

pub returns : goal.returns
returns c =
    let inside = c.self.inside in
    let within = column_within (λ v. v.items) inside.columns inside.ends.items inside.heads.items c.args.q c.face_number.result c.index-self-q.result c.deref.result.now c.self.invariant c.requires c.deref.ensures.value in
    column_at (λ v. v.items) inside.columns inside.ends.items c.args.q c.face_number.result c.range-start.result.0 c.range-start.result.1 c.index-self-q.result c.deref.result.now within.0 c.deref.ensures.value c.range-start.ensures.start c.range-start.ensures.end
    ∙ ap (λ n. get_or (get_or (map (λ v. ranges 0 inside.ends.items v.items) inside.columns) c.args.q []) n []) c.face_number.ensures
    ∙ ap (λ (index : Index). column_in index c.args.q (record { positive = c.args.positive; predicate = c.args.predicate })) c.self.view_is
