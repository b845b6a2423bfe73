use Rattle.std.proofs.Common.{◌≡◌, ◌*◌, length, map, ◌∙◌, ap, arith}
use Rattle.pm_contra.specs.Index.{top_at}
use Rattle.pm_contra.proofs.IndexLemmas.{few_faces, are_laid, are_index}
use Rattle.pm_contra.proofs.index.Contras.new.Goals as goal

pub sort_by_face-requires-clause-faces : goal.sort_by_face-requires-clause-faces
sort_by_face-requires-clause-faces c =
    few_faces _ _ _ _ c.in_ok-entries.ensures.faces c.deref.ensures.value (c.len.ensures.count ∙ ap length c.symbols.ensures)

pub sort_by_face-requires-clause-few : goal.sort_by_face-requires-clause-few
sort_by_face-requires-clause-few c = omega (arith, c.in_ok-entries.ensures.few, ap length c.deref.ensures.value)

pub invariant_of-result : goal.invariant_of-result
invariant_of-result c =
    let clauses = c.args.problem.now.clauses in
    let hs = c.in_ok-sorted.sorted.heads.items in
    let e0 : c.in_ok-column.field-0.items ≡ map (top_at clauses 0) hs =
    c.in_ok-column.ensures ∙ ap (map (top_at clauses 0)) c.deref-2.ensures.value in
    let e1 : c.in_ok-column-2.field-0.items ≡ map (top_at clauses 1) hs =
    c.in_ok-column-2.ensures ∙ ap (map (top_at clauses 1)) c.deref-3.ensures.value in
    let e2 : c.in_ok-column-3.field-0.items ≡ map (top_at clauses 2) hs =
    c.in_ok-column-3.ensures ∙ ap (map (top_at clauses 2)) c.deref-4.ensures.value in
    let e3 : c.in_ok-column-4.field-0.items ≡ map (top_at clauses 3) hs =
    c.in_ok-column-4.ensures ∙ ap (map (top_at clauses 3)) c.deref-5.ensures.value in
    are_laid c.deref.result.now (2 * c.len.result) hs c.in_ok-sorted.sorted.ends.items (top_at clauses) _ _ _ _ c.in_ok-sorted.ensures e0 e1 e2 e3

pub returns : goal.returns
returns c =
    let clauses = c.args.problem.now.clauses in
    let hs = c.in_ok-sorted.sorted.heads.items in
    let e0 : c.in_ok-column.field-0.items ≡ map (top_at clauses 0) hs =
    c.in_ok-column.ensures ∙ ap (map (top_at clauses 0)) c.deref-2.ensures.value in
    let e1 : c.in_ok-column-2.field-0.items ≡ map (top_at clauses 1) hs =
    c.in_ok-column-2.ensures ∙ ap (map (top_at clauses 1)) c.deref-3.ensures.value in
    let e2 : c.in_ok-column-3.field-0.items ≡ map (top_at clauses 2) hs =
    c.in_ok-column-3.ensures ∙ ap (map (top_at clauses 2)) c.deref-4.ensures.value in
    let e3 : c.in_ok-column-4.field-0.items ≡ map (top_at clauses 3) hs =
    c.in_ok-column-4.ensures ∙ ap (map (top_at clauses 3)) c.deref-5.ensures.value in
    let each = few_faces _ _ _ _ c.in_ok-entries.ensures.faces c.deref.ensures.value (c.len.ensures.count ∙ ap length c.symbols.ensures) in
    are_index clauses (2 * c.len.result) hs c.in_ok-sorted.sorted.ends.items c.deref.result.now _ _ _ _ (c.deref.ensures.value ∙ c.in_ok-entries.ensures.all) c.in_ok-sorted.ensures each e0 e1 e2 e3
