use Rattle.std.proofs.Common.{◌≡◌, length, ◌∙◌, ap, ◌++◌, ◌∷◌, []}
use Rattle.pm_diseq.specs.Notes.{Kept, as_pair}
use Rattle.pm_diseq.proofs.EntryLemmas.{begun}
use Rattle.pm_diseq.proofs.pool.Pool.begin.Goals as goal

pub invariant_of-self-2 : goal.invariant_of-self-2
invariant_of-self-2 c =
    let starts : c.len-start.result ≡ length c.self.inside.cells.items = c.len-start.ensures ∙ c.self.inside.cells.ok.0 in
    (begun _ _ _ _ _ c.self.invariant c.requires _ _ _ _ _ c.in_ok-extend_from_slice.ensures.items c.in_default.ensures.items c.in_ok-reserve.ensures.items c.push_reserved.ensures.items starts).0

pub returns-clause-ok : goal.returns-clause-ok
returns-clause-ok c =
    let starts : c.len-start.result ≡ length c.self.inside.cells.items = c.len-start.ensures ∙ c.self.inside.cells.ok.0 in
    (begun _ _ _ _ _ c.self.invariant c.requires _ _ _ _ _ c.in_ok-extend_from_slice.ensures.items c.in_default.ensures.items c.in_ok-reserve.ensures.items c.push_reserved.ensures.items starts).1
    ∙ ap (λ pool. pool ++ Kept (as_pair c.args.left.now c.args.right.now) ∷ []) c.self.view_is
