use Rattle.std.proofs.Common.{◌<◌, length, sym, subst, ℕ}
use Rattle.pm_diseq.proofs.EntryLemmas.{previous_seen, waits_nowhere, length_seen, entry_read}
use Rattle.pm_diseq.proofs.pool.Pool.previous_at.Goals as goal

pub returns-in-Wait : goal.returns-in-Wait
returns-in-Wait c = λ v at_v.
    let within : c.args.place < length c.self.inside.log.items =
    subst (λ (n : ℕ). c.args.place < n) (length_seen c.self.inside.cells.items c.self.inside.log.items c.self.inside.newest.items c.args.self.now (sym c.self.view_is) c.self.invariant) c.requires in
    previous_seen c.self.inside.cells.items c.self.inside.log.items c.self.inside.newest.items c.args.self.now (sym c.self.view_is) c.self.invariant c.args.place v c.in-Wait.at c.in-Wait.span _
    (entry_read _ _ _ _ within c.index.ensures c.in-Wait.is) at_v

pub returns-in-Keep : goal.returns-in-Keep
returns-in-Keep c = λ v at_v.
    let within : c.args.place < length c.self.inside.log.items =
    subst (λ (n : ℕ). c.args.place < n) (length_seen c.self.inside.cells.items c.self.inside.log.items c.self.inside.newest.items c.args.self.now (sym c.self.view_is) c.self.invariant) c.requires in
    absurd (waits_nowhere c.self.inside.cells.items c.self.inside.log.items c.self.inside.newest.items c.args.self.now (sym c.self.view_is) c.self.invariant c.args.place v c.in-Keep.field-0
    (entry_read _ _ _ _ within c.index.ensures c.in-Keep.is) at_v)
