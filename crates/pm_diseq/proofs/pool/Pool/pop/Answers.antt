use Rattle.std.proofs.Common.{ℕ, set, subst, sym, ◌∙◌, arith}
use Rattle.pm_diseq.specs.Inside.Entries.{AreHeld}
use Rattle.pm_diseq.proofs.EntryLemmas.{popped_wait, popped_keep, notes_popped}
use Rattle.pm_diseq.proofs.pool.Pool.pop.Goals as goal

pub invariant_of-self : goal.invariant_of-self
invariant_of-self c =
    (popped_keep c.self.inside.cells.items _ c.self.inside.log.items _ _ c.in-Some.entry c.in-Keep.span c.self.invariant c.in-Some.ensures.items c.in-Keep.is c.truncate.ensures.items).0

pub index_mut-requires : goal.index_mut-requires
index_mut-requires c =
    let more = popped_wait c.self.inside.cells.items c.self.inside.log.items _ c.self.inside.newest.items c.in-Some.entry c.in-Wait.span c.in-Wait.at c.in-Wait.previous c.self.invariant c.in-Some.ensures.items c.in-Wait.is in
    omega (arith, more.0, c.number.ensures, c.self.inside.newest.ok.0)

pub invariant_of-self-in-Wait : goal.invariant_of-self-in-Wait
invariant_of-self-in-Wait c =
    let more = popped_wait c.self.inside.cells.items c.self.inside.log.items _ c.self.inside.newest.items c.in-Some.entry c.in-Wait.span c.in-Wait.at c.in-Wait.previous c.self.invariant c.in-Some.ensures.items c.in-Wait.is in
    subst (λ (n : ℕ). AreHeld c.self.inside.cells.items c.pop.new.self.items (set c.self.inside.newest.items n c.in-Wait.previous)) (sym c.number.ensures) more.1

pub returns-in-Keep : goal.returns-in-Keep
returns-in-Keep c =
    (popped_keep c.self.inside.cells.items _ c.self.inside.log.items _ _ c.in-Some.entry c.in-Keep.span c.self.invariant c.in-Some.ensures.items c.in-Keep.is c.truncate.ensures.items).1
    ∙ sym (notes_popped c.self.inside.cells.items c.self.inside.log.items _ c.in-Some.entry c.args.self.now c.in-Some.ensures.items (sym c.self.view_is))
