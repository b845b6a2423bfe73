use Rattle.std.proofs.Common.{◌<◌, length, List, sym, subst, ◌∙◌, arith}
use Rattle.pm_diseq.specs.declared.entries.Entry.{Entry}
use Rattle.pm_diseq.specs.Inside.Entries.{AreHeld}
use Rattle.pm_diseq.proofs.EntryLemmas.{held_room, waited}
use Rattle.pm_diseq.proofs.pool.Pool.wait.Goals as goal

pub invariant_of-self-in_err-push : goal.invariant_of-self-in_err-push
invariant_of-self-in_err-push c =
    subst (λ (log : List Entry). AreHeld c.self.inside.cells.items log c.make_room.new.newest.items) (sym c.in_err-push.ensures.items)
    (held_room _ _ _ _ c.self.invariant c.in_ok-make_room.ensures.same)

pub invariant_of-self-2 : goal.invariant_of-self-2
invariant_of-self-2 c =
    let room : c.number-number.result < length c.make_room.new.newest.items = omega (arith, c.in_ok-make_room.ensures.ok, c.make_room.new.newest.ok.0) in
    waited c.self.inside.cells.items c.self.inside.log.items c.self.inside.newest.items _ c.args.self.now (sym c.self.view_is) c.self.invariant c.in_ok-make_room.ensures.same
    c.args.place c.requires.place _ c.index.ensures c.span.result c.span.ensures _ c.args.v _ c.in_ok-push.ensures.items _ _ c.number-number.ensures room c.index-2.ensures
    (c.len-next.ensures ∙ c.self.inside.log.ok.0)
