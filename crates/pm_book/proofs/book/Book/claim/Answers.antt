use Rattle.std.proofs.Common.{◌≡◌, ◌∙◌, ℕ, ap, subst, sym, refl, true}
use Rattle.std.specs.Prelude.{None, Contains, ◌==◌}
use Rattle.pm_book.specs.declared.event.Event.TheVariants.{Claimed}
use Rattle.pm_book.specs.Rows.{BookState, Row, is_queued}
use Rattle.pm_book.specs.Steps.{step}
use Rattle.pm_book.specs.Shown.{row_seen}
use Rattle.pm_book.specs.Inside.Seen.{seen}
use Rattle.pm_book.specs.Answers.{IsQueuedAt}
use Rattle.pm_book.proofs.OrderTests.{same_is}
use Rattle.pm_book.proofs.BookLemmas.{always_of, sound_step, none_numbered, spot_unique, queued_at, any_err, started, ready}
use Rattle.pm_book.proofs.book.Book.claim.Goals as goal

pub returns-in_default-clause-ok : goal.returns-in_default-clause-ok
returns-in_default-clause-ok c =
    (λ queued. none_numbered c.self.inside.tables c.args.row c.in_default.ensures queued.0 (subst (λ (b : BookState). Contains b.rows queued.0) (sym c.self.view_is) queued.1) queued.2, refl)

pub returns-then-not-is_queued-clause-ok : goal.returns-then-not-is_queued-clause-ok
returns-then-not-is_queued-clause-ok c =
    let old = c.self.inside.tables in
    let spot = c.in-Some.spot in (
      λ queued.
          let same : row_seen old.cuts.items spot.row ≡ queued.0 =
          spot_unique old spot (always_of old c.self.invariant) c.in-Some.ensures.there queued.0 (subst (λ (b : BookState). Contains b.rows queued.0) (sym c.self.view_is) queued.1)
          (queued.2 ∙ sym (same_is spot.row.number c.args.row c.in-Some.ensures.passes)) in
          let here : is_queued spot.row.state ≡ true = ap (λ (r : Row). is_queued r.state) same ∙ queued.3 in
          absurd (let told = c.is_queued.ensures in let not = c.if-not-is_queued.true in cc),
      refl,
    )

pub returns-in_err-make_room-clause-err : goal.returns-in_err-make_room-clause-err
returns-in_err-make_room-clause-err c =
    let queued = queued_at c.self.inside.tables c.in-Some.spot c.args.row c.in-Some.ensures (sym c.is_queued.ensures ∙ c.if-not-is_queued.false) in
    any_err c.from_residual.result (subst (λ (b : BookState). IsQueuedAt b c.args.row) c.self.view_is queued, c.in_err-make_room.ensures.seen ∙ c.self.view_is)

pub ticket_of-requires-clause-places : goal.ticket_of-requires-clause-places
ticket_of-requires-clause-places c =
    let room = c.in_ok-make_room.ensures in
    (ready c.self.inside.tables c.make_room.new.self (λ row. row.number == c.args.row) c.in-Some.spot c.self.invariant c.in-Some.ensures room.kept room.rows room.seen).places

pub ticket_of-requires-clause-interval : goal.ticket_of-requires-clause-interval
ticket_of-requires-clause-interval c =
    let room = c.in_ok-make_room.ensures in
    (ready c.self.inside.tables c.make_room.new.self (λ row. row.number == c.args.row) c.in-Some.spot c.self.invariant c.in-Some.ensures room.kept room.rows room.seen).interval

pub returns-in_err-ticket-clause-err : goal.returns-in_err-ticket-clause-err
returns-in_err-ticket-clause-err c =
    let queued = queued_at c.self.inside.tables c.in-Some.spot c.args.row c.in-Some.ensures (sym c.is_queued.ensures ∙ c.if-not-is_queued.false) in
    any_err c.from_residual-in_err-ticket.result (subst (λ (b : BookState). IsQueuedAt b c.args.row) c.self.view_is queued, c.in_ok-make_room.ensures.seen ∙ c.self.view_is)

pub invariant_of-self-2 : goal.invariant_of-self-2
invariant_of-self-2 c =
    let room = c.in_ok-make_room.ensures in
    let made = ready c.self.inside.tables c.make_room.new.self (λ row. row.number == c.args.row) c.in-Some.spot c.self.invariant c.in-Some.ensures room.kept room.rows room.seen in
    sound_step c.make_room.new.self c.claim.new.self (Claimed c.args.worker c.in-Some.spot.row.number) None made.sound c.claim.ensures.kept c.claim.ensures.step

pub returns-clause-ok : goal.returns-clause-ok
returns-clause-ok c =
    let old = c.self.inside.tables in
    let mid = c.make_room.new.self in
    let spot = c.in-Some.spot in
    let room = c.in_ok-make_room.ensures in
    let made = ready old mid (λ row. row.number == c.args.row) spot c.self.invariant c.in-Some.ensures room.kept room.rows room.seen in
    let number : spot.row.number ≡ c.args.row = same_is spot.row.number c.args.row c.in-Some.ensures.passes in (
      subst (λ (b : BookState). IsQueuedAt b c.args.row) c.self.view_is (queued_at old spot c.args.row c.in-Some.ensures (sym c.is_queued.ensures ∙ c.if-not-is_queued.false)),
      started c.args.self.now mid c.claim.new.self spot (λ row. row.number == c.args.row) (Claimed c.args.worker c.args.row) c.in_ok-ticket.ticket (room.seen ∙ c.self.view_is) (λ r. refl) made.first c.in_ok-ticket.ensures
          (ap (λ (n : ℕ). step (seen mid) (Claimed c.args.worker n) None) (sym number) ∙ c.claim.ensures.step),
    )

pub find_number-requires-clause-always : goal.find_number-requires-clause-always
find_number-requires-clause-always c = always_of c.self.inside.tables c.self.invariant
