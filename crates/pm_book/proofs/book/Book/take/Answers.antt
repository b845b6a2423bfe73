use Rattle.std.proofs.Common.{◌≡◌, ◌∙◌, ℕ, ap, subst, refl}
use Rattle.std.specs.Prelude.{None}
use Rattle.pm_book.specs.declared.event.Event.TheVariants.{Took}
use Rattle.pm_book.specs.Rows.{BookState, Span, is_queued}
use Rattle.pm_book.specs.Steps.{step}
use Rattle.pm_book.specs.Inside.Seen.{seen}
use Rattle.pm_book.specs.Answers.{IsBookOver, NoneQueued}
use Rattle.pm_book.proofs.BookLemmas.{sound_step, any_err, started, not_over, none_queued, one_queued, ready}
use Rattle.pm_book.proofs.book.Book.take.Goals as goal

pub returns-in_default-clause-ok : goal.returns-in_default-clause-ok
returns-in_default-clause-ok c =
    let old = c.self.inside.tables in (
      subst (λ (b : BookState). ¬ IsBookOver b) c.self.view_is (not_over old c.is_over.result c.is_over.ensures c.if-is_over.false),
      subst NoneQueued c.self.view_is (none_queued old c.in_default.ensures),
      refl,
    )

pub returns-in_err-make_room-clause-err : goal.returns-in_err-make_room-clause-err
returns-in_err-make_room-clause-err c =
    let old = c.self.inside.tables in
    let first = c.in-Some.ensures in
    any_err c.from_residual.result (
      subst (λ (b : BookState). ¬ IsBookOver b) c.self.view_is (not_over old c.is_over.result c.is_over.ensures c.if-is_over.false),
      subst (λ (b : BookState). ¬ NoneQueued b) c.self.view_is (one_queued old c.in-Some.spot first.there first.passes),
      c.in_err-make_room.ensures.seen ∙ c.self.view_is,
    )

pub ticket_of-requires-clause-places : goal.ticket_of-requires-clause-places
ticket_of-requires-clause-places c =
    let old = c.self.inside.tables in
    let room = c.in_ok-make_room.ensures in
    (ready old c.make_room.new.self (λ row. is_queued row.state) c.in-Some.spot c.self.invariant c.in-Some.ensures room.kept room.rows room.seen).places

pub ticket_of-requires-clause-interval : goal.ticket_of-requires-clause-interval
ticket_of-requires-clause-interval c =
    let old = c.self.inside.tables in
    let room = c.in_ok-make_room.ensures in
    (ready old c.make_room.new.self (λ row. is_queued row.state) c.in-Some.spot c.self.invariant c.in-Some.ensures room.kept room.rows room.seen).interval

pub returns-in_err-ticket-clause-err : goal.returns-in_err-ticket-clause-err
returns-in_err-ticket-clause-err c =
    let old = c.self.inside.tables in
    let first = c.in-Some.ensures in
    any_err c.from_residual-in_err-ticket.result (
      subst (λ (b : BookState). ¬ IsBookOver b) c.self.view_is (not_over old c.is_over.result c.is_over.ensures c.if-is_over.false),
      subst (λ (b : BookState). ¬ NoneQueued b) c.self.view_is (one_queued old c.in-Some.spot first.there first.passes),
      c.in_ok-make_room.ensures.seen ∙ c.self.view_is,
    )

pub invariant_of-self-2 : goal.invariant_of-self-2
invariant_of-self-2 c =
    let old = c.self.inside.tables in
    let mid = c.make_room.new.self in
    let room = c.in_ok-make_room.ensures in
    let made = ready old mid (λ row. is_queued row.state) c.in-Some.spot c.self.invariant c.in-Some.ensures room.kept room.rows room.seen in
    sound_step mid c.take.new.self (Took c.args.worker c.in-Some.spot.row.number) None made.sound c.take.ensures.kept c.take.ensures.step

pub returns-clause-ok : goal.returns-clause-ok
returns-clause-ok c =
    let old = c.self.inside.tables in
    let mid = c.make_room.new.self in
    let spot = c.in-Some.spot in
    let room = c.in_ok-make_room.ensures in
    let made = ready old mid (λ row. is_queued row.state) spot c.self.invariant c.in-Some.ensures room.kept room.rows room.seen in
    let number : c.in_ok-ticket.ticket.number ≡ spot.row.number = ap (λ (s : Span). s.number) c.in_ok-ticket.ensures in (
      subst (λ (b : BookState). ¬ IsBookOver b) c.self.view_is (not_over old c.is_over.result c.is_over.ensures c.if-is_over.false),
      started c.args.self.now mid c.take.new.self spot (λ row. is_queued row.state) (Took c.args.worker c.in_ok-ticket.ticket.number) c.in_ok-ticket.ticket (room.seen ∙ c.self.view_is) (λ r. refl) made.first c.in_ok-ticket.ensures
          (ap (λ (n : ℕ). step (seen mid) (Took c.args.worker n) None) number ∙ c.take.ensures.step),
    )
