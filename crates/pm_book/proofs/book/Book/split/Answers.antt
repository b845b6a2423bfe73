use Rattle.std.proofs.Common.{◌≡◌, ◌∙◌, ℕ, List, ap, subst, sym, refl, length}
use Rattle.std.specs.Prelude.{Some}
use Rattle.std.proofs.lemmas.List.{length-map}
use Rattle.pm_choice.specs.Order.{Precedes}
use Rattle.pm_book.specs.declared.event.Event.TheVariants.{Split}
use Rattle.pm_book.specs.Rows.{BookState, Span, is_before, is_below}
use Rattle.pm_book.specs.Steps.{step}
use Rattle.pm_book.specs.Shown.{row_seen}
use Rattle.pm_book.specs.Inside.Seen.{seen}
use Rattle.pm_book.specs.Answers.{Knows}
use Rattle.pm_book.proofs.OrderTests.{before_is, below_is}
use Rattle.pm_book.proofs.BookLemmas.{always_of, sound_step, sound_same, same_spot, known, any_err, inside_is, outside_is, span_to}
use Rattle.pm_book.proofs.book.Book.split.Goals as goal

pub locate-requires-clause-always : goal.locate-requires-clause-always
locate-requires-clause-always c = always_of c.self.inside.tables c.self.invariant

pub returns-then-not-is_inside-clause-ok : goal.returns-then-not-is_inside-clause-ok
returns-then-not-is_inside-clause-ok c = (
  subst (λ (b : BookState). Knows b c.args.ticket.now) c.self.view_is (known c.self.inside.tables c.args.ticket.now c.in-Some.spot c.in-Some.ensures),
  outside_is c.args.ticket.now c.args.mid.now (sym c.is_inside.ensures ∙ c.if-not-is_inside.true),
  refl,
  refl,
)

pub returns-in_err-make_room-clause-err : goal.returns-in_err-make_room-clause-err
returns-in_err-make_room-clause-err c =
    any_err c.from_residual.result (
      subst (λ (b : BookState). Knows b c.args.ticket.now) c.self.view_is (known c.self.inside.tables c.args.ticket.now c.in-Some.spot c.in-Some.ensures),
      inside_is c.args.ticket.now c.args.mid.now (sym c.is_inside.ensures ∙ c.if-not-is_inside.false),
      c.in_err-make_room.ensures.seen ∙ c.self.view_is,
      refl,
    )

pub returns-in_err-cut-clause-err : goal.returns-in_err-cut-clause-err
returns-in_err-cut-clause-err c =
    any_err c.from_residual-in_err-cut.result (
      subst (λ (b : BookState). Knows b c.args.ticket.now) c.self.view_is (known c.self.inside.tables c.args.ticket.now c.in-Some.spot c.in-Some.ensures),
      inside_is c.args.ticket.now c.args.mid.now (sym c.is_inside.ensures ∙ c.if-not-is_inside.false),
      c.in_ok-make_room.ensures.seen ∙ c.self.view_is,
      refl,
    )

pub returns-in_err-to-clause-err : goal.returns-in_err-to-clause-err
returns-in_err-to-clause-err c =
    any_err c.from_residual-in_err-to.result (
      subst (λ (b : BookState). Knows b c.args.ticket.now) c.self.view_is (known c.self.inside.tables c.args.ticket.now c.in-Some.spot c.in-Some.ensures),
      inside_is c.args.ticket.now c.args.mid.now (sym c.is_inside.ensures ∙ c.if-not-is_inside.false),
      c.in_ok-make_room.ensures.seen ∙ c.self.view_is,
      refl,
    )

pub split-requires-clause-from : goal.split-requires-clause-from
split-requires-clause-from c =
    let mid = c.make_room.new.self in
    let spot-is = same_spot c.self.inside.tables mid c.args.ticket.now c.in-Some.spot c.in_ok-make_room.ensures.rows c.in_ok-make_room.ensures.seen c.in-Some.ensures in
    let inside = inside_is c.args.ticket.now c.args.mid.now (sym c.is_inside.ensures ∙ c.if-not-is_inside.false) in
    ap (λ (s : Span). is_before s.from c.in_ok-cut.cut) spot-is.is ∙ ap (λ (l : List ℕ). is_before c.args.ticket.now.from l) c.in_ok-cut.ensures ∙ (before_is c.args.ticket.now.from c.args.mid.now).1 inside.0

pub split-requires-clause-to : goal.split-requires-clause-to
split-requires-clause-to c =
    let mid = c.make_room.new.self in
    let spot-is = same_spot c.self.inside.tables mid c.args.ticket.now c.in-Some.spot c.in_ok-make_room.ensures.rows c.in_ok-make_room.ensures.seen c.in-Some.ensures in
    let inside = inside_is c.args.ticket.now c.args.mid.now (sym c.is_inside.ensures ∙ c.if-not-is_inside.false) in
    ap (λ (s : Span). is_below c.in_ok-cut.cut s.to) spot-is.is ∙ ap (λ (l : List ℕ). is_below l c.args.ticket.now.to) c.in_ok-cut.ensures ∙ (below_is c.args.mid.now c.args.ticket.now.to).1 inside.1

pub invariant_of-self-2 : goal.invariant_of-self-2
invariant_of-self-2 c =
    let mid = c.make_room.new.self in
    let sound = sound_same c.self.inside.tables mid c.self.invariant c.in_ok-make_room.ensures.kept c.in_ok-make_room.ensures.seen in
    sound_step mid c.split.new.self (Split c.in-Some.spot.row.number (length mid.cuts.items)) (Some c.in_ok-cut.cut) sound c.split.ensures.kept c.split.ensures.step

pub invariant_of-ticket : goal.invariant_of-ticket
invariant_of-ticket c =
    let inside = inside_is c.args.ticket.now c.args.mid.now (sym c.is_inside.ensures ∙ c.if-not-is_inside.false) in
    subst (λ (l : List ℕ). Precedes c.ticket.inside.from l) (sym c.in_ok-to.ensures) (subst (λ (s : Span). Precedes s.from c.args.mid.now) (sym c.ticket.view_is) inside.0)

pub returns-clause-ok : goal.returns-clause-ok
returns-clause-ok c =
    let mid = c.make_room.new.self in
    let ticket = c.args.ticket.now in
    let spot-is = same_spot c.self.inside.tables mid ticket c.in-Some.spot c.in_ok-make_room.ensures.rows c.in_ok-make_room.ensures.seen c.in-Some.ensures in
    let mid-is : seen mid ≡ c.args.self.now = c.in_ok-make_room.ensures.seen ∙ c.self.view_is in (
      subst (λ (b : BookState). Knows b ticket) c.self.view_is (known c.self.inside.tables ticket c.in-Some.spot c.in-Some.ensures),
      inside_is ticket c.args.mid.now (sym c.is_inside.ensures ∙ c.if-not-is_inside.false),
      subst (λ (b : BookState). step b (Split ticket.number (length b.cuts)) (Some c.args.mid.now) ≡ Some (seen c.split.new.self)) mid-is
          (ap (λ (l : List ℕ). step (seen mid) (Split ticket.number (length mid.cuts.items)) (Some l)) (sym c.in_ok-cut.ensures)
          ∙ ap (λ (s : Span). step (seen mid) (Split s.number (length mid.cuts.items)) (Some c.in_ok-cut.cut)) (sym spot-is.is) ∙ c.split.ensures.step),
      c.len-row.ensures ∙ mid.rows.ok.0 ∙ sym (length-map mid.rows.items (row_seen mid.cuts.items)) ∙ ap (λ (b : BookState). length b.rows) mid-is,
      ap (span_to c.ticket.inside.number c.ticket.inside.from) c.in_ok-to.ensures ∙ ap (λ (s : Span). span_to s.number s.from c.args.mid.now) c.ticket.view_is,
    )
