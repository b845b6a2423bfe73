use Rattle.std.proofs.Common.{◌≡◌, ◌∙◌, ℕ, List, ap, subst, sym, true, false, length}
use Rattle.std.specs.Prelude.{Some}
use Rattle.std.specs.Option.{unwrap_or}
use Rattle.pm_choice.specs.Order.{IsWithin}
use Rattle.pm_book.specs.declared.event.Event.TheVariants.{Returned}
use Rattle.pm_book.specs.declared.ticket.Ended.TheVariants.{Kept, Dropped}
use Rattle.pm_book.specs.Rows.{BookState, Span}
use Rattle.pm_book.specs.Inside.Seen.{seen}
use Rattle.pm_book.specs.Answers.{HasEnded}
use Rattle.pm_book.proofs.BookLemmas.{always_of, sound_step, end_fact, may_give}
use Rattle.pm_book.proofs.book.Book.give_back.Goals as goal

pub locate-requires-clause-always : goal.locate-requires-clause-always
locate-requires-clause-always c = always_of c.self.inside.tables c.self.invariant

pub give_back-requires-clause-may : goal.give_back-requires-clause-may
give_back-requires-clause-may c =
    let cut-is : c.returned_at-cut.result ≡ unwrap_or c.args.at c.args.ticket.from = c.returned_at-cut.ensures ∙ ap (λ (s : Span). unwrap_or c.args.at s.from) c.ticket.view_is in
    may_give c.self.inside.tables c.args.ticket c.in-Some.spot c.returned_at-cut.result c.args.work c.in-Some.ensures
    (subst (λ (l : List ℕ). IsWithin c.args.ticket.from c.args.ticket.to l) (sym cut-is) c.requires.within) (λ e. c.requires.work (sym cut-is ∙ e))

pub invariant_of-self : goal.invariant_of-self
invariant_of-self c =
    sound_step c.self.inside.tables c.give_back.new.self (Returned c.in-Some.spot.row.number (length c.self.inside.tables.cuts.items) c.args.work) (Some c.returned_at-cut.result) c.self.invariant c.give_back.ensures.kept c.give_back.ensures.step

pub returns-then-give_back : goal.returns-then-give_back
returns-then-give_back c =
    let cut-is : c.returned_at-cut.result ≡ unwrap_or c.args.at c.args.ticket.from = c.returned_at-cut.ensures ∙ ap (λ (s : Span). unwrap_or c.args.at s.from) c.ticket.view_is in
    subst (λ (b : BookState). HasEnded b c.args.ticket (Returned c.args.ticket.number (length b.cuts) c.args.work) (Some (unwrap_or c.args.at c.args.ticket.from)) (seen c.give_back.new.self) Dropped) c.self.view_is
    (subst (λ (l : List ℕ). HasEnded (seen c.self.inside.tables) c.args.ticket (Returned c.args.ticket.number (length c.self.inside.tables.cuts.items) c.args.work) (Some l) (seen c.give_back.new.self) Dropped) cut-is
    (end_fact c.self.inside.tables c.give_back.new.self c.args.ticket c.in-Some.spot c.give_back.result true (λ n. Returned n (length c.self.inside.tables.cuts.items) c.args.work) (Some c.returned_at-cut.result) c.in-Some.ensures c.give_back.ensures.above c.if-give_back.true c.give_back.ensures.step))

pub invariant_of-self-2 : goal.invariant_of-self-2
invariant_of-self-2 c =
    sound_step c.self.inside.tables c.give_back.new.self (Returned c.in-Some.spot.row.number (length c.self.inside.tables.cuts.items) c.args.work) (Some c.returned_at-cut.result) c.self.invariant c.give_back.ensures.kept c.give_back.ensures.step

pub returns : goal.returns
returns c =
    let cut-is : c.returned_at-cut.result ≡ unwrap_or c.args.at c.args.ticket.from = c.returned_at-cut.ensures ∙ ap (λ (s : Span). unwrap_or c.args.at s.from) c.ticket.view_is in
    subst (λ (b : BookState). HasEnded b c.args.ticket (Returned c.args.ticket.number (length b.cuts) c.args.work) (Some (unwrap_or c.args.at c.args.ticket.from)) (seen c.give_back.new.self) Kept) c.self.view_is
    (subst (λ (l : List ℕ). HasEnded (seen c.self.inside.tables) c.args.ticket (Returned c.args.ticket.number (length c.self.inside.tables.cuts.items) c.args.work) (Some l) (seen c.give_back.new.self) Kept) cut-is
    (end_fact c.self.inside.tables c.give_back.new.self c.args.ticket c.in-Some.spot c.give_back.result false (λ n. Returned n (length c.self.inside.tables.cuts.items) c.args.work) (Some c.returned_at-cut.result) c.in-Some.ensures c.give_back.ensures.above c.if-give_back.false c.give_back.ensures.step))
