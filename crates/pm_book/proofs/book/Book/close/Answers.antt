use Rattle.std.proofs.Common.{subst, true, false}
use Rattle.std.specs.Prelude.{None}
use Rattle.pm_book.specs.declared.event.Event.TheVariants.{Closed}
use Rattle.pm_book.specs.declared.ticket.Ended.TheVariants.{Kept, Dropped}
use Rattle.pm_book.specs.Rows.{BookState}
use Rattle.pm_book.specs.Inside.Seen.{seen}
use Rattle.pm_book.specs.Answers.{HasEnded}
use Rattle.pm_book.proofs.BookLemmas.{always_of, sound_step, end_fact}
use Rattle.pm_book.proofs.book.Book.close.Goals as goal

pub locate-requires-clause-always : goal.locate-requires-clause-always
locate-requires-clause-always c = always_of c.self.inside.tables c.self.invariant

pub invariant_of-self : goal.invariant_of-self
invariant_of-self c = sound_step c.self.inside.tables c.close.new.self (Closed c.in-Some.spot.row.number c.args.work) None c.self.invariant c.close.ensures.kept c.close.ensures.step

pub returns-then-close : goal.returns-then-close
returns-then-close c =
    subst (λ (b : BookState). HasEnded b c.args.ticket (Closed c.args.ticket.number c.args.work) None (seen c.close.new.self) Dropped) c.self.view_is
    (end_fact c.self.inside.tables c.close.new.self c.args.ticket c.in-Some.spot c.close.result true (λ n. Closed n c.args.work) None c.in-Some.ensures c.close.ensures.above c.if-close.true c.close.ensures.step)

pub invariant_of-self-2 : goal.invariant_of-self-2
invariant_of-self-2 c = sound_step c.self.inside.tables c.close.new.self (Closed c.in-Some.spot.row.number c.args.work) None c.self.invariant c.close.ensures.kept c.close.ensures.step

pub returns : goal.returns
returns c =
    subst (λ (b : BookState). HasEnded b c.args.ticket (Closed c.args.ticket.number c.args.work) None (seen c.close.new.self) Kept) c.self.view_is
    (end_fact c.self.inside.tables c.close.new.self c.args.ticket c.in-Some.spot c.close.result false (λ n. Closed n c.args.work) None c.in-Some.ensures c.close.ensures.above c.if-close.false c.close.ensures.step)
