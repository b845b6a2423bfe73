use Rattle.std.proofs.Common.{subst, true, false, length}
use Rattle.std.specs.Prelude.{Some}
use Rattle.pm_book.specs.declared.event.Event.TheVariants.{Found}
use Rattle.pm_book.specs.declared.ticket.Ended.TheVariants.{Kept, Dropped}
use Rattle.pm_book.specs.Rows.{BookState}
use Rattle.pm_book.specs.Inside.Seen.{seen}
use Rattle.pm_book.specs.Answers.{HasEnded}
use Rattle.pm_book.proofs.BookLemmas.{always_of, sound_step, end_fact, spot_holds}
use Rattle.pm_book.proofs.book.Book.found.Goals as goal

pub locate-requires-clause-always : goal.locate-requires-clause-always
locate-requires-clause-always c = always_of c.self.inside.tables c.self.invariant

pub find-requires-clause-always : goal.find-requires-clause-always
find-requires-clause-always c = always_of c.self.inside.tables c.self.invariant

pub find-requires-clause-within : goal.find-requires-clause-within
find-requires-clause-within c = spot_holds c.self.inside.tables c.args.ticket c.in-Some.spot c.args.path c.in-Some.ensures c.requires

pub invariant_of-self : goal.invariant_of-self
invariant_of-self c =
    sound_step c.self.inside.tables c.find.new.self (Found c.in-Some.spot.row.number (length c.self.inside.tables.cuts.items) c.args.work) (Some c.args.path) c.self.invariant c.find.ensures.kept c.find.ensures.step

pub returns-then-find : goal.returns-then-find
returns-then-find c =
    subst (λ (b : BookState). HasEnded b c.args.ticket (Found c.args.ticket.number (length b.cuts) c.args.work) (Some c.args.path) (seen c.find.new.self) Dropped) c.self.view_is
    (end_fact c.self.inside.tables c.find.new.self c.args.ticket c.in-Some.spot c.find.result true (λ n. Found n (length c.self.inside.tables.cuts.items) c.args.work) (Some c.args.path) c.in-Some.ensures c.find.ensures.above c.if-find.true c.find.ensures.step)

pub invariant_of-self-2 : goal.invariant_of-self-2
invariant_of-self-2 c =
    sound_step c.self.inside.tables c.find.new.self (Found c.in-Some.spot.row.number (length c.self.inside.tables.cuts.items) c.args.work) (Some c.args.path) c.self.invariant c.find.ensures.kept c.find.ensures.step

pub returns : goal.returns
returns c =
    subst (λ (b : BookState). HasEnded b c.args.ticket (Found c.args.ticket.number (length b.cuts) c.args.work) (Some c.args.path) (seen c.find.new.self) Kept) c.self.view_is
    (end_fact c.self.inside.tables c.find.new.self c.args.ticket c.in-Some.spot c.find.result false (λ n. Found n (length c.self.inside.tables.cuts.items) c.args.work) (Some c.args.path) c.in-Some.ensures c.find.ensures.above c.if-find.false c.find.ensures.step)
