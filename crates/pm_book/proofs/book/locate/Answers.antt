use Rattle.std.proofs.Common.{◌≡◌, ◌∙◌, ℕ, subst, false}
use Rattle.std.specs.Prelude.{All, ◌==◌}
use Rattle.pm_book.specs.declared.row.BookRow.{BookRow}
use Rattle.pm_book.proofs.OrderTests.{same_is}
use Rattle.pm_book.proofs.Moves.{spot_places}
use Rattle.pm_book.proofs.BookLemmas.{unknown_none, unknown_other}
use Rattle.pm_book.proofs.book.locate.Goals as goal

pub returns-in_default : goal.returns-in_default
returns-in_default c =
    unknown_none c.args.tables.now c.args.ticket.now
    (subst (λ (n : ℕ). All (λ (row : BookRow). (row.number == n) ≡ false) c.args.tables.now.rows.items) c.number.ensures c.in_default.ensures)

pub has_interval-requires : goal.has_interval-requires
has_interval-requires c = spot_places c.args.tables.now c.in-Some.spot c.requires.kept c.in-Some.ensures.there

pub returns-then-not-has_interval : goal.returns-then-not-has_interval
returns-then-not-has_interval c =
    unknown_other c.args.tables.now c.in-Some.spot c.args.ticket.now c.requires.always c.in-Some.ensures.there (same_is c.in-Some.spot.row.number c.number.result c.in-Some.ensures.passes ∙ c.number.ensures)
    (λ all. absurd (let told = c.has_interval.ensures.1 all in let not = c.if-not-has_interval.true in cc))
