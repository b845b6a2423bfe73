use Rattle.std.proofs.Common.{inl, inr, arith}
use Rattle.std.proofs.lemmas.Bool.Decides.{nat_tests}
use Rattle.pm_book.proofs.BookLemmas.{over_is}
use Rattle.pm_book.proofs.book.is_over.Goals as goal

pub returns-else-tables-from : goal.returns-else-tables-from
returns-else-tables-from c =
    let told = over_is c.args.tables.now c.requires in (
      λ none. told.0 (inr (grind (arith, nat_tests))),
      λ over. elim (told.1 over) [ inl more ↦ (let few = c.if-tables-from.false in grind (arith, nat_tests)) | inr none ↦ grind (arith, nat_tests) ],
    )
