use Rattle.pm_book.proofs.Always as lemmas
use Rattle.pm_book.proofs.laws.each_event_covers_its_row.Goals as goal

pub returns : goal.returns
returns c = lemmas.each_event_covers_its_row
