use Rattle.pm_book.proofs.Always as lemmas
use Rattle.pm_book.proofs.laws.each_list_is_in_one_row.Goals as goal

pub returns : goal.returns
returns c = lemmas.each_list_is_in_one_row
