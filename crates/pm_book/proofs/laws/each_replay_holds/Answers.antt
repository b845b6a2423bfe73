use Rattle.pm_book.proofs.Always as lemmas
use Rattle.pm_book.proofs.laws.each_replay_holds.Goals as goal

pub returns : goal.returns
returns c = lemmas.each_replay_holds
