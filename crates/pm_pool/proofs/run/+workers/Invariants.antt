use Rattle.std.proofs.Common.{◌+◌, ◌*◌, vec_len}
use Rattle.pm_pool.proofs.run.+workers.Given as goal

abbrev pub decreases-work_all : goal.decreases-work_all
decreases-work_all g l = 2 * vec_len l.posts + 1

abbrev pub decreases-join+arg3 : goal.decreases-join+arg3
decreases-join+arg3 g l = 2 * vec_len l.posts + 2
