use Rattle.pm_search.specs.Attempts.{attempts_of}
use Rattle.pm_book.proofs.Fronts.{fronts_tell}
use Rattle.pm_pool.proofs.laws.fronts_tell_of_level.Goals as goal

pub returns : goal.returns
returns g c = λ maker level. fronts_tell (attempts_of (g.M.Maker.key_at maker level))
