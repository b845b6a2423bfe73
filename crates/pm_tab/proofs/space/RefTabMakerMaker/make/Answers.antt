use Rattle.std.proofs.Common.{◌≡◌}
use Rattle.std.proofs.lemmas.Result.{IfOk-weaker}
use Rattle.pm_deepen.specs.Levels.{key_of}
use Rattle.pm_space.specs.Key.{Agree}
use Rattle.pm_tab.specs.Space.{Place}
use Rattle.pm_tab.specs.Searched.{level_of}
use Rattle.pm_tab.proofs.Standing.{same_key}
use Rattle.pm_tab.proofs.space.RefTabMakerMaker.make.Goals as goal

pub returns-clause-key : goal.returns-clause-key
returns-clause-key c =
    IfOk-weaker c.new.result (λ (space : Place). space.level ≡ level_of c.args.self.now.now c.args.level)
    (λ (space : Place). Agree (key_of space.level) (key_of (level_of c.args.self.now.now c.args.level)))
    (λ space same. same_key space.level (level_of c.args.self.now.now c.args.level) same)
    c.new.ensures.level
