use Rattle.std.proofs.Common.{◌≡◌, length, ◌∙◌, subst}
use Rattle.pm_tab.specs.Space.{Place}
use Rattle.pm_tab.proofs.Standing.{reversed_long}
use Rattle.pm_tab.proofs.space.TabSpaceSpace.length.Goals as goal

pub returns : goal.returns
returns c =
    subst (λ (place : Place). c.len.result ≡ length place.path) c.self.view_is
    (c.len.ensures ∙ c.self.inside.frames.ok.0 ∙ reversed_long c.self.inside.frames.items)
