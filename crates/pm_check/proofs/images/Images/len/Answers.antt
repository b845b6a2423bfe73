use Rattle.std.proofs.Common.{◌≡◌, ℕ, subst}
use Rattle.std.specs.List.{Contains}
use Rattle.pm_check.specs.Inside.Images.{Found, sent}
use Rattle.pm_check.proofs.ImageLemmas.{kept_single}
use Rattle.pm_check.proofs.images.Images.len.Goals as goal

pub returns-clause-single : goal.returns-clause-single
returns-clause-single c =
    let inside = c.self.inside in
    subst (λ (f : Found). (row image other : ℕ) → Contains f.matches (sent row image) → Contains f.matches (sent row other) → image ≡ other) c.self.view_is
    (kept_single inside.rows.items inside.matches.items _ c.self.invariant)
