use Rattle.std.proofs.Common.{◌∙◌, ℕ, ◌<◌, length, get_or, sym, ap, subst}
use Rattle.std.specs.Prelude.{MatchOption}
use Rattle.std.specs.List.{Contains}
use Rattle.pm_check.specs.Inside.Images.{Found, sent}
use Rattle.pm_check.proofs.ImageLemmas.{kept_image}
use Rattle.pm_check.proofs.images.Images.image.Goals as goal

pub returns : goal.returns
returns c =
    let inside = c.self.inside in
    let found = c.index.result.now in
    let within : c.args.row < length inside.rows.items = subst (λ (f : Found). c.args.row < f.count) (sym c.self.view_is) c.requires in
    subst (λ (f : Found). MatchOption found ((image : ℕ) → ¬ Contains f.matches (sent c.args.row image)) (λ image. Contains f.matches (sent c.args.row image))) c.self.view_is
    (kept_image inside.rows.items inside.matches.items _ c.args.row found c.self.invariant within (c.index.ensures ∙ ap (λ row. get_or inside.rows.items row found) c.row.ensures))
