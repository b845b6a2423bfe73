use Rattle.std.proofs.Common.{ℕ, ◌<◌, Some, length, set, sym, subst, arith}
use Rattle.std.specs.List.{Contains}
use Rattle.std.specs.Vec.{vec_capacity}
use Rattle.pm_check.specs.Inside.Images.{Found, sent, AreKept}
use Rattle.pm_check.proofs.ImageLemmas.{kept_room, kept_more}
use Rattle.pm_check.proofs.images.Images.add.Goals as goal

pub push_reserved-requires : goal.push_reserved-requires
push_reserved-requires c =
    let inside = c.self.inside in
    let within : c.args.row < length inside.rows.items = subst (λ (f : Found). c.args.row < f.count) (sym c.self.view_is) c.requires.row in
    let free = subst (λ (f : Found). (other : ℕ) → ¬ Contains f.matches (sent c.args.row other)) (sym c.self.view_is) c.requires.free in
    omega (arith, kept_room inside.rows.items inside.matches.items _ c.args.row c.self.invariant within free, inside.matches.ok.0)

pub invariant_of-self : goal.invariant_of-self
invariant_of-self c =
    let inside = c.self.inside in
    let within : c.args.row < length inside.rows.items = subst (λ (f : Found). c.args.row < f.count) (sym c.self.view_is) c.requires.row in
    let free = subst (λ (f : Found). (other : ℕ) → ¬ Contains f.matches (sent c.args.row other)) (sym c.self.view_is) c.requires.free in
    let new = c.push_reserved.new.self.items in
    subst (λ room. AreKept (set inside.rows.items c.row.result (Some c.args.image)) new room) (sym c.push_reserved.ensures.capacity)
    (subst (λ row. AreKept (set inside.rows.items row (Some c.args.image)) new (vec_capacity inside.matches)) (sym c.row.ensures)
    (kept_more inside.rows.items inside.matches.items new (vec_capacity inside.matches) c.args.row c.args.image c.self.invariant within free c.push_reserved.ensures.items))
