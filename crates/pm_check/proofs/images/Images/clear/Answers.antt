use Rattle.std.proofs.Common.{None, set, sym, subst, arith}
use Rattle.std.specs.Vec.{vec_capacity}
use Rattle.pm_check.specs.Inside.Images.{AreKept}
use Rattle.pm_check.proofs.ImageLemmas.{Clears, clears_all, clears_one, clears_end}
use Rattle.pm_check.proofs.images.Images.clear.Goals as goal

pub matches-init : goal.matches-init
matches-init c = clears_all c.self.inside.rows.items c.self.inside.matches.items _ c.self.invariant

pub matches-preserved : goal.matches-preserved
matches-preserved c =
    let old = c.self.inside.rows.items in
    let rows = c.matches.self-inside.rows.items in
    let rest = c.pop.new.self.items in
    subst (λ room. Clears old (set rows c.row.result None) rest room) (sym c.pop.ensures.capacity)
    (subst (λ row. Clears old (set rows row None) rest (vec_capacity c.matches.self-inside.matches)) (sym c.row.ensures)
    (clears_one old rows c.matches.self-inside.matches.items rest c.in-Some.found _ c.in-Some.ensures.items c.matches.invariant))

pub invariant_of-self : goal.invariant_of-self
invariant_of-self c =
    let rows = c.matches.self-inside.rows.items in
    let matches = c.matches.self-inside.matches in
    let rest = c.pop.new.self in
    subst (λ room. AreKept rows rest.items room) (sym c.pop.ensures.capacity)
    (clears_end c.self.inside.rows.items rows matches.items rest.items (vec_capacity matches) (omega (arith, c.in_default.ensures.cases.0, matches.ok.0)) (omega (arith, c.in_default.ensures.cases.1, rest.ok.0)) c.matches.invariant)
