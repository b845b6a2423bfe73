use Rattle.std.proofs.Common.{ℕ, List, [], ◌∷◌, ◌++◌, sym, ◌∙◌, ap, append_assoc}
use Rattle.std.proofs.lemmas.List.{append-nil, nil_from_length}
use Rattle.pm_compile.specs.declared.building.Place.{Place}
use Rattle.pm_compile.specs.declared.building.Place.TheVariants.{Build}
use Rattle.pm_compile.specs.Inside.Building.{builds}
use Rattle.pm_compile.proofs.BuildLemmas.{builds-push}
use Rattle.pm_compile.proofs.building.push_builds.Goals as goal

pub reversed-preserved : goal.reversed-preserved
reversed-preserved c =
    let rest = c.next.new.self.iter.rest.now in
    let row = c.in-Some.field-0.now in
    ap (λ (ps : List Place). ps ++ builds rest) c.in_ok-push.ensures.items
    ∙ append_assoc c.reversed.pending.items (Build row ∷ []) (builds rest)
    ∙ ap (λ (ps : List Place). c.reversed.pending.items ++ ps) (sym (ap builds c.in-Some.ensures.steps ∙ builds-push rest row))
    ∙ c.reversed.invariant

pub returns : goal.returns
returns c =
    sym (append-nil c.reversed.pending.items)
    ∙ ap (λ (rows : List ℕ). c.reversed.pending.items ++ builds rows) (sym (nil_from_length _ c.in-None.ensures.steps.0))
    ∙ c.reversed.invariant
