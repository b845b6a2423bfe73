use Rattle.std.proofs.Common.{◌≡◌, ◌++◌, List, [], ◌∙◌, ap, sym}
use Rattle.pm_compile.specs.declared.building.Place.{Place}
use Rattle.pm_compile.specs.Inside.Building.{builds, IsPlaceOver}
use Rattle.pm_compile.proofs.BuildLemmas.{building_begins, places_begin, building_goes_on, building_less, building_ends, All-last}
use Rattle.pm_compile.proofs.building.append_building.Goals as goal

pub places-init : goal.places-init
places-init c =
    let args = c.args.args.now in
    let opened : c.push_builds.new.pending.items ≡ [] ++ builds args =
    c.in_ok-push_builds.ensures ∙ ap (λ (ps : List Place). ps ++ builds args) c.new-pending.ensures.items in
    record { comes = building_begins _ args _ _ opened; places = places_begin _ _ args _ opened c.requires.args }

pub build-requires : goal.build-requires
build-requires c =
    let problem = c.args.source.now.problem.now in
    record { place = (All-last (IsPlaceOver problem.symbols problem.terms) _ _ _ c.in-Some.ensures.items c.places.invariant.places).1 }

pub places-smaller : goal.places-smaller
places-smaller c = building_less _ _ _ _ _ _ _ _ c.in-Some.ensures.items c.in_ok-build.ensures

pub places-preserved : goal.places-preserved
places-preserved c =
    let problem = c.args.source.now.problem.now in
    record {
      comes = building_goes_on _ _ _ _ _ _ _ _ _ _ c.in-Some.ensures.items c.in_ok-build.ensures c.places.invariant.comes;
      places = c.in_ok-build.ensures.places (All-last (IsPlaceOver problem.symbols problem.terms) _ _ _ c.in-Some.ensures.items c.places.invariant.places).0;
    }

pub returns : goal.returns
returns c = building_ends _ _ _ c.places.pending.items _ (sym c.places.pending.ok.0 ∙ c.in_default.ensures.cases.0) c.places.invariant.comes
