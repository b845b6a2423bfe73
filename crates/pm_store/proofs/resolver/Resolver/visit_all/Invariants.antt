use Rattle.pm_store.specs.Resolved.{IsMore}
use Rattle.pm_store.specs.Inside.Pending.{work, Comes, ComesOfParts}
use Rattle.pm_store.proofs.resolver.Resolver.visit_all.Given as goal

abbrev pub invariant-places : goal.invariant-places
invariant-places l = record {
  comes : Comes l.store l.a l.initial.self l.self l.into l.pending.items;
  parts : ComesOfParts l.store l.a l.initial.into l.self l.into l.pending.items;
  more : IsMore l.initial.self l.initial.into l.self l.into;
}

abbrev pub decreases-places : goal.decreases-places
decreases-places l = work l.store l.pending.items
