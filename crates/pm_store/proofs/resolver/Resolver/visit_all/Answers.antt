use Rattle.std.proofs.Common.{◌++◌, ◌∷◌, [], ◌∙◌, ap, subst}
use Rattle.pm_store.specs.declared.resolver.Place.TheVariants.{Visit}
use Rattle.pm_store.specs.Inside.Pending.{Comes}
use Rattle.pm_store.proofs.ComesLemmas.{more_none, more_more, comes_first, comes_ready}
use Rattle.pm_store.proofs.PartLemmas.{parts_first, parts_next, parts_added}
use Rattle.pm_store.proofs.resolver.Resolver.visit_all.Goals as goal

pub places-init : goal.places-init
places-init c =
    let first = c.in_ok-push.ensures.items ∙ ap (λ ps. ps ++ Visit c.args.a ∷ []) c.new-pending.ensures.items in
    record {
      comes = comes_first _ _ _ _ _ c.requires.within c.requires.resolved first;
      parts = parts_first _ _ _ _ _ first;
      more = more_none _ _;
    }

pub proceed-requires-clause-ready : goal.proceed-requires-clause-ready
proceed-requires-clause-ready c = comes_ready _ _ _ _ _ _ c.pop.new.self.items _ c.in-Some.ensures.items c.places.invariant.comes

pub places-preserved : goal.places-preserved
places-preserved c = record {
  comes = c.in_ok-proceed.ensures.ok.0 c.args.a c.args.self.now
      (subst (Comes c.args.store.now c.args.a c.args.self.now c.places.self c.places.into) c.in-Some.ensures.items c.places.invariant.comes);
  parts = parts_next _ _ _ _ _ _ _ _ c.pop.new.self.items _ _ c.in-Some.ensures.items c.proceed.ensures.more c.in_ok-proceed.ensures.rows
      c.in_ok-proceed.ensures.places c.places.invariant.parts;
  more = more_more _ _ _ _ _ _ c.places.invariant.more c.proceed.ensures.more;
}

pub returns-clause-added : goal.returns-clause-added
returns-clause-added c = parts_added _ _ _ _ _ _ c.places.invariant.parts
