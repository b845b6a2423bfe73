use Rattle.std.proofs.Common.{sym, subst, List, ℕ}
use Rattle.pm_choice.specs.Order.{PrecedesBound}
use Rattle.pm_search.proofs.PlaceLemmas.{none_below}
use Rattle.pm_search.proofs.place.settle.Goals as goal
use Rattle.pm_search.proofs.place.settle.Goals.{else-climb-via-then-climb+else-precedes, else-climb-via-else-climb}

pub returns-else-climb-clause-settled : goal.returns-else-climb-clause-settled
returns-else-climb-clause-settled g c =
    elim c.else-climb.branch [
      | else-climb-via-then-climb+else-precedes w ↦
          none_below (g.S.Space.key c.args.space.now) c.climb.new.place.items c.args.to.now
          (λ below. absurd (let told = w.precedes.ensures.1 (subst (λ (l : List ℕ). PrecedesBound l c.args.to.now) (sym w.deref.ensures.value) below) in let not = w.if-precedes.false in cc))
      | else-climb-via-else-climb w ↦ λ list attempt below. c.climb.ensures.none w.if-climb.false list attempt tt
    ]
