use Rattle.std.proofs.Common.{◌+◌, ◌∙◌, refl, sym}
use Rattle.std.specs.Prelude.{IsSome}
use Rattle.pm_search.specs.Inside.Places.{next_of, HasPassed}
use Rattle.pm_search.proofs.AgreeLemmas.{holds_agrees, agree_sym}
use Rattle.pm_search.proofs.StandingLemmas.{at_next, finds_next, passed_more, passed_agrees, holds_settled, holds_kept}
use Rattle.pm_search.proofs.Search.attempt.Goals as goal

pub returns-in-Some-clause-ok : goal.returns-in-Some-clause-ok
returns-in-Some-clause-ok g c =
    let some : IsSome (next_of c.self.inside.stage c.self.inside.place.items) = rw (← c.self.view_is) at c.requires.next in
    let stands = at_next (g.S.Space.key c.self.inside.space) (g.S.Space.path c.self.inside.space) c.self.inside.place.items c.self.inside.widths.items c.self.inside.from c.self.inside.to c.self.inside.worked c.self.inside.stage some c.self.invariant in
    let tried = rw c.in-Some.is at c.in_ok-found.ensures.ok in
    rw (← c.self.view_is) (
      refl,
      refl,
      tried.2 ∙ sym tried.1,
      finds_next (g.S.Space.key c.self.inside.space) (g.met.S.Space.is_key c.self.inside.space) c.self.inside.from c.self.inside.to c.self.inside.place.items c.in-Some.path c.self.inside.worked stands.1 tried.0 tried.1,
    )

pub invariant_of-self : goal.invariant_of-self
invariant_of-self g c =
    holds_kept (g.S.Space.key c.try_place.new.space) (g.S.Space.key c.self.inside.space) c.try_place.ensures.key
    (g.S.Space.path c.self.inside.space) c.self.inside.place.items c.self.inside.widths.items (g.S.Space.path c.try_place.new.space) c.try_place.new.place.items c.try_place.new.widths.items c.self.inside.from c.self.inside.to c.self.inside.worked c.self.inside.stage
    c.in_err-found.ensures.path c.in_err-found.ensures.place c.in_err-found.ensures.widths c.self.invariant

pub invariant_of-self-2 : goal.invariant_of-self-2
invariant_of-self-2 g c =
    let some : IsSome (next_of c.self.inside.stage c.self.inside.place.items) = rw (← c.self.view_is) at c.requires.next in
    let stands = at_next (g.S.Space.key c.self.inside.space) (g.S.Space.path c.self.inside.space) c.self.inside.place.items c.self.inside.widths.items c.self.inside.from c.self.inside.to c.self.inside.worked c.self.inside.stage some c.self.invariant in
    let tried : HasPassed (g.S.Space.key c.self.inside.space) (g.S.Space.path c.try_place.new.space) c.self.inside.place.items c.try_place.new.place.items c.try_place.new.widths.items = rw c.in_default.is at c.in_ok-found.ensures.ok in
    let passed = passed_more (g.S.Space.key c.self.inside.space) (g.met.S.Space.is_key c.self.inside.space) c.self.inside.from c.self.inside.to c.self.inside.place.items c.try_place.new.place.items c.self.inside.worked stands.1 tried.one_more tried.incomplete in
    let passed' = passed_agrees (g.S.Space.key c.try_place.new.space) (g.S.Space.key c.self.inside.space) (agree_sym _ _ c.try_place.ensures.key) c.self.inside.from c.self.inside.to c.try_place.new.place.items (c.self.inside.worked + 1) passed in
    let settled = holds_settled (g.S.Space.key c.try_place.new.space) (g.met.S.Space.is_key c.try_place.new.space) c.self.inside.from c.self.inside.to c.try_place.new.place.items (g.S.Space.path c.settle-self-inside.new.space) c.settle-self-inside.new.place.items c.settle-self-inside.new.widths.items (c.self.inside.worked + 1) c.settle-self-inside.result passed' c.settle-self-inside.ensures.place c.settle-self-inside.ensures.same c.settle-self-inside.ensures.settled in
    holds_agrees (g.S.Space.key c.settle-self-inside.new.space) (g.S.Space.key c.try_place.new.space) (agree_sym _ _ c.settle-self-inside.ensures.key) (g.S.Space.path c.settle-self-inside.new.space) c.settle-self-inside.new.place.items c.settle-self-inside.new.widths.items c.self.inside.from c.self.inside.to (c.self.inside.worked + 1) c.settle-self-inside.result settled
