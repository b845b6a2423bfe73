use Rattle.std.proofs.Common.{ℕ, ◌+◌, subst, sym}
use Rattle.std.specs.Prelude.{IsSome}
use Rattle.pm_search.specs.Inside.Places.{next_of, Holds}
use Rattle.pm_search.proofs.AgreeLemmas.{holds_agrees, agree_sym}
use Rattle.pm_search.proofs.StandingLemmas.{at_next, passed_hopeless, holds_settled}
use Rattle.pm_search.proofs.Search.pass.Goals as goal

pub invariant_of-self-2 : goal.invariant_of-self-2
invariant_of-self-2 g c =
    let some : IsSome (next_of c.self.inside.stage c.self.inside.place.items) = rw (← c.self.view_is) at c.requires.next in
    let stands = at_next (g.S.Space.key c.self.inside.space) (g.S.Space.path c.self.inside.space) c.self.inside.place.items c.self.inside.widths.items c.self.inside.from c.self.inside.to c.self.inside.worked c.self.inside.stage some c.self.invariant in
    let passed = passed_hopeless (g.S.Space.key c.self.inside.space) (g.met.S.Space.is_key c.self.inside.space) c.self.inside.from c.self.inside.to (g.S.Space.path c.self.inside.space) c.self.inside.place.items c.pass_hopeless-passed.new.place.items c.pass_hopeless-passed.result c.self.inside.worked stands.0.reached c.pass_hopeless-passed.ensures.passed stands.1 in
    let settled = holds_settled (g.S.Space.key c.self.inside.space) (g.met.S.Space.is_key c.self.inside.space) c.self.inside.from c.self.inside.to c.pass_hopeless-passed.new.place.items (g.S.Space.path c.settle-self-inside.new.space) c.settle-self-inside.new.place.items c.settle-self-inside.new.widths.items (c.self.inside.worked + c.pass_hopeless-passed.result) c.settle-self-inside.result passed c.settle-self-inside.ensures.place c.settle-self-inside.ensures.same c.settle-self-inside.ensures.settled in
    let agreed = holds_agrees (g.S.Space.key c.settle-self-inside.new.space) (g.S.Space.key c.self.inside.space) (agree_sym _ _ c.settle-self-inside.ensures.key) (g.S.Space.path c.settle-self-inside.new.space) c.settle-self-inside.new.place.items c.settle-self-inside.new.widths.items c.self.inside.from c.self.inside.to (c.self.inside.worked + c.pass_hopeless-passed.result) c.settle-self-inside.result settled in
    subst (λ (n : ℕ). Holds (g.S.Space.key c.settle-self-inside.new.space) (g.S.Space.path c.settle-self-inside.new.space) c.settle-self-inside.new.place.items c.settle-self-inside.new.widths.items c.self.inside.from c.self.inside.to (c.self.inside.worked + n) c.settle-self-inside.result) (sym c.from.ensures) agreed
