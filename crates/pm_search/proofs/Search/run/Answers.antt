use Rattle.std.proofs.Common.{◌≡◌, ◌+◌, ◌≤◌, ◌∙◌, sym, ap, arith}
use Rattle.std.specs.Prelude.{IsSome}
use Rattle.std.proofs.lemmas.Result.{IfOk-weaker}
use Rattle.pm_search.specs.Inside.Moves.{EndsTurn}
use Rattle.pm_search.specs.Turns.{IsTurn}
use Rattle.pm_search.proofs.AgreeLemmas.{agree_trans, turn_agrees}
use Rattle.pm_search.proofs.StandingLemmas.{found_turn, stops}
use Rattle.pm_search.proofs.Search.run.Goals as goal
use Rattle.pm_search.proofs.Search.run.Goals.{then-attempts-test+else-is_attempting, else-attempts-test}

pub returns-in-Some-clause-turn : goal.returns-in-Some-clause-turn
returns-in-Some-clause-turn g c =
    let attempted = rw c.in-Some.is at c.in_ok-path.ensures.ok in
    let at_start : c.self.inside.worked ≡ c.args.self.now.worked = ap (λ s. s.worked) c.self.view_is in
    let in_loop : c.self-in-attempts.inside.worked ≡ c.attempts.self.worked = ap (λ s. s.worked) c.self-in-attempts.view_is in
    let same : c.pass.new.self.worked ≡ c.attempts.self.worked = (c.pass.ensures.none c.if-pass.false).1 in
    found_turn (g.S.Space.key c.args.self.now.space) (g.S.Space.key c.pass.new.self.space) (agree_trans _ _ _ c.pass.ensures.key c.attempts.invariant.key) c.args.self.now.from c.pass.new.self.from c.args.self.now.to c.pass.new.self.to c.in-Some.path c.attempt.new.self.worked c.self-in-attempts-2.inside.worked (c.args.self.now.worked + c.args.fuel)
    (c.pass.ensures.interval.starts ∙ c.attempts.invariant.interval.starts) (c.pass.ensures.interval.ends ∙ c.attempts.invariant.interval.ends) (ap (λ s. s.worked) c.self-in-attempts-2.view_is) (omega (arith, at_start, in_loop, same, attempted.0, c.attempts-test.true)) attempted.3

pub returns-clause-turn : goal.returns-clause-turn
returns-clause-turn g c =
    let at_start : c.self.inside.worked ≡ c.args.self.now.worked = ap (λ s. s.worked) c.self.view_is in
    let in_loop : c.self-in-attempts.inside.worked ≡ c.attempts.self.worked = ap (λ s. s.worked) c.self-in-attempts.view_is in
    let within : c.attempts.self.worked ≤ c.args.self.now.worked + c.args.fuel = omega (arith, at_start, c.attempts.invariant.within) in
    let all : IsSome c.attempts.self.next → c.attempts.self.worked ≡ c.args.self.now.worked + c.args.fuel =
    elim c.attempts-test.branch [
      | then-attempts-test+else-is_attempting w ↦ λ some. absurd (let told = w.is_attempting.ensures.1 some in let none = w.if-is_attempting.false in cc)
      | else-attempts-test w ↦ λ some. omega (arith, at_start, in_loop, within, w.attempts-test.false)
    ] in
    IfOk-weaker c.pause.result (EndsTurn (g.S.Space.key c.attempts.self.space) c.attempts.self) (IsTurn (g.S.Space.key c.args.self.now.space) c.args.self.now.from c.args.self.now.to (c.args.self.now.worked + c.args.fuel))
    (λ turn ends. turn_agrees (g.S.Space.key c.args.self.now.space) (g.S.Space.key c.attempts.self.space) c.attempts.invariant.key c.args.self.now.from c.args.self.now.to (c.args.self.now.worked + c.args.fuel) turn
    (stops (g.S.Space.key c.attempts.self.space) c.attempts.self c.args.self.now.from c.args.self.now.to (c.args.self.now.worked + c.args.fuel) turn (sym c.attempts.invariant.interval.starts) (sym c.attempts.invariant.interval.ends) within all ends))
    c.pause.ensures.ended
