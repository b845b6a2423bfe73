use Rattle.std.proofs.Common.{◌≡◌, ℕ, List, Bool, sym, ap, subst}
use Rattle.std.specs.Prelude.{Option, IfSome, IsSomeAnd, MatchBool}
use Rattle.pm_choice.specs.Order.{Precedes}
use Rattle.pm_choice.specs.declared.Bound.TheVariants.{At}
use Rattle.pm_search.specs.Standing.{Standing}
use Rattle.pm_work.specs.Inside.Tasks.{IsHeld}
use Rattle.pm_work.proofs.TaskLemmas.{shortened}
use Rattle.pm_work.proofs.worker.share.Goals as goal

pub returns-then-branch-clause-held : goal.returns-then-branch-clause-held
returns-then-branch-clause-held g c =
    let task = c.args.task.now in
    let mid = c.in-Some.mid in
    let above : IsSomeAnd task.search.next (λ next. Precedes next mid) =
    subst (λ (o : Option (List ℕ)). IfSome o (λ list. IsSomeAnd task.search.next (λ next. Precedes next list))) c.in-Some.is c.in_ok-mid.ensures.above in
    let given : c.split.new.ticket ≡ record task.ticket { to = At c.as_slice.result.now } =
    subst (λ (b : Bool). MatchBool b (c.split.new.ticket ≡ record task.ticket { to = At c.as_slice.result.now }) (c.split.new.ticket ≡ task.ticket)) c.if-branch.true c.in_ok-split.ensures.split in
    let split : c.split.new.ticket ≡ record task.ticket { to = At mid } = subst (λ (l : List ℕ). c.split.new.ticket ≡ record task.ticket { to = At l }) c.as_slice.ensures given in
    let space : c.shorten.new.self.space ≡ task.search.space = ap (λ (s : Standing g.row.S.Denot). s.space) c.shorten.ensures in
    subst (λ (s : g.row.S.Denot). IsHeld (g.S.Space.key s) c.split.new.ticket task.from (At c.in_ok-end.end) task.at task.done) (sym space)
    (shortened (g.S.Space.key task.search.space) task.ticket c.split.new.ticket task.from task.to task.at task.done c.requires.held mid split task.search.next c.requires.next above c.in_ok-end.end c.in_ok-end.ensures)
