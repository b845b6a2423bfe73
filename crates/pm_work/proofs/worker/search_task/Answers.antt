use Rattle.std.proofs.lemmas.Option.{MatchOption-at_some}
use Rattle.pm_space.specs.Key.{Agree}
use Rattle.pm_search.proofs.AgreeLemmas.{agree_sym}
use Rattle.pm_work.specs.declared.task.Task.{Task}
use Rattle.pm_work.proofs.PieceLemmas.{all_agree}
use Rattle.pm_work.proofs.worker.search_task.Goals as goal

pub leave-requires-clause-honest : goal.leave-requires-clause-honest
leave-requires-clause-honest g c =
    let old = g.S.Space.key c.args.task.search.space in
    let new = g.S.Space.key c.in-Ok-Some.rest.search.space in
    let agree : Agree new old = MatchOption-at_some _ (λ (more : Task g.row.S.Denot). Agree (g.S.Space.key more.search.space) old) c.in-Ok-Some.rest c.in-Ok-Some.field-0-is c.in-Ok-Some.ensures.key in
    all_agree new old (agree_sym new old agree) c.search_on.new.pieces.items c.in-Ok-Some.ensures.honest

pub returns-then-leave : goal.returns-then-leave
returns-then-leave g c =
    let old = g.S.Space.key c.args.task.search.space in
    let new = g.S.Space.key c.in-Ok-Some.rest.search.space in
    let agree : Agree new old = MatchOption-at_some _ (λ (more : Task g.row.S.Denot). Agree (g.S.Space.key more.search.space) old) c.in-Ok-Some.rest c.in-Ok-Some.field-0-is c.in-Ok-Some.ensures.key in
    all_agree old new agree c.leave.new.pieces.items c.leave.ensures.honest

pub returns-else-leave : goal.returns-else-leave
returns-else-leave g c =
    let old = g.S.Space.key c.args.task.search.space in
    let new = g.S.Space.key c.in-Ok-Some.rest.search.space in
    let agree : Agree new old = MatchOption-at_some _ (λ (more : Task g.row.S.Denot). Agree (g.S.Space.key more.search.space) old) c.in-Ok-Some.rest c.in-Ok-Some.field-0-is c.in-Ok-Some.ensures.key in
    all_agree old new agree c.leave.new.pieces.items c.leave.ensures.honest
