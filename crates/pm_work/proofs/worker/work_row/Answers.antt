use Rattle.std.proofs.Common.{◌≡◌, ◌+◌, ◌-◌, ◌<◌, ◌∙◌, sym, subst, vec_len, vec_capacity, arith}
use Rattle.std.proofs.lemmas.Option.{MatchOption-at_some}
use Rattle.pm_space.specs.Key.{Agree}
use Rattle.pm_search.proofs.AgreeLemmas.{agree_sym, agree_trans}
use Rattle.pm_work.specs.declared.task.Task.{Task}
use Rattle.pm_work.specs.Inside.Tasks.{IsPaused}
use Rattle.pm_work.proofs.PieceLemmas.{all_agree}
use Rattle.pm_work.proofs.worker.work_row.Goals as goal

pub search_on-requires-clause-honest : goal.search_on-requires-clause-honest
search_on-requires-clause-honest g c =
    let first = g.S.Space.key c.args.task.search.space in
    let old = g.S.Space.key c.slices.task.search.space in
    all_agree old first (agree_sym old first c.slices.invariant.key) c.slices.pieces.items c.slices.invariant.honest

pub returns-in-Err : goal.returns-in-Err
returns-in-Err g c =
    let first = g.S.Space.key c.args.task.search.space in
    let old = g.S.Space.key c.slices.task.search.space in
    all_agree first old c.slices.invariant.key c.search_on.new.pieces.items c.in-Err.ensures.honest

pub returns-in-Ok-None : goal.returns-in-Ok-None
returns-in-Ok-None g c =
    let first = g.S.Space.key c.args.task.search.space in
    let old = g.S.Space.key c.slices.task.search.space in
    all_agree first old c.slices.invariant.key c.search_on.new.pieces.items c.in-Ok-None.ensures.honest

pub slices-smaller : goal.slices-smaller
slices-smaller g c =
    let rest = c.in-Ok-Some.rest in
    let paused : IsPaused (c.slices.task.search.worked + 4096) rest.search rest.at rest.done =
    MatchOption-at_some _ (λ (more : Task g.row.S.Denot). IsPaused (c.slices.task.search.worked + 4096) more.search more.at more.done) rest c.in-Ok-Some.field-0-is c.in-Ok-Some.ensures.paused in
    let worked : c.after_slice.new.task.search.worked ≡ c.slices.task.search.worked + 4096 = c.after_slice.ensures.worked ∙ paused.worked_is in
    let less : c.args.budget + 1 - c.after_slice.new.task.search.worked < c.args.budget + 1 - c.slices.task.search.worked =
    omega (arith, worked, c.in-GoOn.ensures.budget) in
    less

pub slices-preserved : goal.slices-preserved
slices-preserved g c =
    let first = g.S.Space.key c.args.task.search.space in
    let old = g.S.Space.key c.slices.task.search.space in
    let rest = c.in-Ok-Some.rest in
    let new = g.S.Space.key rest.search.space in
    let agree : Agree new old = MatchOption-at_some _ (λ (more : Task g.row.S.Denot). Agree (g.S.Space.key more.search.space) old) rest c.in-Ok-Some.field-0-is c.in-Ok-Some.ensures.key in
    let agree' : Agree (g.S.Space.key c.after_slice.new.task.search.space) first =
    subst (λ (s : g.row.S.Denot). Agree (g.S.Space.key s) first) (sym c.after_slice.ensures.space) (agree_trans new old first agree c.slices.invariant.key) in
    let honest = all_agree first old c.slices.invariant.key c.search_on.new.pieces.items c.in-Ok-Some.ensures.honest in
    record {
      held = c.in-GoOn.ensures.held;
      searching = c.in-GoOn.ensures.searching;
      few = c.in-GoOn.ensures.budget;
      room = MatchOption-at_some _ (λ (more : Task g.row.S.Denot). vec_len c.search_on.new.pieces < vec_capacity c.search_on.new.pieces) rest c.in-Ok-Some.field-0-is c.in-Ok-Some.ensures.room;
      honest = honest;
      key = agree';
    }

pub leave-requires-clause-honest : goal.leave-requires-clause-honest
leave-requires-clause-honest g c =
    let first = g.S.Space.key c.args.task.search.space in
    let old = g.S.Space.key c.slices.task.search.space in
    let rest = c.in-Ok-Some.rest in
    let new = g.S.Space.key rest.search.space in
    let agree : Agree new old = MatchOption-at_some _ (λ (more : Task g.row.S.Denot). Agree (g.S.Space.key more.search.space) old) rest c.in-Ok-Some.field-0-is c.in-Ok-Some.ensures.key in
    let agree' : Agree (g.S.Space.key c.after_slice.new.task.search.space) first =
    subst (λ (s : g.row.S.Denot). Agree (g.S.Space.key s) first) (sym c.after_slice.ensures.space) (agree_trans new old first agree c.slices.invariant.key) in
    let honest = all_agree first old c.slices.invariant.key c.search_on.new.pieces.items c.in-Ok-Some.ensures.honest in
    all_agree (g.S.Space.key c.after_slice.new.task.search.space) first (agree_sym (g.S.Space.key c.after_slice.new.task.search.space) first agree') c.search_on.new.pieces.items honest

pub returns-in-TakeAnother : goal.returns-in-TakeAnother
returns-in-TakeAnother g c =
    let first = g.S.Space.key c.args.task.search.space in
    let old = g.S.Space.key c.slices.task.search.space in
    let rest = c.in-Ok-Some.rest in
    let new = g.S.Space.key rest.search.space in
    let agree : Agree new old = MatchOption-at_some _ (λ (more : Task g.row.S.Denot). Agree (g.S.Space.key more.search.space) old) rest c.in-Ok-Some.field-0-is c.in-Ok-Some.ensures.key in
    let agree' : Agree (g.S.Space.key c.after_slice.new.task.search.space) first =
    subst (λ (s : g.row.S.Denot). Agree (g.S.Space.key s) first) (sym c.after_slice.ensures.space) (agree_trans new old first agree c.slices.invariant.key) in
    all_agree first (g.S.Space.key c.after_slice.new.task.search.space) agree' c.leave.new.pieces.items c.leave.ensures.honest

pub leave-requires-in-End-clause-honest : goal.leave-requires-in-End-clause-honest
leave-requires-in-End-clause-honest g c =
    let first = g.S.Space.key c.args.task.search.space in
    let old = g.S.Space.key c.slices.task.search.space in
    let rest = c.in-Ok-Some.rest in
    let new = g.S.Space.key rest.search.space in
    let agree : Agree new old = MatchOption-at_some _ (λ (more : Task g.row.S.Denot). Agree (g.S.Space.key more.search.space) old) rest c.in-Ok-Some.field-0-is c.in-Ok-Some.ensures.key in
    let agree' : Agree (g.S.Space.key c.after_slice.new.task.search.space) first =
    subst (λ (s : g.row.S.Denot). Agree (g.S.Space.key s) first) (sym c.after_slice.ensures.space) (agree_trans new old first agree c.slices.invariant.key) in
    let honest = all_agree first old c.slices.invariant.key c.search_on.new.pieces.items c.in-Ok-Some.ensures.honest in
    all_agree (g.S.Space.key c.after_slice.new.task.search.space) first (agree_sym (g.S.Space.key c.after_slice.new.task.search.space) first agree') c.search_on.new.pieces.items honest

pub returns-in-End : goal.returns-in-End
returns-in-End g c =
    let first = g.S.Space.key c.args.task.search.space in
    let old = g.S.Space.key c.slices.task.search.space in
    let rest = c.in-Ok-Some.rest in
    let new = g.S.Space.key rest.search.space in
    let agree : Agree new old = MatchOption-at_some _ (λ (more : Task g.row.S.Denot). Agree (g.S.Space.key more.search.space) old) rest c.in-Ok-Some.field-0-is c.in-Ok-Some.ensures.key in
    let agree' : Agree (g.S.Space.key c.after_slice.new.task.search.space) first =
    subst (λ (s : g.row.S.Denot). Agree (g.S.Space.key s) first) (sym c.after_slice.ensures.space) (agree_trans new old first agree c.slices.invariant.key) in
    all_agree first (g.S.Space.key c.after_slice.new.task.search.space) agree' c.leave-in-End.new.pieces.items c.leave-in-End.ensures.honest
