use Rattle.std.proofs.Common.{◌≡◌, ℕ, ◌+◌, ◌<◌, ◌∙◌, ap, sym, subst, List, [], ◌∷◌, length, take, get_or}
use Rattle.std.specs.Prelude.{Some, Option, IsSome}
use Rattle.std.proofs.lemmas.List.{take_more}
use Rattle.std.proofs.lemmas.Option.{slice_get-get_or}
use Rattle.pm_book.specs.declared.event.Event.{Event}
use Rattle.pm_book.specs.declared.event.Event.TheVariants.{Took}
use Rattle.pm_book.specs.Rows.{BookState}
use Rattle.pm_book.specs.Steps.{cut_of, next, replayed, new_book, step, MakesBook}
use Rattle.pm_book.specs.Inside.Seen.{seen}
use Rattle.pm_book.specs.Inside.Applied.{HasApplied}
use Rattle.pm_book.proofs.Replays.{replayed_append}
use Rattle.pm_book.proofs.BookLemmas.{always_of, sound_step}
use Rattle.pm_book.proofs.history.replay.Goals as goal

-- one event more is replayed from the book of those before it
one_more : (budget : ℕ) (cuts : List (List ℕ)) (events : List Event) (at : ℕ) (book : BookState) → at < length events → MakesBook budget cuts (take at events) book
    → replayed cuts (take (at + 1) events) (Some (new_book budget)) ≡ next cuts (Some book) (get_or events at (Took 0 0))
one_more budget cuts events at book within made =
    ap (λ (l : List Event). replayed cuts l (Some (new_book budget))) (take_more events at (Took 0 0) within)
    ∙ replayed_append cuts (take at events) (get_or events at (Took 0 0) ∷ []) (Some (new_book budget))
    ∙ ap (λ (o : Option BookState). next cuts o (get_or events at (Took 0 0))) made

pub apply-requires-clause-kept : goal.apply-requires-clause-kept
apply-requires-clause-kept c = c.loop-at.invariant.sound.kept

pub apply-requires-clause-always : goal.apply-requires-clause-always
apply-requires-clause-always c = always_of c.loop-at.tables c.loop-at.invariant.sound

pub returns-in-Ok-false-clause-fault : goal.returns-in-Ok-false-clause-fault
returns-in-Ok-false-clause-fault c =
    let event : Event = get_or c.args.events.now c.loop-at.at (Took 0 0) in
    record {
      event = event;
      there = slice_get-get_or c.args.events.now c.loop-at.at (Took 0 0) c.loop-at-test.true;
      book = seen c.loop-at.tables;
      legal = c.loop-at.invariant.made;
      illegal = subst (HasApplied (seen c.loop-at.tables) event (cut_of c.args.cuts.now event) (seen c.apply.new.tables)) c.in-Ok-false.field-0-test c.in-Ok-false.ensures.applied;
    }

pub returns-in_default-clause-fault : goal.returns-in_default-clause-fault
returns-in_default-clause-fault c = c.fault_of_none.ensures c.args.budget c.args.cuts.now

pub returns-in-Err-clause-fault : goal.returns-in-Err-clause-fault
returns-in-Err-clause-fault c =
    let event : Event = get_or c.args.events.now c.loop-at.at (Took 0 0) in (
      c.loop-at.at,
      subst (λ (o : Option BookState). IsSome o)
          (sym (one_more c.args.budget c.args.cuts.now c.args.events.now c.loop-at.at (seen c.loop-at.tables) c.loop-at-test.true c.loop-at.invariant.made)) c.in-Err.ensures.memory,
    )

pub loop-at-preserved : goal.loop-at-preserved
loop-at-preserved c =
    let cuts = c.args.cuts.now in
    let event : Event = get_or c.args.events.now c.loop-at.at (Took 0 0) in
    let done : step (seen c.loop-at.tables) event (cut_of cuts event) ≡ Some (seen c.apply.new.tables) =
    subst (HasApplied (seen c.loop-at.tables) event (cut_of cuts event) (seen c.apply.new.tables)) c.in-Ok-true.field-0-test c.in-Ok-true.ensures.applied in
    record {
      sound = sound_step c.loop-at.tables c.apply.new.tables event (cut_of cuts event) c.loop-at.invariant.sound c.in-Ok-true.ensures.kept done;
      made = one_more c.args.budget cuts c.args.events.now c.loop-at.at (seen c.loop-at.tables) c.loop-at-test.true c.loop-at.invariant.made ∙ done;
    }
