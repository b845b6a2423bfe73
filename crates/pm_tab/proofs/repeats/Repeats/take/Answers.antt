use Rattle.std.proofs.Common.{◌≡◌, ◌+◌, ◌-◌, ◌<◌, ◌≤◌, ◌^◌, length, map, get_or, refl, sym, ◌∙◌, ap, ap₂, subst, arith}
use Rattle.std.specs.Prelude.{All}
use Rattle.std.proofs.lemmas.Bool.{MatchBool-at_true, MatchBool-at_false}
use Rattle.std.proofs.lemmas.List.{length-map}
use Rattle.std.proofs.lemmas.List.Elements.{All-weaker}
use Rattle.pm_store.specs.Marks.{counts_of, bound_since}
use Rattle.pm_diseq.specs.Standing.{StoodBefore}
use Rattle.pm_machine.specs.Node.{node_of}
use Rattle.pm_machine.specs.State.{CellNode}
use Rattle.pm_tab.specs.declared.repeats.Watermark.{Watermark}
use Rattle.pm_tab.specs.Repeats.{literals_in, literals_after, last_of}
use Rattle.pm_tab.specs.Inside.Adding.{HasFamilyAfter, WatchesMore, RepeatsSome}
use Rattle.pm_tab.specs.Inside.Numbering.{AreNumbered}
use Rattle.pm_tab.specs.Inside.Steps.{step_named, GrewTo}
use Rattle.pm_tab.specs.Inside.Watched.{Watch, Watches, GrewFrom}
use Rattle.pm_tab.proofs.Told.{zip_long}
use Rattle.pm_tab.proofs.Branches.{branch_low}
use Rattle.pm_tab.proofs.Giving.{put_in, IsPlaceAfter}
use Rattle.pm_tab.proofs.Settling.{answers_taken, undone, gone_back, marked, stood, room, within_numbers, watches_then, grew_from, ids_numbered, none_labelled}
use Rattle.pm_tab.proofs.repeats.Repeats.take.Goals as goal

pub note_ids-requires : goal.note_ids-requires
note_ids-requires c =
    let nodes = c.args.machine.now.state.nodes in
    let items = c.note_branch.new.branch.items in
    let low = branch_low nodes items c.in_ok-note_branch.ensures in
    let long : length nodes ≡ length c.self.inside.numbers.items =
    sym (length-map nodes (λ (node : CellNode). node.literal)) ∙ zip_long _ _ _ c.requires.watches.numbers ∙ ap (λ (w : Watch). length w.numbers) (sym c.self.view_is) in
    subst (All (λ p. p < length c.deref.result.now)) (sym c.deref-2.ensures.value)
    (subst (λ n. All (λ p. p < n) items) (long ∙ ap length (sym c.deref.ensures.value)) low)

pub place_after-requires : goal.place_after-requires
place_after-requires c =
    let nodes = c.args.machine.now.state.nodes in
    let items = c.note_branch.new.branch.items in
    let low = branch_low nodes items c.in_ok-note_branch.ensures in
    let long : length nodes ≡ length c.self.inside.numbers.items =
    sym (length-map nodes (λ (node : CellNode). node.literal)) ∙ zip_long _ _ _ c.requires.watches.numbers ∙ ap (λ (w : Watch). length w.numbers) (sym c.self.view_is) in
    let small = c.self.inside.numbers.small in
    let ok = c.self.inside.numbers.ok in
    subst (All (λ p. p + 1 < 2 ^ 64)) (sym c.deref-3.ensures.value)
    (All-weaker (λ p. p < length nodes) (λ p. p + 1 < 2 ^ 64) (λ p less. omega (arith, less, long, small, ok.0, ok.1)) items low)

pub settle-requires-clause-has : goal.settle-requires-clause-has
settle-requires-clause-has c =
    let old = c.args.machine.now in
    let new = c.take.new.machine in
    let taken = answers_taken (step_named c.args.step) old new c.in_ok-take.field-0 c.if-not-branch.false c.in_ok-take.ensures.answer in
    let counted = sym (length-map c.nodes-nodes.result.now node_of) ∙ ap length c.nodes-nodes.ensures.nodes in
    marked old new (step_named c.args.step) c.requires.valid c.nodes-nodes.ensures.built c.requires.may taken c.args.self.now c.requires.watches
    c.note_branch.new.branch.items c.in_ok-note_branch.ensures (length c.nodes-nodes.result.now) counted
    c.mark-bindings.result (c.mark-bindings.ensures.counts ∙ ap counts_of c.store.ensures)

pub settle-requires-clause-stood : goal.settle-requires-clause-stood
settle-requires-clause-stood c =
    let old = c.args.machine.now in
    let new = c.take.new.machine in
    let taken = answers_taken (step_named c.args.step) old new c.in_ok-take.field-0 c.if-not-branch.false c.in_ok-take.ensures.answer in
    let counted = sym (length-map c.nodes-nodes.result.now node_of) ∙ ap length c.nodes-nodes.ensures.nodes in
    subst (λ pool. StoodBefore new.state.equations pool (bound_since new.state.equations c.mark-bindings.result)) (sym (ap (λ (w : Watch). w.notes) c.self.view_is))
    (stood old new (step_named c.args.step) c.requires.valid c.nodes-nodes.ensures.built c.requires.may taken c.args.self.now c.requires.watches
    c.note_branch.new.branch.items c.in_ok-note_branch.ensures (length c.nodes-nodes.result.now) counted
    c.mark-bindings.result (c.mark-bindings.ensures.counts ∙ ap counts_of c.store.ensures))

pub settle-requires-clause-room : goal.settle-requires-clause-room
settle-requires-clause-room c =
    let old = c.args.machine.now in
    let new = c.take.new.machine in
    let taken = answers_taken (step_named c.args.step) old new c.in_ok-take.field-0 c.if-not-branch.false c.in_ok-take.ensures.answer in
    let counted = sym (length-map c.nodes-nodes.result.now node_of) ∙ ap length c.nodes-nodes.ensures.nodes in
    subst (λ places. HasFamilyAfter new.state.nodes places (length c.nodes-nodes.result.now)) (sym c.deref-4.ensures.value)
    (room old new (step_named c.args.step) c.requires.valid c.nodes-nodes.ensures.built c.requires.may taken c.args.self.now c.requires.watches
    c.note_branch.new.branch.items c.in_ok-note_branch.ensures (length c.nodes-nodes.result.now) counted)

pub settle-requires-clause-numbers : goal.settle-requires-clause-numbers
settle-requires-clause-numbers c =
    let old = c.args.machine.now in
    let new = c.take.new.machine in
    let taken = answers_taken (step_named c.args.step) old new c.in_ok-take.field-0 c.if-not-branch.false c.in_ok-take.ensures.answer in
    let counted = sym (length-map c.nodes-nodes.result.now node_of) ∙ ap length c.nodes-nodes.ensures.nodes in
    let after : IsPlaceAfter c.note_branch.new.branch.items c.place_after.result = record {
      some = λ some. subst (λ places. c.place_after.result ≡ last_of places + 1) c.deref-3.ensures.value (c.place_after.ensures.some (λ none. some (sym c.deref-3.ensures.value ∙ none)));
      none = λ none. c.place_after.ensures.none (c.deref-3.ensures.value ∙ none);
    } in
    let n = length new.state.nodes - length c.nodes-nodes.result.now in
    let ids : c.deref-5.result.now ≡ map (λ p. get_or c.args.self.now.numbers p 0) c.note_branch.new.branch.items =
    c.deref-5.ensures.value ∙ c.in_ok-note_ids.ensures
    ∙ ap₂ (λ ns ps. map (λ p. get_or ns p 0) ps) (c.deref.ensures.value ∙ ap (λ (w : Watch). w.numbers) c.self.view_is) c.deref-2.ensures.value in
    λ some. subst (λ places. AreNumbered new.state.equations (literals_in new.state.nodes places) c.deref-5.result.now (literals_after new.state.nodes (last_of places) n) c.args.numbers.now)
    (sym c.deref-4.ensures.value)
    (subst (λ ks. AreNumbered new.state.equations (literals_in new.state.nodes c.note_branch.new.branch.items) ks (literals_after new.state.nodes (last_of c.note_branch.new.branch.items) n) c.args.numbers.now)
    (sym ids)
    (ids_numbered old new (step_named c.args.step) c.requires.valid c.nodes-nodes.ensures.built c.requires.may taken c.args.self.now c.requires.watches
    c.note_branch.new.branch.items c.in_ok-note_branch.ensures (length c.nodes-nodes.result.now) counted
    c.place_after.result after c.args.numbers.now c.requires.numbers (λ none. some (c.deref-4.ensures.value ∙ none))))

pub insert_reserved-requires-clause-place : goal.insert_reserved-requires-clause-place
insert_reserved-requires-clause-place c =
    let old = c.args.machine.now in
    let new = c.take.new.machine in
    let taken = answers_taken (step_named c.args.step) old new c.in_ok-take.field-0 c.if-not-branch.false c.in_ok-take.ensures.answer in
    let counted = sym (length-map c.nodes-nodes.result.now node_of) ∙ ap length c.nodes-nodes.ensures.nodes in
    let after : IsPlaceAfter c.note_branch.new.branch.items c.place_after.result = record {
      some = λ some. subst (λ places. c.place_after.result ≡ last_of places + 1) c.deref-3.ensures.value (c.place_after.ensures.some (λ none. some (sym c.deref-3.ensures.value ∙ none)));
      none = λ none. c.place_after.ensures.none (c.deref-3.ensures.value ∙ none);
    } in
    subst (λ ns. c.place_after.result ≤ length ns) (sym (c.in_ok-reserve.ensures.items ∙ ap (λ (w : Watch). w.numbers) c.self.view_is))
    (within_numbers old new (step_named c.args.step) c.requires.valid c.nodes-nodes.ensures.built c.requires.may taken c.args.self.now c.requires.watches
    c.note_branch.new.branch.items c.in_ok-note_branch.ensures (length c.nodes-nodes.result.now) counted
    c.place_after.result after c.args.numbers.now c.requires.numbers)

pub returns-in-Ok-true-clause-answer : goal.returns-in-Ok-true-clause-answer
returns-in-Ok-true-clause-answer c =
    let old = c.args.machine.now in
    let new = c.take.new.machine in
    let taken = answers_taken (step_named c.args.step) old new c.in_ok-take.field-0 c.if-not-branch.false c.in_ok-take.ensures.answer in
    let counted = sym (length-map c.nodes-nodes.result.now node_of) ∙ ap length c.nodes-nodes.ensures.nodes in
    let after : IsPlaceAfter c.note_branch.new.branch.items c.place_after.result = record {
      some = λ some. subst (λ places. c.place_after.result ≡ last_of places + 1) c.deref-3.ensures.value (c.place_after.ensures.some (λ none. some (sym c.deref-3.ensures.value ∙ none)));
      none = λ none. c.place_after.ensures.none (c.deref-3.ensures.value ∙ none);
    } in
    let n = length new.state.nodes - length c.nodes-nodes.result.now in
    let notes = ap (λ (w : Watch). w.notes) c.self.view_is in
    let grown = c.settle.new.pool in
    let numbers : c.insert_reserved.new.into.items ≡ put_in c.place_after.result c.args.numbers.now c.args.self.now.numbers =
    c.insert_reserved.ensures ∙ ap (put_in c.place_after.result c.args.numbers.now) (c.in_ok-reserve.ensures.items ∙ ap (λ (w : Watch). w.numbers) c.self.view_is) in
    let after_all : Watch = record { notes = grown; numbers = put_in c.place_after.result c.args.numbers.now c.args.self.now.numbers } in
    let same : record { notes = grown; numbers = c.insert_reserved.new.into.items } ≡ after_all = λ k. record { notes = grown; numbers = numbers k } in
    let more : WatchesMore new.state c.args.self.now.notes grown c.note_branch.new.branch.items n =
    subst (λ places. WatchesMore new.state c.args.self.now.notes grown places n) c.deref-4.ensures.value
    (subst (λ pool. WatchesMore new.state pool grown c.deref-4.result.now n) notes
    (MatchBool-at_true (WatchesMore new.state c.self.inside.pool grown c.deref-4.result.now n) _ c.in-Ok-true.field-0-test c.in-Ok-true.ensures.apart)) in
    let mark : Watermark = record { notes = c.mark.result; place = c.place_after.result; count = length c.args.numbers.now } in (
      taken,
      subst (Watches old.problem.clauses new.state) (sym same)
          (watches_then old new (step_named c.args.step) c.requires.valid c.nodes-nodes.ensures.built c.requires.may taken c.args.self.now c.requires.watches
          c.note_branch.new.branch.items c.in_ok-note_branch.ensures (length c.nodes-nodes.result.now) counted
          c.place_after.result after c.args.numbers.now c.requires.numbers grown more),
      subst (GrewFrom mark c.args.self.now) (sym same)
          (grew_from old new (step_named c.args.step) c.requires.valid c.nodes-nodes.ensures.built c.requires.may taken c.args.self.now c.requires.watches
          c.note_branch.new.branch.items c.in_ok-note_branch.ensures (length c.nodes-nodes.result.now) counted
          c.place_after.result after c.args.numbers.now c.requires.numbers grown more mark (c.mark.ensures ∙ ap length notes) refl refl
          (subst (λ pool. GrewTo pool grown) notes c.in-Ok-true.ensures.more)),
    )

pub returns-in-Ok-false-clause-answer : goal.returns-in-Ok-false-clause-answer
returns-in-Ok-false-clause-answer c =
    let old = c.args.machine.now in
    let new = c.take.new.machine in
    let taken = answers_taken (step_named c.args.step) old new c.in_ok-take.field-0 c.if-not-branch.false c.in_ok-take.ensures.answer in
    let counted = sym (length-map c.nodes-nodes.result.now node_of) ∙ ap length c.nodes-nodes.ensures.nodes in
    let n = length new.state.nodes - length c.nodes-nodes.result.now in
    let notes = ap (λ (w : Watch). w.notes) c.self.view_is in
    let repeats = MatchBool-at_false _ (RepeatsSome new.state c.self.inside.pool c.deref-4.result.now n) c.in-Ok-false.field-0-test c.in-Ok-false.ensures.repeats in
    let kept : c.go_back.new.self.notes ≡ c.args.self.now.notes =
    undone c.self.inside.pool c.settle.new.pool c.go_back.new.self.notes c.mark.result c.in-Ok-false.ensures.more c.mark.ensures c.go_back.ensures.notes ∙ notes in
    let numbers : c.go_back.new.self.numbers ≡ c.args.self.now.numbers =
    c.go_back.ensures.numbers ∙ c.in_ok-reserve.ensures.items ∙ ap (λ (w : Watch). w.numbers) c.self.view_is in (
      gone_back (step_named c.args.step) old new c.go_back.new.machine taken c.go_back.ensures.machine,
      λ k. record { notes = kept k; numbers = numbers k },
      none_labelled old new (step_named c.args.step) c.requires.valid c.nodes-nodes.ensures.built c.requires.may taken c.args.self.now c.requires.watches
          c.note_branch.new.branch.items c.in_ok-note_branch.ensures (length c.nodes-nodes.result.now) counted
          (subst (λ places. RepeatsSome new.state c.args.self.now.notes places n) c.deref-4.ensures.value
          (subst (λ pool. RepeatsSome new.state pool c.deref-4.result.now n) notes repeats)),
    )
