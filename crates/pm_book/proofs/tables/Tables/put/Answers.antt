use Rattle.std.proofs.Common.{◌≡◌, ◌∙◌, length, ap, subst, sym, arith, refl, length-append}
use Rattle.std.specs.Prelude.{[], ◌∷◌}
use Rattle.std.specs.Option.{option_to_list}
use Rattle.std.proofs.lemmas.Option.{slice_get_within}
use Rattle.pm_book.specs.declared.tables.Tables.{Tables}
use Rattle.pm_book.specs.declared.counts.Counts.{Counts}
use Rattle.pm_book.specs.Inside.Counted.{AreCounted, AreSmall, both}
use Rattle.pm_book.specs.Inside.Seen.{seen, HasPut}
use Rattle.pm_book.proofs.PutRows.{put_after, one_at_most}
use Rattle.pm_book.proofs.Places.{places_after, best_place_after}
use Rattle.pm_book.proofs.Stays.{counts_part, counts_after, put_small, put_small_one, put_running, lowers_after, hint_after}
use Rattle.pm_book.proofs.tables.Tables.put.Goals as goal

pub without-others-requires : goal.without-others-requires
without-others-requires c = counts_part c.args.self.now c.args.spot c.count_row.result c.requires.kept c.requires.there c.count_row.ensures.counted

pub index_mut-requires : goal.index_mut-requires
index_mut-requires c =
    let within = slice_get_within c.args.self.now.rows.items c.args.spot.place c.args.spot.row c.requires.there in
    omega (arith, within, c.args.self.now.rows.ok.0)

pub overflow_add-spot : goal.overflow_add-spot
overflow_add-spot c =
    let within = slice_get_within c.args.self.now.rows.items c.args.spot.place c.args.spot.row c.requires.there in
    omega (arith, within, c.args.self.now.rows.ok.0, c.args.self.now.rows.small)

pub insert_row-requires-clause-place : goal.insert_row-requires-clause-place
insert_row-requires-clause-place c =
    let within = slice_get_within c.args.self.now.rows.items c.args.spot.place c.args.spot.row c.requires.there in
    omega (arith, within, c.args.self.now.rows.ok.0)

pub with-requires-clause-small : goal.with-requires-clause-small
with-requires-clause-small c =
    put_small c.args.self.now c.without-others.result c.count_row.result c.requires.kept c.without-others.ensures
    (omega (arith, c.args.self.now.rows.ok.0, c.args.self.now.rows.small)) (omega (arith, c.args.self.now.events.ok.0, c.args.self.now.events.small))

pub with-self-requires-clause-small : goal.with-self-requires-clause-small
with-self-requires-clause-small c =
    subst AreSmall (sym c.with.ensures)
    (put_small_one c.args.self.now c.without-others.result c.count_row.result c.count_row-2.result c.requires.kept c.without-others.ensures
    (omega (arith, c.args.self.now.rows.ok.0, c.args.self.now.rows.small)) (omega (arith, c.args.self.now.events.ok.0, c.args.self.now.events.small)) c.count_row-2.ensures.few)

pub returns-clause-put : goal.returns-clause-put
returns-clause-put c = record {
  rows_are = c.insert_row.ensures.items ∙ put_after c.args.self.now.rows.items c.args.spot.place c.args.row (option_to_list c.args.rest) (slice_get_within c.args.self.now.rows.items c.args.spot.place c.args.spot.row c.requires.there);
  cuts_are = c.push_cut.ensures.items;
  events_are = c.push_reserved.ensures.items;
  best_is = refl;
  budget_is = refl;
}

pub returns-clause-kept : goal.returns-clause-kept
returns-clause-kept c =
    let old = c.args.self.now in
    let spot = c.args.spot in
    let others = c.without-others.result in
    let one = c.count_row.result in
    let here = c.count_row-2.result in
    let more = c.count_rest.result in
    let news = option_to_list c.args.rest in
    let counts : Counts = c.with-self.result in
    let new : Tables = record {
      rows = c.insert_row.new.rows;
      best = old.best;
      budget = old.budget;
      cuts = c.push_cut.new.cuts;
      events = c.push_reserved.new.self;
      lowers = c.push_lower.new.lowers;
      counts = counts;
      hint = c.lowest-self.result;
    } in
    let within = slice_get_within old.rows.items spot.place spot.row c.requires.there in
    let put : HasPut old new spot.place (c.args.row ∷ news) c.args.cut c.args.event = record {
      rows_are = c.insert_row.ensures.items ∙ put_after old.rows.items spot.place c.args.row news within;
      cuts_are = c.push_cut.ensures.items;
      events_are = c.push_reserved.ensures.items;
      best_is = refl;
      budget_is = refl;
    } in
    let counts-are : counts ≡ both (both others here) more = c.with-self.ensures ∙ ap (λ (n : Counts). both n more) c.with.ensures in
    let running = put_running old new spot c.args.row c.args.rest others one here more c.count_row.ensures.counted c.without-others.ensures c.count_row-2.ensures.counted c.count_rest.ensures.counted c.requires.rest in
    let runs = ap (λ (n : Counts). n.running) counts-are in
    let spends = ap (λ (n : Counts). n.spent) counts-are in
    let spent = ap (λ (n : Counts). n.spent) c.without-others.ensures in
    let events = ap length c.push_reserved.ensures.items ∙ length-append old.events.items (c.args.event ∷ []) in
    record {
      places = places_after old new spot.place (c.args.row ∷ news) c.args.cut c.args.event c.requires.kept put c.requires.places;
      best = best_place_after old new spot.place (c.args.row ∷ news) c.args.cut c.args.event c.requires.kept put;
      lowers = lowers_after old new spot c.args.row c.args.rest c.args.cut c.args.event c.requires.kept c.requires.there put c.requires.same c.requires.rest c.push_lower.ensures.items;
      counted = subst (λ (n : Counts). AreCounted n (seen new).best (seen new).rows) (sym counts-are)
          (counts_after old new spot c.args.row news c.args.cut c.args.event others one here more c.requires.kept c.requires.there put c.count_row.ensures.counted c.without-others.ensures c.count_row-2.ensures.counted c.count_rest.ensures.counted);
      few = omega (arith, spends, spent, events, c.requires.kept.few, c.count_row-2.ensures.few.spent, c.count_rest.ensures.few.spent);
      hint = hint_after old new spot c.args.row c.args.rest c.args.cut c.args.event c.lowest-self.result c.requires.kept within put c.lowest-self.ensures;
      room = record {
        rows = omega (arith, one_at_most c.args.rest, c.insert_row.ensures.length, c.insert_row.ensures.capacity, c.requires.room.rows, runs, running);
        cuts = omega (arith, one_at_most c.args.cut, c.push_cut.ensures.length, c.push_cut.ensures.capacity, c.requires.room.cuts, runs, running);
        events = omega (arith, c.push_reserved.ensures.len, c.push_reserved.ensures.capacity, c.requires.room.events, runs, running);
        lowers = omega (arith, one_at_most c.args.rest, c.push_lower.ensures.length, c.push_lower.ensures.capacity, c.requires.room.lowers, runs, running);
      };
    }
