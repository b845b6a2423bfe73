use Rattle.std.proofs.Common.{sym, ◌∙◌}
use Rattle.indexmap.proofs.CallerLemmas.{insert_entry-new}
use Rattle.pm_tab.proofs.Kept.{number_kept, number_new}
use Rattle.pm_tab.proofs.numbers.number_key.Goals as goal

pub returns-in-Some : goal.returns-in-Some
returns-in-Some c = number_kept c.args.seen.now.entries c.args.key c.args.place c.in-Some.field-0.now c.in-Some.ensures.value

pub returns : goal.returns
returns c =
    let none = sym c.in_default.ensures.value in
    number_new c.args.seen.now.entries c.insert.new.self.entries c.args.key c.args.place none
    (c.in_ok-insert.ensures.entries ∙ insert_entry-new _ c.args.seen.now c.args.key c.args.place none)
