use Rattle.std.proofs.Common.{refl, sym, ◌∙◌, ap, get_or, false}
use Rattle.std.specs.List.{list_all}
use Rattle.pm_tab.proofs.Kept.{literal_told, numbered_none, key_numbered}
use Rattle.pm_tab.proofs.numbers.number_literal.Goals as goal

pub returns-then-not-are_ground : goal.returns-then-not-are_ground
returns-then-not-are_ground c = λ terms all tells knows at.
    let told = c.are_ground.ensures ∙ ap (list_all (λ row. get_or c.args.ground.now row false)) c.deref.ensures.value in
    numbered_none terms all c.args.place _ c.args.seen.now.entries c.requires.place knows at
    (sym (literal_told terms c.args.ground.now c.args.literal.now.args.items _ tells c.requires.rows told) ∙ c.if-not-are_ground.true)

pub returns : goal.returns
returns c = λ terms all tells knows at.
    let told = c.are_ground.ensures ∙ ap (list_all (λ row. get_or c.args.ground.now row false)) c.deref.ensures.value in
    key_numbered terms all c.args.ground.now c.args.place c.args.literal.now
    (record { positive = c.args.literal.now.positive; predicate = c.args.literal.now.predicate; args = c.in_ok-from_slice.field-0 })
    c.args.seen.now.entries c.number_key.new.seen.entries c.number_key.result c.requires.place tells knows at c.requires.rows
    (sym c.if-not-are_ground.false ∙ told) refl refl (sym (c.in_ok-from_slice.ensures.items ∙ c.deref-2.ensures.value)) c.number_key.ensures
