use Rattle.pm_certread.proofs.FormLemmas.{cut_some, cut_none}
use Rattle.pm_certread.proofs.LevelLemmas.{no_line, not_level, other_level, found_level}
use Rattle.pm_certread.proofs.levels.read_level.Goals as goal

pub returns-in_default : goal.returns-in_default
returns-in_default c work h = no_line c.args.raw.now c.args.level work (cut_none (λ ws. ws.items) c.args.raw.now c.in_ok-words.field-0 c.in_ok-words.ensures c.in_default.is) h

pub returns-in_default-level_line : goal.returns-in_default-level_line
returns-in_default-level_line c work h =
    not_level c.args.raw.now c.deref.result.now c.args.level work
    (cut_some (λ ws. ws.items) c.args.raw.now c.in_ok-words.field-0 c.in-Some.words c.deref.result.now c.in_ok-words.ensures c.in-Some.is c.deref.ensures.value)
    c.in_default-level_line.ensures h

pub returns-then-line-level : goal.returns-then-line-level
returns-then-line-level c work h =
    other_level c.args.raw.now c.deref.result.now c.in-Some-level_line.line c.args.level work
    (cut_some (λ ws. ws.items) c.args.raw.now c.in_ok-words.field-0 c.in-Some.words c.deref.result.now c.in_ok-words.ensures c.in-Some.is c.deref.ensures.value)
    c.in-Some-level_line.ensures c.if-line-level.true h

pub returns : goal.returns
returns c =
    found_level c.args.raw.now c.deref.result.now c.in-Some-level_line.line c.args.level
    (cut_some (λ ws. ws.items) c.args.raw.now c.in_ok-words.field-0 c.in-Some.words c.deref.result.now c.in_ok-words.ensures c.in-Some.is c.deref.ensures.value)
    c.in-Some-level_line.ensures c.if-line-level.false
