use Rattle.std.proofs.Common.{◌∙◌, ◌<◌, ℕ, List, length, sym, subst, ap}
use Rattle.std.specs.List.{All}
use Rattle.pm_certread.specs.Inside.Terms.{rows_of}
use Rattle.pm_certread.proofs.TermLemmas.{adds_application, rows_within}
use Rattle.pm_certread.proofs.terms.TermRows.add_application.Goals as goal

abbrev Below : ℕ → List ℕ → Type 0
Below bound rows = All (λ r. r < bound) rows

pub add_app-requires : goal.add_app-requires
add_app-requires c =
    let given = c.args.self.now in
    subst (Below (length given.table)) (sym (c.deref-2.ensures.value ∙ c.in_ok-args.ensures ∙ ap (λ (rows : List ℕ). rows_of rows c.args.numbers.now) c.deref.ensures.value))
    (rows_within (length given.table) given.rows.items c.args.numbers.now c.requires.rows c.requires.there)

pub returns-clause-added : goal.returns-clause-added
returns-clause-added c =
    let given = c.args.self.now in
    adds_application given.table c.add_app.new.self given.rows.items c.push.new.self.items c.args.numbers.now c.deref-2.result.now c.args.symbol c.in_ok-row.row
    c.requires.rows c.requires.there (c.deref-2.ensures.value ∙ c.in_ok-args.ensures ∙ ap (λ (rows : List ℕ). rows_of rows c.args.numbers.now) c.deref.ensures.value)
    c.in_ok-row.ensures.added c.in_ok-push.ensures.items
