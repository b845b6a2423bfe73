use Rattle.std.proofs.Common.{◌≡◌, ◌<◌, List, [], Some, slice_get, get_or, map, ◌∙◌, sym, subst, arith, below_more, rules}
use Rattle.std.specs.Prelude.{Contains}
use Rattle.std.proofs.lemmas.List.{length-map}
use Rattle.std.proofs.lemmas.Option.{slice_get_within}
use denote.Enum.Bare.{same_true, same_false}
use Rattle.pm_logic.specs.contracts.symbols.Kind.{the_type}
use Rattle.pm_logic.specs.Problem.{Symbol}
use Rattle.pm_logic.specs.Inside.Index.{symbol_of}
use Rattle.pm_logic.proofs.IndexLemmas.{of_text-sound, of_text-complete, numbers_of-found, numbers_of-absent, row_found, row_arity, row_kind}
use Rattle.pm_logic.proofs.symbols.Symbols.find.Goals as goal
use Rattle.pm_logic.proofs.symbols.Symbols.find.Goals.{else-row-arity-via-then-row-arity+else-eq, else-row-arity-via-else-row-arity}

pub returns-in_err-numbers-clause-none : goal.returns-in_err-numbers-clause-none
returns-in_err-numbers-clause-none c =
    let none = numbers_of-absent c.args.text.now c.self.inside.by_text c.in_err-numbers.ensures.value ∙ c.self.invariant.numbers c.args.text.now in
    let target : Symbol = record { text = c.args.text.now; arity = c.args.arity; kind = c.args.kind } in
    rw c.from_residual.ensures
    (subst (λ (symbols : List Symbol). ¬ Contains symbols target) c.self.view_is
    (λ has. let place = of_text-complete (map symbol_of c.self.inside.rows.items) target [] none has in absurd (omega (arith, place.1))))

pub index-row-requires : goal.index-row-requires
index-row-requires c =
    let same = c.deref-number-items.ensures.value ∙ numbers_of-found c.args.text.now c.self.inside.by_text c.in_ok-numbers.numbers.now c.in_ok-numbers.ensures.value ∙ c.self.invariant.numbers c.args.text.now in
    let h = of_text-sound (map symbol_of c.self.inside.rows.items) c.args.text.now c.deref-number-items.result.now c.loop-number.number-index same c.loop-number-test.true in
    omega (arith, slice_get_within (map symbol_of c.self.inside.rows.items) (get_or c.deref-number-items.result.now c.loop-number.number-index 0) h.symbol h.stands, length-map c.self.inside.rows.items symbol_of, c.self.inside.rows.ok.0)

pub returns-then-eq-clause-found : goal.returns-then-eq-clause-found
returns-then-eq-clause-found c =
    let n = get_or c.deref-number-items.result.now c.loop-number.number-index 0 in
    let target : Symbol = record { text = c.args.text.now; arity = c.args.arity; kind = c.args.kind } in
    let same = c.deref-number-items.ensures.value ∙ numbers_of-found c.args.text.now c.self.inside.by_text c.in_ok-numbers.numbers.now c.in_ok-numbers.ensures.value ∙ c.self.invariant.numbers c.args.text.now in
    let h = of_text-sound (map symbol_of c.self.inside.rows.items) c.args.text.now c.deref-number-items.result.now c.loop-number.number-index same c.loop-number-test.true in
    subst (λ (symbols : List Symbol). slice_get symbols n ≡ Some target) c.self.view_is
    (row_found c.self.inside.rows.items n c.index-row.result.now c.args.text.now c.args.arity c.args.kind h c.index-row.ensures
    c.if-row-arity.true (same_true the_type (search rules) _ _ (sym c.if-eq.ensures)))

pub returns-clause-none : goal.returns-clause-none
returns-clause-none c =
    let target : Symbol = record { text = c.args.text.now; arity = c.args.arity; kind = c.args.kind } in
    let same = c.deref-number-items.ensures.value ∙ numbers_of-found c.args.text.now c.self.inside.by_text c.in_ok-numbers.numbers.now c.in_ok-numbers.ensures.value ∙ c.self.invariant.numbers c.args.text.now in
    λ has.
    let place = of_text-complete (map symbol_of c.self.inside.rows.items) target c.deref-number-items.result.now same
    (subst (λ (symbols : List Symbol). Contains symbols target) (sym c.self.view_is) has) in
    let seen : place.0 < c.loop-number.number-index = omega (arith, place.1, c.loop-number-test.false) in
    c.loop-number.invariant place.0 seen
    (subst (λ (symbols : List Symbol). slice_get symbols (get_or c.deref-number-items.result.now place.0 0) ≡ Some target) c.self.view_is place.2)

pub loop-number-preserved : goal.loop-number-preserved
loop-number-preserved c =
    let n = get_or c.deref-number-items.result.now c.loop-number.number-index 0 in
    let target : Symbol = record { text = c.args.text.now; arity = c.args.arity; kind = c.args.kind } in
    below_more _ _ c.loop-number.invariant
    (λ stands.
    let here = subst (λ (symbols : List Symbol). slice_get symbols n ≡ Some target) (sym c.self.view_is) stands in
    elim c.else-row-arity.branch [
      | else-row-arity-via-then-row-arity+else-eq w ↦
          let same = row_kind c.self.inside.rows.items n c.index-row.result.now target c.index-row.ensures here in
          same_false the_type _ _ (sym w.if-eq.ensures) same
      | else-row-arity-via-else-row-arity w ↦
          w.if-row-arity.false (row_arity c.self.inside.rows.items n c.index-row.result.now target c.index-row.ensures here)
    ])
