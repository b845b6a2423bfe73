use Rattle.std.proofs.Common.{◌<◌, ◌+◌, ◌^◌, ◌++◌, List, [], ◌∷◌, length, map, ◌∙◌, ap, sym, subst, arith}
use Rattle.std.specs.Prelude.{Contains}
use Rattle.pm_logic.specs.declared.symbols.Symbol.{Symbol as Row}
use Rattle.pm_logic.specs.Problem.{Symbol}
use Rattle.pm_logic.specs.Inside.Index.{symbol_of, IsIndexed}
use Rattle.pm_logic.proofs.IndexLemmas.{symbols-push, Numbers-new, IsIndexed-push}
use Rattle.pm_logic.proofs.symbols.Symbols.number.Goals as goal

pub invariant_of-self-2 : goal.invariant_of-self-2
invariant_of-self-2 c =
    let target : Symbol = record { text = c.args.text.now; arity = c.args.arity; kind = c.args.kind } in
    let row : Row = record { text = c.in_ok-from_str.field-0; arity = c.args.arity; kind = c.args.kind } in
    let grown = symbols-push c.self.inside.rows.items c.push_reserved.new.self.items row c.args.text.now
    (c.push_reserved.ensures.items ∙ ap (λ rows. rows ++ row ∷ []) c.reserve.ensures.items) c.in_ok-from_str.ensures.ok in
    let absent = subst (λ (symbols : List Symbol). ¬ Contains symbols target) (sym c.self.view_is) c.in_default.ensures.none in
    let next = c.len-number.ensures.count ∙ ap length (sym c.self.view_is) in
    let few : c.len-number.result + 1 < 2 ^ 32 = omega (arith, c.len-number.ensures.count, c.requires) in
    subst (λ (symbols : List Symbol). IsIndexed symbols c.add_number.new.by_text) (sym grown)
    (IsIndexed-push c.self.inside.by_text c.add_number.new.by_text (map symbol_of c.self.inside.rows.items) target c.len-number.result
    c.self.invariant absent next few c.in_ok-add_number.ensures.ok)

pub returns-clause-numbered : goal.returns-clause-numbered
returns-clause-numbered c =
    let target : Symbol = record { text = c.args.text.now; arity = c.args.arity; kind = c.args.kind } in
    let row : Row = record { text = c.in_ok-from_str.field-0; arity = c.args.arity; kind = c.args.kind } in
    let grown = symbols-push c.self.inside.rows.items c.push_reserved.new.self.items row c.args.text.now
    (c.push_reserved.ensures.items ∙ ap (λ rows. rows ++ row ∷ []) c.reserve.ensures.items) c.in_ok-from_str.ensures.ok in
    Numbers-new (map symbol_of c.self.inside.rows.items) c.args.self.now (map symbol_of c.push_reserved.new.self.items) target c.len-number.result
    c.self.view_is grown c.len-number.ensures.count c.in_default.ensures.none
