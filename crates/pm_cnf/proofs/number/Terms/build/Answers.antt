use Rattle.std.proofs.Common.{◌≡◌, ◌∙◌, ◌-◌, ◌++◌, ◌∷◌, [], length, sym, ap, Some, slice_get, arith}
use Rattle.std.specs.Prelude.{reverse}
use Rattle.std.proofs.lemmas.Option.{slice_get-get_or}
use Rattle.pm_cnf.specs.declared.number.Part.{Part}
use Rattle.pm_cnf.proofs.parts.VariableRows.{AreVariables-application}
use Rattle.pm_cnf.proofs.parts.Building.{variable_below, built_variable, arity_within, args_within, built_function}
use Rattle.pm_cnf.proofs.number.Terms.build.Goals as goal

pub index-requires : goal.index-requires
index-requires c =
    let cut = c.in-Some.ensures.steps ∙ ap (λ (p : Part). c.next.new.self.iter.rest.now ++ p ∷ []) c.in-Variable.is in
    let below = variable_below _ _ _ _ c.in-Variable.number _ c.parts.self-inside.variables.items _ c.requires cut c.parts.invariant in
    omega (arith, below, c.parts.self-inside.variables.ok.0)

pub parts-preserved-in_ok-push-in-Variable : goal.parts-preserved-in_ok-push-in-Variable
parts-preserved-in_ok-push-in-Variable c =
    let cut = c.in-Some.ensures.steps ∙ ap (λ (p : Part). c.next.new.self.iter.rest.now ++ p ∷ []) c.in-Variable.is in
    let below = variable_below _ _ _ _ c.in-Variable.number _ c.parts.self-inside.variables.items _ c.requires cut c.parts.invariant in
    let stands : slice_get c.parts.self-inside.variables.items c.in-Variable.number ≡ Some c.index.result.now =
    slice_get-get_or c.parts.self-inside.variables.items c.in-Variable.number c.index.result.now below ∙ ap Some (sym c.index.ensures) in
    built_variable _ _ _ _ c.in-Variable.number _ _ _ _ c.index.result.now stands cut c.in_ok-push-in-Variable.ensures.items c.parts.invariant

pub overflow_sub-len : goal.overflow_sub-len
overflow_sub-len c =
    let cut = c.in-Some.ensures.steps ∙ ap (λ (p : Part). c.next.new.self.iter.rest.now ++ p ∷ []) c.in-Function.is in
    let within = arity_within _ _ _ _ c.in-Function.symbol c.in-Function.arity _ _ c.parts.rows.items c.requires cut c.parts.invariant in
    omega (arith, within, c.len.ensures, c.parts.rows.ok.0)

pub add_app-requires : goal.add_app-requires
add_app-requires c =
    args_within _ c.parts.rows.items c.deref.result.now (c.len.result - c.in-Function.arity) c.parts.invariant.within
    (c.deref.ensures.value ∙ c.reverse.ensures.items ∙ ap reverse c.in_ok-args-in-Function.ensures.tail)

pub invariant_of-self-in_err-push-in-Function : goal.invariant_of-self-in_err-push-in-Function
invariant_of-self-in_err-push-in-Function c = AreVariables-application _ _ _ c.in-Function.symbol _ c.parts.invariant.known c.in_ok-add_app-in-Function.ensures.added.grows

pub parts-preserved : goal.parts-preserved
parts-preserved c =
    let cut = c.in-Some.ensures.steps ∙ ap (λ (p : Part). c.next.new.self.iter.rest.now ++ p ∷ []) c.in-Function.is in
    let size : c.len.result ≡ length c.parts.rows.items = omega (arith, c.len.ensures, c.parts.rows.ok.0) in
    built_function _ _ _ _ c.in-Function.symbol c.in-Function.arity _ _ _ c.parts.rows.items c.deref.result.now c.split_off.new.self.items _ _ c.len.result c.requires cut
    (c.deref.ensures.value ∙ c.reverse.ensures.items ∙ ap reverse c.in_ok-args-in-Function.ensures.tail) c.in_ok-args-in-Function.ensures.items size
    c.in_ok-push-in-Function.ensures.items c.in_ok-add_app-in-Function.ensures.added c.parts.invariant
