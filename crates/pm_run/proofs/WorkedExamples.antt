-- The worked examples of runs.
use Rattle.std.proofs.Common.{◌≡◌, ℕ, ◌+◌, true, false, inl, inr, [], ◌∷◌, Some, None, slice_get, refl, sym, ◌∙◌, ap, arith}
use Rattle.std.proofs.lemmas.List.{same_from_push}
use Rattle.pm_store.specs.Entries.{Application}
use Rattle.pm_store.specs.Equations.{with_cell, with_new_variables}
use Rattle.pm_compile.specs.Instructions.{MEET, FIRST, NEW, BODY, CLOSE, REDUCE, DONE}
use Rattle.pm_run.specs.State.{CellLiteral, RunState, IsAncestor, closed_child}
use Rattle.pm_run.specs.Meaning.{with_application, new_child, RunsBody}
use Rattle.pm_run.specs.Steps.{before_step}
use Rattle.pm_run.specs.Examples.{bodies, on_cells, branch, one_variable, one_constant, propositions, ExtensionExample, FailureExample, ReductionExample, FailedReductions}
use Rattle.pm_run.proofs.BackLemmas.{same_ancestor}

pub extension_example : ExtensionExample
extension_example =
    let start : RunState = before_step 2 one_variable branch (0 ∷ []) in
    let met : RunState = record start { equations = with_application one_variable 0 0 1; stack = 1 ∷ [] } in
    let popped : RunState = record met { locals = Some 1 ∷ None ∷ []; stack = [] } in
    let all_set : RunState = record popped { locals = Some 1 ∷ Some 3 ∷ []; equations = with_new_variables popped.equations 1 } in
    let pushed : RunState = record all_set { stack = 1 ∷ [] } in
    let made : RunState = record pushed { equations = with_cell all_set.equations (Application 0 (1 ∷ [])); stack = 4 ∷ [] } in
    let one : RunState = record made { stack = []; children = new_child true 0 (4 ∷ []) ∷ [] } in
    let y : RunState = record one { stack = 3 ∷ [] } in
    let x : RunState = record one { stack = 1 ∷ 3 ∷ [] } in
    let both : RunState = record one { children = new_child true 0 (4 ∷ []) ∷ new_child false 1 (3 ∷ 1 ∷ []) ∷ [] } in
    let closed : RunState = record both { children = closed_child (new_child true 0 (4 ∷ [])) ∷ new_child false 1 (3 ∷ 1 ∷ []) ∷ [] } in
    let body : RunsBody bodies 0 all_set both = (
      pushed,
      (1, refl, refl),
      (
        made,
        (1 ∷ [], [], refl, refl, refl),
        (
          one,
          (4 ∷ [], [], refl, refl, refl),
          (
            y,
            (3, refl, refl),
            (
              x,
              (1, refl, refl),
              (both, (3 ∷ 1 ∷ [], [], refl, refl, refl), (both, refl, refl)),
            ),
          ),
        ),
      ),
    ) in (
      met,
      (0, [], 1 ∷ [], met.equations, refl, inr (record { variable = refl; unbound = refl }, refl, refl), refl),
      (popped, (1, [], refl, refl, refl), (all_set, refl, (both, body, (closed, refl, (closed, refl, refl))))),
    )

pub failure_example : FailureExample
failure_example = record {
  before = [];
  instruction = MEET 0 1;
  after = FIRST 0 ∷ NEW ∷ BODY 0 ∷ CLOSE 0 ∷ DONE ∷ [];
  reached = before_step 2 one_constant branch (0 ∷ []);
  whole = refl;
  runs = refl;
  failed = (0, [], refl, (1, [], refl, λ same. omega (arith, same.0)));
}

pub reduction_example : ReductionExample
reduction_example =
    let closed : RunState = record (before_step 0 one_variable propositions []) { closed_by = Some 1 } in
    let on : IsAncestor propositions 1 (on_cells true 0 []) (on_cells false 0 []) =
    record { above = on_cells true 0 [] ∷ on_cells true 1 [] ∷ []; place = 0; all = refl; at_depth = refl; stands = refl } in
    (closed, (on_cells true 0 [], on_cells false 0 [], one_variable, on, refl, refl, refl, refl), (closed, refl, refl))

pub failed_reductions : FailedReductions
failed_reductions = (
  record {
    before = [];
    instruction = REDUCE 2;
    after = DONE ∷ [];
    reached = before_step 0 one_variable propositions [];
    whole = refl;
    runs = refl;
    failed = λ ancestor leaf is. inr (inl (λ same. other_predicate ancestor leaf is same));
  },
  record {
    before = [];
    instruction = REDUCE 3;
    after = DONE ∷ [];
    reached = before_step 0 one_variable propositions [];
    whole = refl;
    runs = refl;
    failed = λ ancestor leaf is. absurd (no_third ancestor leaf is);
  },
)
  where
    second : IsAncestor propositions 2 (on_cells true 1 []) (on_cells false 0 [])
    second = record { above = on_cells true 0 [] ∷ on_cells true 1 [] ∷ []; place = 1; all = refl; at_depth = refl; stands = refl }

    other_predicate : (ancestor leaf : CellLiteral) → IsAncestor propositions 2 ancestor leaf → leaf.predicate ≡ ancestor.predicate → ⊥
    other_predicate ancestor leaf is same =
        let found = same_ancestor propositions 2 ancestor leaf (on_cells true 1 []) (on_cells false 0 []) is second in
        let ours : 0 ≡ 1 = sym (ap (λ (l : CellLiteral). l.predicate) found.1) ∙ same ∙ ap (λ (l : CellLiteral). l.predicate) found.0 in
        omega (arith, ours)

    past : (place : ℕ) (ancestor : CellLiteral) → 3 ≡ place + 1 → slice_get (on_cells true 0 [] ∷ on_cells true 1 [] ∷ []) place ≡ Some ancestor → ⊥
    past place ancestor at_depth stands =
        let two : place ≡ 2 = omega (arith, at_depth) in
        none_there ancestor (sym (ap (slice_get (on_cells true 0 [] ∷ on_cells true 1 [] ∷ [])) two) ∙ stands)
      where
        none_there : (a : CellLiteral) → None ≡ Some a → ⊥
        none_there a e = cc

    no_third : (ancestor leaf : CellLiteral) → IsAncestor propositions 3 ancestor leaf → ⊥
    no_third ancestor leaf is =
        let above = (same_from_push (on_cells true 0 [] ∷ on_cells true 1 [] ∷ []) is.above (on_cells false 0 []) leaf is.all).0 in
        past is.place ancestor is.at_depth (ap (λ ls. slice_get ls is.place) above ∙ is.stands)
