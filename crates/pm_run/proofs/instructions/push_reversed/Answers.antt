use Rattle.std.proofs.Common.{ℕ, List, [], ◌∷◌, ◌++◌, reverse, sym, ◌∙◌, ap, append_assoc}
use Rattle.std.proofs.lemmas.List.{append-nil, nil_from_length, reverse-append}
use Rattle.pm_run.proofs.instructions.push_reversed.Goals as goal

pub cells-preserved : goal.cells-preserved
cells-preserved c =
    let rest = c.next.new.self.iter.rest.now in
    let cell = c.in-Some.field-0.now in
    ap (λ (cs : List ℕ). cs ++ reverse rest) c.in_ok-push.ensures.items
    ∙ append_assoc c.cells.stack.items (cell ∷ []) (reverse rest)
    ∙ ap (λ (cs : List ℕ). c.cells.stack.items ++ cs) (sym (ap reverse c.in-Some.ensures.steps ∙ reverse-append rest (cell ∷ [])))
    ∙ c.cells.invariant

pub returns : goal.returns
returns c =
    sym (append-nil c.cells.stack.items)
    ∙ ap (λ (cs : List ℕ). c.cells.stack.items ++ reverse cs) (sym (nil_from_length _ c.in-None.ensures.steps.0))
    ∙ c.cells.invariant
