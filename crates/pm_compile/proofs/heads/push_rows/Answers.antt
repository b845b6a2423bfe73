use Rattle.std.proofs.Common.{ℕ, List, [], ◌∷◌, ◌++◌, reverse, sym, ◌∙◌, ap, append_assoc}
use Rattle.std.proofs.lemmas.List.{append-nil, nil_from_length, reverse-append}
use Rattle.pm_compile.proofs.heads.push_rows.Goals as goal

pub reversed-preserved : goal.reversed-preserved
reversed-preserved c =
    let rest = c.next.new.self.iter.rest.now in
    let row = c.in-Some.field-0.now in
    ap (λ (rows : List ℕ). rows ++ reverse rest) c.in_ok-push.ensures.items
    ∙ append_assoc c.reversed.pending.items (row ∷ []) (reverse rest)
    ∙ ap (λ (rows : List ℕ). c.reversed.pending.items ++ rows) (sym (ap reverse c.in-Some.ensures.steps ∙ reverse-append rest (row ∷ [])))
    ∙ c.reversed.invariant

pub returns : goal.returns
returns c =
    sym (append-nil c.reversed.pending.items)
    ∙ ap (λ (rows : List ℕ). c.reversed.pending.items ++ reverse rows) (sym (nil_from_length _ c.in-None.ensures.steps.0))
    ∙ c.reversed.invariant
