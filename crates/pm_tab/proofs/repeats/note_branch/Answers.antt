use Rattle.std.proofs.Common.{◌++◌, ◌∷◌, [], sym, ◌∙◌, ap, subst}
use Rattle.pm_tab.specs.Repeats.{NotesBranch}
use Rattle.pm_tab.proofs.Noting.{notes_of, notes_no}
use Rattle.pm_tab.proofs.repeats.note_branch.Goals as goal

pub returns-in_ok-push : goal.returns-in_ok-push
returns-in_ok-push c =
    subst (NotesBranch c.args.machine.now.state.nodes)
    (sym (c.in_ok-push.ensures.items ∙ ap (λ ps. ps ++ c.place.result ∷ []) (c.in_ok-extend_from_slice.ensures.items ∙ ap (λ ps. ps ++ c.ancestors.result.now) c.clear.ensures.items)))
    (notes_of c.args.machine.now.problem c.args.machine.now.state c.leaf.ensures.built c.leaf.result c.leaf.ensures.shown (sym c.is_some.ensures ∙ c.if-is_some.true)
    c.ancestors.result.now c.place.result c.ancestors.ensures c.place.ensures)

pub returns-else-is_some : goal.returns-else-is_some
returns-else-is_some c =
    subst (NotesBranch c.args.machine.now.state.nodes) (sym c.clear.ensures.items)
    (notes_no c.args.machine.now.problem c.args.machine.now.state c.leaf.ensures.built c.leaf.result c.leaf.ensures.shown (sym c.is_some.ensures ∙ c.if-is_some.false))
