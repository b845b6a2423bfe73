use Rattle.std.proofs.Common.{◌≡◌, ◌∷◌, reverse, sym, ◌∙◌, ap}
use Rattle.pm_machine.proofs.TreeLemmas.{reopens_same, no_start, reverse_push}
use Rattle.pm_machine.proofs.tree.Tree.undo.Goals as goal

pub reopen-requires : goal.reopen-requires
reopen-requires c =
    let t = c.in_ok-step.field-0 in
    let earlier = reverse c.pop.new.self.items in
    let taken : c.args.self.now.taken ≡ t ∷ earlier =
    sym (ap (λ t. t.taken) c.self.view_is) ∙ ap reverse c.in_ok-step.ensures.items ∙ reverse_push c.pop.new.self.items t in
    reopens_same t.leaf t.nodes c.args.self.now _ (sym (ap (λ t. t.nodes) c.self.view_is)) (sym (ap (λ t. t.branch) c.self.view_is))
    ((c.requires t earlier taken).reopens (no_start t.step c.in-Extend.is))
