use Rattle.std.proofs.Common.{◌≡◌, ◌∙◌, ◌<◌, ◌++◌, ◌∷◌, [], ℕ, List, length, map, sym, subst, ap}
use Rattle.std.specs.List.{All}
use Rattle.pm_logic.specs.Term.{Term, tree_at}
use Rattle.pm_certread.specs.Inside.Terms.{rows_of}
use Rattle.pm_certread.proofs.TermLemmas.{rows_within, trees_of_numbers}
use Rattle.pm_certread.proofs.NodeLemmas.{entry_pushed, same_nodes, deepest_grows}
use Rattle.pm_certread.proofs.nodes.NodeRows.add.Goals as goal

abbrev Below : ℕ → List ℕ → Type 0
Below bound rows = All (λ r. r < bound) rows

pub add-requires-clause-rows : goal.add-requires-clause-rows
add-requires-clause-rows c =
    subst (Below (length c.args.self.now.tableau.terms)) (sym (c.in_ok-args.ensures ∙ ap (rows_of c.args.rows.now) c.deref.ensures.value))
    (rows_within (length c.args.self.now.tableau.terms) c.args.rows.now c.args.line.now.numbers.items c.requires.rows c.requires.there)

pub returns-clause-added : goal.returns-clause-added
returns-clause-added c =
    let terms : List Term = c.args.self.now.tableau.terms in
    let args : map (tree_at terms) c.in_ok-args.args.items ≡ map (tree_at (map (tree_at terms) c.args.rows.now)) c.args.line.now.numbers.items =
    ap (map (tree_at terms)) (c.in_ok-args.ensures ∙ ap (rows_of c.args.rows.now) c.deref.ensures.value)
    ∙ trees_of_numbers terms c.args.rows.now c.args.line.now.numbers.items c.requires.there in
    same_nodes _ _ c.in_ok-add.ensures.root
    (entry_pushed _ _ c.args.line.now.depth c.args.predicate c.args.line.now.positive _ _ _ _ args c.kind_of-kind.ensures c.in_ok-add.ensures.nodes)
    (c.in_ok-push.ensures.items ∙ ap (λ (k : ℕ). c.args.self.now.closers.items ++ k ∷ []) c.closer_of.ensures)

pub returns-clause-deepest : goal.returns-clause-deepest
returns-clause-deepest c = c.deepest_after-self.ensures ∙ sym (deepest_grows _ _ _ c.in_ok-add.ensures.nodes)
