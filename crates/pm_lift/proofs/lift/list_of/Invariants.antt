use Rattle.std.proofs.Common.{◌≡◌, [], ◌∷◌, ◌++◌, length, map, drop}
use Rattle.pm_logic.specs.View.{entry_of}
use Rattle.pm_lift.specs.Inside.Tree.{start_choice}
use Rattle.pm_lift.specs.Inside.Walk.{walk}
use Rattle.pm_lift.specs.Inside.View.{branch_of, HaveRows}
use Rattle.pm_lift.proofs.lift.list_of.Given as goal

abbrev pub invariant-nodes : goal.invariant-nodes
invariant-nodes l =
    HaveRows (length l.terms) l.branch.items
    × (l.list.items ++ walk l.problem.clauses (branch_of l.terms l.branch.items) (map (entry_of l.terms) (drop l.place l.nodes))
    ≡ start_choice l.problem.clauses l.fn.start l.tableau.tableau.root ∷ walk l.problem.clauses [] (map (entry_of l.terms) l.nodes))
