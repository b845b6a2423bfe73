use Rattle.std.proofs.Common.{◌≤◌, List, length, sym, ◌∙◌, ap, subst, arith}
use Rattle.std.proofs.lemmas.List.{length-map}
use Rattle.pm_logic.specs.Problem.{Clause}
use Rattle.pm_calculus.specs.Alternatives.{heads}
use Rattle.pm_contra.specs.Index.{top_at}
use Rattle.pm_tab.specs.Searched.{Searched}
use Rattle.pm_tab.specs.Inside.Passing.{opposite_of}
use Rattle.pm_tab.proofs.Passing.{as_long, first_matching}
use Rattle.pm_tab.proofs.maker.TabMaker.compatible_head.Goals as goal

pub next_compatible-requires-clause-c1_as_long : goal.next_compatible-requires-clause-c1_as_long
next_compatible-requires-clause-c1_as_long c =
    let columns = c.self.invariant.3.its_columns (opposite_of c.args.leaf) in
    as_long c.self.inside.problem.now.clauses (opposite_of c.args.leaf) 0 1 c.column.result.now c.column-2.result.now
    (c.column.ensures ∙ columns 0 (omega arith)) (c.column-2.ensures ∙ columns 1 (omega arith))

pub next_compatible-requires-clause-c2_as_long : goal.next_compatible-requires-clause-c2_as_long
next_compatible-requires-clause-c2_as_long c =
    let columns = c.self.invariant.3.its_columns (opposite_of c.args.leaf) in
    as_long c.self.inside.problem.now.clauses (opposite_of c.args.leaf) 0 2 c.column.result.now c.column-3.result.now
    (c.column.ensures ∙ columns 0 (omega arith)) (c.column-3.ensures ∙ columns 2 (omega arith))

pub next_compatible-requires-clause-c3_as_long : goal.next_compatible-requires-clause-c3_as_long
next_compatible-requires-clause-c3_as_long c =
    let columns = c.self.invariant.3.its_columns (opposite_of c.args.leaf) in
    as_long c.self.inside.problem.now.clauses (opposite_of c.args.leaf) 0 3 c.column.result.now c.column-4.result.now
    (c.column.ensures ∙ columns 0 (omega arith)) (c.column-4.ensures ∙ columns 3 (omega arith))

pub next_compatible-requires-clause-from_within : goal.next_compatible-requires-clause-from_within
next_compatible-requires-clause-from_within c =
    let face = opposite_of c.args.leaf in
    let clauses = ap (λ (v : Searched). v.problem.clauses) c.self.view_is in
    let long = ap length (c.column.ensures ∙ c.self.invariant.3.its_columns face 0 (omega arith)) ∙ length-map (heads face c.self.inside.problem.now.clauses) (top_at c.self.inside.problem.now.clauses 0) in
    subst (λ n. c.args.from ≤ n) (sym (long ∙ ap (λ (cs : List Clause). length (heads face cs)) clauses)) c.requires

pub returns : goal.returns
returns c =
    let face = opposite_of c.args.leaf in
    let columns = c.self.invariant.3.its_columns face in
    first_matching c.self.inside.problem.now.clauses c.args.self.now.problem.clauses (ap (λ (v : Searched). v.problem.clauses) c.self.view_is) face c.args.goal c.args.from c.next_compatible.result
    c.column.result.now c.column-2.result.now c.column-3.result.now c.column-4.result.now
    (c.column.ensures ∙ columns 0 (omega arith)) (c.column-2.ensures ∙ columns 1 (omega arith)) (c.column-3.ensures ∙ columns 2 (omega arith)) (c.column-4.ensures ∙ columns 3 (omega arith))
    c.next_compatible.ensures
