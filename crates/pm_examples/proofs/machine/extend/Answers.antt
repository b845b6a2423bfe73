use Rattle.std.proofs.Common.{◌≡◌, ℕ, ◌<◌, length, List, slice_get, Some, sym, ◌∙◌, ap, subst, arith}
use Rattle.pm_logic.specs.Problem.{Clause}
use Rattle.pm_logic.specs.View.{clause_of, literal_of}
use Rattle.pm_calculus.specs.Skeleton.{extend, selected}
use Rattle.pm_calculus.specs.Alternatives.{opposite, IsHead}
use Rattle.pm_machine.specs.Node.{Views}
use Rattle.pm_machine.specs.Value.{skeleton}
use Rattle.pm_examples.proofs.LeafLemmas.{viewed, shows_opposite, read_stands}
use Rattle.pm_examples.proofs.machine.extend.Goals as goal

pub extend-requires-clause-may : goal.extend-requires-clause-may
extend-requires-clause-may c =
    let m = c.args.machine.now in
    let terms = c.args.problem.now.terms in
    let seen = viewed (selected (skeleton m)) c.in-Some.leaf (subst (Views (selected (skeleton m))) c.in-Some.is c.leaf.ensures.shown) in
    let within : c.args.literal < length c.clause.result.now.literals.items =
    let long = c.len.ensures ∙ c.clause.result.now.literals.ok.0 in
    let less = c.if-literal-len.false in
    omega (arith, long, less) in
    let literal = literal_of terms c.index-with.result.now in
    let head : IsHead c.args.problem.now.clauses (opposite seen.0.face) c.args.clause c.args.literal = record {
      its_clause = clause_of terms c.clause.result.now;
      stands = c.clause.ensures.clause;
      its_literal = literal;
      has = read_stands (literal_of terms) c.clause.result.now.literals.items c.args.literal c.index-with.result.now within c.index-with.ensures;
      shows = shows_opposite seen.0 c.in-Some.leaf literal seen.2 c.if-with-leaf.false c.if-with-leaf-2.false;
    } in
    c.leaves_may_step.ensures m.problem.clauses (skeleton m) seen.0 (extend c.args.clause c.args.literal) seen.1
    (subst (λ (clauses : List Clause). IsHead clauses (opposite seen.0.face) c.args.clause c.args.literal) (ap (λ p. p.clauses) (sym c.requires)) head)
