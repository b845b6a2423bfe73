use Rattle.std.proofs.Common.{◌≡◌, ◌∙◌, true, false, Option, Some, None, length, get_or, sym}
use Rattle.std.specs.Prelude.{MatchOption}
use Rattle.std.specs.Option.{is_some}
use Rattle.std.proofs.lemmas.Option.{slice_get-get_or}
use Rattle.pm_logic.specs.declared.problem.Class.TheVariants.{Plain, Regular}
use Rattle.pm_check.specs.Inside.Passing.{PassesByItself, IsOwnOffence, IsFit}
use Rattle.pm_check.proofs.SiblingLemmas.{stands_within}
use Rattle.pm_check.proofs.BranchLemmas.{sees, passes_all, no_regularity, some_within}
use Rattle.pm_check.proofs.branch.offence.Goals as goal

-- what is known where nothing was found
where_none : {A : Type 0} (o : Option A) (P : Type 0) (Q : A → Type 0) → is_some o ≡ false → MatchOption o P Q → P
where_none None P Q none h = h
where_none (Some x) P Q none h = absurd cc

pub returns-then-repeats-clause-answer : goal.returns-then-repeats-clause-answer
returns-then-repeats-clause-answer c placed seen =
    let clauses = c.args.problem.now.clauses in
    let nodes = c.args.nodes.now in
    let list = nodes.list.now in
    let place = c.args.place in
    let within = some_within (IsFit (length clauses) (length c.args.branch.now) c.args.ancestor) list place c.requires.node in
    let node = get_or list place c.index-nodes-place.result in
    no_regularity clauses c.args.class nodes.terms.now list c.args.branch.now place node placed c.args.ancestor
    (sees nodes.terms.now list c.args.branch.now place placed node seen (slice_get-get_or list place c.index-nodes-place.result within))
    (where_none c.own_offence-found.result (PassesByItself clauses placed c.args.ancestor) (IsOwnOffence clauses placed c.args.ancestor) (sym c.is_some.ensures ∙ c.if-is_some.false) (c.own_offence-found.ensures.answer placed seen))
    c.in-Regular.is (c.repeats.ensures.0 c.if-repeats.true)

pub returns-in-Plain-clause-answer : goal.returns-in-Plain-clause-answer
returns-in-Plain-clause-answer c placed seen =
    let clauses = c.args.problem.now.clauses in
    let nodes = c.args.nodes.now in
    let list = nodes.list.now in
    let place = c.args.place in
    let node = stands_within list place (some_within (IsFit (length clauses) (length c.args.branch.now) c.args.ancestor) list place c.requires.node) in
    passes_all clauses c.args.class nodes.terms.now list c.args.branch.now place node.0 placed c.args.ancestor
    (sees nodes.terms.now list c.args.branch.now place placed node.0 seen node.1)
    (where_none c.own_offence-found.result (PassesByItself clauses placed c.args.ancestor) (IsOwnOffence clauses placed c.args.ancestor) (sym c.is_some.ensures ∙ c.if-is_some.false) (c.own_offence-found.ensures.answer placed seen))
    (λ regular. let both : Plain ≡ Regular = sym c.in-Plain.is ∙ regular in absurd cc)

pub returns-else-repeats-clause-answer : goal.returns-else-repeats-clause-answer
returns-else-repeats-clause-answer c placed seen =
    let clauses = c.args.problem.now.clauses in
    let nodes = c.args.nodes.now in
    let list = nodes.list.now in
    let place = c.args.place in
    let within = some_within (IsFit (length clauses) (length c.args.branch.now) c.args.ancestor) list place c.requires.node in
    let node = get_or list place c.index-nodes-place.result in
    passes_all clauses c.args.class nodes.terms.now list c.args.branch.now place node placed c.args.ancestor
    (sees nodes.terms.now list c.args.branch.now place placed node seen (slice_get-get_or list place c.index-nodes-place.result within))
    (where_none c.own_offence-found.result (PassesByItself clauses placed c.args.ancestor) (IsOwnOffence clauses placed c.args.ancestor) (sym c.is_some.ensures ∙ c.if-is_some.false) (c.own_offence-found.ensures.answer placed seen))
    (λ regular h. let found : c.repeats.result ≡ true = c.repeats.ensures.1 h in cc)
