use Rattle.std.proofs.Common.{◌≡◌, ◌∙◌, true, List, length, get_or, refl, sym, subst}
use Rattle.std.specs.Prelude.{MatchBool}
use Rattle.std.specs.List.{All}
use Rattle.std.proofs.lemmas.List.Elements.{All-get_or}
use Rattle.std.proofs.lemmas.Option.{slice_get_read, slice_get-get_or}
use Rattle.pm_logic.specs.Lists.{AreDistinct}
use Rattle.pm_logic.specs.Term.{Term}
use Rattle.pm_logic.specs.declared.tableau.Node.{Node}
use Rattle.pm_logic.specs.View.{HasRows}
use Rattle.pm_check.specs.Inside.Matching.{Give, TakesAllApart}
use Rattle.pm_check.proofs.FamilyLemmas.{too_few, too_many, another, turn_more, turns_end}
use Rattle.pm_check.proofs.MatchingLemmas.{All-stands}
use Rattle.pm_check.proofs.family.matches.Goals as goal

pub returns-then-not-has-clause-answer : goal.returns-then-not-has-clause-answer
returns-then-not-has-clause-answer c =
    let nodes = c.args.nodes.now in
    too_few c.args.problem.now nodes.terms.now nodes.list.now nodes.next.now c.args.clause c.args.first c.args.depth c.clause-given.result.now c.deref-literal-items.result.now c.literals.images.matches c.literals.literal-index c.literals.place
    (record { its_clause = c.clause-given.ensures.clause; its_items = c.deref-literal-items.ensures.value; places = nodes.places }) c.literals.invariant.1
    (λ h. let found : c.has.result ≡ true = c.has.ensures.1 h in cc) c.literals-test.true

pub returns-then-not-meet_literal-clause-answer : goal.returns-then-not-meet_literal-clause-answer
returns-then-not-meet_literal-clause-answer c =
    let nodes = c.args.nodes.now in
    let items = c.deref-literal-items.result.now in
    let found = c.has.ensures.0 c.if-not-has.false in
    another c.args.problem.now nodes.terms.now nodes.list.now nodes.next.now c.args.clause c.args.first c.args.depth c.clause-given.result.now items c.literals.images.matches c.literals.literal-index c.literals.place c.literal-item.result
    (get_or nodes.list.now c.literals.place c.index-nodes-place.result)
    (record { its_clause = c.clause-given.ensures.clause; its_items = c.deref-literal-items.ensures.value; places = nodes.places }) c.literals.invariant.1
    (slice_get-get_or nodes.list.now c.literals.place c.index-nodes-place.result found.0) found.1
    (slice_get_read items (length items) c.literals.literal-index c.literal-item.result refl c.literals-test.true c.literal-item.is)
    c.if-not-meet_literal.ensures.answer

pub literals-preserved : goal.literals-preserved
literals-preserved c =
    let nodes = c.args.nodes.now in
    let items = c.deref-literal-items.result.now in
    let found = c.has.ensures.0 c.if-not-has.false in
    let node = get_or nodes.list.now c.literals.place c.index-nodes-place.result in
    let at_item = slice_get_read items (length items) c.literals.literal-index c.literal-item.result refl c.literals-test.true c.literal-item.is in
    let rows = subst (All (HasRows (length c.args.problem.now.terms))) (sym c.deref-literal-items.ensures.value) c.clause-given.ensures.rows in (
      c.meet_literal.ensures.count ∙ c.literals.invariant.0,
      turn_more c.args.problem.now nodes.terms.now nodes.list.now nodes.next.now c.args.clause c.args.first c.args.depth c.clause-given.result.now items c.literals.images.matches c.meet_literal.new.images.matches c.literals.literal-index c.literals.place c.literal-item.result node
          (record { its_clause = c.clause-given.ensures.clause; its_items = c.deref-literal-items.ensures.value; places = nodes.places }) c.literals.invariant.1
          (slice_get-get_or nodes.list.now c.literals.place c.index-nodes-place.result found.0) found.1 at_item
          (All-stands (HasRows (length c.args.problem.now.terms)) items c.literals.literal-index c.literal-item.result rows at_item)
          (All-get_or (λ (n : Node). HasRows (length nodes.terms.now) n.literal) nodes.list.now c.literals.place c.index-nodes-place.result found.0 nodes.rows)
          c.if-not-meet_literal.ensures.answer,
    )

pub returns-then-has-clause-answer : goal.returns-then-has-clause-answer
returns-then-has-clause-answer c =
    let nodes = c.args.nodes.now in
    let found = c.has-2.ensures.0 c.if-has.true in
    too_many c.args.problem.now nodes.terms.now nodes.list.now nodes.next.now c.args.clause c.args.first c.args.depth c.clause-given.result.now c.deref-literal-items.result.now c.literals.images.matches c.literals.literal-index c.literals.place
    (record { its_clause = c.clause-given.ensures.clause; its_items = c.deref-literal-items.ensures.value; places = nodes.places }) c.literals.invariant.1
    found.0 found.1 c.literals-test.false

pub returns-clause-answer : goal.returns-clause-answer
returns-clause-answer c =
    let nodes = c.args.nodes.now in
    let matches = c.literals.images.matches in
    let new = c.take_all_apart.new.images.matches in
    turns_end c.args.problem.now nodes.terms.now nodes.list.now nodes.next.now c.args.clause c.args.first c.args.depth c.clause-given.result.now c.deref-literal-items.result.now matches new c.literals.literal-index c.literals.place c.take_all_apart.result
    c.clauses-clauses.ensures.valid
    (subst (λ (ts : List Term). AreDistinct ts) c.terms.ensures c.len-terms.ensures.distinct)
    (record { its_clause = c.clause-given.ensures.clause; its_items = c.deref-literal-items.ensures.value; places = nodes.places }) c.literals.invariant.1
    (λ h. let found : c.has-2.result ≡ true = c.has-2.ensures.1 h in cc) c.literals-test.false
    (subst (λ (ts : List Term). MatchBool c.take_all_apart.result (TakesAllApart ts nodes.terms.now matches new) ((given : List Term) → ¬ Give ts nodes.terms.now given matches)) c.terms-2.ensures c.take_all_apart.ensures.answer)
