use Rattle.std.proofs.Common.{◌≡◌, ◌+◌, ◌≤◌, List, length, take, sym, subst, ◌∙◌, arith}
use Rattle.std.specs.Prelude.{map}
use Rattle.std.proofs.lemmas.List.{take_all, length-map}
use Rattle.pm_logic.specs.Term.{Term}
use Rattle.pm_logic.specs.Problem as logic
use Rattle.pm_logic.specs.View.{clause_of}
use Rattle.pm_cnf.specs.declared.item.Item.{Item}
use Rattle.pm_cnf.specs.Inside.Parsed.{node_of, item_of}
use Rattle.pm_cnf.proofs.parts.ItemSteps.{ItemsSoFar, items_none, items_kept, items_dropped}
use Rattle.pm_cnf.proofs.parts.ReadItems.{item_read, nodes_printable, items_more, item_room, terms_grow, nodes_hold, items_valid, item_name_printable}
use Rattle.pm_cnf.proofs.number.number_items.Goals as goal
use Rattle.pm_cnf.proofs.number.number_items.Goals.{then-is_kept+in_ok-clause+in_ok-push, else-is_kept}

pub loop-item-init : goal.loop-item-init
loop-item-init c = rw (c.new-numbering.ensures.symbols, c.new-numbering.ensures.terms, c.new-clauses.ensures.items) items_none

pub clause-requires-clause-item : goal.clause-requires-clause-item
clause-requires-clause-item c = let r = item_read c.args.items.now c.loop-item.item-index c.item-item.result c.requires c.loop-item-test.true c.item-item.is in (r.item, r.is)

pub clause-requires-clause-name : goal.clause-requires-clause-name
clause-requires-clause-name c = item_name_printable c.item-item.result (item_read c.args.items.now c.loop-item.item-index c.item-item.result c.requires c.loop-item-test.true c.item-item.is)

pub clause-requires-clause-few : goal.clause-requires-clause-few
clause-requires-clause-few c = item_room c.args.items.now c.loop-item.item-index c.item-item.result _ _ _ c.requires c.loop-item-test.true c.item-item.is c.loop-item.invariant

pub clause-requires-clause-printable : goal.clause-requires-clause-printable
clause-requires-clause-printable c = nodes_printable c.item-item.result (item_read c.args.items.now c.loop-item.item-index c.item-item.result c.requires c.loop-item-test.true c.item-item.is)

pub loop-item-preserved : goal.loop-item-preserved
loop-item-preserved c =
    let more = items_more c.args.items.now c.loop-item.item-index c.item-item.result c.loop-item-test.true c.item-item.is in
    let holds = nodes_hold c.item-item.result c.deref.result.now c.deref.ensures.value in
    elim c.if-is_kept.branch [
      | then-is_kept+in_ok-clause+in_ok-push w ↦
          let read = item_read c.args.items.now c.loop-item.item-index c.item-item.result c.requires c.loop-item-test.true c.item-item.is in
          let size = length-map c.item-item.result.nodes.items node_of in
          let few : length w.clause.new.self.symbols ≤ length c.loop-item.numbering.symbols + length (item_of c.item-item.result).nodes = omega (arith, w.in_ok-clause.ensures.few, size) in
          let numbered = w.in_ok-clause.ensures.numbered in
          rw (w.numbering-is, w.clauses-is)
          (items_kept (map item_of (take c.loop-item.item-index c.args.items.now)) _ (item_of c.item-item.result) c.loop-item.numbering.symbols w.clause.new.self.symbols c.loop-item.numbering.terms w.clause.new.self.terms
          c.loop-item.clauses.items w.push.new.self.items w.in_ok-clause.field-0 more w.in_ok-push.ensures.items (sym holds ∙ sym w.if-is_kept.ensures) numbered w.in_ok-clause.ensures.rows few
          (terms_grow c.item-item.result _ _ _ _ _ read numbered) c.loop-item.invariant)
      | else-is_kept w ↦
          rw (w.numbering-is, w.clauses-is)
          (items_dropped (map item_of (take c.loop-item.item-index c.args.items.now)) _ (item_of c.item-item.result) c.loop-item.numbering.symbols c.loop-item.numbering.terms c.loop-item.clauses.items more (sym holds ∙ sym w.if-is_kept.ensures)
          c.loop-item.invariant)
    ]

pub new-requires-clause-valid : goal.new-requires-clause-valid
new-requires-clause-valid c =
    let all : take c.loop-item.item-index c.args.items.now ≡ c.args.items.now = take_all c.loop-item.item-index c.args.items.now c.loop-item-test.false in
    let so_far : ItemsSoFar (map item_of c.args.items.now) c.loop-item.numbering.symbols c.loop-item.numbering.terms c.loop-item.clauses.items =
    subst (λ (items : List Item). ItemsSoFar (map item_of items) c.loop-item.numbering.symbols c.loop-item.numbering.terms c.loop-item.clauses.items) all c.loop-item.invariant in
    let valid : logic.IsValid (record { symbols = c.loop-item.numbering.symbols; terms = c.loop-item.numbering.terms; clauses = map (clause_of c.loop-item.numbering.terms) c.loop-item.clauses.items }) =
    items_valid c.args.items.now c.loop-item.numbering.symbols c.loop-item.numbering.terms c.loop-item.clauses.items c.requires so_far in
    subst (λ (terms : List Term). logic.IsValid (record { symbols = c.loop-item.numbering.symbols; terms = terms; clauses = map (clause_of terms) c.loop-item.clauses.items })) (sym c.into_table.ensures) valid
