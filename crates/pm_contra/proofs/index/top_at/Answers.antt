use Rattle.std.proofs.Common.{Some, sym, ◌∙◌, ap, arith}
use Rattle.pm_logic.specs.Term.{tree_at}
use Rattle.pm_contra.specs.Index.{top}
use Rattle.pm_contra.proofs.TopLemmas.{top_at-le, top_at-read, top_at-row, top_at-none}
use Rattle.pm_contra.proofs.index.top_at.Goals as goal

pub top-requires-clause-small : goal.top-requires-clause-small
top-requires-clause-small c =
    let p = c.args.problem.now in
    let read = top_at-read p.clauses p.terms c.args.q c.args.head _ _ c.clause.result.now c.deref.result.now c.in-Some.literal.now c.deref-2.result.now c.head.view_is c.clause.ensures.clause c.deref.ensures.value c.in-Some.ensures.lookup.3.0 c.in-Some.ensures.lookup.1 c.deref-2.ensures.value in
    let row = top_at-row p.clauses p.terms c.args.q c.args.head c.deref-2.result.now c.in-Some-get.field-0.now read c.in-Some-get.ensures.lookup.3.0 c.in-Some-get.ensures.lookup.1 in
    rw c.terms.ensures (omega (arith, row, top_at-le p c.clauses.ensures.valid c.args.q c.args.head, c.requires))

pub returns-in-Some-get : goal.returns-in-Some-get
returns-in-Some-get c =
    let p = c.args.problem.now in
    let read = top_at-read p.clauses p.terms c.args.q c.args.head _ _ c.clause.result.now c.deref.result.now c.in-Some.literal.now c.deref-2.result.now c.head.view_is c.clause.ensures.clause c.deref.ensures.value c.in-Some.ensures.lookup.3.0 c.in-Some.ensures.lookup.1 c.deref-2.ensures.value in
    let row = top_at-row p.clauses p.terms c.args.q c.args.head c.deref-2.result.now c.in-Some-get.field-0.now read c.in-Some-get.ensures.lookup.3.0 c.in-Some-get.ensures.lookup.1 in
    c.top.ensures ∙ ap (λ ts. top (Some (tree_at ts c.in-Some-get.field-0.now))) c.terms.ensures ∙ sym row

pub returns-in-None : goal.returns-in-None
returns-in-None c =
    let p = c.args.problem.now in
    let read = top_at-read p.clauses p.terms c.args.q c.args.head _ _ c.clause.result.now c.deref.result.now c.in-Some.literal.now c.deref-2.result.now c.head.view_is c.clause.ensures.clause c.deref.ensures.value c.in-Some.ensures.lookup.3.0 c.in-Some.ensures.lookup.1 c.deref-2.ensures.value in
    sym (top_at-none p.clauses p.terms c.args.q c.args.head c.deref-2.result.now read c.in-None.ensures.lookup.3)
