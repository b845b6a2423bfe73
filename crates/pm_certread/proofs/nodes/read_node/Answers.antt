use Rattle.std.proofs.Common.{◌≡◌, ℕ, arith, length, sym, subst, refl}
use Rattle.pm_certread.specs.Reading.{HasClause}
use Rattle.pm_certread.specs.Inside.Nodes.{ending_of, line_of}
use Rattle.pm_certread.proofs.NodeLemmas.{some_line, are_there, are_below, has_symbol, no_truth}
use Rattle.pm_certread.proofs.nodes.read_node.Goals as goal

pub returns-then-not-are_below-clause-err : goal.returns-then-not-are_below-clause-err
returns-then-not-are_below-clause-err c = (
  line_of c.in-Some.line,
  some_line c.args.raw.now c.in_ok-line.field-0 c.in-Some.line c.in_ok-line.ensures c.in-Some.is,
  λ there. no_truth (c.if-not-are_below.ensures.1 (are_below c.args.given.now.tableau.terms c.args.rows.now c.in-Some.line.numbers.items c.deref.result.now c.deref.ensures.value there)),
)

pub returns-then-not-has_clause-clause-err : goal.returns-then-not-has_clause-clause-err
returns-then-not-has_clause-clause-err c =
    let line = c.in-Some.line in
    let count : c.len.result ≡ length line.numbers.items = omega (arith, c.len.ensures) in (
      line_of line,
      some_line c.args.raw.now c.in_ok-line.field-0 line c.in_ok-line.ensures c.in-Some.is,
      (
        are_there c.args.given.now.tableau.terms c.args.rows.now line.numbers.items c.deref.result.now c.deref.ensures.value (c.if-not-are_below.ensures.0 refl),
        has_symbol c.symbols-symbols.result.now c.args.problem.now.symbols c.in-Some-find_symbol.predicate c.as_str.result.now _ c.len.result _ line.kind c.symbols-symbols.ensures c.as_str.ensures.value count c.in-Some-find_symbol.ensures.found,
        λ has. no_truth (c.if-not-has_clause.ensures.1 (subst (λ (n : ℕ). HasClause n (ending_of line.ending)) (sym c.clauses.ensures.count) has)),
      ),
    )

pub returns-then-not-is_in_order-clause-err : goal.returns-then-not-is_in_order-clause-err
returns-then-not-is_in_order-clause-err c =
    let line = c.in-Some.line in
    let count : c.len.result ≡ length line.numbers.items = omega (arith, c.len.ensures) in (
      line_of line,
      some_line c.args.raw.now c.in_ok-line.field-0 line c.in_ok-line.ensures c.in-Some.is,
      (
        are_there c.args.given.now.tableau.terms c.args.rows.now line.numbers.items c.deref.result.now c.deref.ensures.value (c.if-not-are_below.ensures.0 refl),
        has_symbol c.symbols-symbols.result.now c.args.problem.now.symbols c.in-Some-find_symbol.predicate c.as_str.result.now _ c.len.result _ line.kind c.symbols-symbols.ensures c.as_str.ensures.value count c.in-Some-find_symbol.ensures.found,
        subst (λ (n : ℕ). HasClause n (ending_of line.ending)) c.clauses.ensures.count (c.if-not-has_clause.ensures.0 refl),
        λ fits. no_truth (c.if-not-is_in_order.ensures.1 fits),
      ),
    )
