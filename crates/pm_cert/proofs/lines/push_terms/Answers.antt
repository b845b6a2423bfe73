use Rattle.pm_cert.proofs.LineLemmas.{writable-at, lines_more}
use Rattle.pm_cert.proofs.lines.push_terms.Goals as goal

pub push_term-requires-clause-writable : goal.push_term-requires-clause-writable
push_term-requires-clause-writable c =
    writable-at c.args.symbols.now c.args.terms.now c.args.list.now.keys c.as_slice-row-items.result.now c.loop-row.row-index c.row-item.result
    c.as_slice-row-items.ensures.keys c.loop-row-test.true c.row-item.is c.requires.writable

pub loop-row-preserved : goal.loop-row-preserved
loop-row-preserved c =
    let so_far = c.loop-row.invariant in
    lines_more c.args.symbols.now c.args.terms.now _ c.as_slice-row-items.result.now c.args.text.now.items c.loop-row.text.items c.push_term.new.text.items c.loop-row.row-index c.row-item.result so_far.0
    c.loop-row-test.true c.row-item.is so_far.1 so_far.2 c.in_ok-push_term.ensures
