use Rattle.std.proofs.Common.{◌≡◌, ◌≤◌, ℕ, List, length, map, arith}
use Rattle.std.proofs.lemmas.List.{length-map}
use Rattle.pm_logic.specs.Term.{Term, tree_at}
use Rattle.pm_certread.specs.Reading.{Head, opening, heading, nodes, no_nodes, no_terms, terms}
use Rattle.pm_certread.specs.Refusals.{Refuses}
use Rattle.pm_certread.specs.Inside.Head.{header_of}
use Rattle.pm_certread.specs.Inside.Nodes.{nodes_of}
use Rattle.pm_certread.specs.Inside.Terms.{lines_of}
use Rattle.pm_certread.proofs.ProgressLemmas.{from_start, goes_on, refuses_before}
use Rattle.pm_certread.proofs.read.read_cert.Goals as goal

pub returns-in_err-read_levels-clause-err : goal.returns-in_err-read_levels-clause-err
returns-in_err-read_levels-clause-err c =
    let over = c.args.problem.now in
    goes_on c.from_residual.result c.in_err-read_levels.field-0.0 (Refuses over c.args.bytes.now) c.from_residual.ensures.1
    (from_start over c.new-lines.result c.args.bytes.now c.in_err-read_levels.field-0.0 c.new-lines.ensures.rest c.new-lines.ensures.taken (c.in_err-read_levels.ensures.err over))

pub returns-in_err-header-clause-err : goal.returns-in_err-header-clause-err
returns-in_err-header-clause-err c =
    let over = c.args.problem.now in
    let error = c.in_err-header.field-0.0 in
    goes_on c.from_residual-in_err-header.result error (Refuses over c.args.bytes.now) c.from_residual-in_err-header.ensures.1
    (from_start over c.new-lines.result c.args.bytes.now error c.new-lines.ensures.rest c.new-lines.ensures.taken
    (refuses_before over opening heading c.new-lines.result c.read_levels.new.lines error (c.in_ok-read_levels.ensures.ok over) (c.in_err-header.ensures.err over)))

pub returns-in_err-given-clause-err : goal.returns-in_err-given-clause-err
returns-in_err-given-clause-err c =
    let over = c.args.problem.now in
    let error = c.in_err-given.field-0.0 in
    let head : Head = record { header = header_of c.in_ok-header.header; line = c.read_header.new.lines.taken } in
    goes_on c.from_residual-in_err-given.result error (Refuses over c.args.bytes.now) c.from_residual-in_err-given.ensures.1
    (from_start over c.new-lines.result c.args.bytes.now error c.new-lines.ensures.rest c.new-lines.ensures.taken
    (refuses_before over opening heading c.new-lines.result c.read_levels.new.lines error (c.in_ok-read_levels.ensures.ok over)
    (refuses_before over heading (terms head no_terms) c.read_levels.new.lines c.read_header.new.lines error (c.in_ok-header.ensures.ok over)
    (c.in_err-given.ensures.err head.line))))

few : (table : List Term) (rows : List ℕ) (n : ℕ) → n ≡ length rows → n ≤ length (map (tree_at table) rows)
few table rows n same = rw (length-map rows (tree_at table)) (omega arith)

pub returns-in_err-root-clause-err : goal.returns-in_err-root-clause-err
returns-in_err-root-clause-err c =
    let over = c.args.problem.now in
    let error = c.in_err-root.field-0.0 in
    let head : Head = record { header = header_of c.in_ok-header.header; line = c.read_header.new.lines.taken } in
    let given = lines_of c.in_ok-given.given in
    goes_on c.from_residual-in_err-root.result error (Refuses over c.args.bytes.now) c.from_residual-in_err-root.ensures.1
    (from_start over c.new-lines.result c.args.bytes.now error c.new-lines.ensures.rest c.new-lines.ensures.taken
    (refuses_before over opening heading c.new-lines.result c.read_levels.new.lines error (c.in_ok-read_levels.ensures.ok over)
    (refuses_before over heading (terms head no_terms) c.read_levels.new.lines c.read_header.new.lines error (c.in_ok-header.ensures.ok over)
    (refuses_before over (terms head no_terms) (terms head given) c.read_header.new.lines c.read_terms.new.lines error (c.in_ok-given.ensures.ok head.line)
    (c.in_err-root.ensures.err head given (few c.in_ok-given.given.table c.in_ok-given.given.rows.items head.header.terms c.in_ok-given.ensures.all))))))

pub returns-in_err-all-clause-err : goal.returns-in_err-all-clause-err
returns-in_err-all-clause-err c =
    let over = c.args.problem.now in
    let error = c.in_err-all.field-0.0 in
    let head : Head = record { header = header_of c.in_ok-header.header; line = c.read_header.new.lines.taken } in
    let given = lines_of c.in_ok-given.given in
    goes_on c.from_residual-in_err-all.result error (Refuses over c.args.bytes.now) c.from_residual-in_err-all.ensures.1
    (from_start over c.new-lines.result c.args.bytes.now error c.new-lines.ensures.rest c.new-lines.ensures.taken
    (refuses_before over opening heading c.new-lines.result c.read_levels.new.lines error (c.in_ok-read_levels.ensures.ok over)
    (refuses_before over heading (terms head no_terms) c.read_levels.new.lines c.read_header.new.lines error (c.in_ok-header.ensures.ok over)
    (refuses_before over (terms head no_terms) (terms head given) c.read_header.new.lines c.read_terms.new.lines error (c.in_ok-given.ensures.ok head.line)
    (refuses_before over (terms head given) (nodes head given (no_nodes c.in_ok-root.root)) c.read_terms.new.lines c.read_root.new.lines error
    (c.in_ok-root.ensures.ok head given (few c.in_ok-given.given.table c.in_ok-given.given.rows.items head.header.terms c.in_ok-given.ensures.all))
    (c.in_err-all.ensures.err head.line))))))

pub returns-in_err-read_end-clause-err : goal.returns-in_err-read_end-clause-err
returns-in_err-read_end-clause-err c =
    let over = c.args.problem.now in
    let error = c.in_err-read_end.field-0.0 in
    let head : Head = record { header = header_of c.in_ok-header.header; line = c.read_header.new.lines.taken } in
    let given = lines_of c.in_ok-given.given in
    let all = nodes_of c.in_ok-all.all in
    goes_on c.from_residual-in_err-read_end.result error (Refuses over c.args.bytes.now) c.from_residual-in_err-read_end.ensures.1
    (from_start over c.new-lines.result c.args.bytes.now error c.new-lines.ensures.rest c.new-lines.ensures.taken
    (refuses_before over opening heading c.new-lines.result c.read_levels.new.lines error (c.in_ok-read_levels.ensures.ok over)
    (refuses_before over heading (terms head no_terms) c.read_levels.new.lines c.read_header.new.lines error (c.in_ok-header.ensures.ok over)
    (refuses_before over (terms head no_terms) (terms head given) c.read_header.new.lines c.read_terms.new.lines error (c.in_ok-given.ensures.ok head.line)
    (refuses_before over (terms head given) (nodes head given (no_nodes c.in_ok-root.root)) c.read_terms.new.lines c.read_root.new.lines error
    (c.in_ok-root.ensures.ok head given (few c.in_ok-given.given.table c.in_ok-given.given.rows.items head.header.terms c.in_ok-given.ensures.all))
    (refuses_before over (nodes head given (no_nodes c.in_ok-root.root)) (nodes head given all) c.read_root.new.lines c.read_nodes.new.lines error (c.in_ok-all.ensures.ok head.line)
    (c.in_err-read_end.ensures.err over head given all c.in_ok-all.ensures.all)))))))
