use Rattle.std.proofs.Common.{◌<◌, arith, length, map, inl, refl, subst, ℕ, List}
use Rattle.std.proofs.lemmas.List.{length-map}
use Rattle.pm_logic.specs.Problem.{Symbol}
use Rattle.pm_logic.specs.Term.{Term, tree_at}
use Rattle.pm_certread.specs.Reading.{Head, GivesTerm, TermOffends, terms, no_terms}
use Rattle.pm_certread.specs.Inside.Head.{header_of}
use Rattle.pm_certread.specs.Inside.Terms.{IsFault, lines_of}
use Rattle.pm_certread.proofs.ProgressLemmas.{leads_on, fault_refuses, refuses_before}
use Rattle.pm_certread.proofs.terms.read_terms.Goals as goal

more : (table : List Term) (rows : List ℕ) (n : ℕ) → length rows < n → length (map (tree_at table) rows) < n
more table rows n lt = rw (length-map rows (tree_at table)) lt

pub terms-preserved : goal.terms-preserved
terms-preserved c = (
  c.in-Ok.ensures.rows,
  λ line outcome later.
      let head : Head = record { header = header_of c.args.header.now; line = line } in
      let old = lines_of c.terms.given in
      let new = lines_of c.read_term.new.given in
      c.terms.invariant.1 line outcome
      (leads_on c.args.problem.now (terms head old) (terms head new) c.terms.lines c.take.new.self c.in_ok-raw.raw.now
      (record { cut = c.in_ok-raw.ensures.ok; count = c.in_ok-raw.ensures.taken })
      (inl (more c.terms.given.table c.terms.given.rows.items c.args.header.now.terms (omega (arith, c.len.ensures)), new, subst (λ (symbols : List Symbol). GivesTerm symbols old c.in_ok-raw.raw.now new) c.symbols.ensures c.in-Ok.ensures.ok, refl)) outcome later),
  omega (arith, c.len.ensures, c.in-Ok.ensures.count),
  omega (arith, c.in-Ok.ensures.count, c.in_ok-raw.ensures.taken),
)

pub returns-in-Err-clause-err : goal.returns-in-Err-clause-err
returns-in-Err-clause-err c line =
    let head : Head = record { header = header_of c.args.header.now; line = line } in
    let old = lines_of c.terms.given in
    refuses_before c.args.problem.now (terms head no_terms) (terms head old) c.args.lines.now c.terms.lines c.error.result (c.terms.invariant.1 line)
    (fault_refuses c.args.problem.now (terms head old) c.terms.lines c.take.new.self c.in_ok-raw.raw.now (TermOffends c.args.problem.now.symbols old c.in_ok-raw.raw.now) c.in-Err.fault c.error.result
    (record { cut = c.in_ok-raw.ensures.ok; count = c.in_ok-raw.ensures.taken })
    (λ kind bad. inl (more c.terms.given.table c.terms.given.rows.items c.args.header.now.terms (omega (arith, c.len.ensures)), bad))
    (subst (λ (symbols : List Symbol). IsFault (TermOffends symbols old c.in_ok-raw.raw.now) c.in-Err.fault) c.symbols.ensures c.in-Err.ensures.err) c.error.ensures)
