use Rattle.std.proofs.Common.{◌≡◌, ◌<◌, ◌≤◌, ◌++◌, List, length, sym, ◌∙◌, ap, arith}
use Rattle.std.proofs.lemmas.List.{length-map, take_all}
use Rattle.std.proofs.lemmas.Option.{same_Some}
use Rattle.pm_logic.specs.Problem.{Clause, Literal}
use Rattle.pm_logic.specs.View.{clause_of, literal_of}
use Rattle.pm_compile.specs.Listing.{extensions_listing}
use Rattle.pm_compile.proofs.ListingLemmas.{slice_there, extensions_listing-more}
use Rattle.pm_compile.proofs.writing.write_extensions.Goals as goal

pub literals-preserved : goal.literals-preserved
literals-preserved c clause stands =
    let problem = c.args.problem.now in
    let rows = c.clause.result.now in
    let same : clause_of problem.terms rows ≡ clause = same_Some (clause_of problem.terms rows) clause (sym c.clause.ensures.clause ∙ stands) in
    let within : c.literals.j < length clause.literals =
    omega (arith, c.literals-test.true, length-map rows.literals.items (literal_of problem.terms), ap (λ (k : Clause). length k.literals) same, c.len-j-end.ensures, rows.literals.ok.0) in
    let there = slice_there clause.literals c.literals.j within in
    extensions_listing-more problem.symbols c.args.c c.literals.j clause.literals there.0 _ _ _ there.1 (c.literals.invariant clause stands)
    (c.in_ok-write_extension.ensures clause there.0 stands there.1)

pub returns : goal.returns
returns c clause stands =
    let problem = c.args.problem.now in
    let rows = c.clause.result.now in
    let same : clause_of problem.terms rows ≡ clause = same_Some (clause_of problem.terms rows) clause (sym c.clause.ensures.clause ∙ stands) in
    let done : length clause.literals ≤ c.literals.j =
    omega (arith, c.literals-test.false, length-map rows.literals.items (literal_of problem.terms), ap (λ (k : Clause). length k.literals) same, c.len-j-end.ensures, rows.literals.ok.0) in
    c.literals.invariant clause stands
    ∙ ap (λ (ls : List Literal). c.args.into.now.items ++ extensions_listing problem.symbols c.args.c 0 ls) (take_all c.literals.j clause.literals done)
