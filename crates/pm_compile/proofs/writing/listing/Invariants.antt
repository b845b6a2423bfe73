use Rattle.std.proofs.Common.{◌≡◌, take}
use Rattle.pm_compile.specs.Listing.{listing_from}
use Rattle.pm_compile.proofs.writing.listing.Given as goal

-- the clauses so far are listed
abbrev pub invariant-clauses : goal.invariant-clauses
invariant-clauses l = l.text.items ≡ listing_from l.problem.symbols 0 (take l.c l.problem.clauses)
