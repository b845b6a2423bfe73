-- The names of the kinds of refusals.
use Rattle.std.specs.Prelude.{ℕ, List, codes}
use Rattle.pm_certread.specs.declared.error.CertKind.{CertKind}
use Rattle.pm_certread.specs.declared.error.CertKind.TheVariants as kinds

abbrev pub kind_word : CertKind → List ℕ
kind_word kinds.Syntax = codes "Syntax"
kind_word kinds.TermRange = codes "TermRange"
kind_word kinds.UnknownSymbol = codes "UnknownSymbol"
kind_word kinds.ClauseRange = codes "ClauseRange"
kind_word kinds.DepthOrder = codes "DepthOrder"
kind_word kinds.Counts = codes "Counts"
