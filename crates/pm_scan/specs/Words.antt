-- The names of the kinds of offences.
use Rattle.std.specs.Prelude.{ℕ, List, codes}
use Rattle.pm_scan.specs.declared.offence.CnfKind.{CnfKind}
use Rattle.pm_scan.specs.declared.offence.CnfKind.TheVariants as kinds

abbrev pub kind_word : CnfKind → List ℕ
kind_word kinds.BadByte = codes "BadByte"
kind_word kinds.BadToken = codes "BadToken"
kind_word kinds.UnclosedComment = codes "UnclosedComment"
kind_word kinds.UnclosedQuote = codes "UnclosedQuote"
kind_word kinds.Unexpected = codes "Unexpected"
kind_word kinds.EndInItem = codes "EndInItem"
kind_word kinds.NotCnf = codes "NotCnf"
kind_word kinds.Include = codes "Include"
kind_word kinds.Equality = codes "Equality"
kind_word kinds.Number = codes "Number"
kind_word kinds.DistinctObject = codes "DistinctObject"
kind_word kinds.TooManyClauses = codes "TooManyClauses"
kind_word kinds.TooManyLiterals = codes "TooManyLiterals"
kind_word kinds.TooManyVariables = codes "TooManyVariables"
kind_word kinds.ArityTooLarge = codes "ArityTooLarge"
kind_word kinds.TooDeep = codes "TooDeep"
