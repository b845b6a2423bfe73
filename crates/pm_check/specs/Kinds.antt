-- The names of the kinds of refusals, and their order.
use Rattle.std.specs.Prelude.{ℕ, List, codes}
use Rattle.pm_logic.specs.declared.tableau.BoundKind.{BoundKind}
use Rattle.pm_logic.specs.declared.tableau.BoundKind.TheVariants.{Depth, Inferences}
use Rattle.pm_check.specs.declared.refusal.RefusalKind.{RefusalKind}
use Rattle.pm_check.specs.declared.refusal.RefusalKind.TheVariants.{NotStart, NotInstance, NotComplementary, NotConnected, NotRegular, DepthDiffers, SizeDiffers}

abbrev pub refusal_word : RefusalKind → List ℕ
refusal_word NotStart = codes "NotStart"
refusal_word NotInstance = codes "NotInstance"
refusal_word NotComplementary = codes "NotComplementary"
refusal_word NotConnected = codes "NotConnected"
refusal_word NotRegular = codes "NotRegular"
refusal_word DepthDiffers = codes "DepthDiffers"
refusal_word SizeDiffers = codes "SizeDiffers"

-- of several kinds at one line the one of the least rank counts
abbrev pub rank : RefusalKind → ℕ
rank NotStart = 1
rank NotInstance = 2
rank NotComplementary = 3
rank NotConnected = 4
rank NotRegular = 5
rank DepthDiffers = 6
rank SizeDiffers = 7

-- the kind where the header's number isn't the size under this bound
abbrev pub size_kind : BoundKind → RefusalKind
size_kind Depth = DepthDiffers
size_kind Inferences = SizeDiffers
