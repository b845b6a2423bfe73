use Rattle.std.proofs.Common.{◌≡◌, ◌++◌, List, map, take}
use Rattle.std.specs.List.{AllZip}
use Rattle.pm_logic.specs.Term.{tree_at}
use Rattle.pm_certread.specs.Lines.{Line, text_of}
use Rattle.pm_cert.specs.Text.{IsTermLine}
use Rattle.pm_cert.proofs.lines.push_terms.Given as goal

abbrev pub invariant-loop-row : goal.invariant-loop-row
invariant-loop-row l = (lines : List Line)
    × AllZip (IsTermLine l.symbols (map (tree_at l.terms) l.list.keys)) (map (tree_at l.terms) (take l.row-index l.row-items)) lines
    × (l.text.items ≡ l.fn.text.items ++ text_of lines)
