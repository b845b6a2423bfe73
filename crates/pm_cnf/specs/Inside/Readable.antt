-- What a file's items are like, once they were read.
use Rattle.std.specs.Prelude.{◌≡◌, ℕ, ◌-◌, ◌^◌, ◌<◌, ◌≤◌, List, map, length, All}
use Rattle.std.specs.List.{flat_map}
use Rattle.pm_logic.specs.Problem.{IsPrintable}
use Rattle.pm_cnf.specs.declared.limits.Limits.{Limits}
use Rattle.pm_cnf.specs.Grammar.{word_text, Name, word, integer, Item}
use Rattle.pm_cnf.specs.Meaning.{literals_of, item_symbols, IsTextOf}
use Rattle.pm_cnf.specs.Inside.Draft.{Written, written}

abbrev pub HasPrintableName : Name → Type 0
HasPrintableName (word w) = IsPrintable (word_text w)
HasPrintableName (integer digits) = Unit {0}

-- These are kept of items that a problem may have: not too many of them, of their literals and of
-- their nodes, with words of printable bytes.
pub record AreReadable (kept : List Written) : Type 0 where
  pub items : List Item
  pub are : kept ≡ map written items
  pub few : length items ≤ 65536
  pub literals : All (λ item. length (literals_of item.formula) ≤ 255) items
  pub names : All (λ item. HasPrintableName item.name) items
  pub printable : All (λ item. All (λ s. IsPrintable s.text) (item_symbols item)) items
  pub short : length (flat_map (λ w. w.nodes) kept) < 2 ^ 32 - 1

-- This is kept of the items that the bytes are the text of.
pub record IsRead (limits : Limits) (bytes : List ℕ) (kept : List Written) : Type 0 where
  pub items : List Item
  pub text : IsTextOf limits bytes items
  pub keeps : kept ≡ map written items
