-- The lines of certificates, as they are printed.
use Rattle.std.specs.Prelude.{ℕ, ◌+◌, ◌==◌, Bool, true, false, List, [], ◌∷◌, ◌++◌, map, codes, decimal, if◌then◌else◌}
use Rattle.std.specs.List.{join_with_byte, onto_first}
use Rattle.pm_logic.specs.declared.problem.Class.{Class}
use Rattle.pm_logic.specs.declared.problem.Class.TheVariants.{Plain, Regular}
use Rattle.pm_logic.specs.declared.problem.Start.{Start}
use Rattle.pm_logic.specs.declared.problem.Start.TheVariants.{Negative, All as Every, Goal}
use Rattle.pm_logic.specs.declared.tableau.BoundKind.{BoundKind}
use Rattle.pm_logic.specs.declared.tableau.BoundKind.TheVariants.{Depth, Inferences}
use Rattle.pm_logic.specs.Problem.{Symbol}
use Rattle.pm_logic.specs.Word.{written_symbol}

-- bytes without LF
abbrev pub Line : Type 0
Line = List ℕ

-- each line ends with LF, which is 10
abbrev pub text_of : List Line → List ℕ
text_of [] = []
text_of (line ∷ lines) = line ++ 10 ∷ text_of lines

-- a line with its LF
abbrev pub ended : Line → List ℕ
ended line = line ++ 10 ∷ []

-- Bytes cut after each LF. Bytes after the last LF are a piece too.
abbrev pub cut_lines : List ℕ → List (List ℕ)
cut_lines [] = []
cut_lines (byte ∷ bytes) =
    if byte == 10 then (10 ∷ []) ∷ cut_lines bytes else onto_first byte (cut_lines bytes)

-- words with a blank, which is 32, between each two
abbrev pub spaced : List (List ℕ) → Line
spaced words = join_with_byte 32 words

abbrev pub status_line : Line
status_line = codes "% SZS status Unsatisfiable"

-- level d exhausted attempts N
abbrev pub level_line : ℕ → ℕ → Line
level_line level work =
    codes "level " ++ (decimal level ++ (codes " exhausted attempts " ++ decimal work))

-- these lines for the levels from one on
abbrev pub level_lines_from : ℕ → List ℕ → List Line
level_lines_from level [] = []
level_lines_from level (work ∷ works) =
    level_line level work ∷ level_lines_from (level + 1) works

-- a line for each exhausted level, with its number of attempts
abbrev pub level_lines : List ℕ → List Line
level_lines works = level_lines_from 0 works

-- level d proof attempts N
abbrev pub proof_line : ℕ → ℕ → Line
proof_line level work =
    codes "level " ++ (decimal level ++ (codes " proof attempts " ++ decimal work))

abbrev pub class_word : Class → List ℕ
class_word Plain = codes "plain"
class_word Regular = codes "regular"

abbrev pub start_word : Start → List ℕ
start_word Negative = codes "negative"
start_word Every = codes "all"
start_word Goal = codes "goal"

abbrev pub bound_word : BoundKind → List ℕ
bound_word Depth = codes "depth"
bound_word Inferences = codes "inferences"

-- what the header of a certificate says
pub record Header : Type 0 where
  pub class : Class
  pub start : Start
  pub bound : BoundKind
  pub size : ℕ
  pub terms : ℕ
  pub nodes : ℕ

-- class C start S
abbrev pub search_words : Header → List (List ℕ)
search_words h =
    codes "class" ∷ class_word h.class ∷ codes "start" ∷ start_word h.start ∷ []

-- terms T nodes M
abbrev pub count_words : Header → List (List ℕ)
count_words h = codes "terms" ∷ decimal h.terms ∷ codes "nodes" ∷ decimal h.nodes ∷ []

-- the header of version 1, which leaves the bound out: it is the depth
abbrev pub header_line_1 : Header → Line
header_line_1 h =
    spaced
    (codes "parmel" ∷ codes "1" ∷ search_words h
    ++ codes "depth" ∷ decimal h.size ∷ count_words h)

-- the header of version 2, which names the bound
abbrev pub header_line_2 : Header → Line
header_line_2 h =
    spaced
    (codes "parmel" ∷ codes "2" ∷ search_words h
    ++ codes "bound" ∷ bound_word h.bound ∷ codes "size" ∷ decimal h.size ∷ count_words h)

-- a variable that no other line stands for
abbrev pub variable_line : Line
variable_line = codes "?"

-- a function symbol, and the numbers of the term lines of its arguments
abbrev pub application_line : Symbol → List ℕ → Line
application_line symbol numbers = spaced (written_symbol symbol ∷ map decimal numbers)

abbrev pub root_line : ℕ → Line
root_line clause = spaced (codes "root" ∷ decimal clause ∷ [])

-- how a node's line ends: with the depth of the ancestor that closes the leaf, or the clause of an
-- inner node
pub data Ending : Type 0 where
  closed_by : ℕ → Ending
  extended_by : ℕ → Ending

abbrev pub ending_words : Ending → List (List ℕ)
ending_words (closed_by depth) = codes "close" ∷ decimal depth ∷ []
ending_words (extended_by clause) = codes "extend" ∷ decimal clause ∷ []

abbrev pub sign_word : Bool → List ℕ
sign_word true = codes "+"
sign_word false = codes "-"

-- what the line of a node says: the literal's arguments by the numbers of their term lines
pub record NodeLine : Type 0 where
  pub depth : ℕ
  pub positive : Bool
  pub symbol : Symbol
  pub numbers : List ℕ
  pub ending : Ending

abbrev pub node_line : NodeLine → Line
node_line node =
    spaced
    (decimal node.depth ∷ sign_word node.positive ∷ written_symbol node.symbol
    ∷ map decimal node.numbers ++ ending_words node.ending)

abbrev pub end_line : Line
end_line = codes "end"
