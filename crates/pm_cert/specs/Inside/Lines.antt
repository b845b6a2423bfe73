-- The parts of lines as the code writes them.
use Rattle.std.specs.Prelude.{ℕ, ◌<◌, List, ◌∷◌, ◌++◌, All, Contains, length, codes, decimal}
use Rattle.std.specs.List.{flat_map}
use Rattle.pm_logic.specs.declared.problem.Class.{Class}
use Rattle.pm_logic.specs.declared.problem.Start.{Start}
use Rattle.pm_logic.specs.declared.tableau.BoundKind.{BoundKind}
use Rattle.pm_logic.specs.declared.tableau.BoundKind.TheVariants.{Depth, Inferences}
use Rattle.pm_logic.specs.Problem.{Symbol}
use Rattle.pm_logic.specs.Term.{Term, var, app, list_of}
use Rattle.pm_certread.specs.Lines.{class_word, start_word}
use Rattle.pm_certread.specs.Lines as form
use Rattle.pm_cert.specs.declared.head.Header.{Header}

-- a blank and a number for each of the numbers
abbrev pub numbers_text : List ℕ → List ℕ
numbers_text numbers = flat_map (λ number. 32 ∷ decimal number) numbers

-- a term that can be written: its symbol is there, and its arguments have lines
abbrev pub IsWritableTerm : List Symbol → List Term → Term → Type 0
IsWritableTerm symbols terms (var n) = Unit {0}
IsWritableTerm symbols terms (app symbol args) =
    (symbol < length symbols) × All (Contains terms) (list_of args)

-- the header up to its size
abbrev pub search_text : Class → Start → BoundKind → List ℕ
search_text class start Depth =
    codes "parmel 1 class " ++ class_word class ++ codes " start " ++ start_word start
    ++ codes " depth "
search_text class start Inferences =
    codes "parmel 2 class " ++ class_word class ++ codes " start " ++ start_word start
    ++ codes " bound inferences size "

abbrev pub described : Header → form.Header
described header =
    record {
      class = header.class;
      start = header.start;
      bound = header.bound;
      size = header.size;
      terms = header.terms;
      nodes = header.nodes;
    }
