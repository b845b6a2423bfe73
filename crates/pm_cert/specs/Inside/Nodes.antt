-- The lines of nodes as the code writes them.
use Rattle.std.specs.Prelude.{ℕ, ◌-◌, ◌<◌, Bool, List, [], ◌∷◌, ◌++◌, All, Any, Contains, length, map, take, codes, decimal}
use Rattle.pm_logic.specs.declared.problem.Literal.{Literal as Rows}
use Rattle.pm_logic.specs.declared.tableau.NodeKind.{NodeKind}
use Rattle.pm_logic.specs.declared.tableau.NodeKind.TheVariants.{Leaf, Inner}
use Rattle.pm_logic.specs.Problem.{Symbol, Literal}
use Rattle.pm_logic.specs.Tableau.{Entry}
use Rattle.pm_logic.specs.Term.{Term}
use Rattle.pm_logic.specs.View.{literal_of}
use Rattle.pm_logic.specs.Word.{written_symbol}
use Rattle.pm_calculus.specs.Substitution.{AreComplementary}
use Rattle.pm_certread.specs.Lines.{sign_word, Ending, closed_by, extended_by}
use Rattle.pm_cert.specs.Ancestors.{PlacedNode}
use Rattle.pm_cert.specs.Inside.Lines.{numbers_text}
use Rattle.std.specs.Borrow.{Bor}

-- the literals on a branch
abbrev pub literals_on : List Term → List (Bor Rows) → List Literal
literals_on terms branch = map (λ literal. literal_of terms literal.now) branch

-- a leaf has a complementary ancestor
abbrev pub IsClosedAt : NodeKind → List Literal → Literal → Type 0
IsClosedAt Leaf above literal = Any (AreComplementary literal) above
IsClosedAt (Inner clause) above literal = Unit {0}

-- a node that can be written: its predicate is a symbol, its literal's arguments have lines, and a
-- leaf is closed
pub record IsWritableNode (symbols : List Symbol) (terms : List Term) (placed : PlacedNode)
    : Type 0 where
  pub predicate : placed.literal.predicate < length symbols
  pub args : All (Contains terms) placed.literal.args
  pub closed : IsClosedAt placed.kind placed.above placed.literal

-- the front of a node's line
abbrev pub front_text : ℕ → Bool → Symbol → List ℕ → List ℕ
front_text at_depth positive symbol numbers =
    decimal at_depth ++ 32 ∷ sign_word positive ++ 32 ∷ written_symbol symbol
    ++ numbers_text numbers

-- the end of a node's line
abbrev pub ending_text : Ending → List ℕ
ending_text (closed_by depth) = codes " close " ++ decimal depth ++ codes "\n"
ending_text (extended_by clause) = codes " extend " ++ decimal clause ++ codes "\n"

-- Nodes in pre-order with their ancestors. The branch has the literals above the node before them
-- and its own: as many of them as the next node is deep, less one, are above it.
abbrev pub placed_from : List Literal → List Entry → List PlacedNode
placed_from branch [] = []
placed_from branch (e ∷ es) =
    record { above = take (e.depth - 1) branch; literal = e.literal; kind = e.kind }
    ∷ placed_from (take (e.depth - 1) branch ++ e.literal ∷ []) es
