-- The pairs of literals that tell whether a branch has a literal twice.
use Rattle.std.specs.Prelude.{◌≡◌, ◌≢◌, ◌↔◌, ℕ, suc, ◌+◌, ◌<◌, ◌==◌, ◌&&◌, Bool, true, if◌then◌else◌, List, [], ◌∷◌, ◌++◌, All, Some, length, map, slice_get, take, drop}
use Rattle.std.specs.Bool.{beq}
use Rattle.std.specs.Option.{option_map_or}
use Rattle.pm_logic.specs.Term.{Term}
use Rattle.pm_calculus.specs.Connection.{IsRegular}
use Rattle.pm_run.specs.State.{CellLiteral}
use Rattle.pm_diseq.specs.Notes.{Pair, as_pair}
use Rattle.pm_machine.specs.State.{CellNode, IsOpen, IsSelected, IsAncestorAt}
use Rattle.pm_machine.specs.Labels.{tableau_under}

-- over these trees of the cells, no pair has the same terms
abbrev pub AreApart : (ℕ → Term) → List Pair → Type 0
AreApart trees pairs = All (λ pair. map trees pair.left ≢ map trees pair.right) pairs

-- over whatever trees of the cells, no branch has a literal twice exactly where these are apart
abbrev pub TellsRepeats : List CellNode → List Pair → Type 0
TellsRepeats nodes pairs = (root : ℕ) (trees : ℕ → Term)
    → IsRegular (tableau_under trees root nodes) ↔ AreApart trees pairs

-- the literals have the same sign and predicate
abbrev pub has_same_face : CellLiteral → CellLiteral → Bool
has_same_face literal other =
    beq literal.positive other.positive && (literal.predicate == other.predicate)

-- for each literal of a branch with the same sign and predicate the pair of the arguments
abbrev pub pairs_with : List CellLiteral → CellLiteral → List Pair
pairs_with [] child = []
pairs_with (above ∷ branch) child =
    if has_same_face child above then as_pair above.args child.args ∷ pairs_with branch child
    else pairs_with branch child

-- for each literal of a family
abbrev pub family_pairs : List CellLiteral → List CellLiteral → List Pair
family_pairs branch [] = []
family_pairs branch (child ∷ children) = pairs_with branch child ++ family_pairs branch children

abbrev pub no_literal : CellLiteral
no_literal = record { positive = true; predicate = 0; args = [] }

abbrev pub literal_at : List CellNode → ℕ → CellLiteral
literal_at nodes place = option_map_or (λ node. node.literal) (slice_get nodes place) no_literal

-- the literals in these places
abbrev pub literals_in : List CellNode → List ℕ → List CellLiteral
literals_in nodes places = map (literal_at nodes) places

-- the literals of so many nodes after a place
abbrev pub literals_after : List CellNode → ℕ → ℕ → List CellLiteral
literals_after nodes place count = map (λ node. node.literal) (take count (drop (suc place) nodes))

-- a leaf's ancestors are in these places before it, the one at depth 1 first, and then itself
pub record IsBranchOf (nodes before : List CellNode) (leaf : CellNode)
    (places : List ℕ) : Type 0 where
  pub above : List ℕ
  pub whole : places ≡ above ++ length before ∷ []
  pub depth : leaf.depth ≡ length above + 1
  pub each :
      (level place : ℕ) → slice_get above level ≡ Some place
      → (place < length before) × (ancestor : CellNode)
      × (slice_get nodes place ≡ Some ancestor) × IsAncestorAt before (level + 1) ancestor

-- the places of the branch to the selected leaf; none, where no leaf is selected
pub record NotesBranch (nodes : List CellNode) (places : List ℕ) : Type 0 where
  pub some :
      (before : List CellNode) (leaf : CellNode) (after : List CellNode)
      → IsSelected nodes before leaf after → IsBranchOf nodes before leaf places
  pub none : All (λ node. ¬ IsOpen node) nodes → places ≡ []

-- the place of the branch's end
abbrev pub last_of : List ℕ → ℕ
last_of [] = 0
last_of (place ∷ []) = place
last_of (place ∷ other ∷ places) = last_of (other ∷ places)

-- the pairs that keep new the so many nodes after the branch's end
abbrev pub new_pairs : List CellNode → List ℕ → ℕ → List Pair
new_pairs nodes [] count = []
new_pairs nodes (place ∷ places) count =
    family_pairs (literals_in nodes (place ∷ places))
    (literals_after nodes (last_of (place ∷ places)) count)
