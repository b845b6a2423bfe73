-- What the selected leaf's view says of the calculus's leaf.
use Rattle.std.proofs.Common.{◌≡◌, ℕ, zero, suc, ◌<◌, Bool, true, false, not, cond, ◌&&◌, ◌==◌, List, [], ◌∷◌, length, map, Option, Some, None, slice_get, slice_index_or, refl, sym, ◌∙◌, ap, ap₂, arith, subst}
use Rattle.std.specs.Bool.{beq}
use Rattle.std.specs.Prelude.{All}
use Rattle.std.proofs.lemmas.Bool.{eq-eqb}
use Rattle.std.proofs.lemmas.List.{length-map, get_or-map}
use Rattle.std.proofs.lemmas.List.Elements.{All-get_or}
use Rattle.pm_logic.specs.Problem.{Literal, Clause}
use Rattle.pm_calculus.specs.Skeleton.{Face, Subgoal}
use Rattle.pm_calculus.specs.Alternatives.{has_face, opposite}
use Rattle.pm_run.specs.InStore.{HasArgsBelow}
use Rattle.pm_machine.specs.declared.node.MachineNode.{MachineNode}
use Rattle.pm_machine.specs.declared.node.LeafView.{LeafView}
use Rattle.pm_machine.specs.State.{CellNode}
use Rattle.pm_machine.specs.Node.{node_of, Views, IsViewOf}

-- where a leaf is seen, one is selected
pub viewed : (o : Option Subgoal) (view : LeafView) → Views o (Some view) → (goal : Subgoal) × (o ≡ Some goal) × IsViewOf goal view
viewed None view views = absurd views
viewed (Some goal) view views = (goal, refl, views)

other_sign : (a b : Bool) → beq a b ≡ false → cond (not b) a (not a) ≡ true
other_sign true true same = absurd cc
other_sign true false same = refl
other_sign false true same = refl
other_sign false false same = absurd cc

-- a literal with the other sign and the same predicate has the opposite face
pub shows_opposite : (goal : Subgoal) (view : LeafView) (l : Literal) → IsViewOf goal view → beq l.positive view.positive ≡ false → l.predicate ≡ view.predicate
    → has_face (opposite goal.face) l ≡ true
shows_opposite goal view l is sign predicate =
    ap₂ (λ a b. a && b)
    (ap (λ p. cond (not p) l.positive (not l.positive)) (sym is.positive) ∙ other_sign l.positive view.positive sign)
    (eq-eqb goal.face.predicate l.predicate (sym is.predicate ∙ sym predicate))

-- what is read from a place stands there
pub read_stands : {A B : Type 0} (f : A → B) (xs : List A) (i : ℕ) (x : A) → i < length xs → x ≡ slice_index_or xs i x
    → slice_get (map f xs) i ≡ Some (f x)
read_stands f [] i x within read = absurd (omega (arith, within))
read_stands f (y ∷ xs) zero x within read = ap (λ z. Some (f z)) (sym read)
read_stands f (y ∷ xs) (suc i) x within read = read_stands f xs i x (omega (arith, within)) read

-- what is in a place of which all are below a number
pub below_at : (bound : ℕ) (xs : List ℕ) (i x : ℕ) → All (λ n. n < bound) xs → i < length xs → x ≡ slice_index_or xs i x → x < bound
below_at bound xs i x all within read = subst (λ n. n < bound) (sym read) (All-get_or (λ n. n < bound) xs i x within all)

-- the cells of a node that is read are the store's
pub cells_at : (nodes : List MachineNode) (seen : List CellNode) (count i : ℕ) (node : MachineNode) → map node_of nodes ≡ seen
    → All (λ n. HasArgsBelow count n.literal) seen → i < length nodes → node ≡ slice_index_or nodes i node
    → All (λ n. n < count) node.args.items
cells_at nodes seen count i node shown all within read =
    subst (λ n. HasArgsBelow count (node_of n).literal) (sym read)
    (subst (λ (n : CellNode). HasArgsBelow count n.literal) (get_or-map node_of nodes i node (node_of node) within)
    (All-get_or (λ n. HasArgsBelow count n.literal) (map node_of nodes) i (node_of node)
    (subst (λ n. i < n) (sym (length-map nodes node_of)) within) (subst (All (λ n. HasArgsBelow count n.literal)) (sym shown) all)))
