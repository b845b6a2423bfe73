-- Regular tableaux around the place of a leaf.
use Rattle.std.proofs.Common.{ℕ, List, [], ◌∷◌, ◌++◌}
use Rattle.std.specs.Prelude.{◌↔◌, All, Contains}
use Rattle.std.proofs.lemmas.List.Elements.{All-nil, All-cons, All-head, All-tail}
use Rattle.pm_logic.specs.Term.{Term}
use Rattle.pm_logic.specs.Problem.{Literal}
use Rattle.pm_logic.specs.Tableau.{Node, leaf, inner}
use Rattle.pm_run.specs.State.{literal_under}
use Rattle.pm_calculus.specs.Connection.{IsRegularBelow, AreRegularBelow}
use Rattle.pm_machine.proofs.CellTrees.{node_over, nodes_over}
use Rattle.pm_machine.proofs.Contexts.{Context, first, under, beyond, plugged_over}
use Rattle.pm_machine.proofs.Replaced.{literals_above}
use Rattle.pm_machine.proofs.Leaves.{leaf_nodes}

-- no branch that doesn't go through the leaf's place has a literal twice, and neither has the branch
-- to it
abbrev pub IsRegularAround : (ℕ → Term) → List Literal → Context → Type 0
IsRegularAround trees above (first rest) = AreRegularBelow above (nodes_over trees rest)
IsRegularAround trees above (under l c x rest) =
    (¬ Contains above (literal_under trees l)) × IsRegularAround trees (above ++ literal_under trees l ∷ []) x
    × AreRegularBelow above (nodes_over trees rest)
IsRegularAround trees above (beyond u x) = IsRegularBelow above (node_over trees u) × IsRegularAround trees above x

-- the tableau is regular around the place and in it
pub regular_apart : (trees : ℕ → Term) (above : List Literal) (x : Context) (n : Node) → AreRegularBelow above (plugged_over trees x n)
    → IsRegularAround trees above x × IsRegularBelow (literals_above trees above x) n
regular_apart trees above (first rest) n h = (h.1, h.0)
regular_apart trees above (under l c x rest) n h =
    let k = regular_apart trees (above ++ literal_under trees l ∷ []) x n h.0.1 in ((h.0.0, k.0, h.1), k.1)
regular_apart trees above (beyond u x) n h = let k = regular_apart trees above x n h.1 in ((h.0, k.0), k.1)

pub regular_together : (trees : ℕ → Term) (above : List Literal) (x : Context) (n : Node) → IsRegularAround trees above x
    → IsRegularBelow (literals_above trees above x) n → AreRegularBelow above (plugged_over trees x n)
regular_together trees above (first rest) n h k = (k, h)
regular_together trees above (under l c x rest) n h k = ((h.0, regular_together trees (above ++ literal_under trees l ∷ []) x n h.1 k), h.2)
regular_together trees above (beyond u x) n h k = (h.0, regular_together trees above x n h.1 k)

-- leaves are regular where none has a literal that is above
abbrev pub AreNew : List Literal → List Literal → Type 0
AreNew above ls = All (λ l. ¬ Contains above l) ls

pub regular_leaves : (above ls : List Literal) → AreRegularBelow above (leaf_nodes ls) ↔ AreNew above ls
regular_leaves above [] = (λ h. All-nil (λ l. ¬ Contains above l), λ h. tt)
regular_leaves above (l ∷ ls) = (
  λ h. All-cons (λ l. ¬ Contains above l) l ls h.0 ((regular_leaves above ls).0 h.1),
  λ h. (All-head (λ l. ¬ Contains above l) l ls h, (regular_leaves above ls).1 (All-tail (λ l. ¬ Contains above l) l ls h)),
)

-- where a leaf gets leaves below it, these must be new
pub grown_regular : (trees : ℕ → Term) (x : Context) (l : Literal) (c : ℕ) (ls : List Literal)
    → AreRegularBelow [] (plugged_over trees x (inner l c (leaf_nodes ls)))
    ↔ (AreRegularBelow [] (plugged_over trees x (leaf l)) × AreNew (literals_above trees [] x ++ l ∷ []) ls)
grown_regular trees x l c ls = (
  λ h. let k = regular_apart trees [] x (inner l c (leaf_nodes ls)) h in
      (regular_together trees [] x (leaf l) k.0 k.1.0, (regular_leaves (literals_above trees [] x ++ l ∷ []) ls).0 k.1.1),
  λ (h, new). let k = regular_apart trees [] x (leaf l) h in
      regular_together trees [] x (inner l c (leaf_nodes ls)) k.0 (k.1, (regular_leaves (literals_above trees [] x ++ l ∷ []) ls).1 new),
)
