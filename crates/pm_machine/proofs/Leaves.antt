-- The children that a clause's literals give: leaves, of which one may be closed.
use Rattle.std.proofs.Common.{◌≡◌, ℕ, zero, suc, ◌+◌, ◌⊎◌, inl, inr, Bool, true, false, if◌then◌else◌, List, [], ◌∷◌, ◌++◌, length, map, Option, Some, None, IsSomeAnd, slice_get, refl, sym, ◌∙◌, ap, ap₂, subst, subst₂}
use Rattle.std.specs.Prelude.{All}
use Rattle.std.proofs.lemmas.List.{length-map}
use Rattle.std.proofs.lemmas.List.Elements.{All-nil, All-cons, All-head, All-tail}
use Rattle.pm_logic.specs.Term.{Term}
use Rattle.pm_logic.specs.Problem.{Symbol, Literal, Clause, HasShape, IsLiteralOver}
use Rattle.pm_logic.specs.declared.symbols.Kind.{Kind}
use Rattle.pm_logic.specs.declared.symbols.Kind.TheVariants.{Predicate, Equality}
use Rattle.pm_logic.specs.Tableau.{leaf, inner, Nodes, no_nodes, more_nodes}
use Rattle.pm_logic.specs.Filling.{fill}
use Rattle.pm_run.specs.State.{CellLiteral, Child, TreeChild, literal_under, child_under, closed_tree_child}
use Rattle.pm_run.specs.Wants.{filled_literal, filled_child}
use Rattle.pm_run.specs.Steps.{filled_children, filled_and_closed}
use Rattle.pm_calculus.specs.Substitution.{AreComplementary}
use Rattle.pm_calculus.specs.Connection.{literals_on, HaveFamilies}
use Rattle.pm_calculus.specs.Skeleton.{face_of, unclosed, closed, more_skeletons, leaves, leaves_but}
use Rattle.pm_calculus.specs.Choices.{at_depth, FitAmong}
use Rattle.pm_machine.specs.State.{child_at}
use Rattle.pm_machine.specs.Labels.{HasItsCount}
use Rattle.pm_machine.proofs.CellTrees.{CellTree, open_leaf, closed_leaf, CellTrees, no_trees, more_trees, skeleton_of, skeletons_of, nodes_in, all_nodes_in, node_over, nodes_over}

-- leaves with these literals
abbrev pub leaf_nodes : List Literal → Nodes
leaf_nodes [] = no_nodes
leaf_nodes (l ∷ ls) = more_nodes (leaf l) (leaf_nodes ls)

pub literals_of_leaves : (ls : List Literal) → literals_on (leaf_nodes ls) ≡ ls
literals_of_leaves [] = refl
literals_of_leaves (l ∷ ls) = ap (λ ks. l ∷ ks) (literals_of_leaves ls)

pub leaves_have_families : (clauses : List Clause) (ls : List Literal) → HaveFamilies clauses (leaf_nodes ls)
leaves_have_families clauses [] = tt
leaves_have_families clauses (l ∷ ls) = (tt, leaves_have_families clauses ls)

-- what fits leaves are leaves
pub leaves_fit : (above ls : List Literal) (ns : Nodes) → FitAmong above (leaves ls) ns → ns ≡ leaf_nodes (literals_on ns)
leaves_fit above [] no_nodes h = refl
leaves_fit above [] (more_nodes n ns) h = absurd h
leaves_fit above (l ∷ ls) no_nodes h = absurd h
leaves_fit above (l ∷ ls) (more_nodes (leaf k) ns) h = ap (more_nodes (leaf k)) (leaves_fit above ls ns h.1)
leaves_fit above (l ∷ ls) (more_nodes (inner k c ms) ns) h = absurd h.0

pub fit_leaves : (f : Literal → Literal) (above ls : List Literal) → FitAmong above (leaves ls) (leaf_nodes (map f ls))
fit_leaves f above [] = tt
fit_leaves f above (l ∷ ls) = (tt, fit_leaves f above ls)

-- and where one of them is closed, it is complementary to the ancestor
pub leaves_but_fit : (above : List Literal) (j k : ℕ) (ls : List Literal) (ns : Nodes) → FitAmong above (leaves_but j k ls) ns → ns ≡ leaf_nodes (literals_on ns)
leaves_but_fit above j k [] no_nodes h = refl
leaves_but_fit above j k [] (more_nodes n ns) h = absurd h
leaves_but_fit above zero k (l ∷ ls) no_nodes h = absurd h
leaves_but_fit above (suc j) k (l ∷ ls) no_nodes h = absurd h
leaves_but_fit above zero k (l ∷ ls) (more_nodes (leaf m) ns) h = ap (more_nodes (leaf m)) (leaves_fit above ls ns h.1)
leaves_but_fit above zero k (l ∷ ls) (more_nodes (inner m c ms) ns) h = absurd h.0
leaves_but_fit above (suc j) k (l ∷ ls) (more_nodes (leaf m) ns) h = ap (more_nodes (leaf m)) (leaves_but_fit above j k ls ns h.1)
leaves_but_fit above (suc j) k (l ∷ ls) (more_nodes (inner m c ms) ns) h = absurd h.0

pub closed_leaf_fits : (f : Literal → Literal) (above : List Literal) (j k : ℕ) (ls : List Literal) (l : Literal) → slice_get ls j ≡ Some l
    → FitAmong above (leaves_but j k ls) (leaf_nodes (map f ls)) → IsSomeAnd (at_depth above k) (AreComplementary (f l))
closed_leaf_fits f above j k [] l is h = absurd cc
closed_leaf_fits f above zero k (m ∷ ls) l is h =
    let same : m ≡ l = cc in subst (λ (n : Literal). IsSomeAnd (at_depth above k) (AreComplementary (f n))) same h.0
closed_leaf_fits f above (suc j) k (m ∷ ls) l is h = closed_leaf_fits f above j k ls l is h.1

pub fit_leaves_but : (f : Literal → Literal) (above : List Literal) (j k : ℕ) (ls : List Literal) (l : Literal) → slice_get ls j ≡ Some l
    → IsSomeAnd (at_depth above k) (AreComplementary (f l)) → FitAmong above (leaves_but j k ls) (leaf_nodes (map f ls))
fit_leaves_but f above j k [] l is h = absurd cc
fit_leaves_but f above zero k (m ∷ ls) l is h =
    let same : l ≡ m = cc in
    (subst (λ (n : Literal). IsSomeAnd (at_depth above k) (AreComplementary (f n))) same h, fit_leaves f above ls)
fit_leaves_but f above (suc j) k (m ∷ ls) l is h = (tt, fit_leaves_but f above j k ls l is h)

-- the cell leaves of children, whose parent has this depth
abbrev pub child_leaf : ℕ → Child → CellTree
child_leaf d child = if child.closed then closed_leaf child.literal d else open_leaf child.literal

abbrev pub child_leaves : ℕ → List Child → CellTrees
child_leaves d [] = no_trees
child_leaves d (child ∷ children) = more_trees (child_leaf d child) (child_leaves d children)

one_child : (d : ℕ) (l : CellLiteral) (b : Bool)
    → nodes_in (d + 1) (child_leaf d (record { literal = l; closed = b })) ≡ child_at d (record { literal = l; closed = b }) ∷ []
one_child d l true = refl
one_child d l false = refl

pub nodes_of_children : (d : ℕ) (children : List Child) → all_nodes_in (d + 1) (child_leaves d children) ≡ map (child_at d) children
nodes_of_children d [] = refl
nodes_of_children d (child ∷ children) = ap₂ (λ ms ns. ms ++ ns) (one_child d child.literal child.closed) (nodes_of_children d children)

one_over : (trees : ℕ → Term) (d : ℕ) (l : CellLiteral) (b : Bool)
    → node_over trees (child_leaf d (record { literal = l; closed = b })) ≡ leaf (literal_under trees l)
one_over trees d l true = refl
one_over trees d l false = refl

pub children_over : (trees : ℕ → Term) (d : ℕ) (children : List Child)
    → nodes_over trees (child_leaves d children) ≡ leaf_nodes (map (λ child. literal_under trees child.literal) children)
children_over trees d [] = refl
children_over trees d (child ∷ children) = ap₂ more_nodes (one_over trees d child.literal child.closed) (children_over trees d children)

-- the literals of children over trees
abbrev pub tree_literals : List TreeChild → List Literal
tree_literals children = map (λ child. child.literal) children

literals_kept : (trees : ℕ → Term) (children : List Child) → tree_literals (map (child_under trees) children) ≡ map (λ child. literal_under trees child.literal) children
literals_kept trees [] = refl
literals_kept trees (child ∷ children) = ap (λ ls. literal_under trees child.literal ∷ ls) (literals_kept trees children)

literals_filled : (variables : ℕ → Term) (ls : List Literal) → tree_literals (filled_children ls variables) ≡ map (filled_literal variables) ls
literals_filled variables [] = refl
literals_filled variables (l ∷ ls) = ap (λ ks. filled_literal variables l ∷ ks) (literals_filled variables ls)

literals_closed : (j : ℕ) (variables : ℕ → Term) (ls : List Literal) → tree_literals (filled_and_closed j ls variables) ≡ map (filled_literal variables) ls
literals_closed j variables [] = refl
literals_closed zero variables (l ∷ ls) = ap (λ ks. filled_literal variables l ∷ ks) (literals_filled variables ls)
literals_closed (suc j) variables (l ∷ ls) = ap (λ ks. filled_literal variables l ∷ ks) (literals_closed j variables ls)

pub filled_are : (trees variables : ℕ → Term) (children : List Child) (ls : List Literal) → map (child_under trees) children ≡ filled_children ls variables
    → map (λ child. literal_under trees child.literal) children ≡ map (filled_literal variables) ls
filled_are trees variables children ls same =
    sym (literals_kept trees children) ∙ ap tree_literals same ∙ literals_filled variables ls

pub closed_are : (trees variables : ℕ → Term) (j : ℕ) (children : List Child) (ls : List Literal) → map (child_under trees) children ≡ filled_and_closed j ls variables
    → map (λ child. literal_under trees child.literal) children ≡ map (filled_literal variables) ls
closed_are trees variables j children ls same =
    sym (literals_kept trees children) ∙ ap tree_literals same ∙ literals_closed j variables ls

-- the leaves of the children have the skeletons of the literals' leaves
one_skeleton : (trees : ℕ → Term) (d : ℕ) (l : CellLiteral) (b : Bool) (t : TreeChild) → child_under trees (record { literal = l; closed = b }) ≡ t
    → skeleton_of (child_leaf d (record { literal = l; closed = b })) ≡ (if t.closed then closed (face_of t.literal) d else unclosed (face_of t.literal))
one_skeleton trees d l true t same = ap (λ (u : TreeChild). if u.closed then closed (face_of u.literal) d else unclosed (face_of u.literal)) same
one_skeleton trees d l false t same = ap (λ (u : TreeChild). if u.closed then closed (face_of u.literal) d else unclosed (face_of u.literal)) same

pub filled_skeletons : (trees variables : ℕ → Term) (d : ℕ) (children : List Child) (ls : List Literal) → map (child_under trees) children ≡ filled_children ls variables
    → skeletons_of (child_leaves d children) ≡ leaves ls
filled_skeletons trees variables d [] [] same = refl
filled_skeletons trees variables d [] (l ∷ ls) same = absurd cc
filled_skeletons trees variables d (child ∷ children) [] same = absurd cc
filled_skeletons trees variables d (child ∷ children) (l ∷ ls) same =
    let own : child_under trees child ≡ filled_child variables l = cc in
    let others : map (child_under trees) children ≡ filled_children ls variables = cc in
    ap₂ more_skeletons (one_skeleton trees d child.literal child.closed (filled_child variables l) own) (filled_skeletons trees variables d children ls others)

pub closed_skeletons : (trees variables : ℕ → Term) (d j : ℕ) (children : List Child) (ls : List Literal) → map (child_under trees) children ≡ filled_and_closed j ls variables
    → skeletons_of (child_leaves d children) ≡ leaves_but j d ls
closed_skeletons trees variables d j [] [] same = refl
closed_skeletons trees variables d zero [] (l ∷ ls) same = absurd cc
closed_skeletons trees variables d (suc j) [] (l ∷ ls) same = absurd cc
closed_skeletons trees variables d j (child ∷ children) [] same = absurd cc
closed_skeletons trees variables d zero (child ∷ children) (l ∷ ls) same =
    let own : child_under trees child ≡ closed_tree_child (filled_child variables l) = cc in
    let others : map (child_under trees) children ≡ filled_children ls variables = cc in
    ap₂ more_skeletons (one_skeleton trees d child.literal child.closed (closed_tree_child (filled_child variables l)) own) (filled_skeletons trees variables d children ls others)
closed_skeletons trees variables d (suc j) (child ∷ children) (l ∷ ls) same =
    let own : child_under trees child ≡ filled_child variables l = cc in
    let others : map (child_under trees) children ≡ filled_and_closed j ls variables = cc in
    ap₂ more_skeletons (one_skeleton trees d child.literal child.closed (filled_child variables l) own) (closed_skeletons trees variables d j children ls others)

-- children have as many arguments as the literals that they are filled from
abbrev IsCounted : List Symbol → Child → Type 0
IsCounted symbols child = HasItsCount symbols child.literal

one_counted : (symbols : List Symbol) (trees variables : ℕ → Term) (vars : ℕ) (k : CellLiteral) (l : Literal) → literal_under trees k ≡ filled_literal variables l
    → IsLiteralOver symbols vars l → HasItsCount symbols k
one_counted symbols trees variables vars k l same over =
    let predicate : l.predicate ≡ k.predicate = ap (λ (m : Literal). m.predicate) (sym same) in
    let count : length l.args ≡ length k.args =
    sym (length-map l.args (fill variables)) ∙ ap (λ (m : Literal). length m.args) (sym same) ∙ length-map k.args trees in
    subst₂ (λ p n. HasShape symbols p Predicate n ⊎ HasShape symbols p Equality n) predicate count over.predicate

pub children_counted : (symbols : List Symbol) (trees variables : ℕ → Term) (vars : ℕ) (children : List Child) (ls : List Literal)
    → map (λ child. literal_under trees child.literal) children ≡ map (filled_literal variables) ls → All (IsLiteralOver symbols vars) ls
    → All (λ child. HasItsCount symbols child.literal) children
children_counted symbols trees variables vars [] ls same over = All-nil (IsCounted symbols)
children_counted symbols trees variables vars (child ∷ children) [] same over = absurd cc
children_counted symbols trees variables vars (child ∷ children) (l ∷ ls) same over =
    let own : literal_under trees child.literal ≡ filled_literal variables l = cc in
    let others : map (λ (c : Child). literal_under trees c.literal) children ≡ map (filled_literal variables) ls = cc in
    All-cons (IsCounted symbols) child children (one_counted symbols trees variables vars child.literal l own (All-head (IsLiteralOver symbols vars) l ls over))
    (children_counted symbols trees variables vars children ls others (All-tail (IsLiteralOver symbols vars) l ls over))

-- literals of the same predicate have as many arguments
same_arity : (o : Option Symbol) (kind other : Kind) (m n : ℕ) → IsSomeAnd o (λ s. (s.kind ≡ kind) × (s.arity ≡ m)) → IsSomeAnd o (λ s. (s.kind ≡ other) × (s.arity ≡ n)) → m ≡ n
same_arity None kind other m n h k = absurd h
same_arity (Some s) kind other m n h k = sym h.1 ∙ k.1

pub same_shape : (symbols : List Symbol) (p m n : ℕ) → HasShape symbols p Predicate m ⊎ HasShape symbols p Equality m
    → HasShape symbols p Predicate n ⊎ HasShape symbols p Equality n → m ≡ n
same_shape symbols p m n (inl h) (inl k) = same_arity (slice_get symbols p) Predicate Predicate m n h k
same_shape symbols p m n (inl h) (inr k) = same_arity (slice_get symbols p) Predicate Equality m n h k
same_shape symbols p m n (inr h) (inl k) = same_arity (slice_get symbols p) Equality Predicate m n h k
same_shape symbols p m n (inr h) (inr k) = same_arity (slice_get symbols p) Equality Equality m n h k

pub same_count : (symbols : List Symbol) (vars : ℕ) (k : CellLiteral) (l : Literal) → HasItsCount symbols k → IsLiteralOver symbols vars l → k.predicate ≡ l.predicate
    → length k.args ≡ length l.args
same_count symbols vars k l counted over same =
    same_shape symbols k.predicate (length k.args) (length l.args) counted
    (subst (λ p. HasShape symbols p Predicate (length l.args) ⊎ HasShape symbols p Equality (length l.args)) (sym same) over.predicate)
