-- How solutions and soundness change with a cell or a binding.
use Rattle.std.proofs.Common.{◌≡◌, ℕ, suc, ◌+◌, ◌<◌, ◌≤◌, inl, inr, List, [], ◌∷◌, ◌++◌, length, map, Some, slice_get, refl, sym, ◌∙◌, ap, subst, arith}
use Rattle.std.specs.Prelude.{◌↔◌, All}
use Rattle.std.proofs.lemmas.List.{length_push, length-append}
use Rattle.std.proofs.lemmas.List.Elements.{All-nil, All-head, All-tail, All-cons}
use Rattle.std.proofs.lemmas.Option.{slice_get_within}
use Rattle.pm_logic.specs.Term.{Term, app, as_terms, tree_at}
use Rattle.pm_store.specs.Entries.{Entry, Variable, Application}
use Rattle.pm_store.specs.Equations.{Binding, Equations, with_cell, with_binding}
use Rattle.pm_store.specs.Solutions.{Solves, with_tree}
use Rattle.pm_store.specs.Trees.{trees_from, tree_of, put_at, tree_under, Occurs}
use Rattle.pm_store.specs.Sound.{PointsBelow, PointDown, CanBind, AreMade, IsSound}
use Rattle.pm_store.specs.Laws.{OtherCellsAreOpen, LaterSolutions, BindingsNarrow}
use Rattle.pm_store.proofs.ListLemmas.{if_other, map_agree, All-right, slice_get-append, slice_get-last, slice_get-push}
use Rattle.pm_store.proofs.TreeLemmas.{trees_from-kept, points_below}

-- what one more cell asks of trees
abbrev pub IsEntry : (ℕ → Term) → ℕ → Entry → Type 0
IsEntry trees cell Variable = Unit {0}
IsEntry trees cell (Application symbol args) = trees cell ≡ app symbol (as_terms (map trees args))

entry_fits : (trees : ℕ → Term) (cell symbol : ℕ) (args : List ℕ) (e : Entry) → e ≡ Application symbol args → IsEntry trees cell e
    → trees cell ≡ app symbol (as_terms (map trees args))
entry_fits trees cell symbol args e is fits = subst (λ (x : Entry). IsEntry trees cell x) is fits

last_fits : (s : Equations) (trees : ℕ → Term) (e : Entry) → Solves (with_cell s e) trees → IsEntry trees (length s.cells) e
last_fits s trees Variable solves = tt
last_fits s trees (Application symbol args) solves =
    solves.applications (length s.cells) symbol args (slice_get-last s.cells (Application symbol args))

pub Solves-with_cell : (s : Equations) (e : Entry) (trees : ℕ → Term) → Solves (with_cell s e) trees ↔ (Solves s trees × IsEntry trees (length s.cells) e)
Solves-with_cell s e trees = (
  λ solves. (
    record {
      applications = λ cell symbol args is. solves.applications cell symbol args (slice_get-append s.cells (e ∷ []) cell (Application symbol args) is);
      bindings = solves.bindings;
    },
    last_fits s trees e solves,
  ),
  λ parts. record {
    applications = λ cell symbol args is. elim (slice_get-push s.cells e cell (Application symbol args) is) [
      | inl before ↦ parts.0.applications cell symbol args before
      | inr last ↦ entry_fits trees cell symbol args e last.1 (subst (λ (n : ℕ). IsEntry trees n e) (sym last.0) parts.1)
    ];
    bindings = parts.0.bindings;
  },
)

pub bindings_narrow : BindingsNarrow
bindings_narrow s v t trees =
    let equal : Binding → Type 0 = λ b. trees b.variable ≡ trees b.target in
    let first : Binding = record { variable = v; target = t } in (
      λ solves. (
        record { applications = solves.applications; bindings = All-tail equal first s.bindings solves.bindings },
        All-head equal first s.bindings solves.bindings,
      ),
      λ parts. record { applications = parts.0.applications; bindings = All-cons equal first s.bindings parts.1 parts.0.bindings },
    )

-- more cells leave the trees of those before
trees_from-append : (before : List Term) (es more : List Entry) → trees_from before (es ++ more) ≡ trees_from (trees_from before es) more
trees_from-append before [] more = refl
trees_from-append before (e ∷ es) more = trees_from-append (before ++ tree_of (tree_at before) (length before) e ∷ []) es more

length-trees_from : (before : List Term) (es : List Entry) → length (trees_from before es) ≡ length before + length es
length-trees_from before [] = omega arith
length-trees_from before (e ∷ es) =
    let new : Term = tree_of (tree_at before) (length before) e in
    omega (arith, length-trees_from (before ++ new ∷ []) es, length_push before new)

pub tree_under-append : (cells more : List Entry) (bs : List Binding) → AreMade cells bs → (c : ℕ) → c < length cells → tree_under (cells ++ more) bs c ≡ tree_under cells bs c
tree_under-append cells more [] made c within =
    ap (λ ts. tree_at ts c) (trees_from-append [] cells more)
    ∙ trees_from-kept (trees_from [] cells) more c (omega (arith, length-trees_from [] cells))
tree_under-append cells more (b ∷ bs) made c within =
    ap (λ t. put_at b.variable t (tree_under (cells ++ more) bs c)) (tree_under-append cells more bs made.1 b.target made.0.within)
    ∙ ap (put_at b.variable (tree_under cells bs b.target)) (tree_under-append cells more bs made.1 c within)

AreMade-append : (cells more : List Entry) (bs : List Binding) → AreMade cells bs → AreMade (cells ++ more) bs
AreMade-append cells more [] made = tt
AreMade-append cells more (b ∷ bs) made =
    let same : tree_under (cells ++ more) bs b.target ≡ tree_under cells bs b.target = tree_under-append cells more bs made.1 b.target made.0.within in (
      record {
        free = record {
          variable = slice_get-append cells more b.variable Variable made.0.free.variable;
          unbound = made.0.free.unbound;
        };
        within = farther (length cells) (length more) b.target (length (cells ++ more)) (length-append cells more) made.0.within;
        apart = λ occurs. made.0.apart (subst (λ (u : Term). Occurs b.variable u) same occurs);
      },
      AreMade-append cells more bs made.1,
    )
  where
    farther : (m n c k : ℕ) → k ≡ m + n → c < m → c < k
    farther m n c k is lt = omega arith

PointDown-push : (cell : ℕ) (es : List Entry) (e : Entry) → PointDown cell es → PointsBelow (cell + length es) e → PointDown cell (es ++ e ∷ [])
PointDown-push cell [] e down below =
    let start : cell + 0 ≡ cell = omega arith in
    (subst (λ (n : ℕ). PointsBelow n e) start below, tt)
PointDown-push cell (e' ∷ es) e down below =
    let next : cell + suc (length es) ≡ suc cell + length es = omega arith in
    (down.0, PointDown-push (suc cell) es e down.1 (subst (λ (n : ℕ). PointsBelow n e) next below))

pub IsSound-with_cell : (s : Equations) (e : Entry) → IsSound s → PointsBelow (length s.cells) e → IsSound (with_cell s e)
IsSound-with_cell s e sound below =
    let start : length s.cells ≡ 0 + length s.cells = omega arith in
    record {
      down = PointDown-push 0 s.cells e sound.down (subst (λ (n : ℕ). PointsBelow n e) start below);
      made = AreMade-append s.cells (e ∷ []) s.bindings sound.made;
    }

pub IsSound-with_binding : (s : Equations) (v t : ℕ) → IsSound s → CanBind s v t → IsSound (with_binding s v t)
IsSound-with_binding s v t sound can = record { down = sound.down; made = (can, sound.made) }

-- trees that agree on the cells of a store have equal trees for its bindings alike
bindings_agree : (cells : List Entry) (bs : List Binding) (f g : ℕ → Term) → AreMade cells bs → ((c : ℕ) → c < length cells → f c ≡ g c)
    → All (λ b. f b.variable ≡ f b.target) bs → All (λ b. g b.variable ≡ g b.target) bs
bindings_agree cells [] f g made agree same = All-nil (λ (b : Binding). g b.variable ≡ g b.target)
bindings_agree cells (b ∷ bs) f g made agree same =
    let equal : Binding → Type 0 = λ b'. f b'.variable ≡ f b'.target in
    let equal' : Binding → Type 0 = λ b'. g b'.variable ≡ g b'.target in
    let first : g b.variable ≡ g b.target =
    sym (agree b.variable (slice_get_within cells b.variable Variable made.0.free.variable)) ∙ All-head equal b bs same ∙ agree b.target made.0.within in
    All-cons equal' b bs first (bindings_agree cells bs f g made.1 agree (All-tail equal b bs same))

-- and solve it alike
pub solves_agree : (s : Equations) (f g : ℕ → Term) → IsSound s → ((c : ℕ) → c < length s.cells → f c ≡ g c) → Solves s f → Solves s g
solves_agree s f g sound agree solves = record {
  applications = λ cell symbol args is.
      let start : 0 + cell ≡ cell = omega arith in
      let within : cell < length s.cells = slice_get_within s.cells cell (Application symbol args) is in
      let below : All (λ arg. arg < cell) args =
      subst (λ (n : ℕ). PointsBelow n (Application symbol args)) start (points_below 0 s.cells sound.down cell (Application symbol args) is) in
      sym (agree cell within) ∙ solves.applications cell symbol args is
      ∙ ap (λ ts. app symbol (as_terms ts)) (map_agree f g cell args (λ a lt. agree a (nearer a cell (length s.cells) lt within)) below);
  bindings = bindings_agree s.cells s.bindings f g sound.made agree solves.bindings;
}
  where
    nearer : (m n k : ℕ) → m < n → n < k → m < k
    nearer m n k lt lt' = omega arith

pub other_cells_are_open : OtherCellsAreOpen
other_cells_are_open s solution c t sound beyond solves =
    solves_agree s solution (with_tree solution c t) sound (λ a lt. sym (if_other a c t (solution a) (apart a c (length s.cells) lt beyond))) solves
  where
    apart : (m n k : ℕ) → m < k → k ≤ n → m ≡ n → ⊥
    apart m n k lt le e = omega arith

pub later_solutions : LaterSolutions
later_solutions before after trees later solves = record {
  applications = λ cell symbol args is. solves.applications cell symbol args
      (subst (λ (es : List Entry). slice_get es cell ≡ Some (Application symbol args)) (sym later.cells.1)
      (slice_get-append before.cells later.cells.0 cell (Application symbol args) is));
  bindings = All-right equal later.bindings.0 before.bindings (subst (λ (bs : List Binding). All equal bs) later.bindings.1 solves.bindings);
}
  where
    equal : Binding → Type 0
    equal b = trees b.variable ≡ trees b.target
