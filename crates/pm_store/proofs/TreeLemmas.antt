-- The trees of cells solve their equations, and every solution is an instance of them.
use Rattle.std.proofs.Common.{◌≡◌, ℕ, zero, suc, ◌+◌, ◌<◌, inl, inr, List, [], ◌∷◌, ◌++◌, length, map, Some, None, slice_get, get_or, refl, sym, ◌∙◌, ap, subst, arith, add-zero}
use Rattle.std.specs.Prelude.{All}
use Rattle.std.proofs.lemmas.Bool.{cases_eq}
use Rattle.std.proofs.lemmas.List.{length_push, get_or_append_left, get_or_push}
use Rattle.std.proofs.lemmas.List.Elements.{All-head, All-tail, All-cons, All-weaker, All-nil}
use Rattle.std.proofs.lemmas.Option.{slice_get-get_or}
use Rattle.pm_logic.specs.Term.{Term, var, app, as_terms, tree_at}
use Rattle.pm_logic.specs.Filling.{fill}
use Rattle.pm_store.specs.Entries.{Entry, Variable, Application}
use Rattle.pm_store.specs.Equations.{Binding, target_of}
use Rattle.pm_store.specs.Trees.{tree_of, trees_from, put_at, tree_under, tree}
use Rattle.pm_store.specs.Sound.{PointsBelow, PointDown, AreMade}
use Rattle.pm_store.specs.Laws.{TreesSolve, TreesAreGeneral, FreeVariablesStand}
use Rattle.pm_store.proofs.ListLemmas.{if_same, if_other, map_agree}
use Rattle.pm_store.proofs.TermLemmas.{put_at-absent, put_at-var, fill-put_at, put_at_among-as_terms, fill_among-as_terms}

pub trees_from-kept : (before : List Term) (es : List Entry) (c : ℕ) → c < length before → tree_at (trees_from before es) c ≡ tree_at before c
trees_from-kept before [] c lt = refl
trees_from-kept before (e ∷ es) c lt =
    let new : Term = tree_of (tree_at before) (length before) e in
    trees_from-kept (before ++ new ∷ []) es c (omega (arith, length_push before new)) ∙ get_or_append_left before (new ∷ []) (var 0) c lt

tree_of-agree : (f g : ℕ → Term) (cell : ℕ) (e : Entry) → ((c : ℕ) → c < cell → f c ≡ g c) → PointsBelow cell e → tree_of f cell e ≡ tree_of g cell e
tree_of-agree f g cell Variable agree below = refl
tree_of-agree f g cell (Application symbol args) agree below = ap (λ ts. app symbol (as_terms ts)) (map_agree f g cell args agree below)

pub points_below : (cell : ℕ) (es : List Entry) → PointDown cell es → (i : ℕ) (e : Entry) → slice_get es i ≡ Some e → PointsBelow (cell + i) e
points_below cell [] down i e is = absurd cc
points_below cell (e' ∷ es) down zero e is =
    let same : e' ≡ e = cc in
    subst (λ (n : ℕ). PointsBelow n e) (sym (add-zero cell)) (subst (λ (x : Entry). PointsBelow cell x) same down.0)
points_below cell (e' ∷ es) down (suc i) e is =
    let next : suc cell + i ≡ cell + suc i = omega arith in
    subst (λ (n : ℕ). PointsBelow n e) next (points_below (suc cell) es down.1 i e is)

-- the tree of a row is that of its entry over all the trees
tree-entry_from : (before : List Term) (es : List Entry) → PointDown (length before) es → (i : ℕ) (e : Entry) → slice_get es i ≡ Some e
    → tree_at (trees_from before es) (length before + i) ≡ tree_of (tree_at (trees_from before es)) (length before + i) e
tree-entry_from before [] down i e is = absurd cc
tree-entry_from before (e' ∷ es) down zero e is =
    let same : e' ≡ e = cc in
    let new : Term = tree_of (tree_at before) (length before) e' in
    let all : ℕ → Term = tree_at (trees_from (before ++ new ∷ []) es) in
    let stays : all (length before) ≡ new =
    trees_from-kept (before ++ new ∷ []) es (length before) (omega (arith, length_push before new)) ∙ get_or_push before new (var 0) (length before) refl in
    let over : new ≡ tree_of all (length before) e' =
    tree_of-agree (tree_at before) all (length before) e' (λ c lt. sym (trees_from-kept before (e' ∷ es) c lt)) down.0 in
    subst (λ (n : ℕ). all n ≡ tree_of all n e) (sym (add-zero (length before)))
    (subst (λ (x : Entry). all (length before) ≡ tree_of all (length before) x) same (stays ∙ over))
tree-entry_from before (e' ∷ es) down (suc i) e is =
    let new : Term = tree_of (tree_at before) (length before) e' in
    let all : ℕ → Term = tree_at (trees_from (before ++ new ∷ []) es) in
    let longer : suc (length before) ≡ length (before ++ new ∷ []) = omega (arith, length_push before new) in
    let next : length (before ++ new ∷ []) + i ≡ length before + suc i = omega (arith, length_push before new) in
    subst (λ (n : ℕ). all n ≡ tree_of all n e) next
    (tree-entry_from (before ++ new ∷ []) es (subst (λ (n : ℕ). PointDown n es) longer down.1) i e is)

pub tree-entry : (cells : List Entry) → PointDown 0 cells → (c : ℕ) (e : Entry) → slice_get cells c ≡ Some e
    → tree_under cells [] c ≡ tree_of (tree_under cells []) c e
tree-entry cells down c e is =
    let all : ℕ → Term = tree_at (trees_from [] cells) in
    let start : 0 + c ≡ c = omega arith in
    subst (λ (n : ℕ). all n ≡ tree_of all n e) start (tree-entry_from [] cells down c e is)

tree-application : (cells : List Entry) (bs : List Binding) → PointDown 0 cells → (c symbol : ℕ) (args : List ℕ) → slice_get cells c ≡ Some (Application symbol args)
    → tree_under cells bs c ≡ app symbol (as_terms (map (tree_under cells bs) args))
tree-application cells [] down c symbol args is = tree-entry cells down c (Application symbol args) is
tree-application cells (b ∷ bs) down c symbol args is =
    ap (put_at b.variable (tree_under cells bs b.target)) (tree-application cells bs down c symbol args is)
    ∙ ap (app symbol) (put_at_among-as_terms b.variable (tree_under cells bs b.target) (tree_under cells bs) args)

-- a variable that isn't the first bound one
pub unbound_in_tail : (b : Binding) (bs : List Binding) (v : ℕ) → target_of (b ∷ bs) v ≡ None → (b.variable ≡ v → ⊥) × (target_of bs v ≡ None)
unbound_in_tail b bs v unbound =
    elim (cases_eq b.variable v) [
      | inl e ↦ absurd (bound (sym (if_same b.variable v (Some b.target) (target_of bs v) e) ∙ unbound))
      | inr ne ↦ (ne, sym (if_other b.variable v (Some b.target) (target_of bs v) ne) ∙ unbound)
    ]
  where
    bound : Some b.target ≡ None → ⊥
    bound e = cc

-- a free variable stands for itself
tree-free : (cells : List Entry) (bs : List Binding) → PointDown 0 cells → (v : ℕ) → slice_get cells v ≡ Some Variable → target_of bs v ≡ None
    → tree_under cells bs v ≡ var v
tree-free cells [] down v is unbound = tree-entry cells down v Variable is
tree-free cells (b ∷ bs) down v is unbound =
    let parts = unbound_in_tail b bs v unbound in
    ap (put_at b.variable (tree_under cells bs b.target)) (tree-free cells bs down v is parts.1)
    ∙ if_other v b.variable (tree_under cells bs b.target) (var v) (λ e. parts.0 (sym e))

pub free_variables_stand : FreeVariablesStand
free_variables_stand s v sound free = tree-free s.cells s.bindings sound.down v free.variable free.unbound

-- the two trees of each binding are equal
abbrev AreEqual : (ℕ → Term) → Binding → Type 0
AreEqual trees b = trees b.variable ≡ trees b.target

tree-bindings : (cells : List Entry) (bs : List Binding) → PointDown 0 cells → AreMade cells bs → All (AreEqual (tree_under cells bs)) bs
tree-bindings cells [] down made = All-nil (AreEqual (tree_under cells []))
tree-bindings cells (b ∷ bs) down made =
    let t : Term = tree_under cells bs b.target in
    let first : put_at b.variable t (tree_under cells bs b.variable) ≡ put_at b.variable t t =
    ap (put_at b.variable t) (tree-free cells bs down b.variable made.0.free.variable made.0.free.unbound)
    ∙ put_at-var b.variable t ∙ sym (put_at-absent b.variable t t made.0.apart) in
    All-cons (AreEqual (tree_under cells (b ∷ bs))) b bs first
    (All-weaker (AreEqual (tree_under cells bs)) (AreEqual (tree_under cells (b ∷ bs))) (λ x same. ap (put_at b.variable t) same) bs (tree-bindings cells bs down made.1))

pub trees_solve : TreesSolve
trees_solve s sound = record {
  applications = tree-application s.cells s.bindings sound.down;
  bindings = tree-bindings s.cells s.bindings sound.down sound.made;
}

-- the tree in a solution is an instance of the cell's, if those of the cells before it are
instance_at : (solution tree : ℕ → Term) (c : ℕ) (e : Entry) → PointsBelow c e → ((a : ℕ) → a < c → solution a ≡ fill solution (tree a))
    → ((symbol : ℕ) (args : List ℕ) → e ≡ Application symbol args → solution c ≡ app symbol (as_terms (map solution args)))
    → solution c ≡ fill solution (tree_of tree c e)
instance_at solution tree c Variable below earlier solves = refl
instance_at solution tree c (Application symbol args) below earlier solves =
    solves symbol args refl
    ∙ ap (λ ts. app symbol (as_terms ts)) (map_agree solution (λ a. fill solution (tree a)) c args earlier below)
    ∙ ap (app symbol) (sym (fill_among-as_terms solution tree args))

instances_below : (cells : List Entry) (solution : ℕ → Term) → PointDown 0 cells
    → ((cell symbol : ℕ) (args : List ℕ) → slice_get cells cell ≡ Some (Application symbol args) → solution cell ≡ app symbol (as_terms (map solution args)))
    → (n : ℕ) (c : ℕ) → c < n → c < length cells → solution c ≡ fill solution (tree_under cells [] c)
instances_below cells solution down solves zero c below within = absurd (omega arith)
instances_below cells solution down solves (suc n) c below within =
    let e : Entry = get_or cells c Variable in
    let is : slice_get cells c ≡ Some e = slice_get-get_or cells c Variable within in
    let start : 0 + c ≡ c = omega arith in
    let points : PointsBelow c e = subst (λ (k : ℕ). PointsBelow k e) start (points_below 0 cells down c e is) in
    instance_at solution (tree_under cells []) c e points
    (λ a lt. instances_below cells solution down solves n a (omega arith) (omega arith))
    (λ symbol args same. solves c symbol args (is ∙ ap Some same))
    ∙ ap (fill solution) (sym (tree-entry cells down c e is))

instances : (cells : List Entry) (bs : List Binding) (solution : ℕ → Term) → PointDown 0 cells → AreMade cells bs
    → ((cell symbol : ℕ) (args : List ℕ) → slice_get cells cell ≡ Some (Application symbol args) → solution cell ≡ app symbol (as_terms (map solution args)))
    → All (AreEqual solution) bs
    → (c : ℕ) → c < length cells → solution c ≡ fill solution (tree_under cells bs c)
instances cells [] solution down made solves same c within = instances_below cells solution down solves (suc c) c (omega arith) within
instances cells (b ∷ bs) solution down made solves same c within =
    let rest : All (AreEqual solution) bs = All-tail (AreEqual solution) b bs same in
    let first : solution b.variable ≡ fill solution (tree_under cells bs b.target) =
    All-head (AreEqual solution) b bs same ∙ instances cells bs solution down made.1 solves rest b.target made.0.within in
    instances cells bs solution down made.1 solves rest c within
    ∙ sym (fill-put_at solution b.variable (tree_under cells bs b.target) (tree_under cells bs c) first)

pub trees_are_general : TreesAreGeneral
trees_are_general s solution sound solves c within =
    instances s.cells s.bindings solution sound.down sound.made solves.applications solves.bindings c within
