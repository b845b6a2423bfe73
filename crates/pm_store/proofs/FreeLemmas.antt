-- The variables in the trees of cells are free, and their trees take their place when a store grows.
use Rattle.std.proofs.Common.{◌≡◌, ℕ, zero, suc, ◌+◌, ◌<◌, ◌⊎◌, inl, inr, List, [], ◌∷◌, length, map, get_or, Some, None, slice_get, refl, sym, ◌∙◌, subst, arith}
use Rattle.std.specs.Prelude.{All}
use Rattle.std.proofs.lemmas.Bool.{cases_eq}
use Rattle.std.proofs.lemmas.List.Elements.{All-head, All-tail}
use Rattle.std.proofs.lemmas.Option.{slice_get-get_or}
use Rattle.pm_logic.specs.Term.{Term, var, app, Terms, no_terms, more_terms, as_terms}
use Rattle.pm_store.specs.Entries.{Entry, Variable, Application}
use Rattle.pm_store.specs.Equations.{Binding, target_of}
use Rattle.pm_store.specs.Trees.{put_at, put_at_among, tree_of, tree_under, tree, Occurs, OccursAmong}
use Rattle.pm_store.specs.Sound.{PointsBelow, PointDown, AreMade}
use Rattle.pm_store.specs.Laws.{TreesAreOfFreeVariables, LaterTrees}
use Rattle.pm_store.proofs.ListLemmas.{if_same, if_other}
use Rattle.pm_store.proofs.TreeLemmas.{points_below, tree-entry, trees_solve, trees_are_general}
use Rattle.pm_store.proofs.SolutionLemmas.{later_solutions}

pub later_trees : LaterTrees
later_trees before after sound sound' later c within =
    trees_are_general before (tree after) sound (later_solutions before after (tree after) later (trees_solve after sound')) c within

-- a variable of a term with another in the place of a variable is of the one, or of the other and not replaced
mutual
  Occurs-put_at : (w : ℕ) (t : Term) (v : ℕ) (u : Term) → Occurs v (put_at w t u) → Occurs v t ⊎ (Occurs v u × (v ≡ w → ⊥))
  Occurs-put_at w t v (var n) occurs =
      elim (cases_eq n w) [
        | inl e ↦ inl (subst (λ (x : Term). Occurs v x) (if_same n w t (var n) e) occurs)
        | inr ne ↦
            let here : v ≡ n = subst (λ (x : Term). Occurs v x) (if_other n w t (var n) ne) occurs in
            inr (here, λ same. ne (sym here ∙ same))
      ]
  Occurs-put_at w t v (app symbol us) occurs = OccursAmong-put_at w t v us occurs

  OccursAmong-put_at : (w : ℕ) (t : Term) (v : ℕ) (us : Terms) → OccursAmong v (put_at_among w t us) → Occurs v t ⊎ (OccursAmong v us × (v ≡ w → ⊥))
  OccursAmong-put_at w t v no_terms occurs = absurd occurs
  OccursAmong-put_at w t v (more_terms u us) (inl here) =
      elim (Occurs-put_at w t v u here) [ inl of_t ↦ inl of_t | inr of_u ↦ inr (inl of_u.0, of_u.1) ]
  OccursAmong-put_at w t v (more_terms u us) (inr later) =
      elim (OccursAmong-put_at w t v us later) [ inl of_t ↦ inl of_t | inr of_us ↦ inr (inr of_us.0, of_us.1) ]

-- what occurs among trees occurs in one of them
among_cells : (P : Type 0) (v cell : ℕ) (trees : ℕ → Term) (cs : List ℕ) → All (λ c. c < cell) cs → OccursAmong v (as_terms (map trees cs))
    → ((c : ℕ) → c < cell → Occurs v (trees c) → P) → P
among_cells P v cell trees [] below occurs found = absurd occurs
among_cells P v cell trees (c ∷ cs) below (inl here) found = found c (All-head (λ n. n < cell) c cs below) here
among_cells P v cell trees (c ∷ cs) below (inr later) found = among_cells P v cell trees cs (All-tail (λ n. n < cell) c cs below) later found

-- without bindings, by the cells before
entry_variables : (cells : List Entry) (trees : ℕ → Term) (cell : ℕ) (e : Entry) (v : ℕ) → slice_get cells cell ≡ Some e → PointsBelow cell e
    → ((c : ℕ) → c < cell → Occurs v (trees c) → slice_get cells v ≡ Some Variable) → Occurs v (tree_of trees cell e) → slice_get cells v ≡ Some Variable
entry_variables cells trees cell Variable v is below earlier occurs = subst (λ (n : ℕ). slice_get cells n ≡ Some Variable) (sym occurs) is
entry_variables cells trees cell (Application symbol args) v is below earlier occurs =
    among_cells (slice_get cells v ≡ Some Variable) v cell trees args below occurs earlier

variables_below : (cells : List Entry) → PointDown 0 cells → (n c v : ℕ) → c < n → c < length cells → Occurs v (tree_under cells [] c) → slice_get cells v ≡ Some Variable
variables_below cells down zero c v below within occurs = absurd (omega arith)
variables_below cells down (suc n) c v below within occurs =
    let e : Entry = get_or cells c Variable in
    let is : slice_get cells c ≡ Some e = slice_get-get_or cells c Variable within in
    let start : 0 + c ≡ c = omega arith in
    let points : PointsBelow c e = subst (λ (k : ℕ). PointsBelow k e) start (points_below 0 cells down c e is) in
    entry_variables cells (tree_under cells []) c e v is points
    (λ d lt. variables_below cells down n d v (omega arith) (omega arith))
    (subst (λ (u : Term). Occurs v u) (tree-entry cells down c e is) occurs)

free_under : (cells : List Entry) (bs : List Binding) → PointDown 0 cells → AreMade cells bs → (c v : ℕ) → c < length cells → Occurs v (tree_under cells bs c)
    → (slice_get cells v ≡ Some Variable) × (target_of bs v ≡ None)
free_under cells [] down made c v within occurs = (variables_below cells down (suc c) c v (omega arith) within occurs, refl)
free_under cells (b ∷ bs) down made c v within occurs =
    let unbound : (b.variable ≡ v → ⊥) → target_of bs v ≡ None → target_of (b ∷ bs) v ≡ None =
    λ ne free. if_other b.variable v (Some b.target) (target_of bs v) ne ∙ free in
    elim (Occurs-put_at b.variable (tree_under cells bs b.target) v (tree_under cells bs c) occurs) [
      | inl of_target ↦
          let free = free_under cells bs down made.1 b.target v made.0.within of_target in
          (free.0, unbound (λ same. made.0.apart (subst (λ (n : ℕ). Occurs n (tree_under cells bs b.target)) (sym same) of_target)) free.1)
      | inr of_cell ↦
          let free = free_under cells bs down made.1 c v within of_cell.0 in
          (free.0, unbound (λ same. of_cell.1 (sym same)) free.1)
    ]

pub trees_are_of_free_variables : TreesAreOfFreeVariables
trees_are_of_free_variables s c v sound within occurs =
    let free = free_under s.cells s.bindings sound.down sound.made c v within occurs in
    record { variable = free.0; unbound = free.1 }
