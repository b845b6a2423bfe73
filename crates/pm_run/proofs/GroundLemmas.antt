-- The cells of ground terms.
use Rattle.std.proofs.Common.{◌≡◌, ℕ, zero, suc, ◌+◌, ◌<◌, ◌≤◌, ◌&&◌, inl, inr, Bool, true, false, List, [], ◌∷◌, ◌++◌, take, get_or, length, map, Option, Some, None, slice_get, refl, sym, ◌∙◌, ap, ap₂, subst, arith}
use Rattle.std.specs.List.{list_all}
use Rattle.std.specs.Option.{option_map}
use Rattle.std.proofs.lemmas.List.{take_more, take_all, length_push}
use Rattle.std.proofs.lemmas.List.Elements.{All-nil, All-cons}
use Rattle.std.proofs.lemmas.Option.{slice_get-get_or}
use Rattle.pm_logic.specs.Term.{Term, var, app, as_terms, tree_at}
use Rattle.pm_store.specs.Entries.{Application}
use Rattle.pm_store.specs.Equations.{Equations, with_cell}
use Rattle.pm_store.specs.Solutions.{Solves, Narrows}
use Rattle.pm_store.specs.Marks.{IsLater}
use Rattle.pm_store.proofs.ListLemmas.{slice_get-push}
use Rattle.pm_store.proofs.SolutionLemmas.{later_solutions}
use Rattle.pm_compile.specs.Scheme.{is_ground}
use Rattle.pm_compile.proofs.GroundLemmas.{are_ground-each}
use Rattle.pm_run.specs.Meaning.{IsCellOf}
use Rattle.pm_run.specs.InStore.{AreBelow}
use Rattle.pm_run.specs.Runner.{HasGroundCells}
use Rattle.pm_run.specs.Laws.{GroundCellsLast}
use Rattle.pm_run.specs.Inside.Ground.{IsGroundCell, AreGroundCells, AreCellsOf, AreArgCells}
use Rattle.pm_run.proofs.StoreLemmas.{later_is_longer}

pub cell_later : (s new : Equations) (t : Term) (c : ℕ) → IsLater s new → IsCellOf s t c → IsCellOf new t c
cell_later s new t c later cell = record {
  within = farther c (length s.cells) (length new.cells) cell.within (later_is_longer s new later);
  tree = λ trees solves. cell.tree trees (later_solutions s new trees later solves);
}
  where
    farther : (c n k : ℕ) → c < n → n ≤ k → c < k
    farther c n k lt le = omega arith

pub ground_cells_last : GroundCellsLast
ground_cells_last s new terms cells later has row lt ground =
    let its = has row lt ground in
    (its.0, its.1, cell_later s new (tree_at terms row) its.0 later its.2)

option_later : (s new : Equations) (t : Term) (cell : Option ℕ) → IsLater s new → IsGroundCell s t cell → IsGroundCell new t cell
option_later s new t (Some c) later is = cell_later s new t c later is
option_later s new t None later is = is

cells_later : (s new : Equations) (terms : List Term) (cells : List (Option ℕ)) → IsLater s new → AreGroundCells terms cells s → AreGroundCells terms cells new
cells_later s new terms cells later are row cell stands = option_later s new (tree_at terms row) cell later (are row cell stands)

-- arguments that have cells so far, and one more
pub cells_of-push : (terms : List Term) (s : Equations) (rows cs : List ℕ) (row c : ℕ) → AreCellsOf terms s rows cs → IsCellOf s (tree_at terms row) c
    → AreCellsOf terms s (rows ++ row ∷ []) (cs ++ c ∷ [])
cells_of-push terms s [] [] row c are is = (is, tt)
cells_of-push terms s [] (d ∷ cs) row c are is = absurd are
cells_of-push terms s (r ∷ rows) [] row c are is = absurd are
cells_of-push terms s (r ∷ rows) (d ∷ cs) row c are is = (are.0, cells_of-push terms s rows cs row c are.1 is)

pub next_arg : (terms : List Term) (cells : List (Option ℕ)) (s : Equations) (args found now : List ℕ) (i row place c : ℕ) (cell : Option ℕ)
    → AreGroundCells terms cells s → i < length args → row ≡ get_or args i row → place ≡ row → slice_get cells place ≡ Some cell → cell ≡ Some c
    → AreCellsOf terms s (take i args) found → now ≡ found ++ c ∷ [] → AreCellsOf terms s (take (i + 1) args) now
next_arg terms cells s args found now i row place c cell ground within read placed at is are grown =
    let stands : slice_get cells row ≡ Some (Some c) = ap (slice_get cells) (sym placed) ∙ at ∙ ap Some is in
    let longer : take (i + 1) args ≡ take i args ++ row ∷ [] = take_more args i row within ∙ ap (λ x. take i args ++ x ∷ []) (sym read) in
    subst (λ (cs : List ℕ). AreCellsOf terms s (take (i + 1) args) cs) (sym grown)
    (subst (λ (rows : List ℕ). AreCellsOf terms s rows (found ++ c ∷ [])) (sym longer)
    (cells_of-push terms s (take i args) found row c are (ground row (Some c) stands)))

and_false : (b : Bool) → (b && false) ≡ false
and_false true = refl
and_false false = refl

not_all : (test : ℕ → Bool) (xs : List ℕ) (i x : ℕ) → i < length xs → x ≡ get_or xs i x → test x ≡ false → list_all test xs ≡ false
not_all test [] i x within read fails = absurd (omega (arith, within))
not_all test (y ∷ xs) zero x within read fails = ap (λ b. b && list_all test xs) (ap test (sym read) ∙ fails)
not_all test (y ∷ xs) (suc i) x within read fails =
    ap (λ b. test y && b) (not_all test xs i x (omega (arith, within)) read fails) ∙ and_false (test y)

pub arg_without : (terms : List Term) (cells : List (Option ℕ)) (s : Equations) (args : List ℕ) (i row place : ℕ) (cell : Option ℕ)
    → AreGroundCells terms cells s → i < length args → row ≡ get_or args i row → place ≡ row → slice_get cells place ≡ Some cell → cell ≡ None
    → AreArgCells terms s args None
arg_without terms cells s args i row place cell ground within read placed at is =
    not_all (λ r. is_ground (tree_at terms r)) args i row within read
    (ground row None (ap (slice_get cells) (sym placed) ∙ at ∙ ap Some is))

pub all_args : (terms : List Term) (s : Equations) (args found : List ℕ) (i : ℕ) → length args ≤ i → AreCellsOf terms s (take i args) found
    → AreCellsOf terms s args found
all_args terms s args found i beyond are = subst (λ (rows : List ℕ). AreCellsOf terms s rows found) (take_all i args beyond) are

pub cells_within : (terms : List Term) (s : Equations) (rows cs : List ℕ) → AreCellsOf terms s rows cs → AreBelow (length s.cells) cs
cells_within terms s [] [] are = All-nil (λ c. c < length s.cells)
cells_within terms s [] (c ∷ cs) are = absurd are
cells_within terms s (row ∷ rows) [] are = absurd are
cells_within terms s (row ∷ rows) (c ∷ cs) are = All-cons (λ c. c < length s.cells) c cs are.0.within (cells_within terms s rows cs are.1)

cells_trees : (terms : List Term) (s : Equations) (rows cs : List ℕ) (trees : ℕ → Term) → AreCellsOf terms s rows cs → Solves s trees
    → map trees cs ≡ map (tree_at terms) rows
cells_trees terms s [] [] trees are solves = refl
cells_trees terms s [] (c ∷ cs) trees are solves = absurd are
cells_trees terms s (row ∷ rows) [] trees are solves = absurd are
cells_trees terms s (row ∷ rows) (c ∷ cs) trees are solves = ap₂ (λ t ts. t ∷ ts) (are.0.tree trees solves) (cells_trees terms s rows cs trees are.1 solves)

-- a variable has no cell
pub variable_without : (t : Term) (n : ℕ) (s : Equations) → t ≡ var n → IsGroundCell s t None
variable_without t n s is = ap is_ground is

-- an application over arguments that have cells
-- what was found is all cells, or none
pub found_cells : {A : Type 0} (items : A → List ℕ) (terms : List Term) (s : Equations) (args : List ℕ) (found : Option A) (cells : A)
    → AreArgCells terms s args (option_map items found) → found ≡ Some cells → AreCellsOf terms s args (items cells)
found_cells items terms s args found cells are is = subst (λ o. AreArgCells terms s args (option_map items o)) is are

pub found_none : {A : Type 0} (items : A → List ℕ) (terms : List Term) (s : Equations) (args : List ℕ) (found : Option A)
    → AreArgCells terms s args (option_map items found) → found ≡ None → AreArgCells terms s args None
found_none items terms s args found are is = subst (λ o. AreArgCells terms s args (option_map items o)) is are

pub application_made : (terms : List Term) (s new : Equations) (row symbol c : ℕ) (args cs : List ℕ)
    → tree_at terms row ≡ app symbol (as_terms (map (tree_at terms) args)) → AreCellsOf terms s args cs → c ≡ length s.cells
    → new ≡ with_cell s (Application symbol cs)
    → Narrows s new (λ trees. trees c ≡ app symbol (as_terms (map trees cs))) → IsGroundCell new (tree_at terms row) (Some c)
application_made terms s new row symbol c args cs is are place same solutions = record {
  within = omega (arith, place, ap (λ (e : Equations). length e.cells) same, length_push s.cells (Application symbol cs));
  tree = λ trees solves.
      let parts = (solutions trees).0 solves in
      parts.1 ∙ ap (λ (ts : List Term). app symbol (as_terms ts)) (cells_trees terms s args cs trees are parts.0) ∙ sym is;
}

-- an application one of whose arguments isn't ground
pub application_without : (terms : List Term) (s : Equations) (row symbol : ℕ) (args : List ℕ)
    → tree_at terms row ≡ app symbol (as_terms (map (tree_at terms) args)) → AreArgCells terms s args None → IsGroundCell s (tree_at terms row) None
application_without terms s row symbol args is without = ap is_ground is ∙ are_ground-each terms args ∙ without

-- the next row
pub cells_more : (terms : List Term) (s new : Equations) (old now : List (Option ℕ)) (row : ℕ) (cell : Option ℕ) → IsLater s new
    → AreGroundCells terms old s → row ≡ length old → IsGroundCell new (tree_at terms row) cell → now ≡ old ++ cell ∷ [] → AreGroundCells terms now new
cells_more terms s new old now row cell later are counted is grown r c stands =
    elim (slice_get-push old cell r c (ap (λ (cs : List (Option ℕ)). slice_get cs r) (sym grown) ∙ stands)) [
      | inl before ↦ cells_later s new terms old later are r c before
      | inr (last, same) ↦
          subst (λ o. IsGroundCell new (tree_at terms r) o) same
          (subst (λ (k : ℕ). IsGroundCell new (tree_at terms k) cell) (counted ∙ sym last) is)
    ]

not_both : (b : Bool) → b ≡ true → b ≡ false → ⊥
not_both b closed_term open_term = cc

-- the rows are all done
pub cells_done : (terms : List Term) (s : Equations) (cells : List (Option ℕ)) (n : ℕ) → length cells ≡ n → length terms ≤ n → AreGroundCells terms cells s
    → HasGroundCells terms cells s
cells_done terms s cells n counted beyond are row lt ground =
    let inside : row < length cells = omega (arith, counted, beyond, lt) in
    its (get_or cells row None) (slice_get-get_or cells row None inside)
  where
    its : (cell : Option ℕ) → slice_get cells row ≡ Some cell → (c : ℕ) × (slice_get cells row ≡ Some (Some c)) × IsCellOf s (tree_at terms row) c
    its (Some c) stands = (c, stands, are row (Some c) stands)
    its None stands = absurd (not_both (is_ground (tree_at terms row)) ground (are row None stands))
