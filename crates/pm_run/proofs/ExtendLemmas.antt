-- Solutions of a store that go on to new cells.
use Rattle.std.proofs.Common.{◌≡◌, ℕ, suc, ◌+◌, ◌-◌, if◌then◌else◌, List, [], ◌∷◌, ◌++◌, length, map, get_or, Option, Some, slice_get, refl, sym, ◌∙◌, ap, ap₂, arith, add-zero}
use Rattle.std.specs.Prelude.{All}
use Rattle.std.specs.List.{range_with_len}
use Rattle.std.proofs.lemmas.Bool.{lt-ltb, le-ltb}
use Rattle.std.proofs.lemmas.List.Elements.{All-head, All-tail}
use Rattle.std.proofs.lemmas.Option.{get_or_from_slice_get}
use Rattle.pm_logic.specs.Term.{Term, var}
use Rattle.pm_logic.specs.Problem.{Literal}
use Rattle.pm_store.specs.Solutions.{Solves, with_trees}
use Rattle.pm_store.proofs.ListLemmas.{map_agree, slice_get-append}
use Rattle.pm_store.proofs.SolutionLemmas.{solves_agree}
use Rattle.pm_run.specs.State.{CellLiteral, Child, RunState, TreeChild, TreeState, literal_under, child_under, state_under}
use Rattle.pm_run.specs.Meaning.{IsSetTo}
use Rattle.pm_run.specs.InStore.{HasArgsBelow, HasCellsBelow, IsInStore, Stands, AgreeBelow}

-- the trees below a cell, and from there on these
abbrev pub extended : (ℕ → Term) → ℕ → List Term → ℕ → Term
extended trees first ts = with_trees trees first (λ c. get_or ts (c - first) (var 0))

pub extended_below : (trees : ℕ → Term) (first : ℕ) (ts : List Term) → AgreeBelow first trees (extended trees first ts)
extended_below trees first ts c lt = ap (λ b. if b then trees c else get_or ts (c - first) (var 0)) (lt-ltb c first lt)

pub extended_at : (trees : ℕ → Term) (first : ℕ) (ts : List Term) (i : ℕ) (t : Term) → slice_get ts i ≡ Some t → extended trees first ts (first + i) ≡ t
extended_at trees first ts i t is =
    let place : first + i - first ≡ i = omega arith in
    ap (λ b. if b then trees (first + i) else get_or ts (first + i - first) (var 0)) (le-ltb (first + i) first (omega arith))
    ∙ ap (λ k. get_or ts k (var 0)) place ∙ get_or_from_slice_get ts i t (var 0) is

-- a function that has these values from a number on
pub map_range : (f : ℕ → Term) (ts : List Term) (from : ℕ) → ((i : ℕ) (t : Term) → slice_get ts i ≡ Some t → f (from + i) ≡ t)
    → map f (range_with_len from (length ts)) ≡ ts
map_range f [] from values = refl
map_range f (t ∷ ts) from values =
    ap₂ (λ u us. u ∷ us) (ap f (sym (add-zero from)) ∙ values 0 t refl)
    (map_range f ts (from + 1) (λ i u is. ap f (one_more from i) ∙ values (suc i) u is))
  where
    one_more : (from i : ℕ) → from + 1 + i ≡ from + suc i
    one_more from i = omega arith

pub extended_range : (trees : ℕ → Term) (first : ℕ) (ts more : List Term)
    → map (extended trees first (ts ++ more)) (range_with_len first (length ts)) ≡ ts
extended_range trees first ts more =
    map_range (extended trees first (ts ++ more)) ts first
    (λ i t is. extended_at trees first (ts ++ more) i t (slice_get-append ts more i t is))

map_alike : {A B : Type 0} (f g : A → B) (P : A → Type 0) → ((x : A) → P x → f x ≡ g x) → (xs : List A) → All P xs → map f xs ≡ map g xs
map_alike f g P alike [] all = refl
map_alike f g P alike (x ∷ xs) all = ap₂ (λ y ys. y ∷ ys) (alike x (All-head P x xs all)) (map_alike f g P alike xs (All-tail P x xs all))

abbrev tree_state : Option ℕ → List Term → List TreeChild → List Literal → TreeState
tree_state closed_by stack children branch = record { stack = stack; children = children; branch = branch; closed_by = closed_by }

module _ (n : ℕ) (trees others : ℕ → Term) (agree : AgreeBelow n trees others) where
  literal_alike : (l : CellLiteral) → HasArgsBelow n l → literal_under others l ≡ literal_under trees l
  literal_alike l below =
      ap (λ (ts : List Term). let k : Literal = record { positive = l.positive; predicate = l.predicate; args = ts } in k)
      (map_agree others trees n l.args agree below)

  child_alike : (c : Child) → HasArgsBelow n c.literal → child_under others c ≡ child_under trees c
  child_alike c below =
      ap (λ (l : Literal). let d : TreeChild = record { literal = l; closed = c.closed } in d) (literal_alike c.literal below)

  -- trees that agree on a state's cells show it alike
  pub state_alike : (m : RunState) → HasCellsBelow n m → state_under others m ≡ state_under trees m
  state_alike m cells =
      let stack = map_agree others trees n m.stack agree cells.stack in
      let children = map_alike (child_under others) (child_under trees) (λ c. HasArgsBelow n c.literal) child_alike m.children cells.children in
      let branch = map_alike (literal_under others) (literal_under trees) (HasArgsBelow n) literal_alike m.branch cells.branch in
      ap (λ ts. tree_state m.closed_by ts (map (child_under others) m.children) (map (literal_under others) m.branch)) stack
      ∙ ap₂ (λ cs bs. tree_state m.closed_by (map trees m.stack) cs bs) children branch

module _ (variables trees : ℕ → Term) (m : RunState) (is : IsInStore m) (stands : Stands variables trees m) (ts : List Term) where
  pub extended_solves : Solves m.equations (extended trees (length m.equations.cells) ts)
  extended_solves =
      solves_agree m.equations trees (extended trees (length m.equations.cells) ts) is.sound
      (λ c lt. sym (extended_below trees (length m.equations.cells) ts c lt)) stands.solves

  pub extended_agrees : (x c : ℕ) → IsSetTo m x c → extended trees (length m.equations.cells) ts c ≡ variables x
  extended_agrees x c is_set = extended_below trees (length m.equations.cells) ts c (is.locals x c is_set) ∙ stands.agrees x c is_set

  pub extended_state : state_under (extended trees (length m.equations.cells) ts) m ≡ state_under trees m
  extended_state = state_alike (length m.equations.cells) trees (extended trees (length m.equations.cells) ts) (extended_below trees (length m.equations.cells) ts) m is.cells
