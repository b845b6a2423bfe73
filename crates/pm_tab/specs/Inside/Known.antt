-- The literals without variables that have got their numbers.
use Rattle.std.specs.Prelude.{◌≡◌, ℕ, ◌+◌, ◌<◌, ◌⊎◌, Bool, List, [], ◌∷◌, ◌++◌, All, Contains, Some, length, map, slice_get}
use Rattle.pm_logic.specs.Lists.{AreDistinct}
use Rattle.pm_logic.specs.Term.{Term, tree_at}
use Rattle.pm_logic.specs.Problem.{Literal}
use Rattle.pm_compile.specs.Scheme.{is_ground}
use Rattle.pm_tab.specs.declared.numbers.GroundLiteral.{GroundLiteral}
use Rattle.pm_tab.specs.Inside.Numbering.{IsGround, IsFirstAt}

-- the literal that is kept by its rows
abbrev pub literal_kept : List Term → GroundLiteral → Literal
literal_kept terms key = record {
  positive = key.positive;
  predicate = key.predicate;
  args = map (tree_at terms) key.args.items;
}

-- the same literal by the same rows
pub record IsSame (one other : GroundLiteral) : Type 0 where
  pub positive : one.positive ≡ other.positive
  pub predicate : one.predicate ≡ other.predicate
  pub args : one.args.items ≡ other.args.items

-- a literal that is kept, with its number
abbrev pub Entry : Type 0
Entry = GroundLiteral × ℕ

-- the literal is kept with this number
pub record IsOld (old new : List Entry) (key : GroundLiteral) (number : ℕ) : Type 0 where
  pub known : Entry
  pub stands : Contains old known
  pub same : IsSame key known.0
  pub is : number ≡ known.1
  pub unchanged : new ≡ old

-- the literal was not kept, and is now with the number of this place
pub record IsNew (old new : List Entry) (key : GroundLiteral) (place number : ℕ) : Type 0 where
  pub absent : (known : Entry) → Contains old known → ¬ IsSame key known.0
  pub is : number ≡ place
  pub grown : new ≡ old ++ (key, place) ∷ []

-- the literal's number, which is that of the place where it is new
abbrev pub Keeps : List Entry → List Entry → GroundLiteral → ℕ → ℕ → Type 0
Keeps old new key place number = IsOld old new key number ⊎ IsNew old new key place number

-- what is kept has the number of the place where it stands first
pub record IsKeptOf (terms : List Term) (all : List Literal) (entry : Entry) : Type 0 where
  pub rows : All (λ row. row < length terms) entry.0.args.items
  pub counted : 0 < entry.1
  pub first : IsFirstAt all (literal_kept terms entry.0) entry.1

-- of so many of the literals those without variables are kept
pub record Knows (terms : List Term) (all : List Literal) (count : ℕ) (entries : List Entry)
    : Type 0 where
  pub kept : (entry : Entry) → Contains entries entry → IsKeptOf terms all entry
  pub each :
      (k : ℕ) (literal : Literal) → k < count → slice_get all k ≡ Some literal → IsGround literal
      → (entry : Entry) × Contains entries entry × (literal_kept terms entry.0 ≡ literal)

-- the literals stand among all, the first of them after so many
abbrev pub StandAfter : List Literal → ℕ → List Literal → Type 0
StandAfter all count literals =
    (k : ℕ) → k < length literals → slice_get all (count + k) ≡ slice_get literals k

-- terms that differ, and which of them are without variables
pub record TellsGround (terms : List Term) (ground : List Bool) : Type 0 where
  pub distinct : AreDistinct terms
  pub is : ground ≡ map is_ground terms
