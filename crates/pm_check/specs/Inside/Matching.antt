-- Matching terms of one table with those of another.
use Rattle.std.specs.Prelude.{◌≡◌, ◌≢◌, ℕ, ◌<◌, ◌⊎◌, List, [], ◌∷◌, ◌++◌, All, Contains, Some, length, map, slice_get}
use Rattle.std.specs.List.{AllZip}
use Rattle.pm_logic.specs.Term.{Term, var, app, as_terms, tree_at}
use Rattle.pm_logic.specs.Filling.{put}
use Rattle.pm_logic.specs.Problem.{Symbol, IsTermOver}
use Rattle.pm_logic.specs.declared.problem.Literal.{Literal}
use Rattle.pm_logic.specs.View.{literal_of}
use Rattle.pm_calculus.specs.Substitution.{put_in_literal}
use Rattle.pm_check.specs.declared.images.Match.{Match}
use Rattle.pm_check.specs.Inside.Images.{sent, AreSingle}

-- the terms, put for variables, give each row's image
abbrev pub Give : List Term → List Term → List Term → List Match → Type 0
Give source target terms matches =
    All (λ m. put terms (tree_at source m.row) ≡ tree_at target m.image) matches

-- both rows are there
abbrev pub AreThere : ℕ → ℕ → List Match → Type 0
AreThere sources targets matches = All (λ m. (m.row < sources) × (m.image < targets)) matches

-- the row has an image that is this tree
abbrev pub HasImage : List Term → List Match → ℕ → Term → Type 0
HasImage target matches row tree =
    (image : ℕ) × Contains matches (sent row image) × (tree_at target image ≡ tree)

abbrev pub Grow : List Match → List Match → Type 0
Grow old new = (more : List Match) × (new ≡ old ++ more)

-- a row has got this image, or had one that is the same tree
pub record Meets (target : List Term) (old new : List Match) (row image : ℕ) : Type 0 where
  pub grow : (new ≡ old) ⊎ (new ≡ old ++ sent row image ∷ [])
  pub has : HasImage target new row (tree_at target image)

-- the row has another tree as its image
abbrev pub Clashes : List Term → List Match → ℕ → ℕ → Type 0
Clashes target old row image =
    (other : ℕ) × Contains old (sent row other) × (tree_at target other ≢ tree_at target image)

-- the rows stand at one place of the lists
abbrev pub IsBeside : List ℕ → List ℕ → Match → Type 0
IsBeside rows others m =
    (i : ℕ) × (slice_get rows i ≡ Some m.row) × (slice_get others i ≡ Some m.image)

-- each of the rows has the image at its place, and no other rows have got one
pub record MeetAll (target : List Term) (old new : List Match) (rows others : List ℕ) : Type 0 where
  pub grow : Grow old new
  pub only : (m : Match) → Contains new m → Contains old m ⊎ IsBeside rows others m
  pub has : AllZip (λ row other. HasImage target new row (tree_at target other)) rows others

-- no terms give the images so far and those at the rows' places
abbrev pub NoneGive : List Term → List Match → List ℕ → List ℕ → Type 0
NoneGive target old rows others =
    (source terms : List Term) → Give source target terms old
    → ¬ (map (λ row. put terms (tree_at source row)) rows ≡ map (tree_at target) others)

-- a match of applications of one symbol, whose arguments are matched
pub record AreApart (source target : List Term) (matches : List Match) (m : Match) : Type 0 where
  pub symbol : ℕ
  pub args : List ℕ
  pub others : List ℕ
  pub its_row : tree_at source m.row ≡ app symbol (as_terms (map (tree_at source) args))
  pub its_image : tree_at target m.image ≡ app symbol (as_terms (map (tree_at target) others))
  pub below : All (λ arg. arg < m.row) args
  pub matched : AllZip (λ arg other. HasImage target matches arg (tree_at target other)) args others

-- the row is a variable, or its arguments are matched
abbrev pub IsTakenApart : List Term → List Term → List Match → Match → Type 0
IsTakenApart source target matches m =
    ((n : ℕ) × (tree_at source m.row ≡ var n)) ⊎ AreApart source target matches m

-- More rows have got images, all of them there. Terms that gave the old images and these give the
-- new ones, and what was over some variables is so still.
pub record Adds (source target : List Term) (old new : List Match) : Type 0 where
  pub grow : Grow old new
  pub there : AreThere (length source) (length target) new
  pub over :
      (symbols : List Symbol) (vars : ℕ)
      → All (λ m. IsTermOver symbols vars (tree_at source m.row)) old
      → All (λ m. IsTermOver symbols vars (tree_at source m.row)) new

-- the match was taken apart
pub record TakesApart (source target : List Term) (old new : List Match) (m : Match) : Type 0 where
  pub adds : Adds source target old new
  pub apart : IsTakenApart source target new m
  pub gives : (terms : List Term) → Give source target terms old → Give source target terms new

-- all matches were taken apart
pub record TakesAllApart (source target : List Term) (old new : List Match) : Type 0 where
  pub adds : Adds source target old new
  pub apart : All (IsTakenApart source target new) new
  pub single : AreSingle new
  pub gives : (terms : List Term) → Give source target terms old → Give source target terms new

-- the literals show the same sign and predicate, and the arguments are matched
pub record MeetLiteral (target : List Term) (old new : List Match) (literal other : Literal)
    : Type 0 where
  pub sign : literal.positive ≡ other.positive
  pub predicate : literal.predicate ≡ other.predicate
  pub args : MeetAll target old new literal.args.items other.args.items

-- no terms give the images so far and the second literal for the first
abbrev pub NoneGiveLiteral : List Term → List Match → Literal → Literal → Type 0
NoneGiveLiteral target old literal other =
    (source terms : List Term) → Give source target terms old
    → ¬ (put_in_literal terms (literal_of source literal) ≡ literal_of target other)
