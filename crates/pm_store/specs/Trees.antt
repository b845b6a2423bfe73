-- The trees of cells in which each free variable stands for itself.
use Rattle.std.specs.Prelude.{◌≡◌, ℕ, ◌+◌, ◌<◌, ◌⊎◌, ◌==◌, if◌then◌else◌, List, [], ◌∷◌, ◌++◌, length, map}
use Rattle.pm_logic.specs.Term.{Term, var, app, Terms, no_terms, more_terms, as_terms, tree_at}
use Rattle.pm_store.specs.Entries.{Entry, Variable, Application}
use Rattle.pm_store.specs.Equations.{Binding, Equations}

-- the tree of the entry at a cell, over the trees of its arguments
abbrev pub tree_of : (ℕ → Term) → ℕ → Entry → Term
tree_of tree cell Variable = var cell
tree_of tree cell (Application symbol args) = app symbol (as_terms (map tree args))

-- the trees of entries, each over those before it
abbrev pub trees_from : List Term → List Entry → List Term
trees_from before [] = before
trees_from before (e ∷ es) = trees_from (before
    ++ tree_of (tree_at before) (length before) e ∷ []) es

-- a term with another in the place of a variable
abbrev mutual
  pub put_at : ℕ → Term → Term → Term
  put_at v t (var n) = if n == v then t else var n
  put_at v t (app symbol args) = app symbol (put_at_among v t args)

  pub put_at_among : ℕ → Term → Terms → Terms
  put_at_among v t no_terms = no_terms
  put_at_among v t (more_terms u us) = more_terms (put_at v t u) (put_at_among v t us)

-- the tree of a cell: a binding puts its target's tree in the place of its variable
abbrev pub tree_under : List Entry → List Binding → ℕ → Term
tree_under cells [] c = tree_at (trees_from [] cells) c
tree_under cells (b ∷ bs) c =
    put_at b.variable (tree_under cells bs b.target) (tree_under cells bs c)

abbrev pub tree : Equations → ℕ → Term
tree s = tree_under s.cells s.bindings

-- the cells that were there have their trees still
abbrev pub KeepsTrees : Equations → Equations → Type 0
KeepsTrees old new = (c : ℕ) → c < length old.cells → tree new c ≡ tree old c

-- a variable occurs in a term
abbrev mutual
  pub Occurs : ℕ → Term → Type 0
  Occurs v (var n) = v ≡ n
  Occurs v (app symbol args) = OccursAmong v args

  pub OccursAmong : ℕ → Terms → Type 0
  OccursAmong v no_terms = ⊥
  OccursAmong v (more_terms t ts) = Occurs v t ⊎ OccursAmong v ts

-- how many variables and symbols stand in a term
abbrev mutual
  pub size : Term → ℕ
  size (var n) = 1
  size (app symbol args) = 1 + size_among args

  pub size_among : Terms → ℕ
  size_among no_terms = 0
  size_among (more_terms t ts) = size t + size_among ts

-- the term stands in the other: it is this, or stands in an argument
abbrev mutual
  pub IsPart : Term → Term → Type 0
  IsPart t (var n) = t ≡ var n
  IsPart t (app symbol args) = (t ≡ app symbol args) ⊎ IsPartAmong t args

  pub IsPartAmong : Term → Terms → Type 0
  IsPartAmong t no_terms = ⊥
  IsPartAmong t (more_terms u us) = IsPart t u ⊎ IsPartAmong t us
