-- Terms as trees: a variable, or a symbol with a list of terms.
use Rattle.std.specs.Prelude.{ℕ, List, [], ◌∷◌, slice_index_or}

mutual
  pub data Term : Type 0 where
    var : ℕ → Term
    app : ℕ → Terms → Term

  pub data Terms : Type 0 where
    no_terms : Terms
    more_terms : Term → Terms → Terms

abbrev pub as_terms : List Term → Terms
as_terms [] = no_terms
as_terms (t ∷ ts) = more_terms t (as_terms ts)

abbrev pub list_of : Terms → List Term
list_of no_terms = []
list_of (more_terms t ts) = t ∷ list_of ts

-- the tree of a row
abbrev pub tree_at : List Term → ℕ → Term
tree_at terms row = slice_index_or terms row (var 0)
