-- The rows of the terms that have lines.
use Rattle.std.specs.Prelude.{◌≡◌, ℕ, ◌+◌, ◌*◌, ◌<◌, List, [], ◌∷◌, ◌++◌, All, Contains, length, map}
use Rattle.pm_logic.specs.Lists.{AreDistinct, Gathers}
use Rattle.pm_logic.specs.Tableau.{Tableau}
use Rattle.pm_logic.specs.Term.{Term, var, app, tree_at, as_terms, list_of}
use Rattle.pm_cert.specs.declared.list.OpenTerm.{OpenTerm}
use Rattle.pm_cert.specs.Terms.{AreListed, subterms_among}

-- the term's arguments are among these terms
abbrev pub HasArgsIn : List Term → Term → Type 0
HasArgsIn terms (var n) = Unit {0}
HasArgsIn terms (app symbol args) = All (Contains terms) (list_of args)

-- each term's arguments are among the terms before it, of which these are the first
abbrev pub FollowArgs : List Term → List Term → Type 0
FollowArgs before [] = Unit {0}
FollowArgs before (t ∷ ts) = HasArgsIn before t × FollowArgs (before ++ t ∷ []) ts

-- the rows are rows of the table, in which no term stands twice
pub record AreRows (terms : List Term) (rows : List ℕ) : Type 0 where
  pub distinct : AreDistinct terms
  pub within : All (λ row. row < length terms) rows

-- the rows are those of the terms that have been finished so far, each once
pub record AreFinished (terms : List Term) (finished : List Term) (rows : List ℕ) : Type 0 where
  pub are_rows : AreRows terms rows
  pub follow : FollowArgs [] finished
  pub gathered : Gathers [] finished (map (tree_at terms) rows)

-- what is left of an open term: its other arguments with their parts, and then the term
abbrev pub left_of : List Term → OpenTerm → List Term
left_of terms opened =
    subterms_among (as_terms (map (tree_at terms) opened.args.now)) ++ tree_at terms opened.row ∷ []

-- what is left of open terms, of which the innermost is the last
abbrev pub left_of_all : List Term → List OpenTerm → List Term
left_of_all terms [] = []
left_of_all terms (opened ∷ others) = left_of_all terms others ++ left_of terms opened

-- the rows of an open term are rows of a table of so many
pub record IsWithin (count : ℕ) (opened : OpenTerm) : Type 0 where
  pub row : opened.row < count
  pub args : All (λ arg. arg < count) opened.args.now

-- a number that falls with each step: each part of an argument counts twice, each open term once
abbrev pub weight : List Term → List OpenTerm → ℕ
weight terms [] = 0
weight terms (opened ∷ others) =
    1 + 2 * length (subterms_among (as_terms (map (tree_at terms) opened.args.now)))
    + weight terms others

-- More terms have been finished, the first of those that were left. The others are left now.
abbrev pub StepsOn : List Term → List Term → List ℕ → List Term → List Term → Type 0
StepsOn terms finished rows before now =
    (more : List Term) × AreFinished terms (finished ++ more) rows × (more ++ now ≡ before)

-- the rows of the terms that a certificate of the tableau lists, in the order of their lines
pub record IsTermList (terms : List Term) (tableau : Tableau) (rows : List ℕ) : Type 0 where
  pub are_rows : AreRows terms rows
  pub listed : AreListed tableau (map (tree_at terms) rows)
