-- Arguments that are still to be written, in lists that are open.
use Rattle.std.specs.Prelude.{ℕ, List, [], ◌∷◌, ◌++◌, All, codes, length, map}
use Rattle.pm_logic.specs.declared.problem.Literal.{Literal}
use Rattle.pm_logic.specs.Problem.{Symbol, IsLiteralOver}
use Rattle.pm_logic.specs.Term.{Term, as_terms, tree_at}
use Rattle.pm_logic.specs.View.{HasRows, literal_of}
use Rattle.pm_write.specs.declared.terms.Pending.{Pending}
use Rattle.pm_write.specs.Rows.{IsTerm}
use Rattle.pm_write.specs.Text.{term_text, others_text}

-- a mark, the next argument and the others; where there is none the list is closed
abbrev pub rest_text : List Symbol → List Term → ℕ → List ℕ → List ℕ
rest_text symbols terms mark [] = codes ")"
rest_text symbols terms mark (row ∷ rows) =
    mark ∷ term_text symbols (tree_at terms row)
    ++ others_text symbols (as_terms (map (tree_at terms) rows))

-- the rests of all open lists, of which the innermost is the last
abbrev pub pending_text : List Symbol → List Term → List Pending → List ℕ
pending_text symbols terms [] = []
pending_text symbols terms (list ∷ lists) =
    pending_text symbols terms lists ++ rest_text symbols terms list.mark list.args.now

abbrev pub AreTerms : List Symbol → List Term → List Pending → Type 0
AreTerms symbols terms lists = All (λ list. All (IsTerm symbols terms) list.args.now) lists

-- the literal's rows are rows of the table, and it is over the symbols
abbrev pub IsOver : List Symbol → List Term → Literal → Type 0
IsOver symbols terms literal =
    HasRows (length terms) literal
    × ((vars : ℕ) × IsLiteralOver symbols vars (literal_of terms literal))
