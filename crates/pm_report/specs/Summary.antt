-- The summary of a search for a proof of a sample problem.
use Rattle.std.specs.Prelude.{◌≡◌, ◌⊎◌, ◌↔◌, ℕ, ◌+◌, Bool, true, false, List, [], ◌∷◌, ◌++◌, sum}
use Rattle.std.specs.Prelude.{Option, None, Some, Contains, codes, decimal, length}
use Rattle.pm_deepen.specs.declared.DeepEnd.{DeepEnd}
use Rattle.pm_deepen.specs.declared.DeepEnd.TheVariants.{Proof, DepthReached, BudgetOut}
use Rattle.pm_deepen.specs.declared.Outcome.{Outcome}
use Rattle.pm_logic.specs.Lists.{AreDistinct}
use Rattle.pm_logic.specs.Tableau.{Entry, Tableau, TableauWithTerms, depth, preorder}
use Rattle.pm_logic.specs.Term.{Term, Terms, var, app, no_terms, more_terms, as_terms}
use Rattle.pm_report.specs.Text.{Line, text_of}

-- the term is the other or a part of it
abbrev mutual
  pub IsPart : Term → Term → Type 0
  IsPart t (var n) = t ≡ var n
  IsPart t (app symbol args) = (t ≡ app symbol args) ⊎ IsPartAmong t args

  pub IsPartAmong : Term → Terms → Type 0
  IsPartAmong t no_terms = ⊥
  IsPartAmong t (more_terms u us) = IsPart t u ⊎ IsPartAmong t us

-- the term is an argument of a literal, or a part of one
abbrev pub Occurs : Term → Tableau → Type 0
Occurs t tableau =
    (e : Entry) × Contains (preorder tableau) e × IsPartAmong t (as_terms e.literal.args)

-- The different terms that occur in a tableau: a certificate has a line for each.
pub record AreTermsIn (tableau : Tableau) (terms : List Term) : Type 0 where
  pub distinct : AreDistinct terms
  pub exactly : (t : Term) → Contains terms t ↔ Occurs t tableau

abbrev pub is_proof : DeepEnd → Bool
is_proof (Proof level path work) = true
is_proof _ = false

abbrev pub last_attempts : DeepEnd → ℕ
last_attempts (Proof level path work) = work
last_attempts _ = 0

-- the attempts of all levels that are exhausted or have the proof
abbrev pub attempts : Outcome → ℕ
attempts outcome = sum outcome.works.items + last_attempts outcome.end

abbrev pub sample_line : ℕ → ℕ → Line
sample_line n clauses = codes "sample " ++ (decimal n ++ (codes " clauses " ++ decimal clauses))

-- proof depth D nodes M terms T attempts A
abbrev pub proof_line : Tableau → List Term → ℕ → Line
proof_line tableau terms attempts =
    codes "proof depth " ++ (decimal (depth tableau) ++ (codes " nodes "
    ++ (decimal (length (preorder tableau)) ++ (codes " terms " ++ (decimal (length terms)
    ++ (codes " attempts " ++ decimal attempts))))))

-- the line for the end of the search; a proof has a tableau
abbrev pub IsEndLine : DeepEnd → ℕ → Option TableauWithTerms → Line → Type 0
IsEndLine (Proof level path work) attempts (Some t) line =
    (terms : List Term) × AreTermsIn t.tableau terms
    × (line ≡ proof_line t.tableau terms attempts)
IsEndLine (Proof level path work) attempts None line = ⊥
IsEndLine DepthReached attempts t line =
    line ≡ codes "depth reached attempts " ++ decimal attempts
IsEndLine (BudgetOut level) attempts t line =
    line ≡ codes "budget at level " ++ decimal level

abbrev pub IsSummary : ℕ → ℕ → Outcome → Option TableauWithTerms → List ℕ → Type 0
IsSummary n clauses outcome t text =
    (line : Line) × IsEndLine outcome.end (attempts outcome) t line
    × (text ≡ text_of (sample_line n clauses ∷ line ∷ []))

-- two texts that sum up the same are equal
abbrev pub SummaryIsDetermined : Type 0
SummaryIsDetermined =
    (n clauses : ℕ) (outcome : Outcome) (t : Option TableauWithTerms) (text other : List ℕ)
    → IsSummary n clauses outcome t text → IsSummary n clauses outcome t other → text ≡ other
