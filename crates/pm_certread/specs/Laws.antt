-- What is true of all readings.
use Rattle.std.specs.Prelude.{◌≡◌, ℕ, ◌<◌, ◌≤◌, List, All, length}
use Rattle.std.specs.List.{AllZip}
use Rattle.pm_logic.specs.declared.tableau.NodeKind.{NodeKind}
use Rattle.pm_logic.specs.declared.tableau.NodeKind.TheVariants.{Leaf, Inner}
use Rattle.pm_logic.specs.Lists.{AreDistinct}
use Rattle.pm_logic.specs.Problem.{Problem}
use Rattle.pm_logic.specs.Tableau.{preorder}
use Rattle.pm_calculus.specs.Connection.{IsOverSymbols}
use Rattle.pm_certread.specs.Certificate.{Certificate}
use Rattle.pm_certread.specs.Reading.{Outcome, accepted, Reads}

-- the number beside a node: the depth of an ancestor of a leaf, 0 for an inner node
abbrev pub IsCloserOf : NodeKind → ℕ → ℕ → Type 0
IsCloserOf Leaf depth closer = (1 ≤ closer) × (closer < depth)
IsCloserOf (Inner clause) depth closer = closer ≡ 0

-- the clause of an inner node is one of so many
abbrev pub HasClauseOf : ℕ → NodeKind → Type 0
HasClauseOf clauses Leaf = Unit {0}
HasClauseOf clauses (Inner clause) = clause < clauses

-- The certificate is one of this problem's clauses and symbols. The checker stands on this.
pub record IsOverProblem (over : Problem) (certificate : Certificate) : Type 0 where
  pub root : certificate.tableau.tableau.root < length over.clauses
  pub depths :
      All (λ entry. (1 ≤ entry.depth) × (entry.depth ≤ 250)) (preorder certificate.tableau.tableau)
  pub clauses :
      All (λ entry. HasClauseOf (length over.clauses) entry.kind)
      (preorder certificate.tableau.tableau)
  pub closers :
      AllZip (λ entry closer. IsCloserOf entry.kind entry.depth closer)
      (preorder certificate.tableau.tableau) certificate.closers
  pub symbols : IsOverSymbols over.symbols certificate.tableau.tableau
  pub lines : certificate.header < certificate.root_line

-- an accepted certificate is one of the problem's clauses and symbols
abbrev pub CertificatesAreOverProblems : Type 0
CertificatesAreOverProblems =
    (over : Problem) (bytes : List ℕ) (certificate : Certificate)
    → Reads over bytes (accepted certificate) → IsOverProblem over certificate

-- Bytes have one reading: never two certificates, nor two refusals, nor one of each.
abbrev pub ReadingsAreDetermined : Type 0
ReadingsAreDetermined =
    (over : Problem) (bytes : List ℕ) (outcome other : Outcome) → AreDistinct over.symbols
    → Reads over bytes outcome → Reads over bytes other → outcome ≡ other
