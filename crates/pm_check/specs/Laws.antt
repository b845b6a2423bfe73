-- What is true of all verdicts.
use Rattle.std.specs.Prelude.{◌≡◌, ℕ}
use Rattle.pm_logic.specs.Problem.{Problem}
use Rattle.pm_logic.specs.Tableau.{size}
use Rattle.pm_calculus.specs.Connection.{IsInClass}
use Rattle.pm_certread.specs.Certificate.{Certificate}
use Rattle.pm_check.specs.declared.refusal.RefusalKind.{RefusalKind}
use Rattle.pm_check.specs.Verdicts.{certified_level, AreClosedAsNamed, IsAccepted, IsRefused}

-- No certificate is both accepted and refused, and it is refused at one line for one kind. So the
-- checker accepts exactly where its contract says, and refuses exactly where it says.
pub record VerdictsAreDetermined : Type 0 where
  pub one_verdict :
      (over : Problem) (certificate : Certificate) (n line : ℕ) (kind : RefusalKind)
      → IsAccepted over certificate n → ¬ IsRefused over certificate line kind
  pub one_refusal :
      (over : Problem) (certificate : Certificate) (line other : ℕ) (kind other_kind : RefusalKind)
      → IsRefused over certificate line kind → IsRefused over certificate other other_kind
      → (line ≡ other) × (kind ≡ other_kind)

-- Exactly that is accepted whose tableau is in the class, has the size that the header says, and
-- has leaves that are closed by the ancestors that they name: all else of an acceptance follows.
abbrev pub MembersAreAccepted : Type 0
MembersAreAccepted =
    (over : Problem) (certificate : Certificate) (n : ℕ)
    → size certificate.bound certificate.tableau.tableau ≡ n → certificate.size ≡ n
    → IsInClass (certified_level over certificate n) certificate.tableau.tableau
    → AreClosedAsNamed certificate → IsAccepted over certificate n
