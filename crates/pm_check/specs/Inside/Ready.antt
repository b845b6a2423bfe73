-- What a checker keeps beside its certificate.
use Rattle.std.specs.Prelude.{◌≡◌, ◌↔◌, ℕ, ◌+◌, ◌^◌, ◌<◌, ◌≤◌, Bool, List, Contains, IsTrue, length}
use Rattle.pm_logic.specs.Problem.{Problem, start_clauses}
use Rattle.pm_logic.specs.Tableau.{preorder}
use Rattle.pm_certread.specs.Certificate.{Certificate}
use Rattle.pm_certread.specs.Laws.{IsOverProblem}
use Rattle.pm_check.specs.Inside.Images.{Found, none_of}
use Rattle.pm_check.specs.Inside.Siblings.{AreNextPlaces, depths}

-- the certificate can be checked: it is over the problem, and its lines have small numbers
pub record IsCheckable (over : Problem) (certificate : Certificate) : Type 0 where
  pub over_problem : IsOverProblem over certificate
  pub lines :
      certificate.root_line + 1 + length (preorder certificate.tableau.tableau) < 2 ^ 64

-- whether the root's clause is a start clause, the next places, no images, and room for a branch
pub record IsReady (over : Problem) (certificate : Certificate) (starts : Bool)
    (next : List ℕ) (images : Found) (room : ℕ) : Type 0 where
  pub checkable : IsCheckable over certificate
  pub root :
      IsTrue starts
      ↔ Contains (start_clauses certificate.start over.clauses) certificate.tableau.tableau.root
  pub places : AreNextPlaces (depths (preorder certificate.tableau.tableau)) next
  pub images_are : images ≡ none_of (length over.terms)
  pub branch : 250 ≤ room
