-- What the checker says of a certificate.
use Rattle.std.specs.Prelude.{◌≡◌, ◌≢◌, ℕ, ◌^◌, ◌<◌, ◌⊎◌, List, length}
use Rattle.std.specs.List.{AllZip}
use Rattle.pm_logic.specs.Problem.{Literal, Problem}
use Rattle.pm_logic.specs.Tableau.{Node, leaf, inner, size}
use Rattle.pm_calculus.specs.Connection.{Level, IsInClass}
use Rattle.pm_calculus.specs.Truth.{Atom, HasFalseInstance}
use Rattle.pm_certread.specs.Certificate.{Certificate}
use Rattle.pm_certread.specs.Reading.{accepted, Reads}
use Rattle.pm_check.specs.declared.refusal.RefusalKind.{RefusalKind}
use Rattle.pm_check.specs.Kinds.{size_kind}
use Rattle.pm_check.specs.PlacedNodes.{placed_nodes}
use Rattle.pm_check.specs.Offences.{IsClosedAt, Offends, IsFirstOffence}

-- what is checked
pub record Checked : Type 0 where
  pub problem : Problem
  pub certificate : Certificate

-- the certificate was read of a document for the problem
pub record WasRead (over : Problem) (certificate : Certificate) : Type 0 where
  pub bytes : List ℕ
  pub short : length bytes < 2 ^ 32
  pub reads : Reads over bytes (accepted certificate)

-- the level of a size, with the class, start rule and kind of bound that the header says
abbrev pub certified_level : Problem → Certificate → ℕ → Level
certified_level over certificate bound =
    record {
      problem = over;
      class = certificate.class;
      start = certificate.start;
      kind = certificate.bound;
      bound = bound;
    }

-- a leaf is closed by the ancestor that it names
abbrev pub IsClosedAsNamed : List Literal → Node → ℕ → Type 0
IsClosedAsNamed above (leaf literal) ancestor = IsClosedAt above literal ancestor
IsClosedAsNamed above (inner literal clause children) ancestor = Unit {0}

abbrev pub AreClosedAsNamed : Certificate → Type 0
AreClosedAsNamed certificate =
    AllZip (λ placed ancestor. IsClosedAsNamed placed.above placed.node ancestor)
    (placed_nodes certificate.tableau.tableau) certificate.closers

-- The tableau has this size under the certificate's bound, the header says so, the tableau is in
-- the class that the header names, and each leaf is closed by the ancestor that it names. So no
-- truth assignment makes all its clause instances true.
pub record IsAccepted (over : Problem) (certificate : Certificate) (n : ℕ) : Type 0 where
  pub its_size : size certificate.bound certificate.tableau.tableau ≡ n
  pub header : certificate.size ≡ n
  pub class : IsInClass (certified_level over certificate n) certificate.tableau.tableau
  pub closers : AreClosedAsNamed certificate
  pub refuted :
      (atoms : List Atom) → HasFalseInstance over.clauses certificate.tableau.tableau atoms

-- no line of root or nodes is wrong, but the header's number is: it isn't the size
pub record HasOtherSize (over : Problem) (certificate : Certificate) (line : ℕ)
    (kind : RefusalKind) : Type 0 where
  pub sound : (other : ℕ) (other_kind : RefusalKind) → ¬ Offends over certificate other other_kind
  pub header : line ≡ certificate.header
  pub differs : certificate.size ≢ size certificate.bound certificate.tableau.tableau
  pub kind_is : kind ≡ size_kind certificate.bound

abbrev pub IsRefused : Problem → Certificate → ℕ → RefusalKind → Type 0
IsRefused over certificate line kind =
    IsFirstOffence over certificate line kind ⊎ HasOtherSize over certificate line kind
