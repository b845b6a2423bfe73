-- What is true of written certificates.
use Rattle.std.specs.Prelude.{◌≡◌, ℕ, ◌<◌, ◌≤◌, List, All, length}
use Rattle.std.specs.List.{AllZip}
use Rattle.pm_logic.specs.Problem.{Problem, Symbol, Literal, IsValid}
use Rattle.pm_logic.specs.Tableau.{Tableau, depth, preorder, size}
use Rattle.pm_logic.specs.Term.{Term}
use Rattle.pm_logic.specs.Variables.{IsNumberedInOrder}
use Rattle.pm_calculus.specs.Connection.{IsOverSymbols, Level, IsInClass}
use Rattle.pm_certread.specs.Certificate.{Certificate}
use Rattle.pm_certread.specs.Forms.{IsNumber}
use Rattle.pm_certread.specs.Laws.{HasClauseOf}
use Rattle.pm_certread.specs.Reading.{accepted, Reads}
use Rattle.pm_logic.specs.declared.tableau.NodeKind.{NodeKind}
use Rattle.pm_logic.specs.declared.tableau.NodeKind.TheVariants.{Leaf, Inner}
use Rattle.pm_cert.specs.Ancestors.{placed_nodes, IsCloser}
use Rattle.pm_cert.specs.Terms.{AreListed}
use Rattle.pm_cert.specs.Text.{SearchReport, IsDocument}

-- a tableau and a report have one certificate
abbrev pub DocumentsAreDetermined : Type 0
DocumentsAreDetermined =
    (symbols : List Symbol) (report : SearchReport) (tableau : Tableau) (text other : List ℕ)
    → IsDocument symbols report tableau text → IsDocument symbols report tableau other
    → text ≡ other

-- A tableau over the problem's symbols and clauses that a certificate can hold: it isn't too deep,
-- and its variables are numbered by first occurrence in pre-order.
pub record IsCertifiable (over : Problem) (tableau : Tableau) : Type 0 where
  pub valid : IsValid over
  pub symbols : IsOverSymbols over.symbols tableau
  pub root : tableau.root < length over.clauses
  pub clauses : All (λ entry. HasClauseOf (length over.clauses) entry.kind) (preorder tableau)
  pub shallow : depth tableau ≤ 250
  pub variables : IsNumberedInOrder tableau

-- the proofs of a level can be certified, and so the general tableaux of its complete lists
abbrev pub ProofsAreCertifiable : Type 0
ProofsAreCertifiable =
    (level : Level) (tableau : Tableau) → IsValid level.problem → level.bound ≤ 250
    → IsInClass level tableau → IsOverSymbols level.problem.symbols tableau
    → IsNumberedInOrder tableau → IsCertifiable level.problem tableau

-- the numbers in a certificate are below 2^64
pub record HasSmallNumbers (report : SearchReport) (tableau : Tableau) : Type 0 where
  pub levels : IsNumber (length report.works)
  pub works : All IsNumber report.works
  pub last : IsNumber report.last
  pub size : IsNumber (size report.bound tableau)
  pub terms : (terms : List Term) → AreListed tableau terms → IsNumber (length terms)
  pub nodes : IsNumber (length (preorder tableau))

-- the number beside a node of a certificate: the depth of a leaf's closer, 0 for an inner node
abbrev pub IsCloserBeside : NodeKind → List Literal → Literal → ℕ → Type 0
IsCloserBeside Leaf above literal closer = IsCloser above literal closer
IsCloserBeside (Inner clause) above literal closer = closer ≡ 0

-- the certificate of the tableau and the report
pub record IsCertificateFor (report : SearchReport) (tableau : Tableau) (certificate : Certificate)
    : Type 0 where
  pub class : certificate.class ≡ report.class
  pub start : certificate.start ≡ report.start
  pub bound : certificate.bound ≡ report.bound
  pub size : certificate.size ≡ size report.bound tableau
  pub tree : certificate.tableau.tableau ≡ tableau
  pub terms : AreListed tableau certificate.tableau.terms
  pub closers :
      AllZip (λ placed closer. IsCloserBeside placed.kind placed.above placed.literal closer)
      (placed_nodes tableau) certificate.closers

-- what is written of a tableau reads as it
abbrev pub CertificatesReadBack : Type 0
CertificatesReadBack =
    (over : Problem) (report : SearchReport) (tableau : Tableau) (text : List ℕ)
    → IsCertifiable over tableau → HasSmallNumbers report tableau
    → IsDocument over.symbols report tableau text
    → (certificate : Certificate) × Reads over text (accepted certificate)
    × IsCertificateFor report tableau certificate
