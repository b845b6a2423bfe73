-- What a certificate says.
use Rattle.std.specs.Prelude.{ℕ, List}
use Rattle.pm_logic.specs.declared.problem.Class.{Class}
use Rattle.pm_logic.specs.declared.problem.Start.{Start}
use Rattle.pm_logic.specs.declared.tableau.BoundKind.{BoundKind}
use Rattle.pm_logic.specs.Tableau.{TableauWithTerms}
use Rattle.pm_certread.specs.declared.cert.Cert.{Cert}

-- The header's words and its line; the root's line; the tableau with its terms, each once; and for
-- each node in pre-order the depth of the ancestor that closes it, 0 for an inner node.
pub record Certificate : Type 0 where
  pub class : Class
  pub start : Start
  pub bound : BoundKind
  pub size : ℕ
  pub header : ℕ
  pub root_line : ℕ
  pub tableau : TableauWithTerms
  pub closers : List ℕ

abbrev pub certificate_of : Cert → Certificate
certificate_of cert =
    record {
      class = cert.class;
      start = cert.start;
      bound = cert.bound;
      size = cert.size;
      header = cert.header;
      root_line = cert.root_line;
      tableau = cert.tableau;
      closers = cert.closers.items;
    }
