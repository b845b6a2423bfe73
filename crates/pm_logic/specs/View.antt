-- What the numbers and rows of the code stand for.
use Rattle.std.specs.Prelude.{◌≡◌, ℕ, ◌<◌, List, All, map, length, string_bytes}
use Rattle.pm_logic.specs.declared.problem.Name.{Name}
use Rattle.pm_logic.specs.declared.problem.Name.TheVariants.{Word, Integer}
use Rattle.pm_logic.specs.declared.problem.Literal.{Literal}
use Rattle.pm_logic.specs.declared.problem.Clause.{Clause}
use Rattle.pm_logic.specs.declared.tableau.Node.{Node}
pub use Rattle.pm_logic.specs.Term.{tree_at}
use Rattle.pm_logic.specs.Term.{Term}
use Rattle.pm_logic.specs.Problem as problem
use Rattle.pm_logic.specs.Tableau as tableau

abbrev pub label_of : Name → problem.Label
label_of (Word text) = problem.word (string_bytes text)
label_of (Integer text) = problem.integer (string_bytes text)

abbrev pub literal_of : List Term → Literal → problem.Literal
literal_of terms literal =
    record {
      positive = literal.positive;
      predicate = literal.predicate;
      args = map (tree_at terms) literal.args.items;
    }

abbrev pub clause_of : List Term → Clause → problem.Clause
clause_of terms clause = record {
  name = label_of clause.name;
  role = string_bytes clause.role;
  vars = clause.vars;
  literals = map (literal_of terms) clause.literals.items;
}

abbrev pub entry_of : List Term → Node → tableau.Entry
entry_of terms node =
    record { depth = node.depth; literal = literal_of terms node.literal; kind = node.kind }

-- the literal's rows are rows of a table of so many
abbrev pub HasRows : ℕ → Literal → Type 0
HasRows count literal = All (λ row. row < count) literal.args.items

-- the clauses' rows are those of the terms, and the problem is a valid one
pub record IsWellFormed (symbols : List problem.Symbol) (terms : List Term)
    (clauses : List Clause) : Type 0 where
  pub rows : All (λ clause. All (HasRows (length terms)) clause.literals.items) clauses
  pub valid :
      problem.IsValid
      (record { symbols = symbols; terms = terms; clauses = map (clause_of terms) clauses })

-- the tableau of nodes in pre-order
abbrev pub tableau_of : List Term → ℕ → List Node → tableau.Tableau
tableau_of terms root nodes =
    record { root = root; children = tableau.forest_of (map (entry_of terms) nodes) }

-- the literals' rows are those of the terms, and the nodes are in the pre-order of their tableau
pub record IsPreorder (terms : List Term) (nodes : List Node) : Type 0 where
  pub rows : All (λ node. HasRows (length terms) node.literal) nodes
  pub order :
      (root : ℕ) → tableau.preorder (tableau_of terms root nodes) ≡ map (entry_of terms) nodes
