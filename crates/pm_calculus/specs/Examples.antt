-- Small problems, and what the definitions say of them.
use Rattle.std.specs.Prelude.{◌≡◌, ℕ, true, false, List, [], ◌∷◌, codes}
use Rattle.pm_logic.specs.declared.problem.Class.{Class}
use Rattle.pm_logic.specs.declared.problem.Class.TheVariants.{Plain, Regular}
use Rattle.pm_logic.specs.declared.problem.Start.TheVariants.{Negative, All as Every, Goal}
use Rattle.pm_logic.specs.declared.tableau.BoundKind.TheVariants.{Depth, Inferences}
use Rattle.pm_logic.specs.Term.{Term, var, app, no_terms, more_terms}
use Rattle.pm_logic.specs.Problem.{Literal, Clause, Problem, word, start_clauses}
use Rattle.pm_logic.specs.Tableau.{leaf, inner, Nodes, no_nodes, more_nodes, Tableau}
use Rattle.pm_calculus.specs.Connection.{Level}
use Rattle.pm_calculus.specs.Choices.{IsReached, IsComplete, IsGeneral, width}

abbrev pub p : ℕ
p = 0

abbrev pub t : ℕ
t = 1

abbrev pub u : ℕ
u = 2

abbrev pub a : Term
a = app 3 no_terms

abbrev pub f : Term → Term
f x = app 4 (more_terms x no_terms)

abbrev pub x : Term
x = var 0

abbrev pub y : Term
y = var 1

abbrev pub holds : ℕ → List Term → Literal
holds predicate args = record { positive = true; predicate = predicate; args = args }

abbrev pub fails : ℕ → List Term → Literal
fails predicate args = record { positive = false; predicate = predicate; args = args }

-- a clause of so many variables
abbrev pub clause : ℕ → List Literal → Clause
clause vars literals = record { name = word []; role = []; vars = vars; literals = literals }

-- a problem of these clauses alone
abbrev pub problem_of : List Clause → Problem
problem_of clauses = record { symbols = []; terms = []; clauses = clauses }

-- a level of these clauses that starts with a negative one and bounds the depth
abbrev pub level : List Clause → Class → ℕ → Level
level clauses class bound =
    record {
      problem = problem_of clauses;
      class = class;
      start = Negative;
      kind = Depth;
      bound = bound;
    }

-- the same, with a bound on the number of clause instances
abbrev pub counted_level : List Clause → ℕ → Level
counted_level clauses bound =
    record {
      problem = problem_of clauses;
      class = Plain;
      start = Negative;
      kind = Inferences;
      bound = bound;
    }

-- p(a); ~p(X) | p(f(X)); ~p(f(f(a)))
abbrev pub steps : List Clause
steps =
    clause 0 (holds p (a ∷ []) ∷ [])
    ∷ clause 1 (fails p (x ∷ []) ∷ holds p (f x ∷ []) ∷ [])
    ∷ clause 0 (fails p (f (f a) ∷ []) ∷ [])
    ∷ []

-- the depth counts literals, the deepest leaf's too; a leaf as deep as the bound has reductions
-- alone
abbrev pub DepthExample : Type 0
DepthExample =
    IsComplete (level steps Plain 4) (0 ∷ 1 ∷ 2 ∷ 2 ∷ [])
    × (¬ IsReached (level steps Plain 3) (0 ∷ 1 ∷ 2 ∷ 2 ∷ []))
    × (width (level steps Plain 4) (0 ∷ 1 ∷ 2 ∷ []) ≡ 4)
    × (width (level steps Plain 3) (0 ∷ 1 ∷ 2 ∷ []) ≡ 2)

-- p(X,X); ~p(Y,f(Y))
abbrev pub diagonal : List Clause
diagonal = clause 1 (holds p (x ∷ x ∷ []) ∷ []) ∷ clause 1 (fails p (x ∷ f x ∷ []) ∷ []) ∷ []

-- no finite term is its own argument
abbrev pub FiniteTermsExample : Type 0
FiniteTermsExample = (bound : ℕ) → ¬ IsReached (level diagonal Plain bound) (0 ∷ 0 ∷ [])

-- p(X) | ~p(X); p(a); ~p(a)
abbrev pub tautology : List Clause
tautology =
    clause 1 (holds p (x ∷ []) ∷ fails p (x ∷ []) ∷ [])
    ∷ clause 0 (holds p (a ∷ []) ∷ [])
    ∷ clause 0 (fails p (a ∷ []) ∷ [])
    ∷ []

-- a leaf counts for regularity, also one that isn't closed yet: it would have the literal of its
-- parent
abbrev pub LeafExample : Type 0
LeafExample =
    IsReached (level tautology Plain 2) (0 ∷ 0 ∷ [])
    × (¬ IsReached (level tautology Regular 2) (0 ∷ 0 ∷ []))

-- p(Y) | ~p(Z); p(a); ~p(X) | ~t(X); t(a) | ~u; u
abbrev pub shared : List Clause
shared =
    clause 2 (holds p (x ∷ []) ∷ fails p (y ∷ []) ∷ [])
    ∷ clause 0 (holds p (a ∷ []) ∷ [])
    ∷ clause 1 (fails p (x ∷ []) ∷ fails t (x ∷ []) ∷ [])
    ∷ clause 0 (holds t (a ∷ []) ∷ fails u [] ∷ [])
    ∷ clause 0 (holds u [] ∷ [])
    ∷ []

-- a branch that is closed already counts for regularity: the last choice puts ~p(a) on it twice
abbrev pub ClosedBranchExample : Type 0
ClosedBranchExample =
    (¬ IsReached (level shared Regular 3) (0 ∷ 0 ∷ 2 ∷ 0 ∷ []))
    × IsReached (level shared Plain 3) (0 ∷ 0 ∷ 2 ∷ 0 ∷ [])
    × IsComplete (level shared Regular 3) (0 ∷ 1 ∷ 0 ∷ 1 ∷ [])

-- p(Y) | ~p(Z); p(a); ~p(X) | ~t; t | ~u; u
abbrev pub apart : List Clause
apart =
    clause 2 (holds p (x ∷ []) ∷ fails p (y ∷ []) ∷ [])
    ∷ clause 0 (holds p (a ∷ []) ∷ [])
    ∷ clause 1 (fails p (x ∷ []) ∷ fails t [] ∷ [])
    ∷ clause 0 (holds t [] ∷ fails u [] ∷ [])
    ∷ clause 0 (holds u [] ∷ [])
    ∷ []

-- a leaf with this literal, alone
abbrev pub closed_by : Literal → Nodes
closed_by literal = more_nodes (leaf literal) no_nodes

abbrev pub apart_tableau : Tableau
apart_tableau = record {
  root = 2;
  children =
      more_nodes
      (inner (fails p (x ∷ [])) 0
      (more_nodes (leaf (holds p (x ∷ [])))
      (more_nodes (inner (fails p (a ∷ [])) 1 (closed_by (holds p (a ∷ [])))) no_nodes)))
      (more_nodes
      (inner (fails t []) 3
      (more_nodes (leaf (holds t []))
      (more_nodes (inner (fails u []) 4 (closed_by (holds u []))) no_nodes)))
      no_nodes);
}

-- a variable that is left free differs from each constant: ~p(X) above ~p(a) is no repeat
abbrev pub FreeVariableExample : Type 0
FreeVariableExample =
    IsComplete (level apart Regular 3) (0 ∷ 0 ∷ 2 ∷ 0 ∷ 1 ∷ [])
    × IsGeneral (level apart Regular 3) (0 ∷ 0 ∷ 2 ∷ 0 ∷ 1 ∷ []) apart_tableau

abbrev pub q : ℕ
q = 1

-- a clause without variables, of literals without arguments
abbrev pub ground : List Literal → Clause
ground literals = clause 0 literals

-- ~p; p | ~q; q | ~p
abbrev pub circle : List Clause
circle =
    ground (fails p [] ∷ [])
    ∷ ground (holds p [] ∷ fails q [] ∷ [])
    ∷ ground (holds q [] ∷ fails p [] ∷ [])
    ∷ []

-- a literal is compared with all above it, and not with its parent alone: ~p stands below ~q below
-- ~p
abbrev pub AncestorExample : Type 0
AncestorExample =
    IsReached (level circle Plain 3) (0 ∷ 0 ∷ 1 ∷ [])
    × (¬ IsReached (level circle Regular 3) (0 ∷ 0 ∷ 1 ∷ []))

-- q | p; p; ~p
abbrev pub later : List Clause
later =
    ground (holds q [] ∷ holds p [] ∷ []) ∷ ground (holds p [] ∷ []) ∷ ground (fails p [] ∷ []) ∷ []

-- extensions are numbered by clause and then by literal: the second one is by the clause p
abbrev pub ExtensionOrderExample : Type 0
ExtensionOrderExample = IsComplete (level later Plain 2) (0 ∷ 1 ∷ [])

-- p | q; p | ~q; ~p | q; ~p | ~q
abbrev pub square : List Clause
square =
    ground (holds p [] ∷ holds q [] ∷ [])
    ∷ ground (holds p [] ∷ fails q [] ∷ [])
    ∷ ground (fails p [] ∷ holds q [] ∷ [])
    ∷ ground (fails p [] ∷ fails q [] ∷ [])
    ∷ []

-- reductions are numbered from the ancestor at depth 1 on
abbrev pub ReductionOrderExample : Type 0
ReductionOrderExample =
    IsComplete (level square Plain 3) (0 ∷ 0 ∷ 1 ∷ 0 ∷ 0 ∷ 1 ∷ 0 ∷ [])
    × IsComplete (level square Regular 3) (0 ∷ 0 ∷ 1 ∷ 0 ∷ 0 ∷ 1 ∷ 0 ∷ [])

-- p(X) | p(Y); ~p(U) | ~p(V)
abbrev pub pairs : List Clause
pairs =
    clause 2 (holds p (x ∷ []) ∷ holds p (y ∷ []) ∷ [])
    ∷ clause 2 (fails p (x ∷ []) ∷ fails p (y ∷ []) ∷ [])
    ∷ []

-- ~p(t) above two leaves p(t)
abbrev pub closed_twice : Term → Nodes → Nodes
closed_twice s others =
    more_nodes
    (inner (fails p (s ∷ [])) 0
    (more_nodes (leaf (holds p (s ∷ []))) (more_nodes (leaf (holds p (s ∷ []))) no_nodes)))
    others

abbrev pub pairs_tableau : Tableau
pairs_tableau = record { root = 1; children = closed_twice x (closed_twice y no_nodes) }

-- the general tableau has two variables, in the order of their first occurrence in pre-order
abbrev pub VariableOrderExample : Type 0
VariableOrderExample = IsGeneral (level pairs Plain 2) (0 ∷ 0 ∷ 0 ∷ 0 ∷ 0 ∷ []) pairs_tableau

-- p, as an axiom; ~p, as a negated conjecture; p | ~p; the empty clause
abbrev pub roles : List Clause
roles =
    ground (holds p [] ∷ [])
    ∷ record (ground (fails p [] ∷ [])) { role = codes "negated_conjecture" }
    ∷ ground (holds p [] ∷ fails p [] ∷ [])
    ∷ ground []
    ∷ []

-- the empty clause is a negative one
abbrev pub StartExample : Type 0
StartExample =
    (start_clauses Negative roles ≡ 1 ∷ 3 ∷ [])
    × (start_clauses Every roles ≡ 0 ∷ 1 ∷ 2 ∷ 3 ∷ [])
    × (start_clauses Goal roles ≡ 1 ∷ [])

-- p; q; ~p | ~q
abbrev pub fork : List Clause
fork =
    ground (holds p [] ∷ []) ∷ ground (holds q [] ∷ []) ∷ ground (fails p [] ∷ fails q [] ∷ []) ∷ []

-- the root counts as a clause instance, a leaf doesn't; the empty clause alone has one instance and
-- depth 0
abbrev pub InstancesExample : Type 0
InstancesExample =
    IsComplete (counted_level fork 3) (0 ∷ 0 ∷ 0 ∷ [])
    × (¬ IsReached (counted_level fork 2) (0 ∷ 0 ∷ 0 ∷ []))
    × IsComplete (counted_level (ground [] ∷ []) 1) (0 ∷ [])
    × (¬ IsReached (counted_level (ground [] ∷ []) 0) (0 ∷ []))
    × IsComplete (level (ground [] ∷ []) Plain 0) (0 ∷ [])
