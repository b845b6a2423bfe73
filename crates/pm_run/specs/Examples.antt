-- Worked examples of runs.
use Rattle.std.specs.Prelude.{ℕ, Bool, true, false, List, [], ◌∷◌, None, Some}
use Rattle.pm_logic.specs.Term.{Term, var, app, no_terms, more_terms}
use Rattle.pm_logic.specs.Problem.{Literal}
use Rattle.pm_store.specs.Entries.{Variable, Application}
use Rattle.pm_store.specs.Equations.{Equations}
use Rattle.pm_compile.specs.Instructions.{Instruction}
use Rattle.pm_compile.specs.Scheme.{body_code, extension_code}
use Rattle.pm_run.specs.State.{CellLiteral}
use Rattle.pm_run.specs.Meaning.{Runs}
use Rattle.pm_run.specs.Failure.{RunFails}
use Rattle.pm_run.specs.Steps.{reduction_code, before_step}

-- predicates p = 0 and q = 1, function symbols f = 0 and g = 1, variables X = 0 and Y = 1

-- f(X)
abbrev pub f_x : Term
f_x = app 0 (more_terms (var 0) no_terms)

-- p(f(X))
abbrev pub p_f_x : Literal
p_f_x = record { positive = true; predicate = 0; args = f_x ∷ [] }

-- ~q(Y, X)
abbrev pub not_q_y_x : Literal
not_q_y_x = record { positive = false; predicate = 1; args = var 1 ∷ var 0 ∷ [] }

-- the clause p(f(X)) | ~q(Y, X)
abbrev pub bodies : ℕ → List Instruction
bodies c = body_code (p_f_x ∷ not_q_y_x ∷ [])

-- a literal over cells
abbrev pub on_cells : Bool → ℕ → List ℕ → CellLiteral
on_cells positive predicate args =
    record { positive = positive; predicate = predicate; args = args }

-- ~p of the cell 0
abbrev pub branch : List CellLiteral
branch = on_cells false 0 (0 ∷ []) ∷ []

-- a variable alone
abbrev pub one_variable : Equations
one_variable = record { cells = Variable ∷ []; bindings = [] }

-- Of the leaf ~p(A), extended by the clause's first literal, A is bound to f(B). B becomes X, and a
-- new variable Y. The first child is p(f(B)), and is closed; the second is ~q(C, B).
abbrev pub ExtensionExample : Type 0
ExtensionExample =
    Runs bodies (extension_code 0 0 p_f_x) (before_step 2 one_variable branch (0 ∷ []))
    (record {
      locals = Some 1 ∷ Some 3 ∷ [];
      equations = record {
        cells =
            Variable ∷ Variable ∷ Application 0 (1 ∷ []) ∷ Variable ∷ Application 0 (1 ∷ []) ∷ [];
        bindings = record { variable = 0; target = 2 } ∷ [];
      };
      stack = [];
      children =
          record { literal = on_cells true 0 (4 ∷ []); closed = true }
          ∷ record { literal = on_cells false 1 (3 ∷ 1 ∷ []); closed = false } ∷ [];
      branch = branch;
      closed_by = None;
    })

-- the constant g, that is an application without arguments
abbrev pub one_constant : Equations
one_constant = record { cells = Application 1 [] ∷ []; bindings = [] }

-- the leaf ~p(g) can't be extended by p(f(X))
abbrev pub FailureExample : Type 0
FailureExample =
    RunFails bodies (extension_code 0 0 p_f_x) (before_step 2 one_constant branch (0 ∷ []))

-- a branch of p, q and ~p without arguments
abbrev pub propositions : List CellLiteral
propositions = on_cells true 0 [] ∷ on_cells true 1 [] ∷ on_cells false 0 [] ∷ []

-- the leaf ~p is closed by the ancestor p at depth 1
abbrev pub ReductionExample : Type 0
ReductionExample =
    Runs bodies (reduction_code 1) (before_step 0 one_variable propositions [])
    (record (before_step 0 one_variable propositions []) { closed_by = Some 1 })

-- and not by the ancestor q at depth 2, nor by itself at depth 3
abbrev pub FailedReductions : Type 0
FailedReductions =
    RunFails bodies (reduction_code 2) (before_step 0 one_variable propositions [])
    × RunFails bodies (reduction_code 3) (before_step 0 one_variable propositions [])
