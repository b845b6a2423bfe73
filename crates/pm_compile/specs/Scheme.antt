-- Which instructions a clause is compiled into.
use Rattle.std.specs.Prelude.{ℕ, ◌+◌, ◌==◌, ◌++◌, Bool, if◌then◌else◌, List, [], ◌∷◌, length}
use Rattle.std.specs.List.{flat_map, list_any}
use Rattle.pm_logic.specs.Term.{Term, var, app, Terms, no_terms, more_terms, as_terms, list_of}
use Rattle.pm_logic.specs.Variables.{variables, variables_among}
use Rattle.pm_logic.specs.Problem.{Literal}
use Rattle.pm_compile.specs.Instructions.{Instruction, FIRST, AGAIN, MEET, GROUND, NEW, PUSH, MAKE, CONST, GOAL, BODY, RETURN, CLOSE, DONE}

-- whether the number is one of these
abbrev pub is_among : ℕ → List ℕ → Bool
is_among n ns = list_any (λ m. n == m) ns

-- no variable stands in the terms
abbrev pub are_ground : Terms → Bool
are_ground ts = length (variables_among ts) == 0

-- no variable stands in the term
abbrev pub is_ground : Term → Bool
is_ground t = length (variables t) == 0

-- how many terms there are
abbrev pub count : Terms → ℕ
count ts = length (list_of ts)

-- an occurrence of a variable in a head, after those of other variables
abbrev pub occurrence : List ℕ → ℕ → Instruction
occurrence seen x = if is_among x seen then AGAIN x else FIRST x

-- the instructions that meet a term in a head in which these variables have occurred
abbrev mutual
  pub head_code : List ℕ → Term → List Instruction
  head_code seen (var x) = occurrence seen x ∷ []
  head_code seen (app f ts) =
      if are_ground ts
      then GROUND (app f ts) ∷ []
      else (MEET f (count ts) ∷ head_code_among seen ts)

  pub head_code_among : List ℕ → Terms → List Instruction
  head_code_among seen no_terms = []
  head_code_among seen (more_terms t ts) =
      head_code seen t ++ head_code_among (seen ++ variables t) ts

-- the instructions that build a term
abbrev mutual
  pub building_code : Term → List Instruction
  building_code (var x) = PUSH x ∷ []
  building_code (app f ts) =
      if are_ground ts
      then CONST (app f ts) ∷ []
      else (building_code_among ts ++ MAKE f (count ts) ∷ [])

  pub building_code_among : Terms → List Instruction
  building_code_among no_terms = []
  building_code_among (more_terms t ts) = building_code t ++ building_code_among ts

-- the instructions that append a child with a literal
abbrev pub goal_code : Literal → List Instruction
goal_code literal =
    building_code_among (as_terms literal.args)
    ++ GOAL literal.positive literal.predicate (length literal.args) ∷ []

-- a body appends a child for each literal
abbrev pub body_code : List Literal → List Instruction
body_code literals = flat_map goal_code literals ++ RETURN ∷ []

-- a tableau starts with the clause of this index
abbrev pub start_code : ℕ → List Instruction
start_code c = NEW ∷ BODY c ∷ DONE ∷ []

-- a leaf is extended by the clause of this index, whose literal of this index closes with it
abbrev pub extension_code : ℕ → ℕ → Literal → List Instruction
extension_code c j literal =
    head_code_among [] (as_terms literal.args) ++ NEW ∷ BODY c ∷ CLOSE j ∷ DONE ∷ []

-- the extensions by each literal of a clause, of which the first has this index
abbrev pub extension_codes_from : ℕ → ℕ → List Literal → List (List Instruction)
extension_codes_from c j [] = []
extension_codes_from c j (literal ∷ literals) =
    extension_code c j literal ∷ extension_codes_from c (j + 1) literals

-- the extensions by each literal of the clause of this index
abbrev pub extension_codes : ℕ → List Literal → List (List Instruction)
extension_codes c literals = extension_codes_from c 0 literals
