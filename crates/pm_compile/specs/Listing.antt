-- How code is listed.
use Rattle.std.specs.Prelude.{ℕ, ◌+◌, if◌then◌else◌, Bool, List, [], ◌∷◌, ◌++◌, codes, decimal}
use Rattle.std.specs.List.{flat_map}
use Rattle.pm_logic.specs.Problem.{Symbol, Literal, Clause}
use Rattle.pm_write.specs.Text.{symbol_text, term_text}
use Rattle.pm_compile.specs.Instructions.{Instruction, FIRST, AGAIN, MEET, GROUND, NEW, PUSH, MAKE, CONST, GOAL, BODY, RETURN, CLOSE, REDUCE, DONE}
use Rattle.pm_compile.specs.Scheme.{body_code, start_code, extension_code}

-- + for a positive literal, - for a negative one
abbrev pub sign_text : Bool → List ℕ
sign_text positive = if positive then codes "+" else codes "-"

-- a symbol and how many arguments it has
abbrev pub counted_text : List Symbol → ℕ → ℕ → List ℕ
counted_text symbols f n = symbol_text symbols f ++ (codes " " ++ decimal n)

-- a word and what it is about
abbrev pub instruction_text : List Symbol → Instruction → List ℕ
instruction_text symbols (FIRST x) = codes "FIRST " ++ decimal x
instruction_text symbols (AGAIN x) = codes "AGAIN " ++ decimal x
instruction_text symbols (MEET f n) = codes "MEET " ++ counted_text symbols f n
instruction_text symbols (GROUND t) = codes "GROUND " ++ term_text symbols t
instruction_text symbols NEW = codes "NEW"
instruction_text symbols (PUSH x) = codes "PUSH " ++ decimal x
instruction_text symbols (MAKE f n) = codes "MAKE " ++ counted_text symbols f n
instruction_text symbols (CONST t) = codes "CONST " ++ term_text symbols t
instruction_text symbols (GOAL positive p n) =
    codes "GOAL " ++ (sign_text positive ++ (codes " " ++ counted_text symbols p n))
instruction_text symbols (BODY c) = codes "BODY " ++ decimal c
instruction_text symbols RETURN = codes "RETURN"
instruction_text symbols (CLOSE j) = codes "CLOSE " ++ decimal j
instruction_text symbols (REDUCE k) = codes "REDUCE " ++ decimal k
instruction_text symbols DONE = codes "DONE"

-- a line of this text
abbrev pub line : List ℕ → List ℕ
line text = text ++ codes "\n"

-- a line for each instruction
abbrev pub lines : List Symbol → List Instruction → List ℕ
lines symbols code = flat_map (λ i. line (instruction_text symbols i)) code

-- a title, and the instructions below it
abbrev pub section : List Symbol → List ℕ → List Instruction → List ℕ
section symbols title code = line title ++ lines symbols code

-- the extension by the literal of this index
abbrev pub extension_listing : List Symbol → ℕ → ℕ → Literal → List ℕ
extension_listing symbols c j literal =
    section symbols (codes "extend " ++ (decimal c ++ (codes " " ++ decimal j)))
    (extension_code c j literal)

-- the extensions by literals, of which the first has this index
abbrev pub extensions_listing : List Symbol → ℕ → ℕ → List Literal → List ℕ
extensions_listing symbols c j [] = []
extensions_listing symbols c j (literal ∷ literals) =
    extension_listing symbols c j literal ++ extensions_listing symbols c (j + 1) literals

-- the body of the clause of this index, its start, and its extensions
abbrev pub clause_listing : List Symbol → ℕ → Clause → List ℕ
clause_listing symbols c clause =
    section symbols (codes "body " ++ decimal c) (body_code clause.literals)
    ++ (section symbols (codes "start " ++ decimal c) (start_code c)
    ++ extensions_listing symbols c 0 clause.literals)

-- clauses, of which the first has this index
abbrev pub listing_from : List Symbol → ℕ → List Clause → List ℕ
listing_from symbols c [] = []
listing_from symbols c (clause ∷ clauses) =
    clause_listing symbols c clause ++ listing_from symbols (c + 1) clauses

-- the listing of all clauses
abbrev pub listing_text : List Symbol → List Clause → List ℕ
listing_text symbols clauses = listing_from symbols 0 clauses
