-- How clauses are written.
use Rattle.std.specs.Prelude.{ℕ, if◌then◌else◌, List, [], ◌∷◌, ◌++◌, slice_get, codes, decimal}
use Rattle.std.specs.List.{flat_map}
use Rattle.std.specs.Option.{option_map_or}
use Rattle.pm_logic.specs.Term.{Term, var, app, Terms, no_terms, more_terms, as_terms}
use Rattle.pm_logic.specs.Problem.{Symbol, Literal, Label, word, integer, Clause, Problem}
use Rattle.pm_logic.specs.Word.{written_word, written_symbol}

-- X and its number
abbrev pub variable_text : ℕ → List ℕ
variable_text n = codes "X" ++ decimal n

-- = for equality, and the word of any other symbol
abbrev pub symbol_text : List Symbol → ℕ → List ℕ
symbol_text symbols number = option_map_or written_symbol (slice_get symbols number) []

-- arguments stand between ( and ), joined by ,
abbrev mutual
  pub term_text : List Symbol → Term → List ℕ
  term_text symbols (var n) = variable_text n
  term_text symbols (app symbol args) = symbol_text symbols symbol ++ arguments_text symbols args

  pub arguments_text : List Symbol → Terms → List ℕ
  arguments_text symbols no_terms = []
  arguments_text symbols (more_terms t ts) =
      codes "(" ++ (term_text symbols t ++ others_text symbols ts)

  pub others_text : List Symbol → Terms → List ℕ
  others_text symbols no_terms = codes ")"
  others_text symbols (more_terms t ts) =
      codes "," ++ (term_text symbols t ++ others_text symbols ts)

-- a negative literal has ~ before its atom
abbrev pub literal_text : List Symbol → Literal → List ℕ
literal_text symbols literal =
    (if literal.positive then [] else codes "~")
    ++ (symbol_text symbols literal.predicate ++ arguments_text symbols (as_terms literal.args))

-- literals are joined by | between blanks, and a clause without literals has $false
abbrev pub literals_text : List Symbol → List Literal → List ℕ
literals_text symbols [] = codes "$false"
literals_text symbols (literal ∷ literals) =
    literal_text symbols literal
    ++ flat_map (λ other. codes " | " ++ literal_text symbols other) literals

abbrev pub name_text : Label → List ℕ
name_text (word text) = written_word text
name_text (integer digits) = digits

-- cnf(name,role,(literals)).
abbrev pub clause_text : List Symbol → Clause → List ℕ
clause_text symbols clause =
    codes "cnf(" ++ (name_text clause.name ++ (codes "," ++ (clause.role ++ (codes ",("
    ++ (literals_text symbols clause.literals ++ codes ")).\n")))))

-- a line for each clause
abbrev pub problem_text : Problem → List ℕ
problem_text problem = flat_map (clause_text problem.symbols) problem.clauses
