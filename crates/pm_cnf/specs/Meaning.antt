-- The problem of the items of a file.
use Rattle.std.specs.Prelude.{◌≡◌, ℕ, suc, Bool, false, not, List, [], ◌∷◌, ◌++◌, filter, length, Some, slice_get}
use Rattle.std.specs.List.{list_any, flat_map}
use Rattle.pm_logic.specs.declared.symbols.Kind.TheVariants.{Predicate, Function}
use Rattle.pm_logic.specs.Lists.{Gathers}
use Rattle.pm_logic.specs.Problem as logic
use Rattle.pm_logic.specs.Term as tree
use Rattle.pm_scan.specs.declared.offence.CnfKind.{CnfKind}
use Rattle.pm_cnf.specs.declared.limits.Limits.{Limits}
use Rattle.pm_scan.specs.Lexemes.{Lexeme, Lexes, tokens_in}
use Rattle.pm_cnf.specs.Grammar.{Word, word_text, Term, variable, application, Arguments, no_arguments, more_arguments, Atom, predicate, truth, falsity, Literal, Formula, in_parentheses, disjunction, Name, word, integer, Item, AreItems, file_places, tokens_of}
use Rattle.pm_cnf.specs.Offences.{with_text, IsOffence}

-- the two lists are as long, and the elements at each place are so related
abbrev pub Pairwise : {A B : Type 0} → (A → B → Type 0) → List A → List B → Type 0
Pairwise Related [] [] = Unit {0}
Pairwise Related [] (y ∷ ys) = ⊥
Pairwise Related (x ∷ xs) [] = ⊥
Pairwise Related (x ∷ xs) (y ∷ ys) = Related x y × Pairwise Related xs ys

abbrev pub literals_of : Formula → List Literal
literals_of (in_parentheses formula) = literals_of formula
literals_of (disjunction first others) = first ∷ others

-- whether the literal is $true or ~ $false
abbrev pub holds_always : Bool → Atom → Bool
holds_always positive (predicate w args) = false
holds_always positive truth = positive
holds_always positive falsity = not positive

abbrev pub is_kept : Item → Bool
is_kept item =
    not (list_any (λ l. holds_always l.positive l.atom) (literals_of item.formula))

abbrev pub kept_items : List Item → List Item
kept_items items = filter is_kept items

-- a literal other than $true, $false and their negations
pub record Kept : Type 0 where
  pub positive : Bool
  pub predicate : Word
  pub args : Arguments

abbrev pub kept_from : Bool → Atom → List Kept → List Kept
kept_from positive (predicate w args) others =
    record { positive = positive; predicate = w; args = args } ∷ others
kept_from positive truth others = others
kept_from positive falsity others = others

abbrev pub kept_among : List Literal → List Kept
kept_among [] = []
kept_among (literal ∷ literals) = kept_from literal.positive literal.atom (kept_among literals)

abbrev pub kept_literals : Item → List Kept
kept_literals item = kept_among (literals_of item.formula)

abbrev pub argument_count : Arguments → ℕ
argument_count no_arguments = 0
argument_count (more_arguments t ts) = suc (argument_count ts)

abbrev pub function_of : Word → Arguments → logic.Symbol
function_of w args = record { text = word_text w; arity = argument_count args; kind = Function }

abbrev pub predicate_of : Word → Arguments → logic.Symbol
predicate_of w args = record { text = word_text w; arity = argument_count args; kind = Predicate }

-- the symbols of a term, each before those of its arguments, and its variables, from left to right
abbrev mutual
  pub symbols_in : Term → List logic.Symbol
  symbols_in (variable text) = []
  symbols_in (application w args) = function_of w args ∷ symbols_among args

  pub symbols_among : Arguments → List logic.Symbol
  symbols_among no_arguments = []
  symbols_among (more_arguments t ts) = symbols_in t ++ symbols_among ts

abbrev mutual
  pub variables_in : Term → List (List ℕ)
  variables_in (variable text) = text ∷ []
  variables_in (application w args) = variables_among args

  pub variables_among : Arguments → List (List ℕ)
  variables_among no_arguments = []
  variables_among (more_arguments t ts) = variables_in t ++ variables_among ts

abbrev pub literal_symbols : Kept → List logic.Symbol
literal_symbols literal = predicate_of literal.predicate literal.args ∷ symbols_among literal.args

-- the symbols of an item's kept literals, as they occur
abbrev pub item_symbols : Item → List logic.Symbol
item_symbols item = flat_map literal_symbols (kept_literals item)

-- these texts, and then those of the others that are new
abbrev pub with_texts : List (List ℕ) → List (List ℕ) → List (List ℕ)
with_texts texts [] = texts
with_texts texts (text ∷ others) = with_texts (with_text texts text) others

-- the different variables of an item's kept literals, by first occurrence
abbrev pub item_variables : Item → List (List ℕ)
item_variables item =
    with_texts [] (flat_map (λ literal. variables_among literal.args) (kept_literals item))

-- the tree of a written term: variables and symbols by their numbers
abbrev mutual
  pub IsTreeOf : List logic.Symbol → List (List ℕ) → Term → tree.Term → Type 0
  IsTreeOf symbols variables (variable text) (tree.var n) = slice_get variables n ≡ Some text
  IsTreeOf symbols variables (application w args) (tree.app f ts) =
      (slice_get symbols f ≡ Some (function_of w args)) × AreTreesOf symbols variables args ts
  IsTreeOf symbols variables (variable text) (tree.app f ts) = ⊥
  IsTreeOf symbols variables (application w args) (tree.var n) = ⊥

  pub AreTreesOf : List logic.Symbol → List (List ℕ) → Arguments → tree.Terms → Type 0
  AreTreesOf symbols variables no_arguments tree.no_terms = Unit {0}
  AreTreesOf symbols variables (more_arguments t ts) (tree.more_terms u us) =
      IsTreeOf symbols variables t u × AreTreesOf symbols variables ts us
  AreTreesOf symbols variables no_arguments (tree.more_terms u us) = ⊥
  AreTreesOf symbols variables (more_arguments t ts) tree.no_terms = ⊥

pub record IsLiteralOf (symbols : List logic.Symbol) (variables : List (List ℕ)) (written : Kept)
    (literal : logic.Literal) : Type 0 where
  pub sign : literal.positive ≡ written.positive
  pub symbol :
      slice_get symbols literal.predicate ≡ Some (predicate_of written.predicate written.args)
  pub terms : AreTreesOf symbols variables written.args (tree.as_terms literal.args)

abbrev pub label_of : Name → logic.Label
label_of (word w) = logic.word (word_text w)
label_of (integer digits) = logic.integer digits

pub record IsClauseOf (symbols : List logic.Symbol) (item : Item) (clause : logic.Clause)
    : Type 0 where
  pub name : clause.name ≡ label_of item.name
  pub role : clause.role ≡ item.role
  pub vars : clause.vars ≡ length (item_variables item)
  pub literals :
      Pairwise (IsLiteralOf symbols (item_variables item)) (kept_literals item) clause.literals

-- the variables of a term, from left to right
abbrev mutual
  pub leaves_in : tree.Term → List tree.Term
  leaves_in (tree.var n) = tree.var n ∷ []
  leaves_in (tree.app f ts) = leaves_among ts

  pub leaves_among : tree.Terms → List tree.Term
  leaves_among tree.no_terms = []
  leaves_among (tree.more_terms t ts) = leaves_in t ++ leaves_among ts

-- the applications in a term, from right to left, each after its arguments
abbrev mutual
  pub applications_in : tree.Term → List tree.Term
  applications_in (tree.var n) = []
  applications_in (tree.app f ts) = applications_among ts ++ tree.app f ts ∷ []

  pub applications_among : tree.Terms → List tree.Term
  applications_among tree.no_terms = []
  applications_among (tree.more_terms t ts) = applications_among ts ++ applications_in t

abbrev pub literal_terms : logic.Literal → List tree.Term
literal_terms literal =
    leaves_among (tree.as_terms literal.args) ++ applications_among (tree.as_terms literal.args)

abbrev pub clause_terms : logic.Clause → List tree.Term
clause_terms clause = flat_map literal_terms clause.literals

-- A clause for each item that isn't dropped. Symbols are numbered by first occurrence in the kept
-- literals, and the terms are those of the literals, each once: of a literal its variables before
-- its applications.
pub record IsProblemOf (items : List Item) (problem : logic.Problem) : Type 0 where
  pub symbols : Gathers [] (flat_map item_symbols (kept_items items)) problem.symbols
  pub terms : Gathers [] (flat_map clause_terms problem.clauses) problem.terms
  pub clauses : Pairwise (IsClauseOf problem.symbols) (kept_items items) problem.clauses

-- The bytes have no offence, and they are the text of these items.
pub record IsTextOf (limits : Limits) (bytes : List ℕ) (items : List Item) : Type 0 where
  pub sound : (rest : List ℕ) (kind : CnfKind) → ¬ IsOffence limits bytes rest kind
  pub lexemes : List Lexeme
  pub leads : Lexes lexemes bytes []
  pub are : AreItems items
  pub file : tokens_of (file_places 0 items) ≡ tokens_in lexemes

-- The bytes are the text of items, and this is the problem of the items.
pub record IsProblemIn (limits : Limits) (bytes : List ℕ) (problem : logic.Problem) : Type 0 where
  pub items : List Item
  pub text : IsTextOf limits bytes items
  pub means : IsProblemOf items problem
