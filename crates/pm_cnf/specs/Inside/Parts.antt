-- The nodes of arguments with numbers, and the terms that they are.
use Rattle.std.specs.Prelude.{◌≡◌, ℕ, ◌<◌, ◌≤◌, Bool, true, false, not, List, [], ◌∷◌, ◌++◌, map, length, take, drop, Some, All, Contains, slice_get}
use Rattle.std.specs.Borrow.{Bor}
use Rattle.std.specs.List.{flat_map}
use Rattle.pm_logic.specs.declared.symbols.Kind.TheVariants.{Predicate, Function}
use Rattle.pm_logic.specs.Problem.{Symbol, Literal, Clause, IsPrintable}
use Rattle.pm_logic.specs.Term.{Term, var, app, as_terms}
use Rattle.pm_logic.specs.Table.{variable_count}
use Rattle.pm_logic.specs.Lists.{Gathers}
use Rattle.pm_cnf.specs.declared.number.Part.{Part}
use Rattle.pm_cnf.specs.declared.number.Part.TheVariants as parts
use Rattle.pm_cnf.specs.Grammar.{word_text, Item}
use Rattle.pm_cnf.specs.Inside.Draft.{Node, predicate_node, constant_node, function_node, variable_node}
use Rattle.pm_cnf.specs.Meaning.{Pairwise, with_texts, Kept, IsLiteralOf, IsClauseOf, leaves_among, applications_among, literal_terms, clause_terms, item_symbols}

-- whether the node is of a term
abbrev pub is_argument : Node → Bool
is_argument (predicate_node positive w arity) = false
is_argument (constant_node positive value) = false
is_argument (function_node w arity) = true
is_argument (variable_node text) = true

abbrev pub IsArgument : Node → Type 0
IsArgument node = is_argument node ≡ true

-- the node's symbol, if it has one
abbrev pub node_symbol : Node → List Symbol
node_symbol (predicate_node positive w arity) =
    record { text = word_text w; arity = arity; kind = Predicate } ∷ []
node_symbol (constant_node positive value) = []
node_symbol (function_node w arity) =
    record { text = word_text w; arity = arity; kind = Function } ∷ []
node_symbol (variable_node text) = []

-- the node's variable, if it is one
abbrev pub node_text : Node → List (List ℕ)
node_text (variable_node text) = text ∷ []
node_text node = []

-- the variables have the numbers from 0 on, and these are their rows
pub record AreVariables (terms : List Term) (rows : List ℕ) : Type 0 where
  pub count : length rows ≡ variable_count terms
  pub stand : (n row : ℕ) → slice_get rows n ≡ Some row → slice_get terms row ≡ Some (var n)
  pub below : (n : ℕ) → Contains terms (var n) → n < variable_count terms

-- the node with the number of its symbol, or of its variable among the clause's
abbrev pub IsPartOf : List Symbol → List (List ℕ) → Node → Part → Type 0
IsPartOf symbols texts (variable_node text) (parts.Variable n) = slice_get texts n ≡ Some text
IsPartOf symbols texts (function_node w arity) (parts.Function f k) =
    (slice_get symbols f ≡ Some (record { text = word_text w; arity = arity; kind = Function }))
    × (k ≡ arity)
IsPartOf symbols texts node part = ⊥

-- the terms of parts, where each symbol stands before its arguments
abbrev pub trees_of : List Part → List Term
trees_of [] = []
trees_of (parts.Variable n ∷ ps) = var n ∷ trees_of ps
trees_of (parts.Function f k ∷ ps) = app f (as_terms (take k (trees_of ps))) ∷ drop k (trees_of ps)

-- the applications among them, from right to left
abbrev pub applications_of : List Part → List Term
applications_of [] = []
applications_of (parts.Variable n ∷ ps) = applications_of ps
applications_of (parts.Function f k ∷ ps) =
    applications_of ps ++ app f (as_terms (take k (trees_of ps))) ∷ []

-- the variable, if the part is one
abbrev pub part_leaf : Part → List Term
part_leaf (parts.Variable n) = var n ∷ []
part_leaf (parts.Function f k) = []

-- each symbol has its arguments, and there are so many variables
abbrev pub AreWellFormed : ℕ → List Part → Type 0
AreWellFormed count [] = Unit {0}
AreWellFormed count (parts.Variable n ∷ ps) = (n < count) × AreWellFormed count ps
AreWellFormed count (parts.Function f k ∷ ps) = (k ≤ length (trees_of ps)) × AreWellFormed count ps

-- the variables of terms before their applications
abbrev pub terms_among : List Term → List Term
terms_among terms = leaves_among (as_terms terms) ++ applications_among (as_terms terms)

-- the symbols and terms so far, and the variables of the clause
pub record Tables : Type 0 where
  pub symbols : List Symbol
  pub terms : List Term
  pub texts : List (List ℕ)

-- nodes got their numbers, and terms their rows
pub record Grows (old : Tables) (nodes : List Node) (added : List Term) (new : Tables)
    : Type 0 where
  pub symbols : Gathers old.symbols (flat_map node_symbol nodes) new.symbols
  pub terms : Gathers old.terms added new.terms
  pub texts : new.texts ≡ with_texts old.texts (flat_map node_text nodes)
  pub known : length new.texts ≤ variable_count new.terms

-- the literals of these nodes got their numbers and rows
pub record AreNumbered (old : Tables) (nodes : List Node) (new : Tables) (written : List Kept)
    (literals : List Literal) : Type 0 where
  pub grows : Grows old nodes (flat_map literal_terms literals) new
  pub pairs : Pairwise (IsLiteralOf new.symbols new.texts) written literals

-- the item's clause got its numbers and rows
pub record IsNumbered (old new : List Symbol) (before after : List Term) (item : Item)
    (given : Clause) : Type 0 where
  pub symbols : Gathers old (item_symbols item) new
  pub terms : Gathers before (clause_terms given) after
  pub clause : IsClauseOf new item given

-- whether the node is $true or ~ $false
abbrev pub node_holds : Node → Bool
node_holds (constant_node positive true) = positive
node_holds (constant_node positive false) = not positive
node_holds node = false

abbrev pub texts_of : List (Bor (List ℕ)) → List (List ℕ)
texts_of texts = map (λ text. text.now) texts

abbrev pub tables : List Symbol → List Term → List (Bor (List ℕ)) → Tables
tables symbols terms texts = record { symbols = symbols; terms = terms; texts = texts_of texts }

-- the symbols have texts of printable bytes
abbrev pub ArePrintable : List Node → Type 0
ArePrintable nodes = All (λ symbol. IsPrintable symbol.text) (flat_map node_symbol nodes)
