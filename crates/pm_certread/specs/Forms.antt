-- Which lines have the form of a certificate's: numbers are below 2^64, and a symbol's text is one
-- that a problem may have.
use Rattle.std.specs.Prelude.{◌≡◌, ℕ, ◌^◌, ◌<◌, ◌⊎◌, List, All, length, codes}
use Rattle.pm_logic.specs.declared.symbols.Kind.TheVariants.{Predicate, Function, Equality}
use Rattle.pm_logic.specs.declared.tableau.BoundKind.TheVariants.{Depth}
use Rattle.pm_logic.specs.Problem.{Symbol, IsPrintable}
use Rattle.pm_certread.specs.Lines.{ended, level_line, proof_line, Header, header_line_1, header_line_2, application_line, root_line, Ending, closed_by, extended_by, NodeLine, node_line}

abbrev pub IsNumber : ℕ → Type 0
IsNumber n = n < 2 ^ 64

-- the line of an exhausted level
pub record IsExhausted (raw : List ℕ) (level : ℕ) (work : ℕ) : Type 0 where
  pub small_level : IsNumber level
  pub small_work : IsNumber work
  pub is : raw ≡ ended (level_line level work)

-- the line of the level that has the proof
pub record IsProved (raw : List ℕ) (level : ℕ) (work : ℕ) : Type 0 where
  pub small_level : IsNumber level
  pub small_work : IsNumber work
  pub is : raw ≡ ended (proof_line level work)

-- a header of either version
pub record IsHeader (raw : List ℕ) (h : Header) : Type 0 where
  pub size : IsNumber h.size
  pub terms : IsNumber h.terms
  pub nodes : IsNumber h.nodes
  pub is :
      ((h.bound ≡ Depth) × (raw ≡ ended (header_line_1 h))) ⊎ (raw ≡ ended (header_line_2 h))

-- a word with so many arguments that a term line may begin with
pub record IsFunction (symbol : Symbol) (arity : ℕ) : Type 0 where
  pub text : IsPrintable symbol.text
  pub count : symbol.arity ≡ arity
  pub kind : symbol.kind ≡ Function

-- a term line of a symbol with arguments
pub record IsApplication (raw : List ℕ) (symbol : Symbol) (numbers : List ℕ) : Type 0 where
  pub function : IsFunction symbol (length numbers)
  pub small : All IsNumber numbers
  pub is : raw ≡ ended (application_line symbol numbers)

pub record IsRoot (raw : List ℕ) (clause : ℕ) : Type 0 where
  pub small : IsNumber clause
  pub is : raw ≡ ended (root_line clause)

-- the number that ends a node's line
abbrev pub ending_number : Ending → ℕ
ending_number (closed_by depth) = depth
ending_number (extended_by clause) = clause

-- a word that may stand for the predicate of a literal with so many arguments: a bare `=` is the
-- word of equality
pub record IsPredicate (symbol : Symbol) (arity : ℕ) : Type 0 where
  pub text : IsPrintable symbol.text
  pub count : symbol.arity ≡ arity
  pub kind : (symbol.kind ≡ Predicate) ⊎ ((symbol.kind ≡ Equality) × (symbol.text ≡ codes "="))

pub record IsNode (raw : List ℕ) (node : NodeLine) : Type 0 where
  pub small_depth : IsNumber node.depth
  pub predicate : IsPredicate node.symbol (length node.numbers)
  pub small_numbers : All IsNumber node.numbers
  pub small_ending : IsNumber (ending_number node.ending)
  pub is : raw ≡ ended (node_line node)
