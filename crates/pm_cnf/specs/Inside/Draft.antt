-- Items in the form in which they are kept while they are read: as lists of nodes.
use Rattle.std.specs.Prelude.{ℕ, zero, suc, ◌-◌, Bool, true, false, List, [], ◌∷◌, ◌++◌, length, Option, Some, None, codes}
use Rattle.std.specs.List.{flat_map}
use Rattle.std.specs.Str.{bytes_eq}
use Rattle.pm_scan.specs.declared.token.Mark.TheVariants.{OpenParenthesis, CloseParenthesis, FullStop, Tilde}
use Rattle.pm_cnf.specs.declared.parser.Expected.{Expected}
use Rattle.pm_cnf.specs.declared.parser.Expected.TheVariants as expect
use Rattle.pm_scan.specs.Lexemes.{Token, lower, upper, number, quoted, dollar, mark}
use Rattle.pm_cnf.specs.Grammar as grammar
use Rattle.pm_cnf.specs.Grammar.{Word, bare, between_quotes}
use Rattle.pm_cnf.specs.Meaning.{literals_of, argument_count}
use Rattle.pm_cnf.specs.Inside.Machine.{ParserState, step, innermost}

-- the head of a literal, or a symbol or variable of a term
pub data Node : Type 0 where
  predicate_node : Bool → Word → ℕ → Node
  constant_node : Bool → Bool → Node
  function_node : Word → ℕ → Node
  variable_node : List ℕ → Node

-- an item: its name, its role, and the nodes of its literals
pub record Written : Type 0 where
  pub name : grammar.Name
  pub role : List ℕ
  pub nodes : List Node

-- the nodes of a term, a symbol before its arguments, from left to right
abbrev mutual
  pub term_nodes : grammar.Term → List Node
  term_nodes (grammar.variable text) = variable_node text ∷ []
  term_nodes (grammar.application w args) =
      function_node w (argument_count args) ∷ arguments_nodes args

  pub arguments_nodes : grammar.Arguments → List Node
  arguments_nodes grammar.no_arguments = []
  arguments_nodes (grammar.more_arguments t ts) = term_nodes t ++ arguments_nodes ts

abbrev pub atom_nodes : Bool → grammar.Atom → List Node
atom_nodes positive (grammar.predicate w args) =
    predicate_node positive w (argument_count args) ∷ arguments_nodes args
atom_nodes positive grammar.truth = constant_node positive true ∷ []
atom_nodes positive grammar.falsity = constant_node positive false ∷ []

abbrev pub literal_nodes : grammar.Literal → List Node
literal_nodes literal = atom_nodes literal.positive literal.atom

abbrev pub written : grammar.Item → Written
written item = record {
  name = item.name;
  role = item.role;
  nodes = flat_map literal_nodes (literals_of item.formula);
}

-- What is kept of the items that were read, and of the one that is being read: its name, its role,
-- the sign of the literal that was begun, its nodes, and for each open list of arguments, the
-- innermost first, the place of its symbol's node.
pub record Draft : Type 0 where
  pub items : List Written
  pub name : grammar.Name
  pub role : List ℕ
  pub positive : Bool
  pub nodes : List Node
  pub places : List ℕ

-- the node of a symbol that takes so many arguments
abbrev pub with_arity : ℕ → Node → Node
with_arity n (predicate_node positive w arity) = predicate_node positive w n
with_arity n (function_node w arity) = function_node w n
with_arity n node = node

-- the node at a place is of a symbol that takes so many arguments
abbrev pub set_arity : ℕ → ℕ → List Node → List Node
set_arity place n [] = []
set_arity zero n (node ∷ nodes) = with_arity n node ∷ nodes
set_arity (suc place) n (node ∷ nodes) = node ∷ set_arity place n nodes

abbrev pub named : grammar.Name → Draft → Draft
named name d = record d { name = name }

abbrev pub ranked : List ℕ → Draft → Draft
ranked role d = record d { role = role }

abbrev pub signed : Bool → Draft → Draft
signed positive d = record d { positive = positive }

abbrev pub with_node : Node → Draft → Draft
with_node node d = record d { nodes = d.nodes ++ node ∷ [] }

-- the last node's list of arguments is open
abbrev pub opened : Draft → Draft
opened d = record d { places = (length d.nodes - 1) ∷ d.places }

-- the innermost list of arguments was closed after so many
abbrev pub closed_after : ℕ → List ℕ → Draft → Draft
closed_after n [] d = d
closed_after n (place ∷ places) d = record d { nodes = set_arity place n d.nodes; places = places }

abbrev pub finished : Draft → Draft
finished d = record d {
  items = d.items ++ record { name = d.name; role = d.role; nodes = d.nodes } ∷ [];
  nodes = [];
  places = [];
}

abbrev pub draft_name : Token → Draft → Draft
draft_name (lower text) d = named (grammar.word (bare text)) d
draft_name (quoted text) d = named (grammar.word (between_quotes text)) d
draft_name (number text) d = named (grammar.integer text) d
draft_name t d = d

abbrev pub draft_role : Token → Draft → Draft
draft_role (lower text) d = ranked text d
draft_role t d = d

abbrev pub draft_atom : Token → Draft → Draft
draft_atom (lower text) d = with_node (predicate_node d.positive (bare text) 0) d
draft_atom (quoted text) d = with_node (predicate_node d.positive (between_quotes text) 0) d
draft_atom (dollar text) d = with_node (constant_node d.positive (bytes_eq text (codes "$true"))) d
draft_atom t d = d

abbrev pub draft_literal : Token → Draft → Draft
draft_literal (mark Tilde) d = signed false d
draft_literal t d = draft_atom t (signed true d)

abbrev pub draft_formula : Token → Draft → Draft
draft_formula (mark OpenParenthesis) d = d
draft_formula t d = draft_literal t d

abbrev pub draft_term : Token → Draft → Draft
draft_term (lower text) d = with_node (function_node (bare text) 0) d
draft_term (quoted text) d = with_node (function_node (between_quotes text) 0) d
draft_term (upper text) d = with_node (variable_node text) d
draft_term t d = d

abbrev pub draft_symbol_end : ParserState → Token → Draft → Draft
draft_symbol_end s (mark OpenParenthesis) d = opened d
draft_symbol_end s t d = d

abbrev pub draft_term_end : ParserState → Token → Draft → Draft
draft_term_end s (mark CloseParenthesis) d = closed_after (innermost s.arguments) d.places d
draft_term_end s (mark OpenParenthesis) d = opened d
draft_term_end s t d = d

abbrev pub draft_stop : Token → Draft → Draft
draft_stop (mark FullStop) d = finished d
draft_stop t d = d

-- what is kept once an allowed token was read
abbrev pub draft_at : Expected → ParserState → Token → Draft → Draft
draft_at expect.Name s t d = draft_name t d
draft_at expect.Role s t d = draft_role t d
draft_at expect.Formula s t d = draft_formula t d
draft_at expect.Literal s t d = draft_literal t d
draft_at expect.Atom s t d = draft_atom t d
draft_at expect.PredicateEnd s t d = draft_symbol_end s t d
draft_at expect.Term s t d = draft_term t d
draft_at expect.FunctionEnd s t d = draft_term_end s t d
draft_at expect.TermEnd s t d = draft_term_end s t d
draft_at expect.FullStop s t d = draft_stop t d
draft_at e s t d = d

abbrev pub draft : ParserState → Token → Draft → Draft
draft s t d = draft_at s.expected s t d

abbrev pub nothing_drafted : Draft
nothing_drafted = record {
  items = [];
  name = grammar.word (bare []);
  role = [];
  positive = true;
  nodes = [];
  places = [];
}

-- what is kept after these tokens, on from a state and what was kept then
abbrev pub draft_after : Option ParserState → Draft → List Token → Draft
draft_after None d ts = d
draft_after (Some s) d [] = d
draft_after (Some s) d (t ∷ ts) = draft_after (step s t) (draft s t d) ts
