-- What a parser has read.
use Rattle.std.specs.Prelude.{◌≡◌, ◌≢◌, ℕ, true, false, List, [], ◌∷◌, map, reverse, length, Result, Ok, Err, Option, Some, None}
use Rattle.pm_scan.specs.declared.offence.CnfKind.{CnfKind}
use Rattle.pm_scan.specs.declared.offence.CnfKind.TheVariants as kinds
use Rattle.pm_scan.specs.declared.token.Mark.{Mark}
use Rattle.pm_cnf.specs.declared.item.Word as word
use Rattle.pm_cnf.specs.declared.item.Word.TheVariants as words
use Rattle.pm_cnf.specs.declared.item.Name as name
use Rattle.pm_cnf.specs.declared.item.Name.TheVariants as names
use Rattle.pm_cnf.specs.declared.item.Node as node
use Rattle.pm_cnf.specs.declared.item.Node.TheVariants as nodes
use Rattle.pm_cnf.specs.declared.item.Item as item
use Rattle.pm_cnf.specs.declared.limits.Limits.{Limits}
use Rattle.pm_cnf.specs.declared.parser.Bracket as bracket
use Rattle.pm_cnf.specs.declared.parser.Bracket.TheVariants as brackets
use Rattle.pm_cnf.specs.declared.parser.Expected.{Expected}
use Rattle.pm_cnf.specs.declared.parser.Expected.TheVariants as expect
use Rattle.pm_cnf.specs.declared.parser.Refusal.{Refusal}
use Rattle.pm_cnf.specs.declared.parser.Refusal.TheVariants as refusals
use Rattle.pm_cnf.specs.declared.parser.Parser.{Parser}
use Rattle.pm_scan.specs.Lexemes.{Token, upper, mark, text_of}
use Rattle.pm_cnf.specs.Grammar as grammar
use Rattle.pm_cnf.specs.Grammar.{an_argument}
use Rattle.pm_cnf.specs.Offences.{with_text, variables_from}
use Rattle.pm_cnf.specs.Inside.Machine.{ParserState, expecting, within_arguments, within_brackets, one_more, close_bracket, innermost, step, past_limit, has_too_many_variables, refusal}
use Rattle.pm_cnf.specs.Inside.Draft as draft

abbrev pub word_of : word.Word → grammar.Word
word_of (words.Bare text) = grammar.bare text.now
word_of (words.Quoted characters) = grammar.between_quotes (text_of characters.now)

abbrev pub name_of : name.Name → grammar.Name
name_of (names.Word w) = grammar.word (word_of w)
name_of (names.Integer digits) = grammar.integer digits.now

abbrev pub node_of : node.Node → draft.Node
node_of (nodes.Predicate positive w arity) = draft.predicate_node positive (word_of w) arity
node_of (nodes.Constant positive value) = draft.constant_node positive value
node_of (nodes.Function w arity) = draft.function_node (word_of w) arity
node_of (nodes.Variable text) = draft.variable_node text.now

abbrev pub item_of : item.Item → draft.Written
item_of i = record { name = name_of i.name; role = i.role.now; nodes = map node_of i.nodes.items }

abbrev pub bracket_of : bracket.Bracket → grammar.Bracket
bracket_of brackets.Parentheses = grammar.parentheses
bracket_of brackets.Brackets = grammar.brackets
bracket_of brackets.Braces = grammar.braces

abbrev pub state_of : Parser → ParserState
state_of p = record {
  expected = p.expected;
  items = length p.items.items;
  around = p.around;
  literals = p.literals;
  arguments = map (λ l. l.arguments) (reverse p.lists.items);
  open_brackets = map bracket_of (reverse p.brackets.items);
}

abbrev pub draft_of : Parser → draft.Draft
draft_of p = record {
  items = map item_of p.items.items;
  name = name_of p.name;
  role = p.role.now;
  positive = p.positive;
  nodes = map node_of p.nodes.items;
  places = map (λ l. l.symbol) (reverse p.lists.items);
}

-- the different upper words of the item
abbrev pub known_of : Parser → List (List ℕ)
known_of p = map (λ text. text.now) p.variables.keys

-- In this state the token was refused for the first reason that applies, or the parser went on by
-- one step. Memory ran out only where there is no such reason.
abbrev pub AcceptsIn : ParserState → Parser → Token → Parser → Result (Unit {0}) Refusal → Type 0
AcceptsIn s old t new (Ok _) =
    (refusal old.limits (known_of old) s t ≡ None)
    × (step s t ≡ Some (state_of new))
    × (draft_of new ≡ draft.draft s t (draft_of old))
    × (known_of new ≡ variables_from (known_of old) (t ∷ []))
    × (new.limits ≡ old.limits)
AcceptsIn s old t new (Err (refusals.Kind kind)) = refusal old.limits (known_of old) s t ≡ Some kind
AcceptsIn s old t new (Err refusals.Memory) = refusal old.limits (known_of old) s t ≡ None

-- The token was refused for the first reason that applies, or the parser went on by one step.
abbrev pub Accepts : Parser → Token → Parser → Result (Unit {0}) Refusal → Type 0
Accepts old t new r = AcceptsIn (state_of old) old t new r

-- the same, where the file goes on with this
abbrev pub AcceptsAt : Expected → Parser → Token → Parser → Result (Unit {0}) Refusal → Type 0
AcceptsAt e old t new r = AcceptsIn (expecting e (state_of old)) old t new r

-- the new parser has this state and draft, and what else the old one has
abbrev pub Becomes : ParserState → draft.Draft → Parser → Parser → Type 0
Becomes s d old new =
    (state_of new ≡ s) × (draft_of new ≡ d) × (known_of new ≡ known_of old)
    × (new.limits ≡ old.limits)

-- the token is the mark, and the file goes on with this; or it isn't
abbrev pub TakesMark :
    Parser → Token → Mark → Expected → Parser → Result (Unit {0}) Refusal → Type 0
TakesMark old t m e new (Ok _) =
    (t ≡ mark m) × Becomes (expecting e (state_of old)) (draft_of old) old new
TakesMark old t m e new (Err x) = (x ≡ refusals.Kind kinds.Unexpected) × (t ≢ mark m)

-- the node was added, and the file goes on with this
abbrev pub AddsNode : Parser → draft.Node → Expected → Parser → Result (Unit {0}) Refusal → Type 0
AddsNode old n e new (Ok _) =
    Becomes (expecting e (state_of old)) (draft.with_node n (draft_of old)) old new
AddsNode old n e new (Err x) = x ≡ refusals.Memory

-- a list of arguments of the last node was opened
abbrev pub OpensList : Parser → Parser → Result (Unit {0}) Refusal → Type 0
OpensList old new (Ok _) =
    Becomes (within_arguments (0 ∷ (state_of old).arguments) expect.Term (state_of old))
    (draft.opened (draft_of old)) old new
OpensList old new (Err x) = x ≡ refusals.Memory

-- the limit that one more argument goes past
abbrev pub argument_refusal : Limits → ParserState → Option CnfKind
argument_refusal limits s =
    past_limit limits (an_argument (innermost s.arguments) (length s.arguments)) false

-- the innermost list has one more argument
abbrev pub CountsArgument : Parser → Parser → Result (Unit {0}) Refusal → Type 0
CountsArgument old new (Ok _) =
    (argument_refusal old.limits (state_of old) ≡ None)
    × Becomes (within_arguments (one_more (state_of old).arguments) old.expected (state_of old))
    (draft_of old) old new
CountsArgument old new (Err (refusals.Kind kind)) =
    argument_refusal old.limits (state_of old) ≡ Some kind
CountsArgument old new (Err refusals.Memory) = ⊥

-- one more argument was begun by the node, and the file goes on with this
abbrev pub AddsArgument :
    Parser → draft.Node → Expected → Parser → Result (Unit {0}) Refusal → Type 0
AddsArgument old n e new (Ok _) =
    (argument_refusal old.limits (state_of old) ≡ None)
    × Becomes (within_arguments (one_more (state_of old).arguments) e (state_of old))
    (draft.with_node n (draft_of old)) old new
AddsArgument old n e new (Err (refusals.Kind kind)) =
    argument_refusal old.limits (state_of old) ≡ Some kind
AddsArgument old n e new (Err refusals.Memory) = argument_refusal old.limits (state_of old) ≡ None

-- a bracket was opened
abbrev pub OpensBracket : Parser → grammar.Bracket → Parser → Result (Unit {0}) Refusal → Type 0
OpensBracket old b new (Ok _) =
    Becomes (within_brackets (b ∷ (state_of old).open_brackets) old.expected (state_of old))
    (draft_of old) old new
OpensBracket old b new (Err x) = x ≡ refusals.Memory

-- the innermost bracket is of this kind, and was closed; or it isn't
abbrev pub ClosesBracket : Parser → grammar.Bracket → Parser → Result (Unit {0}) Refusal → Type 0
ClosesBracket old b new (Ok _) =
    (close_bracket b (state_of old).open_brackets (state_of old) ≡ Some (state_of new))
    × (draft_of new ≡ draft_of old)
    × (known_of new ≡ known_of old)
    × (new.limits ≡ old.limits)
ClosesBracket old b new (Err x) =
    (x ≡ refusals.Kind kinds.Unexpected)
    × (close_bracket b (state_of old).open_brackets (state_of old) ≡ None)

-- there may be this upper word, or it would be one too many
abbrev pub AllowsVariable : Parser → List ℕ → Result (Unit {0}) Refusal → Type 0
AllowsVariable p text (Ok _) = has_too_many_variables p.limits (known_of p) (upper text) ≡ false
AllowsVariable p text (Err x) =
    (has_too_many_variables p.limits (known_of p) (upper text) ≡ true)
    × (x ≡ refusals.Kind kinds.TooManyVariables)

-- the upper word is among those of the item, and nothing else changed
abbrev pub NotesVariable : Parser → List ℕ → Parser → Result (Unit {0}) Refusal → Type 0
NotesVariable old text new (Ok _) =
    (known_of new ≡ with_text (known_of old) text)
    × (state_of new ≡ state_of old)
    × (draft_of new ≡ draft_of old)
    × (new.limits ≡ old.limits)
NotesVariable old text new (Err x) = x ≡ refusals.Memory

-- the upper word, which there may be, is among those of the item; or it would be one too many
abbrev pub AddsVariable : Parser → List ℕ → Parser → Result (Unit {0}) Refusal → Type 0
AddsVariable old text new (Ok _) =
    (has_too_many_variables old.limits (known_of old) (upper text) ≡ false)
    × (known_of new ≡ with_text (known_of old) text)
    × (state_of new ≡ state_of old)
    × (draft_of new ≡ draft_of old)
    × (new.limits ≡ old.limits)
AddsVariable old text new (Err (refusals.Kind kind)) =
    (has_too_many_variables old.limits (known_of old) (upper text) ≡ true)
    × (kind ≡ kinds.TooManyVariables)
AddsVariable old text new (Err refusals.Memory) =
    has_too_many_variables old.limits (known_of old) (upper text) ≡ false
