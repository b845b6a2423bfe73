-- Offences of a clause file, and the first of them.
use Rattle.std.specs.Prelude.{◌≡◌, ◌≢◌, ℕ, ◌<◌, ◌≤◌, ◌⊎◌, if◌then◌else◌, List, [], ◌∷◌, ◌++◌, length, Option, Some, None, Contains, codes}
use Rattle.std.specs.List.{list_any}
use Rattle.std.specs.Option.{option_map}
use Rattle.std.specs.Str.{bytes_eq}
use Rattle.pm_scan.specs.declared.token.Mark.TheVariants.{FullStop, Equals}
use Rattle.pm_scan.specs.declared.offence.CnfKind.{CnfKind}
use Rattle.pm_scan.specs.declared.offence.CnfKind.TheVariants as kinds
use Rattle.pm_cnf.specs.declared.limits.Limits.{Limits}
use Rattle.pm_scan.specs.Lexemes.{Token, lower, upper, number, distinct, unequal, mark, Lexeme, gap, token, fault, lexeme_at, Lexes, tokens_in}
use Rattle.pm_cnf.specs.Grammar.{Item, AreItems, Begins, a_literal, an_atom, an_item, an_argument, a_next_literal, Placed, file_places, tokens_of}

-- the tokens are those of whole items
pub record AreWhole (tokens : List Token) : Type 0 where
  pub items : List Item
  pub are : AreItems items
  pub file : tokens_of (file_places 0 items) ≡ tokens

-- Some further tokens make a file of the tokens with this one after them, in which it begins this.
pub record MayStand (tokens : List Token) (t : Token) (begun : Begins) : Type 0 where
  pub items : List Item
  pub are : AreItems items
  pub before : List Placed
  pub after : List Placed
  pub file : file_places 0 items ≡ before ++ (t, begun) ∷ after
  pub stands : tokens_of before ≡ tokens

-- a literal or an atom after a ~
abbrev pub IsAtomPlace : Begins → Type 0
IsAtomPlace (a_literal n) = Unit {0}
IsAtomPlace an_atom = Unit {0}
IsAtomPlace begun = ⊥

-- a literal, an atom after a ~, or a term
abbrev pub IsTermPlace : Begins → Type 0
IsTermPlace (an_argument n nesting) = Unit {0}
IsTermPlace begun = IsAtomPlace begun

-- a token may stand after the tokens that begins this
abbrev pub MayBegin : List Token → Begins → Type 0
MayBegin tokens begun = (t : Token) × MayStand tokens t begun

-- The token is allowed after the tokens, and begins this. An upper word is allowed too where a
-- literal, or an atom after a ~, begins, though nothing is allowed after it.
abbrev pub IsAllowed : List Token → Token → Begins → Type 0
IsAllowed tokens (upper text) begun =
    MayStand tokens (upper text) begun ⊎ (IsAtomPlace begun × MayBegin tokens begun)
IsAllowed tokens t begun = MayStand tokens t begun

-- a literal, an atom after a ~, or a term may begin after the tokens
abbrev pub TermMayBegin : List Token → Type 0
TermMayBegin tokens = (begun : Begins) × IsTermPlace begun × MayBegin tokens begun

-- the tokens end with an upper word in the place of an atom
abbrev pub EndsWithUpperWord : List Token → Type 0
EndsWithUpperWord tokens =
    (before : List Token) × (text : List ℕ) × (begun : Begins)
    × (tokens ≡ before ++ upper text ∷ []) × IsAtomPlace begun × MayBegin before begun

-- the tokens end with an atom, or with an upper word in the place of one
abbrev pub EndsWithAtom : List Token → Type 0
EndsWithAtom tokens = MayBegin tokens a_next_literal ⊎ EndsWithUpperWord tokens

abbrev pub with_text : List (List ℕ) → List ℕ → List (List ℕ)
with_text texts text = if list_any (bytes_eq text) texts then texts else texts ++ text ∷ []

-- the different upper words, on from these, of the item that the tokens end in
abbrev pub variables_from : List (List ℕ) → List Token → List (List ℕ)
variables_from texts [] = texts
variables_from texts (upper text ∷ tokens) = variables_from (with_text texts text) tokens
variables_from texts (mark FullStop ∷ tokens) = variables_from [] tokens
variables_from texts (t ∷ tokens) = variables_from texts tokens

abbrev pub variables : List Token → List (List ℕ)
variables tokens = variables_from [] tokens

abbrev pub IsEquality : Token → Type 0
IsEquality unequal = Unit {0}
IsEquality (mark Equals) = Unit {0}
IsEquality t = ⊥

-- The token after the tokens is an offence of this kind.
abbrev pub Offends : Limits → List Token → Token → CnfKind → Type 0
Offends limits tokens t kinds.Include = (t ≡ lower (codes "include")) × AreWhole tokens
Offends limits tokens t kinds.NotCnf =
    (text : List ℕ) × (t ≡ lower text) × (text ≢ codes "cnf") × AreWhole tokens
Offends limits tokens t kinds.Number = (text : List ℕ) × (t ≡ number text) × TermMayBegin tokens
Offends limits tokens t kinds.DistinctObject = (t ≡ distinct) × TermMayBegin tokens
Offends limits tokens t kinds.Equality = IsEquality t × EndsWithAtom tokens
Offends limits tokens t kinds.Unexpected = (begun : Begins) → ¬ IsAllowed tokens t begun
Offends limits tokens t kinds.TooManyClauses =
    (n : ℕ) × IsAllowed tokens t (an_item n) × (limits.clauses ≤ n)
Offends limits tokens t kinds.TooManyLiterals =
    (n : ℕ) × IsAllowed tokens t (a_literal n) × (limits.literals ≤ n)
Offends limits tokens t kinds.TooManyVariables =
    (text : List ℕ) × (t ≡ upper text) × (¬ Contains (variables tokens) text)
    × (limits.variables ≤ length (variables tokens))
Offends limits tokens t kinds.ArityTooLarge =
    (n : ℕ) × (nesting : ℕ) × IsAllowed tokens t (an_argument n nesting) × (limits.arity ≤ n)
Offends limits tokens t kinds.TooDeep =
    (n : ℕ) × (nesting : ℕ) × IsAllowed tokens t (an_argument n nesting)
    × (limits.nesting < nesting)
Offends limits tokens t kind = ⊥

-- What comes after the tokens is an offence of this kind.
abbrev pub Applies : Limits → List Token → Option Lexeme → CnfKind → Type 0
Applies limits tokens None kind = (kind ≡ kinds.EndInItem) × ¬ AreWhole tokens
Applies limits tokens (Some gap) kind = ⊥
Applies limits tokens (Some (fault k)) kind = k ≡ kind
Applies limits tokens (Some (token t)) kind = Offends limits tokens t kind

-- what stands at the front of bytes, without its length
abbrev pub next_in : List ℕ → Option Lexeme
next_in bytes = option_map (λ x. x.0) (lexeme_at bytes)

-- An offence of this kind stands in the bytes, with these bytes from its place on.
pub record IsOffence (limits : Limits) (bytes rest : List ℕ) (kind : CnfKind) : Type 0 where
  pub lexemes : List Lexeme
  pub leads : Lexes lexemes bytes rest
  pub applies : Applies limits (tokens_in lexemes) (next_in rest) kind

-- at one place the kinds count in this order
abbrev pub rank : CnfKind → ℕ
rank kinds.BadByte = 0
rank kinds.UnclosedComment = 1
rank kinds.BadToken = 2
rank kinds.UnclosedQuote = 3
rank kinds.EndInItem = 4
rank kinds.Include = 5
rank kinds.NotCnf = 6
rank kinds.Number = 7
rank kinds.DistinctObject = 8
rank kinds.Equality = 9
rank kinds.Unexpected = 10
rank kinds.TooManyClauses = 11
rank kinds.TooManyLiterals = 12
rank kinds.TooManyVariables = 13
rank kinds.ArityTooLarge = 14
rank kinds.TooDeep = 15

-- The first offence: no other one stands at an earlier place, or at this place with a kind before
-- its own.
pub record IsFirstOffence (limits : Limits) (bytes rest : List ℕ) (kind : CnfKind) : Type 0 where
  pub is : IsOffence limits bytes rest kind
  pub first :
      (other : List ℕ) (k : CnfKind) → IsOffence limits bytes other k
      → (length other < length rest) ⊎ ((other ≡ rest) × (rank kind ≤ rank k))
