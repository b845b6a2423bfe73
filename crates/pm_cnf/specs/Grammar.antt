-- The grammar of clause files: what is written, and its tokens.
use Rattle.std.specs.Prelude.{ℕ, suc, Bool, true, false, IsTrue, if◌then◌else◌, List, [], ◌∷◌, ◌++◌, map, Option, Some, None, codes}
use Rattle.std.specs.List.{list_all, AllByRecursion}
use Rattle.std.specs.Char.{is_ascii_digit}
use Rattle.pm_scan.specs.declared.token.Mark.{Mark}
use Rattle.pm_scan.specs.declared.token.Mark.TheVariants.{OpenParenthesis, CloseParenthesis, OpenBracket, CloseBracket, OpenBrace, CloseBrace, Comma, FullStop, Bar, Tilde}
use Rattle.pm_scan.specs.Lexemes.{Token, lower, upper, number, quoted, dollar, mark}

-- word = lower word | quoted word
pub data Word : Type 0 where
  bare : List ℕ → Word
  between_quotes : List ℕ → Word

abbrev pub word_text : Word → List ℕ
word_text (bare text) = text
word_text (between_quotes text) = text

-- term = upper word | word [ arguments ]
-- arguments = "(" term ( "," term )* ")"
mutual
  pub data Term : Type 0 where
    variable : List ℕ → Term
    application : Word → Arguments → Term

  pub data Arguments : Type 0 where
    no_arguments : Arguments
    more_arguments : Term → Arguments → Arguments

-- atom = word [ arguments ] | "$true" | "$false"
pub data Atom : Type 0 where
  predicate : Word → Arguments → Atom
  truth : Atom
  falsity : Atom

-- literal = [ "~" ] atom
pub record Literal : Type 0 where
  pub positive : Bool
  pub atom : Atom

-- formula = "(" formula ")" | literal ( "|" literal )*
pub data Formula : Type 0 where
  in_parentheses : Formula → Formula
  disjunction : Literal → List Literal → Formula

-- annotations = tokens in which each opening mark is closed by its own
pub data Bracket : Type 0 where
  parentheses : Bracket
  brackets : Bracket
  braces : Bracket

pub data Annotations : Type 0 where
  no_more : Annotations
  plain : Token → Annotations → Annotations
  group : Bracket → Annotations → Annotations → Annotations

-- name = lower word | quoted word | number of digits alone
pub data Name : Type 0 where
  word : Word → Name
  integer : List ℕ → Name

-- item = "cnf" "(" name "," role "," formula [ "," annotations ] ")" "."
pub record Item : Type 0 where
  pub name : Name
  pub role : List ℕ
  pub formula : Formula
  pub annotations : Option Annotations

-- What a token begins: an item, by the number of those before it; a literal, by the number of those
-- before it in its item; the atom after a ~; a term among arguments, by the number of those before
-- it and its nesting; or, for the bar between two literals, the next one.
pub data Begins : Type 0 where
  nothing : Begins
  an_item : ℕ → Begins
  a_literal : ℕ → Begins
  an_atom : Begins
  an_argument : ℕ → ℕ → Begins
  a_next_literal : Begins

-- a token with what it begins
abbrev pub Placed : Type 0
Placed = Token × Begins

abbrev pub only : Mark → Placed
only m = (mark m, nothing)

abbrev pub word_token : Word → Token
word_token (bare text) = lower text
word_token (between_quotes text) = quoted text

-- the arguments of a predicate have nesting 1
abbrev mutual
  pub term_places : ℕ → ℕ → Term → List Placed
  term_places nesting n (variable text) = (upper text, an_argument n nesting) ∷ []
  term_places nesting n (application w args) =
      (word_token w, an_argument n nesting) ∷ arguments_places (suc nesting) args

  pub arguments_places : ℕ → Arguments → List Placed
  arguments_places nesting no_arguments = []
  arguments_places nesting (more_arguments t ts) =
      only OpenParenthesis ∷ (term_places nesting 0 t ++ others_places nesting 1 ts)

  pub others_places : ℕ → ℕ → Arguments → List Placed
  others_places nesting n no_arguments = only CloseParenthesis ∷ []
  others_places nesting n (more_arguments t ts) =
      only Comma ∷ (term_places nesting n t ++ others_places nesting (suc n) ts)

abbrev pub atom_places : Begins → Atom → List Placed
atom_places begun (predicate w args) = (word_token w, begun) ∷ arguments_places 1 args
atom_places begun truth = (dollar (codes "$true"), begun) ∷ []
atom_places begun falsity = (dollar (codes "$false"), begun) ∷ []

abbrev pub literal_places : ℕ → Literal → List Placed
literal_places n literal =
    if literal.positive then atom_places (a_literal n) literal.atom
    else (mark Tilde, a_literal n) ∷ atom_places an_atom literal.atom

abbrev pub others_joined : ℕ → List Literal → List Placed
others_joined n [] = []
others_joined n (literal ∷ literals) =
    (mark Bar, a_next_literal) ∷ (literal_places n literal ++ others_joined (suc n) literals)

abbrev pub formula_places : Formula → List Placed
formula_places (in_parentheses formula) =
    only OpenParenthesis ∷ (formula_places formula ++ only CloseParenthesis ∷ [])
formula_places (disjunction first others) = literal_places 0 first ++ others_joined 1 others

abbrev pub opening : Bracket → Mark
opening parentheses = OpenParenthesis
opening brackets = OpenBracket
opening braces = OpenBrace

abbrev pub closing : Bracket → Mark
closing parentheses = CloseParenthesis
closing brackets = CloseBracket
closing braces = CloseBrace

abbrev pub annotations_places : Annotations → List Placed
annotations_places no_more = []
annotations_places (plain t ts) = (t, nothing) ∷ annotations_places ts
annotations_places (group b inside ts) =
    only (opening b) ∷ (annotations_places inside ++ only (closing b) ∷ annotations_places ts)

abbrev pub name_token : Name → Token
name_token (word w) = word_token w
name_token (integer digits) = number digits

abbrev pub ending_places : Option Annotations → List Placed
ending_places None = only CloseParenthesis ∷ only FullStop ∷ []
ending_places (Some ts) =
    only Comma ∷ (annotations_places ts ++ only CloseParenthesis ∷ only FullStop ∷ [])

abbrev pub item_places : ℕ → Item → List Placed
item_places n item =
    (lower (codes "cnf"), an_item n) ∷ only OpenParenthesis
    ∷ (name_token item.name, nothing) ∷ only Comma
    ∷ (lower item.role, nothing) ∷ only Comma
    ∷ (formula_places item.formula ++ ending_places item.annotations)

-- a file is items, the first of them with so many before it
abbrev pub file_places : ℕ → List Item → List Placed
file_places n [] = []
file_places n (item ∷ items) = item_places n item ++ file_places (suc n) items

-- the tokens alone
abbrev pub tokens_of : List Placed → List Token
tokens_of = map (λ place. place.0)

-- any token but a full stop, and neither an opening nor a closing mark
abbrev pub is_plain_token : Token → Bool
is_plain_token (mark OpenParenthesis) = false
is_plain_token (mark CloseParenthesis) = false
is_plain_token (mark OpenBracket) = false
is_plain_token (mark CloseBracket) = false
is_plain_token (mark OpenBrace) = false
is_plain_token (mark CloseBrace) = false
is_plain_token (mark FullStop) = false
is_plain_token t = true

abbrev pub AreAnnotations : Annotations → Type 0
AreAnnotations no_more = Unit {0}
AreAnnotations (plain t ts) = IsTrue (is_plain_token t) × AreAnnotations ts
AreAnnotations (group b inside ts) = AreAnnotations inside × AreAnnotations ts

-- one or more tokens
abbrev pub MayEnd : Option Annotations → Type 0
MayEnd None = Unit {0}
MayEnd (Some no_more) = ⊥
MayEnd (Some ts) = AreAnnotations ts

abbrev pub IsName : Name → Type 0
IsName (word w) = Unit {0}
IsName (integer digits) = IsTrue (list_all is_ascii_digit digits)

pub record IsItem (item : Item) : Type 0 where
  pub name : IsName item.name
  pub annotations : MayEnd item.annotations

-- items of a file
abbrev pub AreItems : List Item → Type 0
AreItems items = AllByRecursion IsItem items
