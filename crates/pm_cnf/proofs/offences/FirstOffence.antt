-- The reader refuses at the first offence.
use Rattle.std.proofs.Common.{arith, ◌≡◌, ◌≢◌, ◌<◌, ◌≤◌, ◌⊎◌, ℕ, length, List, [], ◌∷◌, ◌++◌, ap, subst, refl, drop, inl, inr}
use Rattle.std.specs.Prelude.{Option, Some, None}
use Rattle.std.specs.Option.{option_map}
use Rattle.std.proofs.lemmas.Bool.{cases_eq}
use Rattle.pm_scan.specs.declared.offence.CnfKind.{CnfKind}
use Rattle.pm_cnf.specs.declared.limits.Limits.{Limits}
use Rattle.pm_scan.specs.declared.token.Mark.TheVariants.{OpenParenthesis, CloseParenthesis, OpenBracket, CloseBracket, OpenBrace, CloseBrace, Comma, FullStop, Bar, Tilde, Equals, Other}
use Rattle.pm_cnf.specs.declared.parser.Expected.TheVariants.{Item}
use Rattle.pm_scan.specs.Lexemes.{Token, lower, upper, number, quoted, distinct, dollar, unequal, mark, Lexeme, lexeme_at, Lexes, tokens_in}
use Rattle.pm_cnf.specs.Offences.{AreWhole, Offends, Applies, next_in, IsOffence, rank, IsFirstOffence, variables, variables_from, with_text}
use Rattle.pm_cnf.specs.Inside.Machine.{ParserState, start, run, refusal}
use Rattle.pm_scan.proofs.Chains.{rest_within, same_place, goes_beyond, Lexes-push}

-- the kind is the first of those of which the token is an offence
pub record IsFirstKind (limits : Limits) (tokens : List Token) (t : Token) (kind : CnfKind) : Type 0 where
  pub offends : Offends limits tokens t kind
  pub first : (other : CnfKind) → Offends limits tokens t other → rank kind ≤ rank other

-- what a reader that has come to a state may say of the next token, and of the end
pub record Decides (limits : Limits) (tokens : List Token) (s : ParserState) : Type 0 where
  pub refused : (t : Token) (kind : CnfKind) → refusal limits (variables tokens) s t ≡ Some kind → IsFirstKind limits tokens t kind
  pub accepted : (t : Token) (kind : CnfKind) → refusal limits (variables tokens) s t ≡ None → ¬ Offends limits tokens t kind
  pub whole : s.expected ≡ Item → AreWhole tokens
  pub broken : s.expected ≢ Item → ¬ AreWhole tokens

abbrev pub AlwaysDecides : Type 0
AlwaysDecides = (limits : Limits) (tokens : List Token) (s : ParserState) → run tokens ≡ Some s → Decides limits tokens s

-- The bytes were read up to the rest, and no offence stands before it.
pub record IsClean (limits : Limits) (bytes rest : List ℕ) (s : ParserState) : Type 0 where
  pub lexemes : List Lexeme
  pub leads : Lexes lexemes bytes rest
  pub reached : run (tokens_in lexemes) ≡ Some s
  pub clean : (other : List ℕ) (kind : CnfKind) → IsOffence limits bytes other kind → length other ≤ length rest

pub clean_start : (limits : Limits) (bytes : List ℕ) → IsClean limits bytes bytes start
clean_start limits bytes = record {
  lexemes = [];
  leads = refl;
  reached = refl;
  clean = λ other kind o. rest_within o.lexemes bytes other o.leads;
}

pub variables_from-append : (known : List (List ℕ)) (ts us : List Token) → variables_from known (ts ++ us) ≡ variables_from (variables_from known ts) us
variables_from-append known [] us = refl
variables_from-append known (number text ∷ ts) us = variables_from-append known ts us
variables_from-append known (quoted text ∷ ts) us = variables_from-append known ts us
variables_from-append known (distinct ∷ ts) us = variables_from-append known ts us
variables_from-append known (dollar text ∷ ts) us = variables_from-append known ts us
variables_from-append known (unequal ∷ ts) us = variables_from-append known ts us
variables_from-append known (lower text ∷ ts) us = variables_from-append known ts us
variables_from-append known (upper text ∷ ts) us = variables_from-append (with_text known text) ts us
variables_from-append known (mark OpenParenthesis ∷ ts) us = variables_from-append known ts us
variables_from-append known (mark CloseParenthesis ∷ ts) us = variables_from-append known ts us
variables_from-append known (mark OpenBracket ∷ ts) us = variables_from-append known ts us
variables_from-append known (mark CloseBracket ∷ ts) us = variables_from-append known ts us
variables_from-append known (mark OpenBrace ∷ ts) us = variables_from-append known ts us
variables_from-append known (mark CloseBrace ∷ ts) us = variables_from-append known ts us
variables_from-append known (mark Comma ∷ ts) us = variables_from-append known ts us
variables_from-append known (mark Bar ∷ ts) us = variables_from-append known ts us
variables_from-append known (mark Tilde ∷ ts) us = variables_from-append known ts us
variables_from-append known (mark Equals ∷ ts) us = variables_from-append known ts us
variables_from-append known (mark Other ∷ ts) us = variables_from-append known ts us
variables_from-append known (mark FullStop ∷ ts) us = variables_from-append [] ts us

-- an offence at this place is one of what stands here
pub here : (limits : Limits) (lexemes : List Lexeme) (bytes rest other : List ℕ) (kind : CnfKind) → Lexes lexemes bytes rest
    → (o : IsOffence limits bytes other kind) → length other ≡ length rest → (other ≡ rest) × Applies limits (tokens_in lexemes) (next_in rest) kind
here limits lexemes bytes rest other kind leads o same =
    let at : (o.lexemes ≡ lexemes) × (other ≡ rest) = same_place lexemes o.lexemes bytes rest other leads o.leads same in (
      at.1,
      subst (λ (xs : List Lexeme). Applies limits (tokens_in xs) (next_in rest) kind) at.0
          (subst (λ (r : List ℕ). Applies limits (tokens_in o.lexemes) (next_in r) kind) at.1 o.applies),
    )

-- the next lexeme is no offence
abbrev pub clean_more : (limits : Limits) (bytes rest : List ℕ) (s next : ParserState) (x : Lexeme) (n : ℕ) → (c : IsClean limits bytes rest s) → lexeme_at rest ≡ Some (x, n)
    → run (tokens_in (c.lexemes ++ x ∷ [])) ≡ Some next → ((kind : CnfKind) → ¬ Applies limits (tokens_in c.lexemes) (Some x) kind)
    → IsClean limits bytes (drop n rest) next
clean_more limits bytes rest s next x n c at reached none = record {
  lexemes = c.lexemes ++ x ∷ [];
  leads = Lexes-push c.lexemes x n bytes rest c.leads at;
  reached = reached;
  clean = λ other kind o. beyond other kind o (c.clean other kind o);
}
  where
    beyond : (other : List ℕ) (kind : CnfKind) → IsOffence limits bytes other kind → length other ≤ length rest → length other ≤ length (drop n rest)
    beyond other kind o within = elim (cases_eq (length other) (length rest)) [
      | inl same ↦ absurd (none kind (subst (λ (r : Option Lexeme). Applies limits (tokens_in c.lexemes) r kind) (ap (option_map (λ p. p.0)) at) (here limits c.lexemes bytes rest other kind c.leads o same).1))
      | inr apart ↦ goes_beyond c.lexemes o.lexemes x n bytes rest other c.leads at o.leads (omega (arith, within, apart))
    ]

-- what stands here is an offence, and this is its first kind
pub first_here : (limits : Limits) (bytes rest : List ℕ) (s : ParserState) (kind : CnfKind) → (c : IsClean limits bytes rest s)
    → Applies limits (tokens_in c.lexemes) (next_in rest) kind → ((k : CnfKind) → Applies limits (tokens_in c.lexemes) (next_in rest) k → rank kind ≤ rank k)
    → IsFirstOffence limits bytes rest kind
first_here limits bytes rest s kind c applies least = record {
  is = record { lexemes = c.lexemes; leads = c.leads; applies = applies };
  first = λ other k o. place other k o (c.clean other k o);
}
  where
    place : (other : List ℕ) (k : CnfKind) → IsOffence limits bytes other k → length other ≤ length rest → (length other < length rest) ⊎ ((other ≡ rest) × (rank kind ≤ rank k))
    place other k o within = elim (cases_eq (length other) (length rest)) [
      | inl same ↦ (let h = here limits c.lexemes bytes rest other k c.leads o same in inr (h.0, least k h.1))
      | inr apart ↦ inl (omega (arith, within, apart))
    ]
