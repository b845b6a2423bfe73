-- How far a file was read.
use Rattle.std.specs.Prelude.{◌≡◌, ℕ, ◌≤◌, List, length, drop, Some, Result, Ok, Err}
use Rattle.pm_cnf.specs.declared.limits.Limits.{Limits}
use Rattle.pm_cnf.specs.declared.error.CnfError.{CnfError}
use Rattle.pm_cnf.specs.declared.error.CnfError.TheVariants.{At, Memory}
use Rattle.pm_scan.specs.declared.offence.CnfKind.{CnfKind}
use Rattle.pm_scan.specs.declared.offence.Place.{Place}
use Rattle.pm_cnf.specs.declared.parser.Parser.{Parser}
use Rattle.pm_cnf.specs.declared.parser.Refusal.{Refusal}
use Rattle.pm_cnf.specs.declared.parser.Refusal.TheVariants as refusals
use Rattle.pm_scan.specs.Lexemes.{Lexeme, gap, token, fault, Lexes, tokens_in}
use Rattle.pm_cnf.specs.Offences.{IsOffence, variables}
use Rattle.pm_cnf.specs.Refusals.{BeginsAt}
use Rattle.pm_cnf.specs.Inside.Machine.{start, run}
use Rattle.pm_cnf.specs.Inside.Draft.{nothing_drafted, draft_after}
use Rattle.pm_cnf.specs.Inside.Parsed.{state_of, draft_of, known_of, Accepts}

-- The lexemes up to a place were read, no offence stands before it, and the parser has read their
-- tokens.
pub record Progress (limits : Limits) (bytes : List ℕ) (parser : Parser) (place : ℕ) : Type 0 where
  pub within : place ≤ length bytes
  pub limits_are : parser.limits ≡ limits
  pub around : parser.around ≤ place
  pub lexemes : List Lexeme
  pub leads : Lexes lexemes bytes (drop place bytes)
  pub clean :
      (other : List ℕ) (kind : CnfKind) → IsOffence limits bytes other kind
      → length other ≤ length (drop place bytes)
  pub reached : run (tokens_in lexemes) ≡ Some (state_of parser)
  pub kept : draft_after (Some start) nothing_drafted (tokens_in lexemes) ≡ draft_of parser
  pub known : variables (tokens_in lexemes) ≡ known_of parser

-- One more lexeme was read: a blank or a comment changes nothing, and a fault is refused as what it
-- is.
abbrev pub AcceptsLexeme : Parser → Lexeme → Parser → Result (Unit {0}) Refusal → Type 0
AcceptsLexeme old gap new (Ok _) = new ≡ old
AcceptsLexeme old gap new (Err x) = ⊥
AcceptsLexeme old (token t) new r = Accepts old t new r
AcceptsLexeme old (fault kind) new (Ok _) = ⊥
AcceptsLexeme old (fault kind) new (Err x) = x ≡ refusals.Kind kind

-- what stands at a place is an offence of the refusal's kind
abbrev pub RefusesAt : List ℕ → ℕ → Refusal → CnfError → Type 0
RefusesAt bytes place (refusals.Kind kind) error =
    (found : Place) × (error ≡ At found kind) × BeginsAt bytes (drop place bytes) found
RefusesAt bytes place refusals.Memory error = error ≡ Memory
