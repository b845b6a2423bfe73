-- What is known of the bytes once a lexeme more was read, and at their end.
use Rattle.std.proofs.Common.{arith, ◌≡◌, ◌≢◌, ℕ, List, [], ◌∷◌, sym, ap, subst, ◌∙◌, refl, drop}
use Rattle.std.specs.Prelude.{Option, Some, None}
use Rattle.std.specs.Option.{option_map}
use Rattle.std.proofs.lemmas.List.{append-nil}
use Rattle.pm_scan.specs.declared.offence.CnfKind.{CnfKind}
use Rattle.pm_scan.specs.declared.offence.CnfKind.TheVariants.{EndInItem}
use Rattle.pm_cnf.specs.declared.limits.Limits.{Limits}
use Rattle.pm_cnf.specs.declared.parser.Expected.TheVariants.{Item}
use Rattle.pm_scan.specs.Lexemes.{Token, Lexeme, gap, token, fault, lexeme_at, tokens_in}
use Rattle.pm_cnf.specs.Offences.{Applies, next_in, IsOffence, rank, IsFirstOffence, variables}
use Rattle.pm_cnf.specs.Inside.Machine.{ParserState, step, run, refusal}
use Rattle.pm_scan.proofs.Chains.{tokens_in-append}
use Rattle.pm_cnf.proofs.offences.FirstOffence.{IsFirstKind, IsClean, clean_more, first_here, here}
use Rattle.pm_cnf.proofs.offences.Deciding.{decides}
use Rattle.pm_cnf.proofs.grammar.Follows.{run-push}

next_is : (rest : List ℕ) (x : Lexeme) (n : ℕ) → lexeme_at rest ≡ Some (x, n) → next_in rest ≡ Some x
next_is rest x n at = ap (option_map (λ p. p.0)) at

-- a blank or a comment
abbrev pub clean_gap : (limits : Limits) (bytes rest : List ℕ) (s : ParserState) (n : ℕ) → IsClean limits bytes rest s → lexeme_at rest ≡ Some (gap, n)
    → IsClean limits bytes (drop n rest) s
clean_gap limits bytes rest s n c at =
    clean_more limits bytes rest s s gap n c at (ap run (tokens_in-append c.lexemes (gap ∷ []) ∙ append-nil (tokens_in c.lexemes)) ∙ c.reached) (λ kind h. h)

-- a token that is accepted
abbrev pub clean_token : (limits : Limits) (bytes rest : List ℕ) (s next : ParserState) (t : Token) (n : ℕ) → (c : IsClean limits bytes rest s) → lexeme_at rest ≡ Some (token t, n)
    → refusal limits (variables (tokens_in c.lexemes)) s t ≡ None → step s t ≡ Some next → IsClean limits bytes (drop n rest) next
clean_token limits bytes rest s next t n c at accepted goes =
    clean_more limits bytes rest s next (token t) n c at
    (ap run (tokens_in-append c.lexemes (token t ∷ [])) ∙ run-push (tokens_in c.lexemes) t s c.reached ∙ goes)
    (λ kind h. (decides limits (tokens_in c.lexemes) s c.reached).accepted t kind accepted h)

-- a token that is refused
pub refused_here : (limits : Limits) (bytes rest : List ℕ) (s : ParserState) (t : Token) (n : ℕ) (kind : CnfKind) → (c : IsClean limits bytes rest s)
    → lexeme_at rest ≡ Some (token t, n) → refusal limits (variables (tokens_in c.lexemes)) s t ≡ Some kind → IsFirstOffence limits bytes rest kind
refused_here limits bytes rest s t n kind c at says =
    let ts : List Token = tokens_in c.lexemes in
    let f : IsFirstKind limits ts t kind = (decides limits ts s c.reached).refused t kind says in
    first_here limits bytes rest s kind c
    (subst (λ (o : Option Lexeme). Applies limits ts o kind) (sym (next_is rest (token t) n at)) f.offends)
    (λ k h. f.first k (subst (λ (o : Option Lexeme). Applies limits ts o k) (next_is rest (token t) n at) h))

-- no token can be read
pub fault_here : (limits : Limits) (bytes rest : List ℕ) (s : ParserState) (n : ℕ) (kind : CnfKind) → (c : IsClean limits bytes rest s)
    → lexeme_at rest ≡ Some (fault kind, n) → IsFirstOffence limits bytes rest kind
fault_here limits bytes rest s n kind c at =
    let ts : List Token = tokens_in c.lexemes in
    first_here limits bytes rest s kind c
    (subst (λ (o : Option Lexeme). Applies limits ts o kind) (sym (next_is rest (fault kind) n at)) refl)
    (λ k h. let same : kind ≡ k = subst (λ (o : Option Lexeme). Applies limits ts o k) (next_is rest (fault kind) n at) h in omega (arith, ap rank same))

-- the file ends inside an item
pub end_here : (limits : Limits) (bytes : List ℕ) (s : ParserState) → IsClean limits bytes [] s → s.expected ≢ Item → IsFirstOffence limits bytes [] EndInItem
end_here limits bytes s c other =
    first_here limits bytes [] s EndInItem c (refl, (decides limits (tokens_in c.lexemes) s c.reached).broken other)
    (λ k h. omega (arith, ap rank h.0))

-- the file ends after items, and has no offence
pub no_offence : (limits : Limits) (bytes : List ℕ) (s : ParserState) → IsClean limits bytes [] s → s.expected ≡ Item
    → (rest : List ℕ) (kind : CnfKind) → ¬ IsOffence limits bytes rest kind
no_offence limits bytes s c whole rest kind o =
    let place = here limits c.lexemes bytes [] rest kind c.leads o (omega (arith, c.clean rest kind o)) in
    place.1.1 ((decides limits (tokens_in c.lexemes) s c.reached).whole whole)
