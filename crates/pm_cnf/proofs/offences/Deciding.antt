-- Of the offences that a token is, the reader says the first.
use Rattle.std.proofs.Common.{arith, ◌≡◌, ◌≢◌, ◌<◌, ◌≤◌, ℕ, length, Bool, true, false, List, sym, ap, ap₂, subst, ◌∙◌, refl}
use Rattle.std.specs.Prelude.{Option, Some, None, Contains, codes, nat_le, nat_lt, not, ◌&&◌, if◌then◌else◌}
use Rattle.std.specs.List.{list_any}
use Rattle.std.specs.Str.{bytes_eq}
use Rattle.std.specs.Cmp.{decided}
use Rattle.std.proofs.lemmas.Map.Views.{Contains-from_any, list_any-from_Contains}
use Rattle.std.proofs.lemmas.Option.{none-some, same_Some}
use Rattle.std.proofs.lemmas.Slice.Eq.{bytes_eq-Decides}
use Rattle.std.proofs.lemmas.Bool.{true≢false, and_parts, not-true, leb-true, leb-false, ltb-true, ltb-false}
use Rattle.pm_scan.specs.declared.offence.CnfKind.{CnfKind}
use Rattle.pm_scan.specs.declared.offence.CnfKind.TheVariants.{BadByte, BadToken, UnclosedComment, UnclosedQuote, Unexpected, EndInItem, NotCnf, Include, Equality, Number, DistinctObject, TooManyClauses, TooManyLiterals, TooManyVariables, ArityTooLarge, TooDeep}
use Rattle.pm_cnf.specs.declared.limits.Limits.{Limits}
use Rattle.pm_scan.specs.declared.token.Mark.TheVariants.{Equals}
use Rattle.pm_cnf.specs.declared.parser.Expected.{Expected}
use Rattle.pm_cnf.specs.declared.parser.Expected.TheVariants as expect
use Rattle.pm_scan.specs.Lexemes.{Token, lower, upper, number, quoted, distinct, dollar, unequal, mark}
use Rattle.pm_cnf.specs.Grammar.{Begins, nothing, an_item, a_literal, an_atom, an_argument, a_next_literal}
use Rattle.pm_cnf.specs.Offences.{IsEquality, Offends, rank, variables}
use Rattle.pm_cnf.specs.Inside.Machine.{ParserState, expecting, step, step_at, run, begun_at, refusal_of, refusal_at, past_limit, has_too_many_variables, item_refusal, term_refusal, atom_end_refusal}
use Rattle.pm_cnf.proofs.grammar.Viable.{IsTermPlaceState, IsAtomEndState, whole_state, allowed_state, unexpected_state, term_place_state, atom_end_state, begun_item}
use Rattle.pm_cnf.proofs.offences.FirstOffence.{IsFirstKind, Decides}

-- what an offence says of the state that expects this
abbrev pub Fits : Limits → List (List ℕ) → Expected → ParserState → Token → CnfKind → Type 0
Fits limits known e s t Include = (t ≡ lower (codes "include")) × (e ≡ expect.Item)
Fits limits known e s t NotCnf = (text : List ℕ) × (t ≡ lower text) × (text ≢ codes "cnf") × (e ≡ expect.Item)
Fits limits known e s t Number = (text : List ℕ) × (t ≡ number text) × IsTermPlaceState e
Fits limits known e s t DistinctObject = (t ≡ distinct) × IsTermPlaceState e
Fits limits known e s t Equality = IsEquality t × IsAtomEndState e
Fits limits known e s t Unexpected = step_at e s t ≡ None
Fits limits known e s t TooManyClauses = (n : ℕ) × (step_at e s t ≢ None) × (begun_at e s t ≡ an_item n) × (limits.clauses ≤ n)
Fits limits known e s t TooManyLiterals = (n : ℕ) × (step_at e s t ≢ None) × (begun_at e s t ≡ a_literal n) × (limits.literals ≤ n)
Fits limits known e s t TooManyVariables = (text : List ℕ) × (t ≡ upper text) × (¬ Contains known text) × (limits.variables ≤ length known)
Fits limits known e s t ArityTooLarge = (n : ℕ) × (nesting : ℕ) × (step_at e s t ≢ None) × (begun_at e s t ≡ an_argument n nesting) × (limits.arity ≤ n)
Fits limits known e s t TooDeep = (n : ℕ) × (nesting : ℕ) × (step_at e s t ≢ None) × (begun_at e s t ≡ an_argument n nesting) × (limits.nesting < nesting)
Fits limits known e s t kind = ⊥

fits : (limits : Limits) (ts : List Token) (s : ParserState) → run ts ≡ Some s → (t : Token) (kind : CnfKind) → Offends limits ts t kind → Fits limits (variables ts) s.expected s t kind
fits limits ts s r t Include h = (h.0, (whole_state ts s r).0 h.1)
fits limits ts s r t NotCnf h = (h.0, h.1, h.2, (whole_state ts s r).0 h.3)
fits limits ts s r t Number h = (h.0, h.1, (term_place_state ts s r).0 h.2)
fits limits ts s r t DistinctObject h = (h.0, (term_place_state ts s r).0 h.1)
fits limits ts s r t Equality h = (h.0, (atom_end_state ts s r).0 h.1)
fits limits ts s r t Unexpected h = (unexpected_state ts s r t).0 h
fits limits ts s r t TooManyClauses h = let a = (allowed_state ts s r t (an_item h.0)).0 h.1 in (h.0, a.0, a.1, h.2)
fits limits ts s r t TooManyLiterals h = let a = (allowed_state ts s r t (a_literal h.0)).0 h.1 in (h.0, a.0, a.1, h.2)
fits limits ts s r t TooManyVariables h = h
fits limits ts s r t ArityTooLarge h = let a = (allowed_state ts s r t (an_argument h.0 h.1)).0 h.2 in (h.0, h.1, a.0, a.1, h.3)
fits limits ts s r t TooDeep h = let a = (allowed_state ts s r t (an_argument h.0 h.1)).0 h.2 in (h.0, h.1, a.0, a.1, h.3)
fits limits ts s r t BadByte h = absurd h
fits limits ts s r t BadToken h = absurd h
fits limits ts s r t UnclosedComment h = absurd h
fits limits ts s r t UnclosedQuote h = absurd h
fits limits ts s r t EndInItem h = absurd h

offends : (limits : Limits) (ts : List Token) (s : ParserState) → run ts ≡ Some s → (t : Token) (kind : CnfKind) → Fits limits (variables ts) s.expected s t kind → Offends limits ts t kind
offends limits ts s r t Include h = (h.0, (whole_state ts s r).1 h.1)
offends limits ts s r t NotCnf h = (h.0, h.1, h.2, (whole_state ts s r).1 h.3)
offends limits ts s r t Number h = (h.0, h.1, (term_place_state ts s r).1 h.2)
offends limits ts s r t DistinctObject h = (h.0, (term_place_state ts s r).1 h.1)
offends limits ts s r t Equality h = (h.0, (atom_end_state ts s r).1 h.1)
offends limits ts s r t Unexpected h = (unexpected_state ts s r t).1 h
offends limits ts s r t TooManyClauses h = (h.0, (allowed_state ts s r t (an_item h.0)).1 (h.1, h.2), h.3)
offends limits ts s r t TooManyLiterals h = (h.0, (allowed_state ts s r t (a_literal h.0)).1 (h.1, h.2), h.3)
offends limits ts s r t TooManyVariables h = h
offends limits ts s r t ArityTooLarge h = (h.0, h.1, (allowed_state ts s r t (an_argument h.0 h.1)).1 (h.2, h.3), h.4)
offends limits ts s r t TooDeep h = (h.0, h.1, (allowed_state ts s r t (an_argument h.0 h.1)).1 (h.2, h.3), h.4)
offends limits ts s r t BadByte h = absurd h
offends limits ts s r t BadToken h = absurd h
offends limits ts s r t UnclosedComment h = absurd h
offends limits ts s r t UnclosedQuote h = absurd h
offends limits ts s r t EndInItem h = absurd h

-- the kind fits, and none that comes before it does
pub record IsFirstFit (limits : Limits) (known : List (List ℕ)) (e : Expected) (s : ParserState) (t : Token) (kind : CnfKind) : Type 0 where
  pub fit : Fits limits known e s t kind
  pub first : (other : CnfKind) → Fits limits known e s t other → rank kind ≤ rank other

-- a rank that isn't above those of the kinds which fit
least : (limits : Limits) (known : List (List ℕ)) (e : Expected) (s : ParserState) (t : Token) (n : ℕ)
    → (Fits limits known e s t Include → n ≤ 5) → (Fits limits known e s t NotCnf → n ≤ 6) → (Fits limits known e s t Number → n ≤ 7)
    → (Fits limits known e s t DistinctObject → n ≤ 8) → (Fits limits known e s t Equality → n ≤ 9) → (Fits limits known e s t Unexpected → n ≤ 10)
    → (Fits limits known e s t TooManyClauses → n ≤ 11) → (Fits limits known e s t TooManyLiterals → n ≤ 12) → (Fits limits known e s t TooManyVariables → n ≤ 13)
    → (Fits limits known e s t ArityTooLarge → n ≤ 14) → (Fits limits known e s t TooDeep → n ≤ 15)
    → (other : CnfKind) → Fits limits known e s t other → n ≤ rank other
least limits known e s t n a _ _ _ _ _ _ _ _ _ _ Include h = a h
least limits known e s t n _ b _ _ _ _ _ _ _ _ _ NotCnf h = b h
least limits known e s t n _ _ c _ _ _ _ _ _ _ _ Number h = c h
least limits known e s t n _ _ _ d _ _ _ _ _ _ _ DistinctObject h = d h
least limits known e s t n _ _ _ _ f _ _ _ _ _ _ Equality h = f h
least limits known e s t n _ _ _ _ _ g _ _ _ _ _ Unexpected h = g h
least limits known e s t n _ _ _ _ _ _ i _ _ _ _ TooManyClauses h = i h
least limits known e s t n _ _ _ _ _ _ _ j _ _ _ TooManyLiterals h = j h
least limits known e s t n _ _ _ _ _ _ _ _ l _ _ TooManyVariables h = l h
least limits known e s t n _ _ _ _ _ _ _ _ _ m _ ArityTooLarge h = m h
least limits known e s t n _ _ _ _ _ _ _ _ _ _ o TooDeep h = o h
least limits known e s t n _ _ _ _ _ _ _ _ _ _ _ BadByte h = absurd h
least limits known e s t n _ _ _ _ _ _ _ _ _ _ _ BadToken h = absurd h
least limits known e s t n _ _ _ _ _ _ _ _ _ _ _ UnclosedComment h = absurd h
least limits known e s t n _ _ _ _ _ _ _ _ _ _ _ UnclosedQuote h = absurd h
least limits known e s t n _ _ _ _ _ _ _ _ _ _ _ EndInItem h = absurd h

other_first : (limits : Limits) (known : List (List ℕ)) (e : Expected) (s : ParserState) (t : Token) → e ≢ expect.Item → ¬ IsTermPlaceState e → ¬ IsAtomEndState e
    → step_at e s t ≡ None → IsFirstFit limits known e s t Unexpected
other_first limits known e s t item term atom refused = record {
  fit = refused;
  first = least limits known e s t 10 (λ h. absurd (item h.1)) (λ h. absurd (item h.3)) (λ h. absurd (term h.2)) (λ h. absurd (term h.1)) (λ h. absurd (atom h.1))
      (λ _. omega arith) (λ _. omega arith) (λ _. omega arith) (λ _. omega arith) (λ _. omega arith) (λ _. omega arith);
}

-- where a term begins
term_first : (limits : Limits) (known : List (List ℕ)) (e : Expected) (s : ParserState) (t : Token) → e ≢ expect.Item → IsTermPlaceState e → ¬ IsAtomEndState e
    → step_at e s t ≡ None → IsFirstFit limits known e s t (term_refusal t)
term_first limits known e s (number text) item term atom refused = record {
  fit = (text, refl, term);
  first = least limits known e s (number text) 7 (λ h. absurd (item h.1)) (λ h. absurd (item h.3)) (λ _. omega arith) (λ _. omega arith) (λ _. omega arith) (λ _. omega arith) (λ _. omega arith) (λ _. omega arith) (λ _. omega arith) (λ _. omega arith) (λ _. omega arith);
}
term_first limits known e s distinct item term atom refused = record {
  fit = (refl, term);
  first = least limits known e s distinct 8 (λ h. absurd (item h.1)) (λ h. absurd (item h.3)) (λ h. absurd (let q = h.1 in cc)) (λ _. omega arith) (λ _. omega arith) (λ _. omega arith) (λ _. omega arith) (λ _. omega arith) (λ _. omega arith) (λ _. omega arith) (λ _. omega arith);
}
term_first limits known e s t item term atom refused = record {
  fit = refused;
  first = least limits known e s t 10 (λ h. absurd (item h.1)) (λ h. absurd (item h.3)) (λ h. absurd (let q = h.1 in cc)) (λ h. absurd (let q = h.0 in cc)) (λ h. absurd (atom h.1))
      (λ _. omega arith) (λ _. omega arith) (λ _. omega arith) (λ _. omega arith) (λ _. omega arith) (λ _. omega arith);
}

unexpected_first : (limits : Limits) (known : List (List ℕ)) (e : Expected) (s : ParserState) (t : Token) → e ≢ expect.Item → ¬ IsTermPlaceState e → ¬ IsEquality t
    → step_at e s t ≡ None → IsFirstFit limits known e s t Unexpected
unexpected_first limits known e s t item term apart refused = record {
  fit = refused;
  first = least limits known e s t 10 (λ h. absurd (item h.1)) (λ h. absurd (item h.3)) (λ h. absurd (term h.2)) (λ h. absurd (term h.1)) (λ h. absurd (apart h.0))
      (λ _. omega arith) (λ _. omega arith) (λ _. omega arith) (λ _. omega arith) (λ _. omega arith) (λ _. omega arith);
}

-- after an atom
atom_end_first : (limits : Limits) (known : List (List ℕ)) (e : Expected) (s : ParserState) (t : Token) → e ≢ expect.Item → ¬ IsTermPlaceState e → IsAtomEndState e
    → step_at e s t ≡ None → IsFirstFit limits known e s t (atom_end_refusal t)
atom_end_first limits known e s unequal item term atom refused = record {
  fit = (_, atom);
  first = least limits known e s unequal 9 (λ h. absurd (item h.1)) (λ h. absurd (item h.3)) (λ h. absurd (term h.2)) (λ h. absurd (term h.1)) (λ _. omega arith) (λ _. omega arith) (λ _. omega arith) (λ _. omega arith) (λ _. omega arith) (λ _. omega arith) (λ _. omega arith);
}
atom_end_first limits known e s (mark Equals) item term atom refused = record {
  fit = (_, atom);
  first = least limits known e s (mark Equals) 9 (λ h. absurd (item h.1)) (λ h. absurd (item h.3)) (λ h. absurd (term h.2)) (λ h. absurd (term h.1)) (λ _. omega arith) (λ _. omega arith) (λ _. omega arith) (λ _. omega arith) (λ _. omega arith) (λ _. omega arith) (λ _. omega arith);
}
atom_end_first limits known e s t item term atom refused = unexpected_first limits known e s t item term (λ h. h) refused

lower_same : (a b : List ℕ) → lower a ≡ lower b → a ≡ b
lower_same a b e = cc

-- where an item begins
item_first : (limits : Limits) (known : List (List ℕ)) (s : ParserState) (t : Token) → step_at expect.Item s t ≡ None → IsFirstFit limits known expect.Item s t (item_refusal t)
item_first limits known s (lower text) refused = word_first (bytes_eq text (codes "include")) refl
  where
    word_first : (b : Bool) → bytes_eq text (codes "include") ≡ b → IsFirstFit limits known expect.Item s (lower text) (if b then Include else NotCnf)
    word_first true same = record {
      fit = (ap lower ((bytes_eq-Decides text (codes "include")).0 same), refl);
      first = least limits known expect.Item s (lower text) 5 (λ _. omega arith) (λ _. omega arith) (λ _. omega arith) (λ _. omega arith) (λ _. omega arith) (λ _. omega arith) (λ _. omega arith) (λ _. omega arith) (λ _. omega arith) (λ _. omega arith) (λ _. omega arith);
    }
    word_first false apart = record {
      fit = (text, refl, (λ same. absurd (not_cnf same)), refl);
      first = least limits known expect.Item s (lower text) 6 (λ h. absurd (not_include h.0)) (λ _. omega arith) (λ _. omega arith) (λ _. omega arith) (λ _. omega arith) (λ _. omega arith) (λ _. omega arith) (λ _. omega arith) (λ _. omega arith) (λ _. omega arith) (λ _. omega arith);
    }
      where
        not_include : lower text ≡ lower (codes "include") → ⊥
        not_include same = let q : text ≡ codes "include" = lower_same text (codes "include") same in absurd (let r : bytes_eq text (codes "include") ≡ true = (bytes_eq-Decides text (codes "include")).1 q in true≢false (sym r ∙ apart))

        not_cnf : text ≡ codes "cnf" → ⊥
        not_cnf same = absurd (let q : step_at expect.Item s (lower (codes "cnf")) ≡ None = subst (λ (x : List ℕ). step_at expect.Item s (lower x) ≡ None) same refused in cc)
item_first limits known s t refused = record {
  fit = refused;
  first = least limits known expect.Item s t 10 (λ h. absurd (let q = h.0 in cc)) (λ h. absurd (let q = h.1 in cc)) (λ h. absurd h.2) (λ h. absurd h.1) (λ h. absurd h.1)
      (λ _. omega arith) (λ _. omega arith) (λ _. omega arith) (λ _. omega arith) (λ _. omega arith) (λ _. omega arith);
}

-- a token that isn't allowed is refused by the first kind that fits
grammar_first : (limits : Limits) (known : List (List ℕ)) (e : Expected) (s : ParserState) (t : Token) → step_at e s t ≡ None → IsFirstFit limits known e s t (refusal_at e t)
grammar_first limits known expect.Item s t refused = item_first limits known s t refused
grammar_first limits known expect.Formula s t refused = term_first limits known expect.Formula s t (λ h. absurd cc) _ (λ h. h) refused
grammar_first limits known expect.Literal s t refused = term_first limits known expect.Literal s t (λ h. absurd cc) _ (λ h. h) refused
grammar_first limits known expect.Atom s t refused = term_first limits known expect.Atom s t (λ h. absurd cc) _ (λ h. h) refused
grammar_first limits known expect.Term s t refused = term_first limits known expect.Term s t (λ h. absurd cc) _ (λ h. h) refused
grammar_first limits known expect.PredicateEnd s t refused = atom_end_first limits known expect.PredicateEnd s t (λ h. absurd cc) (λ h. h) _ refused
grammar_first limits known expect.LiteralEnd s t refused = atom_end_first limits known expect.LiteralEnd s t (λ h. absurd cc) (λ h. h) _ refused
grammar_first limits known expect.VariableEnd s t refused = atom_end_first limits known expect.VariableEnd s t (λ h. absurd cc) (λ h. h) _ refused
grammar_first limits known e s t refused = other_first limits known e s t (λ h. absurd cc) (λ h. h) (λ h. h) refused

-- no number and no distinct object is a term, and no equality comes after an atom
number_refused : (e : Expected) (s : ParserState) (text : List ℕ) → IsTermPlaceState e → step_at e s (number text) ≡ None
number_refused expect.Formula s text place = refl
number_refused expect.Literal s text place = refl
number_refused expect.Atom s text place = refl
number_refused expect.Term s text place = refl
number_refused e s text place = absurd place

distinct_refused : (e : Expected) (s : ParserState) → IsTermPlaceState e → step_at e s distinct ≡ None
distinct_refused expect.Formula s place = refl
distinct_refused expect.Literal s place = refl
distinct_refused expect.Atom s place = refl
distinct_refused expect.Term s place = refl
distinct_refused e s place = absurd place

unequal_refused : (e : Expected) (s : ParserState) → IsAtomEndState e → step_at e s unequal ≡ None
unequal_refused expect.PredicateEnd s place = refl
unequal_refused expect.LiteralEnd s place = refl
unequal_refused expect.VariableEnd s place = refl
unequal_refused e s place = absurd place

equals_refused : (e : Expected) (s : ParserState) → IsAtomEndState e → step_at e s (mark Equals) ≡ None
equals_refused expect.PredicateEnd s place = refl
equals_refused expect.LiteralEnd s place = refl
equals_refused expect.VariableEnd s place = refl
equals_refused e s place = absurd place

equality_refused : (e : Expected) (s : ParserState) (t : Token) → IsEquality t → IsAtomEndState e → step_at e s t ≡ None
equality_refused e s unequal h place = unequal_refused e s place
equality_refused e s (mark Equals) h place = equals_refused e s place
equality_refused e s t h place = absurd h

-- another word than cnf begins no item
word_refused : (s : ParserState) (text : List ℕ) → text ≢ codes "cnf" → step_at expect.Item s (lower text) ≡ None
word_refused s text apart = by_test (bytes_eq text (codes "cnf")) refl
  where
    by_test : (b : Bool) → bytes_eq text (codes "cnf") ≡ b → (if b then Some (expecting expect.Opening s) else None) ≡ None
    by_test true same = absurd (apart ((bytes_eq-Decides text (codes "cnf")).0 same))
    by_test false other = refl

-- the state doesn't allow a token of one of the first kinds
include_refused : (e : Expected) (s : ParserState) (t : Token) → t ≡ lower (codes "include") → e ≡ expect.Item → step_at e s t ≡ None
include_refused e s t is at = subst (λ (f : Expected). step_at f s t ≡ None) (sym at) (subst (λ (u : Token). step_at expect.Item s u ≡ None) (sym is) refl)

not_cnf_refused : (e : Expected) (s : ParserState) (t : Token) (text : List ℕ) → t ≡ lower text → text ≢ codes "cnf" → e ≡ expect.Item → step_at e s t ≡ None
not_cnf_refused e s t text is apart at = subst (λ (f : Expected). step_at f s t ≡ None) (sym at) (subst (λ (u : Token). step_at expect.Item s u ≡ None) (sym is) (word_refused s text apart))

number_here : (e : Expected) (s : ParserState) (t : Token) (text : List ℕ) → t ≡ number text → IsTermPlaceState e → step_at e s t ≡ None
number_here e s t text is place = subst (λ (u : Token). step_at e s u ≡ None) (sym is) (number_refused e s text place)

distinct_here : (e : Expected) (s : ParserState) (t : Token) → t ≡ distinct → IsTermPlaceState e → step_at e s t ≡ None
distinct_here e s t is place = subst (λ (u : Token). step_at e s u ≡ None) (sym is) (distinct_refused e s place)

-- a token that is allowed, and a rank that isn't above those of the limits that it goes past
past_least : (limits : Limits) (known : List (List ℕ)) (e : Expected) (s : ParserState) (t : Token) (n : ℕ) → step_at e s t ≢ None
    → (Fits limits known e s t TooManyClauses → n ≤ 11) → (Fits limits known e s t TooManyLiterals → n ≤ 12) → (Fits limits known e s t TooManyVariables → n ≤ 13)
    → (Fits limits known e s t ArityTooLarge → n ≤ 14) → (Fits limits known e s t TooDeep → n ≤ 15)
    → (other : CnfKind) → Fits limits known e s t other → n ≤ rank other
past_least limits known e s t n goes =
    least limits known e s t n (λ h. absurd (goes (include_refused e s t h.0 h.1))) (λ h. absurd (goes (not_cnf_refused e s t h.0 h.1 h.2 h.3)))
    (λ h. absurd (goes (number_here e s t h.0 h.1 h.2))) (λ h. absurd (goes (distinct_here e s t h.0 h.1))) (λ h. absurd (goes (equality_refused e s t h.0 h.1)))
    (λ h. absurd (goes h))

-- the test of variables is the limit's
many_fits : (limits : Limits) (known : List (List ℕ)) (e : Expected) (s : ParserState) (t : Token) → has_too_many_variables limits known t ≡ true → Fits limits known e s t TooManyVariables
many_fits limits known e s (upper text) h =
    let both = and_parts (not (list_any (bytes_eq text) known)) (nat_le limits.variables (length known)) h in
    let new : list_any (bytes_eq text) known ≡ false = not-true (list_any (bytes_eq text) known) both.0 in
    (text, refl, (λ there. absurd (true≢false (sym (list_any-from_Contains (decided bytes_eq bytes_eq-Decides) text known there) ∙ new))), leb-true limits.variables (length known) both.1)
many_fits limits known e s (lower text) h = absurd cc
many_fits limits known e s (quoted text) h = absurd cc
many_fits limits known e s (dollar text) h = absurd cc
many_fits limits known e s (number text) h = absurd cc
many_fits limits known e s distinct h = absurd cc
many_fits limits known e s unequal h = absurd cc
many_fits limits known e s (mark m) h = absurd cc

few_fit : (limits : Limits) (known : List (List ℕ)) (e : Expected) (s : ParserState) (t : Token) → has_too_many_variables limits known t ≡ false → ¬ Fits limits known e s t TooManyVariables
few_fit limits known e s (upper text) h (x, is, new, most) = by_test (list_any (bytes_eq text) known) refl (nat_le limits.variables (length known)) refl
  where
    same : text ≡ x
    same = cc

    by_test : (a : Bool) → list_any (bytes_eq text) known ≡ a → (b : Bool) → nat_le limits.variables (length known) ≡ b → ⊥
    by_test true any b le = new (subst (λ (y : List ℕ). Contains known y) same (Contains-from_any (λ y z e. (bytes_eq-Decides y z).0 e) text known any))
    by_test false any true le = true≢false (sym (ap₂ (λ a b. not a && b) any le) ∙ h)
    by_test false any false le = omega (arith, leb-false limits.variables (length known) le, most)
few_fit limits known e s (lower text) h (x, is, new, most) = absurd cc
few_fit limits known e s (quoted text) h (x, is, new, most) = absurd cc
few_fit limits known e s (dollar text) h (x, is, new, most) = absurd cc
few_fit limits known e s (number text) h (x, is, new, most) = absurd cc
few_fit limits known e s distinct h (x, is, new, most) = absurd cc
few_fit limits known e s unequal h (x, is, new, most) = absurd cc
few_fit limits known e s (mark m) h (x, is, new, most) = absurd cc

literal_number_same : (m n : ℕ) → a_literal m ≡ a_literal n → m ≡ n
literal_number_same m n e = cc

argument_same : (m n d nesting : ℕ) → an_argument m d ≡ an_argument n nesting → (m ≡ n) × (d ≡ nesting)
argument_same m n d nesting e = (cc, cc)

-- a token that begins neither an item nor a literal nor an argument
other_limit : (limits : Limits) (known : List (List ℕ)) (e : Expected) (s : ParserState) (t : Token) (b : Begins) (many : Bool) (kind : CnfKind) → step_at e s t ≢ None
    → begun_at e s t ≡ b → ((n : ℕ) → b ≡ an_item n → ⊥) → ((n : ℕ) → b ≡ a_literal n → ⊥) → has_too_many_variables limits known t ≡ many
    → (if many then Some TooManyVariables else None) ≡ Some kind → IsFirstFit limits known e s t kind
other_limit limits known e s t b true kind goes is item literal h past = subst (IsFirstFit limits known e s t) (same_Some _ _ past) (record {
  fit = many_fits limits known e s t h;
  first = past_least limits known e s t 13 goes (λ f. absurd (item f.0 (sym is ∙ f.2))) (λ f. absurd (literal f.0 (sym is ∙ f.2))) (λ _. omega arith) (λ _. omega arith) (λ _. omega arith);
})
other_limit limits known e s t b false kind goes is item literal h past = absurd (none-some _ past)

-- a token that is allowed and goes past a limit is refused by the first kind that fits
limit_first : (limits : Limits) (known : List (List ℕ)) (e : Expected) (s : ParserState) (t : Token) (b : Begins) (many : Bool) (kind : CnfKind) → step_at e s t ≢ None
    → begun_at e s t ≡ b → has_too_many_variables limits known t ≡ many → past_limit limits b many ≡ Some kind → IsFirstFit limits known e s t kind
limit_first limits known e s t (an_item n) many kind goes is has past = by_test (nat_le limits.clauses n) refl past
  where
    by_test : (test : Bool) → nat_le limits.clauses n ≡ test → (if test then Some TooManyClauses else None) ≡ Some kind → IsFirstFit limits known e s t kind
    by_test true le e1 = subst (IsFirstFit limits known e s t) (same_Some _ _ e1) (record {
      fit = (n, goes, is, leb-true limits.clauses n le);
      first = past_least limits known e s t 11 goes (λ _. omega arith) (λ _. omega arith) (λ _. omega arith) (λ _. omega arith) (λ _. omega arith);
    })
    by_test false le e1 = absurd (none-some _ e1)
limit_first limits known e s t (a_literal n) many kind goes is has past = by_test (nat_le limits.literals n) refl many has past
  where
    by_test : (test : Bool) → nat_le limits.literals n ≡ test → (too_many : Bool) → has_too_many_variables limits known t ≡ too_many
        → (if test then Some TooManyLiterals else if too_many then Some TooManyVariables else None) ≡ Some kind → IsFirstFit limits known e s t kind
    by_test true le too_many h e1 = subst (IsFirstFit limits known e s t) (same_Some _ _ e1) (record {
      fit = (n, goes, is, leb-true limits.literals n le);
      first = past_least limits known e s t 12 goes (λ f. absurd (let q = sym f.2 ∙ is in cc)) (λ _. omega arith) (λ _. omega arith) (λ _. omega arith) (λ _. omega arith);
    })
    by_test false le true h e1 = subst (IsFirstFit limits known e s t) (same_Some _ _ e1) (record {
      fit = many_fits limits known e s t h;
      first = past_least limits known e s t 13 goes (λ f. absurd (let q = sym f.2 ∙ is in cc)) (λ f. absurd (within f)) (λ _. omega arith) (λ _. omega arith) (λ _. omega arith);
    })
      where
        within : Fits limits known e s t TooManyLiterals → ⊥
        within f = omega (arith, leb-false limits.literals n le, (subst (λ (k : ℕ). limits.literals ≤ k) (literal_number_same f.0 n (sym f.2 ∙ is)) f.3))
    by_test false le false h e1 = absurd (none-some _ e1)
limit_first limits known e s t (an_argument n nesting) many kind goes is has past =
    by_test many has (nat_le limits.arity n) refl (nat_lt limits.nesting nesting) refl past
  where
    clauses : Fits limits known e s t TooManyClauses → ⊥
    clauses f = absurd (let q = sym f.2 ∙ is in cc)

    literals : Fits limits known e s t TooManyLiterals → ⊥
    literals f = absurd (let q = sym f.2 ∙ is in cc)

    arity : nat_le limits.arity n ≡ false → Fits limits known e s t ArityTooLarge → ⊥
    arity le f = omega (arith, leb-false limits.arity n le, (subst (λ (k : ℕ). limits.arity ≤ k) (argument_same f.0 n f.1 nesting (sym f.3 ∙ is)).0 f.4))

    by_test : (too_many : Bool) → has_too_many_variables limits known t ≡ too_many → (wide : Bool) → nat_le limits.arity n ≡ wide → (deep : Bool) → nat_lt limits.nesting nesting ≡ deep
        → (if too_many then Some TooManyVariables else if wide then Some ArityTooLarge else if deep then Some TooDeep else None) ≡ Some kind → IsFirstFit limits known e s t kind
    by_test true h wide a deep d e1 = subst (IsFirstFit limits known e s t) (same_Some _ _ e1) (record {
      fit = many_fits limits known e s t h;
      first = past_least limits known e s t 13 goes (λ f. absurd (clauses f)) (λ f. absurd (literals f)) (λ _. omega arith) (λ _. omega arith) (λ _. omega arith);
    })
    by_test false h true a deep d e1 = subst (IsFirstFit limits known e s t) (same_Some _ _ e1) (record {
      fit = (n, nesting, goes, is, leb-true limits.arity n a);
      first = past_least limits known e s t 14 goes (λ f. absurd (clauses f)) (λ f. absurd (literals f)) (λ f. absurd (few_fit limits known e s t h f)) (λ _. omega arith) (λ _. omega arith);
    })
    by_test false h false a true d e1 = subst (IsFirstFit limits known e s t) (same_Some _ _ e1) (record {
      fit = (n, nesting, goes, is, ltb-true limits.nesting nesting d);
      first = past_least limits known e s t 15 goes (λ f. absurd (clauses f)) (λ f. absurd (literals f)) (λ f. absurd (few_fit limits known e s t h f)) (λ f. absurd (arity a f)) (λ _. omega arith);
    })
    by_test false h false a false d e1 = absurd (none-some _ e1)
limit_first limits known e s t nothing many kind goes is has past = other_limit limits known e s t nothing many kind goes is (λ n same. cc) (λ n same. cc) has past
limit_first limits known e s t an_atom many kind goes is has past = other_limit limits known e s t an_atom many kind goes is (λ n same. cc) (λ n same. cc) has past
limit_first limits known e s t a_next_literal many kind goes is has past = other_limit limits known e s t a_next_literal many kind goes is (λ n same. cc) (λ n same. cc) has past

pub if_none : (b : Bool) (k : CnfKind) (o : Option CnfKind) → (if b then Some k else o) ≡ None → (b ≡ false) × (o ≡ None)
if_none true k o e = absurd (none-some k (sym e))
if_none false k o e = (refl, e)

-- no limit is passed, so the variables aren't too many
not_many : (limits : Limits) (e : Expected) (s : ParserState) (text : List ℕ) (b : Begins) (many : Bool) → step_at e s (upper text) ≢ None → begun_at e s (upper text) ≡ b
    → past_limit limits b many ≡ None → many ≡ false
not_many limits e s text (an_item n) many goes is past = absurd (goes (subst (λ (f : Expected). step_at f s (upper text) ≡ None) (sym (begun_item e s (upper text) n is).0) refl))
not_many limits e s text (a_literal n) many goes is past =
    (if_none many TooManyVariables None (if_none (nat_le limits.literals n) TooManyLiterals (if many then Some TooManyVariables else None) past).1).0
not_many limits e s text (an_argument n nesting) many goes is past =
    (if_none many TooManyVariables (if nat_le limits.arity n then Some ArityTooLarge else if nat_lt limits.nesting nesting then Some TooDeep else None) past).0
not_many limits e s text nothing many goes is past = (if_none many TooManyVariables None past).0
not_many limits e s text an_atom many goes is past = (if_none many TooManyVariables None past).0
not_many limits e s text a_next_literal many goes is past = (if_none many TooManyVariables None past).0

-- an argument goes past no limit
argument_within : (limits : Limits) (n nesting : ℕ) (many : Bool) → past_limit limits (an_argument n nesting) many ≡ None → (nat_le limits.arity n ≡ false) × (nat_lt limits.nesting nesting ≡ false)
argument_within limits n nesting many past =
    let first = if_none many TooManyVariables (if nat_le limits.arity n then Some ArityTooLarge else if nat_lt limits.nesting nesting then Some TooDeep else None) past in
    let second = if_none (nat_le limits.arity n) ArityTooLarge (if nat_lt limits.nesting nesting then Some TooDeep else None) first.1 in
    (second.0, (if_none (nat_lt limits.nesting nesting) TooDeep None second.1).0)

-- where no limit is passed no kind fits
limit_none : (limits : Limits) (known : List (List ℕ)) (e : Expected) (s : ParserState) (t : Token) → step_at e s t ≢ None
    → past_limit limits (begun_at e s t) (has_too_many_variables limits known t) ≡ None → (kind : CnfKind) → ¬ Fits limits known e s t kind
limit_none limits known e s t goes past Include f = goes (include_refused e s t f.0 f.1)
limit_none limits known e s t goes past NotCnf f = goes (not_cnf_refused e s t f.0 f.1 f.2 f.3)
limit_none limits known e s t goes past Number f = goes (number_here e s t f.0 f.1 f.2)
limit_none limits known e s t goes past DistinctObject f = goes (distinct_here e s t f.0 f.1)
limit_none limits known e s t goes past Equality f = goes (equality_refused e s t f.0 f.1)
limit_none limits known e s t goes past Unexpected f = goes f
limit_none limits known e s t goes past TooManyClauses f =
    let here : past_limit limits (an_item f.0) (has_too_many_variables limits known t) ≡ None = subst (λ (b : Begins). past_limit limits b (has_too_many_variables limits known t) ≡ None) f.2 past in
    omega (arith, leb-false limits.clauses f.0 (if_none (nat_le limits.clauses f.0) TooManyClauses None here).0, f.3)
limit_none limits known e s t goes past TooManyLiterals f =
    let many : Bool = has_too_many_variables limits known t in
    let here : past_limit limits (a_literal f.0) many ≡ None = subst (λ (b : Begins). past_limit limits b many ≡ None) f.2 past in
    omega (arith, leb-false limits.literals f.0 (if_none (nat_le limits.literals f.0) TooManyLiterals (if many then Some TooManyVariables else None) here).0, f.3)
limit_none limits known e s t goes past TooManyVariables f = few_fit limits known e s t (few t f.0 f.1 goes past) f
  where
    few : (u : Token) (text : List ℕ) → u ≡ upper text → step_at e s u ≢ None → past_limit limits (begun_at e s u) (has_too_many_variables limits known u) ≡ None
        → has_too_many_variables limits known u ≡ false
    few (upper x) text is allowed within = not_many limits e s x (begun_at e s (upper x)) (has_too_many_variables limits known (upper x)) allowed refl within
    few (lower x) text is allowed within = refl
    few (quoted x) text is allowed within = refl
    few (dollar x) text is allowed within = refl
    few (number x) text is allowed within = refl
    few distinct text is allowed within = refl
    few unequal text is allowed within = refl
    few (mark m) text is allowed within = refl
limit_none limits known e s t goes past ArityTooLarge f =
    let many : Bool = has_too_many_variables limits known t in
    let here : past_limit limits (an_argument f.0 f.1) many ≡ None = subst (λ (b : Begins). past_limit limits b many ≡ None) f.3 past in
    omega (arith, leb-false limits.arity f.0 (argument_within limits f.0 f.1 many here).0, f.4)
limit_none limits known e s t goes past TooDeep f =
    let many : Bool = has_too_many_variables limits known t in
    let here : past_limit limits (an_argument f.0 f.1) many ≡ None = subst (λ (b : Begins). past_limit limits b many ≡ None) f.3 past in
    omega (arith, ltb-false limits.nesting f.1 (argument_within limits f.0 f.1 many here).1, f.4)
limit_none limits known e s t goes past BadByte f = f
limit_none limits known e s t goes past BadToken f = f
limit_none limits known e s t goes past UnclosedComment f = f
limit_none limits known e s t goes past UnclosedQuote f = f
limit_none limits known e s t goes past EndInItem f = f

-- the reader refuses a token for the first kind that fits, and accepts it where none does
refused_first : (limits : Limits) (known : List (List ℕ)) (e : Expected) (s : ParserState) (t : Token) (o : Option ParserState) → step_at e s t ≡ o → (kind : CnfKind)
    → refusal_of o (past_limit limits (begun_at e s t) (has_too_many_variables limits known t)) (refusal_at e t) ≡ Some kind → IsFirstFit limits known e s t kind
refused_first limits known e s t None at kind says = subst (IsFirstFit limits known e s t) (same_Some _ _ says) (grammar_first limits known e s t at)
refused_first limits known e s t (Some next) at kind says =
    limit_first limits known e s t (begun_at e s t) (has_too_many_variables limits known t) kind (λ none. none-some next (sym none ∙ at)) refl refl says

accepted_none : (limits : Limits) (known : List (List ℕ)) (e : Expected) (s : ParserState) (t : Token) (o : Option ParserState) → step_at e s t ≡ o
    → refusal_of o (past_limit limits (begun_at e s t) (has_too_many_variables limits known t)) (refusal_at e t) ≡ None → (kind : CnfKind) → ¬ Fits limits known e s t kind
accepted_none limits known e s t None at says kind f = none-some _ (sym says)
accepted_none limits known e s t (Some next) at says kind f = limit_none limits known e s t (λ none. none-some next (sym none ∙ at)) says kind f

pub decides : (limits : Limits) (ts : List Token) (s : ParserState) → run ts ≡ Some s → Decides limits ts s
decides limits ts s r = record {
  refused = λ t kind says. first t kind (refused_first limits (variables ts) s.expected s t (step s t) refl kind says);
  accepted = λ t kind says h. accepted_none limits (variables ts) s.expected s t (step s t) refl says kind (fits limits ts s r t kind h);
  whole = (whole_state ts s r).1;
  broken = λ other whole. other ((whole_state ts s r).0 whole);
}
  where
    first : (t : Token) (kind : CnfKind) → IsFirstFit limits (variables ts) s.expected s t kind → IsFirstKind limits ts t kind
    first t kind f = record {
      offends = offends limits ts s r t kind f.fit;
      first = λ other h. f.first other (fits limits ts s r t other h);
    }
