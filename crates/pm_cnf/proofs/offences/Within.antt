-- A file without offences is one whose tokens go past no limit; and what the limits say of its items.
use Rattle.std.proofs.Common.{arith, ◌≡◌, ◌≢◌, ◌<◌, ◌+◌, ◌≤◌, ℕ, suc, length, Bool, true, false, List, [], ◌∷◌, ◌++◌, sym, ap, subst, ◌∙◌, refl, drop}
use Rattle.std.specs.Prelude.{option_map, Option, Some, None, nat_le, if◌then◌else◌, All}
use Rattle.std.specs.List.{AllByRecursion}
use Rattle.std.proofs.lemmas.List.{append-nil}
use Rattle.std.proofs.lemmas.List.Elements.{All-from_recursion}
use Rattle.std.proofs.lemmas.Bool.{leb-false}
use Rattle.pm_scan.specs.declared.offence.CnfKind.{CnfKind}
use Rattle.pm_scan.specs.declared.offence.CnfKind.TheVariants.{TooManyClauses, TooManyLiterals, TooManyVariables}
use Rattle.pm_cnf.specs.declared.limits.Limits.{Limits}
use Rattle.pm_cnf.specs.declared.parser.Expected.TheVariants as expect
use Rattle.pm_scan.specs.declared.token.Mark.TheVariants.{CloseParenthesis, Tilde}
use Rattle.pm_scan.specs.Lexemes.{Token, mark, Lexeme, gap, token, fault, lexeme_at, Lexes, tokens_in}
use Rattle.pm_cnf.specs.Grammar.{Item, AreItems, Formula, in_parentheses, disjunction, Literal, Atom, predicate, truth, falsity, word_token, Begins, an_atom, a_literal, Placed, only, atom_places, literal_places, others_joined, formula_places, ending_places, name_token, item_places, file_places, tokens_of}
use Rattle.pm_cnf.specs.Offences.{Applies, IsOffence, variables, variables_from}
use Rattle.pm_cnf.specs.Meaning.{literals_of}
use Rattle.pm_cnf.specs.Inside.Machine.{ParserState, start, step, run, begun, refusal, refusal_of, refusal_at, past_limit, has_too_many_variables}
use Rattle.pm_cnf.proofs.grammar.Follows.{Follows, run-push}
use Rattle.pm_cnf.proofs.grammar.Forward.{in_item, file_follows}
use Rattle.pm_scan.proofs.Chains.{tokens_in-append, Lexes-push}
use Rattle.pm_cnf.proofs.offences.FirstOffence.{IsClean, clean_start, variables_from-append}
use Rattle.pm_cnf.proofs.offences.Deciding.{decides, if_none}
use Rattle.pm_cnf.proofs.offences.Passing.{clean_gap, clean_token, no_offence}
use Rattle.pm_cnf.proofs.Lists.{head_is, tail_is}

-- no token goes past a limit
abbrev pub Within : Limits → List (List ℕ) → List Placed → Type 0
Within limits known [] = Unit {0}
Within limits known (p ∷ ps) = (past_limit limits p.1 (has_too_many_variables limits known p.0) ≡ None) × Within limits (variables_from known (p.0 ∷ [])) ps

abbrev pub HasNoFault : List Lexeme → Type 0
HasNoFault [] = Unit {0}
HasNoFault (fault kind ∷ xs) = ⊥
HasNoFault (x ∷ xs) = HasNoFault xs

abbrev pub IsSound : Limits → List ℕ → Type 0
IsSound limits bytes = (rest : List ℕ) (kind : CnfKind) → ¬ IsOffence limits bytes rest kind

-- ---- from no offence to the limits

-- a token that is accepted goes on, and goes past no limit
accepted_is : (limits : Limits) (known : List (List ℕ)) (s : ParserState) (t : Token) (o : Option ParserState) → step s t ≡ o → o ≢ None → refusal limits known s t ≡ None
    → past_limit limits (begun s t) (has_too_many_variables limits known t) ≡ None
accepted_is limits known s t None is goes says = absurd (goes refl)
accepted_is limits known s t (Some next) is goes says =
    sym (ap (λ (o : Option ParserState). refusal_of o (past_limit limits (begun s t) (has_too_many_variables limits known t)) (refusal_at s.expected t)) is) ∙ says

pub follows_some : (o : Option ParserState) (ps : List Placed) (r : ParserState) → Follows o ps r → (s : ParserState) × (o ≡ Some s)
follows_some None ps r h = absurd h
follows_some (Some s) ps r h = (s, refl)

some_not : {A : Type 0} (x : A) → Some x ≢ None
some_not x is = absurd cc

-- what stands here is no offence
nothing_here : (limits : Limits) (bytes rest : List ℕ) (before : List Lexeme) (x : Lexeme) (n : ℕ) → IsSound limits bytes → Lexes before bytes rest → lexeme_at rest ≡ Some (x, n)
    → (kind : CnfKind) → ¬ Applies limits (tokens_in before) (Some x) kind
nothing_here limits bytes rest before x n sound leads at kind applies =
    sound rest kind (record {
      lexemes = before;
      leads = leads;
      applies = subst (λ (o : Option Lexeme). Applies limits (tokens_in before) o kind) (sym (ap (option_map (λ p. p.0)) at)) applies;
    })

-- so the next token isn't refused
not_refused : (limits : Limits) (bytes rest : List ℕ) (before : List Lexeme) (s : ParserState) (t : Token) (n : ℕ) → IsSound limits bytes → Lexes before bytes rest
    → run (tokens_in before) ≡ Some s → lexeme_at rest ≡ Some (token t, n) → (o : Option CnfKind) → refusal limits (variables (tokens_in before)) s t ≡ o → o ≡ None
not_refused limits bytes rest before s t n sound leads reached at None says = refl
not_refused limits bytes rest before s t n sound leads reached at (Some kind) says =
    absurd (nothing_here limits bytes rest before (token t) n sound leads at kind ((decides limits (tokens_in before) s reached).refused t kind says).offends)

tokens_push : (before : List Lexeme) (t : Token) → tokens_in (before ++ token t ∷ []) ≡ tokens_in before ++ t ∷ []
tokens_push before t = tokens_in-append before (token t ∷ [])

tokens_same : (before : List Lexeme) → tokens_in (before ++ gap ∷ []) ≡ tokens_in before
tokens_same before = tokens_in-append before (gap ∷ []) ∙ append-nil (tokens_in before)

variables_push : (before : List Lexeme) (t : Token) → variables (tokens_in (before ++ token t ∷ [])) ≡ variables_from (variables (tokens_in before)) (t ∷ [])
variables_push before t = ap variables (tokens_push before t) ∙ variables_from-append [] (tokens_in before) (t ∷ [])

within_from : (limits : Limits) (bytes : List ℕ) → IsSound limits bytes → (after before : List Lexeme) (mid : List ℕ) (s r : ParserState) (ps : List Placed)
    → Lexes before bytes mid → run (tokens_in before) ≡ Some s → Lexes after mid [] → tokens_of ps ≡ tokens_in after → Follows (Some s) ps r
    → Within limits (variables (tokens_in before)) ps
within_from limits bytes sound after before mid s r [] leads reached more same follows = tt
within_from limits bytes sound [] before mid s r (p ∷ ps) leads reached more same follows = absurd cc
within_from limits bytes sound (gap ∷ after) before mid s r (p ∷ ps) leads reached more same follows =
    subst (λ (ts : List Token). Within limits (variables ts) (p ∷ ps)) (tokens_same before)
    (within_from limits bytes sound after (before ++ gap ∷ []) (drop more.0 mid) s r (p ∷ ps) (Lexes-push before gap more.0 bytes mid leads more.1) (ap run (tokens_same before) ∙ reached) more.2 same follows)
within_from limits bytes sound (fault kind ∷ after) before mid s r (p ∷ ps) leads reached more same follows =
    absurd (nothing_here limits bytes mid before (fault kind) more.0 sound leads more.1 kind refl)
within_from limits bytes sound (token t ∷ after) before mid s r (p ∷ ps) leads reached more same follows =
    let is : p.0 ≡ t = head_is p.0 t (tokens_of ps) (tokens_in after) same in
    let at : lexeme_at mid ≡ Some (token p.0, more.0) = more.1 ∙ ap (λ (u : Token). Some (token u, more.0)) (sym is) in
    let known : List (List ℕ) = variables (tokens_in before) in
    let next = follows_some (step s p.0) ps r follows.1 in
    let past = accepted_is limits known s p.0 (step s p.0) refl (λ none. some_not next.0 (sym next.1 ∙ none)) (not_refused limits bytes mid before s p.0 more.0 sound leads reached at (refusal limits known s p.0) refl) in
    let later = within_from limits bytes sound after (before ++ token p.0 ∷ []) (drop more.0 mid) next.0 r ps (Lexes-push before (token p.0) more.0 bytes mid leads at)
    (ap run (tokens_push before p.0) ∙ run-push (tokens_in before) p.0 s reached ∙ next.1) more.2 (tail_is p.0 t (tokens_of ps) (tokens_in after) same)
    (subst (λ (o : Option ParserState). Follows o ps r) next.1 follows.1) in (
      subst (λ (b : Begins). past_limit limits b (has_too_many_variables limits known p.0) ≡ None) follows.0 past,
      subst (λ (k : List (List ℕ)). Within limits k ps) (variables_push before p.0) later,
    )

-- Where there is no offence no token goes past a limit.
pub sound_within : (limits : Limits) (bytes : List ℕ) (lexemes : List Lexeme) (items : List Item) → Lexes lexemes bytes [] → AreItems items → tokens_of (file_places 0 items) ≡ tokens_in lexemes
    → IsSound limits bytes → Within limits [] (file_places 0 items)
sound_within limits bytes lexemes items leads are file sound =
    within_from limits bytes sound lexemes [] bytes start (in_item expect.Item (length items)) (file_places 0 items) refl refl leads file (file_follows items are)

-- and no lexeme is a fault
pub sound_faultless : (limits : Limits) (bytes : List ℕ) (after before : List Lexeme) (mid : List ℕ) → IsSound limits bytes → Lexes before bytes mid → Lexes after mid [] → HasNoFault after
sound_faultless limits bytes [] before mid sound leads more = tt
sound_faultless limits bytes (fault kind ∷ after) before mid sound leads more = nothing_here limits bytes mid before (fault kind) more.0 sound leads more.1 kind refl
sound_faultless limits bytes (gap ∷ after) before mid sound leads more =
    sound_faultless limits bytes after (before ++ gap ∷ []) (drop more.0 mid) sound (Lexes-push before gap more.0 bytes mid leads more.1) more.2
sound_faultless limits bytes (token t ∷ after) before mid sound leads more =
    sound_faultless limits bytes after (before ++ token t ∷ []) (drop more.0 mid) sound (Lexes-push before (token t) more.0 bytes mid leads more.1) more.2

-- ---- from the limits to no offence

-- a token that goes on and goes past no limit is accepted
accepts : (limits : Limits) (known : List (List ℕ)) (s next : ParserState) (t : Token) → step s t ≡ Some next → past_limit limits (begun s t) (has_too_many_variables limits known t) ≡ None
    → refusal limits known s t ≡ None
accepts limits known s next t is past = ap (λ (o : Option ParserState). refusal_of o (past_limit limits (begun s t) (has_too_many_variables limits known t)) (refusal_at s.expected t)) is ∙ past

clean_from : (limits : Limits) (bytes : List ℕ) (after before : List Lexeme) (mid : List ℕ) (s r : ParserState) (ps : List Placed)
    → Lexes before bytes mid → run (tokens_in before) ≡ Some s → ((other : List ℕ) (kind : CnfKind) → IsOffence limits bytes other kind → length other ≤ length mid)
    → Lexes after mid [] → HasNoFault after → tokens_of ps ≡ tokens_in after → Follows (Some s) ps r → Within limits (variables (tokens_in before)) ps
    → IsClean limits bytes [] r
clean_from limits bytes [] before mid s r [] leads reached clean more faultless same follows within =
    record { lexemes = before; leads = subst (Lexes before bytes) more leads; reached = reached ∙ ap Some follows; clean = λ other kind o. omega (arith, clean other kind o, ap length more) }
clean_from limits bytes [] before mid s r (p ∷ ps) leads reached clean more faultless same follows within = absurd cc
clean_from limits bytes (fault kind ∷ after) before mid s r ps leads reached clean more faultless same follows within = absurd faultless
clean_from limits bytes (gap ∷ after) before mid s r ps leads reached clean more faultless same follows within =
    let c : IsClean limits bytes mid s = record { lexemes = before; leads = leads; reached = reached; clean = clean } in
    clean_from limits bytes after (before ++ gap ∷ []) (drop more.0 mid) s r ps (Lexes-push before gap more.0 bytes mid leads more.1) (ap run (tokens_same before) ∙ reached)
    (clean_gap limits bytes mid s more.0 c more.1).clean more.2 faultless same follows
    (subst (λ (ts : List Token). Within limits (variables ts) ps) (sym (tokens_same before)) within)
clean_from limits bytes (token t ∷ after) before mid s r [] leads reached clean more faultless same follows within = absurd cc
clean_from limits bytes (token t ∷ after) before mid s r (p ∷ ps) leads reached clean more faultless same follows within =
    let c : IsClean limits bytes mid s = record { lexemes = before; leads = leads; reached = reached; clean = clean } in
    let is : p.0 ≡ t = head_is p.0 t (tokens_of ps) (tokens_in after) same in
    let at : lexeme_at mid ≡ Some (token p.0, more.0) = more.1 ∙ ap (λ (u : Token). Some (token u, more.0)) (sym is) in
    let known : List (List ℕ) = variables (tokens_in before) in
    let next = follows_some (step s p.0) ps r follows.1 in
    let past : past_limit limits (begun s p.0) (has_too_many_variables limits known p.0) ≡ None = subst (λ (b : Begins). past_limit limits b (has_too_many_variables limits known p.0) ≡ None) (sym follows.0) within.0 in
    clean_from limits bytes after (before ++ token p.0 ∷ []) (drop more.0 mid) next.0 r ps (Lexes-push before (token p.0) more.0 bytes mid leads at)
    (ap run (tokens_push before p.0) ∙ run-push (tokens_in before) p.0 s reached ∙ next.1)
    (clean_token limits bytes mid s next.0 p.0 more.0 c at (accepts limits known s next.0 p.0 next.1 past) next.1).clean
    more.2 faultless (tail_is p.0 t (tokens_of ps) (tokens_in after) same) (subst (λ (o : Option ParserState). Follows o ps r) next.1 follows.1)
    (subst (λ (k : List (List ℕ)). Within limits k ps) (sym (variables_push before p.0)) within.1)

-- Where no token goes past a limit, and no lexeme is a fault, there is no offence.
pub within_sound : (limits : Limits) (bytes : List ℕ) (lexemes : List Lexeme) (items : List Item) → Lexes lexemes bytes [] → AreItems items → tokens_of (file_places 0 items) ≡ tokens_in lexemes
    → HasNoFault lexemes → Within limits [] (file_places 0 items) → IsSound limits bytes
within_sound limits bytes lexemes items leads are file faultless within =
    no_offence limits bytes (in_item expect.Item (length items))
    (clean_from limits bytes lexemes [] bytes start (in_item expect.Item (length items)) (file_places 0 items) refl refl (clean_start limits bytes).clean leads faultless file (file_follows items are) within)
    refl

-- ---- what the limits say of items

pub within_append : (limits : Limits) (known : List (List ℕ)) (ps qs : List Placed) → Within limits known (ps ++ qs) → Within limits known ps × Within limits (variables_from known (tokens_of ps)) qs
within_append limits known [] qs within = (tt, within)
within_append limits known (p ∷ ps) qs within =
    let more = within_append limits (variables_from known (p.0 ∷ [])) ps qs within.1 in
    ((within.0, more.0), subst (λ (k : List (List ℕ)). Within limits k qs) (sym (variables_from-append known (p.0 ∷ []) (tokens_of ps))) more.1)

begun_within : (limits : Limits) (n : ℕ) (many : Bool) → past_limit limits (a_literal n) many ≡ None → n < limits.literals
begun_within limits n many e = leb-false limits.literals n (if_none (nat_le limits.literals n) TooManyLiterals (if many then Some TooManyVariables else None) e).0

atom_within : (limits : Limits) (known : List (List ℕ)) (n : ℕ) (atom : Atom) (rest : List Placed) → Within limits known (atom_places (a_literal n) atom ++ rest) → n < limits.literals
atom_within limits known n (predicate w args) rest within = begun_within limits n (has_too_many_variables limits known (word_token w)) within.0
atom_within limits known n truth rest within = begun_within limits n false within.0
atom_within limits known n falsity rest within = begun_within limits n false within.0

literal_within : (limits : Limits) (known : List (List ℕ)) (n : ℕ) (literal : Literal) (rest : List Placed) → Within limits known (literal_places n literal ++ rest) → n < limits.literals
literal_within limits known n literal rest within = by literal.positive within
  where
    by : (positive : Bool) → Within limits known ((if positive then atom_places (a_literal n) literal.atom else (mark Tilde, a_literal n) ∷ atom_places an_atom literal.atom) ++ rest) → n < limits.literals
    by true h = atom_within limits known n literal.atom rest h
    by false h = begun_within limits n false h.0

others_within : (limits : Limits) (known : List (List ℕ)) (n : ℕ) (literals : List Literal) → n ≤ limits.literals → Within limits known (others_joined n literals) → n + length literals ≤ limits.literals
others_within limits known n [] few within = omega (arith, few)
others_within limits known n (literal ∷ literals) few within =
    let more = others_within limits (variables_from known (tokens_of (literal_places n literal))) (suc n) literals (literal_within limits known n literal (others_joined (suc n) literals) within.1)
    (within_append limits known (literal_places n literal) (others_joined (suc n) literals) within.1).1 in
    omega (arith, more)

formula_within : (limits : Limits) (known : List (List ℕ)) (f : Formula) → Within limits known (formula_places f) → length (literals_of f) ≤ limits.literals
formula_within limits known (in_parentheses f) within = formula_within limits known f (within_append limits known (formula_places f) (only CloseParenthesis ∷ []) within.1).0
formula_within limits known (disjunction first others) within =
    let more = others_within limits (variables_from known (tokens_of (literal_places 0 first))) 1 others (literal_within limits known 0 first (others_joined 1 others) within)
    (within_append limits known (literal_places 0 first) (others_joined 1 others) within).1 in
    omega (arith, more)

-- the literals of an item are no more than there may be
pub item_within : (limits : Limits) (known : List (List ℕ)) (n : ℕ) (item : Item) → Within limits known (item_places n item) → (n < limits.clauses) × (length (literals_of item.formula) ≤ limits.literals)
item_within limits known n item within =
    let name : List (List ℕ) = variables_from known (name_token item.name ∷ []) in (
      leb-false limits.clauses n (if_none (nat_le limits.clauses n) TooManyClauses None within.0).0,
      formula_within limits name item.formula (within_append limits name (formula_places item.formula) (ending_places item.annotations) within.1.1.1.1.1.1).0,
    )

items_within : (limits : Limits) (known : List (List ℕ)) (n : ℕ) (items : List Item) → n ≤ limits.clauses → Within limits known (file_places n items)
    → (n + length items ≤ limits.clauses) × AllByRecursion (λ item. length (literals_of item.formula) ≤ limits.literals) items
items_within limits known n [] few within = (omega (arith, few), tt)
items_within limits known n (item ∷ items) few within =
    let parts = within_append limits known (item_places n item) (file_places (suc n) items) within in
    let here = item_within limits known n item parts.0 in
    let more = items_within limits (variables_from known (tokens_of (item_places n item))) (suc n) items here.0 parts.1 in
    (omega (arith, more.0), (here.1, more.1))

-- The items, and the literals of each, are no more than there may be.
pub file_within : (limits : Limits) (items : List Item) → Within limits [] (file_places 0 items)
    → (length items ≤ limits.clauses) × All (λ item. length (literals_of item.formula) ≤ limits.literals) items
file_within limits items within =
    let more = items_within limits [] 0 items (omega arith) within in
    (omega (arith, more.0), All-from_recursion (λ item. length (literals_of item.formula) ≤ limits.literals) items more.1)
