-- Reading goes on, and ends.
use Rattle.std.proofs.Common.{arith, ◌≡◌, ◌≢◌, ◌<◌, ◌≤◌, ◌+◌, ◌-◌, ◌^◌, take, ℕ, length, List, [], ◌∷◌, ◌++◌, sym, ap, subst, ◌∙◌, refl, drop, Option, Some, None, true}
use Rattle.std.specs.Prelude.{map, Ok, Err}
use Rattle.std.proofs.lemmas.List.{append-nil, drop-drop, length-drop, take_all}
use Rattle.std.proofs.lemmas.Option.{none-some}
use Rattle.pm_scan.specs.declared.offence.CnfKind.{CnfKind}
use Rattle.pm_scan.specs.declared.offence.CnfKind.TheVariants.{EndInItem}
use Rattle.pm_cnf.specs.declared.limits.Limits.{Limits}
use Rattle.pm_cnf.specs.declared.parser.Parser.{Parser}
use Rattle.pm_cnf.specs.declared.parser.Expected.TheVariants.{Item}
use Rattle.pm_cnf.specs.declared.error.CnfError.{CnfError}
use Rattle.pm_cnf.specs.declared.parser.Refusal.{Refusal}
use Rattle.pm_cnf.specs.declared.parser.Refusal.TheVariants as refusals
use Rattle.pm_scan.specs.Lexemes.{Token, Lexeme, gap, token, fault, lexeme_at, Lexes, tokens_in}
use Rattle.pm_cnf.specs.Grammar as grammar
use Rattle.pm_cnf.specs.Offences.{AreWhole, IsFirstOffence, variables, variables_from}
use Rattle.pm_cnf.specs.Inside.Machine.{ParserState, start, step, run, run_from, refusal}
use Rattle.pm_cnf.specs.Inside.Draft.{Written, Draft, draft, draft_after, nothing_drafted, written}
use Rattle.pm_cnf.specs.Inside.Parsed.{state_of, draft_of, known_of, item_of, Accepts}
use Rattle.pm_logic.specs.Problem.{Problem}
use Rattle.pm_cnf.specs.Meaning.{IsProblemOf, IsProblemIn}
use Rattle.pm_cnf.specs.Inside.Readable.{IsRead, AreReadable}
use Rattle.pm_cnf.specs.Inside.Progress.{Progress, AcceptsLexeme, RefusesAt}
use Rattle.pm_cnf.specs.Refusals.{Refuses}
use Rattle.pm_scan.proofs.Chains.{tokens_in-append, lexeme_sized}
use Rattle.pm_cnf.proofs.offences.FirstOffence.{IsClean, clean_start, variables_from-append}
use Rattle.pm_cnf.proofs.grammar.Follows.{run_none}
use Rattle.pm_cnf.proofs.offences.Passing.{clean_gap, clean_token, refused_here, fault_here, end_here, no_offence}
use Rattle.pm_cnf.proofs.parsed.Drafts.{file_drafts}
use Rattle.pm_cnf.proofs.parsed.Kept.{file_readable}
use Rattle.pm_cnf.proofs.grammar.Viable.{whole_state}
use Rattle.pm_cnf.specs.Limits.{AreUsual}

abbrev clean_of : (limits : Limits) (bytes : List ℕ) (parser : Parser) (place : ℕ) → Progress limits bytes parser place → IsClean limits bytes (drop place bytes) (state_of parser)
clean_of limits bytes parser place p = record { lexemes = p.lexemes; leads = p.leads; reached = p.reached; clean = p.clean }

pub progress_start : (limits : Limits) (bytes : List ℕ) (parser : Parser) → parser.limits ≡ limits → parser.around ≡ 0 → state_of parser ≡ start → draft_of parser ≡ nothing_drafted → known_of parser ≡ []
    → Progress limits bytes parser 0
progress_start limits bytes parser given around state draft_is known = record {
  within = omega arith;
  limits_are = given;
  around = omega (arith, around);
  lexemes = [];
  leads = refl;
  clean = (clean_start limits bytes).clean;
  reached = ap Some (sym state);
  kept = sym draft_is;
  known = sym known;
}

-- the place after a lexeme
further : (bytes : List ℕ) (place n : ℕ) → drop n (drop place bytes) ≡ drop (place + n) bytes
further bytes place n = drop-drop n place bytes

pub progress_gap : (limits : Limits) (bytes : List ℕ) (parser : Parser) (place n : ℕ) → Progress limits bytes parser place → lexeme_at (drop place bytes) ≡ Some (gap, n)
    → Progress limits bytes parser (place + n)
progress_gap limits bytes parser place n p at =
    let c = clean_gap limits bytes (drop place bytes) (state_of parser) n (clean_of limits bytes parser place p) at in
    let same : tokens_in (p.lexemes ++ gap ∷ []) ≡ tokens_in p.lexemes = tokens_in-append p.lexemes (gap ∷ []) ∙ append-nil (tokens_in p.lexemes) in
    let size : (0 < n) × (n ≤ length (drop place bytes)) = lexeme_sized (drop place bytes) gap n at in
    record {
      within = omega (arith, length-drop place bytes, size.1, p.within);
      limits_are = p.limits_are;
      around = omega (arith, p.around);
      lexemes = p.lexemes ++ gap ∷ [];
      leads = subst (λ (r : List ℕ). Lexes (p.lexemes ++ gap ∷ []) bytes r) (further bytes place n) c.leads;
      clean = λ other kind o. subst (λ (r : List ℕ). length other ≤ length r) (further bytes place n) (c.clean other kind o);
      reached = ap run same ∙ p.reached;
      kept = ap (draft_after (Some start) nothing_drafted) same ∙ p.kept;
      known = ap variables same ∙ p.known;
    }

draft_after-append : (o : Option ParserState) (d : Draft) (ts us : List Token) (s : ParserState) → run_from o ts ≡ Some s → draft_after o d (ts ++ us) ≡ draft_after (Some s) (draft_after o d ts) us
draft_after-append None d [] us s e = absurd (none-some s e)
draft_after-append (Some m) d [] us s e = ap (λ o. draft_after o d us) e
draft_after-append None d (t ∷ ts) us s e = absurd (none-some s (sym (run_none ts) ∙ e))
draft_after-append (Some m) d (t ∷ ts) us s e = draft_after-append (step m t) (draft m t d) ts us s e

-- one more token is kept
draft_push : (ts : List Token) (t : Token) (s next : ParserState) (d : Draft) → run ts ≡ Some s → step s t ≡ Some next → draft_after (Some start) nothing_drafted ts ≡ d
    → draft_after (Some start) nothing_drafted (ts ++ t ∷ []) ≡ draft s t d
draft_push ts t s next d reached goes kept =
    draft_after-append (Some start) nothing_drafted ts (t ∷ []) s reached
    ∙ ap (λ o. draft_after o (draft s t (draft_after (Some start) nothing_drafted ts)) []) goes
    ∙ ap (draft s t) kept

pub progress_token : (limits : Limits) (bytes : List ℕ) (old new : Parser) (place n : ℕ) (t : Token) → Progress limits bytes old place → lexeme_at (drop place bytes) ≡ Some (token t, n)
    → Accepts old t new (Ok _) → new.around ≤ old.around + 1 → Progress limits bytes new (place + n)
progress_token limits bytes old new place n t p at a around =
    let accepted : refusal limits (variables (tokens_in p.lexemes)) (state_of old) t ≡ None =
    subst (λ (l : Limits). refusal l (variables (tokens_in p.lexemes)) (state_of old) t ≡ None) p.limits_are
    (subst (λ (k : List (List ℕ)). refusal old.limits k (state_of old) t ≡ None) (sym p.known) a.0) in
    let c = clean_token limits bytes (drop place bytes) (state_of old) (state_of new) t n (clean_of limits bytes old place p) at accepted a.1 in
    let same : tokens_in (p.lexemes ++ token t ∷ []) ≡ tokens_in p.lexemes ++ t ∷ [] = tokens_in-append p.lexemes (token t ∷ []) in
    let size : (0 < n) × (n ≤ length (drop place bytes)) = lexeme_sized (drop place bytes) (token t) n at in
    record {
      within = omega (arith, length-drop place bytes, size.1, p.within);
      limits_are = a.4 ∙ p.limits_are;
      around = omega (arith, p.around, around, size.0);
      lexemes = p.lexemes ++ token t ∷ [];
      leads = subst (λ (r : List ℕ). Lexes (p.lexemes ++ token t ∷ []) bytes r) (further bytes place n) c.leads;
      clean = λ other kind o. subst (λ (r : List ℕ). length other ≤ length r) (further bytes place n) (c.clean other kind o);
      reached = c.reached;
      kept = ap (draft_after (Some start) nothing_drafted) same ∙ draft_push (tokens_in p.lexemes) t (state_of old) (state_of new) (draft_of old) p.reached a.1 p.kept ∙ sym a.2;
      known = ap variables same ∙ variables_from-append [] (tokens_in p.lexemes) (t ∷ []) ∙ ap (λ k. variables_from k (t ∷ [])) p.known ∙ sym a.3;
    }

pub progress_refused : (limits : Limits) (bytes : List ℕ) (old new : Parser) (place n : ℕ) (t : Token) (kind : CnfKind) → Progress limits bytes old place → lexeme_at (drop place bytes) ≡ Some (token t, n)
    → Accepts old t new (Err (refusals.Kind kind)) → IsFirstOffence limits bytes (drop place bytes) kind
progress_refused limits bytes old new place n t kind p at a =
    refused_here limits bytes (drop place bytes) (state_of old) t n kind (clean_of limits bytes old place p) at
    (subst (λ (l : Limits). refusal l (variables (tokens_in p.lexemes)) (state_of old) t ≡ Some kind) p.limits_are
    (subst (λ (k : List (List ℕ)). refusal old.limits k (state_of old) t ≡ Some kind) (sym p.known) a))

pub progress_fault : (limits : Limits) (bytes : List ℕ) (parser : Parser) (place n : ℕ) (kind : CnfKind) → Progress limits bytes parser place → lexeme_at (drop place bytes) ≡ Some (fault kind, n)
    → IsFirstOffence limits bytes (drop place bytes) kind
progress_fault limits bytes parser place n kind p at = fault_here limits bytes (drop place bytes) (state_of parser) n kind (clean_of limits bytes parser place p) at

kind_same : (a b : CnfKind) → refusals.Kind a ≡ refusals.Kind b → a ≡ b
kind_same a b e = cc

pub progress_lexeme : (limits : Limits) (bytes : List ℕ) (old new : Parser) (place n : ℕ) (x : Lexeme) → Progress limits bytes old place → lexeme_at (drop place bytes) ≡ Some (x, n)
    → AcceptsLexeme old x new (Ok _) → new.around ≤ old.around + 1 → Progress limits bytes new (place + n)
progress_lexeme limits bytes old new place n gap p at r around = subst (λ (q : Parser). Progress limits bytes q (place + n)) (sym r) (progress_gap limits bytes old place n p at)
progress_lexeme limits bytes old new place n (token t) p at r around = progress_token limits bytes old new place n t p at r around
progress_lexeme limits bytes old new place n (fault kind) p at r around = absurd r

pub lexeme_refused : (limits : Limits) (bytes : List ℕ) (old new : Parser) (place n : ℕ) (x : Lexeme) (kind : CnfKind) → Progress limits bytes old place → lexeme_at (drop place bytes) ≡ Some (x, n)
    → AcceptsLexeme old x new (Err (refusals.Kind kind)) → IsFirstOffence limits bytes (drop place bytes) kind
lexeme_refused limits bytes old new place n gap kind p at r = absurd r
lexeme_refused limits bytes old new place n (token t) kind p at r = progress_refused limits bytes old new place n t kind p at r
lexeme_refused limits bytes old new place n (fault k) kind p at r =
    subst (λ (j : CnfKind). IsFirstOffence limits bytes (drop place bytes) j) (sym (kind_same kind k r)) (progress_fault limits bytes old place n k p at)

at_end : (bytes : List ℕ) → lexeme_at bytes ≡ None → bytes ≡ []
at_end [] e = refl
at_end (b ∷ bytes) e = absurd (none-some _ (sym e))

pub progress_cut : (limits : Limits) (bytes : List ℕ) (parser : Parser) (place : ℕ) → Progress limits bytes parser place → lexeme_at (drop place bytes) ≡ None
    → parser.expected ≢ Item → IsFirstOffence limits bytes (drop place bytes) EndInItem
progress_cut limits bytes parser place p at other =
    let done : drop place bytes ≡ [] = at_end (drop place bytes) at in
    subst (λ (r : List ℕ). IsFirstOffence limits bytes r EndInItem) (sym done)
    (end_here limits bytes (state_of parser) (subst (λ (r : List ℕ). IsClean limits bytes r (state_of parser)) done (clean_of limits bytes parser place p)) other)

pub progress_end : (limits : Limits) (bytes : List ℕ) (parser : Parser) (place : ℕ) → Progress limits bytes parser place → lexeme_at (drop place bytes) ≡ None
    → parser.expected ≡ Item → IsRead limits bytes (map item_of parser.items.items)
progress_end limits bytes parser place p at whole =
    let done : drop place bytes ≡ [] = at_end (drop place bytes) at in
    let c : IsClean limits bytes [] (state_of parser) = subst (λ (r : List ℕ). IsClean limits bytes r (state_of parser)) done (clean_of limits bytes parser place p) in
    let w : AreWhole (tokens_in p.lexemes) = (whole_state (tokens_in p.lexemes) (state_of parser) p.reached).1 whole in
    record {
      items = w.items;
      text = record {
        sound = no_offence limits bytes (state_of parser) c whole;
        lexemes = p.lexemes;
        leads = subst (λ (r : List ℕ). Lexes p.lexemes bytes r) done p.leads;
        are = w.are;
        file = w.file;
      };
      keeps = ap (λ (d : Draft). d.items) (sym p.kept)
          ∙ ap (λ ts. (draft_after (Some start) nothing_drafted ts).items) (sym w.file)
          ∙ file_drafts w.items w.are 0 [] (grammar.word (grammar.bare [])) [] true;
    }

-- the error of a refusal at a place
pub refuses_at : (limits : Limits) (bytes : List ℕ) (place : ℕ) (refusal : Refusal) (error : CnfError) → RefusesAt bytes place refusal error
    → ((kind : CnfKind) → refusal ≡ refusals.Kind kind → IsFirstOffence limits bytes (drop place bytes) kind) → Refuses limits bytes error
refuses_at limits bytes place (refusals.Kind kind) error r first =
    subst (Refuses limits bytes) (sym r.1) (drop place bytes, first kind refl, r.2)
refuses_at limits bytes place refusals.Memory error r first = subst (Refuses limits bytes) (sym r) _

-- a lexeme that is refused is the first offence
pub lexeme_refuses : (limits : Limits) (bytes : List ℕ) (old new : Parser) (place n : ℕ) (x : Lexeme) (refusal : Refusal) (error : CnfError) → Progress limits bytes old place
    → lexeme_at (drop place bytes) ≡ Some (x, n) → AcceptsLexeme old x new (Err refusal) → RefusesAt bytes place refusal error → Refuses limits bytes error
lexeme_refuses limits bytes old new place n x refusal error p at r says =
    refuses_at limits bytes place refusal error says
    (λ kind is. lexeme_refused limits bytes old new place n x kind p at (subst (λ (y : Refusal). AcceptsLexeme old x new (Err y)) is r))

-- and so is the end within an item
pub cut_refuses : (limits : Limits) (bytes : List ℕ) (parser : Parser) (place : ℕ) (error : CnfError) → Progress limits bytes parser place → lexeme_at (drop place bytes) ≡ None
    → parser.expected ≢ Item → RefusesAt bytes place (refusals.Kind EndInItem) error → Refuses limits bytes error
cut_refuses limits bytes parser place error p at other says =
    refuses_at limits bytes place (refusals.Kind EndInItem) error says
    (λ kind is. subst (λ (k : CnfKind). IsFirstOffence limits bytes (drop place bytes) k) (kind_same EndInItem kind is) (progress_cut limits bytes parser place p at other))

-- the bytes from a place on, as a slice has them
pub rest_is : (bytes : List ℕ) (place : ℕ) → drop place bytes ≡ take (length bytes - place) (drop place bytes)
rest_is bytes place = sym (take_all (length bytes - place) (drop place bytes) (omega (arith, length-drop place bytes)))

-- a file that was read has the problem of its items
pub read_problem : (limits : Limits) (bytes : List ℕ) (kept : List Written) (problem : Problem) → IsRead limits bytes kept
    → ((file : List grammar.Item) → kept ≡ map written file → IsProblemOf file problem) → IsProblemIn limits bytes problem
read_problem limits bytes kept problem r of = record { items = r.items; text = r.text; means = of r.items r.keeps }

-- and its items are readable
pub read_readable : (limits : Limits) (bytes : List ℕ) (kept : List Written) → AreUsual limits → length bytes < 2 ^ 32 - 1 → IsRead limits bytes kept → AreReadable kept
read_readable limits bytes kept usual short r =
    subst AreReadable (sym r.keeps) (file_readable limits bytes r.text.lexemes r.items r.text.leads r.text.are r.text.file r.text.sound usual.clauses usual.literals short)
