-- The step machine goes from token to token, and tells what each of them begins.
use Rattle.std.proofs.Common.{◌≡◌, List, [], ◌∷◌, ◌++◌, Option, Some, None, refl, sym, ap, subst, ◌∙◌}
use Rattle.pm_scan.specs.Lexemes.{Token}
use Rattle.pm_cnf.specs.Grammar.{Placed, tokens_of}
use Rattle.pm_cnf.specs.Inside.Machine.{ParserState, start, step, step_from, run_from, run, begun}

-- each token is allowed, and begins what is said of it; the last state is this one
abbrev pub Follows : Option ParserState → List Placed → ParserState → Type 0
Follows None places r = ⊥
Follows (Some s) [] r = s ≡ r
Follows (Some s) (p ∷ ps) r = (begun s p.0 ≡ p.1) × Follows (step s p.0) ps r

pub follows_append : (st : Option ParserState) (ps qs : List Placed) (m r : ParserState) → Follows st ps m → Follows (Some m) qs r → Follows st (ps ++ qs) r
follows_append None ps qs m r h k = absurd h
follows_append (Some s) [] qs m r is k = subst (λ x. Follows (Some x) qs r) (sym is) k
follows_append (Some s) (p ∷ ps) qs m r h k = (h.0, follows_append (step s p.0) ps qs m r h.1 k)

pub follows_run : (st : Option ParserState) (ps : List Placed) (r : ParserState) → Follows st ps r → run_from st (tokens_of ps) ≡ Some r
follows_run None ps r h = absurd h
follows_run (Some s) [] r is = ap Some is
follows_run (Some s) (p ∷ ps) r h = follows_run (step s p.0) ps r h.1

-- what happens at a token that stands between others
pub record Passes (st : Option ParserState) (before : List Placed) (p : Placed) (after : List Placed) (r : ParserState) : Type 0 where
  pub state : ParserState
  pub reached : run_from st (tokens_of before) ≡ Some state
  pub begins : begun state p.0 ≡ p.1
  pub goes_on : Follows (step state p.0) after r

pub follows_split : (st : Option ParserState) (before : List Placed) (p : Placed) (after : List Placed) (r : ParserState) → Follows st (before ++ p ∷ after) r → Passes st before p after r
follows_split None before p after r h = absurd h
follows_split (Some s) [] p after r h = record { state = s; reached = refl; begins = h.0; goes_on = h.1 }
follows_split (Some s) (q ∷ before) p after r h =
    let later = follows_split (step s q.0) before p after r h.1 in
    record { state = later.state; reached = later.reached; begins = later.begins; goes_on = later.goes_on }

-- nothing goes on from no state
pub run_none : (ts : List Token) → run_from None ts ≡ None
run_none [] = refl
run_none (t ∷ ts) = run_none ts

pub run_from-append : (st : Option ParserState) (ts us : List Token) → run_from st (ts ++ us) ≡ run_from (run_from st ts) us
run_from-append st [] us = refl
run_from-append st (t ∷ ts) us = run_from-append (step_from st t) ts us

-- one token more
pub run-push : (ts : List Token) (t : Token) (s : ParserState) → run ts ≡ Some s → run (ts ++ t ∷ []) ≡ step s t
run-push ts t s is = run_from-append (Some start) ts (t ∷ []) ∙ ap (λ o. step_from o t) is
