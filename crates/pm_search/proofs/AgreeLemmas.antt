-- What is said of a key is said of each key that agrees with it.
use Rattle.std.proofs.Common.{ℕ, ◌<◌, ◌∙◌, List, sym, subst}
use Rattle.pm_space.specs.Key.{Key, Agree}
use Rattle.pm_choice.specs.declared.Bound.{Bound}
use Rattle.pm_choice.specs.declared.Bound.TheVariants.{At}
use Rattle.pm_choice.specs.Entries.{Closes}
use Rattle.pm_choice.proofs.EntryLemmas.{AreSameEntries, closes_same, finds_same}
use Rattle.pm_search.specs.declared.Turn.{Turn}
use Rattle.pm_search.specs.declared.Turn.TheVariants.{Closed, Found, Paused}
use Rattle.pm_search.specs.declared.Stage.{Stage}
use Rattle.pm_search.specs.declared.Stage.TheVariants.{Attempting, Ended, Answered}
use Rattle.pm_search.specs.Attempts.{IsAttempt, attempts_of}
use Rattle.pm_search.specs.Turns.{Pauses, IsTurn}
use Rattle.pm_search.specs.Inside.Places.{IsSearchPlace, Holds}

pub agree_trans : (a b c : Key) → Agree a b → Agree b c → Agree a c
agree_trans a b c ab bc = record {
  width = λ list. ab.width list ∙ bc.width list;
  reached = λ list. (λ r. (bc.reached list).0 ((ab.reached list).0 r), λ r. (ab.reached list).1 ((bc.reached list).1 r));
  complete = λ list. (λ r. (bc.complete list).0 ((ab.complete list).0 r), λ r. (ab.complete list).1 ((bc.complete list).1 r));
}

pub agree_sym : (a b : Key) → Agree a b → Agree b a
agree_sym a b ab = record {
  width = λ list. sym (ab.width list);
  reached = λ list. ((ab.reached list).1, (ab.reached list).0);
  complete = λ list. ((ab.complete list).1, (ab.complete list).0);
}

pub place_agrees : (key other : Key) → Agree other key → (path place widths : List ℕ) → IsSearchPlace other path place widths → IsSearchPlace key path place widths
place_agrees key other agree path place widths is = record {
  reached = (agree.reached path).0 is.reached;
  measured = record {
    count = is.measured.count;
    each = λ n within. is.measured.each n within ∙ agree.width _;
    fits = is.measured.fits;
  };
  ends = is.ends;
}

pub attempt_agrees : (key other : Key) → Agree other key → (list : List ℕ) → IsAttempt other list → IsAttempt key list
attempt_agrees key other agree list attempt = record {
  path = attempt.path;
  choice = attempt.choice;
  parts = attempt.parts;
  reached = (agree.reached attempt.path).0 attempt.reached;
  incomplete = λ complete. attempt.incomplete ((agree.complete attempt.path).1 complete);
  below = subst (λ (n : ℕ). attempt.choice < n) (agree.width attempt.path) attempt.below;
}

pub same_attempts : (key other : Key) → Agree other key → AreSameEntries (attempts_of other) (attempts_of key)
same_attempts key other agree = record {
  entry = λ list. (attempt_agrees key other agree list, attempt_agrees other key (agree_sym other key agree) list);
  marked = agree.complete;
}

pub closes_agrees : (key other : Key) → Agree other key → (from : List ℕ) (to : Bound) (work : ℕ) → Closes (attempts_of other) from to work → Closes (attempts_of key) from to work
closes_agrees key other agree = closes_same (attempts_of other) (attempts_of key) (same_attempts key other agree)

pub pauses_agrees : (key other : Key) → Agree other key → (from : List ℕ) (to : Bound) (next : List ℕ) (work : ℕ) → Pauses other from to next work → Pauses key from to next work
pauses_agrees key other agree from to next work pauses = record {
  attempt = attempt_agrees key other agree next pauses.attempt;
  within = pauses.within;
  below = closes_agrees key other agree from (At next) work pauses.below;
}

pub turn_agrees : (key other : Key) → Agree other key → (from : List ℕ) (to : Bound) (most : ℕ) (turn : Turn) → IsTurn other from to most turn → IsTurn key from to most turn
turn_agrees key other agree from to most (Closed work) is = (closes_agrees key other agree from to work is.0, is.1)
turn_agrees key other agree from to most (Found path work) is = (finds_same (attempts_of other) (attempts_of key) (same_attempts key other agree) from to path work is.0, is.1)
turn_agrees key other agree from to most (Paused next work) is = (pauses_agrees key other agree from to next work is.0, is.1)

pub holds_agrees : (key other : Key) → Agree other key → (path place widths from : List ℕ) (to : Bound) (worked : ℕ) (stage : Stage)
    → Holds other path place widths from to worked stage → Holds key path place widths from to worked stage
holds_agrees key other agree path place widths from to worked Attempting holds =
    (place_agrees key other agree path place widths holds.0, pauses_agrees key other agree from to place worked holds.1)
holds_agrees key other agree path place widths from to worked Ended holds = closes_agrees key other agree from to worked holds
holds_agrees key other agree path place widths from to worked Answered holds = tt
