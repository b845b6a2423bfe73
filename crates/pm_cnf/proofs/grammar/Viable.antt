-- What the state after some tokens tells of them: whether they are whole items, and what may stand after them.
use Rattle.std.proofs.Common.{◌≡◌, ◌≢◌, ◌↔◌, ℕ, suc, ◌⊎◌, inl, inr, List, [], ◌∷◌, ◌++◌, length, Option, Some, None, refl, sym, ◌∙◌, ap, subst}
use Rattle.std.proofs.lemmas.Option.{same_Some}
use Rattle.pm_scan.specs.declared.token.Mark.TheVariants.{OpenParenthesis, Bar}
use Rattle.pm_cnf.specs.declared.parser.Expected.{Expected}
use Rattle.pm_cnf.specs.declared.parser.Expected.TheVariants as expect
use Rattle.pm_scan.specs.Lexemes.{Token, lower, upper, mark}
use Rattle.pm_cnf.specs.Grammar.{Item, AreItems, Begins, an_item, a_literal, an_argument, a_next_literal, Placed, file_places, tokens_of}
use Rattle.pm_cnf.specs.Offences.{AreWhole, MayStand, IsAtomPlace, IsTermPlace, MayBegin, IsAllowed, TermMayBegin, EndsWithAtom}
use Rattle.pm_cnf.specs.Inside.Machine.{ParserState, start, step, step_at, run_from, run, begun, begun_at, innermost, formula_begun, literal_end_begun}
use Rattle.pm_cnf.proofs.grammar.Follows.{Follows, Passes, follows_split, run_none, run_from-append, run-push}
use Rattle.pm_cnf.proofs.grammar.Forward.{in_item, file_follows, file_runs}
use Rattle.pm_cnf.proofs.grammar.Stages.{Stage, between_items, at_formula, at_literal, at_atom, after_predicate, after_literal, at_term, after_function, stage_state, Staged, IsAtomStage, AtVariable, none_is, step_staged, Completed, stage_completed}
use Rattle.pm_cnf.proofs.grammar.Backward.{run_reads}
use Rattle.pm_cnf.proofs.Lists.{head_is, tail_is}

-- a literal, or an atom after a ~, begins
abbrev pub IsAtomPlaceState : Expected → Type 0
IsAtomPlaceState expect.Formula = Unit {0}
IsAtomPlaceState expect.Literal = Unit {0}
IsAtomPlaceState expect.Atom = Unit {0}
IsAtomPlaceState e = ⊥

-- a literal, an atom after a ~, or a term begins
abbrev pub IsTermPlaceState : Expected → Type 0
IsTermPlaceState expect.Term = Unit {0}
IsTermPlaceState e = IsAtomPlaceState e

-- an atom stands before, or an upper word in its place
abbrev pub IsAtomEndState : Expected → Type 0
IsAtomEndState expect.PredicateEnd = Unit {0}
IsAtomEndState expect.LiteralEnd = Unit {0}
IsAtomEndState expect.VariableEnd = Unit {0}
IsAtomEndState e = ⊥

-- the tokens end with an upper word in the place of an atom
pub record AfterVariable (from : Option ParserState) (ts : List Token) (s : ParserState) : Type 0 where
  pub before : List Token
  pub text : List ℕ
  pub items : ℕ
  pub stage : Stage
  pub tokens : ts ≡ before ++ upper text ∷ []
  pub runs : run_from from before ≡ Some (stage_state items stage)
  pub atom : IsAtomStage stage
  pub expected : s.expected ≡ expect.VariableEnd

-- nothing goes on from a variable in the place of an atom
pub variable_stops : (s : ParserState) (t : Token) → s.expected ≡ expect.VariableEnd → step s t ≡ None
variable_stops s t is = ap (λ e. step_at e s t) is

-- the state after tokens from a stage on
abbrev Reached : Option ParserState → List Token → ParserState → Type 0
Reached from ts s = Staged s ⊎ AfterVariable from ts s

reached_later : (t : Token) (ts : List Token) (i : ℕ) (g : Stage) (m s : ParserState) → step (stage_state i g) t ≡ Some m → Reached (Some m) ts s → Reached (Some (stage_state i g)) (t ∷ ts) s
reached_later t ts i g m s is (inl r) = inl r
reached_later t ts i g m s is (inr r) = inr (record {
  before = t ∷ r.before;
  text = r.text;
  items = r.items;
  stage = r.stage;
  tokens = ap (λ us. t ∷ us) r.tokens;
  runs = ap (λ o. run_from o r.before) is ∙ r.runs;
  atom = r.atom;
  expected = r.expected;
})

reached_variable : (t : Token) (ts : List Token) (i : ℕ) (g : Stage) (m s : ParserState) → AtVariable g t m → run_from (Some m) ts ≡ Some s → Reached (Some (stage_state i g)) (t ∷ ts) s
reached_variable t [] i g m s v h = inr (record {
  before = [];
  text = v.text;
  items = i;
  stage = g;
  tokens = ap (λ u. u ∷ []) v.upper_word;
  runs = refl;
  atom = v.atom;
  expected = ap (λ x. x.expected) (sym (same_Some m s h)) ∙ v.expected;
})
reached_variable t (u ∷ ts) i g m s v h = none_is s (sym (run_none ts) ∙ ap (λ o. run_from o ts) (sym (variable_stops m u v.expected)) ∙ h)

reached_by : (t : Token) (ts : List Token) (s : ParserState) → ((i : ℕ) (g : Stage) → run_from (Some (stage_state i g)) ts ≡ Some s → Reached (Some (stage_state i g)) ts s)
    → (i : ℕ) (g : Stage) (o : Option ParserState) → step (stage_state i g) t ≡ o → run_from o ts ≡ Some s → Reached (Some (stage_state i g)) (t ∷ ts) s
reached_by t ts s ih i g None is h = none_is s (sym (run_none ts) ∙ h)
reached_by t ts s ih i g (Some m) is h = by (step_staged t i g m is)
  where
    by : Staged m ⊎ AtVariable g t m → Reached (Some (stage_state i g)) (t ∷ ts) s
    by (inl st) = reached_later t ts i g (stage_state st.items st.stage) s (is ∙ ap Some st.is) (ih st.items st.stage (subst (λ x. run_from (Some x) ts ≡ Some s) st.is h))
    by (inr v) = reached_variable t ts i g m s v h

reached_from : (ts : List Token) (s : ParserState) (i : ℕ) (g : Stage) → run_from (Some (stage_state i g)) ts ≡ Some s → Reached (Some (stage_state i g)) ts s
reached_from [] s i g h = inl (record { items = i; stage = g; is = sym (same_Some (stage_state i g) s h) })
reached_from (t ∷ ts) s i g h = reached_by t ts s (reached_from ts s) i g (step (stage_state i g) t) refl h

-- what runs come to
pub run_reaches : (ts : List Token) (s : ParserState) → run ts ≡ Some s → Staged s ⊎ AfterVariable (Some start) ts s
run_reaches ts s h = reached_from ts s 0 between_items h

-- Tokens that end with no variable in the place of an atom can be completed.
pub run_completed : (ts : List Token) (s : ParserState) → run ts ≡ Some s → s.expected ≢ expect.VariableEnd → Completed s
run_completed ts s h other = by (run_reaches ts s h)
  where
    by : Staged s ⊎ AfterVariable (Some start) ts s → Completed s
    by (inl st) = subst Completed {x = stage_state st.items st.stage} (sym st.is) (stage_completed st.items st.stage)
    by (inr v) = absurd (other v.expected)

-- Whole items.

pub whole_is : (ts : List Token) (s : ParserState) → run ts ≡ Some s → (whole : AreWhole ts) → s ≡ in_item expect.Item (length whole.items)
whole_is ts s h whole = same_Some s (in_item expect.Item (length whole.items)) (sym h ∙ ap run (sym whole.file) ∙ file_runs whole.items whole.are)

pub whole_count : (ts : List Token) (s : ParserState) → run ts ≡ Some s → (whole : AreWhole ts) → length whole.items ≡ s.items
whole_count ts s h whole = ap (λ x. x.items) (sym (whole_is ts s h whole))

pub whole_runs : (ts : List Token) → (whole : AreWhole ts) → run ts ≡ Some (in_item expect.Item (length whole.items))
whole_runs ts whole = ap run (sym whole.file) ∙ file_runs whole.items whole.are

pub whole_state : (ts : List Token) (s : ParserState) → run ts ≡ Some s → AreWhole ts ↔ (s.expected ≡ expect.Item)
whole_state ts s h = (λ whole. ap (λ x. x.expected) (whole_is ts s h whole), λ is. run_reads ts s h is)

-- What may stand after the tokens.

passes_at : (ts : List Token) (t : Token) (b : Begins) (m : MayStand ts t b) → Passes (Some start) m.before (t, b) m.after (in_item expect.Item (length m.items))
passes_at ts t b m =
    let last = in_item expect.Item (length m.items) in
    follows_split (Some start) m.before (t, b) m.after last (subst (λ ps. Follows (Some start) ps last) m.file (file_follows m.items m.are))

-- the tokens lead to a state
pub stands_run : (ts : List Token) (t : Token) (b : Begins) → MayStand ts t b → (s : ParserState) × (run ts ≡ Some s)
stands_run ts t b m = let p = passes_at ts t b m in (p.state, ap run (sym m.stands) ∙ p.reached)

goes_on_some : (o : Option ParserState) (ps : List Placed) (r : ParserState) → Follows o ps r → o ≢ None
goes_on_some None ps r h = λ is. h
goes_on_some (Some s) ps r h = λ is. none_is s (sym is)

pub stands_step : (ts : List Token) (s : ParserState) (t : Token) (b : Begins) → run ts ≡ Some s → MayStand ts t b → (step s t ≢ None) × (begun s t ≡ b)
stands_step ts s t b h m =
    let p = passes_at ts t b m in
    let last = in_item expect.Item (length m.items) in
    let same : p.state ≡ s = same_Some p.state s (sym p.reached ∙ ap run m.stands ∙ h) in
    subst (λ x. (step x t ≢ None) × (begun x t ≡ b)) same (goes_on_some (step p.state t) m.after last p.goes_on, p.begins)

-- where a token stands among placed tokens
record IsAmong (ps : List Placed) (ts : List Token) (t : Token) : Type 0 where
  before : List Placed
  begins : Begins
  after : List Placed
  places : ps ≡ before ++ (t, begins) ∷ after
  tokens : tokens_of before ≡ ts

stands_among : (ps : List Placed) (ts : List Token) (t : Token) (more : List Token) → tokens_of ps ≡ ts ++ t ∷ more → IsAmong ps ts t
stands_among [] [] t more is = cc
stands_among [] (u ∷ ts) t more is = cc
stands_among (p ∷ ps) [] t more is = record { before = []; begins = p.1; after = ps; places = ap (λ u. (u, p.1) ∷ ps) (head_is p.0 t (tokens_of ps) more is); tokens = refl }
stands_among (p ∷ ps) (u ∷ ts) t more is =
    let later = stands_among ps ts t more (tail_is p.0 u (tokens_of ps) (ts ++ t ∷ more) is) in
    record {
      before = p ∷ later.before;
      begins = later.begins;
      after = later.after;
      places = ap (λ qs. p ∷ qs) later.places;
      tokens = ap (λ v. v ∷ tokens_of later.before) (head_is p.0 u (tokens_of ps) (ts ++ t ∷ more) is) ∙ ap (λ us. u ∷ us) later.tokens;
    }

stands_in : (ts : List Token) (s : ParserState) (t : Token) (items : List Item) → AreItems items → run ts ≡ Some s → IsAmong (file_places 0 items) ts t → MayStand ts t (begun s t)
stands_in ts s t items are h place =
    let m : MayStand ts t place.begins = record { items = items; are = are; before = place.before; after = place.after; file = place.places; stands = place.tokens } in
    subst (MayStand ts t) {x = place.begins} (sym (stands_step ts s t place.begins h m).1) m

-- a token that leads to a stage may stand, and begins what its state says
pub step_stands : (ts : List Token) (s : ParserState) (t : Token) (next : ParserState) → run ts ≡ Some s → step s t ≡ Some next → Staged next → MayStand ts t (begun s t)
step_stands ts s t next h is st =
    let c = subst Completed {x = stage_state st.items st.stage} (sym st.is) (stage_completed st.items st.stage) in
    let runs : run (ts ++ t ∷ c.more) ≡ Some c.last =
    run_from-append (Some start) ts (t ∷ c.more) ∙ ap (λ o. run_from o (t ∷ c.more)) h ∙ ap (λ o. run_from o c.more) is ∙ c.runs in
    let whole = run_reads (ts ++ t ∷ c.more) c.last runs c.ended in
    stands_in ts s t whole.items whole.are h (stands_among (file_places 0 whole.items) ts t c.more whole.file)

-- What the places of atoms and terms are.

no_atom_begins : (t : Token) → IsAtomPlace (literal_end_begun t) → ⊥
no_atom_begins (mark Bar) h = h
no_atom_begins t h = h

atom_in_formula : (t : Token) (s : ParserState) → IsAtomPlace (formula_begun t s) → (text : List ℕ) → formula_begun (upper text) s ≡ formula_begun t s
atom_in_formula (mark OpenParenthesis) s h text = absurd h
atom_in_formula t s h text = refl

-- where a literal, or an atom after a ~, begins with one token, it may begin with an upper word
atom_place : (e : Expected) (s : ParserState) (t : Token) (text : List ℕ) → IsAtomPlace (begun_at e s t) → IsAtomPlaceState e × (begun_at e s (upper text) ≡ begun_at e s t)
atom_place expect.Formula s t text h = (tt, atom_in_formula t s h text)
atom_place expect.Literal s t text h = (tt, refl)
atom_place expect.Atom s t text h = (tt, refl)
atom_place expect.PredicateEnd s t text h = absurd (no_atom_begins t h)
atom_place expect.LiteralEnd s t text h = absurd (no_atom_begins t h)
atom_place e s t text h = absurd h

no_term_begins : (t : Token) → IsTermPlace (literal_end_begun t) → ⊥
no_term_begins (mark Bar) h = h
no_term_begins t h = h

term_place : (e : Expected) (s : ParserState) (t : Token) → IsTermPlace (begun_at e s t) → IsTermPlaceState e
term_place expect.Formula s t h = tt
term_place expect.Literal s t h = tt
term_place expect.Atom s t h = tt
term_place expect.Term s t h = tt
term_place expect.PredicateEnd s t h = absurd (no_term_begins t h)
term_place expect.LiteralEnd s t h = absurd (no_term_begins t h)
term_place e s t h = absurd h

-- an upper word in the place of an atom
record ToVariable (o : Option ParserState) : Type 0 where
  next : ParserState
  is : o ≡ Some next
  expected : next.expected ≡ expect.VariableEnd

upper_step : (e : Expected) (s : ParserState) (text : List ℕ) → IsAtomPlaceState e → ToVariable (step_at e s (upper text))
upper_step expect.Formula s text h = record { next = _; is = refl; expected = refl }
upper_step expect.Literal s text h = record { next = _; is = refl; expected = refl }
upper_step expect.Atom s text h = record { next = _; is = refl; expected = refl }
upper_step e s text h = absurd h

-- the token leads to a stage
record ToStage (o : Option ParserState) : Type 0 where
  next : ParserState
  is : o ≡ Some next
  staged : Staged next

to_stage : (i : ℕ) (g : Stage) → ToStage (Some (stage_state i g))
to_stage i g = record { next = stage_state i g; is = refl; staged = record { items = i; stage = g; is = refl } }

-- a word may begin a literal, an atom or a term
word_step : (i : ℕ) (g : Stage) → IsTermPlaceState (stage_state i g).expected → ToStage (step (stage_state i g) (lower [])) × IsTermPlace (begun (stage_state i g) (lower []))
word_step i (at_formula a) h = (to_stage i (after_predicate a 1), tt)
word_step i (at_literal a l) h = (to_stage i (after_predicate a (suc l)), tt)
word_step i (at_atom a l) h = (to_stage i (after_predicate a l), tt)
word_step i (at_term a l n counts) h = (to_stage i (after_function a l (suc n) counts), tt)
word_step i g h = absurd h

-- an upper word begins there what a word does
atom_word : (i : ℕ) (g : Stage) (text : List ℕ) → IsAtomStage g
    → IsTermPlaceState (stage_state i g).expected × IsAtomPlace (begun (stage_state i g) (lower [])) × (begun (stage_state i g) (lower []) ≡ begun (stage_state i g) (upper text))
atom_word i (at_formula a) text h = (tt, tt, refl)
atom_word i (at_literal a l) text h = (tt, tt, refl)
atom_word i (at_atom a l) text h = (tt, tt, refl)
atom_word i g text h = absurd h

word_may_stand : (ts : List Token) (i : ℕ) (g : Stage) → run ts ≡ Some (stage_state i g) → IsTermPlaceState (stage_state i g).expected → MayStand ts (lower []) (begun (stage_state i g) (lower []))
word_may_stand ts i g h place = let to = (word_step i g place).0 in step_stands ts (stage_state i g) (lower []) to.next h to.is to.staged

-- Tokens that are allowed.

pub stands_allowed : (ts : List Token) (t : Token) (b : Begins) → MayStand ts t b → IsAllowed ts t b
stands_allowed ts (upper text) b m = inl m
stands_allowed ts t b m = m

variable_step : (ts : List Token) (s : ParserState) (text : List ℕ) (b : Begins) → run ts ≡ Some s → IsAtomPlace b → MayBegin ts b → (step s (upper text) ≢ None) × (begun s (upper text) ≡ b)
variable_step ts s text b h place may =
    let is = (stands_step ts s may.0 b h may.1).1 in
    let at_atom = atom_place s.expected s may.0 text (subst IsAtomPlace (sym is) place) in
    let to = upper_step s.expected s text at_atom.0 in
    (λ stuck. none_is to.next (sym stuck ∙ to.is), at_atom.1 ∙ is)

pub allowed_step : (ts : List Token) (s : ParserState) (t : Token) (b : Begins) → run ts ≡ Some s → IsAllowed ts t b → (step s t ≢ None) × (begun s t ≡ b)
allowed_step ts s (upper text) b h (inl m) = stands_step ts s (upper text) b h m
allowed_step ts s (upper text) b h (inr v) = variable_step ts s text b h v.0 v.1
allowed_step ts s t b h m = stands_step ts s t b h m

stage_allowed : (ts : List Token) (i : ℕ) (g : Stage) (t : Token) (next : ParserState) → run ts ≡ Some (stage_state i g) → step (stage_state i g) t ≡ Some next → IsAllowed ts t (begun (stage_state i g) t)
stage_allowed ts i g t next h is = by (step_staged t i g next is)
  where
    by : Staged next ⊎ AtVariable g t next → IsAllowed ts t (begun (stage_state i g) t)
    by (inl st) = stands_allowed ts t (begun (stage_state i g) t) (step_stands ts (stage_state i g) t next h is st)
    by (inr v) =
        let word = atom_word i g v.text v.atom in
        let may : MayBegin ts (begun (stage_state i g) (lower [])) = (lower [], word_may_stand ts i g h word.0) in
        subst (λ u. IsAllowed ts u (begun (stage_state i g) u)) (sym v.upper_word)
        (inr (subst (λ b. IsAtomPlace b × MayBegin ts b) word.2 (word.1, may)))

pub step_allowed : (ts : List Token) (s : ParserState) (t : Token) → run ts ≡ Some s → step s t ≢ None → IsAllowed ts t (begun s t)
step_allowed ts s t h some = by (step s t) refl (run_reaches ts s h)
  where
    by : (o : Option ParserState) → step s t ≡ o → Staged s ⊎ AfterVariable (Some start) ts s → IsAllowed ts t (begun s t)
    by None is r = absurd (some is)
    by (Some next) is (inr v) = absurd (some (variable_stops s t v.expected))
    by (Some next) is (inl st) =
        subst (λ x. IsAllowed ts t (begun x t)) (sym st.is)
        (stage_allowed ts st.items st.stage t next (h ∙ ap Some st.is) (ap (λ x. step x t) (sym st.is) ∙ is))

pub allowed_state : (ts : List Token) (s : ParserState) → run ts ≡ Some s → (t : Token) (b : Begins) → IsAllowed ts t b ↔ ((step s t ≢ None) × (begun s t ≡ b))
allowed_state ts s h t b = (λ allowed. allowed_step ts s t b h allowed, λ x. subst (IsAllowed ts t) x.1 (step_allowed ts s t h x.0))

-- the grammar allows the token at no place
pub unexpected_state : (ts : List Token) (s : ParserState) → run ts ≡ Some s → (t : Token) → ((b : Begins) → ¬ IsAllowed ts t b) ↔ (step s t ≡ None)
unexpected_state ts s h t = (λ none. by (step s t) refl none, λ is b allowed. (allowed_step ts s t b h allowed).0 is)
  where
    by : (o : Option ParserState) → step s t ≡ o → ((b : Begins) → ¬ IsAllowed ts t b) → o ≡ None
    by None is none = refl
    by (Some next) is none = absurd (none (begun s t) (step_allowed ts s t h (λ stuck. none_is next (sym stuck ∙ is))))

-- only tokens that lead to a state have a token allowed after them
pub allowed_runs : (ts : List Token) (t : Token) (b : Begins) → IsAllowed ts t b → (s : ParserState) × (run ts ≡ Some s)
allowed_runs ts (upper text) b (inl m) = stands_run ts (upper text) b m
allowed_runs ts (upper text) b (inr v) = stands_run ts v.1.0 b v.1.1
allowed_runs ts t b m = stands_run ts t b m

-- Places of terms.

term_may_begin : (ts : List Token) (s : ParserState) → run ts ≡ Some s → TermMayBegin ts → IsTermPlaceState s.expected
term_may_begin ts s h x =
    let is = (stands_step ts s x.2.0 x.0 h x.2.1).1 in
    term_place s.expected s x.2.0 (subst IsTermPlace (sym is) x.1)

term_begins : (ts : List Token) (s : ParserState) → run ts ≡ Some s → IsTermPlaceState s.expected → Staged s ⊎ AfterVariable (Some start) ts s → TermMayBegin ts
term_begins ts s h place (inr v) = absurd (subst IsTermPlaceState v.expected place)
term_begins ts s h place (inl st) =
    let at_stage = subst (λ x. IsTermPlaceState x.expected) st.is place in
    (begun (stage_state st.items st.stage) (lower []), (word_step st.items st.stage at_stage).1, (lower [], word_may_stand ts st.items st.stage (h ∙ ap Some st.is) at_stage))

pub term_place_state : (ts : List Token) (s : ParserState) → run ts ≡ Some s → TermMayBegin ts ↔ IsTermPlaceState s.expected
term_place_state ts s h = (term_may_begin ts s h, λ place. term_begins ts s h place (run_reaches ts s h))

pub term_place_runs : (ts : List Token) → TermMayBegin ts → (s : ParserState) × (run ts ≡ Some s)
term_place_runs ts x = stands_run ts x.2.0 x.0 x.2.1

-- Ends of atoms.

no_next_literal : (t : Token) (s : ParserState) → formula_begun t s ≢ a_next_literal
no_next_literal (mark OpenParenthesis) s = λ is. cc
no_next_literal t s = λ is. cc

next_literal_state : (e : Expected) (s : ParserState) (t : Token) → begun_at e s t ≡ a_next_literal → IsAtomEndState e
next_literal_state expect.PredicateEnd s t is = tt
next_literal_state expect.LiteralEnd s t is = tt
next_literal_state expect.VariableEnd s t is = tt
next_literal_state expect.Formula s t is = absurd (no_next_literal t s is)
next_literal_state e s t is = cc

variable_state : (ts before : List Token) (text : List ℕ) (b : Begins) (s : ParserState) (o : Option ParserState) → run before ≡ o → run ts ≡ Some s → ts ≡ before ++ upper text ∷ [] → IsAtomPlace b → MayBegin before b
    → s.expected ≡ expect.VariableEnd
variable_state ts before text b s None from h is place may = none_is s (sym (sym h ∙ ap run is ∙ run_from-append (Some start) before (upper text ∷ []) ∙ ap (λ o. run_from o (upper text ∷ [])) from))
variable_state ts before text b s (Some m) from h is place may =
    let begins = (stands_step before m may.0 b from may.1).1 in
    let to = upper_step m.expected m text (atom_place m.expected m may.0 text (subst IsAtomPlace (sym begins) place)).0 in
    let same : Some s ≡ Some to.next = sym h ∙ ap run is ∙ run-push before (upper text) m from ∙ to.is in
    ap (λ x. x.expected) (same_Some s to.next same) ∙ to.expected

ends_with_atom : (ts : List Token) (s : ParserState) → run ts ≡ Some s → EndsWithAtom ts → IsAtomEndState s.expected
ends_with_atom ts s h (inl x) = next_literal_state s.expected s x.0 (stands_step ts s x.0 a_next_literal h x.1).1
ends_with_atom ts s h (inr x) = subst IsAtomEndState (sym (variable_state ts x.0 x.1 x.2 s (run x.0) refl h x.3 x.4 x.5)) tt

bar_step : (i : ℕ) (g : Stage) → IsAtomEndState (stage_state i g).expected → ToStage (step (stage_state i g) (mark Bar)) × (begun (stage_state i g) (mark Bar) ≡ a_next_literal)
bar_step i (after_predicate a l) h = (to_stage i (at_literal a l), refl)
bar_step i (after_literal a l) h = (to_stage i (at_literal a l), refl)
bar_step i g h = absurd h

atom_ends : (ts : List Token) (s : ParserState) → run ts ≡ Some s → IsAtomEndState s.expected → Staged s ⊎ AfterVariable (Some start) ts s → EndsWithAtom ts
atom_ends ts s h atom (inl st) =
    let bar = bar_step st.items st.stage (subst (λ x. IsAtomEndState x.expected) st.is atom) in
    let m = step_stands ts (stage_state st.items st.stage) (mark Bar) bar.0.next (h ∙ ap Some st.is) bar.0.is bar.0.staged in
    inl (mark Bar, subst (MayStand ts (mark Bar)) bar.1 m)
atom_ends ts s h atom (inr v) =
    let word = atom_word v.items v.stage v.text v.atom in
    inr (v.before, v.text, begun (stage_state v.items v.stage) (lower []), v.tokens, word.1, (lower [], word_may_stand v.before v.items v.stage v.runs word.0))

pub atom_end_state : (ts : List Token) (s : ParserState) → run ts ≡ Some s → EndsWithAtom ts ↔ IsAtomEndState s.expected
atom_end_state ts s h = (ends_with_atom ts s h, λ atom. atom_ends ts s h atom (run_reaches ts s h))

atom_end_run : (before : List Token) (text : List ℕ) (b : Begins) (m : ParserState) → run before ≡ Some m → IsAtomPlace b → MayBegin before b → (s : ParserState) × (run (before ++ upper text ∷ []) ≡ Some s)
atom_end_run before text b m from place may =
    let begins = (stands_step before m may.0 b from may.1).1 in
    let to = upper_step m.expected m text (atom_place m.expected m may.0 text (subst IsAtomPlace (sym begins) place)).0 in
    (to.next, run-push before (upper text) m from ∙ to.is)

pub atom_end_runs : (ts : List Token) → EndsWithAtom ts → (s : ParserState) × (run ts ≡ Some s)
atom_end_runs ts (inl x) = stands_run ts x.0 a_next_literal x.1
atom_end_runs ts (inr x) =
    let from = stands_run x.0 x.5.0 x.2 x.5.1 in
    let to = atom_end_run x.0 x.1 x.2 from.0 from.1 x.4 x.5 in
    (to.0, ap run x.3 ∙ to.1)

-- What the counts are of.

formula_begins_no_item : (t : Token) (s : ParserState) (n : ℕ) → formula_begun t s ≢ an_item n
formula_begins_no_item (mark OpenParenthesis) s n = λ is. cc
formula_begins_no_item t s n = λ is. cc

end_begins_no_item : (t : Token) (n : ℕ) → literal_end_begun t ≢ an_item n
end_begins_no_item (mark Bar) n = λ is. cc
end_begins_no_item t n = λ is. cc

pub begun_item : (e : Expected) (s : ParserState) (t : Token) (n : ℕ) → begun_at e s t ≡ an_item n → (e ≡ expect.Item) × (s.items ≡ n)
begun_item expect.Item s t n is = (refl, cc)
begun_item expect.Formula s t n is = absurd (formula_begins_no_item t s n is)
begun_item expect.PredicateEnd s t n is = absurd (end_begins_no_item t n is)
begun_item expect.LiteralEnd s t n is = absurd (end_begins_no_item t n is)
begun_item e s t n is = cc

formula_begins_literal : (t : Token) (s : ParserState) (n : ℕ) → formula_begun t s ≡ a_literal n → s.literals ≡ n
formula_begins_literal (mark OpenParenthesis) s n is = cc
formula_begins_literal t s n is = cc

end_begins_no_literal : (t : Token) (n : ℕ) → literal_end_begun t ≢ a_literal n
end_begins_no_literal (mark Bar) n = λ is. cc
end_begins_no_literal t n = λ is. cc

pub begun_literal : (e : Expected) (s : ParserState) (t : Token) (n : ℕ) → begun_at e s t ≡ a_literal n → IsAtomPlaceState e × (s.literals ≡ n)
begun_literal expect.Formula s t n is = (tt, formula_begins_literal t s n is)
begun_literal expect.Literal s t n is = (tt, cc)
begun_literal expect.PredicateEnd s t n is = absurd (end_begins_no_literal t n is)
begun_literal expect.LiteralEnd s t n is = absurd (end_begins_no_literal t n is)
begun_literal e s t n is = cc

formula_begins_no_argument : (t : Token) (s : ParserState) (n nesting : ℕ) → formula_begun t s ≢ an_argument n nesting
formula_begins_no_argument (mark OpenParenthesis) s n nesting = λ is. cc
formula_begins_no_argument t s n nesting = λ is. cc

end_begins_no_argument : (t : Token) (n nesting : ℕ) → literal_end_begun t ≢ an_argument n nesting
end_begins_no_argument (mark Bar) n nesting = λ is. cc
end_begins_no_argument t n nesting = λ is. cc

pub begun_argument : (e : Expected) (s : ParserState) (t : Token) (n nesting : ℕ) → begun_at e s t ≡ an_argument n nesting → (e ≡ expect.Term) × (innermost s.arguments ≡ n) × (length s.arguments ≡ nesting)
begun_argument expect.Term s t n nesting is = (refl, cc, cc)
begun_argument expect.Formula s t n nesting is = absurd (formula_begins_no_argument t s n nesting is)
begun_argument expect.PredicateEnd s t n nesting is = absurd (end_begins_no_argument t n nesting is)
begun_argument expect.LiteralEnd s t n nesting is = absurd (end_begins_no_argument t n nesting is)
begun_argument e s t n nesting is = cc
