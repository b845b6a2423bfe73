-- What a parse by the flat command says of the words.
use Rattle.std.proofs.Common.{◌≡◌, ◌∙◌, Bool, true, false, List, [], ◌∷◌, ◌||◌, ◌==◌, refl, sym, ap, subst, cond, codes, Option, Some, None, true≢false}
use Rattle.std.specs.List.{list_any, fold}
use Rattle.std.specs.Prelude.{unwrap_or}
use Rattle.std.specs.Option.{option_map}
use Rattle.clap.specs.Kinds.{IsAmong, Kinds, or_else}
use Rattle.clap.specs.Faults.{built_fault, check_fault, defaults_fault, entered_fault, fault_of, is_simple_and_free, settle_fault, walk_fault}
use Rattle.clap.specs.Simple.{App, built, entered, matches_of, names_of}
use Rattle.clap.specs.Walk.{Row, Walk, finished, first_of, idle, rows_of, settled, nothing_held, walked}
use Rattle.clap.specs.Walk.{rows_after as all_rows_after}
use Rattle.clap.specs.declared.error.kind.ErrorKind.{ErrorKind}
use Rattle.clap.specs.Matches.{found_of}
use Rattle.clap.specs.declared.parser.matches.ArgMatches.{ArgMatches}
use Rattle.clap.proofs.WalkLemmas.{first_value-rows, raw_values-rows}
use Rattle.pm_args.specs.Words.{Reading, Text, Word, given, takes_next, bad, plain, after_hyphen, begins_with_hyphen, is_among, read_option, read_word, reading_from, reading_of, word_of}
use Rattle.pm_args.specs.Inside.Flat.{flat_app}
use Rattle.pm_args.specs.Inside.Found.{HasRead, IsReadFrom, is_stray, is_stray_after}
use Rattle.pm_args.proofs.Names.{bool_cases}
use Rattle.pm_args.proofs.Rows.{values_at}
use Rattle.pm_args.proofs.Rules.{defaults_add_none, defaults_pass, none_required, rules, top}
use Rattle.pm_args.proofs.Walks.{AllClear, or_nothing, Adds, Agrees, Verdict, at, faults, fails, reads, ready, rows_after, settles_none}

abbrev flat : App
flat = record { top = top; subs = [] }

flat_built : built flat_app ≡ flat
unfolding rules
flat_built = refl

pub flat_is_simple : is_simple_and_free flat_app ≡ true
flat_is_simple = refl

-- there is no subcommand
none_entered : (stop : Option (Text × List Text)) → entered flat stop ≡ None
none_entered None = refl
none_entered (Some p) = refl

none_entered_fault : (stop : Option (Text × List Text)) → entered_fault flat stop ≡ []
none_entered_fault None = refl
none_entered_fault (Some p) = refl

-- no argument is required, so nothing is wrong after the walk
nothing_after : (rows held : List Row) → or_else (defaults_fault rows rules) (check_fault top held false) ≡ []
nothing_after rows held = rw (defaults_pass rows, none_required held) refl

flat_fault : (words : List Text) → built_fault flat nothing_held words ≡ faults words (at [] None idle)
flat_fault words =
    let end : Walk = fold (walked rules []) (at [] None idle) words in
    let stop = end.stopped in
    rw (none_entered stop, none_entered_fault stop)
    (ap (λ (k : Kinds). or_else (walk_fault top [] (at [] None idle) words) k)
    (ap (or_else (settle_fault rules false end.held)) (nothing_after (settled rules end.held).rows (finished rules end.held)) ∙ or_nothing _))

fault_is : (words : List Text) → fault_of flat_app words ≡ faults words (at [] None idle)
fault_is words = ap (λ (a : App). built_fault a nothing_held words) flat_built ∙ flat_fault words

rows_are : (words : List Text) → matches_of flat_app words ≡ rows_after words (at [] None idle)
rows_are words = ap (λ (a : App). all_rows_after a.top.rules (names_of a) words) flat_built
    ∙ defaults_add_none (rows_after words (at [] None idle))

-- ---- the verdict

none_named : Agrees [] []
none_named = record { known = λ name is. refl }

verdict : (words : List Text) → AllClear words → Verdict words (at [] None idle) [] (reading_of words)
verdict words clear = ready words clear [] [] None idle [] tt (settles_none [] [] none_named) none_named

has_read : (words : List Text) (m : ArgMatches) (r : Reading) → Adds [] r (rows_after words (at [] None idle)) → rows_of (found_of m) ≡ matches_of flat_app words → HasRead m r
has_read words m r adds same = record {
  values = λ name is. first_value-rows (found_of m) name ∙ ap (first_of name) (same ∙ rows_are words) ∙ adds.options name is;
  plain = ap (λ (o : Option (List Text)). unwrap_or o []) (raw_values-rows (found_of m) (codes "words"))
      ∙ ap (λ (rows : List Row). values_at (codes "words") rows) (same ∙ rows_are words) ∙ adds.plain;
}

pub parsed : (words : List Text) (m : ArgMatches) → AllClear words → fault_of flat_app words ≡ [] → rows_of (found_of m) ≡ matches_of flat_app words → IsReadFrom words m
parsed words m clear none same = go (verdict words clear)
  where
    go : Verdict words (at [] None idle) [] (reading_of words) → IsReadFrom words m
    go (reads r e clean adds) = (r, e, has_read words m r adds same)
    go (fails e some) = absurd (some (sym (fault_is words) ∙ none))

pub refused : (words : List Text) → AllClear words → (fault_of flat_app words ≡ [] → ⊥) → reading_of words ≡ None
refused words clear some = go (verdict words clear)
  where
    go : Verdict words (at [] None idle) [] (reading_of words) → reading_of words ≡ None
    go (reads r e clean adds) = absurd (some (fault_is words ∙ clean))
    go (fails e none) = e

pub failed : (words : List Text) (kind : ErrorKind) → AllClear words → IsAmong kind (fault_of flat_app words) → reading_of words ≡ None
failed words kind clear among = refused words clear (λ none. subst (λ (k : Kinds). IsAmong kind k) none among)

-- ---- words that the parse doesn't see

pub all_clear : (words : List Text) → list_any is_stray words ≡ false → AllClear words
all_clear [] none = tt
all_clear (word ∷ words) none = go (is_stray word) refl none (all_clear words)
  where
    go : (b : Bool) → is_stray word ≡ b → (b || list_any is_stray words) ≡ false → (list_any is_stray words ≡ false → AllClear words) → AllClear (word ∷ words)
    go true is none later = absurd (true≢false none)
    go false is none later = (is, later none)

stray_begins : (word : Text) → is_stray word ≡ true → begins_with_hyphen word ≡ true
stray_begins [] stray = absurd (true≢false (sym stray))
stray_begins (byte ∷ rest) stray = go (byte == 45) refl stray
  where
    go : (b : Bool) → (byte == 45) ≡ b → cond b (is_stray_after rest) false ≡ true → (byte == 45) ≡ true
    go true e s = e
    go false e s = absurd (true≢false (sym s))

stray_is_bad : (word : Text) → is_stray word ≡ true → word_of word ≡ bad
stray_is_bad [] stray = absurd (true≢false (sym stray))
stray_is_bad (byte ∷ rest) stray = rw (stray_begins (byte ∷ rest) stray) (after rest (rw (stray_begins (byte ∷ rest) stray) at stray))
  where
    after : (rest : Text) → is_stray_after rest ≡ true → after_hyphen rest ≡ bad
    after [] s = refl
    after (next ∷ []) s = bool_cases (next == 45) (λ e. rw e refl) (λ e. rw e refl)
    after (next ∷ other ∷ more) s = bool_cases (next == 45) (λ e. absurd (true≢false (sym (rw e at s)))) (λ e. rw e refl)

pub stray_refused : (words : List Text) (waiting : Option Text) (names : List Text) → list_any is_stray words ≡ true → reading_from words waiting names ≡ None
unfolding reading_from
stray_refused [] waiting names some = absurd (true≢false (sym some))
stray_refused (word ∷ words) waiting names some = go (is_stray word) refl some (λ more w ns. stray_refused words w ns more) waiting
  where
    mapped : (with : Reading → Reading) (o : Option Reading) → o ≡ None → option_map with o ≡ None
    mapped with o e = ap (option_map with) e

    optional : (name value : Text) → ((w : Option Text) (ns : List Text) → reading_from words w ns ≡ None) → read_option name value names (reading_from words) ≡ None
    optional name value later = bool_cases (is_among names name) (λ e. rw e refl) (λ e. rw (e, later None (name ∷ names)) refl)

    by_word : (w : Word) → ((w : Option Text) (ns : List Text) → reading_from words w ns ≡ None) → read_word w word names (reading_from words) ≡ None
    by_word (given name value) later = optional name value later
    by_word (takes_next name) later = later (Some name) names
    by_word bad later = refl
    by_word plain later = rw (later None names) refl

    go : (b : Bool) → is_stray word ≡ b → (b || list_any is_stray words) ≡ true
        → (list_any is_stray words ≡ true → (w : Option Text) (ns : List Text) → reading_from words w ns ≡ None)
        → (waiting : Option Text) → reading_from (word ∷ words) waiting names ≡ None
    go true is some later None = rw (stray_is_bad word is) refl
    go true is some later (Some name) = rw (stray_begins word is) refl
    go false is some later None = by_word (word_of word) (later some)
    go false is some later (Some name) = bool_cases (begins_with_hyphen word) (λ e. rw e refl) (λ e. rw e (optional name word (later some)))
