-- What the flat command knows of a word.
use Rattle.std.proofs.Common.{◌≡◌, ◌∙◌, Bool, true, false, List, [], ◌∷◌, ◌||◌, ◌&&◌, not, refl, sym, ap, cond, codes, Some, None, true≢false}
use Rattle.std.specs.List.{list_any, fold}
use Rattle.std.specs.Str.{bytes_eq}
use Rattle.clap.specs.Walk.{Row, Rule, arg_by_id, arg_by_index, arg_by_long, has_row, with_default}
use Rattle.clap.specs.Simple.{Shape, filled, new_shape, with_index}
use Rattle.clap.specs.Faults.{defaults_fault}
use Rattle.clap.specs.Takes.{is_given}
use Rattle.pm_args.specs.Words.{Text, is_among, option_names}
use Rattle.pm_args.specs.Inside.Flat.{option_rule, words_rule}
use Rattle.pm_args.proofs.Names.{same_text, bool_cases}

-- the rules as the command is built
abbrev pub option_built : Text → Rule
option_built name = with_index 1 (filled (option_rule name))

abbrev pub words_built : Rule
words_built = with_index 1 (filled words_rule)

abbrev pub rules_of : List Text → List Rule
rules_of [] = words_built ∷ []
rules_of (name ∷ names) = option_built name ∷ rules_of names

unfoldable pub rules : List Rule
rules = rules_of option_names

abbrev pub top : Shape
top = record (new_shape (codes "parmel")) {
  rules = rules;
  no_binary_name = true;
  disable_help_flag = true;
  disable_help_subcommand = true;
  disable_version_flag = true;
  is_built = true;
}

long_among : (names : List Text) (name : Text) → arg_by_long (rules_of names) name ≡ cond (is_among names name) (Some (option_built name)) None
long_among [] name = refl
long_among (n ∷ names) name = bool_cases (bytes_eq n name)
    (λ e. rw e (ap (λ (t : Text). Some (option_built t)) (same_text n name e)))
    (λ e. rw e (long_among names name))

id_among : (names : List Text) (name : Text) → is_among names name ≡ true → arg_by_id (rules_of names) name ≡ Some (option_built name)
id_among [] name known = absurd (true≢false (sym known))
id_among (n ∷ names) name known = go (bytes_eq n name) refl known (id_among names name)
  where
    go : (b : Bool) → bytes_eq n name ≡ b → (b || is_among names name) ≡ true
        → (is_among names name ≡ true → arg_by_id (rules_of names) name ≡ Some (option_built name))
        → cond b (Some (option_built n)) (arg_by_id (rules_of names) name) ≡ Some (option_built name)
    go true e k more = ap (λ (t : Text). Some (option_built t)) (same_text n name e)
    go false e k more = more k

pub by_long : (name : Text) → arg_by_long rules name ≡ cond (is_among option_names name) (Some (option_built name)) None
unfolding rules
by_long name = long_among option_names name

pub by_id : (name : Text) → is_among option_names name ≡ true → arg_by_id rules name ≡ Some (option_built name)
unfolding rules
by_id name known = id_among option_names name known

pub words_by_id : arg_by_id rules (codes "words") ≡ Some words_built
unfolding rules
words_by_id = refl

pub by_index : arg_by_index rules 1 ≡ Some words_built
unfolding rules
by_index = refl

-- no argument has a default
or_true : (b : Bool) → (b || true) ≡ true
or_true true = refl
or_true false = refl

no_default_faults : (rows : List Row) (names : List Text) → defaults_fault rows (rules_of names) ≡ []
unfolding defaults_fault
no_default_faults rows [] = rw (or_true (has_row (codes "words") rows)) refl
no_default_faults rows (n ∷ names) = bool_cases (has_row n rows)
    (λ e. rw e (no_default_faults rows names))
    (λ e. rw e (no_default_faults rows names))

no_default : (rows : List Row) (name : Text) → with_default rows (option_built name) ≡ rows
no_default rows name = bool_cases (has_row name rows) (λ e. rw e refl) (λ e. rw e refl)

no_defaults : (rows : List Row) (names : List Text) → fold with_default rows (rules_of names) ≡ rows
no_defaults rows [] = bool_cases (has_row (codes "words") rows) (λ e. rw e refl) (λ e. rw e refl)
no_defaults rows (n ∷ names) = ap (λ (now : List Row). fold with_default now (rules_of names)) (no_default rows n) ∙ no_defaults rows names

pub defaults_pass : (rows : List Row) → defaults_fault rows rules ≡ []
unfolding rules
defaults_pass rows = no_default_faults rows option_names

pub defaults_add_none : (rows : List Row) → fold with_default rows rules ≡ rows
unfolding rules
defaults_add_none rows = no_defaults rows option_names

pub none_required : (rows : List Row) → list_any (λ a. a.required && not (is_given a.id rows)) rules ≡ false
unfolding rules
none_required rows = refl
