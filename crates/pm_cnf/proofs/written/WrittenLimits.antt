-- The items that are written go past no limit.
use Rattle.std.proofs.Common.{arith, ◌≡◌, ◌<◌, ◌+◌, ◌≤◌, ℕ, suc, length, Bool, true, false, List, [], ◌∷◌, ◌++◌, sym, ap, subst, ◌∙◌, refl, length-append}
use Rattle.std.specs.Prelude.{Some, None, map, nat_le, not, ◌&&◌, if◌then◌else◌}
use Rattle.std.specs.List.{AllByRecursion, flat_map, list_any}
use Rattle.std.specs.Str.{bytes_eq}
use Rattle.std.proofs.lemmas.Bool.{cond-false, lt-leb}
use Rattle.pm_scan.specs.declared.offence.CnfKind.TheVariants.{TooManyClauses, TooManyLiterals}
use Rattle.pm_cnf.specs.declared.limits.Limits.{Limits}
use Rattle.pm_scan.specs.declared.token.Mark.TheVariants.{CloseParenthesis, Comma, Tilde}
use Rattle.pm_scan.specs.Lexemes.{lower, upper, mark}
use Rattle.pm_cnf.specs.Grammar.{Word, bare, between_quotes, word_text, Term, variable, application, Arguments, no_arguments, more_arguments, Formula, in_parentheses, Name, word, integer, Item, Begins, an_item, a_literal, an_atom, an_argument, nothing, Placed, only, word_token, term_places, arguments_places, others_places, atom_places, literal_places, others_joined, formula_places, ending_places, name_token, item_places, file_places, tokens_of}
use Rattle.pm_cnf.specs.Offences.{with_text, variables_from}
use Rattle.pm_cnf.specs.Meaning.{Kept, kept_literals, variables_in, variables_among, with_texts, item_variables}
use Rattle.pm_cnf.specs.Inside.Machine.{past_limit, has_too_many_variables}
use Rattle.pm_cnf.proofs.offences.FirstOffence.{variables_from-append}
use Rattle.pm_cnf.proofs.offences.Within.{Within}
use Rattle.pm_cnf.proofs.written.Limited.{PassNoLimit, placed_parts, ArgumentsPassNoLimit, with_texts_append, word_known, name_known, term_known, arguments_known, item_known}
use Rattle.pm_cnf.proofs.written.WrittenWords.{plain_word}
use Rattle.pm_cnf.proofs.written.WrittenItems.{renamed, renamed_all, literal_from, formula_from, plain_name, rewritten, rename}
use Rattle.pm_cnf.proofs.Lists.{AllByRecursion-append}

-- ---- places

placed_join : (limits : Limits) (ps qs : List Placed) → PassNoLimit limits ps → PassNoLimit limits qs → PassNoLimit limits (ps ++ qs)
placed_join limits = AllByRecursion-append (λ p. past_limit limits p.1 false ≡ None)

-- names of variables change no place
module _ (limits : Limits) (new : List ℕ → List ℕ) where
  mutual
    term_placed : (t : Term) (nesting n : ℕ) → PassNoLimit limits (term_places nesting n t) → PassNoLimit limits (term_places nesting n (renamed new t))
    term_placed (variable text) nesting n h = h
    term_placed (application w args) nesting n h = (h.0, arguments_placed args (suc nesting) h.1)

    arguments_placed : (ts : Arguments) (nesting : ℕ) → PassNoLimit limits (arguments_places nesting ts) → PassNoLimit limits (arguments_places nesting (renamed_all new ts))
    arguments_placed no_arguments nesting h = tt
    arguments_placed (more_arguments t ts) nesting h =
        let parts = placed_parts limits (term_places nesting 0 t) (others_places nesting 1 ts) h.1 in
        (h.0, placed_join limits (term_places nesting 0 (renamed new t)) (others_places nesting 1 (renamed_all new ts)) (term_placed t nesting 0 parts.0) (others_placed ts nesting 1 parts.1))

    others_placed : (ts : Arguments) (nesting n : ℕ) → PassNoLimit limits (others_places nesting n ts) → PassNoLimit limits (others_places nesting n (renamed_all new ts))
    others_placed no_arguments nesting n h = h
    others_placed (more_arguments t ts) nesting n h =
        let parts = placed_parts limits (term_places nesting n t) (others_places nesting (suc n) ts) h.1 in
        (h.0, placed_join limits (term_places nesting n (renamed new t)) (others_places nesting (suc n) (renamed_all new ts)) (term_placed t nesting n parts.0) (others_placed ts nesting (suc n) parts.1))

-- ---- limits

within_join : (limits : Limits) (known : List (List ℕ)) (ps qs : List Placed) → Within limits known ps → Within limits (variables_from known (tokens_of ps)) qs → Within limits known (ps ++ qs)
within_join limits known [] qs h k = k
within_join limits known (p ∷ ps) qs h k =
    (h.0, within_join limits (variables_from known (p.0 ∷ [])) ps qs h.1 (subst (λ (x : List (List ℕ)). Within limits x qs) (variables_from-append known (p.0 ∷ []) (tokens_of ps)) k))

with_text_grows : (known : List (List ℕ)) (text : List ℕ) → length known ≤ length (with_text known text)
with_text_grows known text = by (list_any (bytes_eq text) known)
  where
    by : (found : Bool) → length known ≤ length (if found then known else known ++ text ∷ [])
    by true = omega arith
    by false = omega (arith, length-append known (text ∷ []))

with_texts_grow : (known texts : List (List ℕ)) → length known ≤ length (with_texts known texts)
with_texts_grow known [] = omega arith
with_texts_grow known (text ∷ texts) = omega (arith, with_text_grows known text, with_texts_grow (with_text known text) texts)

-- a variable that leaves them few enough isn't one too many
few_with_text : (limits : Limits) (known : List (List ℕ)) (text : List ℕ) → length (with_text known text) ≤ limits.variables → has_too_many_variables limits known (upper text) ≡ false
few_with_text limits known text few = by (list_any (bytes_eq text) known) few
  where
    by : (found : Bool) → length (if found then known else known ++ text ∷ []) ≤ limits.variables → (not found && nat_le limits.variables (length known)) ≡ false
    by true h = refl
    by false h = lt-leb limits.variables (length known) (omega (arith, h, length-append known (text ∷ [])))

word_few : (limits : Limits) (known : List (List ℕ)) (w : Word) → has_too_many_variables limits known (word_token w) ≡ false
word_few limits known (bare text) = refl
word_few limits known (between_quotes text) = refl

name_few : (limits : Limits) (known : List (List ℕ)) (name : Name) → has_too_many_variables limits known (name_token name) ≡ false
name_few limits known (word w) = word_few limits known w
name_few limits known (integer digits) = refl

-- a place that is past no limit, with a token that isn't a variable too many
place_within : (limits : Limits) (b : Begins) (many : Bool) → many ≡ false → past_limit limits b false ≡ None → past_limit limits b many ≡ None
place_within limits b many few placed = ap (past_limit limits b) few ∙ placed

module _ (limits : Limits) where
  parts_within : (known xs ys : List (List ℕ)) (ps qs : List Placed) → variables_from known (tokens_of ps) ≡ with_texts known xs → length (with_texts known (xs ++ ys)) ≤ limits.variables
      → (length (with_texts known xs) ≤ limits.variables → Within limits known ps) → (length (with_texts (with_texts known xs) ys) ≤ limits.variables → Within limits (with_texts known xs) qs)
      → Within limits known (ps ++ qs)
  parts_within known xs ys ps qs is few first second =
      let all : length (with_texts (with_texts known xs) ys) ≤ limits.variables = subst (λ (k : List (List ℕ)). length k ≤ limits.variables) (with_texts_append known xs ys) few in
      within_join limits known ps qs (first (omega (arith, all, with_texts_grow (with_texts known xs) ys))) (subst (λ (k : List (List ℕ)). Within limits k qs) (sym is) (second all))

  -- a word that begins this, and what comes behind it
  word_within : (known : List (List ℕ)) (w : Word) (b : Begins) (ps : List Placed) → past_limit limits b false ≡ None → Within limits known ps → Within limits known ((word_token w, b) ∷ ps)
  word_within known w b ps placed more =
      (place_within limits b (has_too_many_variables limits known (word_token w)) (word_few limits known w) placed, subst (λ (k : List (List ℕ)). Within limits k ps) (sym (word_known known w [])) more)

  mutual
    term_within : (t : Term) (nesting n : ℕ) (known : List (List ℕ)) → PassNoLimit limits (term_places nesting n t) → length (with_texts known (variables_in t)) ≤ limits.variables → Within limits known (term_places nesting n t)
    term_within (variable text) nesting n known placed few = (place_within limits (an_argument n nesting) (has_too_many_variables limits known (upper text)) (few_with_text limits known text few) placed.0, tt)
    term_within (application w args) nesting n known placed few = word_within known w (an_argument n nesting) (arguments_places (suc nesting) args) placed.0 (arguments_within args (suc nesting) known placed.1 few)

    arguments_within : (ts : Arguments) (nesting : ℕ) (known : List (List ℕ)) → PassNoLimit limits (arguments_places nesting ts) → length (with_texts known (variables_among ts)) ≤ limits.variables
        → Within limits known (arguments_places nesting ts)
    arguments_within no_arguments nesting known placed few = tt
    arguments_within (more_arguments t ts) nesting known placed few =
        let parts = placed_parts limits (term_places nesting 0 t) (others_places nesting 1 ts) placed.1 in (
          refl,
          parts_within known (variables_in t) (variables_among ts) (term_places nesting 0 t) (others_places nesting 1 ts) (term_known t nesting 0 known) few
              (λ h. term_within t nesting 0 known parts.0 h) (λ h. others_within ts nesting 1 (with_texts known (variables_in t)) parts.1 h),
        )

    others_within : (ts : Arguments) (nesting n : ℕ) (known : List (List ℕ)) → PassNoLimit limits (others_places nesting n ts) → length (with_texts known (variables_among ts)) ≤ limits.variables
        → Within limits known (others_places nesting n ts)
    others_within no_arguments nesting n known placed few = (refl, tt)
    others_within (more_arguments t ts) nesting n known placed few =
        let parts = placed_parts limits (term_places nesting n t) (others_places nesting (suc n) ts) placed.1 in (
          refl,
          parts_within known (variables_in t) (variables_among ts) (term_places nesting n t) (others_places nesting (suc n) ts) (term_known t nesting n known) few
              (λ h. term_within t nesting n known parts.0 h) (λ h. others_within ts nesting (suc n) (with_texts known (variables_in t)) parts.1 h),
        )

  literal_allowed : (j : ℕ) → j < limits.literals → past_limit limits (a_literal j) false ≡ None
  literal_allowed j less = cond-false (nat_le limits.literals j) (Some TooManyLiterals) None (lt-leb limits.literals j less)

  item_allowed : (n : ℕ) → n < limits.clauses → past_limit limits (an_item n) false ≡ None
  item_allowed n less = cond-false (nat_le limits.clauses n) (Some TooManyClauses) None (lt-leb limits.clauses n less)

  module _ (new : List ℕ → List ℕ) where
    literal_within : (k : Kept) (j : ℕ) (known : List (List ℕ)) → j < limits.literals → PassNoLimit limits (arguments_places 1 k.args) → length (with_texts known (variables_among (renamed_all new k.args))) ≤ limits.variables
        → Within limits known (literal_places j (literal_from new k))
    literal_within k j known less placed few = by k.positive
      where
        arguments : Within limits known (arguments_places 1 (renamed_all new k.args))
        arguments = arguments_within (renamed_all new k.args) 1 known (arguments_placed limits new k.args 1 placed) few

        by : (p : Bool) → Within limits known (if p then atom_places (a_literal j) (literal_from new k).atom else (mark Tilde, a_literal j) ∷ atom_places an_atom (literal_from new k).atom)
        by true = word_within known (plain_word (word_text k.predicate)) (a_literal j) (arguments_places 1 (renamed_all new k.args)) (literal_allowed j less) arguments
        by false = (literal_allowed j less, word_within known (plain_word (word_text k.predicate)) an_atom (arguments_places 1 (renamed_all new k.args)) refl arguments)

    literal_known : (k : Kept) (j : ℕ) (known : List (List ℕ)) → variables_from known (tokens_of (literal_places j (literal_from new k))) ≡ with_texts known (variables_among (renamed_all new k.args))
    literal_known k j known = by k.positive
      where
        atom : (b : Begins) → variables_from known (tokens_of (atom_places b (literal_from new k).atom)) ≡ with_texts known (variables_among (renamed_all new k.args))
        atom b = word_known known (plain_word (word_text k.predicate)) (tokens_of (arguments_places 1 (renamed_all new k.args))) ∙ arguments_known (renamed_all new k.args) 1 known

        by : (p : Bool) → variables_from known (tokens_of (if p then atom_places (a_literal j) (literal_from new k).atom else (mark Tilde, a_literal j) ∷ atom_places an_atom (literal_from new k).atom))
            ≡ with_texts known (variables_among (renamed_all new k.args))
        by true = atom (a_literal j)
        by false = atom an_atom

    joined_within : (ks : List Kept) (j : ℕ) (known : List (List ℕ)) → j + length ks ≤ limits.literals → ArgumentsPassNoLimit limits ks → length (with_texts known (flat_map (λ k. variables_among (renamed_all new k.args)) ks)) ≤ limits.variables
        → Within limits known (others_joined j (map (literal_from new) ks))
    joined_within [] j known count placed few = tt
    joined_within (k ∷ ks) j known count placed few = (
      refl,
      parts_within known (variables_among (renamed_all new k.args)) (flat_map (λ x. variables_among (renamed_all new x.args)) ks) (literal_places j (literal_from new k)) (others_joined (suc j) (map (literal_from new) ks))
          (literal_known k j known) few (λ h. literal_within k j known (omega (arith, count)) placed.0 h)
          (λ h. joined_within ks (suc j) (with_texts known (variables_among (renamed_all new k.args))) (omega (arith, count)) placed.1 h),
    )

    formula_within : (ks : List Kept) (known : List (List ℕ)) → 0 < limits.literals → length ks ≤ limits.literals → ArgumentsPassNoLimit limits ks → length (with_texts known (flat_map (λ k. variables_among (renamed_all new k.args)) ks)) ≤ limits.variables
        → Within limits known (formula_places (formula_from new ks))
    formula_within [] known some count placed few = (literal_allowed 0 some, tt)
    formula_within (k ∷ ks) known some count placed few =
        parts_within known (variables_among (renamed_all new k.args)) (flat_map (λ x. variables_among (renamed_all new x.args)) ks) (literal_places 0 (literal_from new k)) (others_joined 1 (map (literal_from new) ks))
        (literal_known k 0 known) few (λ h. literal_within k 0 known some placed.0 h)
        (λ h. joined_within ks 1 (with_texts known (variables_among (renamed_all new k.args))) (omega (arith, count)) placed.1 h)

  -- what is to be known of an item that is written
  pub record CanWrite (item : Item) : Type 0 where
    pub some : 0 < limits.literals
    pub count : length (kept_literals item) ≤ limits.literals
    pub placed : ArgumentsPassNoLimit limits (kept_literals item)
    pub few : length (with_texts [] (flat_map (λ k. variables_among (renamed_all (rename (item_variables item)) k.args)) (kept_literals item))) ≤ limits.variables

  marks_within : (g : Formula) (known : List (List ℕ)) → Within limits known (formula_places g) → Within limits known (formula_places (in_parentheses g) ++ ending_places None)
  marks_within g known h =
      (refl, within_join limits known (formula_places g ++ only CloseParenthesis ∷ []) (ending_places None) (within_join limits known (formula_places g) (only CloseParenthesis ∷ []) h (refl, tt)) (refl, (refl, tt)))

  item_goes : (item : Item) (n : ℕ) → n < limits.clauses → CanWrite item → Within limits [] (item_places n (rewritten item))
  item_goes item n less can =
      let g : Formula = formula_from (rename (item_variables item)) (kept_literals item) in
      let formula : Within limits [] (formula_places g) = formula_within (rename (item_variables item)) (kept_literals item) [] can.some can.count can.placed can.few in
      let named : variables_from [] (name_token (plain_name item.name) ∷ []) ≡ [] = name_known [] (plain_name item.name) [] in
      let behind : Within limits [] ((mark Comma, nothing) ∷ (lower item.role, nothing) ∷ (mark Comma, nothing) ∷ (formula_places (in_parentheses g) ++ ending_places None)) = (refl, (refl, (refl, marks_within g [] formula))) in (
        item_allowed n less,
        (
          refl,
          (
            place_within limits nothing (has_too_many_variables limits [] (name_token (plain_name item.name))) (name_few limits [] (plain_name item.name)) refl,
            subst (λ (k : List (List ℕ)). Within limits k ((mark Comma, nothing) ∷ (lower item.role, nothing) ∷ (mark Comma, nothing) ∷ (formula_places (in_parentheses g) ++ ending_places None))) (sym named) behind,
          ),
        ),
      )

  -- Items that can be written go past no limit.
  pub file_goes : (items : List Item) (n : ℕ) → n + length items ≤ limits.clauses → AllByRecursion CanWrite items → Within limits [] (file_places n (map rewritten items))
  file_goes [] n count can = tt
  file_goes (item ∷ items) n count can =
      within_join limits [] (item_places n (rewritten item)) (file_places (suc n) (map rewritten items)) (item_goes item n (omega (arith, count)) can.0)
      (subst (λ (k : List (List ℕ)). Within limits k (file_places (suc n) (map rewritten items))) (sym (item_known (rewritten item) n [])) (file_goes items (suc n) (omega (arith, count)) can.1))
