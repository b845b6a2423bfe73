-- The items that are written for a problem, and how they are read.
use Rattle.std.proofs.Common.{◌≡◌, ◌<◌, ◌^◌, ℕ, suc, Bool, true, false, List, [], ◌∷◌, ◌++◌, sym, ap, subst, ◌∙◌, refl, append_assoc, codes}
use Rattle.std.specs.Prelude.{Some, map, if◌then◌else◌, slice_get, Option, None}
use Rattle.std.specs.Option.{option_map_or}
use Rattle.std.specs.List.{flat_map}
use Rattle.std.specs.Str.{bytes_eq}
use Rattle.pm_logic.specs.Problem as logic
use Rattle.pm_logic.specs.Problem.{IsPrintable}
use Rattle.pm_logic.specs.Term as tree
use Rattle.pm_logic.specs.Word.{written_symbol, is_word_byte, written_word}
use Rattle.pm_scan.specs.declared.token.Mark.TheVariants.{OpenParenthesis, CloseParenthesis, Comma, FullStop, Bar, Tilde}
use Rattle.pm_scan.specs.Lexemes.{Token, lower, upper, dollar, mark, begins}
use Rattle.pm_cnf.specs.Grammar.{word_text, Term, variable, application, Arguments, no_arguments, more_arguments, predicate, falsity, Literal, Formula, in_parentheses, disjunction, Name, word, integer, Item, Begins, an_atom, a_literal, Placed, only, word_token, term_places, arguments_places, others_places, atom_places, literal_places, others_joined, formula_places, ending_places, name_token, item_places, tokens_of, IsName}
use Rattle.pm_cnf.specs.Meaning.{Pairwise, Kept, kept_literals, item_variables, function_of, predicate_of, IsTreeOf, AreTreesOf, IsLiteralOf, label_of, IsClauseOf}
use Rattle.pm_write.specs.Text.{variable_text, symbol_text, term_text, arguments_text, others_text, literal_text, literals_text, name_text, clause_text}
use Rattle.pm_cnf.proofs.parsed.Kept.{word_printable}
use Rattle.pm_cnf.proofs.written.Limited.{tokens_append}
use Rattle.pm_cnf.proofs.written.WrittenWords.{HasTokens, reads_token, reads_gap, lower_reads, plain_word, word_reads, number_reads, variable_reads}
use Rattle.pm_scan.specs.Forms.{HasForm}

-- the first place of a text
abbrev pub place_of : List (List ℕ) → List ℕ → ℕ
place_of [] text = 0
place_of (other ∷ texts) text = if bytes_eq text other then 0 else suc (place_of texts text)

-- a variable is named by its place
abbrev pub rename : List (List ℕ) → List ℕ → List ℕ
rename variables text = variable_text (place_of variables text)

-- terms with other names of variables, and words that are bare where they can be
abbrev mutual
  pub renamed : (List ℕ → List ℕ) → Term → Term
  renamed new (variable text) = variable (new text)
  renamed new (application w args) = application (plain_word (word_text w)) (renamed_all new args)

  pub renamed_all : (List ℕ → List ℕ) → Arguments → Arguments
  renamed_all new no_arguments = no_arguments
  renamed_all new (more_arguments t ts) = more_arguments (renamed new t) (renamed_all new ts)

abbrev pub literal_from : (List ℕ → List ℕ) → Kept → Literal
literal_from new k = record { positive = k.positive; atom = predicate (plain_word (word_text k.predicate)) (renamed_all new k.args) }

-- no literals are written as $false
abbrev pub formula_from : (List ℕ → List ℕ) → List Kept → Formula
formula_from new [] = disjunction (record { positive = true; atom = falsity }) []
formula_from new (k ∷ ks) = disjunction (literal_from new k) (map (literal_from new) ks)

abbrev pub plain_name : Name → Name
plain_name (word w) = word (plain_word (word_text w))
plain_name (integer digits) = integer digits

-- an item as it is written
abbrev pub rewritten : Item → Item
rewritten item = record { name = plain_name item.name; role = item.role; formula = in_parentheses (formula_from (rename (item_variables item)) (kept_literals item)); annotations = None }

tokens_then : (ps qs : List Placed) (ts : List Token) → tokens_of (ps ++ qs) ++ ts ≡ tokens_of ps ++ (tokens_of qs ++ ts)
tokens_then ps qs ts = ap (λ (us : List Token). us ++ ts) (tokens_append ps qs) ∙ append_assoc (tokens_of ps) (tokens_of qs) ts

reads_assoc : (a b rest last : List ℕ) (ts : List Token) → HasTokens (a ++ (b ++ rest)) ts last → HasTokens ((a ++ b) ++ rest) ts last
reads_assoc a b rest last ts h = subst (λ (bytes : List ℕ). HasTokens bytes ts last) (sym (append_assoc a b rest)) h

-- two parts of a text, and their tokens
reads_parts : (a b rest last : List ℕ) (ps qs : List Placed) (ts : List Token) → HasTokens (a ++ (b ++ rest)) (tokens_of ps ++ (tokens_of qs ++ ts)) last → HasTokens ((a ++ b) ++ rest) (tokens_of (ps ++ qs) ++ ts) last
reads_parts a b rest last ps qs ts h = subst (λ (us : List Token). HasTokens ((a ++ b) ++ rest) us last) (sym (tokens_then ps qs ts)) (reads_assoc a b rest last (tokens_of ps ++ (tokens_of qs ++ ts)) h)

module _ (symbols : List logic.Symbol) (printable : (f : ℕ) (s : logic.Symbol) → slice_get symbols f ≡ Some s → IsPrintable s.text) where
  symbol_reads : (f : ℕ) (s : logic.Symbol) (rest last : List ℕ) (ts : List Token) → slice_get symbols f ≡ Some s → written_symbol s ≡ written_word s.text → begins is_word_byte rest ≡ false → HasTokens rest ts last
      → HasTokens (symbol_text symbols f ++ rest) (word_token (plain_word s.text) ∷ ts) last
  symbol_reads f s rest last ts is as_word stop more =
      subst (λ (text : List ℕ). HasTokens (text ++ rest) (word_token (plain_word s.text) ∷ ts) last) (sym (ap (λ (o : Option logic.Symbol). option_map_or written_symbol o []) is ∙ as_word))
      (word_reads s.text rest last ts (printable f s is) stop more)

  others_stop : (us : tree.Terms) (rest : List ℕ) → begins is_word_byte (others_text symbols us ++ rest) ≡ false
  others_stop tree.no_terms rest = refl
  others_stop (tree.more_terms u us) rest = refl

  arguments_stop : (us : tree.Terms) (rest : List ℕ) → begins is_word_byte rest ≡ false → begins is_word_byte (arguments_text symbols us ++ rest) ≡ false
  arguments_stop tree.no_terms rest stop = stop
  arguments_stop (tree.more_terms u us) rest stop = refl

  module _ (variables : List (List ℕ)) (new : List ℕ → List ℕ) (names : (n : ℕ) (text : List ℕ) → slice_get variables n ≡ Some text → (new text ≡ variable_text n) × (n < 10 ^ 64)) where
    mutual
      term_reads : (t : Term) (u : tree.Term) (nesting n : ℕ) (rest last : List ℕ) (ts : List Token) → IsTreeOf symbols variables t u → begins is_word_byte rest ≡ false → HasTokens rest ts last
          → HasTokens (term_text symbols u ++ rest) (tokens_of (term_places nesting n (renamed new t)) ++ ts) last
      term_reads (variable text) (tree.var k) nesting n rest last ts is stop more =
          let name = names k text is in
          subst (λ (x : List ℕ). HasTokens (variable_text k ++ rest) (upper x ∷ ts) last) (sym name.0) (variable_reads k rest last ts name.1 stop more)
      term_reads (variable text) (tree.app f us) nesting n rest last ts is stop more = absurd is
      term_reads (application w args) (tree.var k) nesting n rest last ts is stop more = absurd is
      term_reads (application w args) (tree.app f us) nesting n rest last ts is stop more =
          reads_assoc (symbol_text symbols f) (arguments_text symbols us) rest last (word_token (plain_word (word_text w)) ∷ (tokens_of (arguments_places (suc nesting) (renamed_all new args)) ++ ts))
          (symbol_reads f (function_of w args) (arguments_text symbols us ++ rest) last (tokens_of (arguments_places (suc nesting) (renamed_all new args)) ++ ts) is.0 refl (arguments_stop us rest stop)
          (arguments_read args us (suc nesting) rest last ts is.1 stop more))

      arguments_read : (args : Arguments) (us : tree.Terms) (nesting : ℕ) (rest last : List ℕ) (ts : List Token) → AreTreesOf symbols variables args us → begins is_word_byte rest ≡ false → HasTokens rest ts last
          → HasTokens (arguments_text symbols us ++ rest) (tokens_of (arguments_places nesting (renamed_all new args)) ++ ts) last
      arguments_read no_arguments tree.no_terms nesting rest last ts are stop more = more
      arguments_read no_arguments (tree.more_terms u us) nesting rest last ts are stop more = absurd are
      arguments_read (more_arguments x xs) tree.no_terms nesting rest last ts are stop more = absurd are
      arguments_read (more_arguments x xs) (tree.more_terms u us) nesting rest last ts are stop more =
          reads_token _ ((term_text symbols u ++ others_text symbols us) ++ rest) last (mark OpenParenthesis) (tokens_of (term_places nesting 0 (renamed new x) ++ others_places nesting 1 (renamed_all new xs)) ++ ts) 1 refl refl
          (reads_parts (term_text symbols u) (others_text symbols us) rest last (term_places nesting 0 (renamed new x)) (others_places nesting 1 (renamed_all new xs)) ts
          (term_reads x u nesting 0 (others_text symbols us ++ rest) last (tokens_of (others_places nesting 1 (renamed_all new xs)) ++ ts) are.0 (others_stop us rest) (others_read xs us nesting 1 rest last ts are.1 more)))

      others_read : (args : Arguments) (us : tree.Terms) (nesting n : ℕ) (rest last : List ℕ) (ts : List Token) → AreTreesOf symbols variables args us → HasTokens rest ts last
          → HasTokens (others_text symbols us ++ rest) (tokens_of (others_places nesting n (renamed_all new args)) ++ ts) last
      others_read no_arguments tree.no_terms nesting n rest last ts are more = reads_token _ rest last (mark CloseParenthesis) ts 1 refl refl more
      others_read no_arguments (tree.more_terms u us) nesting n rest last ts are more = absurd are
      others_read (more_arguments x xs) tree.no_terms nesting n rest last ts are more = absurd are
      others_read (more_arguments x xs) (tree.more_terms u us) nesting n rest last ts are more =
          reads_token _ ((term_text symbols u ++ others_text symbols us) ++ rest) last (mark Comma) (tokens_of (term_places nesting n (renamed new x) ++ others_places nesting (suc n) (renamed_all new xs)) ++ ts) 1 refl refl
          (reads_parts (term_text symbols u) (others_text symbols us) rest last (term_places nesting n (renamed new x)) (others_places nesting (suc n) (renamed_all new xs)) ts
          (term_reads x u nesting n (others_text symbols us ++ rest) last (tokens_of (others_places nesting (suc n) (renamed_all new xs)) ++ ts) are.0 (others_stop us rest) (others_read xs us nesting (suc n) rest last ts are.1 more)))

    atom_reads : (k : Kept) (l : logic.Literal) (b : Begins) (rest last : List ℕ) (ts : List Token) → IsLiteralOf symbols variables k l → begins is_word_byte rest ≡ false → HasTokens rest ts last
        → HasTokens ((symbol_text symbols l.predicate ++ arguments_text symbols (tree.as_terms l.args)) ++ rest) (tokens_of (atom_places b (literal_from new k).atom) ++ ts) last
    atom_reads k l b rest last ts is stop more =
        let arguments : List Token = tokens_of (arguments_places 1 (renamed_all new k.args)) ++ ts in
        reads_assoc (symbol_text symbols l.predicate) (arguments_text symbols (tree.as_terms l.args)) rest last (word_token (plain_word (word_text k.predicate)) ∷ arguments)
        (symbol_reads l.predicate (predicate_of k.predicate k.args) (arguments_text symbols (tree.as_terms l.args) ++ rest) last arguments is.symbol refl (arguments_stop (tree.as_terms l.args) rest stop)
        (arguments_read k.args (tree.as_terms l.args) 1 rest last ts is.terms stop more))

    literal_reads : (k : Kept) (l : logic.Literal) (n : ℕ) (rest last : List ℕ) (ts : List Token) → IsLiteralOf symbols variables k l → begins is_word_byte rest ≡ false → HasTokens rest ts last
        → HasTokens (literal_text symbols l ++ rest) (tokens_of (literal_places n (literal_from new k)) ++ ts) last
    literal_reads k l n rest last ts is stop more =
        subst (λ (p : Bool). HasTokens (((if p then [] else codes "~") ++ atom) ++ rest) (tokens_of (literal_places n (literal_from new k)) ++ ts) last) (sym is.sign) (by k.positive)
      where
        atom : List ℕ
        atom = symbol_text symbols l.predicate ++ arguments_text symbols (tree.as_terms l.args)

        by : (p : Bool) → HasTokens (((if p then [] else codes "~") ++ atom) ++ rest)
            (tokens_of (if p then atom_places (a_literal n) (literal_from new k).atom else (mark Tilde, a_literal n) ∷ atom_places an_atom (literal_from new k).atom) ++ ts) last
        by true = atom_reads k l (a_literal n) rest last ts is stop more
        by false = reads_token _ (atom ++ rest) last (mark Tilde) (tokens_of (atom_places an_atom (literal_from new k).atom) ++ ts) 1 refl refl (atom_reads k l an_atom rest last ts is stop more)

    joined_stop : (ls : List logic.Literal) (more : List ℕ) → begins is_word_byte (flat_map (λ other. codes " | " ++ literal_text symbols other) ls ++ 41 ∷ more) ≡ false
    joined_stop [] more = refl
    joined_stop (l ∷ ls) more = refl

    others_joined_read : (ks : List Kept) (ls : List logic.Literal) (n : ℕ) (more last : List ℕ) (ts : List Token) → Pairwise (IsLiteralOf symbols variables) ks ls → HasTokens (41 ∷ more) ts last
        → HasTokens (flat_map (λ other. codes " | " ++ literal_text symbols other) ls ++ 41 ∷ more) (tokens_of (others_joined n (map (literal_from new) ks)) ++ ts) last
    others_joined_read [] [] n more last ts are h = h
    others_joined_read [] (l ∷ ls) n more last ts are h = absurd are
    others_joined_read (k ∷ ks) [] n more last ts are h = absurd are
    others_joined_read (k ∷ ks) (l ∷ ls) n more last ts are h =
        let behind : List ℕ = flat_map (λ other. codes " | " ++ literal_text symbols other) ls in
        let places : List Placed = others_joined (suc n) (map (literal_from new) ks) in
        let here : HasTokens ((literal_text symbols l ++ behind) ++ 41 ∷ more) (tokens_of (literal_places n (literal_from new k) ++ places) ++ ts) last =
        reads_parts (literal_text symbols l) behind (41 ∷ more) last (literal_places n (literal_from new k)) places ts
        (literal_reads k l n (behind ++ 41 ∷ more) last (tokens_of places ++ ts) are.0 (joined_stop ls more) (others_joined_read ks ls (suc n) more last ts are.1 h)) in
        reads_gap _ (124 ∷ 32 ∷ ((literal_text symbols l ++ behind) ++ 41 ∷ more)) last _ 1 refl refl
        (reads_token _ (32 ∷ ((literal_text symbols l ++ behind) ++ 41 ∷ more)) last (mark Bar) (tokens_of (literal_places n (literal_from new k) ++ places) ++ ts) 1 refl refl
        (reads_gap _ ((literal_text symbols l ++ behind) ++ 41 ∷ more) last _ 1 refl refl here))

    literals_read : (ks : List Kept) (ls : List logic.Literal) (more last : List ℕ) (ts : List Token) → Pairwise (IsLiteralOf symbols variables) ks ls → HasTokens (41 ∷ more) ts last
        → HasTokens (literals_text symbols ls ++ 41 ∷ more) (tokens_of (formula_places (formula_from new ks)) ++ ts) last
    literals_read [] [] more last ts are h = reads_token _ (41 ∷ more) last (dollar (codes "$false")) ts 6 refl refl h
    literals_read [] (l ∷ ls) more last ts are h = absurd are
    literals_read (k ∷ ks) [] more last ts are h = absurd are
    literals_read (k ∷ ks) (l ∷ ls) more last ts are h =
        let behind : List ℕ = flat_map (λ other. codes " | " ++ literal_text symbols other) ls in
        let places : List Placed = others_joined 1 (map (literal_from new) ks) in
        reads_parts (literal_text symbols l) behind (41 ∷ more) last (literal_places 0 (literal_from new k)) places ts
        (literal_reads k l 0 (behind ++ 41 ∷ more) last (tokens_of places ++ ts) are.0 (joined_stop ls more) (others_joined_read ks ls 1 more last ts are.1 h))

-- the name and the role of an item can be written
pub record IsNamed (item : Item) : Type 0 where
  pub name : IsName item.name
  pub form : HasForm (name_token item.name)
  pub role : HasForm (lower item.role)

name_reads : (name : Name) (more last : List ℕ) (ts : List Token) → IsName name → HasForm (name_token name) → HasTokens (44 ∷ more) ts last → HasTokens (name_text (label_of name) ++ 44 ∷ more) (name_token (plain_name name) ∷ ts) last
name_reads (word w) more last ts is form h = word_reads (word_text w) (44 ∷ more) last ts (word_printable w form) refl h
name_reads (integer digits) more last ts is form h = number_reads digits more last ts is form h

-- the tokens behind the literals
ending_tokens : (g : Formula) (ts : List Token)
    → tokens_of (formula_places (in_parentheses g) ++ ending_places None) ++ ts ≡ mark OpenParenthesis ∷ (tokens_of (formula_places g) ++ mark CloseParenthesis ∷ mark CloseParenthesis ∷ mark FullStop ∷ ts)
ending_tokens g ts = ap (λ (us : List Token). mark OpenParenthesis ∷ us)
    (tokens_then (formula_places g ++ only CloseParenthesis ∷ []) (ending_places None) ts ∙ tokens_then (formula_places g) (only CloseParenthesis ∷ []) (mark CloseParenthesis ∷ mark FullStop ∷ ts))

-- A written clause is read as its item.
pub clause_reads : (symbols : List logic.Symbol) (item : Item) (clause : logic.Clause) (n : ℕ) (rest last : List ℕ) (ts : List Token)
    → ((f : ℕ) (s : logic.Symbol) → slice_get symbols f ≡ Some s → IsPrintable s.text)
    → ((k : ℕ) (text : List ℕ) → slice_get (item_variables item) k ≡ Some text → (rename (item_variables item) text ≡ variable_text k) × (k < 10 ^ 64))
    → IsNamed item → IsClauseOf symbols item clause → HasTokens rest ts last
    → HasTokens (clause_text symbols clause ++ rest) (tokens_of (item_places n (rewritten item)) ++ ts) last
clause_reads symbols item clause n rest last ts printable names named is h =
    reads_token _ (40 ∷ ((name_text clause.name ++ behind_name) ++ rest)) last (lower (codes "cnf")) _ 3 refl refl
    (reads_token _ ((name_text clause.name ++ behind_name) ++ rest) last (mark OpenParenthesis) _ 1 refl refl
    (reads_assoc (name_text clause.name) behind_name rest last _
    (subst (λ (label : logic.Label). HasTokens (name_text label ++ (behind_name ++ rest)) (name_token (plain_name item.name) ∷ tokens_behind_name) last) (sym is.name)
    (name_reads item.name ((clause.role ++ behind_role) ++ rest) last tokens_behind_name named.name named.form
    (reads_token _ ((clause.role ++ behind_role) ++ rest) last (mark Comma) _ 1 refl refl
    (reads_assoc clause.role behind_role rest last _
    (subst (λ (role : List ℕ). HasTokens (role ++ (behind_role ++ rest)) (lower item.role ∷ tokens_behind_role) last) (sym is.role)
    (lower_reads item.role (behind_role ++ rest) last tokens_behind_role named.role refl
    (reads_token _ (40 ∷ ((literals_text symbols clause.literals ++ codes ")).\n") ++ rest)) last (mark Comma) _ 1 refl refl
    (subst (λ (us : List Token). HasTokens (40 ∷ ((literals_text symbols clause.literals ++ codes ")).\n") ++ rest)) us last) (sym (ending_tokens formula ts))
    (reads_token _ ((literals_text symbols clause.literals ++ codes ")).\n") ++ rest) last (mark OpenParenthesis) _ 1 refl refl
    (reads_assoc (literals_text symbols clause.literals) (codes ")).\n") rest last _
    (literals_read symbols printable (item_variables item) (rename (item_variables item)) names (kept_literals item) clause.literals (41 ∷ 46 ∷ 10 ∷ rest) last _ is.literals
    (reads_token _ (41 ∷ 46 ∷ 10 ∷ rest) last (mark CloseParenthesis) _ 1 refl refl
    (reads_token _ (46 ∷ 10 ∷ rest) last (mark CloseParenthesis) _ 1 refl refl
    (reads_token _ (10 ∷ rest) last (mark FullStop) ts 1 refl refl
    (reads_gap _ rest last ts 1 refl refl h)))))))))))))))))
  where
    formula : Formula
    formula = formula_from (rename (item_variables item)) (kept_literals item)

    behind_role : List ℕ
    behind_role = codes ",(" ++ (literals_text symbols clause.literals ++ codes ")).\n")

    behind_name : List ℕ
    behind_name = codes "," ++ (clause.role ++ behind_role)

    tokens_behind_role : List Token
    tokens_behind_role = mark Comma ∷ (tokens_of (formula_places (in_parentheses formula) ++ ending_places None) ++ ts)

    tokens_behind_name : List Token
    tokens_behind_name = mark Comma ∷ lower item.role ∷ tokens_behind_role
