-- What a loop over items keeps.
use Rattle.std.proofs.Common.{◌≡◌, ℕ, ◌+◌, ◌≤◌, Bool, true, false, cond, List, [], ◌∷◌, ◌++◌, length, refl, sym, ap, ap₂, subst, ◌∙◌, append_assoc, arith, ◌&&◌, not}
use Rattle.std.specs.Prelude.{All, map, ◌||◌, string_bytes}
use Rattle.std.specs.Borrow.{Bor}
use Rattle.std.specs.List.{flat_map, list_all, list_any}
use Rattle.std.proofs.lemmas.List.{append-nil, length-append, length-map, map-append}
use Rattle.std.proofs.lemmas.Grind.{flat_map-append}
use Rattle.std.proofs.lemmas.List.Elements.{All-head, All-tail, All-nil, All-push, All-weaker}
use Rattle.pm_logic.specs.declared.symbols.Kind.TheVariants.{Predicate, Function}
use Rattle.pm_logic.specs.declared.problem.Clause.{Clause}
use Rattle.pm_logic.specs.declared.problem.Literal.{Literal}
use Rattle.pm_logic.specs.Problem as logic
use Rattle.pm_logic.specs.Term as tree
use Rattle.pm_logic.specs.View as view
use Rattle.pm_logic.specs.View.{literal_of, clause_of, HasRows}
use Rattle.pm_logic.specs.Lists.{Gathers}
use Rattle.pm_logic.proofs.Gathering.{Extends, Extends-refl, Gathers-append, Gathers-extends}
use Rattle.pm_cnf.specs.declared.item.Node as code
use Rattle.pm_cnf.specs.declared.item.Item as code_item
use Rattle.pm_cnf.specs.Grammar as grammar
use Rattle.pm_cnf.specs.Grammar.{word_text, Term, variable, application, Arguments, no_arguments, more_arguments, Atom, truth, falsity, Item}
use Rattle.pm_cnf.specs.Inside.Draft.{Node, Written, written, term_nodes, arguments_nodes, atom_nodes, literal_nodes}
use Rattle.pm_cnf.specs.Meaning.{Pairwise, Kept, argument_count, kept_from, kept_among, kept_literals, kept_items, is_kept, holds_always, literals_of, literal_symbols, symbols_in, symbols_among, variables_in, variables_among, item_variables, with_texts, label_of, IsLiteralOf, IsClauseOf, IsProblemOf, clause_terms, literal_terms}
use Rattle.pm_cnf.specs.Inside.Parts.{node_symbol, node_text, node_holds, Tables, tables, texts_of, AreNumbered, IsNumbered}
use Rattle.pm_cnf.proofs.meaning.Pairs.{Pairwise-append, Pairwise-weaker}
use Rattle.pm_cnf.specs.Inside.Parsed.{node_of, name_of, item_of}
use Rattle.pm_cnf.proofs.parts.Tabling.{symbols-count, texts_few}
use Rattle.pm_cnf.proofs.parts.TextLemmas.{with_texts-length}
use Rattle.pm_cnf.proofs.parts.Literals.{literal-extends, literal_of-extends, HasRows-extends}

-- Nodes have the symbols and variables of what they were written for.
mutual
  term_symbols : (t : Term) → flat_map node_symbol (term_nodes t) ≡ symbols_in t
  term_symbols (variable text) = refl
  term_symbols (application w args) = ap (λ l. record { text = word_text w; arity = argument_count args; kind = Function } ∷ l) (arguments_symbols args)

  arguments_symbols : (args : Arguments) → flat_map node_symbol (arguments_nodes args) ≡ symbols_among args
  arguments_symbols no_arguments = refl
  arguments_symbols (more_arguments t ts) = flat_map-append node_symbol (term_nodes t) (arguments_nodes ts) ∙ ap₂ (λ xs ys. xs ++ ys) (term_symbols t) (arguments_symbols ts)

mutual
  term_texts : (t : Term) → flat_map node_text (term_nodes t) ≡ variables_in t
  term_texts (variable text) = refl
  term_texts (application w args) = arguments_texts args

  arguments_texts : (args : Arguments) → flat_map node_text (arguments_nodes args) ≡ variables_among args
  arguments_texts no_arguments = refl
  arguments_texts (more_arguments t ts) = flat_map-append node_text (term_nodes t) (arguments_nodes ts) ∙ ap₂ (λ xs ys. xs ++ ys) (term_texts t) (arguments_texts ts)

atom_symbols : (positive : Bool) (atom : Atom) (others : List Kept) → flat_map node_symbol (atom_nodes positive atom) ++ flat_map literal_symbols others ≡ flat_map literal_symbols (kept_from positive atom others)
atom_symbols positive (grammar.predicate w args) others = ap (λ l. (record { text = word_text w; arity = argument_count args; kind = Predicate } ∷ l) ++ flat_map literal_symbols others) (arguments_symbols args)
atom_symbols positive truth others = refl
atom_symbols positive falsity others = refl

pub literals_symbols : (literals : List grammar.Literal) → flat_map node_symbol (flat_map literal_nodes literals) ≡ flat_map literal_symbols (kept_among literals)
literals_symbols [] = refl
literals_symbols (l ∷ ls) =
    flat_map-append node_symbol (literal_nodes l) (flat_map literal_nodes ls) ∙ ap (λ s. flat_map node_symbol (literal_nodes l) ++ s) (literals_symbols ls) ∙ atom_symbols l.positive l.atom (kept_among ls)

atom_texts : (positive : Bool) (atom : Atom) (others : List Kept) → flat_map node_text (atom_nodes positive atom) ++ flat_map (λ l. variables_among l.args) others ≡ flat_map (λ l. variables_among l.args) (kept_from positive atom others)
atom_texts positive (grammar.predicate w args) others = ap (λ l. l ++ flat_map (λ k. variables_among k.args) others) (arguments_texts args)
atom_texts positive truth others = refl
atom_texts positive falsity others = refl

pub literals_texts : (literals : List grammar.Literal) → flat_map node_text (flat_map literal_nodes literals) ≡ flat_map (λ l. variables_among l.args) (kept_among literals)
literals_texts [] = refl
literals_texts (l ∷ ls) =
    flat_map-append node_text (literal_nodes l) (flat_map literal_nodes ls) ∙ ap (λ s. flat_map node_text (literal_nodes l) ++ s) (literals_texts ls) ∙ atom_texts l.positive l.atom (kept_among ls)

-- a clause from its literals
pub clause_numbered : (old new : List logic.Symbol) (before after : List tree.Term) (texts : List (List ℕ)) (nodes : List Node) (item : Item) (clause : Clause) → nodes ≡ flat_map literal_nodes (literals_of item.formula)
    → AreNumbered (record { symbols = old; terms = before; texts = [] }) nodes (record { symbols = new; terms = after; texts = texts }) (kept_literals item) (map (literal_of after) clause.literals.items)
    → view.label_of clause.name ≡ label_of item.name → string_bytes clause.role ≡ item.role → clause.vars ≡ length texts → IsNumbered old new before after item (clause_of after clause)
clause_numbered old new before after texts nodes item clause is numbered name role vars =
    let variables : texts ≡ item_variables item = numbered.grows.texts ∙ ap (λ ns. with_texts [] (flat_map node_text ns)) is ∙ ap (with_texts []) (literals_texts (literals_of item.formula)) in
    record {
      symbols = subst (λ ss. Gathers old ss new) (ap (flat_map node_symbol) is ∙ literals_symbols (literals_of item.formula)) numbered.grows.symbols;
      terms = numbered.grows.terms;
      clause = record {
        name = name;
        role = role;
        vars = vars ∙ ap length variables;
        literals = subst (λ ts. Pairwise (IsLiteralOf new ts) (kept_literals item) (map (literal_of after) clause.literals.items)) variables numbered.pairs;
      };
    }

pub numbered_few : (old new : Tables) (nodes : List Node) (written : List Kept) (literals : List logic.Literal) → AreNumbered old nodes new written literals
    → (length new.symbols ≤ length old.symbols + length nodes) × (length new.texts ≤ length old.texts + length nodes)
numbered_few old new nodes written literals h = (
  symbols-count old new nodes (flat_map literal_terms literals) h.grows,
  omega (arith, ap length h.grows.texts, with_texts-length old.texts (flat_map node_text nodes), texts_few nodes),
)

-- the clause of an item, from what numbering its nodes tells
pub item_numbered : (old new : List logic.Symbol) (before after : List tree.Term) (start keys : List (Bor (List ℕ))) (all : List code.Node) (written-as : code_item.Item) (item : Item) (clause : Clause)
    → all ≡ written-as.nodes.items → start ≡ [] → item_of written-as ≡ written item
    → ((given : List grammar.Literal) → map node_of all ≡ flat_map literal_nodes given → AreNumbered (tables old before start) (map node_of all) (tables new after keys) (kept_among given) (map (literal_of after) clause.literals.items))
    → view.label_of clause.name ≡ label_of (name_of written-as.name) → string_bytes clause.role ≡ written-as.role.now → clause.vars ≡ length keys → IsNumbered old new before after item (clause_of after clause)
item_numbered old new before after start keys all written-as item clause nodes empty is numbered name role vars =
    let nodes-are : map node_of all ≡ flat_map literal_nodes (literals_of item.formula) = ap (map node_of) nodes ∙ ap (λ (w : Written). w.nodes) is in
    let done : AreNumbered (record { symbols = old; terms = before; texts = [] }) (map node_of all) (tables new after keys) (kept_literals item) (map (literal_of after) clause.literals.items) =
    subst (λ (ks : List (Bor (List ℕ))). AreNumbered (tables old before ks) (map node_of all) (tables new after keys) (kept_literals item) (map (literal_of after) clause.literals.items)) empty (numbered (literals_of item.formula) nodes-are) in
    clause_numbered old new before after (texts_of keys) (map node_of all) item clause nodes-are done (name ∙ ap (λ (w : Written). label_of w.name) is) (role ∙ ap (λ (w : Written). w.role) is) (vars ∙ sym (length-map keys (λ (t : Bor (List ℕ)). t.now)))

pub item_few : (old new : List logic.Symbol) (before after : List tree.Term) (start keys : List (Bor (List ℕ))) (all : List code.Node) (written-as : code_item.Item) (item : Item) (literals : List Literal)
    → all ≡ written-as.nodes.items → start ≡ [] → item_of written-as ≡ written item
    → ((given : List grammar.Literal) → map node_of all ≡ flat_map literal_nodes given → AreNumbered (tables old before start) (map node_of all) (tables new after keys) (kept_among given) (map (literal_of after) literals))
    → (length new ≤ length old + length written-as.nodes.items) × (length keys ≤ length written-as.nodes.items)
item_few old new before after start keys all written-as item literals nodes empty is numbered =
    let nodes-are : map node_of all ≡ flat_map literal_nodes (literals_of item.formula) = ap (map node_of) nodes ∙ ap (λ (w : Written). w.nodes) is in
    let few = numbered_few (tables old before start) (tables new after keys) (map node_of all) (kept_literals item) (map (literal_of after) literals) (numbered (literals_of item.formula) nodes-are) in
    let size = length-map all node_of in
    let texts = length-map keys (λ (t : Bor (List ℕ)). t.now) in
    let none = length-map start (λ (t : Bor (List ℕ)). t.now) in
    (omega (arith, few.0, size, ap length nodes), omega (arith, few.1, size, ap length nodes, texts, none, ap length empty))

-- Whether an item is kept.

mutual
  term_quiet : (t : Term) (rest : List Node) → list_all (λ n. not (node_holds n)) (term_nodes t ++ rest) ≡ list_all (λ n. not (node_holds n)) rest
  term_quiet (variable text) rest = refl
  term_quiet (application w args) rest = arguments_quiet args rest

  arguments_quiet : (args : Arguments) (rest : List Node) → list_all (λ n. not (node_holds n)) (arguments_nodes args ++ rest) ≡ list_all (λ n. not (node_holds n)) rest
  arguments_quiet no_arguments rest = refl
  arguments_quiet (more_arguments t ts) rest =
      ap (list_all (λ n. not (node_holds n))) (append_assoc (term_nodes t) (arguments_nodes ts) rest) ∙ term_quiet t (arguments_nodes ts ++ rest) ∙ arguments_quiet ts rest

atom_quiet : (positive : Bool) (atom : Atom) (rest : List Node) → list_all (λ n. not (node_holds n)) (atom_nodes positive atom ++ rest) ≡ (not (holds_always positive atom) && list_all (λ n. not (node_holds n)) rest)
atom_quiet positive (grammar.predicate w args) rest = arguments_quiet args rest
atom_quiet positive truth rest = refl
atom_quiet positive falsity rest = refl

-- no literal's node holds always where no literal does
pub nodes_quiet : (literals : List grammar.Literal) → list_all (λ n. not (node_holds n)) (flat_map literal_nodes literals) ≡ not (list_any (λ l. holds_always l.positive l.atom) literals)
nodes_quiet [] = refl
nodes_quiet (l ∷ ls) = atom_quiet l.positive l.atom (flat_map literal_nodes ls) ∙ ap (λ b. not (holds_always l.positive l.atom) && b) (nodes_quiet ls) ∙ both (holds_always l.positive l.atom) (list_any (λ k. holds_always k.positive k.atom) ls)
  where
    both : (a b : Bool) → (not a && not b) ≡ not (a || b)
    both true b = refl
    both false b = refl

pub all-map : (f : code.Node → Node) (p : Node → Bool) (ns : List code.Node) → list_all (λ n. p (f n)) ns ≡ list_all p (map f ns)
all-map f p [] = refl
all-map f p (n ∷ ns) = ap (λ b. p (f n) && b) (all-map f p ns)

-- Items, one after the other.

-- the last item of what was written
record LastOf (kept : List Written) (one : Written) (file : List Item) : Type 0 where
  front : List Item
  last : Item
  is : file ≡ front ++ last ∷ []
  kept-is : kept ≡ map written front
  one-is : one ≡ written last

last_more : (k one : Written) (kept : List Written) (i : Item) (file : List Item) → k ≡ written i → LastOf kept one file → LastOf (k ∷ kept) one (i ∷ file)
last_more k one kept i file first rest =
    record { front = i ∷ rest.front; last = rest.last; is = ap (λ l. i ∷ l) rest.is; kept-is = ap₂ (λ x xs. x ∷ xs) first rest.kept-is; one-is = rest.one-is }

last_of : (kept : List Written) (one : Written) (file : List Item) → kept ++ one ∷ [] ≡ map written file → LastOf kept one file
last_of [] one [] h = absurd cc
last_of [] one (i ∷ []) h = record { front = []; last = i; is = refl; kept-is = refl; one-is = cc }
last_of [] one (i ∷ j ∷ file) h = absurd cc
last_of (k ∷ kept) one [] h = absurd cc
last_of (k ∷ kept) one (i ∷ file) h =
    let tail : kept ++ one ∷ [] ≡ map written file = cc in
    let first : k ≡ written i = cc in
    last_more k one kept i file first (last_of kept one file tail)

kept_push : (front : List Item) (item : Item) (b : Bool) → is_kept item ≡ b → kept_items (front ++ item ∷ []) ≡ kept_items front ++ cond b (item ∷ []) []
kept_push [] item b is = ap (λ c. cond c (item ∷ []) []) is
kept_push (i ∷ front) item b is = by (is_kept i) (kept_push front item b is)
  where
    by : (c : Bool) → kept_items (front ++ item ∷ []) ≡ kept_items front ++ cond b (item ∷ []) [] → cond c (i ∷ kept_items (front ++ item ∷ [])) (kept_items (front ++ item ∷ [])) ≡ cond c (i ∷ kept_items front) (kept_items front) ++ cond b (item ∷ []) []
    by true h = ap (λ l. i ∷ l) h
    by false h = h

pub record ItemsSoFar (kept : List Written) (symbols : List logic.Symbol) (terms : List tree.Term) (clauses : List Clause) : Type 0 where
  pub means : (file : List Item) → kept ≡ map written file → IsProblemOf file (record { symbols = symbols; terms = terms; clauses = map (clause_of terms) clauses })
  pub rows : All (λ clause. All (HasRows (length terms)) clause.literals.items) clauses
  pub few : length symbols ≤ length (flat_map (λ w. w.nodes) kept)

no_items : (file : List Item) → [] ≡ map written file → file ≡ []
no_items [] is = refl
no_items (i ∷ file) is = absurd cc

pub items_none : ItemsSoFar [] [] [] []
items_none = record {
  means = λ file is. subst (λ f. IsProblemOf f (record { symbols = []; terms = []; clauses = [] })) (sym (no_items file is)) (record { symbols = refl; terms = refl; clauses = tt });
  rows = All-nil (λ (clause : Clause). All (HasRows 0) clause.literals.items);
  few = omega arith;
}

nodes_push : (kept : List Written) (one : Written) → length (flat_map (λ w. w.nodes) (kept ++ one ∷ [])) ≡ length (flat_map (λ w. w.nodes) kept) + length one.nodes
nodes_push kept one =
    ap length (flat_map-append (λ (w : Written). w.nodes) kept (one ∷ []) ∙ ap (λ l. flat_map (λ w. w.nodes) kept ++ l) (append-nil one.nodes)) ∙ length-append (flat_map (λ w. w.nodes) kept) one.nodes

-- an item that is dropped
pub items_dropped : (kept more : List Written) (one : Written) (symbols : List logic.Symbol) (terms : List tree.Term) (clauses : List Clause) → more ≡ kept ++ one ∷ []
    → list_all (λ n. not (node_holds n)) one.nodes ≡ false → ItemsSoFar kept symbols terms clauses → ItemsSoFar more symbols terms clauses
items_dropped kept more one symbols terms clauses more-is dropped so_far = rw more-is record {
  means = λ file is.
      let l = last_of kept one file is in
      let out : is_kept l.last ≡ false = sym (nodes_quiet (literals_of l.last.formula)) ∙ ap (λ (w : Written). list_all (λ n. not (node_holds n)) w.nodes) (sym l.one-is) ∙ dropped in
      let same : kept_items file ≡ kept_items l.front = ap kept_items l.is ∙ kept_push l.front l.last false out ∙ append-nil (kept_items l.front) in
      let before = so_far.means l.front l.kept-is in
      record {
        symbols = subst (λ items. Gathers [] (flat_map (λ item. flat_map literal_symbols (kept_literals item)) items) symbols) (sym same) before.symbols;
        terms = before.terms;
        clauses = subst (λ items. Pairwise (IsClauseOf symbols) items (map (clause_of terms) clauses)) (sym same) before.clauses;
      };
  rows = so_far.rows;
  few = omega (arith, so_far.few, nodes_push kept one);
}

clauses-extend : (terms new : List tree.Term) → Extends terms new → (clauses : List Clause) → All (λ clause. All (HasRows (length terms)) clause.literals.items) clauses → map (clause_of new) clauses ≡ map (clause_of terms) clauses
clauses-extend terms new extends [] all = refl
clauses-extend terms new extends (clause ∷ clauses) all =
    let rows = All-head (λ (c : Clause). All (HasRows (length terms)) c.literals.items) clause clauses all in
    ap₂ (λ ls cs. record { name = view.label_of clause.name; role = string_bytes clause.role; vars = clause.vars; literals = ls } ∷ cs) (literal_of-extends terms new extends clause.literals.items rows)
    (clauses-extend terms new extends clauses (All-tail (λ (c : Clause). All (HasRows (length terms)) c.literals.items) clause clauses all))

clause_stays : (old new : List logic.Symbol) → Extends old new → (item : Item) (clause : logic.Clause) → IsClauseOf old item clause → IsClauseOf new item clause
clause_stays old new extends item clause given = record {
  name = given.name;
  role = given.role;
  vars = given.vars;
  literals = Pairwise-weaker (IsLiteralOf old (item_variables item)) (IsLiteralOf new (item_variables item))
      (literal-extends old new (item_variables item) (item_variables item) extends (Extends-refl (item_variables item))) (kept_literals item) clause.literals given.literals;
}

-- an item that is kept, with its clause
pub items_kept : (kept more : List Written) (one : Written) (symbols new : List logic.Symbol) (terms later : List tree.Term) (clauses now : List Clause) (clause : Clause) → more ≡ kept ++ one ∷ [] → now ≡ clauses ++ clause ∷ []
    → list_all (λ n. not (node_holds n)) one.nodes ≡ true
    → ((item : Item) → one ≡ written item → IsNumbered symbols new terms later item (clause_of later clause)) → All (HasRows (length later)) clause.literals.items → length new ≤ length symbols + length one.nodes
    → Extends terms later → ItemsSoFar kept symbols terms clauses → ItemsSoFar more new later now
items_kept kept more one symbols new terms later clauses now clause more-is now-is stays numbered rows few extends so_far = rw (more-is, now-is) record {
  means = λ file is.
      let l = last_of kept one file is in
      let there : is_kept l.last ≡ true = sym (nodes_quiet (literals_of l.last.formula)) ∙ ap (λ (w : Written). list_all (λ n. not (node_holds n)) w.nodes) (sym l.one-is) ∙ stays in
      let same : kept_items file ≡ kept_items l.front ++ l.last ∷ [] = ap kept_items l.is ∙ kept_push l.front l.last true there in
      let before = so_far.means l.front l.kept-is in
      let step = numbered l.last l.one-is in
      let item_symbols = λ (item : Item). flat_map literal_symbols (kept_literals item) in
      let grown = Gathers-extends (item_symbols l.last) symbols new step.symbols in
      let old = map (clause_of terms) clauses in
      let all : map (clause_of later) (clauses ++ clause ∷ []) ≡ old ++ clause_of later clause ∷ [] =
      map-append (clause_of later) clauses (clause ∷ []) ∙ ap (λ cs. cs ++ clause_of later clause ∷ []) (clauses-extend terms later extends clauses so_far.rows) in
      let symbols-are : flat_map item_symbols (kept_items file) ≡ flat_map item_symbols (kept_items l.front) ++ item_symbols l.last =
      ap (flat_map item_symbols) same ∙ flat_map-append item_symbols (kept_items l.front) (l.last ∷ []) ∙ ap (λ s. flat_map item_symbols (kept_items l.front) ++ s) (append-nil (item_symbols l.last)) in
      let terms-are : flat_map clause_terms (map (clause_of later) (clauses ++ clause ∷ [])) ≡ flat_map clause_terms old ++ clause_terms (clause_of later clause) =
      ap (flat_map clause_terms) all ∙ flat_map-append clause_terms old (clause_of later clause ∷ []) ∙ ap (λ s. flat_map clause_terms old ++ s) (append-nil (clause_terms (clause_of later clause))) in
      record {
        symbols = subst (λ ss. Gathers [] ss new) (sym symbols-are) (Gathers-append (flat_map item_symbols (kept_items l.front)) (item_symbols l.last) [] symbols new before.symbols step.symbols);
        terms = subst (λ ts. Gathers [] ts later) (sym terms-are) (Gathers-append (flat_map clause_terms old) (clause_terms (clause_of later clause)) [] terms later before.terms step.terms);
        clauses = subst (λ items. Pairwise (IsClauseOf new) items (map (clause_of later) (clauses ++ clause ∷ []))) (sym same)
            (subst (λ cs. Pairwise (IsClauseOf new) (kept_items l.front ++ l.last ∷ []) cs) (sym all)
            (Pairwise-append (IsClauseOf new) (kept_items l.front) (l.last ∷ []) old (clause_of later clause ∷ [])
            (Pairwise-weaker (IsClauseOf symbols) (IsClauseOf new) (clause_stays symbols new grown) (kept_items l.front) old before.clauses) (step.clause, tt)));
      };
  rows = All-push (λ (c : Clause). All (HasRows (length later)) c.literals.items) clauses clause
      (All-weaker (λ (c : Clause). All (HasRows (length terms)) c.literals.items) (λ c. All (HasRows (length later)) c.literals.items) (λ c all. HasRows-extends terms later extends c.literals.items all) clauses so_far.rows) rows;
  few = omega (arith, so_far.few, few, nodes_push kept one);
}
