-- The problem of readable items is valid.
use Rattle.std.proofs.Common.{◌≡◌, ℕ, suc, ◌≤◌, Bool, List, [], ◌∷◌, length, Some, refl, sym, ap, subst, ◌∙◌, arith, slice_get, inl}
use Rattle.std.specs.Prelude.{All}
use Rattle.std.specs.List.{flat_map}
use Rattle.std.proofs.lemmas.List.Elements.{All-head, All-tail, All-cons, All-nil, All-append, All-filter}
use Rattle.std.proofs.lemmas.Option.{slice_get_within}
use Rattle.std.proofs.lemmas.List.Sums.{length-filter, count_by-le-length}
use Rattle.pm_logic.specs.declared.symbols.Kind.{Kind}
use Rattle.pm_logic.specs.declared.symbols.Kind.TheVariants.{Predicate, Function, Equality}
use Rattle.pm_logic.specs.Problem as logic
use Rattle.pm_logic.specs.Problem.{HasShape, IsTermOver, AreTermsOver, IsLiteralOver, IsClauseOver, IsEquality, IsValid, IsPrintable}
use Rattle.pm_logic.specs.Term as tree
use Rattle.pm_logic.specs.Term.{as_terms, list_of}
use Rattle.pm_logic.proofs.Gathering.{Gathers-all}
use Rattle.pm_cnf.specs.Grammar as grammar
use Rattle.pm_cnf.specs.Grammar.{Term, variable, application, Arguments, no_arguments, more_arguments, Atom, truth, falsity, Item}
use Rattle.pm_cnf.specs.Meaning.{Pairwise, Kept, kept_from, kept_among, kept_literals, kept_items, is_kept, literals_of, argument_count, function_of, predicate_of, symbols_in, symbols_among, literal_symbols, item_variables, IsTreeOf, AreTreesOf, IsLiteralOf, IsClauseOf, IsProblemOf, item_symbols}
use Rattle.pm_cnf.proofs.meaning.Pairs.{Pairwise-length, Pairwise-all}

has_shape : (symbols : List logic.Symbol) (f : ℕ) (kind : Kind) (n : ℕ) (s : logic.Symbol) → slice_get symbols f ≡ Some s → s.kind ≡ kind → s.arity ≡ n → HasShape symbols f kind n
has_shape symbols f kind n s is k a = rw is (k, a)

trees_count : (symbols : List logic.Symbol) (texts : List (List ℕ)) (args : Arguments) (us : tree.Terms) → AreTreesOf symbols texts args us → argument_count args ≡ length (list_of us)
trees_count symbols texts no_arguments tree.no_terms h = refl
trees_count symbols texts (more_arguments t ts) (tree.more_terms u us) h = ap suc (trees_count symbols texts ts us h.1)
trees_count symbols texts no_arguments (tree.more_terms u us) h = absurd h
trees_count symbols texts (more_arguments t ts) tree.no_terms h = absurd h

mutual
  tree_over : (symbols : List logic.Symbol) (texts : List (List ℕ)) (t : Term) (u : tree.Term) → IsTreeOf symbols texts t u → IsTermOver symbols (length texts) u
  tree_over symbols texts (variable text) (tree.var n) h = slice_get_within texts n text h
  tree_over symbols texts (application w args) (tree.app f us) h =
      (has_shape symbols f Function (length (list_of us)) (function_of w args) h.0 refl (trees_count symbols texts args us h.1), trees_over symbols texts args us h.1)
  tree_over symbols texts (variable text) (tree.app f us) h = absurd h
  tree_over symbols texts (application w args) (tree.var n) h = absurd h

  trees_over : (symbols : List logic.Symbol) (texts : List (List ℕ)) (args : Arguments) (us : tree.Terms) → AreTreesOf symbols texts args us → AreTermsOver symbols (length texts) us
  trees_over symbols texts no_arguments tree.no_terms h = tt
  trees_over symbols texts (more_arguments t ts) (tree.more_terms u us) h = (tree_over symbols texts t u h.0, trees_over symbols texts ts us h.1)
  trees_over symbols texts no_arguments (tree.more_terms u us) h = absurd h
  trees_over symbols texts (more_arguments t ts) tree.no_terms h = absurd h

list_over : (symbols : List logic.Symbol) (vars : ℕ) (us : List tree.Term) → AreTermsOver symbols vars (as_terms us) → All (IsTermOver symbols vars) us
list_over symbols vars [] h = All-nil (IsTermOver symbols vars)
list_over symbols vars (u ∷ us) h = All-cons (IsTermOver symbols vars) u us h.0 (list_over symbols vars us h.1)

list_of-as : (us : List tree.Term) → length (list_of (as_terms us)) ≡ length us
list_of-as [] = refl
list_of-as (u ∷ us) = ap suc (list_of-as us)

literal_over : (symbols : List logic.Symbol) (texts : List (List ℕ)) (written : Kept) (literal : logic.Literal) → IsLiteralOf symbols texts written literal → IsLiteralOver symbols (length texts) literal
literal_over symbols texts written literal h = record {
  predicate = inl (has_shape symbols literal.predicate Predicate (length literal.args) (predicate_of written.predicate written.args) h.symbol refl
      (trees_count symbols texts written.args (as_terms literal.args) h.terms ∙ list_of-as literal.args));
  args = list_over symbols (length texts) literal.args (trees_over symbols texts written.args (as_terms literal.args) h.terms);
}

kept_from-few : (positive : Bool) (atom : Atom) (others : List Kept) → length (kept_from positive atom others) ≤ suc (length others)
kept_from-few positive (grammar.predicate w args) others = omega arith
kept_from-few positive truth others = omega arith
kept_from-few positive falsity others = omega arith

kept_among-few : (literals : List grammar.Literal) → length (kept_among literals) ≤ length literals
kept_among-few [] = omega arith
kept_among-few (l ∷ ls) = omega (arith, kept_from-few l.positive l.atom (kept_among ls), kept_among-few ls)

literals_over : (symbols : List logic.Symbol) (texts : List (List ℕ)) (written : List Kept) (literals : List logic.Literal) → Pairwise (IsLiteralOf symbols texts) written literals → All (IsLiteralOver symbols (length texts)) literals
literals_over symbols texts [] [] h = All-nil (IsLiteralOver symbols (length texts))
literals_over symbols texts [] (l ∷ ls) h = absurd h
literals_over symbols texts (w ∷ ws) [] h = absurd h
literals_over symbols texts (w ∷ ws) (l ∷ ls) h = All-cons (IsLiteralOver symbols (length texts)) l ls (literal_over symbols texts w l h.0) (literals_over symbols texts ws ls h.1)

clause_over : (symbols : List logic.Symbol) (item : Item) (clause : logic.Clause) → length (literals_of item.formula) ≤ 255 → IsClauseOf symbols item clause → IsClauseOver symbols clause
clause_over symbols item clause few h = record {
  few = omega (arith, few, kept_among-few (literals_of item.formula), Pairwise-length (IsLiteralOf symbols (item_variables item)) (kept_literals item) clause.literals h.literals);
  literals = subst (λ n. All (IsLiteralOver symbols n) clause.literals) (sym h.vars) (literals_over symbols (item_variables item) (kept_literals item) clause.literals h.literals);
}

pub kept_few : (items : List Item) → length (kept_items items) ≤ length items
kept_few items = omega (arith, length-filter is_kept items, count_by-le-length is_kept items)

-- no symbol that is read is equality's
abbrev IsNoOther : logic.Symbol → Type 0
IsNoOther s = s.kind ≡ Equality → IsEquality s

mutual
  term_symbols : (t : Term) → All IsNoOther (symbols_in t)
  term_symbols (variable text) = All-nil IsNoOther
  term_symbols (application w args) = All-cons IsNoOther (function_of w args) (symbols_among args) (λ is. absurd cc) (terms_symbols args)

  terms_symbols : (args : Arguments) → All IsNoOther (symbols_among args)
  terms_symbols no_arguments = All-nil IsNoOther
  terms_symbols (more_arguments t ts) = All-append IsNoOther (symbols_in t) (symbols_among ts) (term_symbols t) (terms_symbols ts)

literals_symbols_plain : (literals : List Kept) → All IsNoOther (flat_map literal_symbols literals)
literals_symbols_plain [] = All-nil IsNoOther
literals_symbols_plain (l ∷ ls) =
    All-append IsNoOther (literal_symbols l) (flat_map literal_symbols ls)
    (All-cons IsNoOther (predicate_of l.predicate l.args) (symbols_among l.args) (λ is. absurd cc) (terms_symbols l.args)) (literals_symbols_plain ls)

items_symbols_plain : (items : List Item) → All IsNoOther (flat_map item_symbols items)
items_symbols_plain [] = All-nil IsNoOther
items_symbols_plain (i ∷ items) =
    All-append IsNoOther (item_symbols i) (flat_map item_symbols items) (literals_symbols_plain (kept_literals i)) (items_symbols_plain items)

all_symbols : (items : List Item) → All (λ item. All (λ s. IsPrintable s.text) (item_symbols item)) items → All (λ s. IsPrintable s.text) (flat_map item_symbols items)
all_symbols [] all = All-nil (λ (s : logic.Symbol). IsPrintable s.text)
all_symbols (i ∷ items) all =
    All-append (λ (s : logic.Symbol). IsPrintable s.text) (item_symbols i) (flat_map item_symbols items) (All-head (λ item. All (λ s. IsPrintable s.text) (item_symbols item)) i items all)
    (all_symbols items (All-tail (λ item. All (λ s. IsPrintable s.text) (item_symbols item)) i items all))

pub problem_valid : (items : List Item) (problem : logic.Problem) → IsProblemOf items problem → length items ≤ 65536 → All (λ item. length (literals_of item.formula) ≤ 255) items
    → All (λ item. All (λ s. IsPrintable s.text) (item_symbols item)) items → IsValid problem
problem_valid items problem h few literals printable = record {
  few = omega (arith, few, kept_few items, Pairwise-length (IsClauseOf problem.symbols) (kept_items items) problem.clauses h.clauses);
  texts = Gathers-all (λ (s : logic.Symbol). IsPrintable s.text) (flat_map item_symbols (kept_items items)) [] problem.symbols h.symbols (All-nil (λ (s : logic.Symbol). IsPrintable s.text))
      (all_symbols (kept_items items) (All-filter is_kept (λ item. All (λ s. IsPrintable s.text) (item_symbols item)) items printable));
  equality = Gathers-all IsNoOther (flat_map item_symbols (kept_items items)) [] problem.symbols h.symbols (All-nil IsNoOther) (items_symbols_plain (kept_items items));
  clauses = Pairwise-all (IsClauseOf problem.symbols) (λ item. length (literals_of item.formula) ≤ 255) (IsClauseOver problem.symbols) (λ item clause few is. clause_over problem.symbols item clause few is) (kept_items items) problem.clauses
      (All-filter is_kept (λ item. length (literals_of item.formula) ≤ 255) items literals) h.clauses;
}
