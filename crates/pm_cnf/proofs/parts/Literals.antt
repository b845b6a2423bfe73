-- The literals of nodes, one after the other.
use Rattle.std.proofs.Common.{◌≡◌, ℕ, suc, ◌+◌, Bool, true, false, cond, List, [], ◌∷◌, ◌++◌, length, take, drop, refl, sym, ap, ap₂, subst, ◌∙◌, arith}
use Rattle.std.specs.Prelude.{All, map}
use Rattle.std.specs.List.{flat_map, prefix_len}
use Rattle.std.proofs.lemmas.List.{append-nil, map-append}
use Rattle.std.proofs.lemmas.Grind.{flat_map-append}
use Rattle.std.proofs.lemmas.List.Elements.{All-head, All-tail, All-cons, All-nil, All-append, All-weaker}
use Rattle.std.proofs.Math.Seq.{take-append_seam, drop-append_seam}
use Rattle.pm_logic.specs.declared.problem.Literal.{Literal}
use Rattle.pm_logic.specs.Problem as logic
use Rattle.pm_logic.specs.Term as tree
use Rattle.pm_logic.specs.Term.{as_terms, tree_at}
use Rattle.pm_logic.specs.Table.{variable_count}
use Rattle.pm_logic.specs.View.{literal_of, HasRows}
use Rattle.pm_logic.specs.Lists.{Gathers}
use Rattle.pm_logic.proofs.Gathering.{Extends, slice_get-extends, Gathers-extends}
use Rattle.pm_cnf.specs.declared.number.Part.{Part}
use Rattle.pm_cnf.specs.Grammar as grammar
use Rattle.pm_cnf.specs.Grammar.{Word, Term, variable, application, Arguments, no_arguments, more_arguments, Atom, truth, falsity}
use Rattle.pm_cnf.specs.Inside.Draft as draft
use Rattle.pm_cnf.specs.Inside.Draft.{Node, term_nodes, arguments_nodes, atom_nodes, literal_nodes}
use Rattle.pm_cnf.specs.Meaning.{Pairwise, Kept, kept_from, kept_among, argument_count, predicate_of, function_of, IsTreeOf, AreTreesOf, IsLiteralOf, literal_terms, applications_among}
use Rattle.pm_cnf.specs.Inside.Parts.{is_argument, IsArgument, IsPartOf, part_leaf, trees_of, applications_of, AreWellFormed, terms_among, Tables, Grows, AreNumbered}
use Rattle.pm_cnf.proofs.meaning.Pairs.{Pairwise-append, Pairwise-weaker}
use Rattle.pm_cnf.proofs.parts.PartTrees.{ArgumentTrees, argument_trees}
use Rattle.pm_cnf.proofs.parts.Building.{trees_at-extends, rows-extend}
use Rattle.pm_cnf.proofs.parts.VariableRows.{variable_count-extends}
use Rattle.pm_cnf.proofs.parts.Tabling.{AreParts, Grows-append, symbols-extend, terms-extend, texts-extend}
use Rattle.pm_cnf.proofs.Lists.{head_is, tail_is}

mutual
  term_are : (t : Term) → All IsArgument (term_nodes t)
  term_are (variable text) = All-cons IsArgument (draft.variable_node text) [] refl (All-nil IsArgument)
  term_are (application w args) = All-cons IsArgument (draft.function_node w (argument_count args)) (arguments_nodes args) refl (arguments_are args)

  pub arguments_are : (args : Arguments) → All IsArgument (arguments_nodes args)
  arguments_are no_arguments = All-nil IsArgument
  arguments_are (more_arguments t ts) = All-append IsArgument (term_nodes t) (arguments_nodes ts) (term_are t) (arguments_are ts)

-- the trees of whole arguments
whole_trees : (symbols : List logic.Symbol) (texts : List (List ℕ)) (args : Arguments) (ps : List Part) (a : ArgumentTrees symbols texts args ps) → trees_of ps ≡ a.trees
whole_trees symbols texts args ps a = ap trees_of (sym (append-nil ps)) ∙ a.stack [] ∙ append-nil a.trees

pub arguments_whole : (start now : Tables) (nodes : List Node) (ps : List Part) (args : Arguments) → nodes ≡ arguments_nodes args → AreParts start nodes now ps → AreWellFormed (variable_count now.terms) ps
arguments_whole start now nodes ps args is parts =
    let a = argument_trees now.symbols now.texts args ps (subst (λ ns. Pairwise (IsPartOf now.symbols now.texts) ns ps) is parts.pairs) in
    subst (AreWellFormed (variable_count now.terms)) (append-nil ps) (a.whole (variable_count now.terms) parts.grows.known [] tt)

pub arguments_terms : (start now : Tables) (new : List tree.Term) (nodes : List Node) (ps : List Part) (rows : List ℕ) (args : Arguments) → AreParts start nodes now ps → map (tree_at new) rows ≡ trees_of ps → nodes ≡ arguments_nodes args
    → AreTreesOf now.symbols now.texts args (as_terms (map (tree_at new) rows))
arguments_terms start now new nodes ps rows args parts trees is =
    let a = argument_trees now.symbols now.texts args ps (subst (λ ns. Pairwise (IsPartOf now.symbols now.texts) ns ps) is parts.pairs) in
    subst (λ ts. AreTreesOf now.symbols now.texts args (as_terms ts)) (sym (trees ∙ whole_trees now.symbols now.texts args ps a)) a.are

pub arguments_grow : (start now : Tables) (new : List tree.Term) (nodes : List Node) (ps : List Part) (rows : List ℕ) (args : Arguments) → AreParts start nodes now ps → map (tree_at new) rows ≡ trees_of ps → nodes ≡ arguments_nodes args
    → Gathers now.terms (applications_of ps) new → Grows start nodes (terms_among (map (tree_at new) rows)) (record { symbols = now.symbols; terms = new; texts = now.texts })
arguments_grow start now new nodes ps rows args parts trees is gathers =
    let a = argument_trees now.symbols now.texts args ps (subst (λ ns. Pairwise (IsPartOf now.symbols now.texts) ns ps) is parts.pairs) in
    let same : map (tree_at new) rows ≡ a.trees = trees ∙ whole_trees now.symbols now.texts args ps a in
    let built : applications_of ps ≡ applications_among (as_terms a.trees) = ap applications_of (sym (append-nil ps)) ∙ a.applications [] in
    let step : Grows now [] (applications_of ps) (record { symbols = now.symbols; terms = new; texts = now.texts }) =
    record { symbols = refl; terms = gathers; texts = refl; known = omega (arith, parts.grows.known, variable_count-extends now.terms new (Gathers-extends (applications_of ps) now.terms new gathers)) } in
    let all = Grows-append start now (record { symbols = now.symbols; terms = new; texts = now.texts }) nodes [] (flat_map part_leaf ps) (applications_of ps) parts.grows step in
    subst (λ ts. Grows start nodes (terms_among ts) (record { symbols = now.symbols; terms = new; texts = now.texts })) (sym same)
    (subst (λ ts. Grows start nodes ts (record { symbols = now.symbols; terms = new; texts = now.texts })) (ap₂ (λ us vs. us ++ vs) a.leaves built)
    (subst (λ ns. Grows start ns (flat_map part_leaf ps ++ applications_of ps) (record { symbols = now.symbols; terms = new; texts = now.texts })) (append-nil nodes) all))

-- Trees stay right as symbols and variables are added.
module _ (symbols more : List logic.Symbol) (texts others : List (List ℕ)) (ss : Extends symbols more) (ts : Extends texts others) where
  mutual
    tree-extends : (t : Term) (u : tree.Term) → IsTreeOf symbols texts t u → IsTreeOf more others t u
    tree-extends (variable text) (tree.var n) h = slice_get-extends texts others ts n text h
    tree-extends (application w args) (tree.app f us) h = (slice_get-extends symbols more ss f (function_of w args) h.0, trees-extend args us h.1)
    tree-extends (variable text) (tree.app f us) h = absurd h
    tree-extends (application w args) (tree.var n) h = absurd h

    trees-extend : (args : Arguments) (us : tree.Terms) → AreTreesOf symbols texts args us → AreTreesOf more others args us
    trees-extend no_arguments tree.no_terms h = tt
    trees-extend (more_arguments t args) (tree.more_terms u us) h = (tree-extends t u h.0, trees-extend args us h.1)
    trees-extend no_arguments (tree.more_terms u us) h = absurd h
    trees-extend (more_arguments t args) tree.no_terms h = absurd h

  pub literal-extends : (written : Kept) (literal : logic.Literal) → IsLiteralOf symbols texts written literal → IsLiteralOf more others written literal
  literal-extends written literal h = record {
    sign = h.sign;
    symbol = slice_get-extends symbols more ss literal.predicate (predicate_of written.predicate written.args) h.symbol;
    terms = trees-extend written.args (as_terms literal.args) h.terms;
  }

-- literals stay the same as terms are added
pub literal_of-extends : (terms new : List tree.Term) → Extends terms new → (literals : List Literal) → All (HasRows (length terms)) literals → map (literal_of new) literals ≡ map (literal_of terms) literals
literal_of-extends terms new extends [] all = refl
literal_of-extends terms new extends (literal ∷ literals) all =
    ap₂ (λ args ls. record { positive = literal.positive; predicate = literal.predicate; args = args } ∷ ls) (trees_at-extends terms new literal.args.items extends (All-head (HasRows (length terms)) literal literals all))
    (literal_of-extends terms new extends literals (All-tail (HasRows (length terms)) literal literals all))

pub HasRows-extends : (terms new : List tree.Term) → Extends terms new → (literals : List Literal) → All (HasRows (length terms)) literals → All (HasRows (length new)) literals
HasRows-extends terms new extends literals all = All-weaker (HasRows (length terms)) (HasRows (length new)) (λ literal rows. rows-extend terms new literal.args.items extends rows) literals all

-- Cutting nodes into literals.

argument_prefix : (xs rest : List Node) → All IsArgument xs → prefix_len is_argument (xs ++ rest) ≡ length xs + prefix_len is_argument rest
argument_prefix [] rest all = omega arith
argument_prefix (x ∷ xs) rest all =
    ap (λ b. cond b (1 + prefix_len is_argument (xs ++ rest)) 0) (All-head IsArgument x xs all) ∙ one (argument_prefix xs rest (All-tail IsArgument x xs all))
  where
    one : prefix_len is_argument (xs ++ rest) ≡ length xs + prefix_len is_argument rest → 1 + prefix_len is_argument (xs ++ rest) ≡ suc (length xs) + prefix_len is_argument rest
    one h = omega (arith, h)

atom_first : (positive : Bool) (atom : Atom) (rest : List Node) → prefix_len is_argument (atom_nodes positive atom ++ rest) ≡ 0
atom_first positive (grammar.predicate w args) rest = refl
atom_first positive truth rest = refl
atom_first positive falsity rest = refl

literals_first : (literals : List grammar.Literal) → prefix_len is_argument (flat_map literal_nodes literals) ≡ 0
literals_first [] = refl
literals_first (literal ∷ literals) = atom_first literal.positive literal.atom (flat_map literal_nodes literals)

-- the head and the nodes after it are of a literal and of others
pub record CutsLiteral (head : Node) (after : List Node) (todo : List grammar.Literal) : Type 0 where
  pub literal : grammar.Literal
  pub others : List grammar.Literal
  pub is : todo ≡ literal ∷ others
  pub first : head ∷ take (prefix_len is_argument after) after ≡ literal_nodes literal
  pub second : drop (prefix_len is_argument after) after ≡ flat_map literal_nodes others

cut_after : (after xs rest : List Node) → after ≡ xs ++ rest → All IsArgument xs → prefix_len is_argument rest ≡ 0 → (take (prefix_len is_argument after) after ≡ xs) × (drop (prefix_len is_argument after) after ≡ rest)
cut_after after xs rest is all none =
    let size : prefix_len is_argument after ≡ length xs = ap (prefix_len is_argument) is ∙ argument_prefix xs rest all ∙ plus_none (length xs) (prefix_len is_argument rest) none in
    (ap₂ take size is ∙ take-append_seam xs rest, ap₂ drop size is ∙ drop-append_seam xs rest)
  where
    plus_none : (m n : ℕ) → n ≡ 0 → m + n ≡ m
    plus_none m n h = omega (arith, h)

cut_atom : (head : Node) (after : List Node) (positive : Bool) (atom : Atom) (rest : List Node) → prefix_len is_argument rest ≡ 0 → head ∷ after ≡ atom_nodes positive atom ++ rest
    → (head ∷ take (prefix_len is_argument after) after ≡ atom_nodes positive atom) × (drop (prefix_len is_argument after) after ≡ rest)
cut_atom head after positive (grammar.predicate w args) rest none is =
    let cut = cut_after after (arguments_nodes args) rest (tail_is head (draft.predicate_node positive w (argument_count args)) after (arguments_nodes args ++ rest) is) (arguments_are args) none in
    (ap₂ (λ x xs. x ∷ xs) (head_is head (draft.predicate_node positive w (argument_count args)) after (arguments_nodes args ++ rest) is) cut.0, cut.1)
cut_atom head after positive truth rest none is =
    let cut = cut_after after [] rest (tail_is head (draft.constant_node positive true) after rest is) (All-nil IsArgument) none in
    (ap₂ (λ x xs. x ∷ xs) (head_is head (draft.constant_node positive true) after rest is) cut.0, cut.1)
cut_atom head after positive falsity rest none is =
    let cut = cut_after after [] rest (tail_is head (draft.constant_node positive false) after rest is) (All-nil IsArgument) none in
    (ap₂ (λ x xs. x ∷ xs) (head_is head (draft.constant_node positive false) after rest is) cut.0, cut.1)

pub cut_literal : (head : Node) (after : List Node) (todo : List grammar.Literal) → head ∷ after ≡ flat_map literal_nodes todo → CutsLiteral head after todo
cut_literal head after [] is = absurd cc
cut_literal head after (literal ∷ others) is =
    let cut = cut_atom head after literal.positive literal.atom (flat_map literal_nodes others) (literals_first others) is in
    record { literal = literal; others = others; is = refl; first = cut.0; second = cut.1 }

-- the literal is kept
pub record IsKeptLiteral (literal : grammar.Literal) (positive : Bool) (w : Word) (n : ℕ) (nodes : List Node) : Type 0 where
  pub args : Arguments
  pub count : n ≡ argument_count args
  pub nodes-are : nodes ≡ arguments_nodes args
  pub kept : (others : List Kept) → kept_from literal.positive literal.atom others ≡ record { positive = positive; predicate = w; args = args } ∷ others

pub kept_literal : (literal : grammar.Literal) (positive : Bool) (w : Word) (n : ℕ) (nodes : List Node) → draft.predicate_node positive w n ∷ nodes ≡ literal_nodes literal → IsKeptLiteral literal positive w n nodes
kept_literal literal positive w n nodes is = by literal.positive literal.atom is
  where
    by : (sign : Bool) (atom : Atom) → draft.predicate_node positive w n ∷ nodes ≡ atom_nodes sign atom → IsKeptLiteral (record { positive = sign; atom = atom }) positive w n nodes
    by sign (grammar.predicate w' args) is =
        let signs : sign ≡ positive = cc in
        let words : w' ≡ w = cc in
        record { args = args; count = cc; nodes-are = cc; kept = λ others. ap₂ (λ p v. record { positive = p; predicate = v; args = args } ∷ others) signs words }
    by sign truth is = cc
    by sign falsity is = cc

pub constant_literal : (literal : grammar.Literal) (positive value : Bool) (nodes : List Node) → draft.constant_node positive value ∷ nodes ≡ literal_nodes literal → (nodes ≡ []) × ((others : List Kept) → kept_from literal.positive literal.atom others ≡ others)
constant_literal literal positive value nodes is = by literal.positive literal.atom is
  where
    by : (sign : Bool) (atom : Atom) → draft.constant_node positive value ∷ nodes ≡ atom_nodes sign atom → (nodes ≡ []) × ((others : List Kept) → kept_from sign atom others ≡ others)
    by sign (grammar.predicate w args) is = cc
    by sign truth is = (cc, λ others. refl)
    by sign falsity is = (cc, λ others. refl)

pub no_argument_first : (literal : grammar.Literal) (node : Node) (nodes : List Node) → IsArgument node → node ∷ nodes ≡ literal_nodes literal → ⊥
no_argument_first literal node nodes argument is = by literal.positive literal.atom is
  where
    by : (sign : Bool) (atom : Atom) → node ∷ nodes ≡ atom_nodes sign atom → ⊥
    by sign (grammar.predicate w args) is = let same : is_argument node ≡ false = ap is_argument (head_is node (draft.predicate_node sign w (argument_count args)) nodes (arguments_nodes args) is) in cc
    by sign truth is = let same : is_argument node ≡ false = ap is_argument (head_is node (draft.constant_node sign true) nodes [] is) in cc
    by sign falsity is = let same : is_argument node ≡ false = ap is_argument (head_is node (draft.constant_node sign false) nodes [] is) in cc

kept_from-append : (positive : Bool) (atom : Atom) (xs ys : List Kept) → kept_from positive atom (xs ++ ys) ≡ kept_from positive atom xs ++ ys
kept_from-append positive (grammar.predicate w args) xs ys = refl
kept_from-append positive truth xs ys = refl
kept_from-append positive falsity xs ys = refl

kept_among-push : (done : List grammar.Literal) (literal : grammar.Literal) → kept_among (done ++ literal ∷ []) ≡ kept_among done ++ kept_from literal.positive literal.atom []
kept_among-push [] literal = refl
kept_among-push (l ∷ done) literal =
    ap (kept_from l.positive l.atom) (kept_among-push done literal) ∙ kept_from-append l.positive l.atom (kept_among done) (kept_from literal.positive literal.atom [])

-- a literal more has its numbers and rows, or is left out
pub literal_more : (start now new : Tables) (done : List grammar.Literal) (literal : grammar.Literal) (literals added : List Literal) (nodes : List Node) → nodes ≡ literal_nodes literal
    → All (HasRows (length now.terms)) literals → Grows now nodes (flat_map literal_terms (map (literal_of new.terms) added)) new
    → Pairwise (IsLiteralOf new.symbols new.texts) (kept_from literal.positive literal.atom []) (map (literal_of new.terms) added)
    → AreNumbered start (flat_map literal_nodes done) now (kept_among done) (map (literal_of now.terms) literals)
    → AreNumbered start (flat_map literal_nodes (done ++ literal ∷ [])) new (kept_among (done ++ literal ∷ [])) (map (literal_of new.terms) (literals ++ added))
literal_more start now new done literal literals added nodes is rows step pairs so_far =
    let before = map (literal_of now.terms) literals in
    let later = map (literal_of new.terms) added in
    let same : before ++ later ≡ map (literal_of new.terms) (literals ++ added) =
    ap (λ ls. ls ++ later) (sym (literal_of-extends now.terms new.terms (terms-extend now new nodes (flat_map literal_terms later) step) literals rows)) ∙ sym (map-append (literal_of new.terms) literals added) in
    let grown : flat_map literal_nodes (done ++ literal ∷ []) ≡ flat_map literal_nodes done ++ nodes =
    flat_map-append literal_nodes done (literal ∷ []) ∙ ap (λ ns. flat_map literal_nodes done ++ ns) (append-nil (literal_nodes literal) ∙ sym is) in
    let weaker = literal-extends now.symbols new.symbols now.texts new.texts (symbols-extend now new nodes (flat_map literal_terms later) step) (texts-extend now new nodes (flat_map literal_terms later) step) in
    let joined : AreNumbered start (flat_map literal_nodes done ++ nodes) new (kept_among done ++ kept_from literal.positive literal.atom []) (before ++ later) = record {
      grows = subst (λ ts. Grows start (flat_map literal_nodes done ++ nodes) ts new) (sym (flat_map-append literal_terms before later))
          (Grows-append start now new (flat_map literal_nodes done) nodes (flat_map literal_terms before) (flat_map literal_terms later) so_far.grows step);
      pairs = Pairwise-append (IsLiteralOf new.symbols new.texts) (kept_among done) (kept_from literal.positive literal.atom []) before later
          (Pairwise-weaker (IsLiteralOf now.symbols now.texts) (IsLiteralOf new.symbols new.texts) weaker (kept_among done) before so_far.pairs) pairs;
    } in
    rw (grown, kept_among-push done literal) (subst (AreNumbered start (flat_map literal_nodes done ++ nodes) new (kept_among done ++ kept_from literal.positive literal.atom [])) same joined)
