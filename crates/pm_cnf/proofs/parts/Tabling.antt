-- The tables as they grow node by node.
use Rattle.std.proofs.Common.{◌≡◌, ℕ, ◌+◌, ◌<◌, ◌≤◌, Bool, true, false, List, [], ◌∷◌, ◌++◌, length, Some, refl, sym, ap, subst, ◌∙◌, arith, slice_get, ◌⊎◌, inl, inr, true≢false}
use Rattle.std.specs.Prelude.{All, if◌then◌else◌}
use Rattle.std.specs.List.{list_any, flat_map}
use Rattle.std.specs.Str.{bytes_eq}
use Rattle.std.proofs.lemmas.List.{append-nil, length-append, length_push}
use Rattle.std.proofs.lemmas.Grind.{flat_map-append}
use Rattle.std.proofs.lemmas.List.Elements.{All-head, All-tail, All-cons, All-nil}
use Rattle.std.specs.Cmp.{decided}
use Rattle.std.proofs.lemmas.Map.Views.{list_any-from_Contains}
use Rattle.std.proofs.lemmas.Slice.Eq.{bytes_eq-Decides}
use Rattle.std.proofs.lemmas.Bool.{cases_lt}
use Rattle.pm_logic.specs.declared.symbols.Kind.TheVariants.{Function}
use Rattle.pm_logic.specs.Problem.{Symbol, Numbers, IsPrintable}
use Rattle.pm_logic.specs.Term.{Term, var}
use Rattle.pm_logic.specs.Table.{variable_count}
use Rattle.pm_logic.proofs.ListLemmas.{Contains-from, slice_get-push}
use Rattle.pm_logic.specs.Lists.{Gathers}
use Rattle.pm_logic.proofs.Gathering.{Extends, slice_get-extends, Gathers-one, Gathers-append, Gathers-extends, Gathers-length}
use Rattle.pm_cnf.specs.declared.number.Part.{Part}
use Rattle.pm_cnf.specs.declared.number.Part.TheVariants as parts
use Rattle.pm_cnf.specs.Grammar.{Word, word_text}
use Rattle.pm_cnf.specs.Inside.Draft.{Node, predicate_node, constant_node, function_node, variable_node}
use Rattle.pm_cnf.specs.Offences.{with_text}
use Rattle.pm_cnf.specs.Meaning.{Pairwise, with_texts}
use Rattle.pm_cnf.specs.Inside.Parts.{IsPartOf, part_leaf, node_symbol, node_text, Tables, Grows, ArePrintable}
use Rattle.pm_cnf.proofs.meaning.Pairs.{Pairwise-append, Pairwise-weaker}
use Rattle.pm_cnf.proofs.parts.TextLemmas.{with_texts-extends, with_texts-append}
use Rattle.pm_cnf.proofs.parts.VariableRows.{variable_count-extends}

pub Grows-none : (tables : Tables) → length tables.texts ≤ variable_count tables.terms → Grows tables [] [] tables
Grows-none tables known = record { symbols = refl; terms = refl; texts = refl; known = known }

pub Grows-append : (a b c : Tables) (nodes more : List Node) (terms others : List Term) → Grows a nodes terms b → Grows b more others c → Grows a (nodes ++ more) (terms ++ others) c
Grows-append a b c nodes more terms others first second = record {
  symbols = subst (λ ss. Gathers a.symbols ss c.symbols) (sym (flat_map-append node_symbol nodes more)) (Gathers-append (flat_map node_symbol nodes) (flat_map node_symbol more) a.symbols b.symbols c.symbols first.symbols second.symbols);
  terms = Gathers-append terms others a.terms b.terms c.terms first.terms second.terms;
  texts =
      second.texts ∙ ap (λ ts. with_texts ts (flat_map node_text more)) first.texts
      ∙ sym (with_texts-append a.texts (flat_map node_text nodes) (flat_map node_text more)) ∙ ap (with_texts a.texts) (sym (flat_map-append node_text nodes more));
  known = second.known;
}

pub symbols-extend : (a b : Tables) (nodes : List Node) (terms : List Term) → Grows a nodes terms b → Extends a.symbols b.symbols
symbols-extend a b nodes terms h = Gathers-extends (flat_map node_symbol nodes) a.symbols b.symbols h.symbols

pub terms-extend : (a b : Tables) (nodes : List Node) (terms : List Term) → Grows a nodes terms b → Extends a.terms b.terms
terms-extend a b nodes terms h = Gathers-extends terms a.terms b.terms h.terms

pub texts-extend : (a b : Tables) (nodes : List Node) (terms : List Term) → Grows a nodes terms b → Extends a.texts b.texts
texts-extend a b nodes terms h = subst (Extends a.texts) (sym h.texts) (with_texts-extends a.texts (flat_map node_text nodes))

symbol_one : (node : Node) → length (node_symbol node) ≤ 1
symbol_one (predicate_node positive w arity) = omega arith
symbol_one (constant_node positive value) = omega arith
symbol_one (function_node w arity) = omega arith
symbol_one (variable_node text) = omega arith

symbols_few : (nodes : List Node) → length (flat_map node_symbol nodes) ≤ length nodes
symbols_few [] = omega arith
symbols_few (node ∷ nodes) = omega (arith, symbols_few nodes, symbol_one node, length-append (node_symbol node) (flat_map node_symbol nodes))

pub symbols-count : (a b : Tables) (nodes : List Node) (terms : List Term) → Grows a nodes terms b → length b.symbols ≤ length a.symbols + length nodes
symbols-count a b nodes terms h = omega (arith, Gathers-length (flat_map node_symbol nodes) a.symbols b.symbols h.symbols, symbols_few nodes)

text_one : (node : Node) → length (node_text node) ≤ 1
text_one (predicate_node positive w arity) = omega arith
text_one (constant_node positive value) = omega arith
text_one (function_node w arity) = omega arith
text_one (variable_node text) = omega arith

pub texts_few : (nodes : List Node) → length (flat_map node_text nodes) ≤ length nodes
texts_few [] = omega arith
texts_few (node ∷ nodes) = omega (arith, texts_few nodes, text_one node, length-append (node_text node) (flat_map node_text nodes))

-- All of joined lists
pub All-front : {A : Type 0} (P : A → Type 0) (xs ys : List A) → All P (xs ++ ys) → All P xs
All-front P [] ys all = All-nil P
All-front P (x ∷ xs) ys all = All-cons P x xs (All-head P x (xs ++ ys) all) (All-front P xs ys (All-tail P x (xs ++ ys) all))

pub All-back : {A : Type 0} (P : A → Type 0) (xs ys : List A) → All P (xs ++ ys) → All P ys
All-back P [] ys all = all
All-back P (x ∷ xs) ys all = All-back P xs ys (All-tail P x (xs ++ ys) all)

pub printable-append : (nodes more : List Node) → ArePrintable (nodes ++ more) → ArePrintable nodes × ArePrintable more
printable-append nodes more all =
    let both = subst (All (λ (s : Symbol). IsPrintable s.text)) (flat_map-append node_symbol nodes more) all in
    (All-front (λ (s : Symbol). IsPrintable s.text) (flat_map node_symbol nodes) (flat_map node_symbol more) both, All-back (λ (s : Symbol). IsPrintable s.text) (flat_map node_symbol nodes) (flat_map node_symbol more) both)

-- a new text is the last: where its number is below a count that isn't below that of the others, all are
pub texts_known : (texts new : List (List ℕ)) (text : List ℕ) (n count : ℕ) → new ≡ with_text texts text → slice_get new n ≡ Some text → n < count → length texts ≤ count → length new ≤ count
texts_known texts new text n count is stands lt le = rw is (by (list_any (bytes_eq text) texts) refl (ap (λ ts. slice_get ts n) (sym is) ∙ stands))
  where
    at_end : list_any (bytes_eq text) texts ≡ false → slice_get (texts ++ text ∷ []) n ≡ Some text → (n < length texts) ⊎ (length texts ≤ n) → length (texts ++ text ∷ []) ≤ count
    at_end none stands (inl below) =
        let there = Contains-from texts n text (sym (slice_get-push texts text n below) ∙ stands) in
        absurd (true≢false (sym (list_any-from_Contains (decided bytes_eq bytes_eq-Decides) text texts there) ∙ none))
    at_end none stands (inr beyond) = omega (arith, length_push texts text, beyond, lt)

    by : (b : Bool) → list_any (bytes_eq text) texts ≡ b → slice_get (if b then texts else texts ++ text ∷ []) n ≡ Some text → length (if b then texts else texts ++ text ∷ []) ≤ count
    by true is stands = le
    by false is stands = at_end is stands (cases_lt n (length texts))

part-extends : (symbols more : List Symbol) (texts others : List (List ℕ)) → Extends symbols more → Extends texts others → (node : Node) (part : Part) → IsPartOf symbols texts node part → IsPartOf more others node part
part-extends symbols more texts others ss ts (variable_node text) (parts.Variable n) h = slice_get-extends texts others ts n text h
part-extends symbols more texts others ss ts (function_node w arity) (parts.Function f k) h = (slice_get-extends symbols more ss f (record { text = word_text w; arity = arity; kind = Function }) h.0, h.1)
part-extends symbols more texts others ss ts (variable_node text) (parts.Function f k) h = absurd h
part-extends symbols more texts others ss ts (function_node w arity) (parts.Variable n) h = absurd h
part-extends symbols more texts others ss ts (predicate_node positive w arity) part h = absurd h
part-extends symbols more texts others ss ts (constant_node positive value) part h = absurd h

-- nodes that became parts
pub record AreParts (start : Tables) (nodes : List Node) (now : Tables) (ps : List Part) : Type 0 where
  pub grows : Grows start nodes (flat_map part_leaf ps) now
  pub pairs : Pairwise (IsPartOf now.symbols now.texts) nodes ps

pub parts_none : (start : Tables) → length start.texts ≤ variable_count start.terms → AreParts start [] start []
parts_none start known = record { grows = Grows-none start known; pairs = tt }

parts_more : (start now new : Tables) (nodes : List Node) (ps : List Part) (node : Node) (part : Part) → Grows now (node ∷ []) (part_leaf part) new → IsPartOf new.symbols new.texts node part
    → AreParts start nodes now ps → AreParts start (nodes ++ node ∷ []) new (ps ++ part ∷ [])
parts_more start now new nodes ps node part step is so_far =
    let weaker = part-extends now.symbols new.symbols now.texts new.texts (symbols-extend now new (node ∷ []) (part_leaf part) step) (texts-extend now new (node ∷ []) (part_leaf part) step) in
    let leaves : flat_map part_leaf (ps ++ part ∷ []) ≡ flat_map part_leaf ps ++ part_leaf part = flat_map-append part_leaf ps (part ∷ []) ∙ ap (λ ts. flat_map part_leaf ps ++ ts) (append-nil (part_leaf part)) in
    record {
      grows = subst (λ ts. Grows start (nodes ++ node ∷ []) ts new) (sym leaves) (Grows-append start now new nodes (node ∷ []) (flat_map part_leaf ps) (part_leaf part) so_far.grows step);
      pairs = Pairwise-append (IsPartOf new.symbols new.texts) nodes (node ∷ []) ps (part ∷ []) (Pairwise-weaker (IsPartOf now.symbols now.texts) (IsPartOf new.symbols new.texts) weaker nodes ps so_far.pairs) (is, tt);
    }

pub parts_variable : (start : Tables) (nodes more : List Node) (symbols : List Symbol) (terms later : List Term) (texts others : List (List ℕ)) (ps now : List Part) (text : List ℕ) (n : ℕ)
    → more ≡ nodes ++ variable_node text ∷ [] → now ≡ ps ++ parts.Variable n ∷ [] → others ≡ with_text texts text → slice_get others n ≡ Some text → Gathers terms (var n ∷ []) later → n < variable_count later
    → AreParts start nodes (record { symbols = symbols; terms = terms; texts = texts }) ps → AreParts start more (record { symbols = symbols; terms = later; texts = others }) now
parts_variable start nodes more symbols terms later texts others ps now text n more-is now-is texts-is stands gathers lt so_far =
    let le : length texts ≤ variable_count later = omega (arith, so_far.grows.known, variable_count-extends terms later (Gathers-extends (var n ∷ []) terms later gathers)) in
    let step : Grows (record { symbols = symbols; terms = terms; texts = texts }) (variable_node text ∷ []) (var n ∷ []) (record { symbols = symbols; terms = later; texts = others }) =
    record { symbols = refl; terms = gathers; texts = texts-is; known = texts_known texts others text n (variable_count later) texts-is stands lt le } in
    rw (more-is, now-is) (parts_more start (record { symbols = symbols; terms = terms; texts = texts }) (record { symbols = symbols; terms = later; texts = others }) nodes ps (variable_node text) (parts.Variable n) step stands so_far)

pub parts_function : (start : Tables) (nodes more : List Node) (symbols later : List Symbol) (terms : List Term) (texts : List (List ℕ)) (ps now : List Part) (w : Word) (f k : ℕ)
    → more ≡ nodes ++ function_node w k ∷ [] → now ≡ ps ++ parts.Function f k ∷ [] → Numbers symbols later (record { text = word_text w; arity = k; kind = Function }) f
    → AreParts start nodes (record { symbols = symbols; terms = terms; texts = texts }) ps → AreParts start more (record { symbols = later; terms = terms; texts = texts }) now
parts_function start nodes more symbols later terms texts ps now w f k more-is now-is numbers so_far =
    let step : Grows (record { symbols = symbols; terms = terms; texts = texts }) (function_node w k ∷ []) [] (record { symbols = later; terms = terms; texts = texts }) =
    record { symbols = Gathers-one symbols later (record { text = word_text w; arity = k; kind = Function }) numbers.grows; terms = refl; texts = refl; known = so_far.grows.known } in
    rw (more-is, now-is) (parts_more start (record { symbols = symbols; terms = terms; texts = texts }) (record { symbols = later; terms = terms; texts = texts }) nodes ps (function_node w k) (parts.Function f k) step (numbers.stands, refl) so_far)
