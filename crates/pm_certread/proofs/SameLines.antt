-- A line has one form and one content.
use Rattle.std.proofs.Common.{◌≡◌, ◌≢◌, ◌∙◌, ◌⊎◌, inl, inr, ℕ, suc, Bool, true, false, List, [], ◌∷◌, ◌++◌, length, map, get_or, codes, decimal, sym, ap, refl, arith, length-append}
use Rattle.std.specs.List.{All}
use Rattle.std.proofs.lemmas.Fmt.{decimal_injective}
use Rattle.pm_logic.specs.declared.problem.Class.{Class}
use Rattle.pm_logic.specs.declared.problem.Class.TheVariants.{Plain, Regular}
use Rattle.pm_logic.specs.declared.problem.Start.{Start}
use Rattle.pm_logic.specs.declared.problem.Start.TheVariants.{Negative, All as Every, Goal}
use Rattle.pm_logic.specs.declared.tableau.BoundKind.{BoundKind}
use Rattle.pm_logic.specs.declared.tableau.BoundKind.TheVariants.{Depth, Inferences}
use Rattle.pm_logic.specs.declared.symbols.Kind.{Kind}
use Rattle.pm_logic.specs.declared.symbols.Kind.TheVariants.{Predicate, Equality}
use Rattle.pm_logic.specs.Problem.{Symbol}
use Rattle.pm_logic.specs.Word.{written_word, written_as, written_symbol}
use Rattle.pm_certread.specs.declared.levels.Level.TheVariants.{Exhausted, Proved}
use Rattle.pm_certread.specs.Lines.{ended, spaced, variable_line, Header, class_word, start_word, bound_word, header_line_1, header_line_2, Ending, closed_by, extended_by, ending_words, sign_word, NodeLine}
use Rattle.pm_certread.specs.Forms.{IsNumber, IsExhausted, IsProved, IsHeader, IsApplication, IsRoot, IsPredicate, IsNode, ending_number}
use Rattle.pm_certread.specs.Inside.Wholes.{AreWhole}
use Rattle.pm_certread.specs.Inside.Words.{unescaped}
use Rattle.pm_certread.specs.Inside.Nodes.{front_words}
use Rattle.pm_certread.specs.Inside.Head.{level_words, front_words as header_front, back_words, bounded_words, depth_words}
use Rattle.pm_certread.specs.declared.header.Version.TheVariants.{First, Second}
use Rattle.pm_certread.proofs.WordLemmas.{line_words, words_of-spaced, solid_whole, decimal_whole, decimals_whole, symbol_whole}
use Rattle.pm_certread.proofs.TextLemmas.{written_same, word_injective}
use Rattle.pm_certread.proofs.LevelLemmas.{level_whole}
use Rattle.pm_certread.proofs.HeaderLemmas.{header_whole, depth_whole, bounded_whole}
use Rattle.pm_certread.proofs.NodeLemmas.{node_whole}
use Rattle.pm_certread.proofs.TermLemmas.{function_word}

abbrev HasSome : List (List ℕ) → Type 0
HasSome [] = ⊥
HasSome (w ∷ ws) = Unit {0}

pub same_words : (raw : List ℕ) (vs ws : List (List ℕ)) → HasSome vs → HasSome ws → AreWhole vs → AreWhole ws → raw ≡ ended (spaced vs) → raw ≡ ended (spaced ws) → vs ≡ ws
same_words raw [] ws some some_too whole whole_too is is_too = absurd some
same_words raw (v ∷ vs) [] some some_too whole whole_too is is_too = absurd some_too
same_words raw (v ∷ vs) (w ∷ ws) some some_too whole whole_too is is_too =
    sym (words_of-spaced v vs whole) ∙ line_words (spaced (v ∷ vs)) w ws whole_too (sym is ∙ is_too)

first_byte : (v w : List ℕ) → v ≡ w → get_or v 0 0 ≡ get_or w 0 0
first_byte v w e = ap (λ (l : List ℕ). get_or l 0 0) e

decimals_same : (ns ms : List ℕ) → All IsNumber ns → All IsNumber ms → map decimal ns ≡ map decimal ms → ns ≡ ms
decimals_same [] [] small small_too e = refl
decimals_same [] (m ∷ ms) small small_too e = absurd cc
decimals_same (n ∷ ns) [] small small_too e = absurd cc
decimals_same (n ∷ ns) (m ∷ ms) small small_too e =
    let first : n ≡ m = decimal_injective n m (small 0 0 (omega arith)) (small_too 0 0 (omega arith)) cc in
    let later : ns ≡ ms = decimals_same ns ms (λ k d lt. small (suc k) d (omega arith)) (λ k d lt. small_too (suc k) d (omega arith)) cc in
    cc

-- ---- levels

pub not_both_levels : (raw : List ℕ) (level work other : ℕ) → IsExhausted raw level work → IsProved raw level other → ⊥
not_both_levels raw level work other a b =
    let words : level_words Exhausted level work ≡ level_words Proved level other =
    same_words raw (level_words Exhausted level work) (level_words Proved level other) tt tt
    (level_whole Exhausted level work a.small_level a.small_work) (level_whole Proved level other b.small_level b.small_work) a.is b.is in
    let third : codes "exhausted" ≡ codes "proof" = cc in
    let bad : ◌≡◌ {A = ℕ} 101 112 = first_byte (codes "exhausted") (codes "proof") third in
    omega arith

-- ---- headers

class_same : (a b : Class) → class_word a ≡ class_word b → a ≡ b
class_same Plain Plain e = refl
class_same Regular Regular e = refl
class_same Plain Regular e = let bad : ◌≡◌ {A = ℕ} 112 114 = first_byte (class_word Plain) (class_word Regular) e in absurd (omega arith)
class_same Regular Plain e = let bad : ◌≡◌ {A = ℕ} 114 112 = first_byte (class_word Regular) (class_word Plain) e in absurd (omega arith)

start_same : (a b : Start) → start_word a ≡ start_word b → a ≡ b
start_same Negative Negative e = refl
start_same Every Every e = refl
start_same Goal Goal e = refl
start_same Negative Every e = let bad : ◌≡◌ {A = ℕ} 110 97 = first_byte (start_word Negative) (start_word Every) e in absurd (omega arith)
start_same Negative Goal e = let bad : ◌≡◌ {A = ℕ} 110 103 = first_byte (start_word Negative) (start_word Goal) e in absurd (omega arith)
start_same Every Negative e = let bad : ◌≡◌ {A = ℕ} 97 110 = first_byte (start_word Every) (start_word Negative) e in absurd (omega arith)
start_same Every Goal e = let bad : ◌≡◌ {A = ℕ} 97 103 = first_byte (start_word Every) (start_word Goal) e in absurd (omega arith)
start_same Goal Negative e = let bad : ◌≡◌ {A = ℕ} 103 110 = first_byte (start_word Goal) (start_word Negative) e in absurd (omega arith)
start_same Goal Every e = let bad : ◌≡◌ {A = ℕ} 103 97 = first_byte (start_word Goal) (start_word Every) e in absurd (omega arith)

bound_same : (a b : BoundKind) → bound_word a ≡ bound_word b → a ≡ b
bound_same Depth Depth e = refl
bound_same Inferences Inferences e = refl
bound_same Depth Inferences e = let bad : ◌≡◌ {A = ℕ} 100 105 = first_byte (bound_word Depth) (bound_word Inferences) e in absurd (omega arith)
bound_same Inferences Depth e = let bad : ◌≡◌ {A = ℕ} 105 100 = first_byte (bound_word Inferences) (bound_word Depth) e in absurd (omega arith)

abbrev header_with : Class → Start → BoundKind → ℕ → ℕ → ℕ → Header
header_with class start bound size terms nodes =
    record { class = class; start = start; bound = bound; size = size; terms = terms; nodes = nodes }

header_parts : (a b : Header) → a.class ≡ b.class → a.start ≡ b.start → a.bound ≡ b.bound → a.size ≡ b.size → a.terms ≡ b.terms → a.nodes ≡ b.nodes → a ≡ b
header_parts a b class start bound size terms nodes =
    ap (λ (x : Class). header_with x a.start a.bound a.size a.terms a.nodes) class
    ∙ ap (λ (x : Start). header_with b.class x a.bound a.size a.terms a.nodes) start
    ∙ ap (λ (x : BoundKind). header_with b.class b.start x a.size a.terms a.nodes) bound
    ∙ ap (λ (x : ℕ). header_with b.class b.start b.bound x a.terms a.nodes) size
    ∙ ap (λ (x : ℕ). header_with b.class b.start b.bound b.size x a.nodes) terms
    ∙ ap (λ (x : ℕ). header_with b.class b.start b.bound b.size b.terms x) nodes

abbrev first_words : Header → List (List ℕ)
first_words h = header_front First h.class h.start ++ (depth_words h.size ++ back_words h.terms h.nodes)

abbrev second_words : Header → List (List ℕ)
second_words h = header_front Second h.class h.start ++ (bounded_words h.bound h.size ++ back_words h.terms h.nodes)

not_both_versions : (raw : List ℕ) (a b : Header) → IsHeader raw a → IsHeader raw b → raw ≡ ended (header_line_1 a) → raw ≡ ended (header_line_2 b) → ⊥
not_both_versions raw a b is is_too first second =
    let words : first_words a ≡ second_words b = same_words raw (first_words a) (second_words b) tt tt
    (header_whole First (depth_words a.size) a (depth_whole a.size is.size) is.terms is.nodes)
    (header_whole Second (bounded_words b.bound b.size) b (bounded_whole b.bound b.size is_too.size) is_too.terms is_too.nodes) first second in
    let version : codes "1" ≡ codes "2" = cc in
    let bad : ◌≡◌ {A = ℕ} 49 50 = first_byte (codes "1") (codes "2") version in
    omega arith

same_first : (raw : List ℕ) (a b : Header) → IsHeader raw a → IsHeader raw b → a.bound ≡ Depth → b.bound ≡ Depth → raw ≡ ended (header_line_1 a) → raw ≡ ended (header_line_1 b) → a ≡ b
same_first raw a b is is_too depth depth_too first second =
    let words : first_words a ≡ first_words b = same_words raw (first_words a) (first_words b) tt tt
    (header_whole First (depth_words a.size) a (depth_whole a.size is.size) is.terms is.nodes)
    (header_whole First (depth_words b.size) b (depth_whole b.size is_too.size) is_too.terms is_too.nodes) first second in
    let class : class_word a.class ≡ class_word b.class = cc in
    let start : start_word a.start ≡ start_word b.start = cc in
    let size : decimal a.size ≡ decimal b.size = cc in
    let terms : decimal a.terms ≡ decimal b.terms = cc in
    let nodes : decimal a.nodes ≡ decimal b.nodes = cc in
    header_parts a b (class_same a.class b.class class) (start_same a.start b.start start) (depth ∙ sym depth_too) (decimal_injective a.size b.size is.size is_too.size size)
    (decimal_injective a.terms b.terms is.terms is_too.terms terms) (decimal_injective a.nodes b.nodes is.nodes is_too.nodes nodes)

same_second : (raw : List ℕ) (a b : Header) → IsHeader raw a → IsHeader raw b → raw ≡ ended (header_line_2 a) → raw ≡ ended (header_line_2 b) → a ≡ b
same_second raw a b is is_too first second =
    let words : second_words a ≡ second_words b = same_words raw (second_words a) (second_words b) tt tt
    (header_whole Second (bounded_words a.bound a.size) a (bounded_whole a.bound a.size is.size) is.terms is.nodes)
    (header_whole Second (bounded_words b.bound b.size) b (bounded_whole b.bound b.size is_too.size) is_too.terms is_too.nodes) first second in
    let class : class_word a.class ≡ class_word b.class = cc in
    let start : start_word a.start ≡ start_word b.start = cc in
    let bound : bound_word a.bound ≡ bound_word b.bound = cc in
    let size : decimal a.size ≡ decimal b.size = cc in
    let terms : decimal a.terms ≡ decimal b.terms = cc in
    let nodes : decimal a.nodes ≡ decimal b.nodes = cc in
    header_parts a b (class_same a.class b.class class) (start_same a.start b.start start) (bound_same a.bound b.bound bound) (decimal_injective a.size b.size is.size is_too.size size)
    (decimal_injective a.terms b.terms is.terms is_too.terms terms) (decimal_injective a.nodes b.nodes is.nodes is_too.nodes nodes)

pub same_header : (raw : List ℕ) (a b : Header) → IsHeader raw a → IsHeader raw b → a ≡ b
same_header raw a b is is_too = go is.is is_too.is
  where
    go : (((a.bound ≡ Depth) × (raw ≡ ended (header_line_1 a))) ⊎ (raw ≡ ended (header_line_2 a))) → (((b.bound ≡ Depth) × (raw ≡ ended (header_line_1 b))) ⊎ (raw ≡ ended (header_line_2 b))) → a ≡ b
    go (inl x) (inl y) = same_first raw a b is is_too x.0 y.0 x.1 y.1
    go (inl x) (inr y) = absurd (not_both_versions raw a b is is_too x.1 y)
    go (inr x) (inl y) = absurd (not_both_versions raw b a is_too is y.1 x)
    go (inr x) (inr y) = same_second raw a b is is_too x y

-- ---- term lines

abbrev symbol_with : List ℕ → ℕ → Kind → Symbol
symbol_with text arity kind = record { text = text; arity = arity; kind = kind }

symbol_parts : (s t : Symbol) → s.text ≡ t.text → s.arity ≡ t.arity → s.kind ≡ t.kind → s ≡ t
symbol_parts s t text arity kind =
    ap (λ (x : List ℕ). symbol_with x s.arity s.kind) text ∙ ap (λ (n : ℕ). symbol_with t.text n s.kind) arity ∙ ap (λ (k : Kind). symbol_with t.text t.arity k) kind

-- what is left as it is without quotes is written otherwise
other_text : (text word : List ℕ) → unescaped false word ≡ word → written_word word ≢ word → written_word text ≢ word
other_text text word plain other e =
    let same : text ≡ word = sym (written_same text) ∙ ap (unescaped false) e ∙ plain in
    other (ap written_word (sym same) ∙ e)

mark_quoted : written_word (codes "?") ≢ codes "?"
mark_quoted e = let bad : ◌≡◌ {A = ℕ} 39 63 = first_byte (written_word (codes "?")) (codes "?") e in omega arith

equals_quoted : written_word (codes "=") ≢ codes "="
equals_quoted e = let bad : ◌≡◌ {A = ℕ} 39 61 = first_byte (written_word (codes "=")) (codes "=") e in omega arith

pub no_application : (raw : List ℕ) (symbol : Symbol) (numbers : List ℕ) → raw ≡ ended variable_line → IsApplication raw symbol numbers → ⊥
no_application raw symbol numbers mark is =
    let words : ◌≡◌ {A = List (List ℕ)} (codes "?" ∷ []) (written_symbol symbol ∷ map decimal numbers) = same_words raw (codes "?" ∷ []) (written_symbol symbol ∷ map decimal numbers) tt tt (solid_whole (codes "?") refl, tt) (symbol_whole symbol, decimals_whole numbers is.small) mark is.is in
    let first : codes "?" ≡ written_symbol symbol = cc in
    other_text symbol.text (codes "?") refl mark_quoted (sym (function_word symbol is.function.kind) ∙ sym first)

pub same_application : (raw : List ℕ) (s t : Symbol) (ns ms : List ℕ) → IsApplication raw s ns → IsApplication raw t ms → (s ≡ t) × (ns ≡ ms)
same_application raw s t ns ms is is_too =
    let words : ◌≡◌ {A = List (List ℕ)} (written_symbol s ∷ map decimal ns) (written_symbol t ∷ map decimal ms) = same_words raw (written_symbol s ∷ map decimal ns) (written_symbol t ∷ map decimal ms) tt tt (symbol_whole s, decimals_whole ns is.small) (symbol_whole t, decimals_whole ms is_too.small) is.is is_too.is in
    let first : written_symbol s ≡ written_symbol t = cc in
    let rest : map decimal ns ≡ map decimal ms = cc in
    let numbers : ns ≡ ms = decimals_same ns ms is.small is_too.small rest in
    let text : s.text ≡ t.text = word_injective s.text t.text (sym (function_word s is.function.kind) ∙ first ∙ function_word t is_too.function.kind) in
    (symbol_parts s t text (is.function.count ∙ ap length numbers ∙ sym is_too.function.count) (is.function.kind ∙ sym is_too.function.kind), numbers)

-- ---- the root's line

pub same_root : (raw : List ℕ) (c d : ℕ) → IsRoot raw c → IsRoot raw d → c ≡ d
same_root raw c d is is_too =
    let words : ◌≡◌ {A = List (List ℕ)} (codes "root" ∷ decimal c ∷ []) (codes "root" ∷ decimal d ∷ []) = same_words raw (codes "root" ∷ decimal c ∷ []) (codes "root" ∷ decimal d ∷ []) tt tt (solid_whole (codes "root") refl, (decimal_whole c is.small, tt)) (solid_whole (codes "root") refl, (decimal_whole d is_too.small, tt)) is.is is_too.is in
    let last : decimal c ≡ decimal d = cc in
    decimal_injective c d is.small is_too.small last

-- ---- node lines

sign_same : (a b : Bool) → sign_word a ≡ sign_word b → a ≡ b
sign_same true true e = refl
sign_same false false e = refl
sign_same true false e = let bad : ◌≡◌ {A = ℕ} 43 45 = first_byte (sign_word true) (sign_word false) e in absurd (omega arith)
sign_same false true e = let bad : ◌≡◌ {A = ℕ} 45 43 = first_byte (sign_word false) (sign_word true) e in absurd (omega arith)

word_of_kind : (s : Symbol) (kind : Kind) → s.kind ≡ kind → written_symbol s ≡ written_as kind s.text
word_of_kind s kind is = ap (λ (k : Kind). written_as k s.text) is

predicate_same : (s t : Symbol) (n m : ℕ) → IsPredicate s n → IsPredicate t m → n ≡ m → written_symbol s ≡ written_symbol t → s ≡ t
predicate_same s t n m is is_too count e = go is.kind is_too.kind
  where
    arities : s.arity ≡ t.arity
    arities = is.count ∙ count ∙ sym is_too.count

    go : ((s.kind ≡ Predicate) ⊎ ((s.kind ≡ Equality) × (s.text ≡ codes "="))) → ((t.kind ≡ Predicate) ⊎ ((t.kind ≡ Equality) × (t.text ≡ codes "="))) → s ≡ t
    go (inl p) (inl q) = symbol_parts s t (word_injective s.text t.text (sym (word_of_kind s Predicate p) ∙ e ∙ word_of_kind t Predicate q)) arities (p ∙ sym q)
    go (inl p) (inr q) = absurd (other_text s.text (codes "=") refl equals_quoted (sym (word_of_kind s Predicate p) ∙ e ∙ word_of_kind t Equality q.0))
    go (inr p) (inl q) = absurd (other_text t.text (codes "=") refl equals_quoted (sym (word_of_kind t Predicate q) ∙ sym e ∙ word_of_kind s Equality p.0))
    go (inr p) (inr q) = symbol_parts s t (p.1 ∙ sym q.1) arities (p.0 ∙ sym q.0)

split_same : (xs ys us vs : List (List ℕ)) → length xs ≡ length ys → xs ++ us ≡ ys ++ vs → (xs ≡ ys) × (us ≡ vs)
split_same [] [] us vs count e = (refl, e)
split_same [] (y ∷ ys) us vs count e = absurd (omega arith)
split_same (x ∷ xs) [] us vs count e = absurd (omega arith)
split_same (x ∷ xs) (y ∷ ys) us vs count e =
    let later = split_same xs ys us vs (omega arith) cc in
    let first : x ≡ y = cc in
    (ap (λ (l : List (List ℕ)). x ∷ l) later.0 ∙ ap (λ (z : List ℕ). z ∷ ys) first, later.1)

two_words : (ending : Ending) → length (ending_words ending) ≡ 2
two_words (closed_by depth) = refl
two_words (extended_by clause) = refl

ending_same : (a b : Ending) → IsNumber (ending_number a) → IsNumber (ending_number b) → ending_words a ≡ ending_words b → a ≡ b
ending_same (closed_by m) (closed_by n) small small_too e =
    let last : decimal m ≡ decimal n = cc in ap closed_by (decimal_injective m n small small_too last)
ending_same (extended_by m) (extended_by n) small small_too e =
    let last : decimal m ≡ decimal n = cc in ap extended_by (decimal_injective m n small small_too last)
ending_same (closed_by m) (extended_by n) small small_too e =
    let first : codes "close" ≡ codes "extend" = cc in
    let bad : ◌≡◌ {A = ℕ} 99 101 = first_byte (codes "close") (codes "extend") first in absurd (omega arith)
ending_same (extended_by m) (closed_by n) small small_too e =
    let first : codes "extend" ≡ codes "close" = cc in
    let bad : ◌≡◌ {A = ℕ} 101 99 = first_byte (codes "extend") (codes "close") first in absurd (omega arith)

abbrev node_with : ℕ → Bool → Symbol → List ℕ → Ending → NodeLine
node_with depth positive symbol numbers ending =
    record { depth = depth; positive = positive; symbol = symbol; numbers = numbers; ending = ending }

node_parts : (a b : NodeLine) → a.depth ≡ b.depth → a.positive ≡ b.positive → a.symbol ≡ b.symbol → a.numbers ≡ b.numbers → a.ending ≡ b.ending → a ≡ b
node_parts a b depth positive symbol numbers ending =
    ap (λ (x : ℕ). node_with x a.positive a.symbol a.numbers a.ending) depth
    ∙ ap (λ (x : Bool). node_with b.depth x a.symbol a.numbers a.ending) positive
    ∙ ap (λ (x : Symbol). node_with b.depth b.positive x a.numbers a.ending) symbol
    ∙ ap (λ (x : List ℕ). node_with b.depth b.positive b.symbol x a.ending) numbers
    ∙ ap (λ (x : Ending). node_with b.depth b.positive b.symbol b.numbers x) ending

counts_same : (ns ms : List ℕ) (a b : Ending) → map decimal ns ++ ending_words a ≡ map decimal ms ++ ending_words b → length (map decimal ns) ≡ length (map decimal ms)
counts_same ns ms a b e =
    omega (arith, length-append (map decimal ns) (ending_words a), length-append (map decimal ms) (ending_words b), ap length e, two_words a, two_words b)

abbrev node_words : NodeLine → List (List ℕ)
node_words node =
    front_words node.depth node.positive node.symbol.kind node.symbol.text ++ (map decimal node.numbers ++ ending_words node.ending)

pub same_node : (raw : List ℕ) (a b : NodeLine) → IsNode raw a → IsNode raw b → a ≡ b
same_node raw a b is is_too =
    let words : node_words a ≡ node_words b = same_words raw (node_words a) (node_words b) tt tt (node_whole a is.small_depth is.small_numbers is.small_ending) (node_whole b is_too.small_depth is_too.small_numbers is_too.small_ending) is.is is_too.is in
    let depth : decimal a.depth ≡ decimal b.depth = cc in
    let sign : sign_word a.positive ≡ sign_word b.positive = cc in
    let symbol : written_symbol a.symbol ≡ written_symbol b.symbol = cc in
    let rest : map decimal a.numbers ++ ending_words a.ending ≡ map decimal b.numbers ++ ending_words b.ending = cc in
    let parts = split_same (map decimal a.numbers) (map decimal b.numbers) (ending_words a.ending) (ending_words b.ending) (counts_same a.numbers b.numbers a.ending b.ending rest) rest in
    let numbers : a.numbers ≡ b.numbers = decimals_same a.numbers b.numbers is.small_numbers is_too.small_numbers parts.0 in
    node_parts a b (decimal_injective a.depth b.depth is.small_depth is_too.small_depth depth) (sign_same a.positive b.positive sign)
    (predicate_same a.symbol b.symbol (length a.numbers) (length b.numbers) is.predicate is_too.predicate (ap length numbers) symbol) numbers
    (ending_same a.ending b.ending is.small_ending is_too.small_ending parts.1)
