-- Printed lines have no LF, so that a text of lines is cut into them again.
use Rattle.std.proofs.Common.{◌≡◌, ◌∙◌, ℕ, ◌+◌, ◌%◌, ◌<◌, ◌≤◌, ◌==◌, ◌&&◌, ◌||◌, not, Bool, true, false, cond, List, [], ◌∷◌, ◌++◌, map, refl, sym, ap, arith, codes, decimal, true≢false, rules, tests}
use Rattle.std.specs.List.{All, list_all, flat_map, onto_first}
use Rattle.std.proofs.lemmas.List.Folds.{list_all-append}
use Rattle.std.proofs.lemmas.List.Elements.{All-head, All-tail}
use Rattle.std.proofs.lemmas.Fmt.{decimal_by_steps}
use Rattle.pm_logic.specs.declared.problem.Class.{Class}
use Rattle.pm_logic.specs.declared.problem.Class.TheVariants.{Plain, Regular}
use Rattle.pm_logic.specs.declared.problem.Start.{Start}
use Rattle.pm_logic.specs.declared.problem.Start.TheVariants.{Negative, All as Every, Goal}
use Rattle.pm_logic.specs.declared.tableau.BoundKind.{BoundKind}
use Rattle.pm_logic.specs.declared.tableau.BoundKind.TheVariants.{Depth, Inferences}
use Rattle.pm_logic.specs.declared.symbols.Kind.{Kind}
use Rattle.pm_logic.specs.declared.symbols.Kind.TheVariants as kinds
use Rattle.pm_logic.specs.Problem.{Symbol, IsPrintable}
use Rattle.pm_logic.specs.Word.{is_word_byte, is_lower_word, escaped, quoted, written_word, written_as, written_symbol}
use Rattle.pm_certread.specs.Forms.{IsNumber}
use Rattle.pm_certread.specs.Lines.{Line, ended, text_of, cut_lines, spaced, level_line, proof_line, class_word, start_word, bound_word, Header, application_line, root_line, sign_word, Ending, closed_by, extended_by, ending_words, NodeLine, node_line}
use Rattle.pm_certread.specs.Forms.{ending_number}
use Rattle.pm_certread.proofs.WordLemmas.{all_impl, all_words}
use Rattle.pm_cert.specs.Text.{header_line}

-- no LF
abbrev pub is_inside : ℕ → Bool
is_inside byte = not (byte == 10)

abbrev pub HasNoEnd : List ℕ → Type 0
HasNoEnd line = list_all is_inside line ≡ true

abbrev pub HaveNoEnds : List (List ℕ) → Type 0
HaveNoEnds [] = Unit {0}
HaveNoEnds (line ∷ lines) = HasNoEnd line × HaveNoEnds lines

pub no_ends-append : (xs ys : List (List ℕ)) → HaveNoEnds xs → HaveNoEnds ys → HaveNoEnds (xs ++ ys)
no_ends-append [] ys h g = g
no_ends-append (x ∷ xs) ys h g = (h.0, no_ends-append xs ys h.1 g)

pub no_end-append : (xs ys : List ℕ) → HasNoEnd xs → HasNoEnd ys → HasNoEnd (xs ++ ys)
no_end-append xs ys hx hy = list_all-append is_inside xs ys ∙ rw hx hy

-- ---- cutting

cut_one : (line rest : List ℕ) → HasNoEnd line → cut_lines (line ++ 10 ∷ rest) ≡ ended line ∷ cut_lines rest
cut_one [] rest h = refl
cut_one (b ∷ line) rest h = go (b == 10) refl (cut_one line rest) h
  where
    go : (p : Bool) → (b == 10) ≡ p → (HasNoEnd line → cut_lines (line ++ 10 ∷ rest) ≡ ended line ∷ cut_lines rest) → (not p && list_all is_inside line) ≡ true
        → cond p ((10 ∷ []) ∷ cut_lines (line ++ 10 ∷ rest)) (onto_first b (cut_lines (line ++ 10 ∷ rest))) ≡ (b ∷ ended line) ∷ cut_lines rest
    go true is later e = absurd (true≢false (sym e))
    go false is later e = ap (onto_first b) (later e)

pub cut_text : (lines : List Line) → HaveNoEnds lines → cut_lines (text_of lines) ≡ map ended lines
cut_text [] h = refl
cut_text (line ∷ lines) h = cut_one line (text_of lines) h.0 ∙ ap (λ (ls : List (List ℕ)). ended line ∷ ls) (cut_text lines h.1)

-- ---- words

digit_inside : (d : ℕ) → d < 10 → is_inside (48 + d) ≡ true
digit_inside d small = search (rules, tests)

pub decimal_inside : (n : ℕ) → IsNumber n → HasNoEnd (decimal n)
decimal_inside = decimal_by_steps (λ n ds. list_all is_inside ds ≡ true)
    (λ n small. rw (digit_inside n small) refl)
    (λ n ds large h. no_end-append ds _ h (rw (digit_inside (n % 10) (omega arith)) refl))

pub decimals_inside : (ns : List ℕ) → All IsNumber ns → HaveNoEnds (map decimal ns)
decimals_inside [] small = tt
decimals_inside (n ∷ ns) small = (decimal_inside n (All-head IsNumber n ns small), decimals_inside ns (All-tail IsNumber n ns small))

byte_inside : (b : ℕ) → 32 ≤ b → is_inside b ≡ true
byte_inside b le = search (rules, tests)

word_inside : (b : ℕ) → is_word_byte b ≡ true → is_inside b ≡ true
word_inside b h = search (rules, tests)

escaped_inside : (text : List ℕ) → All (λ b. (32 ≤ b) × (b ≤ 126)) text → HasNoEnd (flat_map escaped text)
escaped_inside [] all = refl
escaped_inside (b ∷ text) all =
    no_end-append (escaped b) (flat_map escaped text) (go ((b == 39) || (b == 92)) (byte_inside b (All-head (λ b. (32 ≤ b) × (b ≤ 126)) b text all).0))
    (escaped_inside text (All-tail (λ b. (32 ≤ b) × (b ≤ 126)) b text all))
  where
    go : (p : Bool) → is_inside b ≡ true → HasNoEnd (cond p (92 ∷ b ∷ []) (b ∷ []))
    go true h = rw h refl
    go false h = rw h refl

written_inside : (text : List ℕ) → IsPrintable text → HasNoEnd (written_word text)
written_inside text printable = go (is_lower_word text) refl
  where
    go : (p : Bool) → is_lower_word text ≡ p → HasNoEnd (cond p text (quoted text))
    go true is = all_impl is_word_byte is_inside text word_inside (all_words text is)
    go false is = no_end-append (flat_map escaped text) (39 ∷ []) (escaped_inside text printable.1) refl

pub symbol_inside : (s : Symbol) → IsPrintable s.text → HasNoEnd (written_symbol s)
symbol_inside s printable = go s.kind
  where
    go : (kind : Kind) → HasNoEnd (written_as kind s.text)
    go kinds.Predicate = written_inside s.text printable
    go kinds.Function = written_inside s.text printable
    go kinds.Equality = refl

pub spaced_inside : (words : List (List ℕ)) → HaveNoEnds words → HasNoEnd (spaced words)
spaced_inside [] h = refl
spaced_inside (w ∷ []) h = h.0
spaced_inside (w ∷ v ∷ ws) h = no_end-append w (32 ∷ spaced (v ∷ ws)) h.0 (spaced_inside (v ∷ ws) h.1)

-- ---- lines

pub level_inside : (level work : ℕ) → IsNumber level → IsNumber work → HasNoEnd (level_line level work)
level_inside level work small small_too =
    no_end-append (decimal level) (codes " exhausted attempts " ++ decimal work) (decimal_inside level small) (decimal_inside work small_too)

pub proof_inside : (level work : ℕ) → IsNumber level → IsNumber work → HasNoEnd (proof_line level work)
proof_inside level work small small_too =
    no_end-append (decimal level) (codes " proof attempts " ++ decimal work) (decimal_inside level small) (decimal_inside work small_too)

class_inside : (class : Class) → HasNoEnd (class_word class)
class_inside Plain = refl
class_inside Regular = refl

start_inside : (start : Start) → HasNoEnd (start_word start)
start_inside Negative = refl
start_inside Every = refl
start_inside Goal = refl

bound_inside : (bound : BoundKind) → HasNoEnd (bound_word bound)
bound_inside Depth = refl
bound_inside Inferences = refl

pub header_inside : (bound : BoundKind) (h : Header) → IsNumber h.size → IsNumber h.terms → IsNumber h.nodes → HasNoEnd (header_line bound h)
header_inside Depth h size terms nodes =
    spaced_inside
    (codes "parmel" ∷ codes "1" ∷ codes "class" ∷ class_word h.class ∷ codes "start" ∷ start_word h.start ∷ codes "depth" ∷ decimal h.size ∷ codes "terms" ∷ decimal h.terms ∷ codes "nodes" ∷ decimal h.nodes ∷ [])
    (refl, (refl, (refl, (class_inside h.class, (refl, (start_inside h.start, (refl, (decimal_inside h.size size, (refl, (decimal_inside h.terms terms, (refl, (decimal_inside h.nodes nodes, tt))))))))))))
header_inside Inferences h size terms nodes =
    spaced_inside
    (codes "parmel" ∷ codes "2" ∷ codes "class" ∷ class_word h.class ∷ codes "start" ∷ start_word h.start ∷ codes "bound" ∷ bound_word h.bound ∷ codes "size" ∷ decimal h.size ∷ codes "terms" ∷ decimal h.terms ∷ codes "nodes" ∷ decimal h.nodes ∷ [])
    (refl, (refl, (refl, (class_inside h.class, (refl, (start_inside h.start, (refl, (bound_inside h.bound, (refl, (decimal_inside h.size size, (refl, (decimal_inside h.terms terms, (refl, (decimal_inside h.nodes nodes, tt))))))))))))))

pub application_inside : (symbol : Symbol) (numbers : List ℕ) → IsPrintable symbol.text → All IsNumber numbers → HasNoEnd (application_line symbol numbers)
application_inside symbol numbers printable small =
    spaced_inside (written_symbol symbol ∷ map decimal numbers) (symbol_inside symbol printable, decimals_inside numbers small)

pub root_inside : (clause : ℕ) → IsNumber clause → HasNoEnd (root_line clause)
root_inside clause small = spaced_inside (codes "root" ∷ decimal clause ∷ []) (refl, (decimal_inside clause small, tt))

sign_inside : (positive : Bool) → HasNoEnd (sign_word positive)
sign_inside true = refl
sign_inside false = refl

ending_inside : (ending : Ending) → IsNumber (ending_number ending) → HaveNoEnds (ending_words ending)
ending_inside (closed_by depth) small = (refl, (decimal_inside depth small, tt))
ending_inside (extended_by clause) small = (refl, (decimal_inside clause small, tt))

pub node_inside : (node : NodeLine) → IsNumber node.depth → IsPrintable node.symbol.text → All IsNumber node.numbers → IsNumber (ending_number node.ending) → HasNoEnd (node_line node)
node_inside node deep printable small ending =
    spaced_inside (decimal node.depth ∷ sign_word node.positive ∷ written_symbol node.symbol ∷ (map decimal node.numbers ++ ending_words node.ending)) (
      decimal_inside node.depth deep,
      (
        sign_inside node.positive,
        (
          symbol_inside node.symbol printable,
          no_ends-append (map decimal node.numbers) (ending_words node.ending) (decimals_inside node.numbers small) (ending_inside node.ending ending),
        ),
      ),
    )
