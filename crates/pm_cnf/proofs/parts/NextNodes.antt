-- The nodes of the next literal, in a slice of nodes.
use Rattle.std.proofs.Common.{◌≡◌, ℕ, zero, suc, ◌+◌, ◌-◌, ◌<◌, ◌≤◌, Bool, true, cond, List, [], ◌∷◌, ◌++◌, length, take, drop, get_or, refl, sym, ap, subst, ◌∙◌, arith}
use Rattle.std.specs.Prelude.{All, map, nat_lt}
use Rattle.std.specs.List.{flat_map, prefix_len}
use Rattle.std.proofs.lemmas.Bool.Decides.{nat_tests}
use Rattle.std.proofs.lemmas.List.{map-append, take-append-drop, length-map, drop-drop, length-drop, take_all, drop_all, length-take-le}
use Rattle.std.proofs.lemmas.List.Elements.{All-head}
use Rattle.pm_logic.specs.declared.symbols.Kind.TheVariants.{Predicate}
use Rattle.pm_logic.specs.declared.problem.Literal.{Literal}
use Rattle.pm_logic.specs.Problem.{Symbol, Numbers, IsPrintable}
use Rattle.pm_logic.specs.Term.{as_terms, tree_at}
use Rattle.pm_logic.specs.View.{literal_of}
use Rattle.pm_logic.proofs.Gathering.{Gathers-one, Gathers-length}
use Rattle.pm_cnf.specs.declared.item.Word.{Word}
use Rattle.pm_cnf.specs.declared.item.Node as code
use Rattle.pm_cnf.specs.declared.item.Node.TheVariants as nodes
use Rattle.pm_cnf.specs.Grammar as grammar
use Rattle.pm_cnf.specs.Grammar.{word_text, Arguments}
use Rattle.pm_cnf.specs.Inside.Draft.{Node, arguments_nodes, literal_nodes}
use Rattle.pm_cnf.specs.Meaning.{AreTreesOf, kept_among}
use Rattle.pm_cnf.specs.Inside.Parsed.{word_of, node_of}
use Rattle.pm_cnf.specs.Inside.Parts.{is_argument, IsArgument, terms_among, Tables, Grows, AreNumbered, ArePrintable}
use Rattle.pm_cnf.proofs.parts.Tabling.{printable-append}
use Rattle.pm_cnf.proofs.parts.LiteralSteps.{LiteralsSoFar, next_arguments, room_so_far, literals_kept, literals_constant, no_literal, all_numbered}

-- the nodes from a place on
abbrev pub from : ℕ → List code.Node → List code.Node
from i ns = take (length ns - i) (drop i ns)

from_is : (i : ℕ) (ns : List code.Node) → from i ns ≡ drop i ns
from_is i ns = take_all (length ns - i) (drop i ns) (omega (arith, length-drop i ns))

take-map : (n : ℕ) (ns : List code.Node) → map node_of (take n ns) ≡ take n (map node_of ns)
take-map zero [] = refl
take-map zero (x ∷ xs) = refl
take-map (suc n) [] = refl
take-map (suc n) (x ∷ xs) = ap (λ l. node_of x ∷ l) (take-map n xs)

drop-map : (n : ℕ) (ns : List code.Node) → map node_of (drop n ns) ≡ drop n (map node_of ns)
drop-map zero [] = refl
drop-map zero (x ∷ xs) = refl
drop-map (suc n) [] = refl
drop-map (suc n) (x ∷ xs) = drop-map n xs

prefix-map : (ns : List code.Node) → prefix_len (λ node. is_argument (node_of node)) ns ≡ prefix_len is_argument (map node_of ns)
prefix-map [] = refl
prefix-map (x ∷ xs) = ap (λ n. cond (is_argument (node_of x)) (1 + n) 0) (prefix-map xs)

drop_first : (i : ℕ) (ns : List code.Node) (d : code.Node) → i < length ns → drop i ns ≡ get_or ns i d ∷ drop (i + 1) ns
drop_first i [] d lt = absurd (omega (arith, lt))
drop_first zero (x ∷ xs) d lt = ap (λ l. x ∷ l) (sym (drop_zero xs))
  where
    drop_zero : (l : List code.Node) → drop 0 l ≡ l
    drop_zero [] = refl
    drop_zero (y ∷ ys) = refl
drop_first (suc i) (x ∷ xs) d lt = drop_first i xs d (omega (arith, lt)) ∙ ap (λ n. get_or xs i d ∷ drop n (x ∷ xs)) next
  where
    next : suc (i + 1) ≡ suc i + 1
    next = omega arith

-- a literal's head stands at this place, and so many nodes of its arguments after it
pub record NextNodes (ns : List code.Node) (i len : ℕ) (head : code.Node) : Type 0 where
  pub after : List Node
  pub rest : map node_of (drop i ns) ≡ node_of head ∷ after
  pub front : map node_of (take len (from (i + 1) ns)) ≡ take (prefix_len is_argument after) after
  pub back : map node_of (drop (i + (1 + len)) ns) ≡ drop (prefix_len is_argument after) after
  pub within : i + (1 + len) ≤ length ns
  pub few : len ≤ length (from (i + 1) ns)

pub next_nodes : (ns : List code.Node) (i len : ℕ) (head : code.Node) → true ≡ nat_lt i (length ns) → head ≡ get_or ns i head → len ≡ prefix_len (λ node. is_argument (node_of node)) (from (i + 1) ns) → len ≤ length (from (i + 1) ns) → NextNodes ns i len head
next_nodes ns i len head test is counted few =
    let lt : i < length ns = grind (arith, nat_tests) in
    let after = map node_of (drop (i + 1) ns) in
    let size : len ≡ prefix_len is_argument after = counted ∙ ap (prefix_len (λ node. is_argument (node_of node))) (from_is (i + 1) ns) ∙ prefix-map (drop (i + 1) ns) in
    let places : i + (1 + len) ≡ i + 1 + len = omega arith in
    record {
      after = after;
      rest = ap (map node_of) (drop_first i ns head lt ∙ ap (λ x. x ∷ drop (i + 1) ns) (sym is));
      front = ap (λ l. map node_of (take len l)) (from_is (i + 1) ns) ∙ take-map len (drop (i + 1) ns) ∙ ap (λ n. take n after) size;
      back = ap (λ n. map node_of (drop n ns)) places ∙ ap (map node_of) (sym (drop-drop len (i + 1) ns)) ∙ drop-map len (drop (i + 1) ns) ∙ ap (λ n. drop n after) size;
      within = omega (arith, lt, few, ap length (from_is (i + 1) ns), length-drop (i + 1) ns);
      few = few;
    }

seen : (start now : Tables) (all : List Node) (ns : List code.Node) (i len : ℕ) (head is : code.Node) (literals : List Literal) → (n : NextNodes ns i len head) → head ≡ is → LiteralsSoFar start all (map node_of (drop i ns)) now literals
    → LiteralsSoFar start all (node_of is ∷ n.after) now literals
seen start now all ns i len head is literals n same so_far =
    subst (λ h. LiteralsSoFar start all (node_of h ∷ n.after) now literals) same (subst (λ l. LiteralsSoFar start all l now literals) n.rest so_far)

-- the nodes that are left are printable
head_printable : (ns : List code.Node) (i len : ℕ) (head : code.Node) → (n : NextNodes ns i len head) → ArePrintable (map node_of ns) → ArePrintable (node_of head ∷ []) × ArePrintable n.after
head_printable ns i len head n all =
    let cut : map node_of ns ≡ map node_of (take i ns) ++ (node_of head ∷ n.after) = ap (map node_of) (sym (take-append-drop i ns)) ∙ map-append node_of (take i ns) (drop i ns) ∙ ap (λ l. map node_of (take i ns) ++ l) n.rest in
    let left = (printable-append (map node_of (take i ns)) (node_of head ∷ n.after) (subst ArePrintable cut all)).1 in
    printable-append (node_of head ∷ []) n.after left

pub predicate_printable : (ns : List code.Node) (i len : ℕ) (head : code.Node) (positive : Bool) (w : Word) (k : ℕ) → NextNodes ns i len head → head ≡ nodes.Predicate positive w k → ArePrintable (map node_of ns) → IsPrintable (word_text (word_of w))
predicate_printable ns i len head positive w k n is all =
    All-head (λ (s : Symbol). IsPrintable s.text) _ [] (subst (λ h. ArePrintable (node_of h ∷ [])) is (head_printable ns i len head n all).0)

pub next_printable : (ns : List code.Node) (i len : ℕ) (head : code.Node) → NextNodes ns i len head → ArePrintable (map node_of ns) → ArePrintable (map node_of (take len (from (i + 1) ns)))
next_printable ns i len head n all =
    let m = prefix_len is_argument n.after in
    subst ArePrintable (sym n.front) (printable-append (take m n.after) (drop m n.after) (subst ArePrintable (sym (take-append-drop m n.after)) (head_printable ns i len head n all).1)).0

pub arguments_there : (start now : Tables) (ns : List code.Node) (i len : ℕ) (head : code.Node) (literals : List Literal) (positive : Bool) (w : Word) (k : ℕ) → NextNodes ns i len head → head ≡ nodes.Predicate positive w k
    → ((given : List grammar.Literal) × (map node_of ns ≡ flat_map literal_nodes given)) → LiteralsSoFar start (map node_of ns) (map node_of (drop i ns)) now literals
    → (args : Arguments) × (map node_of (take len (from (i + 1) ns)) ≡ arguments_nodes args)
arguments_there start now ns i len head literals positive w k n is whole so_far =
    let found = next_arguments start now (map node_of ns) n.after literals positive (word_of w) k whole (seen start now (map node_of ns) ns i len head (nodes.Predicate positive w k) literals n is so_far) in
    (found.0, n.front ∙ found.1)

-- there is room for the symbols that are left
pub room_left : (start now : Tables) (ns : List code.Node) (i : ℕ) (literals : List Literal) → ((given : List grammar.Literal) × (map node_of ns ≡ flat_map literal_nodes given))
    → LiteralsSoFar start (map node_of ns) (map node_of (drop i ns)) now literals → length now.symbols + (length ns - i) ≤ length start.symbols + length ns
room_left start now ns i literals whole so_far =
    omega (arith, room_so_far start now (map node_of ns) (map node_of (drop i ns)) literals whole so_far, length-map ns node_of, length-map (drop i ns) node_of, length-drop i ns)

pub arguments_few : (start now : Tables) (ns : List code.Node) (i len : ℕ) (head : code.Node) (literals : List Literal) (symbols : List Symbol) (s : Symbol) (f most : ℕ) → NextNodes ns i len head → Numbers now.symbols symbols s f
    → ((given : List grammar.Literal) × (map node_of ns ≡ flat_map literal_nodes given)) → LiteralsSoFar start (map node_of ns) (map node_of (drop i ns)) now literals → length start.symbols + length ns ≤ most
    → length symbols + length (take len (from (i + 1) ns)) ≤ most
arguments_few start now ns i len head literals symbols s f most n numbers whole so_far le =
    omega (arith, room_left start now ns i literals whole so_far, Gathers-length (s ∷ []) now.symbols symbols (Gathers-one now.symbols symbols s numbers.grows), length-take-le len (from (i + 1) ns) n.few, n.within, le)

pub kept_step : (start now mid new : Tables) (ns : List code.Node) (i len : ℕ) (head : code.Node) (literals more : List Literal) (positive : Bool) (w : Word) (k f : ℕ) (literal : Literal) → NextNodes ns i len head → head ≡ nodes.Predicate positive w k
    → mid ≡ record { symbols = mid.symbols; terms = now.terms; texts = now.texts } → Numbers now.symbols mid.symbols (record { text = word_text (word_of w); arity = k; kind = Predicate }) f
    → literal.positive ≡ positive → literal.predicate ≡ f → more ≡ literals ++ literal ∷ []
    → Grows mid (map node_of (take len (from (i + 1) ns))) (terms_among (map (tree_at new.terms) literal.args.items)) new
    → ((args : Arguments) → map node_of (take len (from (i + 1) ns)) ≡ arguments_nodes args → AreTreesOf new.symbols new.texts args (as_terms (map (tree_at new.terms) literal.args.items)))
    → All (λ row. row < length new.terms) literal.args.items
    → ((given : List grammar.Literal) × (map node_of ns ≡ flat_map literal_nodes given))
    → LiteralsSoFar start (map node_of ns) (map node_of (drop i ns)) now literals → LiteralsSoFar start (map node_of ns) (map node_of (drop (i + (1 + len)) ns)) new more
kept_step start now mid new ns i len head literals more positive w k f literal n is same numbers sign symbol pushed grows terms rows whole so_far =
    subst (λ l. LiteralsSoFar start (map node_of ns) l new more) (sym n.back)
    (literals_kept start now mid new (map node_of ns) n.after literals more positive (word_of w) k f literal same numbers sign symbol pushed
    (subst (λ l. Grows mid l (terms_among (map (tree_at new.terms) literal.args.items)) new) n.front grows)
    (λ args eq. terms args (n.front ∙ eq)) rows whole (seen start now (map node_of ns) ns i len head (nodes.Predicate positive w k) literals n is so_far))

pub constant_step : (start now : Tables) (ns : List code.Node) (i len : ℕ) (head : code.Node) (literals : List Literal) (positive value : Bool) → NextNodes ns i len head → head ≡ nodes.Constant positive value
    → LiteralsSoFar start (map node_of ns) (map node_of (drop i ns)) now literals → LiteralsSoFar start (map node_of ns) (map node_of (drop (i + (1 + len)) ns)) now literals
constant_step start now ns i len head literals positive value n is so_far =
    subst (λ l. LiteralsSoFar start (map node_of ns) l now literals) (sym n.back)
    (literals_constant start now (map node_of ns) n.after literals positive value (seen start now (map node_of ns) ns i len head (nodes.Constant positive value) literals n is so_far))

pub no_argument_step : (start now : Tables) (ns : List code.Node) (i len : ℕ) (head is : code.Node) (literals : List Literal) → NextNodes ns i len head → head ≡ is → IsArgument (node_of is)
    → ((given : List grammar.Literal) × (map node_of ns ≡ flat_map literal_nodes given)) → LiteralsSoFar start (map node_of ns) (map node_of (drop i ns)) now literals → ⊥
no_argument_step start now ns i len head is literals n same argument whole so_far =
    no_literal start now (map node_of ns) n.after literals (node_of is) argument whole (seen start now (map node_of ns) ns i len head is literals n same so_far)

-- at the end of the nodes all literals were read
pub end_step : (start now : Tables) (ns : List code.Node) (i : ℕ) (literals : List Literal) (given : List grammar.Literal) → length ns ≤ i → map node_of ns ≡ flat_map literal_nodes given
    → LiteralsSoFar start (map node_of ns) (map node_of (drop i ns)) now literals → AreNumbered start (map node_of ns) now (kept_among given) (map (literal_of now.terms) literals)
end_step start now ns i literals given le is so_far =
    all_numbered start now (map node_of ns) literals given is (subst (λ l. LiteralsSoFar start (map node_of ns) l now literals) (ap (map node_of) (drop_all i ns le)) so_far)
