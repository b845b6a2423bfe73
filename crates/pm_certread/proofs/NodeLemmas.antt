-- The lines of nodes and of the root, and the nodes that they give.
use Rattle.std.proofs.Common.{◌≡◌, ◌∙◌, ◌<◌, ℕ, ◌-◌, Bool, true, false, List, [], ◌∷◌, ◌++◌, length, map, take, drop, Option, Some, None, Bor, Result, Ok, Err, IfOk, codes, decimal, sym, ap, refl, subst, arith, length-append, true≢false}
use Rattle.std.specs.List.{All, Contains}
use Rattle.std.specs.Prelude.{slice_get}
use Rattle.std.proofs.lemmas.Option.{slice_get_within, get_or_from_slice_get}
use Rattle.std.proofs.lemmas.List.{take-map, drop-map, length-map}
use Rattle.std.proofs.Math.Seq.{take-append_seam, drop-append_seam}
use Rattle.pm_logic.specs.declared.symbols.Kind.{Kind}
use Rattle.pm_logic.specs.declared.tableau.NodeKind.{NodeKind}
use Rattle.pm_logic.specs.Term.{Term, tree_at}
use Rattle.pm_logic.specs.Problem.{Symbol}
use Rattle.pm_logic.specs.Tableau.{Entry, deepest_next, deepest_after}
use Rattle.pm_certread.specs.declared.node_line.NodeLine.{NodeLine as CodeLine}
use Rattle.pm_certread.specs.Lines.{Ending, closed_by, extended_by, ending_words, NodeLine, sign_word}
use Rattle.pm_certread.specs.Forms.{IsNumber, IsNode, ending_number}
use Rattle.pm_certread.specs.Reading.{NodeLines, AreThere}
use Rattle.pm_certread.specs.Inside.Cuts.{IsCut, bytes_of}
use Rattle.pm_certread.specs.Inside.Wholes.{AreWhole, IsWhole}
use Rattle.pm_certread.specs.Inside.Terms.{ReadsRoot, IsRootLine}
use Rattle.pm_certread.specs.Inside.Nodes.{AreNode, ReadsNode, IsNodeLine, front_words, line_of, symbol_of}
use Rattle.pm_certread.proofs.WordLemmas.{solid_whole, decimal_whole, symbol_whole, decimals_whole, whole_append}
use Rattle.pm_certread.proofs.FormLemmas.{cut_is, is_cut}

-- ---- the root's line

pub root_line_is : (raw : List ℕ) (words : List (Bor (List ℕ))) (o : Option ℕ) → IsCut raw (Some words) → ReadsRoot (bytes_of words) o → IsRootLine raw o
root_line_is raw words None cut none = λ clause is.
    none clause is.small (is_cut raw words cut (codes "root") (decimal clause ∷ []) (solid_whole (codes "root") refl, (decimal_whole clause is.small, tt)) is.is)
root_line_is raw words (Some clause) cut some = record { small = some.0; is = cut_is raw words cut (codes "root" ∷ decimal clause ∷ []) some.1 }

-- ---- node lines

sign_whole : (positive : Bool) → IsWhole (sign_word positive)
sign_whole true = solid_whole (codes "+") refl
sign_whole false = solid_whole (codes "-") refl

ending_whole : (ending : Ending) → IsNumber (ending_number ending) → AreWhole (ending_words ending)
ending_whole (closed_by depth) small = (solid_whole (codes "close") refl, (decimal_whole depth small, tt))
ending_whole (extended_by clause) small = (solid_whole (codes "extend") refl, (decimal_whole clause small, tt))

pub node_whole : (node : NodeLine) → IsNumber node.depth → All IsNumber node.numbers → IsNumber (ending_number node.ending)
    → AreWhole (front_words node.depth node.positive node.symbol.kind node.symbol.text ++ (map decimal node.numbers ++ ending_words node.ending))
node_whole node small numbers last = (
  decimal_whole node.depth small,
  (
    sign_whole node.positive,
    (
      symbol_whole node.symbol,
      whole_append (map decimal node.numbers) (ending_words node.ending) (decimals_whole node.numbers numbers) (ending_whole node.ending last),
    ),
  ),
)

node_line_is : (raw : List ℕ) (words : List (Bor (List ℕ))) (o : Option CodeLine) → IsCut raw (Some words) → ReadsNode (bytes_of words) o → IsNodeLine raw o
node_line_is raw words None cut none = λ node is.
    none node (record {
      small_depth = is.small_depth;
      named = (is.predicate.text, is.predicate.kind);
      count = is.predicate.count;
      small_numbers = is.small_numbers;
      small_ending = is.small_ending;
      is = is_cut raw words cut _ _ (node_whole node is.small_depth is.small_numbers is.small_ending) is.is;
    })
node_line_is raw words (Some line) cut some = record {
  small_depth = some.small_depth;
  predicate = record { text = some.named.0; count = refl; kind = some.named.1 };
  small_numbers = some.small_numbers;
  small_ending = some.small_ending;
  is = cut_is raw words cut _ some.is;
}

pub node_result : (E : Type 0) (raw : List ℕ) (words : List (Bor (List ℕ))) (r : Result (Option CodeLine) E) → IsCut raw (Some words)
    → IfOk r (ReadsNode (bytes_of words)) → IfOk r (IsNodeLine raw)
node_result E raw words (Ok o) cut h = node_line_is raw words o cut h
node_result E raw words (Err e) cut h = tt

-- the parts that the code cuts the words into
pub record AreParts (words front args ending : List (Bor (List ℕ))) : Type 0 where
  pub front_is : front ≡ take 3 words
  pub args_are : args ≡ take (length (drop 3 words) - 2) (drop 3 words)
  pub ending_is : ending ≡ drop (length (drop 3 words) - 2) (drop 3 words)

pub record ArePartsOf (front args ending : List (Bor (List ℕ))) (node : NodeLine) : Type 0 where
  pub front_is : bytes_of front ≡ front_words node.depth node.positive node.symbol.kind node.symbol.text
  pub args_are : bytes_of args ≡ map decimal node.numbers
  pub ending_is : bytes_of ending ≡ ending_words node.ending

ending_length : (ending : Ending) → length (ending_words ending) ≡ 2
ending_length (closed_by depth) = refl
ending_length (extended_by clause) = refl

behind : (ms es : List (List ℕ)) → length es ≡ 2 → length (ms ++ es) - 2 ≡ length ms
behind ms es two = omega (arith, length-append ms es)

pub parts_of : (words front args ending : List (Bor (List ℕ))) (node : NodeLine) → AreParts words front args ending → AreNode (bytes_of words) node → ArePartsOf front args ending node
parts_of words front args ending node cut are =
    let fs : List (List ℕ) = front_words node.depth node.positive node.symbol.kind node.symbol.text in
    let ms : List (List ℕ) = map decimal node.numbers in
    let es : List (List ℕ) = ending_words node.ending in
    let rest : bytes_of (drop 3 words) ≡ ms ++ es = sym (drop-map (λ (w : Bor (List ℕ)). w.now) 3 words) ∙ ap (drop 3) are.is in
    let count : length (drop 3 words) - 2 ≡ length ms =
    ap (λ (n : ℕ). n - 2) (sym (length-map (drop 3 words) (λ (w : Bor (List ℕ)). w.now)) ∙ ap length rest) ∙ behind ms es (ending_length node.ending) in
    record {
      front_is = ap bytes_of cut.front_is ∙ sym (take-map (λ (w : Bor (List ℕ)). w.now) 3 words) ∙ ap (take 3) are.is;
      args_are =
          ap bytes_of cut.args_are ∙ sym (take-map (λ (w : Bor (List ℕ)). w.now) (length (drop 3 words) - 2) (drop 3 words))
          ∙ ap (take (length (drop 3 words) - 2)) rest ∙ ap (λ (n : ℕ). take n (ms ++ es)) count ∙ take-append_seam ms es;
      ending_is =
          ap bytes_of cut.ending_is ∙ sym (drop-map (λ (w : Bor (List ℕ)). w.now) (length (drop 3 words) - 2) (drop 3 words))
          ∙ ap (drop (length (drop 3 words) - 2)) rest ∙ ap (λ (n : ℕ). drop n (ms ++ es)) count ∙ drop-append_seam ms es;
    }

-- ---- the nodes

abbrev nodes_with : ℕ → List Entry → List ℕ → NodeLines
nodes_with root entries closers = record { root = root; entries = entries; closers = closers }

pub same_nodes : (a b : NodeLines) → a.root ≡ b.root → a.entries ≡ b.entries → a.closers ≡ b.closers → a ≡ b
same_nodes a b root entries closers =
    ap (λ (r : ℕ). nodes_with r a.entries a.closers) root
    ∙ ap (λ (es : List Entry). nodes_with b.root es a.closers) entries
    ∙ ap (λ (ks : List ℕ). nodes_with b.root b.entries ks) closers

deepest_push : (before : List Entry) (e : Entry) → deepest_next (before ++ e ∷ []) ≡ deepest_after e.kind e.depth
deepest_push [] e = refl
deepest_push (d ∷ []) e = refl
deepest_push (d ∷ f ∷ before) e = deepest_push (f ∷ before) e

pub deepest_grows : (before after : List Entry) (e : Entry) → after ≡ before ++ e ∷ [] → deepest_next after ≡ deepest_after e.kind e.depth
deepest_grows before after e grown = ap deepest_next grown ∙ deepest_push before e

abbrev pub entry_with : ℕ → Bool → ℕ → List Term → NodeKind → Entry
entry_with depth positive predicate args kind =
    record { depth = depth; literal = record { positive = positive; predicate = predicate; args = args }; kind = kind }

pub entry_pushed : (before after : List Entry) (depth predicate : ℕ) (positive : Bool) (args terms : List Term) (kind other : NodeKind) → args ≡ terms → kind ≡ other
    → after ≡ before ++ entry_with depth positive predicate args kind ∷ [] → after ≡ before ++ entry_with depth positive predicate terms other ∷ []
entry_pushed before after depth predicate positive args terms kind other same same_kind grown =
    grown
    ∙ ap (λ (ts : List Term). before ++ entry_with depth positive predicate ts kind ∷ []) same
    ∙ ap (λ (k : NodeKind). before ++ entry_with depth positive predicate terms k ∷ []) same_kind

-- ---- what a node's line is refused for

pub some_line : (raw : List ℕ) (o : Option CodeLine) (line : CodeLine) → IsNodeLine raw o → o ≡ Some line → IsNode raw (line_of line)
some_line raw o line h is = subst (IsNodeLine raw) is h

pub are_there : (terms : List Term) (rows numbers found : List ℕ) → found ≡ numbers → All (λ n. n < length rows) found → AreThere (map (tree_at terms) rows) numbers
are_there terms rows numbers found same h =
    subst (λ (count : ℕ). All (λ n. n < count) numbers) (sym (length-map rows (tree_at terms)))
    (subst (All (λ n. n < length rows)) same h)

pub are_below : (terms : List Term) (rows numbers found : List ℕ) → found ≡ numbers → AreThere (map (tree_at terms) rows) numbers → All (λ n. n < length rows) found
are_below terms rows numbers found same h =
    subst (All (λ n. n < length rows)) (sym same)
    (subst (λ (count : ℕ). All (λ n. n < count) numbers) (length-map rows (tree_at terms)) h)

pub has_symbol : (symbols all : List Symbol) (predicate : ℕ) (text bytes : List ℕ) (count arity : ℕ) (kind : Kind) → symbols ≡ all → text ≡ bytes → count ≡ arity
    → slice_get symbols predicate ≡ Some (symbol_of kind text count) → Contains all (symbol_of kind bytes arity)
has_symbol symbols all predicate text bytes count arity kind same same_text same_count there =
    let symbol = symbol_of kind bytes arity in
    let found : slice_get all predicate ≡ Some symbol =
    ap (λ (s : List Symbol). slice_get s predicate) (sym same) ∙ there
    ∙ ap (λ (t : List ℕ). Some (symbol_of kind t count)) same_text ∙ ap (λ (n : ℕ). Some (symbol_of kind bytes n)) same_count in
    (predicate, slice_get_within all predicate symbol found, get_or_from_slice_get all predicate symbol symbol found)

pub no_truth : false ≡ true → ⊥
no_truth e = true≢false (sym e)
