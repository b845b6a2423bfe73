-- A tableau and a report have one certificate.
use Rattle.std.proofs.Common.{◌≡◌, ◌⊎◌, inl, inr, ℕ, ◌+◌, ◌<◌, ◌≤◌, Bool, List, [], ◌∷◌, Some, map, refl, sym, ap, ap₂, subst, ◌∙◌, arith}
use Rattle.std.specs.Prelude.{slice_get}
use Rattle.std.specs.List.{AllZip}
use Rattle.std.proofs.lemmas.Bool.{cases_lt}
use Rattle.std.proofs.lemmas.Option.{slice_get_within}
use Rattle.pm_logic.specs.declared.tableau.NodeKind.{NodeKind}
use Rattle.pm_logic.specs.declared.tableau.NodeKind.TheVariants.{Leaf, Inner}
use Rattle.pm_logic.specs.Lists.{AreDistinct}
use Rattle.pm_logic.specs.Problem.{Symbol, Literal}
use Rattle.pm_logic.specs.Tableau.{Tableau}
use Rattle.pm_logic.specs.Term.{Term, var, app, list_of}
use Rattle.pm_logic.proofs.Gathering.{Gathers-same, Gathers-distinct}
use Rattle.pm_certread.specs.Lines.{Line, text_of, application_line, Ending, closed_by, NodeLine}
use Rattle.pm_cert.specs.Ancestors.{PlacedNode, placed_nodes, IsCloser}
use Rattle.pm_cert.specs.Terms.{terms_in_order, AreListed, ArePlacesOf}
use Rattle.pm_cert.specs.Text.{IsTermLine, IsEndingOf, IsLineOf, document_lines}
use Rattle.pm_cert.specs.Laws.{DocumentsAreDetermined}

none_distinct : AreDistinct {A = Term} []
none_distinct i j i_in j_in same = absurd (omega arith)

pub listed_distinct : (tableau : Tableau) (terms : List Term) → AreListed tableau terms → AreDistinct terms
listed_distinct tableau terms listed = Gathers-distinct (terms_in_order tableau) [] terms none_distinct listed

pub listed_same : (tableau : Tableau) (terms others : List Term) → AreListed tableau terms → AreListed tableau others → terms ≡ others
listed_same tableau terms others listed listed_too = Gathers-same (terms_in_order tableau) [] terms others listed listed_too

-- terms that stand once have one place each
pub same_places : (terms args : List Term) (ns ms : List ℕ) → AreDistinct terms → ArePlacesOf terms args ns → ArePlacesOf terms args ms → ns ≡ ms
same_places terms [] [] [] distinct a b = refl
same_places terms [] (n ∷ ns) ms distinct a b = absurd cc
same_places terms [] [] (m ∷ ms) distinct a b = absurd cc
same_places terms (t ∷ ts) [] ms distinct a b = absurd cc
same_places terms (t ∷ ts) (n ∷ ns) [] distinct a b = absurd cc
same_places terms (t ∷ ts) (n ∷ ns) (m ∷ ms) distinct a b =
    let at_n : slice_get terms n ≡ Some t = cc in
    let at_m : slice_get terms m ≡ Some t = cc in
    let rest_n : map (slice_get terms) ns ≡ map Some ts = cc in
    let rest_m : map (slice_get terms) ms ≡ map Some ts = cc in
    let first : n ≡ m = distinct n m (slice_get_within terms n t at_n) (slice_get_within terms m t at_m) (at_n ∙ sym at_m) in
    let later : ns ≡ ms = same_places terms ts ns ms distinct rest_n rest_m in
    ap₂ (λ (x : ℕ) (xs : List ℕ). x ∷ xs) first later

same_term_line : (symbols : List Symbol) (terms : List Term) (t : Term) (line other : Line) → AreDistinct terms → IsTermLine symbols terms t line → IsTermLine symbols terms t other → line ≡ other
same_term_line symbols terms (var n) line other distinct a b = a ∙ sym b
same_term_line symbols terms (app f args) line other distinct a b =
    let some : Some a.0 ≡ Some b.0 = sym a.2 ∙ b.2 in
    let symbol : a.0 ≡ b.0 = cc in
    a.4 ∙ ap₂ application_line symbol (same_places terms (list_of args) a.1 b.1 distinct a.3 b.3) ∙ sym b.4

-- two closers have one depth
pub same_closer : (above : List Literal) (literal : Literal) (d e : ℕ) → IsCloser above literal d → IsCloser above literal e → d ≡ e
same_closer above literal d e a b = a.is ∙ ap (λ (n : ℕ). n + 1) (by (cases_lt a.place b.place) (cases_lt b.place a.place)) ∙ sym b.is
  where
    by : (a.place < b.place) ⊎ (b.place ≤ a.place) → (b.place < a.place) ⊎ (a.place ≤ b.place) → a.place ≡ b.place
    by (inl lt) y = absurd (b.least a.place lt a.complementary)
    by (inr le) (inl lt) = absurd (a.least b.place lt b.complementary)
    by (inr le) (inr le_too) = omega arith

same_ending : (kind : NodeKind) (above : List Literal) (literal : Literal) (e f : Ending) → IsEndingOf kind above literal e → IsEndingOf kind above literal f → e ≡ f
same_ending Leaf above literal e f a b = a.2 ∙ ap closed_by (same_closer above literal a.0 b.0 a.1 b.1) ∙ sym b.2
same_ending (Inner clause) above literal e f a b = a ∙ sym b

abbrev node_with : ℕ → Bool → Symbol → List ℕ → Ending → NodeLine
node_with depth positive symbol numbers ending =
    record { depth = depth; positive = positive; symbol = symbol; numbers = numbers; ending = ending }

same_node : (symbols : List Symbol) (terms : List Term) (placed : PlacedNode) (n m : NodeLine) → AreDistinct terms → IsLineOf symbols terms placed n → IsLineOf symbols terms placed m → n ≡ m
same_node symbols terms placed n m distinct a b =
    let some : Some n.symbol ≡ Some m.symbol = sym a.symbol ∙ b.symbol in
    let symbol : n.symbol ≡ m.symbol = cc in
    ap (λ (x : ℕ). node_with x n.positive n.symbol n.numbers n.ending) (a.depth ∙ sym b.depth)
    ∙ ap (λ (x : Bool). node_with m.depth x n.symbol n.numbers n.ending) (a.positive ∙ sym b.positive)
    ∙ ap (λ (x : Symbol). node_with m.depth m.positive x n.numbers n.ending) symbol
    ∙ ap (λ (x : List ℕ). node_with m.depth m.positive m.symbol x n.ending) (same_places terms placed.literal.args n.numbers m.numbers distinct a.numbers b.numbers)
    ∙ ap (λ (x : Ending). node_with m.depth m.positive m.symbol m.numbers x) (same_ending placed.kind placed.above placed.literal n.ending m.ending a.ending b.ending)

-- what each of a list has beside it is determined where that of one is
same_beside : {A B : Type 0} (R : A → B → Type 0) → ((x : A) (y z : B) → R x y → R x z → y ≡ z) → (xs : List A) (ys zs : List B) → AllZip R xs ys → AllZip R xs zs → ys ≡ zs
same_beside R one [] [] [] a b = refl
same_beside R one [] (y ∷ ys) zs a b = absurd a
same_beside R one [] [] (z ∷ zs) a b = absurd b
same_beside R one (x ∷ xs) [] zs a b = absurd a
same_beside R one (x ∷ xs) (y ∷ ys) [] a b = absurd b
same_beside R one (x ∷ xs) (y ∷ ys) (z ∷ zs) a b = ap₂ (λ w ws. w ∷ ws) (one x y z a.0 b.0) (same_beside R one xs ys zs a.1 b.1)

pub determined_document : DocumentsAreDetermined
determined_document symbols report tableau text other a b =
    let terms : a.terms ≡ b.terms = listed_same tableau a.terms b.terms a.listed b.listed in
    let distinct : AreDistinct b.terms = listed_distinct tableau b.terms b.listed in
    let a_lines : AllZip (IsTermLine symbols b.terms) b.terms a.term_lines = subst (λ (ts : List Term). AllZip (IsTermLine symbols ts) ts a.term_lines) terms a.lines_of_terms in
    let a_nodes : AllZip (IsLineOf symbols b.terms) (placed_nodes tableau) a.nodes = subst (λ (ts : List Term). AllZip (IsLineOf symbols ts) (placed_nodes tableau) a.nodes) terms a.lines_of_nodes in
    let lines : a.term_lines ≡ b.term_lines =
    same_beside (IsTermLine symbols b.terms) (λ t l m h k. same_term_line symbols b.terms t l m distinct h k) b.terms a.term_lines b.term_lines a_lines b.lines_of_terms in
    let nodes : a.nodes ≡ b.nodes =
    same_beside (IsLineOf symbols b.terms) (λ p n m h k. same_node symbols b.terms p n m distinct h k) (placed_nodes tableau) a.nodes b.nodes a_nodes b.lines_of_nodes in
    a.is ∙ ap text_of
    (ap (λ (ts : List Term). document_lines report tableau ts a.term_lines a.nodes) terms
    ∙ ap₂ (λ (ls : List Line) (ns : List NodeLine). document_lines report tableau b.terms ls ns) lines nodes)
    ∙ sym b.is
