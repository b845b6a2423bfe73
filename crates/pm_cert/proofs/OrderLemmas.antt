-- The order of terms and nodes in a certificate: variables by number, nodes in pre-order.
use Rattle.std.proofs.Common.{◌≡◌, ◌⊎◌, inl, inr, ℕ, ◌+◌, ◌<◌, ◌≤◌, List, [], ◌∷◌, ◌++◌, length, map, refl, sym, ap, ap₂, subst, ◌∙◌, append_assoc, length-append, arith}
use Rattle.std.specs.List.{All, Contains, flat_map}
use Rattle.std.proofs.lemmas.Bool.{cases_lt}
use Rattle.std.proofs.lemmas.List.{append-nil, map-append}
use Rattle.std.proofs.lemmas.List.Elements.{All-nil, All-cons, Contains-append_left, Contains-push, Contains-push_cases}
use Rattle.pm_logic.specs.declared.tableau.NodeKind.TheVariants.{Inner}
use Rattle.pm_logic.specs.Lists.{Gathers}
use Rattle.pm_logic.specs.Problem.{Literal}
use Rattle.pm_logic.specs.Table.{variable_count}
use Rattle.pm_logic.specs.Tableau.{Node, leaf, inner, Nodes, no_nodes, more_nodes, Entry, Tableau, depth, preorder_of, preorder_among, preorder, deepest_after}
use Rattle.pm_logic.specs.Term.{Term, Terms, var, app, no_terms, more_terms, as_terms}
use Rattle.pm_logic.specs.Variables.{variables, variables_among, AreNumberedFrom, IsNumberedInOrder}
use Rattle.pm_logic.proofs.TableLemmas.{variable_count-push}
use Rattle.pm_logic.proofs.Tableaux.{deepest, deepest-preorder}
use Rattle.pm_cert.specs.Ancestors.{PlacedNode, placed_below, placed_among}
use Rattle.pm_cert.specs.Terms.{subterms, subterms_among, terms_in, terms_in_order, AreListed}

-- ---- variables

-- the variables among terms
abbrev pub variables_of : List Term → List ℕ
variables_of [] = []
variables_of (var n ∷ ts) = n ∷ variables_of ts
variables_of (app f args ∷ ts) = variables_of ts

variables_of-append : (ts us : List Term) → variables_of (ts ++ us) ≡ variables_of ts ++ variables_of us
variables_of-append [] us = refl
variables_of-append (var n ∷ ts) us = ap (λ (ns : List ℕ). n ∷ ns) (variables_of-append ts us)
variables_of-append (app f args ∷ ts) us = variables_of-append ts us

mutual
  variables_of-parts : (t : Term) → variables_of (subterms t) ≡ variables t
  variables_of-parts (var n) = refl
  variables_of-parts (app f args) =
      variables_of-append (subterms_among args) (app f args ∷ []) ∙ append-nil (variables_of (subterms_among args)) ∙ variables_of-parts_among args

  variables_of-parts_among : (ts : Terms) → variables_of (subterms_among ts) ≡ variables_among ts
  variables_of-parts_among no_terms = refl
  variables_of-parts_among (more_terms t ts) =
      variables_of-append (subterms t) (subterms_among ts) ∙ ap₂ (λ (a b : List ℕ). a ++ b) (variables_of-parts t) (variables_of-parts_among ts)

variables_of-args : (ts : List Term) → variables_of (subterms_among (as_terms ts)) ≡ flat_map variables ts
variables_of-args [] = refl
variables_of-args (t ∷ ts) =
    variables_of-append (subterms t) (subterms_among (as_terms ts)) ∙ ap₂ (λ (a b : List ℕ). a ++ b) (variables_of-parts t) (variables_of-args ts)

variables_of-entries : (es : List Entry) → variables_of (flat_map (λ (e : Entry). terms_in e.literal) es) ≡ flat_map (λ (e : Entry). flat_map variables e.literal.args) es
variables_of-entries [] = refl
variables_of-entries (e ∷ es) =
    variables_of-append (terms_in e.literal) (flat_map (λ (e : Entry). terms_in e.literal) es)
    ∙ ap₂ (λ (a b : List ℕ). a ++ b) (variables_of-args e.literal.args) (variables_of-entries es)

-- each variable is the next number
abbrev pub AreInTurn : List Term → List Term → Type 0
AreInTurn before [] = Unit {0}
AreInTurn before (var n ∷ ts) = (n ≡ variable_count before) × AreInTurn (before ++ var n ∷ []) ts
AreInTurn before (app f args ∷ ts) = AreInTurn (before ++ app f args ∷ []) ts

in_turn-append : (ts us before : List Term) → AreInTurn before ts → AreInTurn (before ++ ts) us → AreInTurn before (ts ++ us)
in_turn-append [] us before first second = subst (λ (b : List Term). AreInTurn b us) (append-nil before) second
in_turn-append (var n ∷ ts) us before first second =
    (first.0, in_turn-append ts us (before ++ var n ∷ []) first.1 (subst (λ (b : List Term). AreInTurn b us) (sym (append_assoc before (var n ∷ []) ts)) second))
in_turn-append (app f args ∷ ts) us before first second =
    in_turn-append ts us (before ++ app f args ∷ []) first (subst (λ (b : List Term). AreInTurn b us) (sym (append_assoc before (app f args ∷ []) ts)) second)

-- the variables in a list are the first so many, each in its turn
record Turns (old : List Term) : Type 0 where
  pub turn : AreInTurn [] old
  pub all : (n : ℕ) → n < variable_count old → Contains old (var n)
  pub only : (n : ℕ) → Contains old (var n) → n < variable_count old

turns-variable : (old : List Term) → Turns old → Turns (old ++ var (variable_count old) ∷ [])
turns-variable old h =
    let next : ℕ = variable_count old in
    let more : variable_count (old ++ var next ∷ []) ≡ next + 1 = variable_count-push old (var next) in
    record {
      turn = in_turn-append old (var next ∷ []) [] h.turn (refl, tt);
      all = λ n lt. there n (below n (omega (arith, more, lt)));
      only = λ n is. found n more (Contains-push_cases old (var next) (var n) is);
    }
  where
    below : (n : ℕ) → n < variable_count old + 1 → (n < variable_count old) ⊎ (n ≡ variable_count old)
    below n lt = elim (cases_lt n (variable_count old)) [ inl small ↦ inl small | inr large ↦ inr (omega arith) ]

    there : (n : ℕ) → (n < variable_count old) ⊎ (n ≡ variable_count old) → Contains (old ++ var (variable_count old) ∷ []) (var n)
    there n (inl lt) = Contains-append_left old (var (variable_count old) ∷ []) (var n) (h.all n lt)
    there n (inr same) = subst (λ (m : ℕ). Contains (old ++ var (variable_count old) ∷ []) (var m)) (sym same) (Contains-push old (var (variable_count old)))

    found : (n : ℕ) → variable_count (old ++ var (variable_count old) ∷ []) ≡ variable_count old + 1 → Contains old (var n) ⊎ (var (variable_count old) ≡ var n) → n < variable_count (old ++ var (variable_count old) ∷ [])
    found n more (inl is) = let lt = h.only n is in omega (arith, more, lt)
    found n more (inr same) = let number : variable_count old ≡ n = cc in omega (arith, more, number)

turns-application : (old : List Term) (f : ℕ) (args : Terms) → Turns old → Turns (old ++ app f args ∷ [])
turns-application old f args h =
    let same : variable_count (old ++ app f args ∷ []) ≡ variable_count old = variable_count-push old (app f args) ∙ no_more (variable_count old) in
    record {
      turn = in_turn-append old (app f args ∷ []) [] h.turn tt;
      all = λ n lt. Contains-append_left old (app f args ∷ []) (var n) (h.all n (omega (arith, same, lt)));
      only = λ n is. found n same (Contains-push_cases old (app f args) (var n) is);
    }
  where
    no_more : (n : ℕ) → n + 0 ≡ n
    no_more n = omega arith

    found : (n : ℕ) → variable_count (old ++ app f args ∷ []) ≡ variable_count old → Contains old (var n) ⊎ (app f args ≡ var n) → n < variable_count (old ++ app f args ∷ [])
    found n same (inl is) = let lt = h.only n is in omega (arith, same, lt)
    found n same (inr other) = absurd cc

gathered-turns : (ts old new : List Term) → Turns old → AreNumberedFrom (variable_count old) (variables_of ts) → Gathers old ts new → Turns new
gathered-turns [] old new h numbered gathers = subst Turns gathers h
gathered-turns (var n ∷ ts) old new h (inl numbered) (inl gathers) = gathered-turns ts old new h numbered.1 gathers.1
gathered-turns (var n ∷ ts) old new h (inr numbered) (inl gathers) = absurd (let lt = h.only n gathers.0 in omega (arith, numbered.0, lt))
gathered-turns (var n ∷ ts) old new h (inl numbered) (inr gathers) = absurd (gathers.0 (h.all n numbered.0))
gathered-turns (var n ∷ ts) old new h (inr numbered) (inr gathers) =
    let is : variable_count old ≡ n = sym numbered.0 in
    let grown : Turns (old ++ var n ∷ []) = subst (λ (m : ℕ). Turns (old ++ var m ∷ [])) is (turns-variable old h) in
    gathered-turns ts (old ++ var n ∷ []) new grown
    (subst (λ (m : ℕ). AreNumberedFrom m (variables_of ts)) (sym (variable_count-push old (var n))) numbered.1) gathers.1
gathered-turns (app f args ∷ ts) old new h numbered (inl gathers) = gathered-turns ts old new h numbered gathers.1
gathered-turns (app f args ∷ ts) old new h numbered (inr gathers) =
    gathered-turns ts (old ++ app f args ∷ []) new (turns-application old f args h)
    (subst (λ (m : ℕ). AreNumberedFrom m (variables_of ts)) (sym (variable_count-push old (app f args) ∙ no_more (variable_count old))) numbered) gathers.1
  where
    no_more : (n : ℕ) → n + 0 ≡ n
    no_more n = omega arith

pub listed-in_turn : (tableau : Tableau) (terms : List Term) → IsNumberedInOrder tableau → AreListed tableau terms → AreInTurn [] terms
listed-in_turn tableau terms numbered listed =
    (gathered-turns (terms_in_order tableau) [] terms none (subst (AreNumberedFrom 0) (sym (variables_of-entries (preorder tableau))) numbered) listed).turn
  where
    none : Turns []
    none = record { turn = tt; all = λ n lt. absurd (omega arith); only = λ n is. absurd (omega (arith, is.1)) }

-- ---- nodes

-- each node may come after those before it, the first of which may lie so deep
abbrev pub AreNested : ℕ → List Entry → Type 0
AreNested bound [] = Unit {0}
AreNested bound (e ∷ es) = (1 ≤ e.depth) × (e.depth ≤ bound) × AreNested (deepest_after e.kind e.depth) es

mutual
  nested_below : (bound d : ℕ) (node : Node) (rest : List Entry) → 1 ≤ d → d ≤ bound → ((b : ℕ) → d ≤ b → AreNested b rest) → AreNested bound (preorder_of d node ++ rest)
  nested_below bound d (leaf literal) rest positive low later = (positive, low, later d (omega arith))
  nested_below bound d (inner literal clause children) rest positive low later =
      (positive, low, nested_among (d + 1) (d + 1) children rest (omega arith) (omega arith) (λ b le. later b (omega arith)))

  nested_among : (bound d : ℕ) (nodes : Nodes) (rest : List Entry) → 1 ≤ d → d ≤ bound → ((b : ℕ) → d ≤ b → AreNested b rest) → AreNested bound (preorder_among d nodes ++ rest)
  nested_among bound d no_nodes rest positive low later = later bound low
  nested_among bound d (more_nodes node nodes) rest positive low later =
      subst (AreNested bound) (sym (append_assoc (preorder_of d node) (preorder_among d nodes) rest))
      (nested_below bound d node (preorder_among d nodes ++ rest) positive low (λ b le. nested_among b d nodes rest positive le later))

pub nested_nodes : (tableau : Tableau) → AreNested 1 (preorder tableau)
nested_nodes tableau = subst (AreNested 1) (append-nil (preorder tableau)) (nested_among 1 1 tableau.children [] (omega arith) (omega arith) (λ b le. tt))

-- no node lies deeper than the tableau
deep_below : (es : List Entry) (most : ℕ) → deepest es ≤ most → All (λ e. e.depth ≤ most) es
deep_below [] most le = All-nil (λ (e : Entry). e.depth ≤ most)
deep_below (e ∷ es) most le =
    let own : e.depth ≤ most = omega arith in
    let rest : deepest es ≤ most = omega arith in
    All-cons (λ (e : Entry). e.depth ≤ most) e es own (deep_below es most rest)

pub shallow_nodes : (tableau : Tableau) (most : ℕ) → depth tableau ≤ most → All (λ e. e.depth ≤ most) (preorder tableau)
shallow_nodes tableau most le = deep_below (preorder tableau) most (omega (arith, deepest-preorder tableau))

-- nodes with their ancestors are the entries of the tableau
abbrev pub entry_at : PlacedNode → Entry
entry_at placed = record { depth = length placed.above + 1; literal = placed.literal; kind = placed.kind }

mutual
  entries_below : (above : List Literal) (node : Node) → map entry_at (placed_below above node) ≡ preorder_of (length above + 1) node
  entries_below above (leaf literal) = refl
  entries_below above (inner literal clause children) =
      ap (λ (es : List Entry). record { depth = length above + 1; literal = literal; kind = Inner clause } ∷ es)
      (entries_among (above ++ literal ∷ []) children ∙ ap (λ (n : ℕ). preorder_among (n + 1) children) (length-append above (literal ∷ [])))

  pub entries_among : (above : List Literal) (nodes : Nodes) → map entry_at (placed_among above nodes) ≡ preorder_among (length above + 1) nodes
  entries_among above no_nodes = refl
  entries_among above (more_nodes node nodes) =
      map-append entry_at (placed_below above node) (placed_among above nodes)
      ∙ ap₂ (λ (es fs : List Entry). es ++ fs) (entries_below above node) (entries_among above nodes)
