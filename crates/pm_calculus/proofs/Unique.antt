-- The general tableau of a list is unique.
use Rattle.std.proofs.Common.{◌≡◌, ℕ, ◌+◌, ◌<◌, inl, inr, List, [], ◌∷◌, ◌++◌, map, flat_map, refl, sym, ◌∙◌, ap, ap₂, subst, arith}
use Rattle.std.specs.List.{AllZip}
use Rattle.std.proofs.lemmas.List.Concat.{flat_map-append}
use Rattle.std.proofs.lemmas.Bool.{cases_lt}
use Rattle.pm_logic.specs.Term.{Term, var, app, Terms, no_terms, more_terms}
use Rattle.pm_logic.specs.Problem.{Literal}
use Rattle.pm_logic.specs.Tableau.{Node, leaf, inner, Nodes, no_nodes, more_nodes, Tableau, Entry, preorder_of, preorder_among}
use Rattle.pm_logic.specs.Filling.{put}
use Rattle.pm_calculus.proofs.Putting.{put_among}
use Rattle.pm_calculus.specs.Substitution.{put_in_literal, each_below, each_among, IsInstanceOf}
use Rattle.pm_logic.specs.Variables.{variables, variables_among, AreNumberedFrom, IsNumberedInOrder}
use Rattle.pm_calculus.specs.Laws.{GeneralTableauxAreUnique}
use Rattle.pm_calculus.proofs.Zips.{zip_append}

-- the first substitution makes n into m, and the second makes m into n
abbrev Pairs : List Term → List Term → ℕ → ℕ → Type 0
Pairs first second n m = (put first (var n) ≡ var m) × (put second (var m) ≡ var n)

-- the first substitution leaves these variables as they are
abbrev Fixes : List Term → List ℕ → Type 0
Fixes first [] = Unit {0}
Fixes first (n ∷ ns) = (put first (var n) ≡ var n) × Fixes first ns

fixes_parts : (first : List Term) (ns ms : List ℕ) → Fixes first (ns ++ ms) → Fixes first ns × Fixes first ms
fixes_parts first [] ms h = (tt, h)
fixes_parts first (n ∷ ns) ms h = let rest = fixes_parts first ns ms h.1 in ((h.0, rest.0), rest.1)

one_more_below : (first second : List Term) (next : ℕ) → ((k : ℕ) → k < next → Pairs first second k k) → Pairs first second next next
    → (k : ℕ) → k < next + 1 → Pairs first second k k
one_more_below first second next below here k lt =
    elim (cases_lt k next) [
      | inl less ↦ below k less
      | inr le ↦ let same : next ≡ k = omega arith in subst (λ (n : ℕ). Pairs first second n n) same here
    ]

-- where both lists are numbered by first occurrence, nothing is renamed
fixed : (first second : List Term) (next : ℕ) (ns ms : List ℕ) → ((k : ℕ) → k < next → Pairs first second k k) → AllZip (Pairs first second) ns ms
    → AreNumberedFrom next ns → AreNumberedFrom next ms → Fixes first ns
fixed first second next [] ms below z p q = tt
fixed first second next (n ∷ ns) [] below z p q = absurd z
fixed first second next (n ∷ ns) (m ∷ ms) below z (inl p) (inl q) = ((below n p.0).0, fixed first second next ns ms below z.1 p.1 q.1)
fixed first second next (n ∷ ns) (m ∷ ms) below z (inl p) (inr q) =
    let same_var : var n ≡ var m = sym (below n p.0).0 ∙ (z.0).0 in
    let same : n ≡ m = cc in
    absurd (omega arith)
fixed first second next (n ∷ ns) (m ∷ ms) below z (inr p) (inl q) =
    let same_var : var m ≡ var n = sym (below m q.0).1 ∙ (z.0).1 in
    let same : m ≡ n = cc in
    absurd (omega arith)
fixed first second next (n ∷ ns) (m ∷ ms) below z (inr p) (inr q) =
    let pair : Pairs first second next next = (
      subst (λ (k : ℕ). put first (var k) ≡ var next) p.0 (subst (λ (k : ℕ). put first (var n) ≡ var k) q.0 (z.0).0),
      subst (λ (k : ℕ). put second (var k) ≡ var next) q.0 (subst (λ (k : ℕ). put second (var m) ≡ var k) p.0 (z.0).1),
    ) in (
      subst (λ (k : ℕ). put first (var k) ≡ var k) (sym p.0) pair.0,
      fixed first second (next + 1) ns ms (one_more_below first second next below pair) z.1 p.1 q.1,
    )

-- terms, literals and trees that the second substitution brings back
zip_var : (first second : List Term) (n : ℕ) (t : Term) → put first (var n) ≡ t → put second t ≡ var n → AllZip (Pairs first second) (n ∷ []) (variables t)
zip_var first second n (var m) is back = ((is, back), tt)
zip_var first second n (app f ts) is back = cc

mutual
  zip_term : (first second : List Term) (t : Term) → put second (put first t) ≡ t → AllZip (Pairs first second) (variables t) (variables (put first t))
  zip_term first second (var n) back = zip_var first second n (put first (var n)) refl back
  zip_term first second (app f ts) back = let args : put_among second (put_among first ts) ≡ ts = cc in zip_terms first second ts args

  zip_terms : (first second : List Term) (ts : Terms) → put_among second (put_among first ts) ≡ ts
      → AllZip (Pairs first second) (variables_among ts) (variables_among (put_among first ts))
  zip_terms first second no_terms back = tt
  zip_terms first second (more_terms t ts) back =
      let head : put second (put first t) ≡ t = cc in
      let tail : put_among second (put_among first ts) ≡ ts = cc in
      zip_append (Pairs first second) (variables t) (variables (put first t)) (variables_among ts) (variables_among (put_among first ts))
      (zip_term first second t head) (zip_terms first second ts tail)

zip_args : (first second : List Term) (ts : List Term) → map (put second) (map (put first) ts) ≡ ts
    → AllZip (Pairs first second) (flat_map variables ts) (flat_map variables (map (put first) ts))
zip_args first second [] back = tt
zip_args first second (t ∷ ts) back =
    let head : put second (put first t) ≡ t = cc in
    let tail : map (put second) (map (put first) ts) ≡ ts = cc in
    zip_append (Pairs first second) (variables t) (variables (put first t)) (flat_map variables ts) (flat_map variables (map (put first) ts))
    (zip_term first second t head) (zip_args first second ts tail)

abbrev of_entry : Entry → List ℕ
of_entry e = flat_map variables e.literal.args

mutual
  zip_below : (first second : List Term) (d : ℕ) (n : Node) → each_below (put_in_literal second) (each_below (put_in_literal first) n) ≡ n
      → AllZip (Pairs first second) (flat_map of_entry (preorder_of d n)) (flat_map of_entry (preorder_of d (each_below (put_in_literal first) n)))
  zip_below first second d (leaf l) back =
      let own : put_in_literal second (put_in_literal first l) ≡ l = cc in
      zip_append (Pairs first second) (flat_map variables l.args) (flat_map variables (map (put first) l.args)) [] []
      (zip_args first second l.args (ap (λ (k : Literal). k.args) own)) tt
  zip_below first second d (inner l c ns) back =
      let own : put_in_literal second (put_in_literal first l) ≡ l = cc in
      let rest : each_among (put_in_literal second) (each_among (put_in_literal first) ns) ≡ ns = cc in
      zip_append (Pairs first second) (flat_map variables l.args) (flat_map variables (map (put first) l.args))
      (flat_map of_entry (preorder_among (d + 1) ns)) (flat_map of_entry (preorder_among (d + 1) (each_among (put_in_literal first) ns)))
      (zip_args first second l.args (ap (λ (k : Literal). k.args) own)) (zip_among first second (d + 1) ns rest)

  zip_among : (first second : List Term) (d : ℕ) (ns : Nodes) → each_among (put_in_literal second) (each_among (put_in_literal first) ns) ≡ ns
      → AllZip (Pairs first second) (flat_map of_entry (preorder_among d ns)) (flat_map of_entry (preorder_among d (each_among (put_in_literal first) ns)))
  zip_among first second d no_nodes back = tt
  zip_among first second d (more_nodes n ns) back =
      let own : each_below (put_in_literal second) (each_below (put_in_literal first) n) ≡ n = cc in
      let rest : each_among (put_in_literal second) (each_among (put_in_literal first) ns) ≡ ns = cc in
      subst (λ (ks : List ℕ). AllZip (Pairs first second) ks (flat_map of_entry (preorder_of d (each_below (put_in_literal first) n) ++ preorder_among d (each_among (put_in_literal first) ns))))
      (sym (flat_map-append of_entry (preorder_of d n) (preorder_among d ns)))
      (subst (λ (ks : List ℕ). AllZip (Pairs first second) (flat_map of_entry (preorder_of d n) ++ flat_map of_entry (preorder_among d ns)) ks)
      (sym (flat_map-append of_entry (preorder_of d (each_below (put_in_literal first) n)) (preorder_among d (each_among (put_in_literal first) ns))))
      (zip_append (Pairs first second) (flat_map of_entry (preorder_of d n)) (flat_map of_entry (preorder_of d (each_below (put_in_literal first) n)))
      (flat_map of_entry (preorder_among d ns)) (flat_map of_entry (preorder_among d (each_among (put_in_literal first) ns)))
      (zip_below first second d n own) (zip_among first second d ns rest)))

-- what has only fixed variables stays as it is
mutual
  same_term : (first : List Term) (t : Term) → Fixes first (variables t) → put first t ≡ t
  same_term first (var n) h = h.0
  same_term first (app f ts) h = ap (app f) (same_terms first ts h)

  same_terms : (first : List Term) (ts : Terms) → Fixes first (variables_among ts) → put_among first ts ≡ ts
  same_terms first no_terms h = refl
  same_terms first (more_terms t ts) h =
      let parts = fixes_parts first (variables t) (variables_among ts) h in
      ap₂ more_terms (same_term first t parts.0) (same_terms first ts parts.1)

same_args : (first : List Term) (ts : List Term) → Fixes first (flat_map variables ts) → map (put first) ts ≡ ts
same_args first [] h = refl
same_args first (t ∷ ts) h =
    let parts = fixes_parts first (variables t) (flat_map variables ts) h in
    ap₂ (λ u us. u ∷ us) (same_term first t parts.0) (same_args first ts parts.1)

same_literal : (first : List Term) (l : Literal) → Fixes first (flat_map variables l.args) → put_in_literal first l ≡ l
same_literal first l h =
    ap (λ (args : List Term). let k : Literal = record { positive = l.positive; predicate = l.predicate; args = args } in k) (same_args first l.args h)

mutual
  same_below : (first : List Term) (d : ℕ) (n : Node) → Fixes first (flat_map of_entry (preorder_of d n)) → each_below (put_in_literal first) n ≡ n
  same_below first d (leaf l) h = ap leaf (same_literal first l (fixes_parts first (flat_map variables l.args) [] h).0)
  same_below first d (inner l c ns) h =
      let parts = fixes_parts first (flat_map variables l.args) (flat_map of_entry (preorder_among (d + 1) ns)) h in
      ap₂ (λ k ks. inner k c ks) (same_literal first l parts.0) (same_among first (d + 1) ns parts.1)

  same_among : (first : List Term) (d : ℕ) (ns : Nodes) → Fixes first (flat_map of_entry (preorder_among d ns)) → each_among (put_in_literal first) ns ≡ ns
  same_among first d no_nodes h = refl
  same_among first d (more_nodes n ns) h =
      let parts = fixes_parts first (flat_map of_entry (preorder_of d n)) (flat_map of_entry (preorder_among d ns))
      (subst (λ (ks : List ℕ). Fixes first ks) (flat_map-append of_entry (preorder_of d n) (preorder_among d ns)) h) in
      ap₂ more_nodes (same_below first d n parts.0) (same_among first d ns parts.1)

-- two tableaux that are instances of each other, numbered alike, are equal
pub same_numbered : (t u : Tableau) → IsNumberedInOrder t → IsNumberedInOrder u → IsInstanceOf u t → IsInstanceOf t u → t ≡ u
same_numbered t u t_order u_order h k =
    let children : u.children ≡ each_among (put_in_literal h.0) t.children = ap (λ (v : Tableau). v.children) h.1 in
    let back : each_among (put_in_literal k.0) (each_among (put_in_literal h.0) t.children) ≡ t.children = ap (each_among (put_in_literal k.0)) (sym children) ∙ sym (ap (λ (v : Tableau). v.children) k.1) in
    let order : AreNumberedFrom 0 (flat_map of_entry (preorder_among 1 (each_among (put_in_literal h.0) t.children))) =
    subst (λ (ns : Nodes). AreNumberedFrom 0 (flat_map of_entry (preorder_among 1 ns))) children u_order in
    let fixes = fixed h.0 k.0 0 (flat_map of_entry (preorder_among 1 t.children)) (flat_map of_entry (preorder_among 1 (each_among (put_in_literal h.0) t.children)))
    (λ n lt. absurd (omega arith)) (zip_among h.0 k.0 1 t.children back) t_order order in
    sym (h.1 ∙ ap (λ (ns : Nodes). let v : Tableau = record { root = t.root; children = ns } in v) (same_among h.0 1 t.children fixes))

pub general_unique : GeneralTableauxAreUnique
general_unique level choices t u first second =
    same_numbered t u first.numbered second.numbered (first.most u second.labelling) (second.most t first.labelling)
