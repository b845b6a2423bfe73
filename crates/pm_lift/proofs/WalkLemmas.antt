-- The walk over the nodes in pre-order gives the list that is read off the tree.
use Rattle.std.proofs.Common.{◌≡◌, ℕ, zero, suc, ◌+◌, ◌-◌, ◌<◌, ◌≤◌, ◌⊎◌, inl, inr, Bool, true, false, cond, ◌==◌, List, [], ◌∷◌, ◌++◌, length, take, Option, Some, None, refl, sym, ◌∙◌, ap, ap₂, subst, arith, append_assoc, eq-eqb}
use Rattle.std.proofs.lemmas.Bool.{ne_eqb}
use Rattle.std.proofs.lemmas.List.{append-nil, length_push}
use Rattle.pm_logic.specs.declared.tableau.NodeKind.TheVariants.{Leaf, Inner}
use Rattle.pm_logic.specs.Problem.{Literal, Clause}
use Rattle.pm_logic.specs.Tableau.{Node, leaf, inner, Nodes, no_nodes, more_nodes, Tableau, Entry, preorder_of, preorder_among, preorder}
use Rattle.pm_calculus.specs.Connection.{HasComplementaryLeaf, IsConnectedBelow, AreConnectedBelow}
use Rattle.pm_lift.specs.Inside.Complements.{complements}
use Rattle.pm_lift.specs.Inside.Tree.{is_closing, closing_place, reduction_choice, extension_choice, choices_below, choices_among}
use Rattle.pm_lift.proofs.ComplementLemmas.{complements_complete}
use Rattle.pm_lift.specs.Inside.Walk.{Ancestor, literals_of, waiting, answered, closing_at, after_inner, added_by, branch_after, walk}

-- the first nodes of a branch
pub take_whole : {A : Type 0} (xs : List A) → take (length xs) xs ≡ xs
take_whole [] = refl
take_whole (x ∷ xs) = ap (λ ys. x ∷ ys) (take_whole xs)

take_less : {A : Type 0} (k n : ℕ) (xs : List A) → k ≤ n → take k (take n xs) ≡ take k xs
take_less zero n xs le = refl
take_less (suc k) zero xs le = absurd (omega (arith, le))
take_less (suc k) (suc n) [] le = refl
take_less (suc k) (suc n) (x ∷ xs) le = ap (λ ys. x ∷ ys) (take_less k n xs (omega (arith, le)))

take_shorter : {A : Type 0} (k n : ℕ) (xs ys : List A) → k ≤ n → take n xs ≡ ys → take k xs ≡ take k ys
take_shorter k n xs ys le is = sym (take_less k n xs le) ∙ ap (take k) is

take_first : {A : Type 0} (xs : List A) (y : A) → take (length xs) (xs ++ y ∷ []) ≡ xs
take_first [] y = refl
take_first (x ∷ xs) y = ap (λ ys. x ∷ ys) (take_first xs y)

pub waiting_pushed : (branch : List Ancestor) (l : Literal) → waiting (after_inner branch l) ≡ Some l
waiting_pushed [] l = refl
waiting_pushed (a ∷ []) l = refl
waiting_pushed (a ∷ b ∷ bs) l = waiting_pushed (b ∷ bs) l

literals_pushed : (branch : List Ancestor) (l : Literal) → literals_of (after_inner branch l) ≡ literals_of branch ++ l ∷ []
literals_pushed [] l = refl
literals_pushed (a ∷ bs) l = ap (λ ls. a.literal ∷ ls) (literals_pushed bs l)

-- the branch whose last node no longer waits
waiting_answered : (branch : List Ancestor) → waiting (answered branch) ≡ None
waiting_answered [] = refl
waiting_answered (a ∷ []) = refl
waiting_answered (a ∷ b ∷ []) = refl
waiting_answered (a ∷ b ∷ c ∷ cs) = waiting_answered (b ∷ c ∷ cs)

literals_answered : (branch : List Ancestor) → literals_of (answered branch) ≡ literals_of branch
literals_answered [] = refl
literals_answered (a ∷ []) = refl
literals_answered (a ∷ b ∷ bs) = ap (λ ls. a.literal ∷ ls) (literals_answered (b ∷ bs))

length_answered : (branch : List Ancestor) → length (answered branch) ≡ length branch
length_answered [] = refl
length_answered (a ∷ []) = refl
length_answered (a ∷ b ∷ bs) = ap suc (length_answered (b ∷ bs))

take_answered : (branch : List Ancestor) → take (length branch - 1) (answered branch) ≡ take (length branch - 1) branch
take_answered [] = refl
take_answered (a ∷ []) = refl
take_answered (a ∷ b ∷ bs) =
    let one : length (a ∷ b ∷ bs) - 1 ≡ suc (length (b ∷ bs) - 1) = omega arith in
    ap (λ n. take n (a ∷ answered (b ∷ bs))) one
    ∙ ap (λ cs. a ∷ cs) (take_answered (b ∷ bs))
    ∙ sym (ap (λ n. take n (a ∷ b ∷ bs)) one)

-- what is deeper doesn't matter
mutual
  skip_below : (l : Literal) (d e : ℕ) (n : Node) (rest : List Entry) → d < e → closing_at l d (preorder_of e n ++ rest) ≡ closing_at l d rest
  skip_below l d e (leaf m) rest lt =
      let differs : (e == d) ≡ false = ne_eqb e d (λ is. omega (arith, is, lt)) in
      ap (λ b. cond b (cond (complements m l) zero (suc (closing_at l d rest))) (closing_at l d rest)) differs
  skip_below l d e (inner m c ns) rest lt =
      let differs : (e == d) ≡ false = ne_eqb e d (λ is. omega (arith, is, lt)) in
      ap (λ b. cond b (suc (closing_at l d (preorder_among (e + 1) ns ++ rest))) (closing_at l d (preorder_among (e + 1) ns ++ rest))) differs
      ∙ skip_among l d (e + 1) ns rest (omega (arith, lt))

  skip_among : (l : Literal) (d e : ℕ) (ns : Nodes) (rest : List Entry) → d < e → closing_at l d (preorder_among e ns ++ rest) ≡ closing_at l d rest
  skip_among l d e no_nodes rest lt = refl
  skip_among l d e (more_nodes n ns) rest lt =
      ap (closing_at l d) (append_assoc (preorder_of e n) (preorder_among e ns) rest)
      ∙ skip_below l d e n (preorder_among e ns ++ rest) lt
      ∙ skip_among l d e ns rest lt

-- the first leaf that closes by a node is found among the nodes after it
closing_found : (l : Literal) (d : ℕ) (ns : Nodes) (rest : List Entry) → HasComplementaryLeaf l ns → closing_at l d (preorder_among d ns ++ rest) ≡ closing_place l ns
closing_found l d no_nodes rest h = absurd h
closing_found l d (more_nodes (leaf m) ns) rest h =
    let same : (d == d) ≡ true = eq-eqb d d refl in
    ap (λ b. cond b (cond (complements m l) zero (suc (closing_at l d (preorder_among d ns ++ rest)))) (closing_at l d (preorder_among d ns ++ rest))) same
    ∙ by (complements m l) refl (elim h [ inl c ↦ inl (complements_complete m l c) | inr k ↦ inr (closing_found l d ns rest k) ])
  where
    by : (b : Bool) → complements m l ≡ b → (complements m l ≡ true) ⊎ (closing_at l d (preorder_among d ns ++ rest) ≡ closing_place l ns)
        → cond b zero (suc (closing_at l d (preorder_among d ns ++ rest))) ≡ cond b zero (suc (closing_place l ns))
    by true is h = refl
    by false is (inl h) = let never : true ≡ false = sym h ∙ is in cc
    by false is (inr h) = ap suc h
closing_found l d (more_nodes (inner m c cs) ns) rest h =
    let same : (d == d) ≡ true = eq-eqb d d refl in
    let deep = preorder_among (d + 1) cs in
    let others = preorder_among d ns in
    ap (λ b. cond b (suc (closing_at l d ((deep ++ others) ++ rest))) (closing_at l d ((deep ++ others) ++ rest))) same
    ∙ ap (λ es. suc (closing_at l d es)) (append_assoc deep others rest)
    ∙ ap suc (skip_among l d (d + 1) cs (others ++ rest) (omega arith))
    ∙ ap suc (closing_found l d ns rest h)

-- a walk over these nodes gives these choices, and leaves a branch that begins as the one above the nodes
record Walks (clauses : List Clause) (branch : List Ancestor) (es rest : List Entry) (choices : List ℕ) (above : List Ancestor) (kept : ℕ) : Type 0 where
  after : List Ancestor
  same : take kept after ≡ take kept above
  gives : walk clauses branch (es ++ rest) ≡ choices ++ walk clauses after rest

inner_open : (o : Option Literal) (l : Literal) (c : ℕ) (ns : Nodes) → is_closing o (inner l c ns) ≡ false
inner_open None l c ns = refl
inner_open (Some k) l c ns = refl

-- the nodes of a tree after one of which the first isn't closed by its parent
joined : (clauses : List Clause) (branch above : List Ancestor) (d : ℕ) (n : Node) (ns : Nodes) (rest : List Entry) → is_closing (waiting above) n ≡ false
    → Walks clauses branch (preorder_of d n) (preorder_among d ns ++ rest) (choices_below clauses (literals_of above) n) above (length above)
    → ((later : List Ancestor) → take (length above) later ≡ above → Walks clauses later (preorder_among d ns) rest (choices_among clauses (literals_of above) (waiting above) ns) above (length above - 1))
    → Walks clauses branch (preorder_among d (more_nodes n ns)) rest (choices_among clauses (literals_of above) (waiting above) (more_nodes n ns)) above (length above - 1)
joined clauses branch above d n ns rest open_node first then =
    let second = then first.after (first.same ∙ take_whole above) in
    let one = choices_below clauses (literals_of above) n in
    let others = choices_among clauses (literals_of above) (waiting above) ns in
    record {
      after = second.after;
      same = second.same;
      gives = ap (walk clauses branch) (append_assoc (preorder_of d n) (preorder_among d ns) rest)
          ∙ first.gives
          ∙ ap (λ ms. one ++ ms) second.gives
          ∙ sym (append_assoc one others (walk clauses second.after rest))
          ∙ ap (λ b. cond b (choices_among clauses (literals_of above) None ns) (one ++ others) ++ walk clauses second.after rest) (sym open_node);
    }

-- a leaf that its parent's extension closes
closed_leaf : (clauses : List Clause) (branch above : List Ancestor) (d : ℕ) (m : Literal) (ns : Nodes) (rest : List Entry) → is_closing (waiting above) (leaf m) ≡ true
    → d ≡ length above + 1 → take (length above) branch ≡ above
    → Walks clauses (answered above) (preorder_among d ns) rest (choices_among clauses (literals_of (answered above)) (waiting (answered above)) ns) (answered above) (length (answered above) - 1)
    → Walks clauses branch (preorder_among d (more_nodes (leaf m) ns)) rest (choices_among clauses (literals_of above) (waiting above) (more_nodes (leaf m) ns)) above (length above - 1)
closed_leaf clauses branch above d m ns rest closing own is second =
    let number : d - 1 ≡ length above = omega (arith, own) in
    let here : take (d - 1) branch ≡ above = ap (λ n. take n branch) number ∙ is in
    let later = preorder_among d ns ++ rest in
    let count : length (answered above) - 1 ≡ length above - 1 = ap (λ n. n - 1) (length_answered above) in
    record {
      after = second.after;
      same = subst (λ (n : ℕ). take n second.after ≡ take n (answered above)) count second.same ∙ take_answered above;
      gives = ap (λ a. added_by clauses a d m Leaf later ++ walk clauses (branch_after a m Leaf) later) here
          ∙ ap (λ b. cond b [] (reduction_choice (literals_of above) m ∷ []) ++ walk clauses (cond b (answered above) above) later) closing
          ∙ second.gives
          ∙ ap₂ (λ ls o. choices_among clauses ls o ns ++ walk clauses second.after rest) (literals_answered above) (waiting_answered above)
          ∙ ap (λ b. cond b (choices_among clauses (literals_of above) None ns) (choices_below clauses (literals_of above) (leaf m) ++ choices_among clauses (literals_of above) (waiting above) ns) ++ walk clauses second.after rest) (sym closing);
    }

-- a leaf that isn't
open_leaf : (clauses : List Clause) (branch above : List Ancestor) (d : ℕ) (m : Literal) (rest : List Entry) → is_closing (waiting above) (leaf m) ≡ false
    → d ≡ length above + 1 → take (length above) branch ≡ above
    → Walks clauses branch (preorder_of d (leaf m)) rest (choices_below clauses (literals_of above) (leaf m)) above (length above)
open_leaf clauses branch above d m rest fails own is =
    let number : d - 1 ≡ length above = omega (arith, own) in
    let here : take (d - 1) branch ≡ above = ap (λ n. take n branch) number ∙ is in
    record {
      after = above;
      same = refl;
      gives = ap (λ a. added_by clauses a d m Leaf rest ++ walk clauses (branch_after a m Leaf) rest) here
          ∙ ap (λ b. cond b [] (reduction_choice (literals_of above) m ∷ []) ++ walk clauses (cond b (answered above) above) rest) fails;
    }

-- an inner node with what is below it
inner_walk : (clauses : List Clause) (branch above : List Ancestor) (d : ℕ) (l : Literal) (c : ℕ) (ns : Nodes) (rest : List Entry)
    → d ≡ length above + 1 → take (length above) branch ≡ above → HasComplementaryLeaf l ns
    → Walks clauses (after_inner above l) (preorder_among (d + 1) ns) rest (choices_among clauses (literals_of (after_inner above l)) (waiting (after_inner above l)) ns) (after_inner above l) (length (after_inner above l) - 1)
    → Walks clauses branch (preorder_of d (inner l c ns)) rest (choices_below clauses (literals_of above) (inner l c ns)) above (length above)
inner_walk clauses branch above d l c ns rest own is connected deep =
    let number : d - 1 ≡ length above = omega (arith, own) in
    let here : take (d - 1) branch ≡ above = ap (λ n. take n branch) number ∙ is in
    let next = after_inner above l in
    let later = preorder_among (d + 1) ns ++ rest in
    let count : length next - 1 ≡ length above = omega (arith, length_push above (record { literal = l; waits = true })) in
    let own_choice = extension_choice clauses (literals_of above) l c (closing_place l ns) in
    record {
      after = deep.after;
      same = subst (λ (n : ℕ). take n deep.after ≡ take n next) count deep.same ∙ take_first above (record { literal = l; waits = true }) ∙ sym (take_whole above);
      gives = ap (λ a. added_by clauses a d l (Inner c) later ++ walk clauses (branch_after a l (Inner c)) later) here
          ∙ ap (λ n. (extension_choice clauses (literals_of above) l c n ∷ []) ++ walk clauses next later) (closing_found l (d + 1) ns rest connected)
          ∙ ap (λ ms. own_choice ∷ ms) deep.gives
          ∙ ap₂ (λ ls o. own_choice ∷ (choices_among clauses ls o ns ++ walk clauses deep.after rest)) (literals_pushed above l) (waiting_pushed above l);
    }

either_leaf : {X : Type 0} (b : Bool) → (b ≡ true → X) → (b ≡ false → X) → X
either_leaf true p q = p refl
either_leaf false p q = q refl

mutual
  walk_below : (clauses : List Clause) (branch above : List Ancestor) (d : ℕ) (n : Node) (rest : List Entry) → IsConnectedBelow n → is_closing (waiting above) n ≡ false
      → d ≡ length above + 1 → take (length above) branch ≡ above
      → Walks clauses branch (preorder_of d n) rest (choices_below clauses (literals_of above) n) above (length above)
  walk_below clauses branch above d (leaf m) rest h fails own is = open_leaf clauses branch above d m rest fails own is
  walk_below clauses branch above d (inner l c ns) rest h fails own is =
      let deeper : d + 1 ≡ length (after_inner above l) + 1 = omega (arith, own, length_push above (record { literal = l; waits = true })) in
      inner_walk clauses branch above d l c ns rest own is h.0
      (walk_among clauses (after_inner above l) (after_inner above l) (d + 1) ns rest h.1 deeper (take_whole (after_inner above l)))

  walk_among : (clauses : List Clause) (branch above : List Ancestor) (d : ℕ) (ns : Nodes) (rest : List Entry) → AreConnectedBelow ns
      → d ≡ length above + 1 → take (length above) branch ≡ above
      → Walks clauses branch (preorder_among d ns) rest (choices_among clauses (literals_of above) (waiting above) ns) above (length above - 1)
  walk_among clauses branch above d no_nodes rest h own is = record {
    after = branch;
    same = take_shorter (length above - 1) (length above) branch above (omega arith) is;
    gives = refl;
  }
  walk_among clauses branch above d (more_nodes (inner l c cs) ns) rest h own is =
      joined clauses branch above d (inner l c cs) ns rest (inner_open (waiting above) l c cs)
      (walk_below clauses branch above d (inner l c cs) (preorder_among d ns ++ rest) h.0 (inner_open (waiting above) l c cs) own is)
      (λ later taken. walk_among clauses later above d ns rest h.1 own taken)
  walk_among clauses branch above d (more_nodes (leaf m) ns) rest h own is =
      either_leaf (is_closing (waiting above) (leaf m))
      (λ closing. closed_leaf clauses branch above d m ns rest closing own is
      (walk_among clauses (answered above) (answered above) d ns rest h.1 (omega (arith, own, length_answered above)) (take_whole (answered above))))
      (λ fails. joined clauses branch above d (leaf m) ns rest fails
      (open_leaf clauses branch above d m (preorder_among d ns ++ rest) fails own is)
      (λ later taken. walk_among clauses later above d ns rest h.1 own taken))

-- the walk over a connected tableau's nodes gives the choices of its tree
pub walk_whole : (clauses : List Clause) (t : Tableau) → AreConnectedBelow t.children → walk clauses [] (preorder t) ≡ choices_among clauses [] None t.children
walk_whole clauses t h =
    let w = walk_among clauses [] [] 1 t.children [] h refl refl in
    ap (walk clauses []) (sym (append-nil (preorder t))) ∙ w.gives ∙ append-nil (choices_among clauses [] None t.children)
