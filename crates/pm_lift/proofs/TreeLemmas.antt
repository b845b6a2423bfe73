-- What the least choices build: the trees before and after them.
use Rattle.std.proofs.Common.{◌≡◌, ℕ, zero, suc, ◌≤◌, inl, inr, Bool, true, false, cond, not, ◌==◌, List, [], ◌∷◌, ◌++◌, length, map, Option, Some, None, IsSomeAnd, Any, slice_get, refl, sym, ◌∙◌, ap, ap₂, subst, arith, eq-eqb}
use Rattle.std.specs.Option.{option_map_or}
use Rattle.std.proofs.lemmas.List.{length_push}
use Rattle.std.proofs.lemmas.Option.{slice_get-get_or}
use Rattle.pm_logic.specs.Term.{Term}
use Rattle.pm_logic.specs.Problem.{Literal, Clause}
use Rattle.pm_logic.specs.Tableau.{Node, leaf, inner, Nodes, no_nodes, more_nodes}
use Rattle.pm_calculus.specs.Substitution.{put_in_literal, IsInstance, AreComplementary}
use Rattle.pm_calculus.specs.Connection.{literal_on, literals_on, IsFamily, HasFamilies, HaveFamilies, IsClosedBelow, AreClosedBelow, HasComplementaryLeaf, IsConnectedBelow, AreConnectedBelow}
use Rattle.pm_calculus.specs.Skeleton.{Face, face_of, Skeleton, unclosed, closed, extended, Skeletons, no_skeletons, more_skeletons, is_closed_below, are_closed_below, leaves, leaves_but, literals_at}
use Rattle.pm_calculus.specs.Alternatives.{has_face, opposite}
use Rattle.pm_calculus.specs.Choices.{at_depth}
use Rattle.pm_calculus.specs.Agreement.{AgreesBelow, AgreeAmong}
use Rattle.pm_calculus.proofs.ListsToTrees.{own_depth}
use Rattle.pm_lift.specs.Inside.Complements.{complements}
use Rattle.pm_lift.specs.Inside.Tree.{is_closing, closing_place, reduction_choice}
use Rattle.pm_lift.proofs.ComplementLemmas.{and_both, complements_sound, complements_complete}
use Rattle.pm_lift.proofs.ListLemmas.{first_found}

-- the whole tree, each leaf closed
abbrev mutual
  pub done_below : List Literal → Node → Skeleton
  done_below above (leaf l) = closed (face_of l) (suc (reduction_choice above l))
  done_below above (inner l c ns) = extended (face_of l) c (done_among (above ++ l ∷ []) (Some l) ns)

  pub done_among : List Literal → Option Literal → Nodes → Skeletons
  done_among above parent no_nodes = no_skeletons
  done_among above parent (more_nodes n ns) =
      cond (is_closing parent n)
      (more_skeletons (closed (face_of (literal_on n)) (length above)) (done_among above None ns))
      (more_skeletons (done_below above n) (done_among above parent ns))

-- the same nodes before any choice, with the leaf closed that closes by the parent, at this depth
abbrev pub todo_among : ℕ → Option Literal → Nodes → Skeletons
todo_among d parent no_nodes = no_skeletons
todo_among d parent (more_nodes n ns) =
    cond (is_closing parent n)
    (more_skeletons (closed (face_of (literal_on n)) d) (todo_among d None ns))
    (more_skeletons (unclosed (face_of (literal_on n))) (todo_among d parent ns))

-- the parent is the last of the literals above
abbrev pub IsParent : List Literal → Option Literal → Type 0
IsParent above None = Unit {0}
IsParent above (Some l) = at_depth above (length above) ≡ Some l

-- what is known of the nodes of a tableau below these literals
pub record AreGood (clauses : List Clause) (above : List Literal) (ns : Nodes) : Type 0 where
  pub closed : AreClosedBelow above ns
  pub connected : AreConnectedBelow ns
  pub families : HaveFamilies clauses ns

pub record IsGood (clauses : List Clause) (above : List Literal) (n : Node) : Type 0 where
  pub closed : IsClosedBelow above n
  pub connected : IsConnectedBelow n
  pub families : HasFamilies clauses n

pub good_first : (clauses : List Clause) (above : List Literal) (n : Node) (ns : Nodes) → AreGood clauses above (more_nodes n ns) → IsGood clauses above n
good_first clauses above n ns g = record { closed = g.closed.0; connected = g.connected.0; families = g.families.0 }

pub good_others : (clauses : List Clause) (above : List Literal) (n : Node) (ns : Nodes) → AreGood clauses above (more_nodes n ns) → AreGood clauses above ns
good_others clauses above n ns g = record { closed = g.closed.1; connected = g.connected.1; families = g.families.1 }

pub good_children : (clauses : List Clause) (above : List Literal) (l : Literal) (c : ℕ) (ns : Nodes) → IsGood clauses above (inner l c ns) → AreGood clauses (above ++ l ∷ []) ns
good_children clauses above l c ns g = record { closed = g.closed; connected = g.connected.1; families = g.families.1 }

pub parent_pushed : (above : List Literal) (l : Literal) → IsParent (above ++ l ∷ []) (Some l)
parent_pushed above l = own_depth above l (length (above ++ l ∷ [])) (length_push above l)

-- the first ancestor that is complementary to a leaf
pub record Closes (above : List Literal) (l : Literal) : Type 0 where
  pub ancestor : Literal
  pub stands : slice_get above (reduction_choice above l) ≡ Some ancestor
  pub complement : AreComplementary l ancestor

pub closes : (l : Literal) (above : List Literal) → Any (AreComplementary l) above → Closes above l
closes l above h =
    let stands : slice_get above h.0 ≡ Some h.1 = slice_get-get_or above h.0 h.1 h.2 ∙ ap Some h.3 in
    let first = first_found (complements l) above h.0 h.1 stands (complements_complete l h.1 h.4) in
    record { ancestor = first.0; stands = first.1; complement = complements_sound l first.0 first.2 }

-- what holds of each side of a test holds of what the test picks
pub either_way : {A : Type 0} (P : A → Type 0) (b : Bool) (x y : A) → (b ≡ true → P x) → (b ≡ false → P y) → P (cond b x y)
either_way P true x y p q = p refl
either_way P false x y p q = q refl

pub agrees_closed : (above : List Literal) (parent : Option Literal) (n : Node) → IsParent above parent → is_closing parent n ≡ true
    → AgreesBelow above (closed (face_of (literal_on n)) (length above)) n
agrees_closed above None n own h = cc
agrees_closed above (Some l) (leaf m) own h =
    (refl, subst (λ (o : Option Literal). IsSomeAnd o (AreComplementary m)) (sym own) (complements_sound m l h))
agrees_closed above (Some l) (inner m c ns) own h = cc

-- the whole tree has no unclosed leaf, and agrees
mutual
  pub done_closed : (above : List Literal) (n : Node) → is_closed_below (done_below above n) ≡ true
  done_closed above (leaf l) = refl
  done_closed above (inner l c ns) = all_done_closed (above ++ l ∷ []) (Some l) ns

  pub all_done_closed : (above : List Literal) (parent : Option Literal) (ns : Nodes) → are_closed_below (done_among above parent ns) ≡ true
  all_done_closed above parent no_nodes = refl
  all_done_closed above parent (more_nodes n ns) =
      either_way (λ ss. are_closed_below ss ≡ true) (is_closing parent n)
      (more_skeletons (closed (face_of (literal_on n)) (length above)) (done_among above None ns))
      (more_skeletons (done_below above n) (done_among above parent ns))
      (λ is. all_done_closed above None ns)
      (λ is. and_both (is_closed_below (done_below above n)) (are_closed_below (done_among above parent ns)) (done_closed above n) (all_done_closed above parent ns))

mutual
  pub done_agrees : (clauses : List Clause) (above : List Literal) (n : Node) → IsGood clauses above n → AgreesBelow above (done_below above n) n
  done_agrees clauses above (leaf l) g =
      let h = closes l above g.closed in
      (refl, subst (λ (o : Option Literal). IsSomeAnd o (AreComplementary l)) (sym h.stands) h.complement)
  done_agrees clauses above (inner l c ns) g =
      (refl, refl, done_agree clauses (above ++ l ∷ []) (Some l) ns (parent_pushed above l) (good_children clauses above l c ns g))

  pub done_agree : (clauses : List Clause) (above : List Literal) (parent : Option Literal) (ns : Nodes) → IsParent above parent → AreGood clauses above ns
      → AgreeAmong above (done_among above parent ns) ns
  done_agree clauses above parent no_nodes own g = tt
  done_agree clauses above parent (more_nodes n ns) own g =
      either_way (λ ss. AgreeAmong above ss (more_nodes n ns)) (is_closing parent n)
      (more_skeletons (closed (face_of (literal_on n)) (length above)) (done_among above None ns))
      (more_skeletons (done_below above n) (done_among above parent ns))
      (λ is. (agrees_closed above parent n own is, done_agree clauses above None ns tt (good_others clauses above n ns g)))
      (λ is. (done_agrees clauses above n (good_first clauses above n ns g), done_agree clauses above parent ns own (good_others clauses above n ns g)))

-- so do the nodes before any choice
pub todo_agree : (above : List Literal) (parent : Option Literal) (ns : Nodes) → IsParent above parent → AgreeAmong above (todo_among (length above) parent ns) ns
todo_agree above parent no_nodes own = tt
todo_agree above parent (more_nodes n ns) own =
    either_way (λ ss. AgreeAmong above ss (more_nodes n ns)) (is_closing parent n)
    (more_skeletons (closed (face_of (literal_on n)) (length above)) (todo_among (length above) None ns))
    (more_skeletons (unclosed (face_of (literal_on n))) (todo_among (length above) parent ns))
    (λ is. (agrees_closed above parent n own is, todo_agree above None ns tt))
    (λ is. (refl, todo_agree above parent ns own))

-- the faces of a family are those of its clause's literals
faces_put : (terms : List Term) (ls : List Literal) → map face_of (map (put_in_literal terms) ls) ≡ map face_of ls
faces_put terms [] = refl
faces_put terms (l ∷ ls) = ap (λ fs. face_of l ∷ fs) (faces_put terms ls)

pub family_faces : (clauses : List Clause) (c : ℕ) (ns : Nodes) → IsFamily clauses c ns → map face_of (literals_on ns) ≡ map face_of (literals_at clauses c)
family_faces clauses c ns h = by (slice_get clauses c) h
  where
    by : (o : Option Clause) → IsSomeAnd o (λ clause. IsInstance clause (literals_on ns)) → map face_of (literals_on ns) ≡ map face_of (option_map_or (λ clause. clause.literals) o [])
    by None h = absurd h
    by (Some clause) h = ap (map face_of) h.each ∙ faces_put h.terms clause.literals

-- the leaves of a clause are the nodes of its family before any choice
pub leaves_todo : (d : ℕ) (ls : List Literal) (ns : Nodes) → map face_of (literals_on ns) ≡ map face_of ls → leaves ls ≡ todo_among d None ns
leaves_todo d [] no_nodes is = refl
leaves_todo d [] (more_nodes n ns) is = cc
leaves_todo d (l ∷ ls) no_nodes is = cc
leaves_todo d (l ∷ ls) (more_nodes n ns) is =
    let first : face_of l ≡ face_of (literal_on n) = cc in
    let others : map face_of (literals_on ns) ≡ map face_of ls = cc in
    ap₂ more_skeletons (ap unclosed first) (leaves_todo d ls ns others)

-- what is known of the literal at which the family of an inner node is connected to it
pub record Connects (l : Literal) (d : ℕ) (ls : List Literal) (ns : Nodes) : Type 0 where
  pub literal : Literal
  pub has : slice_get ls (closing_place l ns) ≡ Some literal
  pub shows : has_face (opposite (face_of l)) literal ≡ true
  pub same : leaves_but (closing_place l ns) d ls ≡ todo_among d (Some l) ns

opposite_signs : (b c : Bool) → c ≡ not b → cond (not b) c (not c) ≡ true
opposite_signs true c is = ap not is
opposite_signs false c is = is

opposite_from : (l m k : Literal) → AreComplementary m l → face_of k ≡ face_of m → has_face (opposite (face_of l)) k ≡ true
opposite_from l m k h is =
    let sign : k.positive ≡ not l.positive = ap (λ (f : Face). f.positive) is ∙ h.sign in
    let predicate : l.predicate ≡ k.predicate = sym (ap (λ (f : Face). f.predicate) is ∙ h.predicate) in
    and_both (cond (not l.positive) k.positive (not k.positive)) (l.predicate == k.predicate)
    (opposite_signs l.positive k.positive sign) (eq-eqb l.predicate k.predicate predicate)

-- a node that closes by its parent is a leaf that is complementary to it
pub closing_sound : (l : Literal) (n : Node) → is_closing (Some l) n ≡ true → AreComplementary (literal_on n) l
closing_sound l (leaf m) h = complements_sound m l h
closing_sound l (inner m c ns) h = cc

complementary_later : (l : Literal) (n : Node) (ns : Nodes) → is_closing (Some l) n ≡ false → HasComplementaryLeaf l (more_nodes n ns) → HasComplementaryLeaf l ns
complementary_later l (leaf m) ns fails (inl h) = let never : true ≡ false = sym (complements_complete m l h) ∙ fails in cc
complementary_later l (leaf m) ns fails (inr h) = h
complementary_later l (inner m c cs) ns fails h = h

pub connects : (l : Literal) (d : ℕ) (ls : List Literal) (ns : Nodes) → map face_of (literals_on ns) ≡ map face_of ls → HasComplementaryLeaf l ns → Connects l d ls ns
connects l d ls no_nodes is h = absurd h
connects l d [] (more_nodes n ns) is h = cc
connects l d (k ∷ ls) (more_nodes n ns) is h =
    by (is_closing (Some l) n) refl (λ fails. connects l d ls ns others (complementary_later l n ns fails h))
  where
    first : face_of k ≡ face_of (literal_on n)
    first = cc

    others : map face_of (literals_on ns) ≡ map face_of ls
    others = cc

    by : (b : Bool) → is_closing (Some l) n ≡ b → (is_closing (Some l) n ≡ false → Connects l d ls ns) → Connects l d (k ∷ ls) (more_nodes n ns)
    by true is later = record {
      literal = k;
      has = ap (λ b. slice_get (k ∷ ls) (cond b zero (suc (closing_place l ns)))) is;
      shows = opposite_from l (literal_on n) k (closing_sound l n is) first;
      same = ap (λ b. leaves_but (cond b zero (suc (closing_place l ns))) d (k ∷ ls)) is
          ∙ ap₂ more_skeletons (ap (λ f. closed f d) first) (leaves_todo d ls ns others)
          ∙ sym (ap (λ b. cond b (more_skeletons (closed (face_of (literal_on n)) d) (todo_among d None ns)) (more_skeletons (unclosed (face_of (literal_on n))) (todo_among d (Some l) ns))) is);
    }
    by false is later =
        let h = later is in
        record {
          literal = h.literal;
          has = ap (λ b. slice_get (k ∷ ls) (cond b zero (suc (closing_place l ns)))) is ∙ h.has;
          shows = h.shows;
          same = ap (λ b. leaves_but (cond b zero (suc (closing_place l ns))) d (k ∷ ls)) is
              ∙ ap₂ more_skeletons (ap unclosed first) h.same
              ∙ sym (ap (λ b. cond b (more_skeletons (closed (face_of (literal_on n)) d) (todo_among d None ns)) (more_skeletons (unclosed (face_of (literal_on n))) (todo_among d (Some l) ns))) is);
        }

-- an extension that agrees with the family is by that literal or a later one
pub no_earlier : (above : List Literal) (l : Literal) (d j : ℕ) (ls : List Literal) (k : Literal) (ns : Nodes) → at_depth above d ≡ Some l → slice_get ls j ≡ Some k
    → AgreeAmong above (leaves_but j d ls) ns → closing_place l ns ≤ j
no_earlier above l d j [] k ns own is h = cc
no_earlier above l d j (m ∷ ls) k no_nodes own is h = omega arith
no_earlier above l d zero (m ∷ ls) k (more_nodes (leaf p) ns) own is h =
    let one : complements p l ≡ true = complements_complete p l (subst (λ (o : Option Literal). IsSomeAnd o (AreComplementary p)) own h.0.1) in
    let none : cond (complements p l) zero (suc (closing_place l ns)) ≡ zero = ap (λ b. cond b zero (suc (closing_place l ns))) one in
    omega (arith, none)
no_earlier above l d zero (m ∷ ls) k (more_nodes (inner p c cs) ns) own is h = absurd h.0
no_earlier above l d (suc j) (m ∷ ls) k (more_nodes n ns) own is h =
    at_most (is_closing (Some l) n) (no_earlier above l d j ls k ns own is h.1)
  where
    at_most : (b : Bool) → closing_place l ns ≤ j → cond b zero (suc (closing_place l ns)) ≤ suc j
    at_most true le = omega arith
    at_most false le = omega (arith, le)
