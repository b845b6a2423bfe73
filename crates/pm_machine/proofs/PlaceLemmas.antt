-- Where the selected leaf is, and the places of its ancestors.
use Rattle.std.proofs.Common.{◌≡◌, ℕ, zero, suc, ◌+◌, ◌≤◌, ◌<◌, List, [], ◌∷◌, ◌++◌, length, Some, None, slice_get, take, drop, refl, sym, ◌∙◌, ap, ap₂, arith, subst}
use Rattle.std.specs.Prelude.{All}
use Rattle.std.proofs.lemmas.List.Elements.{All-nil, All-cons}
use Rattle.pm_machine.specs.State.{CellNode, IsOpen, IsSelected, IsAncestorAt}
use Rattle.pm_machine.specs.Inside.Frames.{TreeValue, deepest, IsNext}
use Rattle.pm_machine.specs.Inside.History.{Falls, HasPlace, IsAtLeaf}

pub some_same : {A : Type 0} (x y : A) → Some x ≡ Some y → x ≡ y
some_same x y same = cc

module _ {A : Type 0} where
  pub split_at : (xs : List A) (i : ℕ) (x : A) → slice_get xs i ≡ Some x → xs ≡ take i xs ++ x ∷ drop (suc i) xs
  split_at [] i x is = absurd cc
  split_at (y ∷ xs) zero x is = ap (λ z. z ∷ xs) cc
  split_at (y ∷ xs) (suc i) x is = ap (λ zs. y ∷ zs) (split_at xs i x is)

  pub all_taken : (P : A → Type 0) (n : ℕ) (xs : List A) → ((i : ℕ) (x : A) → i < n → slice_get xs i ≡ Some x → P x) → All P (take n xs)
  all_taken P zero xs each = All-nil P
  all_taken P (suc n) [] each = All-nil P
  all_taken P (suc n) (x ∷ xs) each =
      All-cons P x (take n xs) (each 0 x (omega arith) refl) (all_taken P n xs (λ i y below is. each (suc i) y (omega (arith, below)) is))

  pub all_there : (P : A → Type 0) (xs : List A) → ((i : ℕ) (x : A) → slice_get xs i ≡ Some x → P x) → All P xs
  all_there P [] each = All-nil P
  all_there P (x ∷ xs) each = All-cons P x xs (each 0 x refl) (all_there P xs (λ i y is. each (suc i) y is))

  pub is_within : (xs : List A) (i : ℕ) (x : A) → slice_get xs i ≡ Some x → i < length xs
  is_within [] i x is = absurd cc
  is_within (y ∷ xs) zero x is = omega arith
  is_within (y ∷ xs) (suc i) x is = let before = is_within xs i x is in omega (arith, before)

  -- what stands where nothing does
  pub is_beyond : (xs : List A) (i : ℕ) → slice_get xs i ≡ None → length xs ≤ i
  is_beyond [] i none = omega arith
  is_beyond (x ∷ xs) zero none = absurd cc
  is_beyond (x ∷ xs) (suc i) none = let before = is_beyond xs i none in omega (arith, before)

  -- a list that was cut, with another put behind
  pub get_before : (n : ℕ) (xs ys : List A) (i : ℕ) → i < n → n ≤ length xs → slice_get (take n xs ++ ys) i ≡ slice_get xs i
  get_before zero xs ys i below within = absurd (omega (arith, below))
  get_before (suc n) [] ys i below within = absurd (omega (arith, within))
  get_before (suc n) (x ∷ xs) ys zero below within = refl
  get_before (suc n) (x ∷ xs) ys (suc i) below within = get_before n xs ys i (omega (arith, below)) (omega (arith, within))

  pub get_after : (n : ℕ) (xs ys : List A) (j : ℕ) → n ≤ length xs → slice_get (take n xs ++ ys) (n + j) ≡ slice_get ys j
  get_after zero xs ys j within = ap (λ i. slice_get ys i) (omega arith)
  get_after (suc n) [] ys j within = absurd (omega (arith, within))
  get_after (suc n) (x ∷ xs) ys j within =
      let next : suc n + j ≡ suc (n + j) = omega arith in
      ap (λ i. slice_get (x ∷ (take n xs ++ ys)) i) next ∙ get_after n xs ys j (omega (arith, within))

  pub drop_past : (n : ℕ) (xs ys : List A) (j : ℕ) → n ≤ length xs → drop (n + j) (take n xs ++ ys) ≡ drop j ys
  drop_past zero xs ys j within = ap (λ i. drop i ys) (omega arith)
  drop_past (suc n) [] ys j within = absurd (omega (arith, within))
  drop_past (suc n) (x ∷ xs) ys j within =
      let next : suc n + j ≡ suc (n + j) = omega arith in
      ap (λ i. drop i (x ∷ (take n xs ++ ys))) next ∙ drop_past n xs ys j (omega (arith, within))

  pub get_in_take : (xs : List A) (n i : ℕ) → i < n → slice_get (take n xs) i ≡ slice_get xs i
  get_in_take xs zero i below = absurd (omega (arith, below))
  get_in_take [] (suc n) i below = refl
  get_in_take (x ∷ xs) (suc n) zero below = refl
  get_in_take (x ∷ xs) (suc n) (suc i) below = get_in_take xs n i (omega (arith, below))

  pub taken_below : (xs : List A) (n i : ℕ) (x : A) → slice_get (take n xs) i ≡ Some x → i < n
  taken_below xs zero i x is = absurd cc
  taken_below [] (suc n) i x is = absurd cc
  taken_below (y ∷ xs) (suc n) zero x is = omega arith
  taken_below (y ∷ xs) (suc n) (suc i) x is = let before = taken_below xs n i x is in omega (arith, before)

  pub get_in_drop : (n : ℕ) (xs : List A) (j : ℕ) → slice_get (drop n xs) j ≡ slice_get xs (n + j)
  get_in_drop zero xs j = ap (λ i. slice_get xs i) (omega arith)
  get_in_drop (suc n) [] j = refl
  get_in_drop (suc n) (x ∷ xs) j =
      let next : suc n + j ≡ suc (n + j) = omega arith in
      get_in_drop n xs j ∙ sym (ap (λ i. slice_get (x ∷ xs) i) next)

-- a place is before another, or there, or after it
pub data Beside (at : ℕ) (place : ℕ) : Type 0 where
  before : place < at → Beside at place
  there : place ≡ at → Beside at place
  after : (j : ℕ) → place ≡ suc at + j → Beside at place

pub beside : (at place : ℕ) → Beside at place
beside zero zero = there refl
beside zero (suc place) = after place (omega arith)
beside (suc at) zero = before (omega arith)
beside (suc at) (suc place) = elim (beside at place) [
  | before less ↦ before (omega (arith, less))
  | there same ↦ there (ap suc same)
  | after j far ↦ after j (omega (arith, far))
]

-- the first open node, as it is selected
pub selected_here : (nodes : List CellNode) (leaf : ℕ) (node : CellNode) → IsNext 0 nodes leaf → slice_get nodes leaf ≡ Some node
    → IsSelected nodes (take leaf nodes) node (drop (suc leaf) nodes)
selected_here nodes leaf node next stands = record {
  stands = split_at nodes leaf node stands;
  unclosed = next.here node stands;
  first = all_taken (λ n. ¬ IsOpen n) leaf nodes (λ i n below is. next.passed.before i n (omega arith) below is);
}

pub none_open : (nodes : List CellNode) (leaf : ℕ) → IsNext 0 nodes leaf → slice_get nodes leaf ≡ None → All (λ n. ¬ IsOpen n) nodes
none_open nodes leaf next none =
    let beyond = is_beyond nodes leaf none in
    all_there (λ n. ¬ IsOpen n) nodes (λ i n is. let within = is_within nodes i n is in next.passed.before i n (omega arith) (omega (arith, beyond, within)) is)

-- the place on the branch is an ancestor's
pub ancestor_at : (tree : TreeValue) (level : ℕ) (has : HasPlace tree level) → IsAncestorAt (take tree.leaf tree.nodes) (level + 1) has.ancestor
ancestor_at tree level has =
    let nodes = tree.nodes in
    let less = has.before in
    let stands : slice_get (take tree.leaf nodes) has.place ≡ Some has.ancestor = get_in_take nodes tree.leaf has.place less ∙ has.stands in
    record {
      earlier = take has.place (take tree.leaf nodes);
      later = drop (suc has.place) (take tree.leaf nodes);
      stands = split_at (take tree.leaf nodes) has.place has.ancestor stands;
      at_depth = has.depth;
      last = all_there (λ n. level + 1 < n.depth) (drop (suc has.place) (take tree.leaf nodes)) (λ j n is.
          let found : slice_get (take tree.leaf nodes) (suc has.place + j) ≡ Some n = sym (get_in_drop (suc has.place) (take tree.leaf nodes) j) ∙ is in
          let below : suc has.place + j < tree.leaf = taken_below nodes tree.leaf (suc has.place + j) n found in
          has.last (suc has.place + j) n (omega arith) below (sym (get_in_take nodes tree.leaf (suc has.place + j) below) ∙ found));
    }

-- what lies deeper may fall from there
pub falls_more : (depth more : ℕ) (nodes : List CellNode) → depth ≤ more → Falls depth nodes → Falls more nodes
falls_more depth more [] less falls = tt
falls_more depth more (n ∷ nodes) less falls = let first = falls.0 in (omega (arith, less, first), falls.1)

-- a node in a place isn't deeper than those before it, and those after it fall from there
pub falls_at : (top : ℕ) (nodes : List CellNode) (j : ℕ) (n : CellNode) → Falls top nodes → slice_get nodes j ≡ Some n
    → (n.depth ≤ top) × Falls n.depth (drop (suc j) nodes)
falls_at top [] j n falls is = absurd cc
falls_at top (m ∷ nodes) zero n falls is =
    let same : m ≡ n = cc in
    subst (λ x. (x.depth ≤ top) × Falls x.depth nodes) same falls
falls_at top (m ∷ nodes) (suc j) n falls is =
    let rest = falls_at m.depth nodes j n falls.1 is in
    let first = falls.0 in
    let below = rest.0 in
    (omega (arith, first, below), rest.1)

pub falls_between : (top : ℕ) (nodes : List CellNode) (i j : ℕ) (m n : CellNode) → Falls top nodes → i < j
    → slice_get nodes i ≡ Some m → slice_get nodes j ≡ Some n → n.depth ≤ m.depth
falls_between top [] i j m n falls less first second = absurd cc
falls_between top (x ∷ nodes) i zero m n falls less first second = absurd (omega (arith, less))
falls_between top (x ∷ nodes) zero (suc j) m n falls less first second =
    let same : x ≡ m = cc in
    subst (λ y. n.depth ≤ y.depth) same (falls_at x.depth nodes j n falls.1 second).0
falls_between top (x ∷ nodes) (suc i) (suc j) m n falls less first second =
    falls_between x.depth nodes i j m n falls.1 (omega (arith, less)) first second

-- A step at a leaf at a depth: the leaf is changed and no longer open, and other nodes come after
-- it, of which the first isn't deeper than a child. The branch has the leaf's place, where a child
-- may be selected.
pub record IsMoved (depth top : ℕ) (rest : List CellNode) (changed : CellNode) (old new : TreeValue) : Type 0 where
  pub nodes : new.nodes ≡ take old.leaf old.nodes ++ changed ∷ rest
  pub shut : ¬ IsOpen changed
  pub same : changed.depth ≡ depth
  pub falls : Falls top rest
  pub top_is : top ≤ suc depth
  pub bounds : (j : ℕ) (n : CellNode) → slice_get rest j ≡ Some n → (1 ≤ n.depth) × (n.depth ≤ deepest)
  pub room : length new.branch ≡ deepest
  pub kept : (level : ℕ) → level + 1 < depth → slice_get new.branch level ≡ slice_get old.branch level
  pub here : (level : ℕ) → level + 1 ≡ depth → depth < top → slice_get new.branch level ≡ Some old.leaf
  pub next : IsNext (suc old.leaf) new.nodes new.leaf

module _ (depth top : ℕ) (rest : List CellNode) (changed : CellNode) (old new : TreeValue) (node : CellNode)
    (at : IsAtLeaf old) (stands : slice_get old.nodes old.leaf ≡ Some node) (deep : node.depth ≡ depth)
    (moved : IsMoved depth top rest changed old new) where
  within : old.leaf ≤ length old.nodes
  within = let less = is_within old.nodes old.leaf node stands in omega (arith, less)

  get_old : (i : ℕ) → i < old.leaf → slice_get new.nodes i ≡ slice_get old.nodes i
  get_old i below = ap (λ ns. slice_get ns i) moved.nodes ∙ get_before old.leaf old.nodes (changed ∷ rest) i below within

  get_changed : slice_get new.nodes old.leaf ≡ Some changed
  get_changed =
      let here : old.leaf ≡ old.leaf + 0 = omega arith in
      ap₂ (λ ns i. slice_get ns i) moved.nodes here ∙ get_after old.leaf old.nodes (changed ∷ rest) 0 within

  get_rest : (j : ℕ) → slice_get new.nodes (suc old.leaf + j) ≡ slice_get rest j
  get_rest j =
      let far : suc old.leaf + j ≡ old.leaf + suc j = omega arith in
      ap₂ (λ ns i. slice_get ns i) moved.nodes far ∙ get_after old.leaf old.nodes (changed ∷ rest) (suc j) within

  drop_rest : (j : ℕ) → drop (suc (suc old.leaf + j)) new.nodes ≡ drop (suc j) rest
  drop_rest j =
      let far : suc (suc old.leaf + j) ≡ old.leaf + suc (suc j) = omega arith in
      ap₂ (λ ns i. drop i ns) moved.nodes far ∙ drop_past old.leaf old.nodes (changed ∷ rest) (suc (suc j)) within

  none_before : IsNext 0 new.nodes new.leaf
  none_before = record {
    passed = record {
      beyond = omega arith;
      within = moved.next.passed.within;
      before = λ place n from below is. elim (beside old.leaf place) [
        | before less ↦ at.next.passed.before place n (omega arith) less (sym (get_old place less) ∙ is)
        | there same ↦ λ opened.
            let found : Some changed ≡ Some n = sym get_changed ∙ ap (λ i. slice_get new.nodes i) (sym same) ∙ is in
            moved.shut (subst IsOpen (sym (some_same changed n found)) opened)
        | after j far ↦ moved.next.passed.before place n (omega (arith, far)) below is
      ];
    };
    here = moved.next.here;
  }

  bounds_kept : (place : ℕ) (n : CellNode) → slice_get new.nodes place ≡ Some n → (1 ≤ n.depth) × (n.depth ≤ deepest)
  bounds_kept place n is = elim (beside old.leaf place) [
    | before less ↦ at.below place n (sym (get_old place less) ∙ is)
    | there same ↦
        let found : Some changed ≡ Some n = sym get_changed ∙ ap (λ i. slice_get new.nodes i) (sym same) ∙ is in
        let deeper : node.depth ≡ n.depth = deep ∙ sym moved.same ∙ ap (λ x. x.depth) (some_same changed n found) in
        subst (λ d. (1 ≤ d) × (d ≤ deepest)) deeper (at.below old.leaf node stands)
    | after j far ↦ moved.bounds j n (sym (get_rest j) ∙ ap (λ i. slice_get new.nodes i) (sym far) ∙ is)
  ]

  -- the selected leaf is among those that come after
  selected_after : (n : CellNode) → slice_get new.nodes new.leaf ≡ Some n → (j : ℕ) × (new.leaf ≡ suc old.leaf + j) × (slice_get rest j ≡ Some n)
  selected_after n is = elim (beside old.leaf new.leaf) [
    | before less ↦ let far = moved.next.passed.beyond in absurd (omega (arith, less, far))
    | there same ↦ let far = moved.next.passed.beyond in absurd (omega (arith, same, far))
    | after j far ↦ (j, far, sym (get_rest j) ∙ ap (λ i. slice_get new.nodes i) (sym far) ∙ is)
  ]

  falls_kept : (n : CellNode) → slice_get new.nodes new.leaf ≡ Some n → Falls n.depth (drop (suc new.leaf) new.nodes)
  falls_kept n is =
      let found = selected_after n is in
      subst (λ ns. Falls n.depth ns) (sym (ap (λ i. drop (suc i) new.nodes) found.1 ∙ drop_rest found.0))
      (falls_at top rest found.0 n moved.falls found.2).1

  -- the nodes from the leaf up to the selected one are as deep as that one, or deeper
  deep_between : (j : ℕ) (n : CellNode) → slice_get rest j ≡ Some n → (later : ℕ) (m : CellNode) → old.leaf < later → later < suc old.leaf + j
      → slice_get new.nodes later ≡ Some m → n.depth ≤ m.depth
  deep_between j n stands_there later m beyond below is = elim (beside old.leaf later) [
    | before less ↦ absurd (omega (arith, less, beyond))
    | there same ↦ absurd (omega (arith, same, beyond))
    | after i far ↦ falls_between top rest i j m n moved.falls (omega (arith, far, below)) (sym (get_rest i) ∙ ap (λ k. slice_get new.nodes k) (sym far) ∙ is) stands_there
  ]

  place_kept : (j : ℕ) (n : CellNode) → new.leaf ≡ suc old.leaf + j → slice_get rest j ≡ Some n → (level : ℕ) → level + 1 < n.depth → level + 1 < depth
      → HasPlace new level
  place_kept j n far stands_there level less shallow =
      let had = at.above node level stands (subst (λ d. level + 1 < d) (sym deep) shallow) in
      let earlier = had.before in
      record {
        place = had.place;
        at = moved.kept level shallow ∙ had.at;
        before = omega (arith, far, earlier);
        ancestor = had.ancestor;
        stands = get_old had.place earlier ∙ had.stands;
        depth = had.depth;
        last = λ later m beyond below is. elim (beside old.leaf later) [
          | before nearer ↦ had.last later m beyond nearer (sym (get_old later nearer) ∙ is)
          | there same ↦
              let found : Some changed ≡ Some m = sym get_changed ∙ ap (λ i. slice_get new.nodes i) (sym same) ∙ is in
              subst (λ d. level + 1 < d) (sym moved.same ∙ ap (λ x. x.depth) (some_same changed m found)) shallow
          | after i there_is ↦
              let deeper = deep_between j n stands_there later m (omega (arith, there_is)) (omega (arith, below, far)) is in
              omega (arith, less, deeper)
        ];
      }

  place_new : (j : ℕ) (n : CellNode) → new.leaf ≡ suc old.leaf + j → slice_get rest j ≡ Some n → (level : ℕ) → level + 1 < n.depth → level + 1 ≡ depth
      → HasPlace new level
  place_new j n far stands_there level less same_level =
      let limit = (falls_at top rest j n moved.falls stands_there).0 in
      record {
        place = old.leaf;
        at = moved.here level same_level (omega (arith, less, same_level, limit));
        before = omega (arith, far);
        ancestor = changed;
        stands = get_changed;
        depth = moved.same ∙ sym same_level;
        last = λ later m beyond below is.
            let deeper = deep_between j n stands_there later m beyond (omega (arith, below, far)) is in
            omega (arith, less, deeper);
      }

  above_kept : (n : CellNode) (level : ℕ) → slice_get new.nodes new.leaf ≡ Some n → level + 1 < n.depth → HasPlace new level
  above_kept n level is less =
      let found = selected_after n is in
      let limit = (falls_at top rest found.0 n moved.falls found.2).0 in
      let most = moved.top_is in
      elim (beside depth (level + 1)) [
        | before shallow ↦ place_kept found.0 n found.1 found.2 level less shallow
        | there same_level ↦ place_new found.0 n found.1 found.2 level less same_level
        | after i far ↦ absurd (omega (arith, far, less, limit, most))
      ]

  -- the tree is at its next leaf
  pub moves_on : IsAtLeaf new
  moves_on = record {
    next = none_before;
    below = bounds_kept;
    room = moved.room;
    falls = falls_kept;
    above = above_kept;
  }
