-- One turn of a comparison, and how it ends.
use Rattle.std.proofs.Common.{◌≡◌, ℕ, suc, ◌<◌, inl, inr, Bool, true, false, List, [], ◌∷◌, ◌++◌, length, map, sym, ◌∙◌, ap, subst, arith}
use Rattle.std.specs.Prelude.{All}
use Rattle.std.specs.List.{zip}
use Rattle.std.proofs.lemmas.List.{append-nil}
use Rattle.std.proofs.lemmas.List.Elements.{All-nil, All-head, All-tail, All-append, All-push, All-weaker, All-contains}
use Rattle.pm_logic.specs.Term.{Term, var, app, Terms, as_terms}
use Rattle.pm_store.specs.Equations.{Equations, IsFree}
use Rattle.pm_store.specs.Solutions.{Solves}
use Rattle.pm_store.specs.Trees.{tree, size}
use Rattle.pm_store.specs.Sound.{IsSound}
use Rattle.pm_store.proofs.ListLemmas.{All-left, All-right, All-last}
use Rattle.pm_store.proofs.TermLemmas.{size-positive}
use Rattle.pm_store.proofs.TreeLemmas.{free_variables_stand, trees_solve}
use Rattle.pm_store.proofs.SolutionLemmas.{later_solutions}
use Rattle.pm_diseq.specs.Notes.{Pair, as_pair}
use Rattle.pm_diseq.specs.Standing.{AreIdentical, IsWithin}
use Rattle.pm_diseq.specs.Inside.Support.{HoldBelow}
use Rattle.pm_diseq.specs.Inside.Comparing.{StaysApart, MayNote, IsEqual, AreCells, pair_size, Compares}
use Rattle.pm_diseq.proofs.SupportLemmas.{total, total-append, below_total, all_supported, supported_turn, supported_enter}
use Rattle.pm_diseq.proofs.PlaceLemmas.{zip_within, total-zip, zip_equal, equal_zip, same_terms, same_count}

-- equality of all makes that of the smaller ones
weaken : (s : Equations) (n : ℕ) (pairs : List (ℕ × ℕ)) → All (IsEqual (tree s)) pairs → HoldBelow (pair_size (tree s)) (IsEqual (tree s)) n pairs
weaken s n pairs all = All-weaker (IsEqual (tree s)) (λ q. pair_size (tree s) q < n → IsEqual (tree s) q) (λ q is _. is) pairs all

pub compares_first : (s : Equations) (left right : List ℕ) (pending taken : List (ℕ × ℕ)) → IsWithin s (as_pair left right)
    → pending ≡ zip left right → taken ≡ [] → Compares s (as_pair left right) pending taken
compares_first s left right pending taken within are none =
    subst (λ (ps : List (ℕ × ℕ)). Compares s (as_pair left right) ps taken) (sym are)
    (subst (λ (ps : List (ℕ × ℕ)). Compares s (as_pair left right) (zip left right) ps) (sym none) first)
  where
    first : Compares s (as_pair left right) (zip left right) []
    first = record {
      within = zip_within s left right within.left within.right;
      forced = λ trees _ same. zip_equal trees left right same;
      enough = λ equal _. equal_zip (tree s) left right within.count equal;
      supported = λ n _ _. All-nil (λ q. pair_size (tree s) q < suc n → IsEqual (tree s) q);
    }

pub compares_done : (s : Equations) (pair : Pair) (pending taken : List (ℕ × ℕ)) → pending ≡ [] → Compares s pair pending taken → AreIdentical s pair
compares_done s pair pending taken none compares = ends (subst (λ (ps : List (ℕ × ℕ)). Compares s pair ps taken) none compares)
  where
    ends : Compares s pair [] taken → AreIdentical s pair
    ends last = last.enough (All-nil (IsEqual (tree s))) (all_supported (pair_size (tree s)) (IsEqual (tree s)) taken last.supported)

pub pairs_fewer : (s : Equations) (pending rest : List (ℕ × ℕ)) (p : ℕ × ℕ) → pending ≡ rest ++ p ∷ []
    → total (pair_size (tree s)) rest < total (pair_size (tree s)) pending
pairs_fewer s pending rest p is =
    omega (arith, ap (total (pair_size (tree s))) is, total-append (pair_size (tree s)) rest (p ∷ []), size-positive (tree s p.0))

-- the parts of two applications are smaller together
parts_smaller : (trees : ℕ → Term) (p : ℕ × ℕ) (f g : ℕ) (xs ys : List ℕ) → trees p.0 ≡ app f (as_terms (map trees xs)) → trees p.1 ≡ app g (as_terms (map trees ys))
    → total (pair_size trees) (zip xs ys) < pair_size trees p
parts_smaller trees p f g xs ys left right = omega (arith, total-zip trees xs ys, ap size left, ap size right)

pub parts_fewer : (s : Equations) (pending rest now : List (ℕ × ℕ)) (p : ℕ × ℕ) (f g : ℕ) (xs ys : List ℕ) → pending ≡ rest ++ p ∷ [] → now ≡ rest ++ zip xs ys
    → tree s p.0 ≡ app f (as_terms (map (tree s) xs)) → tree s p.1 ≡ app g (as_terms (map (tree s) ys))
    → total (pair_size (tree s)) now < total (pair_size (tree s)) pending
parts_fewer s pending rest now p f g xs ys is after left right =
    let size_of = pair_size (tree s) in
    omega (arith, ap (total size_of) is, total-append size_of rest (p ∷ []), ap (total size_of) after, total-append size_of rest (zip xs ys), parts_smaller (tree s) p f g xs ys left right)

-- the trees of two cells are one symbol over as many arguments
pub record AreAlike (s : Equations) (p : ℕ × ℕ) (symbol : ℕ) (xs ys : List ℕ) : Type 0 where
  pub left_within : All (λ x. x < length s.cells) xs
  pub right_within : All (λ y. y < length s.cells) ys
  pub count : length xs ≡ length ys
  pub left : (trees : ℕ → Term) → Solves s trees → trees p.0 ≡ app symbol (as_terms (map trees xs))
  pub right : (trees : ℕ → Term) → Solves s trees → trees p.1 ≡ app symbol (as_terms (map trees ys))

same_arguments : (f g : ℕ) (ts us : Terms) → app f ts ≡ app g us → ts ≡ us
same_arguments f g ts us e = cc

same_symbols : (f g : ℕ) (ts us : Terms) → app f ts ≡ app g us → f ≡ g
same_symbols f g ts us e = cc

module _ (s : Equations) (p : ℕ × ℕ) (symbol : ℕ) (xs ys : List ℕ) (alike : AreAlike s p symbol xs ys) where
  parts_of_equal : (trees : ℕ → Term) → Solves s trees → IsEqual trees p → All (IsEqual trees) (zip xs ys)
  parts_of_equal trees solves itself =
      zip_equal trees xs ys
      (same_terms (map trees xs) (map trees ys)
      (same_arguments symbol symbol (as_terms (map trees xs)) (as_terms (map trees ys)) (sym (alike.left trees solves) ∙ itself ∙ alike.right trees solves)))

  equal_by_parts : (trees : ℕ → Term) → Solves s trees → All (IsEqual trees) (zip xs ys) → IsEqual trees p
  equal_by_parts trees solves parts =
      alike.left trees solves ∙ ap (λ ts. app symbol (as_terms ts)) (equal_zip trees xs ys alike.count parts) ∙ sym (alike.right trees solves)

  -- parts that are equal below a number make the whole equal up to it
  equal_below : IsSound s → (n : ℕ) → pair_size (tree s) p < suc n → HoldBelow (pair_size (tree s)) (IsEqual (tree s)) n (zip xs ys) → IsEqual (tree s) p
  equal_below sound n most below =
      equal_by_parts (tree s) (trees_solve s sound)
      (λ k d within. below k d within
      (below_total (pair_size (tree s)) (zip xs ys) n
      (omega (arith, most, parts_smaller (tree s) p symbol symbol xs ys (alike.left (tree s) (trees_solve s sound)) (alike.right (tree s) (trees_solve s sound)))) k d within))

module _ (s : Equations) (pair : Pair) (now rest taken : List (ℕ × ℕ)) (p : ℕ × ℕ) (is : now ≡ rest ++ p ∷ []) (before : Compares s pair now taken) where
  popped : Compares s pair (rest ++ p ∷ []) taken
  popped = subst (λ (ps : List (ℕ × ℕ)). Compares s pair ps taken) is before

  pub pair_within : AreCells s p
  pair_within = All-last (AreCells s) rest p popped.within

  -- parts take the place of two cells
  turn : (parts : List (ℕ × ℕ)) → All (AreCells s) parts
      → ((trees : ℕ → Term) → Solves s trees → IsEqual trees p → All (IsEqual trees) parts)
      → ((n : ℕ) → HoldBelow (pair_size (tree s)) (IsEqual (tree s)) n parts → HoldBelow (pair_size (tree s)) (IsEqual (tree s)) n taken
      → pair_size (tree s) p < n → IsEqual (tree s) p)
      → Compares s pair (rest ++ parts) taken
  turn parts parts_within down up = record {
    within = All-append (AreCells s) rest parts (All-left (AreCells s) rest (p ∷ []) popped.within) parts_within;
    forced = λ trees solves same.
        let held = popped.forced trees solves same in
        All-append (IsEqual trees) rest parts (All-left (IsEqual trees) rest (p ∷ []) held) (down trees solves (All-last (IsEqual trees) rest p held));
    enough = λ equal noted.
        let n : ℕ = suc (pair_size (tree s) p) in
        popped.enough
        (All-push (IsEqual (tree s)) rest p (All-left (IsEqual (tree s)) rest parts equal)
        (up n (weaken s n parts (All-right (IsEqual (tree s)) rest parts equal)) (weaken s n taken noted) (omega arith)))
        noted;
    supported = supported_turn (pair_size (tree s)) (IsEqual (tree s)) rest parts taken p up popped.supported;
  }

  -- two cells are passed over
  turn_drop : ((n : ℕ) → HoldBelow (pair_size (tree s)) (IsEqual (tree s)) n taken → pair_size (tree s) p < n → IsEqual (tree s) p) → Compares s pair rest taken
  turn_drop has =
      subst (λ (ps : List (ℕ × ℕ)). Compares s pair ps taken) (append-nil rest)
      (turn [] (All-nil (AreCells s)) (λ trees _ _. All-nil (IsEqual trees)) (λ n _. has n))

  -- two cells have one tree
  pub turn_equal : IsEqual (tree s) p → Compares s pair rest taken
  turn_equal equal = turn_drop (λ _ _ _. equal)

  -- two cells were taken apart before
  pub turn_again : (keys : List (ℕ × ℕ)) (is_new : Bool) → MayNote taken p keys is_new → is_new ≡ false → Compares s pair rest keys
  turn_again keys is_new noted answer =
      let known : MayNote taken p keys false = subst (λ (b : Bool). MayNote taken p keys b) answer noted in
      subst (λ (ps : List (ℕ × ℕ)). Compares s pair rest ps) (sym known.0)
      (turn_drop (λ n below less. All-contains (λ q. pair_size (tree s) q < n → IsEqual (tree s) q) taken p below known.1 less))

  -- two cells are taken apart
  pub turn_apart : (keys after : List (ℕ × ℕ)) (symbol : ℕ) (xs ys : List ℕ) (is_new : Bool) → IsSound s → MayNote taken p keys is_new → is_new ≡ true → after ≡ rest ++ zip xs ys
      → AreAlike s p symbol xs ys → Compares s pair after keys
  turn_apart keys after symbol xs ys is_new sound noted answer put_in alike =
      let known : MayNote taken p keys true = subst (λ (b : Bool). MayNote taken p keys b) answer noted in
      subst (λ (ps : List (ℕ × ℕ)). Compares s pair ps keys) (sym put_in)
      (elim known [
        | inl same ↦ subst (λ (ps : List (ℕ × ℕ)). Compares s pair (rest ++ zip xs ys) ps) (sym same) opened
        | inr more ↦ subst (λ (ps : List (ℕ × ℕ)). Compares s pair (rest ++ zip xs ys) ps) (sym more) entered
      ])
    where
      opened : Compares s pair (rest ++ zip xs ys) taken
      opened =
          turn (zip xs ys) (zip_within s xs ys alike.left_within alike.right_within) (parts_of_equal s p symbol xs ys alike)
          (λ n below _ less. equal_below s p symbol xs ys alike sound n (omega (arith, less)) below)

      entered : Compares s pair (rest ++ zip xs ys) (taken ++ p ∷ [])
      entered = record {
        within = opened.within;
        forced = opened.forced;
        enough = λ equal noted'. opened.enough equal (All-left (IsEqual (tree s)) taken (p ∷ []) noted');
        supported = supported_enter (pair_size (tree s)) (IsEqual (tree s)) (rest ++ zip xs ys) taken p
            (λ n most below. equal_below s p symbol xs ys alike sound n (omega (arith, most))
            (All-right (λ q. pair_size (tree s) q < n → IsEqual (tree s) q) rest (zip xs ys) below))
            opened.supported;
      }

  -- two cells differ as long as these variables are free, and so do the lists
  stays : (vs : List ℕ) → All (IsFree s) vs
      → ((later : Equations) → IsSound later → Solves s (tree later) → All (IsFree later) vs → IsEqual (tree later) p → ⊥)
      → StaysApart s vs pair
  stays vs free differ = record {
    free = free;
    apart = λ later is_later sound stay_free identical.
        let solves : Solves s (tree later) = later_solutions s later (tree later) is_later (trees_solve later sound) in
        differ later sound solves stay_free (All-last (IsEqual (tree later)) rest p (popped.forced (tree later) solves identical));
  }

  -- two free variables
  pub turn_variables : (v w : ℕ) → IsFree s v → IsFree s w → (v ≡ w → ⊥) → ((trees : ℕ → Term) → Solves s trees → trees p.0 ≡ trees v)
      → ((trees : ℕ → Term) → Solves s trees → trees p.1 ≡ trees w) → StaysApart s (v ∷ w ∷ []) pair
  turn_variables v w free free' other left right =
      stays (v ∷ w ∷ []) (two (IsFree s) free free') (λ later sound solves stay equal.
      let v_free : IsFree later v = All-head (IsFree later) v (w ∷ []) stay in
      let w_free : IsFree later w = All-head (IsFree later) w [] (All-tail (IsFree later) v (w ∷ []) stay) in
      other (inside (sym (free_variables_stand later v sound v_free) ∙ sym (left (tree later) solves) ∙ equal ∙ right (tree later) solves ∙ free_variables_stand later w sound w_free)))
    where
      inside : var v ≡ var w → v ≡ w
      inside e = cc

      two : (P : ℕ → Type 0) → P v → P w → All P (v ∷ w ∷ [])
      two P first second = All-push P (v ∷ []) w (All-push P [] v (All-nil P) first) second

  -- a free variable and an application
  pub turn_variable : (v c d symbol : ℕ) (args : List ℕ) → IsFree s v
      → ((trees : ℕ → Term) → Solves s trees → IsEqual trees p → trees c ≡ trees d)
      → ((trees : ℕ → Term) → Solves s trees → trees c ≡ trees v)
      → ((trees : ℕ → Term) → Solves s trees → trees d ≡ app symbol (as_terms (map trees args))) → StaysApart s (v ∷ []) pair
  turn_variable v c d symbol args free sides left right =
      stays (v ∷ []) (All-push (IsFree s) [] v (All-nil (IsFree s)) free) (λ later sound solves stay equal.
      let v_free : IsFree later v = All-head (IsFree later) v [] stay in
      differ (as_terms (map (tree later) args))
      (sym (free_variables_stand later v sound v_free) ∙ sym (left (tree later) solves) ∙ sides (tree later) solves equal ∙ right (tree later) solves))
    where
      differ : (ts : Terms) → var v ≡ app symbol ts → ⊥
      differ ts e = cc

  -- two applications that differ in their symbols, or in how many arguments they have
  pub turn_clash : (f g : ℕ) (xs ys : List ℕ)
      → ((trees : ℕ → Term) → Solves s trees → trees p.0 ≡ app f (as_terms (map trees xs)))
      → ((trees : ℕ → Term) → Solves s trees → trees p.1 ≡ app g (as_terms (map trees ys)))
      → (f ≡ g → length xs ≡ length ys → ⊥) → StaysApart s [] pair
  turn_clash f g xs ys left right differ =
      stays [] (All-nil (IsFree s)) (λ later _ solves _ equal.
      let trees : ℕ → Term = tree later in
      let joined : app f (as_terms (map trees xs)) ≡ app g (as_terms (map trees ys)) = sym (left trees solves) ∙ equal ∙ right trees solves in
      differ (same_symbols f g (as_terms (map trees xs)) (as_terms (map trees ys)) joined)
      (same_count trees xs ys (same_terms (map trees xs) (map trees ys) (same_arguments f g (as_terms (map trees xs)) (as_terms (map trees ys)) joined))))
