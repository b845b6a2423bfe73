-- One turn of a loop that takes a pair, or a cell, from those that are pending.
use Rattle.std.proofs.Common.{◌≡◌, ◌≢◌, ℕ, ◌<◌, inl, inr, Bool, true, false, not, eqb, List, [], ◌∷◌, ◌++◌, length, map, refl, sym, ◌∙◌, ap, subst, arith, eqb-true, eq-eqb, true≢false}
use Rattle.std.specs.Prelude.{◌↔◌, ⊤}
use Rattle.std.specs.List.{zip}
use Rattle.pm_logic.specs.Term.{Term, var, app, Terms, as_terms}
use Rattle.pm_store.specs.Equations.{Equations, IsFree}
use Rattle.pm_store.specs.Solutions.{Solves}
use Rattle.pm_store.specs.Trees.{tree, size}
use Rattle.pm_store.specs.Sound.{IsSound}
use Rattle.pm_store.proofs.TermLemmas.{size-positive}
use Rattle.pm_store.proofs.TreeLemmas.{free_variables_stand}
use Rattle.pm_unify.specs.Inside.Support.{Notes}
use Rattle.pm_unify.specs.Inside.Pairs.{IsEqual, IsPairWithin, AreEqual, pair_size}
use Rattle.pm_unify.specs.Inside.Steps.{Leaves, Binds}
use Rattle.pm_unify.proofs.SupportLemmas.{total, total-append}
use Rattle.pm_store.proofs.ListLemmas.{All-last}
use Rattle.pm_unify.proofs.PairLemmas.{total-zip, same_count}
use Rattle.pm_unify.proofs.LeavesLemmas.{leaves_drop, leaves_again, leaves_open, leaves_apart, AreAlike}

pub total-popped : {A : Type 0} (size_of : A → ℕ) (pending rest : List A) (x : A) → pending ≡ rest ++ x ∷ [] → 0 < size_of x
    → total size_of rest < total size_of pending
total-popped size_of pending rest x is positive =
    omega (arith, ap (total size_of) is, total-append size_of rest (x ∷ []), positive)

pub total-replaced : {A : Type 0} (size_of : A → ℕ) (pending rest parts now : List A) (x : A) → pending ≡ rest ++ x ∷ [] → now ≡ rest ++ parts
    → total size_of parts < size_of x → total size_of now < total size_of pending
total-replaced size_of pending rest parts now x is after less =
    omega (arith, ap (total size_of) is, total-append size_of rest (x ∷ []), ap (total size_of) after, total-append size_of rest parts, less)

pub pairs_fewer : (trees : ℕ → Term) (pending rest : List (ℕ × ℕ)) (p : ℕ × ℕ) → pending ≡ rest ++ p ∷ []
    → total (pair_size trees) rest < total (pair_size trees) pending
pairs_fewer trees pending rest p is = total-popped (pair_size trees) pending rest p is (omega (arith, size-positive (trees p.0)))

pub parts_smaller : (trees : ℕ → Term) (p : ℕ × ℕ) (f g : ℕ) (xs ys : List ℕ) → trees p.0 ≡ app f (as_terms (map trees xs)) → trees p.1 ≡ app g (as_terms (map trees ys))
    → total (pair_size trees) (zip xs ys) < pair_size trees p
parts_smaller trees p f g xs ys left right = omega (arith, total-zip trees xs ys, ap size left, ap size right)

-- from a test whether numbers differ
pub numbers_differ : (m n : ℕ) → not (eqb m n) ≡ true → m ≡ n → ⊥
numbers_differ m n test same = by (eqb m n) (eq-eqb m n same) test
  where
    by : (b : Bool) → b ≡ true → not b ≡ true → ⊥
    by true is test = true≢false (sym test)
    by false is test = true≢false (sym is)

pub numbers_same : (m n : ℕ) → not (eqb m n) ≡ false → m ≡ n
numbers_same m n test = eqb-true m n (by (eqb m n) test)
  where
    by : (b : Bool) → not b ≡ false → b ≡ true
    by true test = refl
    by false test = absurd (true≢false test)

-- a term that isn't this variable
pub variable_apart : (s : Equations) (v w : ℕ) → IsSound s → IsFree s w → (v ≡ w → ⊥) → tree s w ≢ var v
variable_apart s v w sound free apart e = apart (sym (inside (sym (free_variables_stand s w sound free) ∙ e)))
  where
    inside : var w ≡ var v → w ≡ v
    inside same = cc

pub application_apart : (t u : Term) (symbol v : ℕ) (args : Terms) → u ≡ t → u ≡ app symbol args → t ≢ var v
application_apart t u symbol v args same is e = absurd (apart (sym is ∙ same ∙ e))
  where
    apart : app symbol args ≡ var v → ⊥
    apart same = cc

module _ (s : Equations) (pending taken now rest taken' : List (ℕ × ℕ)) (p : ℕ × ℕ) (is : now ≡ rest ++ p ∷ [])
    (before : Leaves s (λ trees. ⊤) pending taken now taken') where
  popped : Leaves s (λ trees. ⊤) pending taken (rest ++ p ∷ []) taken'
  popped = subst (λ (ps : List (ℕ × ℕ)). Leaves s (λ trees. ⊤) pending taken ps taken') is before

  pub pair_within : IsPairWithin s p
  pair_within = All-last (IsPairWithin s) rest p popped.within

  -- the pair is equal in each solution
  pub turn_equal : ((trees : ℕ → Term) → Solves s trees → IsEqual trees p) → Leaves s (λ trees. ⊤) pending taken rest taken'
  turn_equal equal = leaves_drop s (λ trees. ⊤) pending taken rest taken' p (λ trees solves. (λ _. tt, λ _. equal trees solves)) popped

  -- the pair is that of a free variable and another cell
  turn_binds : (v t : ℕ) → IsFree s v → t < length s.cells → tree s t ≢ var v
      → ((trees : ℕ → Term) → Solves s trees → IsEqual trees p ↔ (trees v ≡ trees t)) → Binds s v t pending taken rest taken'
  turn_binds v t free within other same = record {
    free = free;
    within = within;
    other = other;
    leaves = leaves_drop s (λ trees. trees v ≡ trees t) pending taken rest taken' p same popped;
  }

  -- the first cell's end is a free variable, and the second's is another cell
  pub turn_binds_left : (v t : ℕ) → IsFree s v → t < length s.cells → tree s t ≢ var v → ((trees : ℕ → Term) → Solves s trees → trees p.0 ≡ trees v)
      → ((trees : ℕ → Term) → Solves s trees → trees p.1 ≡ trees t) → Binds s v t pending taken rest taken'
  turn_binds_left v t free within other left right =
      turn_binds v t free within other (λ trees solves. (
        λ equal. sym (left trees solves) ∙ equal ∙ right trees solves,
        λ equal. left trees solves ∙ equal ∙ sym (right trees solves),
      ))

  -- or the second's is a free variable, and the first's is another cell
  pub turn_binds_right : (w t : ℕ) → IsFree s w → t < length s.cells → tree s t ≢ var w → ((trees : ℕ → Term) → Solves s trees → trees p.1 ≡ trees w)
      → ((trees : ℕ → Term) → Solves s trees → trees p.0 ≡ trees t) → Binds s w t pending taken rest taken'
  turn_binds_right w t free within other right left =
      turn_binds w t free within other (λ trees solves. (
        λ equal. sym (right trees solves) ∙ sym equal ∙ left trees solves,
        λ equal. left trees solves ∙ sym equal ∙ sym (right trees solves),
      ))

  -- two applications differ in their symbols, or in how many arguments they have
  pub turn_clashes : (f g : ℕ) (xs ys : List ℕ)
      → ((trees : ℕ → Term) → Solves s trees → trees p.0 ≡ app f (as_terms (map trees xs)))
      → ((trees : ℕ → Term) → Solves s trees → trees p.1 ≡ app g (as_terms (map trees ys)))
      → (f ≡ g → length xs ≡ length ys → ⊥)
      → (trees : ℕ → Term) → Solves s trees → ¬ AreEqual trees pending taken
  turn_clashes f g xs ys left right differ trees solves equal =
      let itself : IsEqual trees p = All-last (IsEqual trees) rest p ((popped.same trees solves).0 equal).1.0 in
      let joined : app f (as_terms (map trees xs)) ≡ app g (as_terms (map trees ys)) = sym (left trees solves) ∙ itself ∙ right trees solves in
      differ (symbols joined) (same_count trees xs ys (arguments joined))
    where
      symbols : app f (as_terms (map trees xs)) ≡ app g (as_terms (map trees ys)) → f ≡ g
      symbols e = cc

      arguments : app f (as_terms (map trees xs)) ≡ app g (as_terms (map trees ys)) → as_terms (map trees xs) ≡ as_terms (map trees ys)
      arguments e = cc

  -- the pair was taken apart before
  pub turn_again : (keys : List (ℕ × ℕ)) (is_new : Bool) → Notes taken' keys p is_new → is_new ≡ false → Leaves s (λ trees. ⊤) pending taken rest keys
  turn_again keys is_new noted answer =
      let notes : Notes taken' keys p false = subst (λ (b : Bool). Notes taken' keys p b) answer noted in
      subst (λ (ps : List (ℕ × ℕ)). Leaves s (λ trees. ⊤) pending taken rest ps) (sym notes.0)
      (leaves_again s pending taken rest taken' p notes.1 popped)

  -- the pair is taken apart
  pub turn_apart : (keys after : List (ℕ × ℕ)) (symbol : ℕ) (xs ys : List ℕ) (is_new : Bool) → Notes taken' keys p is_new → is_new ≡ true → after ≡ rest ++ zip xs ys
      → AreAlike s p symbol xs ys → Leaves s (λ trees. ⊤) pending taken after keys
  turn_apart keys after symbol xs ys is_new noted answer put_in alike =
      let notes : Notes taken' keys p true = subst (λ (b : Bool). Notes taken' keys p b) answer noted in
      let by_keys : List (ℕ × ℕ) → Type 0 = λ ps. Leaves s (λ trees. ⊤) pending taken (rest ++ zip xs ys) ps in
      subst (λ (ps : List (ℕ × ℕ)). Leaves s (λ trees. ⊤) pending taken ps keys) (sym put_in)
      (elim notes [
        | inl same ↦ subst by_keys (sym same) (leaves_open s pending taken rest taken' p symbol xs ys alike popped)
        | inr more ↦ subst by_keys (sym more) (leaves_apart s pending taken rest taken' p symbol xs ys alike popped)
      ])
