-- What is left of pairs when one of them is taken.
use Rattle.std.proofs.Common.{◌≡◌, ℕ, ◌+◌, ◌<◌, List, [], ◌∷◌, ◌++◌, length, map, sym, ◌∙◌, ap, arith}
use Rattle.std.specs.Prelude.{◌↔◌, All, Contains, ⊤}
use Rattle.std.specs.List.{zip}
use Rattle.std.proofs.lemmas.List.Elements.{All-append, All-push, All-contains}
use Rattle.pm_logic.specs.Term.{Term, app, as_terms}
use Rattle.pm_store.specs.Equations.{Equations}
use Rattle.pm_store.specs.Solutions.{Solves}
use Rattle.pm_store.specs.Trees.{size, size_among}
use Rattle.pm_unify.specs.Inside.Pairs.{IsEqual, IsPairWithin, ArePairsWithin, AreSupported, pair_size}
use Rattle.pm_unify.specs.Inside.Steps.{Leaves}
use Rattle.pm_unify.proofs.SupportLemmas.{supported_drop, supported_again, supported_open, supported_enter}
use Rattle.pm_store.proofs.ListLemmas.{All-left, All-right, All-last}
use Rattle.pm_unify.proofs.PairLemmas.{zip_within, zip_smaller, zip_equal, equal_zip}

pub leaves_all : (s : Equations) (pending taken : List (ℕ × ℕ)) → ArePairsWithin s pending → AreSupported s pending taken
    → Leaves s (λ trees. ⊤) pending taken pending taken
leaves_all s pending taken within supported = record {
  within = within;
  same = λ trees solves. (λ equal. (tt, equal), λ equal. equal.1);
  supported = λ trees solves _. supported trees solves;
}

-- a pair that is equal exactly where this holds gives way to it
pub leaves_drop : (s : Equations) (holds : (ℕ → Term) → Type 0) (pending taken rest taken' : List (ℕ × ℕ)) (p : ℕ × ℕ)
    → ((trees : ℕ → Term) → Solves s trees → IsEqual trees p ↔ holds trees)
    → Leaves s (λ trees. ⊤) pending taken (rest ++ p ∷ []) taken' → Leaves s holds pending taken rest taken'
leaves_drop s holds pending taken rest taken' p is leaves = record {
  within = All-left (IsPairWithin s) rest (p ∷ []) leaves.within;
  same = λ trees solves.
      let before = leaves.same trees solves in (
        λ equal.
            let after = (before.0 equal).1 in
            ((is trees solves).0 (All-last (IsEqual trees) rest p after.0), (All-left (IsEqual trees) rest (p ∷ []) after.0, after.1)),
        λ after. before.1 (tt, (All-push (IsEqual trees) rest p after.1.0 ((is trees solves).1 after.0), after.1.1)),
      );
  supported = λ trees solves has.
      supported_drop (pair_size trees) (IsEqual trees) rest taken' p (λ n below less. (is trees solves).1 has) (leaves.supported trees solves tt);
}

-- a pair that was taken apart is passed over
pub leaves_again : (s : Equations) (pending taken rest taken' : List (ℕ × ℕ)) (p : ℕ × ℕ) → Contains taken' p
    → Leaves s (λ trees. ⊤) pending taken (rest ++ p ∷ []) taken' → Leaves s (λ trees. ⊤) pending taken rest taken'
leaves_again s pending taken rest taken' p there leaves = record {
  within = All-left (IsPairWithin s) rest (p ∷ []) leaves.within;
  same = λ trees solves.
      let before = leaves.same trees solves in (
        λ equal. let after = (before.0 equal).1 in (tt, (All-left (IsEqual trees) rest (p ∷ []) after.0, after.1)),
        λ after. before.1 (tt, (All-push (IsEqual trees) rest p after.1.0 (All-contains (IsEqual trees) taken' p after.1.1 there), after.1.1)),
      );
  supported = λ trees solves _.
      supported_again (pair_size trees) (IsEqual trees) rest taken' p there (leaves.supported trees solves tt);
}

-- the trees of two cells are one symbol over as many arguments
pub record AreAlike (s : Equations) (p : ℕ × ℕ) (symbol : ℕ) (xs ys : List ℕ) : Type 0 where
  pub left_within : All (λ x. x < length s.cells) xs
  pub right_within : All (λ y. y < length s.cells) ys
  pub count : length xs ≡ length ys
  pub left : (trees : ℕ → Term) → Solves s trees → trees p.0 ≡ app symbol (as_terms (map trees xs))
  pub right : (trees : ℕ → Term) → Solves s trees → trees p.1 ≡ app symbol (as_terms (map trees ys))

module _ (s : Equations) (p : ℕ × ℕ) (symbol : ℕ) (xs ys : List ℕ) (alike : AreAlike s p symbol xs ys) (trees : ℕ → Term) (solves : Solves s trees) where
  -- such a pair is equal exactly where its parts are, which are smaller
  parts_of_equal : IsEqual trees p → All (IsEqual trees) (zip xs ys)
  parts_of_equal itself = zip_equal trees xs ys (arguments (sym (alike.left trees solves) ∙ itself ∙ alike.right trees solves))
    where
      arguments : app symbol (as_terms (map trees xs)) ≡ app symbol (as_terms (map trees ys)) → as_terms (map trees xs) ≡ as_terms (map trees ys)
      arguments e = cc

  equal_by_parts : All (IsEqual trees) (zip xs ys) → IsEqual trees p
  equal_by_parts parts = alike.left trees solves ∙ ap (app symbol) (equal_zip trees xs ys alike.count parts) ∙ sym (alike.right trees solves)

  smaller_parts : All (λ q. pair_size trees q < pair_size trees p) (zip xs ys)
  smaller_parts = zip_smaller trees xs ys (pair_size trees p) (smaller (ap size (alike.left trees solves)) (ap size (alike.right trees solves)))
    where
      smaller : size (trees p.0) ≡ 1 + size_among (as_terms (map trees xs)) → size (trees p.1) ≡ 1 + size_among (as_terms (map trees ys))
          → size_among (as_terms (map trees xs)) + size_among (as_terms (map trees ys)) < pair_size trees p
      smaller left right = omega (arith, left, right)

module _ (s : Equations) (pending taken rest taken' : List (ℕ × ℕ)) (p : ℕ × ℕ) (symbol : ℕ) (xs ys : List ℕ) (alike : AreAlike s p symbol xs ys)
    (leaves : Leaves s (λ trees. ⊤) pending taken (rest ++ p ∷ []) taken') where
  within_parts : ArePairsWithin s (rest ++ zip xs ys)
  within_parts =
      All-append (IsPairWithin s) rest (zip xs ys) (All-left (IsPairWithin s) rest (p ∷ []) leaves.within) (zip_within s xs ys alike.left_within alike.right_within)

  -- a pair is taken apart, and isn't noted
  pub leaves_open : Leaves s (λ trees. ⊤) pending taken (rest ++ zip xs ys) taken'
  leaves_open = record {
    within = within_parts;
    same = λ trees solves.
        let before = leaves.same trees solves in (
          λ equal.
              let after = (before.0 equal).1 in
              let parts = parts_of_equal s p symbol xs ys alike trees solves (All-last (IsEqual trees) rest p after.0) in
              (tt, (All-append (IsEqual trees) rest (zip xs ys) (All-left (IsEqual trees) rest (p ∷ []) after.0) parts, after.1)),
          λ after.
              let itself : IsEqual trees p = equal_by_parts s p symbol xs ys alike trees solves (All-right (IsEqual trees) rest (zip xs ys) after.1.0) in
              before.1 (tt, (All-push (IsEqual trees) rest p (All-left (IsEqual trees) rest (zip xs ys) after.1.0) itself, after.1.1)),
        );
    supported = λ trees solves _.
        supported_open (pair_size trees) (IsEqual trees) rest (zip xs ys) taken' p (smaller_parts s p symbol xs ys alike trees solves)
        (equal_by_parts s p symbol xs ys alike trees solves) (leaves.supported trees solves tt);
  }

  -- so where it is noted
  pub leaves_apart : Leaves s (λ trees. ⊤) pending taken (rest ++ zip xs ys) (taken' ++ p ∷ [])
  leaves_apart = record {
    within = within_parts;
    same = λ trees solves.
        let before = leaves.same trees solves in (
          λ equal.
              let after = (before.0 equal).1 in
              let itself : IsEqual trees p = All-last (IsEqual trees) rest p after.0 in
              let parts = parts_of_equal s p symbol xs ys alike trees solves itself in
              (tt, (All-append (IsEqual trees) rest (zip xs ys) (All-left (IsEqual trees) rest (p ∷ []) after.0) parts, All-push (IsEqual trees) taken' p after.1 itself)),
          λ after.
              let itself : IsEqual trees p = All-last (IsEqual trees) taken' p after.1.1 in
              before.1 (tt, (All-push (IsEqual trees) rest p (All-left (IsEqual trees) rest (zip xs ys) after.1.0) itself, All-left (IsEqual trees) taken' (p ∷ []) after.1.1)),
        );
    supported = λ trees solves _.
        supported_enter (pair_size trees) (IsEqual trees) rest (zip xs ys) taken' p (smaller_parts s p symbol xs ys alike trees solves)
        (equal_by_parts s p symbol xs ys alike trees solves) (leaves.supported trees solves tt);
  }
