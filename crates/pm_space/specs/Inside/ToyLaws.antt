-- The toy space's key has the laws of every key.
use Rattle.std.specs.Prelude.{◌≡◌, ℕ, ◌<◌, ◌≤◌, List, [], ◌∷◌, ◌++◌, length, Some}
use Rattle.std.proofs.Common.{arith, refl, sym, subst}
use Rattle.std.proofs.lemmas.List.{length_push}
use Rattle.std.proofs.lemmas.List.Elements.{All-pop}
use Rattle.std.proofs.lemmas.Bool.Decides.{nat_tests}
use Rattle.pm_space.specs.Key.{IsKey}
use Rattle.pm_space.specs.Toy.{IsInToy, toy_width, toy_key}

wide_inside :
    (branch most : ℕ) (list : List ℕ) → length list < most → toy_width branch most list ≡ branch
wide_inside branch most list less = grind (arith, nat_tests)

none_at_end :
    (branch most : ℕ) (list : List ℕ) → length list ≡ most → toy_width branch most list ≡ 0
none_at_end branch most list same = grind (arith, nat_tests)

shorter : (list : List ℕ) (digit most : ℕ) → length (list ++ digit ∷ []) ≤ most → length list < most
shorter list digit most short =
    let longer = length_push list digit in
    omega (arith, longer)

pub in_front :
    (branch most : ℕ) (list : List ℕ) (digit : ℕ) → IsInToy branch most (list ++ digit ∷ [])
    → IsInToy branch most list × (digit < branch)
in_front branch most list digit is =
    let below = All-pop (λ k. k < branch) (list ++ digit ∷ []) list (Some digit) refl is.below in
    let less = shorter list digit most is.short in
    (record { short = omega arith; below = below.0 }, below.1)

pub toy_laws : (branch most goal : ℕ) → 0 < most → IsKey (toy_key branch most goal)
toy_laws branch most goal long = record {
  complete_reached = λ list is. is.inside;
  complete_chosen = λ is. absurd (omega (arith, is.full));
  complete_ends = λ list is. none_at_end branch most list is.full;
  prefix = λ list digit is. (in_front branch most list digit is).0;
  below = λ list digit is.
      let wide = wide_inside branch most list (shorter list digit most is.short) in
      subst (λ (n : ℕ). digit < n) (sym wide) (in_front branch most list digit is).1;
}
