-- The paths of toy spaces: what a longer and a shorter path read as, and how large that is.
use Rattle.std.proofs.Common.{◌≡◌, ℕ, ◌+◌, ◌*◌, ◌/◌, ◌<◌, ◌≤◌, ◌∙◌, List, [], ◌∷◌, ◌++◌, Option, None, Some, length, refl, sym, ap, subst, arith}
use Rattle.std.specs.Prelude.{◌^◌, All}
use Rattle.std.specs.Option.{IsSome, option_to_list}
use Rattle.std.proofs.Math.Nat.{pow-zero, pow-succ', pow-le-pow_right, mul-le-mul_right, mul-one, one-mul, mul_assoc, add-mul}
use Rattle.std.proofs.lemmas.Nat.{div-mul-add, mul-le}
use Rattle.std.proofs.lemmas.List.{length_push}
use Rattle.std.proofs.lemmas.List.Elements.{All-push, All-head, All-tail}
use Rattle.std.proofs.lemmas.Bool.Decides.{nat_tests}
use Rattle.pm_space.specs.Toy.{IsInToy, toy_width, value_after, value_of}
use Rattle.pm_space.specs.Inside.ToyLaws.{in_front}

pub value_push : (branch value : ℕ) (list : List ℕ) (digit : ℕ) → value_after branch value (list ++ digit ∷ []) ≡ value_after branch value list * branch + digit
unfolding value_after
value_push branch value [] digit = refl
value_push branch value (first ∷ rest) digit = value_push branch (value * branch + first) rest digit

value_below : (branch value : ℕ) (list : List ℕ) → branch ≤ 10 → All (λ digit. digit < branch) list → value_after branch value list < (value + 1) * 10 ^ length list
unfolding value_after
value_below branch value [] narrow below =
    let one : (value + 1) * 10 ^ 0 ≡ value + 1 = ap (λ (n : ℕ). (value + 1) * n) (pow-zero 10) ∙ mul-one (value + 1) in
    subst (λ (n : ℕ). value < n) (sym one) (omega arith)
value_below branch value (first ∷ rest) narrow below =
    let digit : first < branch = All-head (λ digit. digit < branch) first rest below in
    let after = value_below branch (value * branch + first) rest narrow (All-tail (λ digit. digit < branch) first rest below) in
    let wide : (value + 1) * branch ≤ (value + 1) * 10 = mul-le (value + 1) branch (value + 1) 10 (omega arith) narrow in
    let parts : (value + 1) * branch ≡ value * branch + branch = add-mul value 1 branch ∙ ap (λ (n : ℕ). value * branch + n) (one-mul branch) in
    let next : value * branch + first + 1 ≤ (value + 1) * 10 = omega arith in
    let scaled = mul-le-mul_right (10 ^ length rest) next in
    let whole : (value + 1) * 10 * 10 ^ length rest ≡ (value + 1) * 10 ^ length (first ∷ rest) =
    mul_assoc (value + 1) 10 (10 ^ length rest) ∙ ap (λ (n : ℕ). (value + 1) * n) (sym (pow-succ' 10 (length rest))) in
    omega arith

-- a path of at most ten digits, each below ten, reads as less than 10 ^ 10
value_small : (branch most : ℕ) (list : List ℕ) → branch ≤ 10 → most ≤ 10 → IsInToy branch most list → value_of branch list < 10 ^ 10
value_small branch most list narrow few is =
    let below : value_of branch list < 1 * 10 ^ length list = value_below branch 0 list narrow is.below in
    let power : 10 ^ length list ≤ 10 ^ 10 = pow-le-pow_right {n = 10} (omega arith) {i = length list} {j = 10} (omega (arith, is.short)) in
    omega arith

-- times the branch it is below 10 ^ 11
pub scaled_small : (branch most value : ℕ) (list : List ℕ) → branch ≤ 10 → most ≤ 10 → IsInToy branch most list → value ≡ value_of branch list → value * branch ≤ 100000000000
scaled_small branch most value list narrow few is reads =
    let small : value < 10 ^ 10 = subst (λ (n : ℕ). n < 10 ^ 10) (sym reads) (value_small branch most list narrow few is) in
    mul-le value branch 10000000000 10 (omega arith) narrow

less_inside : (branch most : ℕ) (list : List ℕ) (digit : ℕ) → digit < toy_width branch most list → length list < most
less_inside branch most list digit less = grind (arith, nat_tests)

below_branch : (branch most : ℕ) (list : List ℕ) (digit : ℕ) → digit < toy_width branch most list → digit < branch
below_branch branch most list digit less = grind (arith, nat_tests)

pub longer_inside : (branch most : ℕ) (list : List ℕ) (digit : ℕ) → IsInToy branch most list → digit < toy_width branch most list → IsInToy branch most (list ++ digit ∷ [])
longer_inside branch most list digit is less = record {
  short = subst (λ (n : ℕ). n ≤ most) (sym (length_push list digit)) (let room = less_inside branch most list digit less in omega arith);
  below = All-push (λ k. k < branch) list digit is.below (below_branch branch most list digit less);
}

-- the value of a path without its last digit
value_pop : (branch most value : ℕ) (list : List ℕ) (digit : ℕ) → IsInToy branch most (list ++ digit ∷ []) → value ≡ value_of branch (list ++ digit ∷ []) → value / branch ≡ value_of branch list
value_pop branch most value list digit is reads =
    ap (λ (n : ℕ). n / branch) (reads ∙ value_push branch 0 list digit) ∙ div-mul-add (value_of branch list) branch digit (in_front branch most list digit is).1

-- what `pop` leaves is in the toy space, and reads as the value divided by the branch
pub popped : (branch most value : ℕ) (list rest : List ℕ) (digit : Option ℕ) → IsInToy branch most list → value ≡ value_of branch list → IsSome digit → list ≡ rest ++ option_to_list digit → IsInToy branch most rest × (value / branch ≡ value_of branch rest)
popped branch most value list rest None is reads some parts = cc
popped branch most value list rest (Some digit) is reads some parts =
    let longer = subst (λ (l : List ℕ). IsInToy branch most l) parts is in
    ((in_front branch most rest digit longer).0, value_pop branch most value rest digit longer (reads ∙ ap (value_of branch) parts))
