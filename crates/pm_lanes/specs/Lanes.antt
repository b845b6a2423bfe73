-- At which places four columns of numbers agree with a goal's four numbers.
use Rattle.std.specs.Prelude.{ℕ, Bool, ◌||◌, ◌&&◌, ◌==◌, List, slice_index}

-- two numbers of symbols agree: both are the same, or one is 0, which stands for no symbol
abbrev pub agrees : ℕ → ℕ → Bool
agrees wanted entry = entry == wanted || entry == 0 || wanted == 0

-- the goal's four numbers agree with those that the four columns have at this place
abbrev pub is_compatible : List ℕ → List ℕ → List ℕ → List ℕ → List ℕ → ℕ → Bool
is_compatible goal c0 c1 c2 c3 place =
    agrees (slice_index goal 0) (slice_index c0 place)
    && agrees (slice_index goal 1) (slice_index c1 place)
    && agrees (slice_index goal 2) (slice_index c2 place)
    && agrees (slice_index goal 3) (slice_index c3 place)
