-- A read onto the end of a buffer.
use Rattle.std.proofs.Common.{◌≡◌, ℕ, ◌+◌, ◌-◌, ◌≤◌, List, ◌++◌, length, take, replicate, ap, ◌∙◌, append_assoc, arith}
use Rattle.std.proofs.lemmas.List.{take-take, take-append-le, take_all}
use Rattle.std.proofs.Math.Seq.{take-append-add, take-append_seam}

appended_to : (old buf post tail : List ℕ) (n len : ℕ) → n ≤ length buf → length old + n ≤ len
    → take (length old + n) (take len ((old ++ (buf ++ post)) ++ tail)) ≡ old ++ take n buf
appended_to old buf post tail n len within fits =
    take-take (length old + n) len _ fits
    ∙ ap (take (length old + n)) (append_assoc old (buf ++ post) tail)
    ∙ take-append-add old ((buf ++ post) ++ tail) n
    ∙ ap (λ xs. old ++ xs) (ap (take n) (append_assoc buf post tail) ∙ take-append-le n buf (post ++ tail) within)

-- what is left of a buffer that was made longer, written past its old end, and cut to what was written
pub appended : (old head buf post tail : List ℕ) (start n len : ℕ) → start ≡ length old → head ≡ old → n ≤ length buf → start + n ≤ len
    → take (start + n) (take len ((head ++ (buf ++ post)) ++ tail)) ≡ old ++ take n buf
appended old head buf post tail start n len is_end kept within fits =
    rw (is_end, kept) (appended_to old buf post tail n len within (rw is_end at fits))

-- the old bytes are at the front of the longer buffer
pub lengthened : (old new more : List ℕ) (start : ℕ) → start ≡ length old → new ≡ old ++ more → take start new ≡ old
lengthened old new more start is_end longer = rw (is_end, longer) (take-append_seam old more)

-- what `resize` leaves of a buffer that it makes longer
pub resized : (old : List ℕ) (start most len : ℕ) → start ≡ length old → len ≡ length old
    → take (start + most) old ++ replicate (start + most - len) 0 ≡ old ++ replicate most 0
resized old start most len is_end all =
    ap (λ xs. xs ++ replicate (start + most - len) 0) (take_all (start + most) old (omega arith))
    ∙ ap (λ n. old ++ replicate n 0) (let more : start + most - len ≡ most = omega arith in more)
