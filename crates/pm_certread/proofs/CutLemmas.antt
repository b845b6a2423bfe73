-- Words as the code cuts them and reads them.
use Rattle.std.proofs.Common.{◌≡◌, ◌≢◌, ◌∙◌, ℕ, zero, suc, ◌-◌, ◌<◌, ◌≤◌, List, [], ◌∷◌, ◌++◌, length, take, drop, map, get_or, refl, sym, ap, arith, decimal, append_assoc, Bor}
use Rattle.std.specs.List.{All}
use Rattle.std.proofs.lemmas.List.{take_all, map-append}
use Rattle.pm_certread.specs.declared.words.Place.TheVariants.{Outside}
use Rattle.pm_certread.specs.Forms.{IsNumber}
use Rattle.pm_certread.specs.Inside.Words.{words_of, first_length}
use Rattle.pm_certread.specs.Inside.Cuts.{bytes_of}
use Rattle.pm_certread.proofs.WordLemmas.{cut_word, last_word}

drop_on : (n : ℕ) (xs : List ℕ) → drop 1 (drop n xs) ≡ drop (suc n) xs
drop_on zero xs = refl
drop_on (suc n) [] = refl
drop_on (suc n) (x ∷ xs) = drop_on n xs

few : (xs : List ℕ) → length (drop 1 xs) ≤ length xs - 1
few [] = omega arith
few (x ∷ xs) = omega arith

pub behind_word : (rest back : List ℕ) (n : ℕ) → back ≡ drop n rest → take (length back - 1) (drop 1 back) ≡ drop (suc n) rest
behind_word rest back n is =
    take_all (length back - 1) (drop 1 back) (few back)
    ∙ ap (drop 1) is ∙ drop_on n rest

pub cut_on : (before after : List (Bor (List ℕ))) (line rest next : List ℕ) (word : Bor (List ℕ)) (n : ℕ) → n ≡ first_length Outside rest → n < length rest
    → word.now ≡ take n rest → next ≡ drop (suc n) rest → after ≡ before ++ word ∷ []
    → bytes_of before ++ words_of rest ≡ words_of line → bytes_of after ++ words_of next ≡ words_of line
cut_on before after line rest next word n is lt front back grown so_far =
    let cut = cut_word Outside rest (rw (← is) lt) in
    ap (λ (ws : List (Bor (List ℕ))). bytes_of ws ++ words_of next) grown
    ∙ ap (λ (ws : List (List ℕ)). ws ++ words_of next) (map-append (λ (w : Bor (List ℕ)). w.now) before (word ∷ []))
    ∙ append_assoc (bytes_of before) (word.now ∷ []) (words_of next)
    ∙ ap (λ (w : List ℕ). bytes_of before ++ w ∷ words_of next) (front ∙ ap (λ (k : ℕ). take k rest) is)
    ∙ ap (λ (x : List ℕ). bytes_of before ++ take (first_length Outside rest) rest ∷ words_of x) (back ∙ ap (λ (k : ℕ). drop (suc k) rest) is)
    ∙ ap (λ (ws : List (List ℕ)). bytes_of before ++ ws) (sym cut)
    ∙ so_far

pub cut_last : (before after : List (Bor (List ℕ))) (line : List ℕ) (rest : Bor (List ℕ)) (n : ℕ) → n ≡ first_length Outside rest.now → length rest.now ≤ n
    → after ≡ before ++ rest ∷ [] → bytes_of before ++ words_of rest.now ≡ words_of line → bytes_of after ≡ words_of line
cut_last before after line rest n is le grown so_far =
    ap bytes_of grown
    ∙ map-append (λ (w : Bor (List ℕ)). w.now) before (rest ∷ [])
    ∙ ap (λ (ws : List (List ℕ)). bytes_of before ++ ws) (sym (last_word Outside rest.now (rw (← is) le)))
    ∙ so_far

pub not_numbers : (words : List (Bor (List ℕ))) (i : ℕ) (d : Bor (List ℕ)) → i < length words → ((n : ℕ) → IsNumber n → (get_or words i d).now ≢ decimal n)
    → (ns : List ℕ) → All IsNumber ns → bytes_of words ≢ map decimal ns
not_numbers [] i d lt bad ns small e = omega arith
not_numbers (w ∷ words) i d lt bad [] small e = absurd cc
not_numbers (w ∷ words) zero d lt bad (n ∷ ns) small e = bad n (small 0 0 (omega arith)) cc
not_numbers (w ∷ words) (suc i) d lt bad (n ∷ ns) small e = not_numbers words i d (omega arith) bad ns (λ k x lt. small (suc k) x (omega arith)) cc
