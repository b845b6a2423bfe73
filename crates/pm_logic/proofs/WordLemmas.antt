-- What stands in a list of bytes while a text is written between quotes.
use Rattle.std.proofs.Common.{◌≡◌, ℕ, ◌+◌, ◌<◌, ◌≤◌, List, [], ◌∷◌, ◌++◌, length, take, drop, get_or, sym, ◌∙◌, ap}
use Rattle.std.specs.List.{flat_map}
use Rattle.std.proofs.lemmas.List.{take-append-drop, append_assoc, take_more, take_all, flat_map_more}
use Rattle.std.proofs.Math.Seq.{take-append_seam}
use Rattle.pm_logic.specs.Word.{escaped, quoted}

-- what stood before what was appended still stands where that was kept
pub take-begin : {A : Type 0} (old between new more : List A) → between ≡ old ++ more → take (length between) new ≡ between → take (length old) new ≡ old
take-begin old between new more is same =
    let rest = drop (length between) new in
    let whole : new ≡ old ++ (more ++ rest) =
    sym (take-append-drop (length between) new) ∙ ap (λ xs. xs ++ rest) (same ∙ is) ∙ append_assoc old more rest in
    ap (take (length old)) whole ∙ take-append_seam old (more ++ rest)

pub take-old : {A : Type 0} (old new more : List A) → new ≡ old ++ more → take (length old) new ≡ old
take-old old new more is = ap (take (length old)) is ∙ take-append_seam old more

-- the quote and the first bytes, escaped
abbrev pub begun : List ℕ → ℕ → List ℕ
begun text n = 39 ∷ flat_map escaped (take n text)

pub begun-more : (old text : List ℕ) (n d : ℕ) → n < length text → (old ++ begun text n) ++ escaped (get_or text n d) ≡ old ++ begun text (n + 1)
begun-more old text n d lt =
    append_assoc old (begun text n) (escaped (get_or text n d))
    ∙ ap (λ xs. old ++ xs) (flat_map_more escaped (39 ∷ []) (take n text) (get_or text n d))
    ∙ ap (λ xs. old ++ 39 ∷ flat_map escaped xs) (sym (take_more text n d lt))

pub begun-end : (old text into : List ℕ) (n : ℕ) → into ≡ old ++ begun text n → length text ≤ n → into ++ 39 ∷ [] ≡ old ++ quoted text
begun-end old text into n is le =
    ap (λ xs. xs ++ 39 ∷ []) (is ∙ ap (λ xs. old ++ 39 ∷ flat_map escaped xs) (take_all n text le))
    ∙ append_assoc old (39 ∷ flat_map escaped text) (39 ∷ [])
