-- A line is the line of its words, and of whole words only of these.
use Rattle.std.proofs.Common.{◌≡◌, ◌∙◌, ℕ, Bool, true, false, cond, List, [], ◌∷◌, refl, sym, ap, subst, eqb-true, true≢false, Option, Some, None, Bor}
use Rattle.std.specs.List.{onto_first}
use Rattle.std.specs.Option.{option_map}
use Rattle.pm_certread.specs.declared.words.Place.{Place}
use Rattle.pm_certread.specs.declared.words.Place.TheVariants.{Outside, Quoted, Escaped}
use Rattle.pm_certread.specs.Lines.{spaced, ended}
use Rattle.pm_certread.specs.Inside.Words.{next_place, parts, words_from, words_of}
use Rattle.pm_certread.specs.Inside.Wholes.{AreWhole}
use Rattle.pm_certread.specs.Inside.Cuts.{IsCut, bytes_of}
use Rattle.pm_certread.proofs.WordLemmas.{line_words}

some_words : (place : Place) (bs : List ℕ) → (w : List ℕ) × (ws : List (List ℕ)) × (words_from place bs ≡ w ∷ ws)
some_words place [] = ([], [], refl)
some_words place (b ∷ bs) = go (parts place b) (some_words (next_place place b) bs)
  where
    go : (p : Bool) → ((w : List ℕ) × (ws : List (List ℕ)) × (words_from (next_place place b) bs ≡ w ∷ ws))
        → (w : List ℕ) × (ws : List (List ℕ)) × (cond p ([] ∷ words_of bs) (onto_first b (words_from (next_place place b) bs)) ≡ w ∷ ws)
    go true h = ([], words_of bs, refl)
    go false h = (b ∷ h.0, h.1, ap (onto_first b) h.2)

parted : (place : Place) (b : ℕ) → parts place b ≡ true → 32 ≡ b
parted Outside b e = sym (eqb-true b 32 e)
parted Quoted b e = absurd (true≢false (sym e))
parted Escaped b e = absurd (true≢false (sym e))

spaced_after : (words : List (List ℕ)) (w : List ℕ) (ws : List (List ℕ)) → words ≡ w ∷ ws → spaced ([] ∷ words) ≡ 32 ∷ spaced words
spaced_after [] w ws e = absurd cc
spaced_after (v ∷ vs) w ws e = refl

spaced_onto : (b : ℕ) (words : List (List ℕ)) (w : List ℕ) (ws : List (List ℕ)) → words ≡ w ∷ ws → spaced (onto_first b words) ≡ b ∷ spaced words
spaced_onto b [] w ws e = absurd cc
spaced_onto b (v ∷ []) w ws e = refl
spaced_onto b (v ∷ u ∷ vs) w ws e = refl

spaced-words_from : (place : Place) (bs : List ℕ) → spaced (words_from place bs) ≡ bs
spaced-words_from place [] = refl
spaced-words_from place (b ∷ bs) = go (parts place b) refl (spaced-words_from Outside bs) (spaced-words_from (next_place place b) bs)
  where
    go : (p : Bool) → parts place b ≡ p → spaced (words_of bs) ≡ bs → spaced (words_from (next_place place b) bs) ≡ bs
        → spaced (cond p ([] ∷ words_of bs) (onto_first b (words_from (next_place place b) bs))) ≡ b ∷ bs
    go true is outside next =
        let some = some_words Outside bs in
        spaced_after (words_of bs) some.0 some.1 some.2 ∙ ap (λ (x : ℕ). x ∷ spaced (words_of bs)) (parted place b is) ∙ ap (λ (l : List ℕ). b ∷ l) outside
    go false is outside next =
        let some = some_words (next_place place b) bs in
        spaced_onto b (words_from (next_place place b) bs) some.0 some.1 some.2 ∙ ap (λ (l : List ℕ). b ∷ l) next

-- the line is that of the words
pub cut_is : (raw : List ℕ) (words : List (Bor (List ℕ))) → IsCut raw (Some words) → (ws : List (List ℕ)) → bytes_of words ≡ ws → raw ≡ ended (spaced ws)
cut_is raw words cut ws is = cut.1 ∙ ap ended (sym (spaced-words_from Outside cut.0) ∙ ap spaced (sym cut.2 ∙ is))

-- and the words are those of the line
pub is_cut : (raw : List ℕ) (words : List (Bor (List ℕ))) → IsCut raw (Some words) → (w : List ℕ) (ws : List (List ℕ)) → AreWhole (w ∷ ws) → raw ≡ ended (spaced (w ∷ ws)) → bytes_of words ≡ w ∷ ws
is_cut raw words cut w ws whole is = cut.2 ∙ line_words cut.0 w ws whole (sym cut.1 ∙ is)

-- what the code has of a line's words, where there are some and where there are none
pub cut_some : {V : Type 0} (f : V → List (Bor (List ℕ))) (raw : List ℕ) (o : Option V) (v : V) (words : List (Bor (List ℕ)))
    → IsCut raw (option_map f o) → o ≡ Some v → words ≡ f v → IsCut raw (Some words)
cut_some {V} f raw o v words cut is same =
    subst (λ (ws : List (Bor (List ℕ))). IsCut raw (Some ws)) (sym same) (subst (λ (p : Option V). IsCut raw (option_map f p)) is cut)

pub cut_none : {V : Type 0} (f : V → List (Bor (List ℕ))) (raw : List ℕ) (o : Option V) → IsCut raw (option_map f o) → o ≡ None → IsCut raw None
cut_none {V} f raw o cut is = subst (λ (p : Option V). IsCut raw (option_map f p)) is cut
