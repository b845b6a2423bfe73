-- The first line of a text.
use Rattle.std.proofs.Common.{◌≡◌, ◌∙◌, ℕ, suc, ◌<◌, ◌==◌, Bool, true, false, cond, List, [], ◌∷◌, length, take, drop, refl, sym, ap, arith, eqb-true}
use Rattle.std.specs.List.{onto_first}
use Rattle.pm_certread.specs.Lines.{cut_lines}
use Rattle.pm_certread.specs.Inside.Cuts.{line_length}

pub cut_line : (text : List ℕ) → 0 < length text → cut_lines text ≡ take (line_length text) text ∷ cut_lines (drop (line_length text) text)
cut_line [] some = absurd (omega arith)
cut_line (b ∷ []) some = go (b == 10) refl
  where
    go : (p : Bool) → (b == 10) ≡ p → cond p ((10 ∷ []) ∷ []) (onto_first b []) ≡ take (cond p 1 1) (b ∷ []) ∷ cut_lines (drop (cond p 1 1) (b ∷ []))
    go true is = ap (λ (x : ℕ). (x ∷ []) ∷ []) (sym (eqb-true b 10 is))
    go false is = refl
cut_line (b ∷ d ∷ bs) some = go (b == 10) refl (cut_line (d ∷ bs) (omega arith))
  where
    rest : List ℕ
    rest = d ∷ bs

    go : (p : Bool) → (b == 10) ≡ p → cut_lines rest ≡ take (line_length rest) rest ∷ cut_lines (drop (line_length rest) rest)
        → cond p ((10 ∷ []) ∷ cut_lines rest) (onto_first b (cut_lines rest)) ≡ take (cond p 1 (suc (line_length rest))) (b ∷ rest) ∷ cut_lines (drop (cond p 1 (suc (line_length rest))) (b ∷ rest))
    go true is later = ap (λ (x : ℕ). (x ∷ []) ∷ cut_lines rest) (sym (eqb-true b 10 is))
    go false is later = ap (onto_first b) later

pub some_bytes : (text : List ℕ) → (length text == 0) ≡ false → 0 < length text
some_bytes [] e = absurd cc
some_bytes (b ∷ bs) e = omega arith

pub first_cut : (text front back : List ℕ) (n : ℕ) → 0 < length text → n ≡ line_length text → front ≡ take n text → back ≡ drop n text → cut_lines text ≡ front ∷ cut_lines back
first_cut text front back n some is first rest =
    cut_line text some
    ∙ ap (λ (l : List ℕ). l ∷ cut_lines (drop (line_length text) text)) (ap (λ (k : ℕ). take k text) (sym is) ∙ sym first)
    ∙ ap (λ (l : List ℕ). front ∷ cut_lines l) (ap (λ (k : ℕ). drop k text) (sym is) ∙ sym rest)
