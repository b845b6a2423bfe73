-- Lines one after the other, as a loop writes them.
use Rattle.std.proofs.Common.{◌≡◌, ◌∙◌, ℕ, ◌+◌, ◌<◌, ◌≤◌, List, [], ◌∷◌, ◌++◌, length, get_or, drop, refl, sym, ap, append_assoc}
use Rattle.std.specs.List.{flat_map}
use Rattle.std.proofs.lemmas.List.{append-nil, drop_more, drop_all}
use Rattle.pm_report.specs.Text.{Line, level_line, level_lines_from, text_of}

pub text_of_one : (line : Line) (lines : List Line) → text_of (line ∷ []) ++ text_of lines ≡ text_of (line ∷ lines)
text_of_one line lines = append_assoc line (10 ∷ []) (text_of lines)

pub text_of-append : (lines others : List Line) → text_of (lines ++ others) ≡ text_of lines ++ text_of others
text_of-append [] others = refl
text_of-append (line ∷ lines) others = ap (λ (t : List ℕ). line ++ 10 ∷ t) (text_of-append lines others) ∙ sym (append_assoc line (10 ∷ text_of lines) (text_of others))

pub levels_go_on : (before after total works : List ℕ) (level : ℕ) → level < length works → after ≡ before ++ text_of (level_line level (get_or works level 0) ∷ [])
    → before ++ text_of (level_lines_from level (drop level works)) ≡ total → after ++ text_of (level_lines_from (level + 1) (drop (level + 1) works)) ≡ total
levels_go_on before after total works level lt new so_far =
    let cut : drop level works ≡ get_or works level 0 ∷ drop (level + 1) works = drop_more works level 0 lt in
    let line : Line = level_line level (get_or works level 0) in
    let others : List Line = level_lines_from (level + 1) (drop (level + 1) works) in
    ap (λ (t : List ℕ). t ++ text_of others) new
    ∙ append_assoc before (text_of (line ∷ [])) (text_of others)
    ∙ ap (λ (t : List ℕ). before ++ t) (text_of_one line others)
    ∙ ap (λ (ws : List ℕ). before ++ text_of (level_lines_from level ws)) (sym cut)
    ∙ so_far

pub levels_end : (before total works : List ℕ) (level : ℕ) → length works ≤ level → before ++ text_of (level_lines_from level (drop level works)) ≡ total → before ≡ total
levels_end before total works level le so_far =
    sym (ap (λ (ws : List ℕ). before ++ text_of (level_lines_from level ws)) (drop_all level works le) ∙ append-nil before) ∙ so_far

module _ {A : Type 0} (piece : A → List ℕ) where
  pub pieces_go_on : (before after total : List ℕ) (xs : List A) (i : ℕ) (d : A) → i < length xs → after ≡ before ++ piece (get_or xs i d)
      → before ++ flat_map piece (drop i xs) ≡ total → after ++ flat_map piece (drop (i + 1) xs) ≡ total
  pieces_go_on before after total xs i d lt new so_far =
      let cut : drop i xs ≡ get_or xs i d ∷ drop (i + 1) xs = drop_more xs i d lt in
      ap (λ (t : List ℕ). t ++ flat_map piece (drop (i + 1) xs)) new
      ∙ append_assoc before (piece (get_or xs i d)) (flat_map piece (drop (i + 1) xs))
      ∙ ap (λ (ys : List A). before ++ flat_map piece ys) (sym cut)
      ∙ so_far

  pub pieces_end : (before total : List ℕ) (xs : List A) (i : ℕ) → length xs ≤ i → before ++ flat_map piece (drop i xs) ≡ total → before ≡ total
  pieces_end before total xs i le so_far =
      sym (ap (λ (ys : List A). before ++ flat_map piece ys) (drop_all i xs le) ∙ append-nil before) ∙ so_far
