-- Which lines a text has.
use Rattle.std.proofs.Common.{◌≡◌, ℕ, zero, suc, ◌+◌, ◌^◌, ◌<◌, ◌≤◌, inl, inr, List, [], ◌∷◌, ◌++◌, length, get_or, refl, sym, ap, ap₂, subst, ◌∙◌, arith, codes, decimal, Some, Option}
use Rattle.std.specs.List.{All, Contains, list_all}
use Rattle.std.specs.Prelude.{slice_get}
use Rattle.std.proofs.lemmas.List.Elements.{Contains-append_cases}
use Rattle.pm_scan.specs.declared.offence.CnfKind.{CnfKind}
use Rattle.pm_scan.specs.declared.offence.CnfKind.TheVariants as kinds
use Rattle.pm_scan.specs.Words.{kind_word}
use Rattle.pm_certread.specs.Forms.{IsNumber}
use Rattle.pm_certread.specs.Lines.{Line, ended, cut_lines, text_of, status_line, level_line, level_lines, level_lines_from}
use Rattle.pm_cert.proofs.PlainLemmas.{HasNoEnd, HaveNoEnds, no_ends-append, no_end-append, cut_text, decimal_inside}
use Rattle.pm_cert.proofs.ReadBackLemmas.{levels_inside}
use Rattle.pm_cert.proofs.SaysLemmas.{unended}
use Rattle.pm_report.specs.Text.{gave_up_lines, resource_out_lines, budget_line, input_error_lines, too_long_lines}
use Rattle.pm_report.proofs.LineLemmas.{said_level, budget_differs}
use Rattle.pm_top.specs.Inside.Says.{HasLine, SaysNothing}

-- a text of lines without LF has no others
in_lines : (lines : List Line) (line : Line) → HaveNoEnds lines → HasLine (text_of lines) line → Contains lines line
in_lines lines line inside h = unended lines line (subst (λ (pieces : List (List ℕ)). Contains pieces (ended line)) (cut_text lines inside) h)

byte_at : (i : ℕ) (v w : List ℕ) → v ≡ w → get_or v i 0 ≡ get_or w i 0
byte_at i v w e = ap (λ (l : List ℕ). get_or l i 0) e

not_in_nil : (line : Line) → Contains [] line → ⊥
not_in_nil line h = absurd (omega (arith, h.1))

-- ---- the lines of levels

no_status_level : (from : ℕ) (works : List ℕ) → Contains (level_lines_from from works) status_line → ⊥
no_status_level from [] h = not_in_nil status_line h
no_status_level from (w ∷ works) (zero, lt, e) = (let bad : ◌≡◌ {A = ℕ} 108 37 = byte_at 0 (level_line from w) status_line e in omega arith)
no_status_level from (w ∷ works) (suc k, lt, e) = no_status_level (from + 1) works (k, omega arith, e)

module _ (works : List ℕ) (few : length works < 2 ^ 64) (small : All (λ w. w < 2 ^ 64) works) where
  inside : HaveNoEnds (level_lines works)
  inside = (let start : length works ≡ 0 + length works = omega arith in levels_inside 0 works (subst IsNumber start few) small)

  pub said_work : (level work : ℕ) → level < 2 ^ 64 → work < 2 ^ 64 → Contains (level_lines works) (level_line level work) → slice_get works level ≡ Some work
  said_work level work small_level small_work h =
      let found = said_level 0 works level work (omega (arith, few)) small small_level small_work h in
      let same : found.0 ≡ level = omega (arith, found.1) in
      subst (λ (i : ℕ). slice_get works i ≡ Some work) same found.2

  gave_up_inside : HaveNoEnds (gave_up_lines works)
  gave_up_inside = (refl, inside)

  pub gave_up_says : (level work : ℕ) → level < 2 ^ 64 → work < 2 ^ 64 → HasLine (text_of (gave_up_lines works)) (level_line level work) → slice_get works level ≡ Some work
  gave_up_says level work small_level small_work h = by (in_lines (gave_up_lines works) (level_line level work) gave_up_inside h)
    where
      by : Contains (gave_up_lines works) (level_line level work) → slice_get works level ≡ Some work
      by (zero, lt, e) = (let bad : ◌≡◌ {A = ℕ} 37 108 = byte_at 0 (codes "% SZS status GaveUp") (level_line level work) e in absurd (omega arith))
      by (suc k, lt, e) = said_work level work small_level small_work (k, omega arith, e)

  pub gave_up_no_status : HasLine (text_of (gave_up_lines works)) status_line → ⊥
  gave_up_no_status h = by (in_lines (gave_up_lines works) status_line gave_up_inside h)
    where
      by : Contains (gave_up_lines works) status_line → ⊥
      by (zero, lt, e) = (let bad : ◌≡◌ {A = ℕ} 71 85 = byte_at 13 (codes "% SZS status GaveUp") status_line e in omega arith)
      by (suc k, lt, e) = no_status_level 0 works (k, omega arith, e)

  budget_inside : HaveNoEnds (budget_line (length works) ∷ [])
  budget_inside = (no_end-append (decimal (length works)) _ (decimal_inside (length works) few) refl, tt)

  resource_out_inside : HaveNoEnds (resource_out_lines works)
  resource_out_inside = (refl, no_ends-append (level_lines works) (budget_line (length works) ∷ []) inside budget_inside)

  pub resource_out_says : (level work : ℕ) → level < 2 ^ 64 → work < 2 ^ 64 → HasLine (text_of (resource_out_lines works)) (level_line level work) → slice_get works level ≡ Some work
  resource_out_says level work small_level small_work h = by (in_lines (resource_out_lines works) (level_line level work) resource_out_inside h)
    where
      last : Contains (budget_line (length works) ∷ []) (level_line level work) → slice_get works level ≡ Some work
      last (zero, lt, e) = absurd (budget_differs level (length works) work small_level few e)
      last (suc k, lt, e) = absurd (omega arith)

      by : Contains (resource_out_lines works) (level_line level work) → slice_get works level ≡ Some work
      by (zero, lt, e) = (let bad : ◌≡◌ {A = ℕ} 37 108 = byte_at 0 (codes "% SZS status ResourceOut") (level_line level work) e in absurd (omega arith))
      by (suc k, lt, e) = elim (Contains-append_cases (level_lines works) (budget_line (length works) ∷ []) (level_line level work) (k, omega arith, e)) [
        | inl here ↦ said_work level work small_level small_work here
        | inr there ↦ last there
      ]

  pub resource_out_no_status : HasLine (text_of (resource_out_lines works)) status_line → ⊥
  resource_out_no_status h = by (in_lines (resource_out_lines works) status_line resource_out_inside h)
    where
      last : Contains (budget_line (length works) ∷ []) status_line → ⊥
      last (zero, lt, e) = (let bad : ◌≡◌ {A = ℕ} 108 37 = byte_at 0 (budget_line (length works)) status_line e in omega arith)
      last (suc k, lt, e) = omega arith

      by : Contains (resource_out_lines works) status_line → ⊥
      by (zero, lt, e) = (let bad : ◌≡◌ {A = ℕ} 82 85 = byte_at 13 (codes "% SZS status ResourceOut") status_line e in omega arith)
      by (suc k, lt, e) = elim (Contains-append_cases (level_lines works) (budget_line (length works) ∷ []) status_line (k, omega arith, e)) [
        | inl here ↦ no_status_level 0 works here
        | inr there ↦ last there
      ]

-- ---- texts that say nothing

-- two lines, of which the second begins as no claim does
two_lines : (second : Line) → HasNoEnd second → get_or second 1 0 ≡ 105 → SaysNothing (text_of (codes "% SZS status InputError" ∷ second ∷ []))
two_lines second inside begins = record {
  no_level = λ level work small small_work h. level_by level work (in_lines (codes "% SZS status InputError" ∷ second ∷ []) (level_line level work) (refl, (inside, tt)) h);
  no_status = λ h. status_by (in_lines (codes "% SZS status InputError" ∷ second ∷ []) status_line (refl, (inside, tt)) h);
}
  where
    level_by : (level work : ℕ) → Contains (codes "% SZS status InputError" ∷ second ∷ []) (level_line level work) → ⊥
    level_by level work (zero, lt, e) = (let bad : ◌≡◌ {A = ℕ} 37 108 = byte_at 0 (codes "% SZS status InputError") (level_line level work) e in omega arith)
    level_by level work (suc zero, lt, e) = (let bad : get_or second 1 0 ≡ 101 = byte_at 1 second (level_line level work) e in omega (arith, begins))
    level_by level work (suc (suc k), lt, e) = omega arith

    status_by : Contains (codes "% SZS status InputError" ∷ second ∷ []) status_line → ⊥
    status_by (zero, lt, e) = (let bad : ◌≡◌ {A = ℕ} 73 85 = byte_at 13 (codes "% SZS status InputError") status_line e in omega arith)
    status_by (suc zero, lt, e) = (let bad : get_or second 1 0 ≡ 32 = byte_at 1 second status_line e in omega (arith, begins))
    status_by (suc (suc k), lt, e) = omega arith

pub too_long_quiet : SaysNothing (text_of (too_long_lines 1))
too_long_quiet = two_lines (codes "file " ++ (decimal 1 ++ codes " TooLong")) (no_end-append (decimal 1) (codes " TooLong") (decimal_inside 1 (omega arith)) refl) refl

word_inside : (kind : CnfKind) → HasNoEnd (codes " " ++ kind_word kind)
word_inside kinds.BadByte = refl
word_inside kinds.BadToken = refl
word_inside kinds.UnclosedComment = refl
word_inside kinds.UnclosedQuote = refl
word_inside kinds.Unexpected = refl
word_inside kinds.EndInItem = refl
word_inside kinds.NotCnf = refl
word_inside kinds.Include = refl
word_inside kinds.Equality = refl
word_inside kinds.Number = refl
word_inside kinds.DistinctObject = refl
word_inside kinds.TooManyClauses = refl
word_inside kinds.TooManyLiterals = refl
word_inside kinds.TooManyVariables = refl
word_inside kinds.ArityTooLarge = refl
word_inside kinds.TooDeep = refl

pub input_error_quiet : (line column : ℕ) (kind : CnfKind) → line < 2 ^ 64 → column < 2 ^ 64 → SaysNothing (text_of (input_error_lines line column kind))
input_error_quiet line column kind small small_column =
    let word : List ℕ = codes " " ++ kind_word kind in
    let after_line : List ℕ = codes " column " ++ (decimal column ++ word) in
    two_lines (codes "line " ++ (decimal line ++ after_line))
    (no_end-append (decimal line) after_line (decimal_inside line small) (no_end-append (decimal column) word (decimal_inside column small_column) (word_inside kind))) refl

not_in_no_text : (line : Line) → HasLine [] line → ⊥
not_in_no_text line h = absurd (omega (arith, h.1))

pub nothing_quiet : SaysNothing []
nothing_quiet = record { no_level = λ level work small small_work h. not_in_no_text (level_line level work) h; no_status = λ h. not_in_no_text status_line h }
