-- The lines of levels.
use Rattle.std.proofs.Common.{◌≡◌, ◌≢◌, ◌∙◌, ◌⊎◌, inl, inr, ℕ, List, Some, None, Bor, sym, refl, codes, decimal}
use Rattle.std.proofs.lemmas.Fmt.{decimal_injective}
use Rattle.pm_certread.specs.declared.levels.Level.{Level}
use Rattle.pm_certread.specs.declared.levels.Level.TheVariants.{Exhausted, Proved}
use Rattle.pm_certread.specs.declared.levels.LevelLine.{LevelLine}
use Rattle.pm_certread.specs.Lines.{ended, spaced, level_line, proof_line}
use Rattle.pm_certread.specs.Forms.{IsNumber, IsExhausted, IsProved}
use Rattle.pm_certread.specs.Inside.Wholes.{AreWhole, IsWhole}
use Rattle.pm_certread.specs.Inside.Cuts.{IsCut, bytes_of}
use Rattle.pm_certread.specs.Inside.Head.{kind_word, level_words, ReadsLevel, IsLevelLine}
use Rattle.pm_certread.proofs.WordLemmas.{solid_whole, decimal_whole}
use Rattle.pm_certread.proofs.FormLemmas.{cut_is, is_cut}

pub level_whole : (kind : Level) (level work : ℕ) → IsNumber level → IsNumber work → AreWhole (level_words kind level work)
level_whole kind level work small small_work =
    (solid_whole (codes "level") refl, (decimal_whole level small, (kind_whole kind, (solid_whole (codes "attempts") refl, (decimal_whole work small_work, tt)))))
  where
    kind_whole : (k : Level) → IsWhole (kind_word k)
    kind_whole Exhausted = solid_whole (codes "exhausted") refl
    kind_whole Proved = solid_whole (codes "proof") refl

-- the words of a line of a level
line_of : (raw : List ℕ) (words : List (Bor (List ℕ))) (level work : ℕ) → IsCut raw (Some words) → (IsExhausted raw level work ⊎ IsProved raw level work)
    → (kind : Level) × IsNumber level × IsNumber work × (bytes_of words ≡ level_words kind level work)
line_of raw words level work cut (inl h) = (Exhausted, h.small_level, h.small_work, is_cut raw words cut _ _ (level_whole Exhausted level work h.small_level h.small_work) h.is)
line_of raw words level work cut (inr h) = (Proved, h.small_level, h.small_work, is_cut raw words cut _ _ (level_whole Proved level work h.small_level h.small_work) h.is)

pub no_line : (raw : List ℕ) (level work : ℕ) → IsCut raw None → (IsExhausted raw level work ⊎ IsProved raw level work) → ⊥
no_line raw level work uncut (inl h) = uncut (level_line level work) h.is
no_line raw level work uncut (inr h) = uncut (proof_line level work) h.is

pub not_level : (raw : List ℕ) (words : List (Bor (List ℕ))) (level work : ℕ) → IsCut raw (Some words) → ReadsLevel (bytes_of words) None
    → (IsExhausted raw level work ⊎ IsProved raw level work) → ⊥
not_level raw words level work cut none h =
    let line = line_of raw words level work cut h in
    none line.0 level work line.1 line.2 line.3

pub other_level : (raw : List ℕ) (words : List (Bor (List ℕ))) (line : LevelLine) (level work : ℕ) → IsCut raw (Some words) → ReadsLevel (bytes_of words) (Some line) → line.level ≢ level
    → (IsExhausted raw level work ⊎ IsProved raw level work) → ⊥
other_level raw words line level work cut some other h =
    let found = line_of raw words level work cut h in
    let same : level_words line.kind line.level line.work ≡ level_words found.0 level work = sym some.2 ∙ found.3 in
    let digits : decimal line.level ≡ decimal level = cc in
    other (decimal_injective line.level level some.0 found.1 digits)

pub found_level : (raw : List ℕ) (words : List (Bor (List ℕ))) (line : LevelLine) (level : ℕ) → IsCut raw (Some words) → ReadsLevel (bytes_of words) (Some line) → line.level ≡ level
    → IsLevelLine raw level (Some line.kind)
found_level raw words line level cut some same = go line.kind (cut_is raw words cut (level_words line.kind line.level line.work) some.2)
  where
    go : (kind : Level) → raw ≡ ended (spaced (level_words kind line.level line.work)) → IsLevelLine raw level (Some kind)
    go Exhausted is = (line.work, record { small_level = rw (← same) some.0; small_work = some.1; is = rw (← same) is })
    go Proved is = (line.work, record { small_level = rw (← same) some.0; small_work = some.1; is = rw (← same) is })
