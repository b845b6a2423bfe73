-- Which lines a sink has got.
use Rattle.std.proofs.Common.{◌≡◌, ℕ, zero, suc, ◌<◌, Bool, true, false, ◌==◌, cond, List, [], ◌∷◌, ◌++◌, length, take, drop, Option, Some, None, refl, sym, ap, subst, ◌∙◌, arith}
use Rattle.std.specs.List.{Contains, onto_first, slice_index_or}
use Rattle.std.proofs.lemmas.List.{append_cancel_left, append-nil, take-append-drop}
use Rattle.std.proofs.lemmas.Option.{same_Some}
use Rattle.pm_outside.specs.Outside.{Appends, AppendsPrefix}
use Rattle.pm_certread.specs.Lines.{Line, ended, cut_lines}
use Rattle.pm_top.specs.Run.{HasGot}
use Rattle.pm_top.specs.Inside.Says.{HasLine}

-- ---- a line of a prefix is a line of the whole

-- the piece at this place
abbrev At : List (List ℕ) → ℕ → List ℕ → Type 0
At pieces k piece = (k < length pieces) × (slice_index_or pieces k piece ≡ piece)

onto_at : (b : ℕ) (pieces : List (List ℕ)) (piece : List ℕ) → At pieces 0 piece → At (onto_first b pieces) 0 (b ∷ piece)
onto_at b [] piece h = absurd (omega (arith, h.0))
onto_at b (p ∷ ps) piece h = (omega arith, ap (λ (l : List ℕ). b ∷ l) h.1)

onto_later : (b : ℕ) (pieces : List (List ℕ)) (k : ℕ) (piece : List ℕ) → At pieces (suc k) piece → At (onto_first b pieces) (suc k) piece
onto_later b [] k piece h = absurd (omega (arith, h.0))
onto_later b (p ∷ ps) k piece h = (omega (arith, h.0), h.1)

later_onto : (b : ℕ) (pieces : List (List ℕ)) (k : ℕ) (piece : List ℕ) → At (onto_first b pieces) (suc k) piece → At pieces (suc k) piece
later_onto b [] k piece h = absurd (omega (arith, h.0))
later_onto b (p ∷ ps) k piece h = (omega (arith, h.0), h.1)

no_end_here : (b : ℕ) (bytes : List ℕ) → (b == 10) ≡ false → b ∷ bytes ≡ 10 ∷ [] → ⊥
no_end_here b bytes plain e = (let same : b ≡ 10 = cc in let bad : (10 == 10) ≡ false = subst (λ (n : ℕ). (n == 10) ≡ false) same plain in absurd cc)

has_end : (line : Line) → [] ≡ ended line → ⊥
has_end [] e = cc
has_end (byte ∷ line) e = cc

-- an ended piece that doesn't begin with LF
first_ended : (b : ℕ) (pieces : List (List ℕ)) (line : Line) → (b == 10) ≡ false → At (onto_first b pieces) 0 (ended line) → (rest : Line) × (line ≡ b ∷ rest) × At pieces 0 (ended rest)
first_ended b [] [] plain h = absurd (no_end_here b [] plain h.1)
first_ended b [] (c ∷ line) plain h = (let e : b ∷ [] ≡ c ∷ ended line = h.1 in let none : [] ≡ ended line = cc in absurd (has_end line none))
first_ended b (p ∷ ps) [] plain h = absurd (no_end_here b p plain h.1)
first_ended b (p ∷ ps) (c ∷ line) plain h =
    let e : b ∷ p ≡ c ∷ ended line = h.1 in
    let head : c ≡ b = cc in
    let tail : p ≡ ended line = cc in
    (line, ap (λ (n : ℕ). n ∷ line) head, (omega arith, tail))

stands : (front back : List ℕ) (k : ℕ) (line : Line) → At (cut_lines front) k (ended line) → At (cut_lines (front ++ back)) k (ended line)
stands [] back k line h = absurd (omega (arith, h.0))
stands (b ∷ front) back k line h = by (b == 10) refl (stands front back) k line h
  where
    by : (p : Bool) → (b == 10) ≡ p → ((k : ℕ) (line : Line) → At (cut_lines front) k (ended line) → At (cut_lines (front ++ back)) k (ended line))
        → (k : ℕ) (line : Line) → At (cond p ((10 ∷ []) ∷ cut_lines front) (onto_first b (cut_lines front))) k (ended line)
        → At (cond p ((10 ∷ []) ∷ cut_lines (front ++ back)) (onto_first b (cut_lines (front ++ back)))) k (ended line)
    by true is later zero line h = (omega arith, h.1)
    by true is later (suc k) line h = (let next = later k line (omega (arith, h.0), h.1) in (omega (arith, next.0), next.1))
    by false is later zero line h =
        let first = first_ended b (cut_lines front) line is h in
        let here = onto_at b (cut_lines (front ++ back)) (ended first.0) (later 0 first.0 first.2) in
        subst (λ (l : Line). At (onto_first b (cut_lines (front ++ back))) 0 (ended l)) (sym first.1) here
    by false is later (suc k) line h =
        onto_later b (cut_lines (front ++ back)) k (ended line) (later (suc k) line (later_onto b (cut_lines front) k (ended line) h))

prefix_line : (k : ℕ) (text : List ℕ) (line : Line) → HasLine (take k text) line → HasLine text line
prefix_line k text line h =
    subst (λ (t : List ℕ). HasLine t line) (take-append-drop k text)
    (let here = stands (take k text) (drop k text) h.0 line (h.1, h.2) in (h.0, here.0, here.1))

-- ---- what a sink has got

pub gained_line : (old new : Option (List ℕ)) (text : List ℕ) (line : Line) → Appends old new text → HasGot old new line → HasLine text line
gained_line None new text line put got = absurd got
gained_line (Some was) None text line put got = absurd got
gained_line (Some was) (Some now) text line put got =
    let same : got.0 ≡ text = append_cancel_left was got.0 text (sym got.1 ∙ same_Some now (was ++ text) put) in
    subst (λ (t : List ℕ). HasLine t line) same got.2

pub prefix_gained : (old new : Option (List ℕ)) (text : List ℕ) (line : Line) → AppendsPrefix old new text → HasGot old new line → HasLine text line
prefix_gained old new text line put got = prefix_line put.0 text line (gained_line old new (take put.0 text) line put.1 got)

not_in_no_text : (line : Line) → HasLine [] line → ⊥
not_in_no_text line h = absurd (omega (arith, h.1))

appends_nothing : (old new : Option (List ℕ)) → new ≡ old → Appends old new []
appends_nothing None new same = same
appends_nothing (Some was) new same = same ∙ ap (λ (w : List ℕ). Some w) (sym (append-nil was))

pub nothing_appended : (old new : Option (List ℕ)) → Appends old new [] → new ≡ old
nothing_appended None new put = put
nothing_appended (Some was) new put = put ∙ ap (λ (w : List ℕ). Some w) (append-nil was)

pub nothing_gained : (old new : Option (List ℕ)) (line : Line) → new ≡ old → HasGot old new line → ⊥
nothing_gained old new line same got = not_in_no_text line (gained_line old new [] line (appends_nothing old new same) got)
