-- Lexemes in a row: how far two rows of the same bytes go.
use Rattle.std.proofs.Common.{arith, ◌≡◌, ◌<◌, ◌≤◌, ℕ, length, List, [], ◌∷◌, ◌++◌, sym, ap, ap₂, subst, ◌∙◌, refl, drop}
use Rattle.std.specs.Prelude.{Some}
use Rattle.std.proofs.lemmas.List.{length-drop, append-nil}
use Rattle.std.proofs.lemmas.Option.{same_Some}
use Rattle.pm_scan.specs.Lexemes.{Lexeme, gap, token, fault, lexeme_at, Lexes, tokens_in}
use Rattle.pm_scan.proofs.Forms.{lexeme_at-stands}

-- each lexeme has at least one byte, and no more than there are
pub lexeme_sized : (bytes : List ℕ) (x : Lexeme) (n : ℕ) → lexeme_at bytes ≡ Some (x, n) → (0 < n) × (n ≤ length bytes)
lexeme_sized bytes x n at = let s = lexeme_at-stands bytes x n at in (s.some, s.within)

pub Lexes-append : (xs ys : List Lexeme) (bytes mid rest : List ℕ) → Lexes xs bytes mid → Lexes ys mid rest → Lexes (xs ++ ys) bytes rest
Lexes-append [] ys bytes mid rest e h = subst (λ (b : List ℕ). Lexes ys b rest) (sym e) h
Lexes-append (x ∷ xs) ys bytes mid rest (n, at, leads) h = (n, at, Lexes-append xs ys (drop n bytes) mid rest leads h)

-- one lexeme more
pub Lexes-push : (xs : List Lexeme) (x : Lexeme) (n : ℕ) (bytes mid : List ℕ) → Lexes xs bytes mid → lexeme_at mid ≡ Some (x, n) → Lexes (xs ++ x ∷ []) bytes (drop n mid)
Lexes-push xs x n bytes mid leads at = Lexes-append xs (x ∷ []) bytes mid (drop n mid) leads (n, at, refl)

pub tokens_in-append : (xs ys : List Lexeme) → tokens_in (xs ++ ys) ≡ tokens_in xs ++ tokens_in ys
tokens_in-append [] ys = refl
tokens_in-append (gap ∷ xs) ys = tokens_in-append xs ys
tokens_in-append (token t ∷ xs) ys = ap (λ ts. t ∷ ts) (tokens_in-append xs ys)
tokens_in-append (fault k ∷ xs) ys = tokens_in-append xs ys

-- the rest is no longer than the bytes, and shorter after a lexeme
pub rest_within : (xs : List Lexeme) (bytes rest : List ℕ) → Lexes xs bytes rest → length rest ≤ length bytes
rest_within [] bytes rest e = omega (arith, ap length e)
rest_within (x ∷ xs) bytes rest (n, at, leads) =
    let size : (0 < n) × (n ≤ length bytes) = lexeme_sized bytes x n at in
    omega (arith, rest_within xs (drop n bytes) rest leads, length-drop n bytes, size.0, size.1)

pub rest_shorter : (x : Lexeme) (xs : List Lexeme) (bytes rest : List ℕ) → Lexes (x ∷ xs) bytes rest → length rest < length bytes
rest_shorter x xs bytes rest (n, at, leads) =
    let size : (0 < n) × (n ≤ length bytes) = lexeme_sized bytes x n at in
    omega (arith, rest_within xs (drop n bytes) rest leads, length-drop n bytes, size.0, size.1)

-- of two rows the one that goes at least as far goes on from the other
pub goes_on : (xs ys : List Lexeme) (bytes rest other : List ℕ) → Lexes xs bytes rest → Lexes ys bytes other → length other ≤ length rest
    → (zs : List Lexeme) × (ys ≡ xs ++ zs) × Lexes zs rest other
goes_on [] ys bytes rest other e h less = (ys, refl, subst (λ (b : List ℕ). Lexes ys b other) e h)
goes_on (x ∷ xs) [] bytes rest other h e less = absurd (omega (arith, rest_shorter x xs bytes rest h, less, ap length e))
goes_on (x ∷ xs) (y ∷ ys) bytes rest other (n, at, leads) (m, there, h) less =
    let same : ◌≡◌ {A = Lexeme × ℕ} (x, n) (y, m) = same_Some _ _ (sym at ∙ there) in
    let more : (zs : List Lexeme) × (ys ≡ xs ++ zs) × Lexes zs rest other =
    goes_on xs ys (drop n bytes) rest other leads (subst (λ (k : ℕ). Lexes ys (drop k bytes) other) (sym (ap (λ p. p.1) same)) h) less in
    (more.0, ap₂ (λ a b. a ∷ b) (sym (ap (λ p. p.0) same)) more.1, more.2)

-- as far as another row, and no less: the same row
pub same_place : (xs ys : List Lexeme) (bytes rest other : List ℕ) → Lexes xs bytes rest → Lexes ys bytes other → length other ≡ length rest
    → (ys ≡ xs) × (other ≡ rest)
same_place xs ys bytes rest other h k same = at_end (goes_on xs ys bytes rest other h k (omega (arith, same)))
  where
    at_end : (zs : List Lexeme) × (ys ≡ xs ++ zs) × Lexes zs rest other → (ys ≡ xs) × (other ≡ rest)
    at_end ([], e, last) = (e ∙ append-nil xs, sym last)
    at_end (z ∷ zs, e, last) = absurd (omega (arith, rest_shorter z zs rest other last, same))

-- beyond this lexeme: the row goes on behind it
pub goes_beyond : (xs ys : List Lexeme) (x : Lexeme) (n : ℕ) (bytes rest other : List ℕ) → Lexes xs bytes rest → lexeme_at rest ≡ Some (x, n)
    → Lexes ys bytes other → length other < length rest → length other ≤ length (drop n rest)
goes_beyond xs ys x n bytes rest other h at k less = behind (goes_on xs ys bytes rest other h k (omega (arith, less)))
  where
    behind : (zs : List Lexeme) × (ys ≡ xs ++ zs) × Lexes zs rest other → length other ≤ length (drop n rest)
    behind ([], e, last) = absurd (omega (arith, ap length last, less))
    behind (z ∷ zs, e, (m, there, last)) =
        let same : ◌≡◌ {A = Lexeme × ℕ} (x, n) (z, m) = same_Some _ _ (sym at ∙ there) in
        subst (λ (j : ℕ). length other ≤ length (drop j rest)) (sym (ap (λ p. p.1) same)) (rest_within zs (drop m rest) other last)
