-- Lines as they are put together.
use Rattle.std.proofs.Common.{◌≡◌, nat_lt, ℕ, zero, suc, ◌+◌, ◌<◌, ◌≤◌, ◌==◌, Bool, true, false, cond, List, [], ◌∷◌, ◌++◌, Option, Some, None, length, map, take, drop, get_or, codes, decimal, refl, sym, ap, ap₂, subst, ◌∙◌, append_assoc, arith, eqb-true}
use Rattle.std.specs.Prelude.{slice_get}
use Rattle.std.specs.List.{All, AllZip, Contains, position, position_or_len}
use Rattle.std.specs.Option.{IsSomeAnd}
use Rattle.std.proofs.lemmas.List.{append-nil, map-append, take_more, drop_more, drop_all, flat_map_more, length-map, get_or-map}
use Rattle.std.proofs.lemmas.List.Sums.{passes_at_first}
use Rattle.std.proofs.lemmas.Option.{slice_get-get_or}
use borrow.Author.Tests.{ltb-true}
use Rattle.pm_logic.specs.Problem.{Symbol}
use Rattle.pm_logic.specs.Term.{Term, var, app, as_terms, tree_at}
use Rattle.pm_logic.specs.Word.{written_symbol}
use Rattle.pm_logic.proofs.TableLemmas.{list_of-as_terms}
use Rattle.pm_certread.specs.Lines.{Line, ended, text_of, spaced, status_line, level_line, level_lines, level_lines_from, proof_line, variable_line, application_line}
use Rattle.pm_cert.specs.Terms.{ArePlacesOf}
use Rattle.pm_cert.specs.Text.{IsTermLine}
use Rattle.pm_cert.specs.Inside.Lines.{numbers_text, IsWritableTerm}
use Rattle.pm_cert.specs.Inside.Listing.{AreRows}
use Rattle.pm_cert.proofs.RowLemmas.{row_there}

-- ---- texts of lines

pub text_of-append : (lines others : List Line) → text_of (lines ++ others) ≡ text_of lines ++ text_of others
text_of-append [] others = refl
text_of-append (line ∷ lines) others = ap (λ (t : List ℕ). line ++ 10 ∷ t) (text_of-append lines others) ∙ sym (append_assoc line (10 ∷ text_of lines) (text_of others))

text_of_one : (line : Line) (lines : List Line) → text_of (line ∷ []) ++ text_of lines ≡ text_of (line ∷ lines)
text_of_one line lines = append_assoc line (10 ∷ []) (text_of lines)

pub levels_go_on : (before after total works : List ℕ) (level : ℕ) → level < length works → after ≡ before ++ text_of (level_line level (get_or works level 0) ∷ [])
    → before ++ text_of (level_lines_from level (drop level works)) ≡ total → after ++ text_of (level_lines_from (level + 1) (drop (level + 1) works)) ≡ total
levels_go_on before after total works level lt new so_far =
    let cut : drop level works ≡ get_or works level 0 ∷ drop (level + 1) works = drop_more works level 0 lt in
    let line : Line = level_line level (get_or works level 0) in
    let others : List Line = level_lines_from (level + 1) (drop (level + 1) works) in
    ap (λ (t : List ℕ). t ++ text_of others) new
    ∙ append_assoc before (text_of (line ∷ [])) (text_of others)
    ∙ ap (λ (t : List ℕ). before ++ t) (text_of_one line others)
    ∙ ap (λ (ws : List ℕ). before ++ text_of (level_lines_from level ws)) (sym cut)
    ∙ so_far

pub levels_end : (before total works : List ℕ) (level : ℕ) → length works ≤ level → before ++ text_of (level_lines_from level (drop level works)) ≡ total → before ≡ total
levels_end before total works level le so_far =
    sym (ap (λ (ws : List ℕ). before ++ text_of (level_lines_from level ws)) (drop_all level works le) ∙ append-nil before) ∙ so_far

pub levels_told : (old t1 t2 t3 t4 t5 t6 t7 works : List ℕ) (count last : ℕ) → count ≡ length works
    → t1 ≡ old ++ codes "% SZS status Unsatisfiable\n" → t2 ≡ t1 ++ text_of (level_lines works) → t3 ≡ t2 ++ codes "level " → t4 ≡ t3 ++ decimal count
    → t5 ≡ t4 ++ codes " proof attempts " → t6 ≡ t5 ++ decimal last → t7 ≡ t6 ++ 10 ∷ []
    → t7 ≡ old ++ text_of (status_line ∷ level_lines works ++ proof_line (length works) last ∷ [])
levels_told old t1 t2 t3 t4 t5 t6 t7 works count last is e1 e2 e3 e4 e5 e6 e7 =
    simp (e7, e6, e5, e4, e3, e2, e1, is, append_assoc) (simp (text_of-append (level_lines works) (proof_line (length works) last ∷ []), append_assoc) refl)

-- ---- places of rows

-- the first place at which a row stands
pub place_row : (row i : ℕ) (rows : List ℕ) → Some i ≡ position (λ r. row == r) rows → slice_get rows i ≡ Some row
place_row row i rows is = by (nat_lt place (length rows)) refl is
  where
    place : ℕ
    place = position_or_len (λ r. row == r) rows

    by : (b : Bool) → nat_lt place (length rows) ≡ b → Some i ≡ cond b (Some place) None → slice_get rows i ≡ Some row
    by true lt e =
        let within : place < length rows = ltb-true place (length rows) lt in
        let same : i ≡ place = cc in
        let found : row ≡ get_or rows place 0 = eqb-true row (get_or rows place 0) (passes_at_first (λ r. row == r) rows 0 within) in
        ap (slice_get rows) same ∙ slice_get-get_or rows place 0 within ∙ ap Some (sym found)
    by false lt e = absurd cc

pub places_more : (keys rows old before marked after numbers : List ℕ) (i row place : ℕ) → i < length rows → row ≡ get_or rows i row → slice_get keys place ≡ Some row
    → marked ≡ before ++ 32 ∷ [] → after ≡ marked ++ decimal place
    → map (slice_get keys) numbers ≡ map Some (take i rows) → before ≡ old ++ numbers_text numbers
    → (more : List ℕ) × (map (slice_get keys) more ≡ map Some (take (i + 1) rows)) × (after ≡ old ++ numbers_text more)
places_more keys rows old before marked after numbers i row place lt is stands mark number places so_far =
    let cut : take (i + 1) rows ≡ take i rows ++ row ∷ [] = take_more rows i row lt ∙ ap (λ (r : ℕ). take i rows ++ r ∷ []) (sym is) in (
      numbers ++ place ∷ [],
      map-append (slice_get keys) numbers (place ∷ [])
          ∙ ap₂ (λ (a b : List (Option ℕ)). a ++ b) places (ap (λ (o : Option ℕ). o ∷ []) stands)
          ∙ sym (ap (map Some) cut ∙ map-append Some (take i rows) (row ∷ [])),
      number ∙ ap (λ (t : List ℕ). t ++ decimal place) mark
          ∙ append_assoc before (32 ∷ []) (decimal place)
          ∙ ap (λ (t : List ℕ). t ++ 32 ∷ decimal place) so_far
          ∙ flat_map_more (λ (n : ℕ). 32 ∷ decimal n) old numbers place,
    )

-- the places of rows are those of their terms
pub term_places : (terms : List Term) (keys rows numbers : List ℕ) → map (slice_get keys) numbers ≡ map Some rows
    → ArePlacesOf (map (tree_at terms) keys) (map (tree_at terms) rows) numbers
term_places terms keys [] [] e = refl
term_places terms keys [] (n ∷ ns) e = absurd cc
term_places terms keys (r ∷ rs) [] e = absurd cc
term_places terms keys (r ∷ rs) (n ∷ ns) e =
    let here : slice_get keys n ≡ Some r = cc in
    let later : map (slice_get keys) ns ≡ map Some rs = cc in
    ap₂ (λ (o : Option Term) (os : List (Option Term)). o ∷ os) (stands keys n r here) (term_places terms keys rs ns later)
  where
    stands : (keys : List ℕ) (n r : ℕ) → slice_get keys n ≡ Some r → slice_get (map (tree_at terms) keys) n ≡ Some (tree_at terms r)
    stands [] n r e = absurd cc
    stands (k ∷ ks) zero r e = ap (λ (x : ℕ). Some (tree_at terms x)) (let same : k ≡ r = cc in same)
    stands (k ∷ ks) (suc n) r e = stands ks n r e

pub args_there : (terms : List Term) (keys args : List ℕ) → AreRows terms keys → All (λ arg. arg < length terms) args
    → All (Contains (map (tree_at terms) keys)) (map (tree_at terms) args) → All (Contains keys) args
args_there terms keys args are within all = λ k d lt.
    row_there terms keys (get_or args k d) are (within k d lt)
    (subst (Contains (map (tree_at terms) keys)) (get_or-map (tree_at terms) args k d (tree_at terms d) lt)
    (all k (tree_at terms d) (omega (arith, length-map args (tree_at terms)))))

-- ---- term lines

pub spaced_numbers : (word : List ℕ) (numbers : List ℕ) → spaced (word ∷ map decimal numbers) ≡ word ++ numbers_text numbers
spaced_numbers word [] = sym (append-nil word)
spaced_numbers word (n ∷ ns) = ap (λ (t : List ℕ). word ++ 32 ∷ t) (spaced_numbers (decimal n) ns)

-- the symbol and arguments of an application that can be written
pub writable-args : (symbols : List Symbol) (terms trees : List Term) (keys args : List ℕ) (row symbol : ℕ) → trees ≡ map (tree_at terms) keys → AreRows terms keys → row < length terms
    → tree_at terms row ≡ app symbol (as_terms (map (tree_at terms) args)) → All (λ arg. arg < row) args
    → IsWritableTerm symbols trees (tree_at terms row) → All (Contains keys) args
writable-args symbols terms trees keys args row symbol same are lt is below writable =
    let parts : IsWritableTerm symbols trees (app symbol (as_terms (map (tree_at terms) args))) = subst (IsWritableTerm symbols trees) is writable in
    args_there terms keys args are (λ k d k_in. let h = below k d k_in in omega arith)
    (subst (λ (ts : List Term). All (Contains ts) (map (tree_at terms) args)) same (subst (All (Contains trees)) (list_of-as_terms (map (tree_at terms) args)) parts.1))

module _ (symbols : List Symbol) (terms : List Term) (keys : List ℕ) (row : ℕ) (old text new : List ℕ) where
  pub variable_told : (n : ℕ) → tree_at terms row ≡ var n → text ≡ old ++ 63 ∷ [] → new ≡ text ++ 10 ∷ []
      → (line : Line) × IsTermLine symbols (map (tree_at terms) keys) (tree_at terms row) line × (new ≡ old ++ ended line)
  variable_told n is e1 e2 = (
    variable_line,
    subst (λ (t : Term). IsTermLine symbols (map (tree_at terms) keys) t variable_line) (sym is) refl,
    e2 ∙ ap (λ (t : List ℕ). t ++ 10 ∷ []) e1 ∙ append_assoc old (63 ∷ []) (10 ∷ []),
  )

  pub application_told : (number : ℕ) (args numbers word : List ℕ) (found : Option Symbol) → found ≡ slice_get symbols number → tree_at terms row ≡ app number (as_terms (map (tree_at terms) args))
      → IsSomeAnd found (λ s. word ≡ old ++ written_symbol s) → map (slice_get keys) numbers ≡ map Some args → text ≡ word ++ numbers_text numbers → new ≡ text ++ 10 ∷ []
      → (line : Line) × IsTermLine symbols (map (tree_at terms) keys) (tree_at terms row) line × (new ≡ old ++ ended line)
  application_told number args numbers word None same is h places e1 e2 = absurd h
  application_told number args numbers word (Some s) same is h places e1 e2 = (
    application_line s numbers,
    subst (λ (t : Term). IsTermLine symbols (map (tree_at terms) keys) t (application_line s numbers)) (sym is)
        (s, numbers, sym same, subst (λ (ts : List Term). ArePlacesOf (map (tree_at terms) keys) ts numbers) (sym (list_of-as_terms (map (tree_at terms) args))) (term_places terms keys args numbers places), refl),
    e2 ∙ ap (λ (t : List ℕ). t ++ 10 ∷ []) (e1 ∙ ap (λ (t : List ℕ). t ++ numbers_text numbers) h ∙ append_assoc old (written_symbol s) (numbers_text numbers) ∙ ap (λ (t : List ℕ). old ++ t) (sym (spaced_numbers (written_symbol s) numbers)))
        ∙ append_assoc old (application_line s numbers) (10 ∷ []),
  )

-- ---- lists beside their lines

pub all_zip_push : {A B : Type 0} (R : A → B → Type 0) (xs : List A) (ys : List B) (x : A) (y : B) → AllZip R xs ys → R x y → AllZip R (xs ++ x ∷ []) (ys ++ y ∷ [])
all_zip_push R [] [] x y zip h = (h, tt)
all_zip_push R [] (b ∷ ys) x y zip h = absurd zip
all_zip_push R (a ∷ xs) [] x y zip h = absurd zip
all_zip_push R (a ∷ xs) (b ∷ ys) x y zip h = (zip.0, all_zip_push R xs ys x y zip.1 h)

-- the writable term of a row of the list
pub writable-at : (symbols : List Symbol) (terms : List Term) (keys items : List ℕ) (i row : ℕ) → items ≡ keys → i < length items → row ≡ get_or items i row
    → All (IsWritableTerm symbols (map (tree_at terms) keys)) (map (tree_at terms) keys) → IsWritableTerm symbols (map (tree_at terms) keys) (tree_at terms row)
writable-at symbols terms keys items i row same lt is all =
    let within : i < length keys = omega (arith, ap length same) in
    let here : get_or (map (tree_at terms) keys) i (tree_at terms row) ≡ tree_at terms row =
    get_or-map (tree_at terms) keys i row (tree_at terms row) within ∙ ap (λ (ks : List ℕ). tree_at terms (get_or ks i row)) (sym same) ∙ ap (tree_at terms) (sym is) in
    subst (IsWritableTerm symbols (map (tree_at terms) keys)) here (all i (tree_at terms row) (omega (arith, length-map keys (tree_at terms))))

pub lines_more : (symbols : List Symbol) (terms trees : List Term) (items old before after : List ℕ) (i row : ℕ) (lines : List Line) → i < length items → row ≡ get_or items i row
    → AllZip (IsTermLine symbols trees) (map (tree_at terms) (take i items)) lines → before ≡ old ++ text_of lines
    → (line : Line) × IsTermLine symbols trees (tree_at terms row) line × (after ≡ before ++ ended line)
    → (more : List Line) × AllZip (IsTermLine symbols trees) (map (tree_at terms) (take (i + 1) items)) more × (after ≡ old ++ text_of more)
lines_more symbols terms trees items old before after i row lines lt is zip so_far line =
    let cut : take (i + 1) items ≡ take i items ++ row ∷ [] = take_more items i row lt ∙ ap (λ (r : ℕ). take i items ++ r ∷ []) (sym is) in (
      lines ++ line.0 ∷ [],
      subst (λ (ts : List Term). AllZip (IsTermLine symbols trees) ts (lines ++ line.0 ∷ []))
          (sym (ap (map (tree_at terms)) cut ∙ map-append (tree_at terms) (take i items) (row ∷ [])))
          (all_zip_push (IsTermLine symbols trees) (map (tree_at terms) (take i items)) lines (tree_at terms row) line.0 zip line.1),
      line.2 ∙ ap (λ (t : List ℕ). t ++ ended line.0) so_far
          ∙ append_assoc old (text_of lines) (ended line.0)
          ∙ ap (λ (t : List ℕ). old ++ t) (sym (text_of-append lines (line.0 ∷ []))),
    )
