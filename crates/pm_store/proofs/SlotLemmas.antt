-- How cells and their arguments lie when one is added, or the last ones are taken away.
use Rattle.std.proofs.Common.{◌≡◌, ℕ, zero, suc, ◌+◌, ◌<◌, ◌≤◌, List, [], ◌∷◌, ◌++◌, length, take, drop, set, get_or, Some, slice_get, refl, sym, ◌∙◌, ap, ap₂, subst, arith}
use Rattle.std.proofs.lemmas.List.{length-drop, length-take-le, map-append, take-map, take-append-drop, take-append-le, drop-append-le}
use Rattle.std.proofs.Math.Seq.{take-length, drop-append_seam}
use Rattle.pm_store.specs.declared.slots.Slot.{Slot}
use Rattle.pm_store.specs.declared.slots.Slot.TheVariants.{Unbound, Bound, Made}
use Rattle.pm_store.specs.Entries.{Application}
use Rattle.pm_store.specs.Inside.Slots.{entry_of, entries_of, start_in, count_in, start_at, AreLaid}

laid_within : (from : ℕ) (ss : List Slot) (end : ℕ) → AreLaid from ss end → from ≤ end
laid_within from [] end laid = omega (arith, laid)
laid_within from (s ∷ ss) end laid = omega (arith, laid_within (from + count_in s) ss end laid.1)

pub laid_push : (from : ℕ) (ss : List Slot) (end : ℕ) (s : Slot) (end' : ℕ) → AreLaid from ss end → start_in s ≡ end → end + count_in s ≡ end'
    → AreLaid from (ss ++ s ∷ []) end'
laid_push from [] end s end' laid here after = (here ∙ sym laid, ap (λ n. n + count_in s) laid ∙ after)
laid_push from (s' ∷ ss) end s end' laid here after = (laid.0, laid_push (from + count_in s') ss end s end' laid.1 here after)

pub laid_set : (from : ℕ) (ss : List Slot) (end i : ℕ) (s : Slot) → AreLaid from ss end → i < length ss → start_in s ≡ start_in (get_or ss i s)
    → count_in s ≡ count_in (get_or ss i s) → AreLaid from (set ss i s) end
laid_set from [] end i s laid within start count = laid
laid_set from (s' ∷ ss) end zero s laid within start count =
    (start ∙ laid.0, subst (λ (n : ℕ). AreLaid (from + n) ss end) (sym count) laid.1)
laid_set from (s' ∷ ss) end (suc i) s laid within start count =
    (laid.0, laid_set (from + count_in s') ss end i s laid.1 (omega arith) start count)

pub start_at-within : (from : ℕ) (ss : List Slot) (end n : ℕ) → AreLaid from ss end → start_at ss end n ≤ end
start_at-within from [] end n laid = same end
  where
    same : (n : ℕ) → n ≤ n
    same n = omega arith
start_at-within from (s ∷ ss) end zero laid = omega (arith, laid.0, laid_within (from + count_in s) ss end laid.1)
start_at-within from (s ∷ ss) end (suc n) laid = start_at-within (from + count_in s) ss end n laid.1

pub laid_take : (from : ℕ) (ss : List Slot) (end n : ℕ) → AreLaid from ss end → AreLaid from (take n ss) (start_at ss end n)
laid_take from [] end zero laid = laid
laid_take from [] end (suc n) laid = laid
laid_take from (s ∷ ss) end zero laid = sym laid.0
laid_take from (s ∷ ss) end (suc n) laid = (laid.0, laid_take (from + count_in s) ss end n laid.1)

-- where an application's arguments end
pub laid_at : (from : ℕ) (ss : List Slot) (end i : ℕ) (s : Slot) → AreLaid from ss end → slice_get ss i ≡ Some s → start_in s + count_in s ≤ end
laid_at from [] end i s laid is = absurd cc
laid_at from (s' ∷ ss) end zero s laid is =
    let same : s' ≡ s = cc in
    subst (λ (x : Slot). start_in x + count_in x ≤ end) same (omega (arith, laid.0, laid_within (from + count_in s') ss end laid.1))
laid_at from (s' ∷ ss) end (suc i) s laid is = laid_at (from + count_in s') ss end i s laid.1 is

-- a part of a list is one of each longer list
part-append : (all more : List ℕ) (start count : ℕ) → start + count ≤ length all → take count (drop start (all ++ more)) ≡ take count (drop start all)
part-append all more start count within =
    ap (take count) (drop-append-le start all more (omega arith))
    ∙ take-append-le count (drop start all) more (omega (arith, length-drop start all))

entry_of-append : (all more : List ℕ) (s : Slot) → start_in s + count_in s ≤ length all → entry_of (all ++ more) s ≡ entry_of all s
entry_of-append all more (Unbound start) within = refl
entry_of-append all more (Bound start target) within = refl
entry_of-append all more (Made start symbol count) within = ap (Application symbol) (part-append all more start count within)

-- further arguments change no cell
pub entries_of-append : (from : ℕ) (ss : List Slot) (all more : List ℕ) → AreLaid from ss (length all) → entries_of (all ++ more) ss ≡ entries_of all ss
entries_of-append from [] all more laid = refl
entries_of-append from (s ∷ ss) all more laid =
    ap₂ (λ e es. e ∷ es)
    (entry_of-append all more s (omega (arith, laid.0, laid_within (from + count_in s) ss (length all) laid.1)))
    (entries_of-append (from + count_in s) ss all more laid.1)

-- the last arguments are those of the cell that was added with them
entry_of-last : (all more : List ℕ) (symbol : ℕ) → entry_of (all ++ more) (Made (length all) symbol (length more)) ≡ Application symbol more
entry_of-last all more symbol = ap (Application symbol) (ap (take (length more)) (drop-append_seam all more) ∙ take-length more)

pub entries_of-push : (ss : List Slot) (all more : List ℕ) (symbol : ℕ) → AreLaid 0 ss (length all)
    → entries_of (all ++ more) (ss ++ Made (length all) symbol (length more) ∷ []) ≡ entries_of all ss ++ Application symbol more ∷ []
entries_of-push ss all more symbol laid =
    map-append (entry_of (all ++ more)) ss (Made (length all) symbol (length more) ∷ [])
    ∙ ap₂ (λ es e. es ++ e ∷ []) (entries_of-append 0 ss all more laid) (entry_of-last all more symbol)

-- the first cells have their arguments among the first ones
pub entries_of-take : (ss : List Slot) (all : List ℕ) (n : ℕ) → AreLaid 0 ss (length all)
    → entries_of (take (start_at ss (length all) n) all) (take n ss) ≡ take n (entries_of all ss)
entries_of-take ss all n laid =
    let kept : ℕ = start_at ss (length all) n in
    let count : length (take kept all) ≡ kept = length-take-le kept all (start_at-within 0 ss (length all) n laid) in
    let laid' : AreLaid 0 (take n ss) (length (take kept all)) =
    subst (λ (k : ℕ). AreLaid 0 (take n ss) k) (sym count) (laid_take 0 ss (length all) n laid) in
    sym (entries_of-append 0 (take n ss) (take kept all) (drop kept all) laid')
    ∙ ap (λ (xs : List ℕ). entries_of xs (take n ss)) (take-append-drop kept all)
    ∙ sym (take-map (entry_of all) n ss)

-- where the arguments of a cell that is there begin, and of one that isn't
pub start_at-there : (ss : List Slot) (all i : ℕ) (s : Slot) → i < length ss → s ≡ get_or ss i s → start_at ss all i ≡ start_in s
start_at-there [] all i s within read = absurd (omega arith)
start_at-there (s' ∷ ss) all zero s within read = sym (ap start_in read)
start_at-there (s' ∷ ss) all (suc i) s within read = start_at-there ss all i s (omega arith) read

pub start_at-past : (ss : List Slot) (all i : ℕ) → length ss ≤ i → start_at ss all i ≡ all
start_at-past [] all i past = refl
start_at-past (s ∷ ss) all zero past = absurd (omega arith)
start_at-past (s ∷ ss) all (suc i) past = start_at-past ss all i (omega arith)
