-- Lists of arguments that are open: the innermost stands last.
use Rattle.std.proofs.Common.{◌≡◌, ℕ, zero, suc, ◌+◌, ◌-◌, ◌<◌, ◌≤◌, false, nat_le, nat_lt, List, [], ◌∷◌, ◌++◌, map, reverse, length, get_or, set, None, refl, sym, ap, ◌∙◌, arith, rules, tests}
use Rattle.std.proofs.lemmas.List.{length-map, length-reverse, reverse-append, length-append, set_at}
use Rattle.pm_cnf.specs.declared.limits.Limits.{Limits}
use Rattle.pm_cnf.specs.declared.parser.OpenList.{OpenList}
use Rattle.pm_cnf.specs.Grammar.{an_argument}
use Rattle.pm_cnf.specs.Inside.Machine.{one_more, innermost, past_limit}

abbrev counts : List OpenList → List ℕ
counts lists = map (λ l. l.arguments) (reverse lists)

abbrev places : List OpenList → List ℕ
places lists = map (λ l. l.symbol) (reverse lists)

-- a list is what stands before its last item, and that item
pub split_last : {X : Type 0} (xs : List X) (i : ℕ) (x : X) → 0 < length xs → i ≡ length xs - 1 → ((d : X) → x ≡ get_or xs i d) → (front : List X) × (xs ≡ front ++ x ∷ [])
split_last [] i x some last is = absurd (omega (arith, some))
split_last (y ∷ []) i x some last is = ([], ap (λ z. z ∷ []) (sym (is x ∙ ap (λ (n : ℕ). get_or (y ∷ []) n x) last)))
split_last (y ∷ z ∷ ys) zero x some last is = absurd (omega (arith, last))
split_last (y ∷ z ∷ ys) (suc i) x some last is =
    let r = split_last (z ∷ ys) i x (omega arith) (omega (arith, last)) is in
    (y ∷ r.0, ap (λ zs. y ∷ zs) r.1)

reverse_last : {X : Type 0} (front : List X) (x : X) → reverse (front ++ x ∷ []) ≡ x ∷ reverse front
reverse_last front x = reverse-append front (x ∷ [])

-- the innermost list was given one more argument
pub one_more_begun : (lists : List OpenList) (i : ℕ) (l m : OpenList) → 0 < length lists → i ≡ length lists - 1 → ((d : OpenList) → l ≡ get_or lists i d)
    → m.symbol ≡ l.symbol → m.arguments ≡ innermost (counts lists) + 1
    → (counts (set lists i m) ≡ one_more (counts lists)) × (places (set lists i m) ≡ places lists)
one_more_begun lists i l m some last is same more =
    let r = split_last lists i l some last is in
    let whole : length lists ≡ length (r.0 ++ l ∷ []) = ap length r.1 in
    let n : length r.0 ≡ i = omega (arith, last, whole, length-append r.0 (l ∷ [])) in
    let now : set lists i m ≡ r.0 ++ m ∷ [] = ap (λ xs. set xs i m) r.1 ∙ set_at r.0 l [] m i n in
    let old : reverse lists ≡ l ∷ reverse r.0 = ap reverse r.1 ∙ reverse_last r.0 l in
    let count : m.arguments ≡ suc l.arguments = more ∙ rw old (omega arith) in
    rw (now, old, reverse_last r.0 m, count, same) (refl, refl)

-- there may be one more argument
pub argument_allowed : (limits : Limits) (lists : List OpenList) → innermost (counts lists) < limits.arity → length lists ≤ limits.nesting
    → past_limit limits (an_argument (innermost (counts lists)) (length (counts lists))) false ≡ None
argument_allowed limits lists fewer within =
    let n : length (counts lists) ≡ length lists = length-map (reverse lists) _ ∙ length-reverse lists in
    let arity : nat_le limits.arity (innermost (counts lists)) ≡ false = search (rules, tests) in
    let nesting : nat_lt limits.nesting (length (counts lists)) ≡ false = rw n (search (rules, tests)) in
    rw (arity, nesting) refl
