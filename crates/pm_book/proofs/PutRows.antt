-- What writes to a list of rows leave.
use Rattle.std.proofs.Common.{◌≡◌, ℕ, zero, suc, ◌+◌, ◌-◌, ◌<◌, ◌≤◌, ◌∙◌, List, [], ◌∷◌, ◌++◌, length, take, drop, set, map, get_or, refl, sym, ap, arith, add-one, append_assoc, length-append, length-drop, drop-cons}
use Rattle.std.specs.Prelude.{Option, Some, None}
use Rattle.std.specs.Option.{option_to_list}
use Rattle.std.proofs.lemmas.List.{take_more_set, drop-set-lt, length-take, length-map, map-append, take_more}
use Rattle.std.proofs.Math.Seq.{get_or-append_seam, set-append_seam}

-- a row is written, and rows are put after it
pub put_after : {X : Type 0} → (xs : List X) (place : ℕ) (x : X) (rest : List X) → place < length xs
    → take (place + 1) (set xs place x) ++ (rest ++ drop (place + 1) (set xs place x)) ≡ take place xs ++ ((x ∷ rest) ++ drop (place + 1) xs)
put_after xs place x rest within =
    let a = take_more_set xs place x within in
    let b = drop-set-lt (place + 1) xs place x (omega arith) in
    ap (λ l. l ++ (rest ++ drop (place + 1) (set xs place x))) a ∙ ap (λ l. (take place xs ++ x ∷ []) ++ (rest ++ l)) b ∙ append_assoc (take place xs) (x ∷ []) (rest ++ drop (place + 1) xs)

pub one_at_most : {X : Type 0} → (o : Option X) → length (option_to_list o) ≤ 1
one_at_most None = omega arith
one_at_most (Some x) = omega arith

-- a write in a pass over the elements from a place on
pub written_more : {X : Type 0} → (u : X → X) (xs now : List X) (first k : ℕ) (read value : X) → first + k < length xs
    → now ≡ take first xs ++ (map u (take k (drop first xs)) ++ drop k (drop first xs)) → read ≡ get_or now (first + k) read → value ≡ u read
    → set now (first + k) value ≡ take first xs ++ (map u (take (k + 1) (drop first xs)) ++ drop (k + 1) (drop first xs))
written_more u xs now first k read value within is read-is value-is =
    let ys = drop first xs in
    let left : length ys ≡ length xs - first = length-drop first xs in
    let inside : k < length ys = omega (arith, left) in
    let front = take first xs ++ map u (take k ys) in
    let long : length front ≡ first + k = length-append (take first xs) (map u (take k ys)) ∙ (let a = length-take first xs in let b = length-map (take k ys) u in let e = length-take k ys in omega (arith, a, b, e, left)) in
    let rest = drop (k + 1) ys in
    let y = get_or ys k read in
    let split : drop k ys ≡ y ∷ rest = drop-cons ys k read inside ∙ ap (λ n. y ∷ drop n ys) (sym (add-one k)) in
    let whole : now ≡ front ++ (y ∷ rest) = is ∙ sym (append_assoc (take first xs) (map u (take k ys)) (drop k ys)) ∙ ap (λ l. front ++ l) split in
    let read-y : read ≡ y =
    read-is ∙ ap (λ l. get_or l (first + k) read) whole ∙ ap (λ n. get_or (front ++ (y ∷ rest)) n read) (sym long) ∙ get_or-append_seam front y rest read in
    let set-is : set now (first + k) value ≡ front ++ (value ∷ rest) =
    ap (λ l. set l (first + k) value) whole ∙ ap (λ n. set (front ++ (y ∷ rest)) n value) (sym long) ∙ set-append_seam front y rest value in
    let more : map u (take (k + 1) ys) ≡ map u (take k ys) ++ (u y ∷ []) = ap (map u) (take_more ys k read inside) ∙ map-append u (take k ys) (y ∷ []) in
    set-is ∙ ap (λ v. front ++ (v ∷ rest)) (value-is ∙ ap u read-y) ∙ append_assoc (take first xs) (map u (take k ys)) (u y ∷ rest)
    ∙ ap (λ l. take first xs ++ l) (sym (append_assoc (map u (take k ys)) (u y ∷ []) rest)) ∙ ap (λ l. take first xs ++ (l ++ rest)) (sym more)

pub take_whole : {X : Type 0} → (n : ℕ) (xs : List X) → length xs ≤ n → take n xs ≡ xs
take_whole zero [] long = refl
take_whole (suc n) [] long = refl
take_whole zero (x ∷ xs) long = absurd (omega arith)
take_whole (suc n) (x ∷ xs) long = ap (λ l. x ∷ l) (take_whole n xs (omega arith))

pub drop_whole : {X : Type 0} → (n : ℕ) (xs : List X) → length xs ≤ n → drop n xs ≡ []
drop_whole zero [] long = refl
drop_whole (suc n) [] long = refl
drop_whole zero (x ∷ xs) long = absurd (omega arith)
drop_whole (suc n) (x ∷ xs) long = drop_whole n xs (omega arith)
