-- What is left of open lists of arguments, and how a step of the walk changes it.
use Rattle.std.proofs.Common.{◌≡◌, ◌<◌, ◌+◌, ◌==◌, ◌++◌, ℕ, List, [], ◌∷◌, Bor, false, length, map, take, get_or, All, refl, subst, ap, sym, ◌∙◌, arith, append_assoc, length-append}
use Rattle.std.proofs.lemmas.List.{append-nil, flat_map_more, take_more}
use Rattle.std.proofs.lemmas.List.Elements.{All-nil, All-cons, All-append, All-head, All-tail}
use Rattle.std.specs.List.{flat_map}
use Rattle.pm_logic.specs.Problem.{Symbol}
use Rattle.pm_logic.specs.Term.{Term, as_terms, tree_at}
use Rattle.pm_write.specs.declared.terms.Pending.{Pending}
use Rattle.pm_write.specs.Text.{term_text, arguments_text, others_text}
use Rattle.pm_write.specs.Rows.{IsTerm}
use Rattle.pm_write.specs.Inside.Pending.{AreTerms, rest_text, pending_text}

-- what is left of the innermost list comes first
pub pending_text-push : (symbols : List Symbol) (terms : List Term) (lists : List Pending) (list : Pending)
    → pending_text symbols terms (lists ++ list ∷ []) ≡ rest_text symbols terms list.mark list.args.now ++ pending_text symbols terms lists
pending_text-push symbols terms [] list = sym (append-nil (rest_text symbols terms list.mark list.args.now))
pending_text-push symbols terms (l ∷ ls) list =
    ap (λ (t : List ℕ). t ++ rest_text symbols terms l.mark l.args.now) (pending_text-push symbols terms ls list)
    ∙ append_assoc (rest_text symbols terms list.mark list.args.now) (pending_text symbols terms ls) (rest_text symbols terms l.mark l.args.now)

-- arguments are what is left of a list that begins
pub rest_text-begun : (symbols : List Symbol) (terms : List Term) (rows : List ℕ) → (length rows == 0) ≡ false
    → rest_text symbols terms 40 rows ≡ arguments_text symbols (as_terms (map (tree_at terms) rows))
rest_text-begun symbols terms [] some = absurd (grind arith)
rest_text-begun symbols terms (row ∷ rows) some = refl

-- what is left of a list that goes on
pub rest_text-next : (symbols : List Symbol) (terms : List Term) (rows : List ℕ)
    → rest_text symbols terms 44 rows ≡ others_text symbols (as_terms (map (tree_at terms) rows))
rest_text-next symbols terms [] = refl
rest_text-next symbols terms (row ∷ rows) = refl

rest_text-empty : (symbols : List Symbol) (terms : List Term) (mark : ℕ) (rows : List ℕ) → length rows ≡ 0 → rest_text symbols terms mark rows ≡ 41 ∷ []
rest_text-empty symbols terms mark [] none = refl
rest_text-empty symbols terms mark (row ∷ rows) none = absurd (omega (arith, none))

-- the innermost list is closed
pub text-closed : (symbols : List Symbol) (terms : List Term) (before after total : List ℕ) (lists outer : List Pending) (list : Pending)
    → lists ≡ outer ++ list ∷ [] → length list.args.now ≡ 0 → after ≡ before ++ 41 ∷ []
    → before ++ pending_text symbols terms lists ≡ total
    → after ++ pending_text symbols terms outer ≡ total
text-closed symbols terms before after total lists outer list is none closed so_far =
    ap (λ (t : List ℕ). t ++ pending_text symbols terms outer) closed
    ∙ append_assoc before (41 ∷ []) (pending_text symbols terms outer)
    ∙ ap (λ (t : List ℕ). before ++ (t ++ pending_text symbols terms outer)) (sym (rest_text-empty symbols terms list.mark list.args.now none))
    ∙ ap (λ (t : List ℕ). before ++ t) (sym (pending_text-push symbols terms outer list))
    ∙ ap (λ (ls : List Pending). before ++ pending_text symbols terms ls) (sym is)
    ∙ so_far

-- the next argument's head is written, and its own arguments are the innermost list
pub text-next : (symbols : List Symbol) (terms : List Term) (before marked after total : List ℕ) (lists outer kept new : List Pending) (list : Pending)
    (first : ℕ) (others : Bor (List ℕ)) (inner : List ℕ)
    → lists ≡ outer ++ list ∷ [] → list.args.now ≡ first ∷ others.now → marked ≡ before ++ list.mark ∷ []
    → kept ≡ outer ++ record { mark = 44; args = others } ∷ []
    → after ++ arguments_text symbols (as_terms (map (tree_at terms) inner)) ≡ marked ++ term_text symbols (tree_at terms first)
    → pending_text symbols terms new ≡ arguments_text symbols (as_terms (map (tree_at terms) inner)) ++ pending_text symbols terms kept
    → before ++ pending_text symbols terms lists ≡ total
    → after ++ pending_text symbols terms new ≡ total
text-next symbols terms before marked after total lists outer kept new list first others inner is left mark keeps head opens so_far =
    let args : List ℕ = arguments_text symbols (as_terms (map (tree_at terms) inner)) in
    let term : List ℕ = term_text symbols (tree_at terms first) in
    let rest : List ℕ = others_text symbols (as_terms (map (tree_at terms) others.now)) in
    let left_of_outer : List ℕ = pending_text symbols terms outer in
    let kept_text : pending_text symbols terms kept ≡ rest ++ left_of_outer =
    ap (pending_text symbols terms) keeps ∙ pending_text-push symbols terms outer (record { mark = 44; args = others })
    ∙ ap (λ (t : List ℕ). t ++ left_of_outer) (rest_text-next symbols terms others.now) in
    let all_text : pending_text symbols terms lists ≡ (list.mark ∷ term ++ rest) ++ left_of_outer =
    ap (pending_text symbols terms) is ∙ pending_text-push symbols terms outer list
    ∙ ap (λ (rows : List ℕ). rest_text symbols terms list.mark rows ++ left_of_outer) left in
    ap (λ (t : List ℕ). after ++ t) opens
    ∙ sym (append_assoc after args (pending_text symbols terms kept))
    ∙ ap (λ (t : List ℕ). t ++ pending_text symbols terms kept) head
    ∙ simp (mark, kept_text, append_assoc) refl
    ∙ ap (λ (t : List ℕ). before ++ t) (sym all_text)
    ∙ so_far

-- what is left is shorter where more is written
pub text-shorter : (before after left left' total : List ℕ) → before ++ left ≡ total → after ++ left' ≡ total → length before < length after → length left' < length left
text-shorter before after left left' total old new longer =
    omega (arith, sym (length-append before left) ∙ ap length (old ∙ sym new) ∙ length-append after left', longer)

-- one more of the texts of a list is written
pub flat_map-next : {X : Type 0} (f : X → List ℕ) (start before after : List ℕ) (xs : List X) (i : ℕ) (x : X)
    → i < length xs → x ≡ get_or xs i x → before ≡ start ++ flat_map f (take i xs) → after ≡ before ++ f x
    → after ≡ start ++ flat_map f (take (i + 1) xs)
flat_map-next f start before after xs i x lt is so_far new =
    new ∙ ap (λ (t : List ℕ). t ++ f x) so_far
    ∙ flat_map_more f start (take i xs) x
    ∙ ap (λ y. start ++ flat_map f (take i xs ++ y ∷ [])) is
    ∙ ap (λ ys. start ++ flat_map f ys) (sym (take_more xs i x lt))

-- the terms of the innermost list, and those of the others
terms-of_last : (symbols : List Symbol) (terms : List Term) (outer : List Pending) (list : Pending)
    → AreTerms symbols terms (outer ++ list ∷ []) → AreTerms symbols terms outer × All (IsTerm symbols terms) list.args.now
terms-of_last symbols terms [] list are =
    let P : Pending → Type 0 = λ (l : Pending). All (IsTerm symbols terms) l.args.now in
    (All-nil P, All-head P list [] are)
terms-of_last symbols terms (l ∷ ls) list are =
    let P : Pending → Type 0 = λ (l : Pending). All (IsTerm symbols terms) l.args.now in
    let rest = terms-of_last symbols terms ls list (All-tail P l (ls ++ list ∷ []) are) in
    (All-cons P l ls (All-head P l (ls ++ list ∷ []) are) rest.0, rest.1)

pub terms-outer : (symbols : List Symbol) (terms : List Term) (lists outer : List Pending) (list : Pending)
    → lists ≡ outer ++ list ∷ [] → AreTerms symbols terms lists → AreTerms symbols terms outer
terms-outer symbols terms lists outer list is are = (terms-of_last symbols terms outer list (subst (AreTerms symbols terms) is are)).0

pub terms-first : (symbols : List Symbol) (terms : List Term) (lists outer : List Pending) (list : Pending) (first : ℕ) (others : List ℕ)
    → lists ≡ outer ++ list ∷ [] → list.args.now ≡ first ∷ others → AreTerms symbols terms lists → IsTerm symbols terms first
terms-first symbols terms lists outer list first others is left are =
    All-head (IsTerm symbols terms) first others
    (subst (All (IsTerm symbols terms)) left (terms-of_last symbols terms outer list (subst (AreTerms symbols terms) is are)).1)

pub terms-kept : (symbols : List Symbol) (terms : List Term) (lists outer kept : List Pending) (list : Pending) (first : ℕ) (others : Bor (List ℕ))
    → lists ≡ outer ++ list ∷ [] → list.args.now ≡ first ∷ others.now → kept ≡ outer ++ record { mark = 44; args = others } ∷ []
    → AreTerms symbols terms lists → AreTerms symbols terms kept
terms-kept symbols terms lists outer kept list first others is left keeps are =
    let P : Pending → Type 0 = λ (l : Pending). All (IsTerm symbols terms) l.args.now in
    let split = terms-of_last symbols terms outer list (subst (AreTerms symbols terms) is are) in
    let next : Pending = record { mark = 44; args = others } in
    subst (AreTerms symbols terms) (sym keeps)
    (All-append P outer (next ∷ []) split.0
    (All-cons P next [] (All-tail (IsTerm symbols terms) first others.now (subst (All (IsTerm symbols terms)) left split.1)) (All-nil P)))

-- no list is open
pub text-whole : (symbols : List Symbol) (terms : List Term) (text total : List ℕ) (lists : List Pending)
    → length lists ≡ 0 → text ++ pending_text symbols terms lists ≡ total → text ≡ total
text-whole symbols terms text total [] none so_far = sym (append-nil text) ∙ so_far
text-whole symbols terms text total (l ∷ ls) none so_far = absurd (omega (arith, none))
