-- Lists whose elements are related in pairs.
use Rattle.std.proofs.Common.{◌≡◌, suc, List, [], ◌∷◌, ◌++◌, length, refl, ap}
use Rattle.std.specs.Prelude.{All}
use Rattle.std.proofs.lemmas.List.Elements.{All-head, All-tail, All-nil, All-cons}
use Rattle.pm_cnf.specs.Meaning.{Pairwise}

pub Pairwise-append : {A B : Type 0} (Related : A → B → Type 0) (xs more : List A) (ys others : List B) → Pairwise Related xs ys → Pairwise Related more others → Pairwise Related (xs ++ more) (ys ++ others)
Pairwise-append Related [] more [] others all rest = rest
Pairwise-append Related [] more (y ∷ ys) others all rest = absurd all
Pairwise-append Related (x ∷ xs) more [] others all rest = absurd all
Pairwise-append Related (x ∷ xs) more (y ∷ ys) others all rest = (all.0, Pairwise-append Related xs more ys others all.1 rest)

pub Pairwise-weaker : {A B : Type 0} (P Q : A → B → Type 0) → ((x : A) (y : B) → P x y → Q x y) → (xs : List A) (ys : List B) → Pairwise P xs ys → Pairwise Q xs ys
Pairwise-weaker P Q weaker [] [] all = tt
Pairwise-weaker P Q weaker [] (y ∷ ys) all = absurd all
Pairwise-weaker P Q weaker (x ∷ xs) [] all = absurd all
Pairwise-weaker P Q weaker (x ∷ xs) (y ∷ ys) all = (weaker x y all.0, Pairwise-weaker P Q weaker xs ys all.1)

pub Pairwise-length : {A B : Type 0} (P : A → B → Type 0) (xs : List A) (ys : List B) → Pairwise P xs ys → length xs ≡ length ys
Pairwise-length P [] [] all = refl
Pairwise-length P [] (y ∷ ys) all = absurd all
Pairwise-length P (x ∷ xs) [] all = absurd all
Pairwise-length P (x ∷ xs) (y ∷ ys) all = ap suc (Pairwise-length P xs ys all.1)

-- what holds of each pair's second holds of all the second ones
pub Pairwise-all : {A B : Type 0} (P : A → B → Type 0) (Q : A → Type 0) (R : B → Type 0) → ((x : A) (y : B) → Q x → P x y → R y)
    → (xs : List A) (ys : List B) → All Q xs → Pairwise P xs ys → All R ys
Pairwise-all P Q R give [] [] all pairs = All-nil R
Pairwise-all P Q R give [] (y ∷ ys) all pairs = absurd pairs
Pairwise-all P Q R give (x ∷ xs) [] all pairs = absurd pairs
Pairwise-all P Q R give (x ∷ xs) (y ∷ ys) all pairs = All-cons R y ys (give x y (All-head Q x xs all) pairs.0) (Pairwise-all P Q R give xs ys (All-tail Q x xs all) pairs.1)
