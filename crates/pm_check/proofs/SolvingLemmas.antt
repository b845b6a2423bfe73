-- Terms that give the images of rows whose matches were all taken apart.
use Rattle.std.proofs.Common.{◌≡◌, ◌≢◌, ◌∙◌, ◌<◌, ◌≤◌, ◌⊎◌, inl, inr, ℕ, zero, suc, true, false, cond, eqb, List, [], ◌∷◌, ◌++◌, length, map, get_or, Some, sym, ap, ap₂, refl, subst, arith}
use Rattle.std.specs.List.{All, AllZip, Contains}
use Rattle.std.proofs.lemmas.Bool.{cases_lt}
use Rattle.std.proofs.lemmas.Bool.Decides.{eqb_tells}
use Rattle.std.proofs.lemmas.List.{length_push}
use Rattle.std.proofs.lemmas.List.Elements.{All-contains, All-head, All-tail}
use Rattle.std.proofs.lemmas.Option.{slice_get-get_or}
use Rattle.pm_logic.specs.Lists.{AreDistinct}
use Rattle.pm_logic.specs.Term.{Term, var, app, as_terms, tree_at}
use Rattle.pm_logic.specs.Filling.{put}
use Rattle.pm_logic.specs.Problem.{Symbol, IsTermOver}
use Rattle.pm_check.specs.declared.images.Match.{Match}
use Rattle.pm_check.specs.Inside.Images.{sent, AreSingle}
use Rattle.pm_check.specs.Inside.Matching.{Give, AreThere, HasImage, IsTakenApart}
use Rattle.pm_check.proofs.MatchingLemmas.{All-from_contains, fill-as_terms}

-- ---- the image of a variable

-- the found term where the first is the variable of this number
abbrev picked : Term → ℕ → Term → Term → Term
picked (var k) n found other = cond (eqb k n) found other
picked (app symbol args) n found other = other

-- the image of the row of a variable
abbrev image_of : List Term → List Term → List Match → ℕ → Term
image_of source target [] n = var n
image_of source target (m ∷ ms) n = picked (tree_at source m.row) n (tree_at target m.image) (image_of source target ms n)

picked_variable : (term : Term) (n : ℕ) (found other result : Term) → (term ≡ var n → found ≡ result) → (term ≢ var n → other ≡ result) → picked term n found other ≡ result
picked_variable (app symbol args) n found other result if_same if_other = if_other (λ same. cc)
picked_variable (var k) n found other result if_same if_other = by (eqb_tells k n)
  where
    by : ((eqb k n ≡ true) × (k ≡ n)) ⊎ ((eqb k n ≡ false) × (k ≢ n)) → cond (eqb k n) found other ≡ result
    by (inl h) = ap (λ b. cond b found other) h.0 ∙ if_same (ap var h.1)
    by (inr h) = ap (λ b. cond b found other) h.0 ∙ if_other (λ same. let equal : k ≡ n = cc in h.1 equal)

image_is : (source target : List Term) (matches : List Match) (n : ℕ) (tree : Term) → ((m : Match) → Contains matches m → tree_at source m.row ≡ var n → tree_at target m.image ≡ tree)
    → (m : Match) → Contains matches m → tree_at source m.row ≡ var n → image_of source target matches n ≡ tree
image_is source target [] n tree each m there is = absurd (omega (arith, there.1))
image_is source target (h ∷ ms) n tree each m there is =
    picked_variable (tree_at source h.row) n (tree_at target h.image) (image_of source target ms n) tree (each h (0, omega arith, refl))
    (λ other. image_is source target ms n tree (λ x x_there. each x (later x x_there)) m (rest there other) is)
  where
    later : (x : Match) → Contains ms x → Contains (h ∷ ms) x
    later x x_there = (suc x_there.0, omega (arith, x_there.1), x_there.2)

    rest : Contains (h ∷ ms) m → tree_at source h.row ≢ var n → Contains ms m
    rest (zero, lt, same) other = absurd (other (ap (λ (x : Match). tree_at source x.row) same ∙ is))
    rest (suc k, lt, same) other = (k, omega arith, same)

-- the first so many images of variables
abbrev images_up_to : (ℕ → Term) → ℕ → List Term
images_up_to image zero = []
images_up_to image (suc n) = images_up_to image n ++ image n ∷ []

length-images_up_to : (image : ℕ → Term) (n : ℕ) → length (images_up_to image n) ≡ n
length-images_up_to image zero = refl
length-images_up_to image (suc n) = omega (arith, length_push (images_up_to image n) (image n), length-images_up_to image n)

get_or-front : {A : Type 0} (xs : List A) (x d : A) (k : ℕ) → k < length xs → get_or (xs ++ x ∷ []) k d ≡ get_or xs k d
get_or-front [] x d k lt = absurd (omega arith)
get_or-front (y ∷ xs) x d zero lt = refl
get_or-front (y ∷ xs) x d (suc k) lt = get_or-front xs x d k (omega arith)

get_or-end : {A : Type 0} (xs : List A) (x d : A) (k : ℕ) → k ≡ length xs → get_or (xs ++ x ∷ []) k d ≡ x
get_or-end [] x d zero is = refl
get_or-end [] x d (suc k) is = absurd (omega arith)
get_or-end (y ∷ xs) x d zero is = absurd (omega arith)
get_or-end (y ∷ xs) x d (suc k) is = get_or-end xs x d k (omega arith)

get_or-images : (image : ℕ → Term) (n k : ℕ) (d : Term) → k < n → get_or (images_up_to image n) k d ≡ image k
get_or-images image zero k d lt = absurd (omega arith)
get_or-images image (suc n) k d lt = by (get_or-images image n k d) (cases_lt k n)
  where
    by : (k < n → get_or (images_up_to image n) k d ≡ image k) → (k < n) ⊎ (n ≤ k) → get_or (images_up_to image n ++ image n ∷ []) k d ≡ image k
    by before (inl below) = get_or-front (images_up_to image n) (image n) d k (omega (arith, length-images_up_to image n)) ∙ before below
    by before (inr last) =
        let same : k ≡ n = omega arith in
        get_or-end (images_up_to image n) (image n) d k (omega (arith, length-images_up_to image n)) ∙ ap image (sym same)

-- ---- the terms

pub record AreGiven (symbols : List Symbol) (vars : ℕ) (source target : List Term) (matches : List Match) : Type 0 where
  pub distinct : AreDistinct source
  pub there : AreThere (length source) (length target) matches
  pub single : AreSingle matches
  pub over : All (λ m. IsTermOver symbols vars (tree_at source m.row)) matches
  pub apart : All (IsTakenApart source target matches) matches

abbrev pub given_terms : ℕ → List Term → List Term → List Match → List Term
given_terms vars source target matches = images_up_to (image_of source target matches) vars

-- rows of one term are one row
one_row : (source : List Term) (a b : ℕ) → AreDistinct source → a < length source → b < length source → tree_at source a ≡ tree_at source b → a ≡ b
one_row source a b distinct a_in b_in same =
    distinct a b a_in b_in (slice_get-get_or source a (var 0) a_in ∙ ap Some same ∙ sym (slice_get-get_or source b (var 0) b_in))

given_variable : (symbols : List Symbol) (vars : ℕ) (source target : List Term) (matches : List Match) → AreGiven symbols vars source target matches → (m : Match) → Contains matches m
    → (n : ℕ) → tree_at source m.row ≡ var n → put (given_terms vars source target matches) (tree_at source m.row) ≡ tree_at target m.image
given_variable symbols vars source target matches given m there n is =
    ap (put terms) is
    ∙ get_or-images (image_of source target matches) vars n (var n) small
    ∙ image_is source target matches n (tree_at target m.image) same_image m there is
  where
    terms : List Term
    terms = given_terms vars source target matches

    small : n < vars
    small = subst (IsTermOver symbols vars) is (All-contains (λ (x : Match). IsTermOver symbols vars (tree_at source x.row)) matches m given.over there)

    same_image : (x : Match) → Contains matches x → tree_at source x.row ≡ var n → tree_at target x.image ≡ tree_at target m.image
    same_image x x_there x_is =
        let rows = λ (y : Match). (y.row < length source) × (y.image < length target) in
        let row : x.row ≡ m.row = one_row source x.row m.row given.distinct (All-contains rows matches x given.there x_there).0 (All-contains rows matches m given.there there).0 (x_is ∙ sym is) in
        ap (tree_at target) (given.single m.row x.image m.image (subst (λ r. Contains matches (sent r x.image)) row x_there) there)

-- the terms give the images of rows before this one
abbrev GivesBelow : List Term → List Term → List Term → List Match → ℕ → Type 0
GivesBelow source target terms matches row = (m : Match) → m.row < row → Contains matches m → put terms (tree_at source m.row) ≡ tree_at target m.image

given_args : (source target terms : List Term) (matches : List Match) (row : ℕ) → GivesBelow source target terms matches row → (args others : List ℕ)
    → All (λ arg. arg < row) args → AllZip (λ arg other. HasImage target matches arg (tree_at target other)) args others
    → map (λ r. put terms (tree_at source r)) args ≡ map (tree_at target) others
given_args source target terms matches row given [] [] below matched = refl
given_args source target terms matches row given [] (o ∷ os) below matched = absurd matched
given_args source target terms matches row given (a ∷ args) [] below matched = absurd matched
given_args source target terms matches row given (a ∷ args) (o ∷ os) below matched =
    ap₂ (λ t ts. t ∷ ts)
    (given (sent a matched.0.0) (All-head (λ arg. arg < row) a args below) matched.0.1 ∙ matched.0.2)
    (given_args source target terms matches row given args os (All-tail (λ arg. arg < row) a args below) matched.1)

given_either : (symbols : List Symbol) (vars : ℕ) (source target : List Term) (matches : List Match) → AreGiven symbols vars source target matches → (m : Match)
    → GivesBelow source target (given_terms vars source target matches) matches m.row → Contains matches m → IsTakenApart source target matches m
    → put (given_terms vars source target matches) (tree_at source m.row) ≡ tree_at target m.image
given_either symbols vars source target matches given m before there (inl variable) =
    given_variable symbols vars source target matches given m there variable.0 variable.1
given_either symbols vars source target matches given m before there (inr parts) =
    ap (put (given_terms vars source target matches)) parts.its_row
    ∙ ap (app parts.symbol)
    (fill-as_terms (given_terms vars source target matches) source parts.args
    ∙ ap as_terms (given_args source target (given_terms vars source target matches) matches m.row before parts.args parts.others parts.below parts.matched))
    ∙ sym parts.its_image

-- by induction on the row
given_row : (symbols : List Symbol) (vars : ℕ) (source target : List Term) (matches : List Match) → AreGiven symbols vars source target matches → (fuel : ℕ) (m : Match) → m.row < fuel → Contains matches m
    → put (given_terms vars source target matches) (tree_at source m.row) ≡ tree_at target m.image
given_row symbols vars source target matches given zero m lt there = absurd (omega arith)
given_row symbols vars source target matches given (suc fuel) m lt there =
    given_either symbols vars source target matches given m
    (λ x x_lt x_there. given_row symbols vars source target matches given fuel x (omega arith) x_there)
    there (All-contains (IsTakenApart source target matches) matches m given.apart there)

pub terms_give : (symbols : List Symbol) (vars : ℕ) (source target : List Term) (matches : List Match) → AreGiven symbols vars source target matches
    → (terms : List Term) × (length terms ≡ vars) × Give source target terms matches
terms_give symbols vars source target matches given = (
  given_terms vars source target matches,
  length-images_up_to (image_of source target matches) vars,
  All-from_contains (λ m. put (given_terms vars source target matches) (tree_at source m.row) ≡ tree_at target m.image) matches
      (λ m there. given_row symbols vars source target matches given (suc m.row) m (omega arith) there),
)
