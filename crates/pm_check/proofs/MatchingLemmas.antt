-- Matching terms of one table with those of another.
use Rattle.std.proofs.Common.{◌≡◌, ◌∙◌, ◌<◌, ◌≤◌, ◌⊎◌, inl, inr, ℕ, zero, suc, ◌+◌, Bool, true, false, List, [], ◌∷◌, ◌++◌, length, map, get_or, take, Some, sym, ap, refl, subst, arith, append_assoc}
use mathlib.Core.Bool.{beq}
use Rattle.std.specs.Prelude.{not, slice_get, MatchBool}
use Rattle.std.specs.List.{All, AllZip, Contains}
use Rattle.std.proofs.lemmas.List.{append-nil, length-append}
use Rattle.std.proofs.lemmas.Bool.{cases_lt}
use Rattle.std.proofs.lemmas.List.Elements.{AllZip-push, All-contains, Contains-append_left, Contains-get_or, Contains-push_cases, length_all_zip}
use Rattle.std.proofs.lemmas.Option.{slice_get_within, slice_get-get_or, get_or_from_slice_get}
use Rattle.pm_logic.specs.Term.{Term, app, more_terms, as_terms, list_of, tree_at}
use Rattle.pm_logic.specs.Filling.{fill_among, term_for, put}
use Rattle.pm_logic.specs.Problem.{Symbol, Literal as Written, IsTermOver, AreTermsOver}
use Rattle.pm_logic.specs.declared.problem.Literal.{Literal}
use Rattle.pm_logic.proofs.TableLemmas.{list_of-as_terms}
use Rattle.pm_check.specs.declared.images.Match.{Match}
use Rattle.pm_check.specs.Inside.Images.{sent, AreSingle}
use Rattle.pm_check.specs.Inside.Matching.{Give, AreThere, HasImage, Grow, Meets, Clashes, IsBeside, MeetAll, NoneGive, IsTakenApart, Adds, TakesApart, TakesAllApart, MeetLiteral, NoneGiveLiteral}

-- ---- lists

-- what holds of each that is there
pub All-from_contains : {X : Type 0} (P : X → Type 0) (xs : List X) → ((x : X) → Contains xs x → P x) → All P xs
All-from_contains P xs each = λ k d lt. each (get_or xs k d) (Contains-get_or xs k d lt)

pub Contains-stands : {X : Type 0} (xs : List X) (k : ℕ) (x : X) → slice_get xs k ≡ Some x → Contains xs x
Contains-stands xs k x is = (k, slice_get_within xs k x is, get_or_from_slice_get xs k x x is)

pub All-stands : {X : Type 0} (P : X → Type 0) (xs : List X) (k : ℕ) (x : X) → All P xs → slice_get xs k ≡ Some x → P x
All-stands P xs k x all is = All-contains P xs x all (Contains-stands xs k x is)

pub slice_get-append : {X : Type 0} (xs ys : List X) (k : ℕ) (x : X) → slice_get xs k ≡ Some x → slice_get (xs ++ ys) k ≡ Some x
slice_get-append [] ys k x is = cc
slice_get-append (y ∷ xs) ys zero x is = is
slice_get-append (y ∷ xs) ys (suc k) x is = slice_get-append xs ys k x is

slice_get-end : {X : Type 0} (xs : List X) (k : ℕ) (x : X) → k ≡ length xs → slice_get (xs ++ x ∷ []) k ≡ Some x
slice_get-end [] zero x is = refl
slice_get-end [] (suc k) x is = absurd (omega arith)
slice_get-end (y ∷ xs) zero x is = absurd (omega arith)
slice_get-end (y ∷ xs) (suc k) x is = slice_get-end xs k x (omega arith)

slice_get-take : {X : Type 0} (n : ℕ) (xs : List X) (k : ℕ) (x : X) → slice_get (take n xs) k ≡ Some x → slice_get xs k ≡ Some x
slice_get-take zero xs k x is = cc
slice_get-take (suc n) [] k x is = cc
slice_get-take (suc n) (y ∷ xs) zero x is = is
slice_get-take (suc n) (y ∷ xs) (suc k) x is = slice_get-take n xs k x is

-- equal lists of values are equal place by place
pub same_at : {X Y Z : Type 0} (f : X → Z) (g : Y → Z) (xs : List X) (ys : List Y) (k : ℕ) (x : X) (y : Y) → map f xs ≡ map g ys → slice_get xs k ≡ Some x → slice_get ys k ≡ Some y → f x ≡ g y
same_at f g [] ys k x y same is at_y = cc
same_at f g (a ∷ xs) [] k x y same is at_y = cc
same_at f g (a ∷ xs) (b ∷ ys) zero x y same is at_y =
    let first : a ≡ x = cc in
    let second : b ≡ y = cc in
    let heads : f a ≡ g b = cc in
    sym (ap f first) ∙ heads ∙ ap g second
same_at f g (a ∷ xs) (b ∷ ys) (suc k) x y same is at_y =
    let tails : map f xs ≡ map g ys = cc in
    same_at f g xs ys k x y tails is at_y

-- ---- images

pub Grow-refl : (old : List Match) → Grow old old
Grow-refl old = ([], sym (append-nil old))

pub Grow-trans : (a b c : List Match) → Grow a b → Grow b c → Grow a c
Grow-trans a b c first second =
    (first.0 ++ second.0, second.1 ∙ ap (λ ms. ms ++ second.0) first.1 ∙ append_assoc a first.0 second.0)

pub Grow-contains : (old new : List Match) → Grow old new → (m : Match) → Contains old m → Contains new m
Grow-contains old new grow m there = subst (λ ms. Contains ms m) (sym grow.1) (Contains-append_left old grow.0 m there)

image_grows : (target : List Term) (old new : List Match) → Grow old new → (row : ℕ) (tree : Term) → HasImage target old row tree → HasImage target new row tree
image_grows target old new grow row tree has = (has.0, Grow-contains old new grow (sent row has.0) has.1, has.2)

images_grow : (target : List Term) (old new : List Match) → Grow old new → (rows others : List ℕ)
    → AllZip (λ row other. HasImage target old row (tree_at target other)) rows others
    → AllZip (λ row other. HasImage target new row (tree_at target other)) rows others
images_grow target old new grow [] [] has = tt
images_grow target old new grow [] (o ∷ os) has = absurd has
images_grow target old new grow (r ∷ rs) [] has = absurd has
images_grow target old new grow (r ∷ rs) (o ∷ os) has =
    (image_grows target old new grow r (tree_at target o) has.0, images_grow target old new grow rs os has.1)

apart_grows : (source target : List Term) (old new : List Match) → Grow old new → (m : Match) → IsTakenApart source target old m → IsTakenApart source target new m
apart_grows source target old new grow m (inl variable) = inl variable
apart_grows source target old new grow m (inr parts) = inr (record {
  symbol = parts.symbol;
  args = parts.args;
  others = parts.others;
  its_row = parts.its_row;
  its_image = parts.its_image;
  below = parts.below;
  matched = images_grow target old new grow parts.args parts.others parts.matched;
})

-- ---- one row

-- ---- rows and the images at their places

meets_grow : (target : List Term) (old new : List Match) (row image : ℕ) → Meets target old new row image → Grow old new
meets_grow target old new row image meets = by meets.grow
  where
    by : (new ≡ old) ⊎ (new ≡ old ++ sent row image ∷ []) → Grow old new
    by (inl same) = subst (Grow old) (sym same) (Grow-refl old)
    by (inr more) = (sent row image ∷ [], more)

meets_only : (target : List Term) (old new : List Match) (row image : ℕ) → Meets target old new row image → (m : Match) → Contains new m → Contains old m ⊎ (sent row image ≡ m)
meets_only target old new row image meets m there = by meets.grow
  where
    by : (new ≡ old) ⊎ (new ≡ old ++ sent row image ∷ []) → Contains old m ⊎ (sent row image ≡ m)
    by (inl same) = inl (subst (λ ms. Contains ms m) same there)
    by (inr more) = Contains-push_cases old (sent row image) m (subst (λ ms. Contains ms m) more there)

pub meet_more : (target : List Term) (old now new : List Match) (rows others : List ℕ) (row other : ℕ) → MeetAll target old now rows others → Meets target now new row other
    → MeetAll target old new (rows ++ row ∷ []) (others ++ other ∷ [])
meet_more target old now new rows others row other all meets = record {
  grow = Grow-trans old now new all.grow grow;
  only = λ m there. by m (meets_only target now new row other meets m there);
  has = AllZip-push (λ r o. HasImage target new r (tree_at target o)) rows others row other (images_grow target now new grow rows others all.has) meets.has;
}
  where
    grow : Grow now new
    grow = meets_grow target now new row other meets

    count : length rows ≡ length others
    count = length_all_zip _ rows others all.has

    beside : (m : Match) → Contains old m ⊎ IsBeside rows others m → Contains old m ⊎ IsBeside (rows ++ row ∷ []) (others ++ other ∷ []) m
    beside m (inl there) = inl there
    beside m (inr at_place) = inr (
      at_place.0,
      slice_get-append rows (row ∷ []) at_place.0 m.row at_place.1,
      slice_get-append others (other ∷ []) at_place.0 m.image at_place.2,
    )

    by : (m : Match) → Contains now m ⊎ (sent row other ≡ m) → Contains old m ⊎ IsBeside (rows ++ row ∷ []) (others ++ other ∷ []) m
    by m (inl there) = beside m (all.only m there)
    by m (inr is) = inr (
      length rows,
      slice_get-end rows (length rows) row refl ∙ ap (λ (x : Match). Some x.row) is,
      slice_get-end others (length rows) other count ∙ ap (λ (x : Match). Some x.image) is,
    )

-- the images so far, where only those at places of the lists are new
pub give_more : (source target terms : List Term) (old now : List Match) (rows others : List ℕ) → ((m : Match) → Contains now m → Contains old m ⊎ IsBeside rows others m)
    → Give source target terms old → map (λ row. put terms (tree_at source row)) rows ≡ map (tree_at target) others → Give source target terms now
give_more source target terms old now rows others only give same =
    All-from_contains (λ m. put terms (tree_at source m.row) ≡ tree_at target m.image) now (λ m there. by m (only m there))
  where
    by : (m : Match) → Contains old m ⊎ IsBeside rows others m → put terms (tree_at source m.row) ≡ tree_at target m.image
    by m (inl there) = All-contains (λ m. put terms (tree_at source m.row) ≡ tree_at target m.image) old m give there
    by m (inr at_place) = same_at (λ row. put terms (tree_at source row)) (tree_at target) rows others at_place.0 m.row m.image same at_place.1 at_place.2

only_whole : (target : List Term) (old now : List Match) (n : ℕ) (rows others : List ℕ) → MeetAll target old now (take n rows) (take n others)
    → (m : Match) → Contains now m → Contains old m ⊎ IsBeside rows others m
only_whole target old now n rows others all m there = by (all.only m there)
  where
    by : Contains old m ⊎ IsBeside (take n rows) (take n others) m → Contains old m ⊎ IsBeside rows others m
    by (inl before) = inl before
    by (inr at_place) = inr (at_place.0, slice_get-take n rows at_place.0 m.row at_place.1, slice_get-take n others at_place.0 m.image at_place.2)

-- a row that has another image
pub none_give : (target : List Term) (old now : List Match) (n : ℕ) (rows others : List ℕ) (row other : ℕ) → MeetAll target old now (take n rows) (take n others)
    → slice_get rows n ≡ Some row → slice_get others n ≡ Some other → Clashes target now row other → NoneGive target old rows others
none_give target old now n rows others row other all at_row at_other clash source terms give same =
    let now_give : Give source target terms now = give_more source target terms old now rows others (only_whole target old now n rows others all) give same in
    let one : put terms (tree_at source row) ≡ tree_at target clash.0 = All-contains (λ m. put terms (tree_at source m.row) ≡ tree_at target m.image) now (sent row clash.0) now_give clash.1 in
    let two : put terms (tree_at source row) ≡ tree_at target other = same_at (λ r. put terms (tree_at source r)) (tree_at target) rows others n row other same at_row at_other in
    clash.2 (sym one ∙ two)

-- the new images are rows of the target
pub images_there : (target : List Term) (old now : List Match) (n : ℕ) (rows others : List ℕ) → MeetAll target old now (take n rows) (take n others)
    → All (λ m. m.image < length target) old → All (λ other. other < length target) others → All (λ m. m.image < length target) now
images_there target old now n rows others all there within =
    All-from_contains (λ m. m.image < length target) now (λ m h. by m (only_whole target old now n rows others all m h))
  where
    by : (m : Match) → Contains old m ⊎ IsBeside rows others m → m.image < length target
    by m (inl before) = All-contains (λ (x : Match). x.image < length target) old m there before
    by m (inr at_place) = All-stands (λ other. other < length target) others at_place.0 m.image within at_place.2

-- ---- taking a match apart

pub fill-as_terms : (terms source : List Term) (args : List ℕ) → fill_among (term_for terms) (as_terms (map (tree_at source) args)) ≡ as_terms (map (λ row. put terms (tree_at source row)) args)
fill-as_terms terms source [] = refl
fill-as_terms terms source (a ∷ args) = ap (λ ts. more_terms (put terms (tree_at source a)) ts) (fill-as_terms terms source args)

as_terms_same : (ts us : List Term) → as_terms ts ≡ as_terms us → ts ≡ us
as_terms_same ts us same = sym (list_of-as_terms ts) ∙ ap list_of same ∙ list_of-as_terms us

-- what gives an application gives its arguments
args_given : (terms source target : List Term) (symbol other : ℕ) (args others : List ℕ)
    → put terms (app symbol (as_terms (map (tree_at source) args))) ≡ app other (as_terms (map (tree_at target) others))
    → (symbol ≡ other) × (map (λ row. put terms (tree_at source row)) args ≡ map (tree_at target) others)
args_given terms source target symbol other args others same =
    let symbols : symbol ≡ other = cc in
    let inside : fill_among (term_for terms) (as_terms (map (tree_at source) args)) ≡ as_terms (map (tree_at target) others) = cc in
    (symbols, as_terms_same _ _ (sym (fill-as_terms terms source args) ∙ inside))

given_at : (source target terms : List Term) (old : List Match) (m : Match) → Give source target terms old → Contains old m → put terms (tree_at source m.row) ≡ tree_at target m.image
given_at source target terms old m give there = All-contains (λ m. put terms (tree_at source m.row) ≡ tree_at target m.image) old m give there

pub adds_trans : (source target : List Term) (a b c : List Match) → Adds source target a b → Adds source target b c → Adds source target a c
adds_trans source target a b c first second = record {
  grow = Grow-trans a b c first.grow second.grow;
  there = second.there;
  over = λ symbols vars over. second.over symbols vars (first.over symbols vars over);
}

pub none_args : (source target : List Term) (old : List Match) (m : Match) (symbol other : ℕ) (args others : List ℕ) → Contains old m
    → tree_at source m.row ≡ app symbol (as_terms (map (tree_at source) args)) → tree_at target m.image ≡ app other (as_terms (map (tree_at target) others))
    → NoneGive target old args others → (terms : List Term) → ¬ Give source target terms old
none_args source target old m symbol other args others there is image none terms give =
    none source terms give (args_given terms source target symbol other args others (sym (ap (put terms) is) ∙ given_at source target terms old m give there ∙ image)).1

-- the arguments of a term over variables are over them
args_over : (symbols : List Symbol) (vars : ℕ) (source : List Term) (args : List ℕ) (k arg : ℕ) → AreTermsOver symbols vars (as_terms (map (tree_at source) args)) → slice_get args k ≡ Some arg
    → IsTermOver symbols vars (tree_at source arg)
args_over symbols vars source [] k arg over is = cc
args_over symbols vars source (a ∷ args) zero arg over is = let same : a ≡ arg = cc in subst (λ r. IsTermOver symbols vars (tree_at source r)) same over.0
args_over symbols vars source (a ∷ args) (suc k) arg over is = args_over symbols vars source args k arg over.1 is

pub apart_application : (source target : List Term) (old new : List Match) (m : Match) (symbol other : ℕ) (args others : List ℕ) → Contains old m → AreThere (length source) (length target) old
    → tree_at source m.row ≡ app symbol (as_terms (map (tree_at source) args)) → tree_at target m.image ≡ app other (as_terms (map (tree_at target) others))
    → All (λ arg. arg < m.row) args → All (λ arg. arg < m.image) others → symbol ≡ other → MeetAll target old new args others → TakesApart source target old new m
apart_application source target old new m symbol other args others there within is image below below_image same meet = record {
  adds = record {
    grow = meet.grow;
    there = All-from_contains (λ x. (x.row < length source) × (x.image < length target)) new (λ x h. rows x (meet.only x h));
    over = λ symbols vars over. All-from_contains (λ x. IsTermOver symbols vars (tree_at source x.row)) new (λ x h. over_at symbols vars over x (meet.only x h));
  };
  apart = inr (record {
    symbol = symbol;
    args = args;
    others = others;
    its_row = is;
    its_image = image ∙ ap (λ f. app f (as_terms (map (tree_at target) others))) (sym same);
    below = below;
    matched = meet.has;
  });
  gives = λ terms give. give_more source target terms old new args others meet.only give
      (args_given terms source target symbol other args others (sym (ap (put terms) is) ∙ given_at source target terms old m give there ∙ image)).1;
}
  where
    its_rows : (m.row < length source) × (m.image < length target)
    its_rows = All-contains (λ x. (x.row < length source) × (x.image < length target)) old m within there

    rows : (x : Match) → Contains old x ⊎ IsBeside args others x → (x.row < length source) × (x.image < length target)
    rows x (inl before) = All-contains (λ x. (x.row < length source) × (x.image < length target)) old x within before
    rows x (inr at_place) =
        let left : x.row < m.row = All-stands (λ arg. arg < m.row) args at_place.0 x.row below at_place.1 in
        let right : x.image < m.image = All-stands (λ arg. arg < m.image) others at_place.0 x.image below_image at_place.2 in
        (omega (arith, its_rows.0), omega (arith, its_rows.1))

    over_at : (symbols : List Symbol) (vars : ℕ) → All (λ (x : Match). IsTermOver symbols vars (tree_at source x.row)) old → (x : Match) → Contains old x ⊎ IsBeside args others x
        → IsTermOver symbols vars (tree_at source x.row)
    over_at symbols vars over x (inl before) = All-contains (λ (x : Match). IsTermOver symbols vars (tree_at source x.row)) old x over before
    over_at symbols vars over x (inr at_place) =
        let whole : IsTermOver symbols vars (tree_at source m.row) = All-contains (λ (x : Match). IsTermOver symbols vars (tree_at source x.row)) old m over there in
        let term : IsTermOver symbols vars (app symbol (as_terms (map (tree_at source) args))) = subst (IsTermOver symbols vars) is whole in
        args_over symbols vars source args at_place.0 x.row term.1 at_place.1

-- ---- taking all matches apart

-- so many of the matches were taken apart
pub record TakesUpTo (source target : List Term) (old now : List Match) (next : ℕ) : Type 0 where
  pub adds : Adds source target old now
  pub within : next ≤ length now
  pub apart : (k : ℕ) (m : Match) → k < next → slice_get now k ≡ Some m → IsTakenApart source target now m
  pub gives : (terms : List Term) → Give source target terms old → Give source target terms now

pub takes_more : (source target : List Term) (old now new : List Match) (next : ℕ) (m : Match) → TakesUpTo source target old now next → slice_get now next ≡ Some m
    → TakesApart source target now new m → TakesUpTo source target old new (next + 1)
takes_more source target old now new next m takes is one = record {
  adds = adds_trans source target old now new takes.adds one.adds;
  within = omega (arith, slice_get_within now next m is, ap length one.adds.grow.1, length-append now one.adds.grow.0);
  apart = λ k x lt at_place. at_each k x (still k x at_place) (omega arith);
  gives = λ terms give. one.gives terms (takes.gives terms give);
}
  where
    still : (k : ℕ) (x : Match) → slice_get new k ≡ Some x → k ≤ next → slice_get now k ≡ Some x
    still k x at_place le =
        let within : k < length now = omega (arith, slice_get_within now next m is) in
        let stands : slice_get now k ≡ Some (get_or now k x) = slice_get-get_or now k x within in
        let later : slice_get new k ≡ Some (get_or now k x) = ap (λ ms. slice_get ms k) one.adds.grow.1 ∙ slice_get-append now one.adds.grow.0 k (get_or now k x) stands in
        stands ∙ sym later ∙ at_place

    cases : (k : ℕ) (x : Match) → (k < next) ⊎ (next ≤ k) → slice_get now k ≡ Some x → k ≤ next → IsTakenApart source target new x
    cases k x (inl lt) at_place le = apart_grows source target now new one.adds.grow x (takes.apart k x lt at_place)
    cases k x (inr ge) at_place le =
        let same : k ≡ next = omega arith in
        let equal : Some m ≡ Some x = sym is ∙ ap (slice_get now) (sym same) ∙ at_place in
        let found : m ≡ x = cc in
        subst (IsTakenApart source target new) found one.apart

    at_each : (k : ℕ) (x : Match) → (k ≤ next → slice_get now k ≡ Some x) → k ≤ next → IsTakenApart source target new x
    at_each k x stands le = cases k x (cases_lt k next) (stands le) le

pub takes_all : (source target : List Term) (old now : List Match) (next : ℕ) → length now ≤ next → AreSingle now → TakesUpTo source target old now next → TakesAllApart source target old now
takes_all source target old now next all single takes = record {
  adds = takes.adds;
  apart = λ k d lt. takes.apart k (get_or now k d) (omega arith) (slice_get-get_or now k d lt);
  single = single;
  gives = takes.gives;
}

pub none_up_to : (source target : List Term) (old now : List Match) (next : ℕ) → TakesUpTo source target old now next → ((terms : List Term) → ¬ Give source target terms now) → (terms : List Term) → ¬ Give source target terms old
none_up_to source target old now next takes none terms give = none terms (takes.gives terms give)

-- ---- literals

pub map-map : {A B C : Type 0} (f : B → C) (g : A → B) (xs : List A) → map f (map g xs) ≡ map (λ x. f (g x)) xs
map-map f g [] = refl
map-map f g (x ∷ xs) = ap (λ ys. f (g x) ∷ ys) (map-map f g xs)

-- the test of signs
pub same_sign : (a b : Bool) → not (beq a b) ≡ false → a ≡ b
same_sign true true h = refl
same_sign true false h = cc
same_sign false true h = cc
same_sign false false h = refl

pub literal_met : (target : List Term) (old new : List Match) (literal other : Literal) (rows others : List ℕ) (answer : Bool) → rows ≡ literal.args.items → others ≡ other.args.items
    → literal.positive ≡ other.positive → literal.predicate ≡ other.predicate
    → MatchBool answer (MeetAll target old new rows others) (NoneGive target old rows others)
    → MatchBool answer (MeetLiteral target old new literal other) (NoneGiveLiteral target old literal other)
literal_met target old new literal other rows others true is_rows is_others sign predicate meet = record {
  sign = sign;
  predicate = predicate;
  args = subst (λ rs. MeetAll target old new rs other.args.items) is_rows (subst (λ os. MeetAll target old new rows os) is_others meet);
}
literal_met target old new literal other rows others false is_rows is_others sign predicate none = λ source terms give same.
    none source terms give
    (ap (map (λ row. put terms (tree_at source row))) is_rows
    ∙ sym (map-map (put terms) (tree_at source) literal.args.items)
    ∙ ap (λ (l : Written). l.args) same
    ∙ sym (ap (map (tree_at target)) is_others))

-- the answer to a match of applications of one symbol
pub application_met : (source target : List Term) (old new : List Match) (m : Match) (symbol other : ℕ) (args others : List ℕ) (answer : Bool) → Contains old m → AreThere (length source) (length target) old
    → (tree_at source m.row ≡ app symbol (as_terms (map (tree_at source) args))) × All (λ arg. arg < m.row) args
    → (tree_at target m.image ≡ app other (as_terms (map (tree_at target) others))) × All (λ arg. arg < m.image) others
    → symbol ≡ other → MatchBool answer (MeetAll target old new args others) (NoneGive target old args others)
    → MatchBool answer (TakesApart source target old new m) ((terms : List Term) → ¬ Give source target terms old)
application_met source target old new m symbol other args others true there within row image same meet =
    apart_application source target old new m symbol other args others there within row.0 image.0 row.1 image.1 same meet
application_met source target old new m symbol other args others false there within row image same none =
    none_args source target old m symbol other args others there row.0 image.0 none
