-- What numbers tell of literals.
use Rattle.std.proofs.Common.{◌≡◌, ◌≢◌, ℕ, zero, suc, ◌+◌, ◌-◌, ◌<◌, inl, inr, Bool, true, false, ◌==◌, List, [], ◌∷◌, ◌++◌, length, map, Option, Some, slice_get, get_or, take, drop, refl, sym, ◌∙◌, ap, ap₂, subst, arith}
use Rattle.std.specs.Prelude.{All, Contains, cond, is_some, option_map, slice_index_or}
use Rattle.std.specs.List.{AllZip, position, position_from}
use Rattle.std.proofs.lemmas.Bool.{cases_lt, eqb-true, false≢true}
use Rattle.std.proofs.lemmas.List.{length-map}
use Rattle.std.proofs.lemmas.Option.{slice_get-map, slice_get-get_or}
use Rattle.std.proofs.lemmas.Iterator.Adapters.{position_from-zero}
use Rattle.std.proofs.lemmas.List.Elements.{All-head, All-tail}
use Rattle.pm_logic.specs.Term.{Term, var, app}
use Rattle.pm_logic.specs.Problem.{Literal}
use Rattle.pm_logic.specs.Filling.{fill}
use Rattle.pm_store.specs.Equations.{Equations}
use Rattle.pm_store.specs.Solutions.{Solves}
use Rattle.pm_store.specs.Marks.{IsLater}
use Rattle.pm_store.specs.Sound.{IsSound}
use Rattle.pm_store.specs.Trees.{tree}
use Rattle.pm_store.proofs.TreeLemmas.{trees_solve}
use Rattle.pm_store.proofs.ListLemmas.{All-right}
use Rattle.pm_compile.specs.Scheme.{is_ground}
use Rattle.pm_run.specs.State.{CellLiteral, literal_under}
use Rattle.pm_run.specs.Wants.{filled_literal}
use Rattle.pm_run.proofs.PartLemmas.{filled_ground}
use Rattle.pm_machine.specs.State.{CellNode}
use Rattle.pm_tab.specs.Repeats.{AreApart, no_literal, literal_at, pairs_with}
use Rattle.pm_tab.specs.Inside.Adding.{HasIdentical}
use Rattle.pm_tab.specs.Inside.Numbering.{IsGround, IsFirstAt, AreNumbersOf, StandsFor, IsNumberedBy, AreNumberedBy, AreNumbered}
use Rattle.pm_tab.proofs.Watching.{eqb_same, new_below}

-- lists that go together place by place
module _ {A B : Type 0} (R : A → B → Type 0) where
  pub zip_take : (n : ℕ) (xs : List A) (ys : List B) → AllZip R xs ys → AllZip R (take n xs) (take n ys)
  zip_take zero xs ys h = tt
  zip_take (suc n) [] [] h = tt
  zip_take (suc n) [] (y ∷ ys) h = absurd h
  zip_take (suc n) (x ∷ xs) [] h = absurd h
  zip_take (suc n) (x ∷ xs) (y ∷ ys) h = (h.0, zip_take n xs ys h.1)

  pub zip_drop : (n : ℕ) (xs : List A) (ys : List B) → AllZip R xs ys → AllZip R (drop n xs) (drop n ys)
  zip_drop zero xs ys h = h
  zip_drop (suc n) [] [] h = tt
  zip_drop (suc n) [] (y ∷ ys) h = absurd h
  zip_drop (suc n) (x ∷ xs) [] h = absurd h
  zip_drop (suc n) (x ∷ xs) (y ∷ ys) h = zip_drop n xs ys h.1

  pub zip_long : (xs : List A) (ys : List B) → AllZip R xs ys → length xs ≡ length ys
  zip_long [] [] h = refl
  zip_long [] (y ∷ ys) h = absurd h
  zip_long (x ∷ xs) [] h = absurd h
  zip_long (x ∷ xs) (y ∷ ys) h = ap suc (zip_long xs ys h.1)

  pub zip_at : (xs : List A) (ys : List B) (i : ℕ) (x : A) (y : B) → AllZip R xs ys → slice_get xs i ≡ Some x → slice_get ys i ≡ Some y → R x y
  zip_at [] ys i x y h left right = absurd cc
  zip_at (u ∷ xs) [] i x y h left right = absurd h
  zip_at (u ∷ xs) (v ∷ ys) zero x y h left right =
      let first : u ≡ x = cc in
      let second : v ≡ y = cc in
      subst (λ a. R a y) first (subst (λ b. R u b) second h.0)
  zip_at (u ∷ xs) (v ∷ ys) (suc i) x y h left right = zip_at xs ys i x y h.1 left right

  -- items of places
  pub zip_among : (f : ℕ → A) (g : ℕ → B) (places : List ℕ) → All (λ p. R (f p) (g p)) places → AllZip R (map f places) (map g places)
  zip_among f g [] all = tt
  zip_among f g (p ∷ places) all =
      (All-head (λ q. R (f q) (g q)) p places all, zip_among f g places (All-tail (λ q. R (f q) (g q)) p places all))

-- the solutions of a store are some of those of the store that it grew from
get_still : {A : Type 0} (xs ys : List A) (i : ℕ) (x : A) → slice_get xs i ≡ Some x → slice_get (xs ++ ys) i ≡ Some x
get_still [] ys i x is = absurd cc
get_still (y ∷ xs) ys zero x is = is
get_still (y ∷ xs) ys (suc i) x is = get_still xs ys i x is

pub solved_before : (s t : Equations) → IsLater s t → (trees : ℕ → Term) → Solves t trees → Solves s trees
solved_before s t later trees solves = record {
  applications = λ cell symbol args is.
      solves.applications cell symbol args (ap (λ cells. slice_get cells cell) later.cells.1 ∙ get_still s.cells later.cells.0 cell _ is);
  bindings = All-right (λ b. trees b.variable ≡ trees b.target) later.bindings.0 s.bindings
      (subst (All (λ b. trees b.variable ≡ trees b.target)) later.bindings.1 solves.bindings);
}

pub told_later : (all : List Literal) (s t : Equations) → IsLater s t → (ls : List CellLiteral) (ns : List ℕ) → AreNumberedBy all s ls ns → AreNumberedBy all t ls ns
told_later all s t later [] [] h = tt
told_later all s t later [] (n ∷ ns) h = absurd h
told_later all s t later (l ∷ ls) [] h = absurd h
told_later all s t later (l ∷ ls) (n ∷ ns) h = (
  λ some. let own = h.0 some in record {
    literal = own.literal;
    first = own.first;
    always = λ trees solves. own.always trees (solved_before s t later trees solves);
  },
  told_later all s t later ls ns h.1,
)

-- a literal without variables is filled with itself
ground_term : (variables : ℕ → Term) (t : Term) → is_ground t ≡ true → fill variables t ≡ t
ground_term variables (var n) ground = absurd cc
ground_term variables (app f ts) ground = filled_ground variables f ts ground

ground_terms : (variables : ℕ → Term) (ts : List Term) → All (λ t. is_ground t ≡ true) ts → map (fill variables) ts ≡ ts
ground_terms variables [] ground = refl
ground_terms variables (t ∷ ts) ground =
    ap₂ (λ u us. u ∷ us) (ground_term variables t (All-head (λ u. is_ground u ≡ true) t ts ground))
    (ground_terms variables ts (All-tail (λ u. is_ground u ≡ true) t ts ground))

ground_kept : (variables : ℕ → Term) (l : Literal) → IsGround l → filled_literal variables l ≡ l
ground_kept variables l ground = ap (λ args. record l { args = args }) (ground_terms variables l.args ground)

-- literals that are filled in each solution, with whatever trees, have the numbers of those that are filled
abbrev pub AreFilled : Equations → List CellLiteral → List Literal → Type 0
AreFilled s children ls =
    (trees : ℕ → Term) → Solves s trees → (variables : ℕ → Term) × (map (literal_under trees) children ≡ map (filled_literal variables) ls)

pub family_told : (all : List Literal) (s : Equations) (children : List CellLiteral) (ls : List Literal) (ns : List ℕ) → length children ≡ length ls
    → AreFilled s children ls → AreNumbersOf all ls ns → AreNumberedBy all s children ns
family_told all s [] [] [] long filled h = tt
family_told all s [] [] (n ∷ ns) long filled h = absurd h
family_told all s [] (l ∷ ls) ns long filled h = absurd (omega (arith, long))
family_told all s (c ∷ cs) [] ns long filled h = absurd (omega (arith, long))
family_told all s (c ∷ cs) (l ∷ ls) [] long filled h = absurd h
family_told all s (c ∷ cs) (l ∷ ls) (n ∷ ns) long filled h = (
  λ some. let own = h.0.ground some in record {
    literal = l;
    first = own.1;
    always = λ trees solves.
        let here = filled trees solves in
        let same : literal_under trees c ≡ filled_literal here.0 l = first_same (here.1) in
        same ∙ ground_kept here.0 l own.0;
  },
  family_told all s cs ls ns (omega (arith, long)) (λ trees solves. let here = filled trees solves in (here.0, rest_same here.1)) h.1,
)
  where
    first_same : {A : Type 0} {x y : A} {xs ys : List A} → x ∷ xs ≡ y ∷ ys → x ≡ y
    first_same same = cc

    rest_same : {A : Type 0} {x y : A} {xs ys : List A} → x ∷ xs ≡ y ∷ ys → xs ≡ ys
    rest_same same = cc

-- one number tells one literal, and a literal stands first in one place
pub one_literal : (all : List Literal) (l k : Literal) (n : ℕ) → IsFirstAt all l n → IsFirstAt all k n → l ≡ k
one_literal all l k n first second = let same : Some l ≡ Some k = sym first.stands ∙ second.stands in cc

not_before : (all : List Literal) (l : Literal) (m n : ℕ) → 0 < m → IsFirstAt all l m → IsFirstAt all l n → m < n → ⊥
not_before all l m n some first second less = second.first (m - 1) (omega (arith, some, less)) first.stands

pub one_place : (all : List Literal) (l : Literal) (m n : ℕ) → 0 < m → 0 < n → IsFirstAt all l m → IsFirstAt all l n → m ≡ n
one_place all l m n some more first second =
    elim (cases_lt m n) [
      | inl less ↦ absurd (not_before all l m n some first second less)
      | inr at ↦ elim (cases_lt n m) [
        | inl less ↦ absurd (not_before all l n m more second first less)
        | inr from ↦ omega (arith, at, from)
      ]
    ]

-- the numbers of nodes' literals, in their places
pub told_at : (all : List Literal) (s : Equations) (nodes : List CellNode) (ns : List ℕ) (p : ℕ) → p < length nodes
    → AreNumberedBy all s (map (λ (node : CellNode). node.literal) nodes) ns → IsNumberedBy all s (literal_at nodes p) (get_or ns p 0)
told_at all s [] ns p less h = absurd (omega (arith, less))
told_at all s (node ∷ nodes) [] p less h = absurd h
told_at all s (node ∷ nodes) (n ∷ ns) zero less h = h.0
told_at all s (node ∷ nodes) (n ∷ ns) (suc p) less h = told_at all s nodes ns p (omega (arith, less)) h.1

-- one child among others that are numbered
pub told_one : {A : Type 0} (s : Equations) (above : List CellLiteral) (ids : List ℕ) (f : A → CellLiteral) (children : List A) (numbers : List ℕ)
    → AreNumbered s above ids (map f children) numbers → (i : ℕ) (child : A) (number : ℕ) → i < length children → child ≡ get_or children i child
    → number ≡ get_or numbers i 0 → AreNumbered s above ids (f child ∷ []) (number ∷ [])
told_one s above ids f children numbers numbered i child number less here own = record {
  all = numbered.all;
  branch = numbered.branch;
  family = (
    zip_at (IsNumberedBy numbered.all s) (map f children) numbers i (f child) number numbered.family
        (slice_get-map f children i ∙ ap (option_map f) (slice_get-get_or children i child less ∙ ap Some (sym here)))
        (slice_get-get_or numbers i 0 (omega (arith, less, length-map children f, zip_long (IsNumberedBy numbered.all s) (map f children) numbers numbered.family)) ∙ ap Some (sym own)),
    tt,
  );
}

-- where a number stands among others, and where it doesn't
abbrev IsIt : ℕ → ℕ → Bool
IsIt number n = n == number

abbrev IsFoundIn : List ℕ → ℕ → Type 0
IsFoundIn ids number = (i : ℕ) × (i < length ids) × (get_or ids i 0 ≡ number)

abbrev IsMissingIn : List ℕ → ℕ → Type 0
IsMissingIn ids number = (i : ℕ) → i < length ids → get_or ids i 0 ≢ number

found_from : (number : ℕ) (ids : List ℕ) (start : ℕ) → is_some (position_from (IsIt number) start ids) ≡ true → IsFoundIn ids number
found_from number [] start some = absurd (false≢true some)
found_from number (n ∷ ids) start some = by (n == number) refl some (found_from number ids (start + 1))
  where
    by : (b : Bool) → (n == number) ≡ b → is_some (cond b (Some start) (position_from (IsIt number) (start + 1) ids)) ≡ true
        → (is_some (position_from (IsIt number) (start + 1) ids) ≡ true → IsFoundIn ids number) → IsFoundIn (n ∷ ids) number
    by true same here rest = (0, omega arith, eqb-true n number same)
    by false other later rest = let at = rest later in (suc at.0, omega (arith, at.1), at.2)

missing_from : (number : ℕ) (ids : List ℕ) (start : ℕ) → is_some (position_from (IsIt number) start ids) ≡ false → IsMissingIn ids number
missing_from number [] start none = λ i less. absurd (omega (arith, less))
missing_from number (n ∷ ids) start none = by (n == number) refl none (missing_from number ids (start + 1))
  where
    by : (b : Bool) → (n == number) ≡ b → is_some (cond b (Some start) (position_from (IsIt number) (start + 1) ids)) ≡ false
        → (is_some (position_from (IsIt number) (start + 1) ids) ≡ false → IsMissingIn ids number) → IsMissingIn (n ∷ ids) number
    by true same none rest i less = absurd (false≢true (sym none))
    by false other none rest zero less = λ is. false≢true (sym other ∙ ap (λ m. m == number) is ∙ eqb_same number)
    by false other none rest (suc i) less = rest none i (omega (arith, less))

same_position : (number : ℕ) (ids : List ℕ) (r : Option ℕ) → r ≡ position (IsIt number) ids → (b : Bool) → b ≡ is_some r
    → is_some (position_from (IsIt number) 0 ids) ≡ b
same_position number ids r is b some = ap is_some (sym (position_from-zero (IsIt number) ids) ∙ sym is) ∙ sym some

-- what the numbers of a branch and of a child below it tell
module _ (s : Equations) (branch : List CellLiteral) (ids : List ℕ) (child : CellLiteral) (number : ℕ)
    (numbered : AreNumbered s branch ids (child ∷ []) (number ∷ [])) (some : 0 < number) where
  told_child : StandsFor numbered.all s child number
  told_child = numbered.family.0 some

  told_above : (ls : List CellLiteral) (ns : List ℕ) (i : ℕ) → AreNumberedBy numbered.all s ls ns → i < length ns
      → IsNumberedBy numbered.all s (get_or ls i no_literal) (get_or ns i 0)
  told_above [] [] i h less = absurd (omega (arith, less))
  told_above [] (n ∷ ns) i h less = absurd h
  told_above (l ∷ ls) [] i h less = absurd h
  told_above (l ∷ ls) (n ∷ ns) zero h less = h.0
  told_above (l ∷ ls) (n ∷ ns) (suc i) h less = told_above ls ns i h.1 (omega (arith, less))

  same_under : (l : CellLiteral) → StandsFor numbered.all s l number → (trees : ℕ → Term) → Solves s trees → literal_under trees l ≡ literal_under trees child
  same_under l told trees solves =
      told.always trees solves ∙ one_literal numbered.all told.literal told_child.literal number told.first told_child.first ∙ sym (told_child.always trees solves)

  is_among : (trees : ℕ → Term) → Solves s trees → (ls : List CellLiteral) (ns : List ℕ) (i : ℕ) → AreNumberedBy numbered.all s ls ns → i < length ns
      → get_or ns i 0 ≡ number → Contains (map (literal_under trees) ls) (literal_under trees child)
  is_among trees solves [] [] i h less is = absurd (omega (arith, less))
  is_among trees solves [] (n ∷ ns) i h less is = absurd h
  is_among trees solves (l ∷ ls) [] i h less is = absurd h
  is_among trees solves (l ∷ ls) (n ∷ ns) zero h less is =
      (0, omega arith, same_under l (subst (StandsFor numbered.all s l) is (h.0 (omega (arith, is, some)))) trees solves)
  is_among trees solves (l ∷ ls) (n ∷ ns) (suc i) h less is =
      let rest = is_among trees solves ls ns i h.1 (omega (arith, less)) is in (suc rest.0, omega (arith, rest.1), rest.2)

  -- a child whose number stands on the branch repeats a literal
  pub found_repeats : IsSound s → (r : Option ℕ) → r ≡ position (IsIt number) ids → (b : Bool) → b ≡ is_some r → b ≡ true → HasIdentical s (pairs_with branch child)
  found_repeats sound r is b tells found =
      let at = found_from number ids 0 (same_position number ids r is b tells ∙ found) in
      λ apart. (new_below (tree s) branch child).1 apart (is_among (tree s) (trees_solve s sound) branch ids at.0 numbered.branch at.1 at.2)

  -- a literal with another number is another, in each solution
  pub other_number : (r : Option ℕ) → r ≡ position (IsIt number) ids → (b : Bool) → b ≡ is_some r → b ≡ false → (i : ℕ) → i < length ids → 0 < get_or ids i 0
      → (trees : ℕ → Term) → Solves s trees → AreApart trees (pairs_with (get_or branch i no_literal ∷ []) child)
  other_number r is b tells missing i less own trees solves =
      let other = missing_from number ids 0 (same_position number ids r is b tells ∙ missing) i less in
      let told = told_above branch ids i numbered.branch less own in
      (new_below trees (get_or branch i no_literal ∷ []) child).0
      (λ (k, lt, here).
      let same : literal_under trees (get_or branch i no_literal) ≡ literal_under trees child = only k lt here in
      let literals : told.literal ≡ told_child.literal = sym (told.always trees solves) ∙ same ∙ told_child.always trees solves in
      other (one_place numbered.all told_child.literal (get_or ids i 0) number own some
      (subst (λ l. IsFirstAt numbered.all l (get_or ids i 0)) literals told.first) told_child.first))
    where
      only : {x y : Literal} (k : ℕ) → k < 1 → slice_index_or (x ∷ []) k y ≡ y → x ≡ y
      only zero lt here = here
      only (suc k) lt here = absurd (omega (arith, lt))
