-- Parts of lists, and ground terms.
use Rattle.std.proofs.Common.{◌≡◌, ℕ, zero, suc, ◌+◌, ◌<◌, ◌⊎◌, inl, inr, add-zero, Option, Some, None, option_map, true, List, [], ◌∷◌, ◌++◌, length, map, reverse, set, slice_get, refl, sym, ◌∙◌, ap, ap₂, arith}
use Rattle.std.proofs.lemmas.Bool.{eqb-true}
use Rattle.std.proofs.lemmas.List.{nil_from_length, map-append, reverse-append}
use Rattle.std.proofs.lemmas.Option.{slice_get-map}
use Rattle.pm_logic.specs.Term.{Term, var, app, Terms, no_terms, more_terms, as_terms, list_of}
use Rattle.pm_logic.specs.Variables.{variables, variables_among}
use Rattle.pm_logic.specs.Filling.{fill, fill_among}
use Rattle.pm_compile.specs.Scheme.{are_ground}
use Rattle.pm_run.specs.State.{with_changed, IsAncestor}
use Rattle.pm_run.specs.Meaning.{all_set, unset_count}

pub cons_parts : {A : Type 0} (x y : A) (xs ys : List A) → x ∷ xs ≡ y ∷ ys → (x ≡ y) × (xs ≡ ys)
cons_parts x y xs ys same = (cc, cc)

-- lists that are equal have equal parts of the same length
pub append_parts : {A : Type 0} (xs ys zs ws : List A) → length xs ≡ length ys → xs ++ zs ≡ ys ++ ws → (xs ≡ ys) × (zs ≡ ws)
append_parts [] [] zs ws counted same = (refl, same)
append_parts [] (y ∷ ys) zs ws counted same = absurd (omega (arith, counted))
append_parts (x ∷ xs) [] zs ws counted same = absurd (omega (arith, counted))
append_parts (x ∷ xs) (y ∷ ys) zs ws counted same =
    let parts = cons_parts x y (xs ++ zs) (ys ++ ws) same in
    let rest = append_parts xs ys zs ws (omega (arith, counted)) parts.1 in
    (ap₂ (λ z zs'. z ∷ zs') parts.0 rest.0, rest.1)

pub as_terms-list_of : (ts : Terms) → as_terms (list_of ts) ≡ ts
as_terms-list_of no_terms = refl
as_terms-list_of (more_terms t ts) = ap (more_terms t) (as_terms-list_of ts)

pub list_of-fill : (trees : ℕ → Term) (ts : List Term) → list_of (fill_among trees (as_terms ts)) ≡ map (fill trees) ts
list_of-fill trees [] = refl
list_of-fill trees (t ∷ ts) = ap (λ us. fill trees t ∷ us) (list_of-fill trees ts)

pub length-fill : (trees : ℕ → Term) (ts : Terms) → length (list_of (fill_among trees ts)) ≡ length (list_of ts)
length-fill trees no_terms = refl
length-fill trees (more_terms t ts) = ap suc (length-fill trees ts)

none_left : (xs ys : List ℕ) → xs ++ ys ≡ [] → xs ≡ []
none_left [] ys none = refl
none_left (x ∷ xs) ys none = cc

none_right : (xs ys : List ℕ) → xs ++ ys ≡ [] → ys ≡ []
none_right [] ys none = none
none_right (x ∷ xs) ys none = cc

-- a term without variables is filled with itself
mutual
  ground_filled : (trees : ℕ → Term) (t : Term) → variables t ≡ [] → fill trees t ≡ t
  ground_filled trees (var n) none = cc
  ground_filled trees (app f ts) none = ap (app f) (ground_filled_among trees ts none)

  ground_filled_among : (trees : ℕ → Term) (ts : Terms) → variables_among ts ≡ [] → fill_among trees ts ≡ ts
  ground_filled_among trees no_terms none = refl
  ground_filled_among trees (more_terms t ts) none =
      ap₂ more_terms (ground_filled trees t (none_left (variables t) (variables_among ts) none))
      (ground_filled_among trees ts (none_right (variables t) (variables_among ts) none))

pub filled_ground : (trees : ℕ → Term) (f : ℕ) (ts : Terms) → are_ground ts ≡ true → fill trees (app f ts) ≡ app f ts
filled_ground trees f ts ground =
    ap (app f) (ground_filled_among trees ts (nil_from_length (variables_among ts) (eqb-true (length (variables_among ts)) 0 ground)))

pub map_reversed : {A B : Type 0} (f : A → B) (xs : List A) → map f (reverse xs) ≡ reverse (map f xs)
map_reversed f [] = refl
map_reversed f (x ∷ xs) =
    ap (map f) (reverse-append (x ∷ []) xs) ∙ map-append f (reverse xs) (x ∷ []) ∙ ap (λ ys. ys ++ f x ∷ []) (map_reversed f xs)
    ∙ sym (reverse-append (f x ∷ []) (map f xs))

-- the stack under some cells
pub map_under : {A B : Type 0} (f : A → B) (stack args rest : List A) → stack ≡ reverse args ++ rest → map f stack ≡ reverse (map f args) ++ map f rest
map_under f stack args rest top =
    ap (map f) top ∙ map-append f (reverse args) rest ∙ ap (λ ys. ys ++ map f rest) (map_reversed f args)

pub map_changed : {A B : Type 0} (f : A → B) (g : A → A) (h : B → B) → ((x : A) → f (g x) ≡ h (f x)) → (n : ℕ) (xs : List A)
    → map f (with_changed n g xs) ≡ with_changed n h (map f xs)
map_changed f g h same n [] = refl
map_changed f g h same zero (x ∷ xs) = ap (λ y. y ∷ map f xs) (same x)
map_changed f g h same (suc n) (x ∷ xs) = ap (λ ys. f x ∷ ys) (map_changed f g h same n xs)

pub slice_get-set_same : {A : Type 0} (xs : List A) (i : ℕ) (x y : A) → slice_get xs i ≡ Some x → slice_get (set xs i y) i ≡ Some y
slice_get-set_same [] i x y is = absurd cc
slice_get-set_same (z ∷ xs) zero x y is = refl
slice_get-set_same (z ∷ xs) (suc i) x y is = slice_get-set_same xs i x y is

pub slice_get-set_other : {A : Type 0} (xs : List A) (i j : ℕ) (y : A) → (i ≡ j → ⊥) → slice_get (set xs i y) j ≡ slice_get xs j
slice_get-set_other [] i j y other = refl
slice_get-set_other (z ∷ xs) zero zero y other = absurd (other refl)
slice_get-set_other (z ∷ xs) zero (suc j) y other = refl
slice_get-set_other (z ∷ xs) (suc i) zero y other = refl
slice_get-set_other (z ∷ xs) (suc i) (suc j) y other = slice_get-set_other xs i j y (λ same. other (ap suc same))

unset_apart : (d : ℕ) (o : Option (Option ℕ)) → o ≡ Some None → o ≡ Some (Some d) → ⊥
unset_apart d o unset is_set = cc

-- a local that is set stays so when another is
pub kept_set : (locals : List (Option ℕ)) (x y c d : ℕ) → slice_get locals x ≡ Some None → slice_get locals y ≡ Some (Some d)
    → slice_get (set locals x (Some c)) y ≡ Some (Some d)
kept_set locals x y c d unset is_set =
    slice_get-set_other locals x y (Some c) (λ same. unset_apart d (slice_get locals y) (ap (slice_get locals) (sym same) ∙ unset) is_set) ∙ is_set

pub kept_all_set : (next : ℕ) (locals : List (Option ℕ)) (y d : ℕ) → slice_get locals y ≡ Some (Some d) → slice_get (all_set next locals) y ≡ Some (Some d)
kept_all_set next [] y d is = absurd cc
kept_all_set next (Some c ∷ locals) zero d is = is
kept_all_set next (Some c ∷ locals) (suc y) d is = kept_all_set next locals y d is
kept_all_set next (None ∷ locals) zero d is = absurd (unset_apart d (Some None) refl is)
kept_all_set next (None ∷ locals) (suc y) d is = kept_all_set (next + 1) locals y d is

pub ancestor_mapped : {A B : Type 0} (f : A → B) (branch : List A) (k : ℕ) (ancestor leaf : A) → IsAncestor branch k ancestor leaf
    → IsAncestor (map f branch) k (f ancestor) (f leaf)
ancestor_mapped f branch k ancestor leaf is = record {
  above = map f is.above;
  place = is.place;
  all = ap (map f) is.all ∙ map-append f is.above (leaf ∷ []);
  at_depth = is.at_depth;
  stands = slice_get-map f is.above is.place ∙ ap (option_map f) is.stands;
}

-- what is given to the locals that aren't set, from the first variable on
abbrev pub missing : {A : Type 0} → (ℕ → A) → ℕ → List (Option ℕ) → List A
missing given from [] = []
missing given from (Some c ∷ locals) = missing given (from + 1) locals
missing given from (None ∷ locals) = given from ∷ missing given (from + 1) locals

pub same_cell : (c d : ℕ) → ◌≡◌ {A = Option (Option ℕ)} (Some (Some c)) (Some (Some d)) → c ≡ d
same_cell c d e = cc

one_on : (from y : ℕ) → from + 1 + y ≡ from + suc y
one_on from y = omega arith

-- a local that is set when all are was set before, or has one of the new cells
pub all_set_cases : {A : Type 0} (given : ℕ → A) (from next : ℕ) (locals : List (Option ℕ)) (y d : ℕ) → slice_get (all_set next locals) y ≡ Some (Some d)
    → (slice_get locals y ≡ Some (Some d))
    ⊎ ((i : ℕ) × (d ≡ next + i) × (i < unset_count locals) × (slice_get (missing given from locals) i ≡ Some (given (from + y))))
all_set_cases given from next [] y d is = absurd cc
all_set_cases given from next (Some c ∷ locals) zero d is = inl is
all_set_cases given from next (Some c ∷ locals) (suc y) d is =
    elim (all_set_cases given (from + 1) next locals y d is) [
      | inl before ↦ inl before
      | inr (i, place, few, found) ↦ inr (i, place, few, found ∙ ap (λ k. Some (given k)) (one_on from y))
    ]
all_set_cases given from next (None ∷ locals) zero d is =
    inr (0, sym (same_cell next d is) ∙ sym (add-zero next), omega arith, ap (λ k. Some (given k)) (sym (add-zero from)))
all_set_cases given from next (None ∷ locals) (suc y) d is =
    elim (all_set_cases given (from + 1) (next + 1) locals y d is) [
      | inl before ↦ inl before
      | inr (i, place, few, found) ↦ inr (suc i, place ∙ one_on next i, omega (arith, few), found ∙ ap (λ k. Some (given k)) (one_on from y))
    ]
