-- Maps that are seen as finite maps: what they find, and what an insertion gives.
use Rattle.std.proofs.Common.{◌≡◌, ℕ, List, [], ◌∷◌, map, Option, Some, Bool, true, false, cond, refl, sym, ap, ◌∙◌}
use Rattle.std.specs.Option.{option_map}
use Rattle.std.specs.Ordering.{nat_cmp, eq_by_cmp}
use Rattle.std.specs.declared.cmp.Ordering.{Ordering}
use Rattle.std.specs.Cmp.{nat_cmp_total, eq_by_cmp_equiv}
use Rattle.std.specs.Cmp.Lexicographic.{slice_cmp, nat_list_cmp_total}
use Rattle.std.specs.FinMap as finite
use Rattle.std.specs.BTreeMap as tree
use Rattle.std.specs.Map.{lookup}
use Rattle.std.specs.Str.{bytes_eq}
use Rattle.std.specs.String.{string_bytes, string_cmp}
use Rattle.std.specs.Global.{Vec, Global}
use Rattle.std.specs.declared.string.String.{String}
use Rattle.std.proofs.lemmas.Map.Text.{btree_map_updates_text, is_eq-slice_cmp}
use Rattle.pm_outside.specs.Inside.MemoryLibrary.{files_of}

-- a list of entries, each shown through two functions, finds what the entries find
pub find-shown : {K L X Y : Type 0} (R : L → L → Ordering) (key : K → L) (value : X → Y) (q : L) (es : List (K × X))
    → finite.find R q (map (λ e. (key e.0, value e.1)) es) ≡ option_map value (lookup (λ k. eq_by_cmp R q (key k)) es)
find-shown R key value q [] = refl
find-shown R key value q (e ∷ es) =
    elim (eq_by_cmp R q (key e.0)) as (λ b. cond b (Some (value e.1)) (finite.find R q (map (λ e. (key e.0, value e.1)) es)) ≡ option_map value (cond b (Some e.1) (lookup (λ k. eq_by_cmp R q (key k)) es))) [
      | true ↦ refl
      | false ↦ find-shown R key value q es
    ]

abbrev pub bytes_of : Vec ℕ → List ℕ
bytes_of copy = copy.items

-- the bytes of a name
pub get-files_of : (m : tree.BTreeMap (String Global) (Vec ℕ)) (name : List ℕ)
    → finite.get (files_of m.entries) name ≡ option_map bytes_of (tree.get_by_text m name)
get-files_of m name = finite.get-from_entries nat_list_cmp_total _ name ∙ find-shown (slice_cmp nat_cmp) string_bytes bytes_of name m.entries

chosen_bytes : (b : Bool) (copy : Vec ℕ) (old : Option (Vec ℕ))
    → option_map bytes_of (cond b (Some copy) old) ≡ cond b (Some copy.items) (option_map bytes_of old)
chosen_bytes true copy old = refl
chosen_bytes false copy old = refl

same_test : (name q : List ℕ) → bytes_eq name q ≡ eq_by_cmp (slice_cmp nat_cmp) q name
same_test name q = sym (is_eq-slice_cmp name q) ∙ (eq_by_cmp_equiv nat_list_cmp_total).symm name q

-- the files after an insertion
pub files_of-insert : (m n : tree.BTreeMap (String Global) (Vec ℕ)) (name : String Global) (copy : Vec ℕ)
    → tree.Updates string_cmp m n name (Some copy)
    → files_of n.entries ≡ finite.insert (files_of m.entries) (string_bytes name) copy.items
files_of-insert m n name copy updates =
    finite.same_map nat_list_cmp_total (finite.slice_cmp-IsAntisymmetric finite.nat_cmp-IsAntisymmetric) _ _ (λ q.
    get-files_of n q
    ∙ ap (option_map bytes_of) (btree_map_updates_text (string_bytes name) m n (Some copy) updates q)
    ∙ chosen_bytes (bytes_eq (string_bytes name) q) copy (tree.get_by_text m q)
    ∙ ap (λ b. cond b (Some copy.items) (option_map bytes_of (tree.get_by_text m q))) (same_test (string_bytes name) q)
    ∙ ap (cond (eq_by_cmp (slice_cmp nat_cmp) q (string_bytes name)) (Some copy.items)) (sym (get-files_of m q))
    ∙ sym (finite.get-insert nat_list_cmp_total (files_of m.entries) (string_bytes name) copy.items q))

find-entries : {X : Type 0} (q : ℕ) (es : List (ℕ × X)) → finite.find nat_cmp q es ≡ lookup (tree.is_at (nat_cmp q)) es
find-entries q [] = refl
find-entries {X} q (e ∷ es) =
    elim (eq_by_cmp nat_cmp q e.0) as (λ b. cond b (Some e.1) (finite.find nat_cmp q es) ≡ cond b (Some e.1) (lookup (tree.is_at (nat_cmp q)) es)) [
      | true ↦ refl
      | false ↦ find-entries q es
    ]

-- what a map with numbers as its keys holds
pub get-from_tree : {X : Type 0} (m : tree.BTreeMap ℕ X) (q : ℕ) → finite.get (finite.from_entries {R = nat_cmp} m.entries) q ≡ tree.get nat_cmp m q
get-from_tree m q = finite.get-from_entries nat_cmp_total _ q ∙ find-entries q m.entries

-- that map after an insertion
pub from_tree-insert : {X : Type 0} (m n : tree.BTreeMap ℕ X) (k : ℕ) (v : X) → tree.Updates nat_cmp m n k (Some v)
    → finite.from_entries {R = nat_cmp} n.entries ≡ finite.insert (finite.from_entries m.entries) k v
from_tree-insert m n k v updates =
    finite.same_map nat_cmp_total finite.nat_cmp-IsAntisymmetric _ _ (λ q.
    get-from_tree n q
    ∙ updates.0 q
    ∙ ap (λ b. cond b (Some v) (tree.get nat_cmp m q)) ((eq_by_cmp_equiv nat_cmp_total).symm k q)
    ∙ ap (cond (eq_by_cmp nat_cmp q k) (Some v)) (sym (get-from_tree m q))
    ∙ sym (finite.get-insert nat_cmp_total (finite.from_entries m.entries) k v q))
