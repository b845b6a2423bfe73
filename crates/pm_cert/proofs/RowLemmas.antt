-- Rows of a table and their terms.
use Rattle.std.proofs.Common.{◌≡◌, ◌↔◌, ◌==◌, IsTrue, Bool, ℕ, ◌<◌, List, length, map, get_or, Some, sym, ap, ◌∙◌, arith}
use Rattle.std.specs.List.{Contains}
use Rattle.std.specs.Cmp.Lexicographic.{pointwise, bytes_decides}
use Rattle.std.proofs.lemmas.List.{length-map, get_or-map}
use Rattle.std.proofs.lemmas.Option.{slice_get-get_or}
use Rattle.pm_logic.specs.Lists.{AreDistinct}
use Rattle.pm_logic.specs.Term.{Term, var, tree_at}
use Rattle.pm_cert.specs.Inside.Listing.{AreRows}

-- different rows have different terms
pub same_row : (terms : List Term) (i j : ℕ) → AreDistinct terms → i < length terms → j < length terms → tree_at terms i ≡ tree_at terms j → i ≡ j
same_row terms i j distinct i_in j_in same =
    distinct i j i_in j_in (slice_get-get_or terms i (var 0) i_in ∙ ap Some same ∙ sym (slice_get-get_or terms j (var 0) j_in))

-- so a term that has one of the rows is at that row
pub row_there : (terms : List Term) (rows : List ℕ) (row : ℕ) → AreRows terms rows → row < length terms → Contains (map (tree_at terms) rows) (tree_at terms row) → Contains rows row
row_there terms rows row are lt there =
    let k : ℕ = there.0 in
    let k_in : k < length rows = omega (arith, there.1, length-map rows (tree_at terms)) in
    let same : tree_at terms (get_or rows k row) ≡ tree_at terms row = sym (get_or-map (tree_at terms) rows k row (tree_at terms row) k_in) ∙ there.2 in
    (k, k_in, same_row terms (get_or rows k row) row are.distinct (are.within k row k_in) lt same)

pub same_told : (rows others : List ℕ) (b : Bool) → b ≡ pointwise (λ x y. x == y) rows others → IsTrue b ↔ (rows ≡ others)
same_told rows others b is = (
  λ h. (bytes_decides rows others).0 (sym is ∙ h),
  λ h. is ∙ (bytes_decides rows others).1 h,
)
