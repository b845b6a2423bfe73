use Rattle.std.proofs.Common.{◌≡◌, ℕ, inl, inr, List, [], ◌∷◌, ◌++◌, refl, sym, ◌∙◌, ap}
use Rattle.std.specs.List.{zip}
use Rattle.std.specs.Iterator.Adapters.{zip_first, zip_second}
use Rattle.std.specs.Slice.Iter.{iter_rest}
use Rattle.std.proofs.lemmas.List.{append-nil}
use Rattle.std.proofs.lemmas.Slice.Zip.{either_empty_from_Zip}
use Rattle.pm_diseq.proofs.comparison.add_places.Goals as goal

zip_none : (xs none : List ℕ) → none ≡ [] → zip xs none ≡ []
zip_none [] none is = refl
zip_none (x ∷ xs) [] is = refl
zip_none (x ∷ xs) (y ∷ ys) is = absurd cc

pub returns : goal.returns
returns c =
    let xs = iter_rest (zip_first c.places.x-iterator) in
    let ys = iter_rest (zip_second c.places.x-iterator) in
    let none : zip xs ys ≡ [] = elim (either_empty_from_Zip c.places.x-iterator c.next.new.self c.next.result c.in-None.is c.next.ensures.steps) [
      | inl left ↦ ap (λ ns. zip ns ys) left
      | inr right ↦ zip_none xs ys right
    ] in
    sym (append-nil c.places.pending.items) ∙ ap (λ ps. c.places.pending.items ++ ps) (sym none) ∙ c.places.invariant
