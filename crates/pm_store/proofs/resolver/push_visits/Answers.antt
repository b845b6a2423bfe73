use Rattle.std.proofs.Common.{ℕ, ◌≡◌, List, [], ◌∷◌, ◌++◌, length, refl, sym, ◌∙◌, ap, arith}
use Rattle.std.proofs.lemmas.List.{append_assoc, append-nil}
use Rattle.pm_store.specs.declared.resolver.Place.TheVariants.{Visit}
use Rattle.pm_store.specs.Inside.Pending.{visits}
use Rattle.pm_store.proofs.PendingLemmas.{visits-push}
use Rattle.pm_store.proofs.resolver.push_visits.Goals as goal

empty : (cs : List ℕ) → length cs ≡ 0 → visits cs ≡ []
empty [] none = refl
empty (c ∷ cs) none = absurd (omega (arith, none))

pub cells-preserved : goal.cells-preserved
cells-preserved c =
    ap (λ ps. ps ++ visits c.next.new.self.iter.rest.now) c.in_ok-push.ensures.items
    ∙ append_assoc c.cells.pending.items (Visit c.in-Some.field-0.now ∷ []) (visits c.next.new.self.iter.rest.now)
    ∙ ap (λ ps. c.cells.pending.items ++ ps) (sym (ap visits c.in-Some.ensures.steps ∙ visits-push c.next.new.self.iter.rest.now c.in-Some.field-0.now))
    ∙ c.cells.invariant

pub returns : goal.returns
returns c =
    sym (append-nil c.cells.pending.items) ∙ ap (λ ps. c.cells.pending.items ++ ps) (sym (empty c.cells.cell-iterator.iter.rest.now c.in-None.ensures.steps.0))
    ∙ c.cells.invariant
