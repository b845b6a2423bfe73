-- What unification keeps while it binds variables.
use Rattle.std.proofs.Common.{◌≡◌, ℕ, suc, ◌<◌, List, [], ◌∷◌, length, refl, sym, subst}
use Rattle.std.specs.Prelude.{◌↔◌, ⊤}
use Rattle.std.proofs.lemmas.List.Elements.{All-nil, All-cons, All-head}
use Rattle.pm_logic.specs.Term.{Term}
use Rattle.pm_store.specs.Equations.{Equations, with_binding}
use Rattle.pm_store.specs.Solutions.{Solves}
use Rattle.pm_store.specs.Sound.{IsSound}
use Rattle.pm_store.specs.Trees.{tree, Occurs}
use Rattle.pm_store.specs.Marks.{IsLater}
use Rattle.pm_store.proofs.SolutionLemmas.{bindings_narrow}
use Rattle.pm_store.proofs.MarkLemmas.{growth_is_later, later_is_transitive}
use Rattle.pm_store.proofs.CycleLemmas.{cycles_have_no_solution}
use Rattle.pm_unify.specs.Inside.Pairs.{IsEqual, IsPairWithin, ArePairsWithin, AreEqual, AreSupported, pair_size}
use Rattle.pm_unify.specs.declared.pairs.Step.{Step}
use Rattle.pm_unify.specs.declared.pairs.Step.TheVariants.{Done, Clash, Bind}
use Rattle.pm_unify.specs.Inside.Steps.{Leaves, Binds, Takes}
use Rattle.pm_unify.specs.Unified.{IsUnified, CannotUnify}
use Rattle.pm_unify.proofs.SupportLemmas.{all_supported}

-- the old solutions with both cells equal are those of the store now with all pairs equal
pub record IsUnifying (old s : Equations) (a b : ℕ) (pending taken : List (ℕ × ℕ)) : Type 0 where
  pub cells : s.cells ≡ old.cells
  pub later : IsLater old s
  pub sound : IsSound s
  pub within : ArePairsWithin s pending
  pub same : (trees : ℕ → Term) → (Solves old trees × (trees a ≡ trees b)) ↔ (Solves s trees × AreEqual trees pending taken)
  pub supported : AreSupported s pending taken

pub unifying_first : (s : Equations) (a b : ℕ) (pending taken : List (ℕ × ℕ)) → IsSound s → a < length s.cells → b < length s.cells → pending ≡ (a, b) ∷ [] → taken ≡ []
    → IsUnifying s s a b pending taken
unifying_first s a b pending taken sound left right first none =
    subst (λ (ps : List (ℕ × ℕ)). IsUnifying s s a b ps taken) (sym first)
    (subst (λ (ps : List (ℕ × ℕ)). IsUnifying s s a b ((a, b) ∷ []) ps) (sym none) (record {
      cells = refl;
      later = (growth_is_later s).unchanged;
      sound = sound;
      within = All-cons (IsPairWithin s) (a, b) [] (left, right) (All-nil (IsPairWithin s));
      same = λ trees. (
        λ parts. (parts.0, (All-cons (IsEqual trees) (a, b) [] parts.1 (All-nil (IsEqual trees)), All-nil (IsEqual trees))),
        λ parts. (parts.0, All-head (IsEqual trees) (a, b) [] parts.1.0),
      );
      supported = λ trees solves n below_pending below_taken. All-nil (λ p. pair_size trees p < suc n → IsEqual trees p);
    }))

module _ (old s : Equations) (a b : ℕ) (pending taken : List (ℕ × ℕ)) (unifying : IsUnifying old s a b pending taken) where
  pub unifying_done : (left taken' : List (ℕ × ℕ)) (step : Step) → Takes s pending taken left taken' step → step ≡ Done → IsUnified old s a b
  unifying_done left taken' step takes is = record {
    cells = unifying.cells;
    later = unifying.later;
    sound = unifying.sound;
    solutions = λ trees. (
      λ solves. (unifying.same trees).1 (
        solves,
        ((done.same trees solves).1
            (tt, (All-nil (IsEqual trees), all_supported (pair_size trees) (IsEqual trees) taken' (done.supported trees solves tt)))),
      ),
      λ parts. ((unifying.same trees).0 parts).0,
    );
  }
    where
      done : Leaves s (λ trees. ⊤) pending taken [] taken'
      done =
          let ends : Takes s pending taken left taken' Done = subst (λ (x : Step). Takes s pending taken left taken' x) is takes in
          subst (λ (ps : List (ℕ × ℕ)). Leaves s (λ trees. ⊤) pending taken ps taken') ends.0 ends.1

  pub unifying_clash : (left taken' : List (ℕ × ℕ)) (step : Step) → Takes s pending taken left taken' step → step ≡ Clash → CannotUnify old a b
  unifying_clash left taken' step takes is = λ trees solves equal.
      let clash : Takes s pending taken left taken' Clash = subst (λ (x : Step). Takes s pending taken left taken' x) is takes in
      let now = (unifying.same trees).0 (solves, equal) in
      clash trees now.0 now.1

  module _ (v t : ℕ) (rest taken' : List (ℕ × ℕ)) (step : Step) (takes : Takes s pending taken rest taken' step) (is : step ≡ Bind v t) where
    binds : Binds s v t pending taken rest taken'
    binds = subst (λ (x : Step). Takes s pending taken rest taken' x) is takes

    pub unifying_cycle : Occurs v (tree s t) → CannotUnify old a b
    unifying_cycle occurs = λ trees solves equal.
        let now = (unifying.same trees).0 (solves, equal) in
        cycles_have_no_solution s v t unifying.sound binds.within occurs binds.other trees now.0 ((binds.leaves.same trees now.0).0 now.1).0

    bound : IsSound (with_binding s v t) → IsUnifying old (with_binding s v t) a b rest taken'
    bound sound = record {
      cells = unifying.cells;
      later = later_is_transitive old s (with_binding s v t) unifying.later ((growth_is_later s).binding v t);
      sound = sound;
      within = binds.leaves.within;
      same = λ trees. (
        λ parts.
            let now = (unifying.same trees).0 parts in
            let left = (binds.leaves.same trees now.0).0 now.1 in
            ((bindings_narrow s v t trees).1 (now.0, left.0), left.1),
        λ parts.
            let before = (bindings_narrow s v t trees).0 parts.0 in
            (unifying.same trees).1 (before.0, (binds.leaves.same trees before.0).1 (before.1, parts.1)),
      );
      supported = λ trees solves.
          let before = (bindings_narrow s v t trees).0 solves in
          binds.leaves.supported trees before.0 before.1;
    }

    pub unifying_bound : (s' : Equations) → s' ≡ with_binding s v t → IsSound s' → IsUnifying old s' a b rest taken'
    unifying_bound s' grown sound = subst (λ (e : Equations). IsUnifying old e a b rest taken') (sym grown) (bound (subst IsSound grown sound))
