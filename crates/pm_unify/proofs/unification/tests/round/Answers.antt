use Rattle.std.proofs.Common.{◌≡◌, ℕ, Bool, true, false, Result, Ok, Err, IfOk, OnErr, sym, subst}
use Rattle.pm_store.specs.Equations.{Equations}
use Rattle.pm_store.specs.Marks.{IsLater}
use Rattle.pm_store.proofs.MarkLemmas.{growth_is_later, marks_last}
use Rattle.pm_unify.specs.Unified.{Answers}
use Rattle.pm_unify.proofs.unification.tests.round.Goals as goal

same_is_later : (old new : Equations) → new ≡ old → IsLater old new
same_is_later old new same = subst (λ (s : Equations). IsLater old s) (sym same) (growth_is_later old).unchanged

-- whatever unification answered, the store has grown at most
later : {E : Type 0} (r : Result Bool E) (old new : Equations) (a b : ℕ) → IfOk r (Answers old new a b) → OnErr r (new ≡ old) → IsLater old new
later (Ok true) old new a b ok err = ok.later
later (Ok false) old new a b ok err = same_is_later old new ok.0
later (Err e) old new a b ok err = same_is_later old new err

pub undo-requires : goal.undo-requires
undo-requires c =
    marks_last _ _ _ (later c.unify-unified.result c.args.store.now c.unify-unified.new.store c.args.a c.args.b c.unify-unified.ensures.ok c.unify-unified.ensures.err) c.mark-mark.ensures.can

pub returns : goal.returns
returns c =
    c.undo.ensures.before _ (later c.unify-unified.result c.args.store.now c.unify-unified.new.store c.args.a c.args.b c.unify-unified.ensures.ok c.unify-unified.ensures.err)
    c.mark-mark.ensures.counts
