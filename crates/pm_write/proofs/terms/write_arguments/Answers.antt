use Rattle.std.proofs.Common.{◌++◌, ℕ, List, [], ◌∷◌, All, length, map, sym, ap, ◌∙◌, subst, arith, length-append}
use Rattle.std.proofs.lemmas.List.{append-nil}
use Rattle.std.proofs.lemmas.List.Elements.{All-nil}
use Rattle.pm_logic.specs.Term.{as_terms, tree_at}
use Rattle.pm_write.specs.declared.terms.Pending.{Pending}
use Rattle.pm_write.specs.Text.{arguments_text}
use Rattle.pm_write.specs.Rows.{IsTerm}
use Rattle.pm_write.specs.Inside.Pending.{AreTerms, pending_text}
use Rattle.pm_write.proofs.PendingText.{text-closed, text-next, text-shorter, text-whole, terms-outer, terms-first, terms-kept}
use Rattle.pm_write.proofs.terms.write_arguments.Goals as goal

pub loop-list-init : goal.loop-list-init
loop-list-init c =
    let symbols = c.args.problem.now.symbols in
    let terms = c.args.problem.now.terms in
    let none = c.new-pending.ensures.items in
    let args : List ℕ = arguments_text symbols (as_terms (map (tree_at terms) c.args.args.now)) in (
      ap (λ (t : List ℕ). c.args.into.now.items ++ t)
          (c.in_ok-begin.ensures.text symbols terms ∙ ap (λ (ls : List Pending). args ++ pending_text symbols terms ls) none ∙ append-nil args),
      c.in_ok-begin.ensures.terms symbols terms c.requires
          (subst (AreTerms symbols terms) (sym none) (All-nil (λ (l : Pending). All (IsTerm symbols terms) l.args.now))),
    )

pub loop-list-preserved-in_default-split_first : goal.loop-list-preserved-in_default-split_first
loop-list-preserved-in_default-split_first c = (
  text-closed c.args.problem.now.symbols c.args.problem.now.terms c.loop-list.into.items _ _ _ c.pop.new.self.items c.in-Some.list
      c.in-Some.ensures.items c.in_default-split_first.ensures.cases c.in_ok-push.ensures.items c.loop-list.invariant.0,
  terms-outer _ _ _ _ _ c.in-Some.ensures.items c.loop-list.invariant.1,
)

pub loop-list-smaller-in_default-split_first : goal.loop-list-smaller-in_default-split_first
loop-list-smaller-in_default-split_first c =
    text-shorter c.loop-list.into.items c.push.new.self.items _ _ _ c.loop-list.invariant.0 (loop-list-preserved-in_default-split_first c).0
    (omega (arith, ap length c.in_ok-push.ensures.items ∙ length-append c.loop-list.into.items (41 ∷ [])))

pub write_head-requires : goal.write_head-requires
write_head-requires c = terms-first _ _ _ _ _ _ _ c.in-Some.ensures.items c.in-Some-split_first.ensures.cases.0 c.loop-list.invariant.1

pub loop-list-preserved : goal.loop-list-preserved
loop-list-preserved c =
    let symbols = c.args.problem.now.symbols in
    let terms = c.args.problem.now.terms in
    let first = c.in-Some-split_first.ensures.cases.0 in (
      text-next symbols terms c.loop-list.into.items c.push-in-Some.new.self.items c.write_head.new.into.items _ c.loop-list.pending.items c.pop.new.self.items
          c.push-in-Some-2.new.self.items c.begin-in-Some.new.pending.items c.in-Some.list c.in-Some-split_first.first.now c.in-Some-split_first.others c.in_ok-inner.inner.now
          c.in-Some.ensures.items first c.in_ok-push-2.ensures.items c.in_ok-push-3.ensures.items c.in_ok-inner.ensures.text (c.in_ok-begin-2.ensures.text symbols terms)
          c.loop-list.invariant.0,
      c.in_ok-begin-2.ensures.terms symbols terms c.in_ok-inner.ensures.terms
          (terms-kept symbols terms _ _ _ _ _ c.in-Some-split_first.others c.in-Some.ensures.items first c.in_ok-push-3.ensures.items c.loop-list.invariant.1),
    )

pub loop-list-smaller : goal.loop-list-smaller
loop-list-smaller c =
    text-shorter c.loop-list.into.items c.write_head.new.into.items _ _ _ c.loop-list.invariant.0 (loop-list-preserved c).0
    (omega (arith, ap length c.in_ok-push-2.ensures.items ∙ length-append c.loop-list.into.items (c.in-Some.list.mark ∷ []), c.in_ok-inner.ensures.longer))

pub returns : goal.returns
returns c =
    text-whole c.args.problem.now.symbols c.args.problem.now.terms c.loop-list.into.items _ c.loop-list.pending.items (sym c.loop-list.pending.ok.0 ∙ c.in_default.ensures.cases.0) c.loop-list.invariant.0
