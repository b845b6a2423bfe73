use Rattle.std.proofs.Common.{◌≡◌, ◌++◌, ◌≤◌, ℕ, List, [], All, reverse, refl, sym, ◌∙◌, ap, subst, arith}
use Rattle.pm_compile.specs.Inside.Ground.{IsRowOver}
use Rattle.pm_compile.proofs.BuildLemmas.{All-last}
use Rattle.pm_compile.proofs.HeadLemmas.{head_begins, rows_opened, head_goes_on, head_less, head_ends}
use Rattle.pm_compile.proofs.heads.append_head.Goals as goal

pub rows-init : goal.rows-init
rows-init c =
    let problem = c.args.source.now.problem.now in
    let opened : c.push_rows.new.pending.items ≡ [] ++ reverse c.args.args.now =
    c.in_ok-push_rows.ensures ∙ ap (λ (rows : List ℕ). rows ++ reverse c.args.args.now) c.new-pending.ensures.items in
    record {
      comes = head_begins problem.terms _ c.args.args.now _ _ c.requires.seen opened;
      rows = rows_opened problem.symbols problem.terms c.args.args.now [] _ opened c.requires.args (λ k d lt. absurd (omega (arith, lt)));
      head = refl;
      count = refl;
    }

pub meet-requires-clause-row : goal.meet-requires-clause-row
meet-requires-clause-row c =
    let problem = c.args.source.now.problem.now in
    (All-last (IsRowOver problem.symbols problem.terms) _ _ _ c.in-Some.ensures.items c.rows.invariant.rows).1

pub rows-smaller : goal.rows-smaller
rows-smaller c = head_less _ _ _ _ _ _ _ _ _ _ _ c.in-Some.ensures.items c.in_ok-meet.ensures.step c.rows.invariant.comes

pub rows-preserved : goal.rows-preserved
rows-preserved c =
    let problem = c.args.source.now.problem.now in
    record {
      comes = head_goes_on _ _ _ _ _ _ _ _ _ _ _ c.in-Some.ensures.items c.in_ok-meet.ensures.step c.rows.invariant.comes;
      rows = c.in_ok-meet.ensures.rows (All-last (IsRowOver problem.symbols problem.terms) _ _ _ c.in-Some.ensures.items c.rows.invariant.rows).0;
      head = c.in_ok-meet.ensures.step.head ∙ c.rows.invariant.head;
      count = c.in_ok-meet.ensures.step.count ∙ c.rows.invariant.count;
    }

pub returns-clause-code : goal.returns-clause-code
returns-clause-code c = head_ends _ _ _ _ c.rows.pending.items _ (sym c.rows.pending.ok.0 ∙ c.in_default.ensures.cases.0) c.rows.invariant.comes

pub returns-clause-past : goal.returns-clause-past
returns-clause-past c = subst (λ n. All (λ h. h ≤ n) c.rows.seen.heads.items) c.rows.invariant.head c.rows.invariant.comes.marked.past
