use Rattle.std.proofs.Common.{◌≡◌, ◌∙◌, ℕ, sym, rules, List, Bool, subst, true}
use Rattle.std.specs.List.{count_by}
use Rattle.pm_logic.specs.Lists.{AreDistinct}
use Rattle.pm_logic.specs.Term.{Term, tree_at}
use Rattle.pm_report.specs.Summary.{IsPart}
use Rattle.pm_report.specs.Inside.Marks.{AreArgsMarked, has_mark}
use Rattle.pm_report.proofs.MarkLemmas.{length-pick, pick, terms_marked}
use Rattle.pm_report.proofs.terms.count_terms.Goals as goal

pub returns : goal.returns
returns c =
    let terms = c.args.tableau.now.terms in
    let first : List Bool = c.in_ok-marks.marks.items in
    let marks : List Bool = c.mark_parts.new.marks.items in
    let counted : c.count_marks.result ≡ count_by (λ b. b) marks = search rules in
    let distinct = subst (λ (ts : List Term). AreDistinct ts) c.terms.ensures c.mark_parts.ensures.distinct in
    let parts = subst (λ (ts : List Term). (row : ℕ) → has_mark marks row ≡ true → (whole : ℕ) × (has_mark first whole ≡ true) × IsPart (tree_at ts row) (tree_at ts whole)) c.terms.ensures c.mark_parts.ensures.parts in
    let closed = subst (λ (ts : List Term). (row : ℕ) → has_mark marks row ≡ true → AreArgsMarked ts marks row) c.terms.ensures c.mark_parts.ensures.closed in (
      pick marks terms,
      terms_marked terms c.args.tableau.now.tableau first marks distinct c.in_ok-marks.ensures.count c.mark_parts.ensures.count
          c.in_ok-marks.ensures.occur c.in_ok-marks.ensures.each c.mark_parts.ensures.grows parts closed,
      counted ∙ sym (length-pick marks terms (c.mark_parts.ensures.count ∙ c.in_ok-marks.ensures.count)),
    )
