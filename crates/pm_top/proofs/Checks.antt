-- The check of a certificate.
use Rattle.std.proofs.Common.{◌≡◌, ℕ, ◌≤◌, inl, inr, List, [], ◌∷◌, refl, sym, ap, ◌∙◌, subst, arith}
use Rattle.std.specs.List.{All}
use Rattle.std.proofs.lemmas.List.Elements.{All-head, All-tail, All-weaker}
use Rattle.pm_logic.specs.declared.tableau.BoundKind.{BoundKind}
use Rattle.pm_logic.specs.declared.tableau.BoundKind.TheVariants.{Depth, Inferences}
use Rattle.pm_logic.specs.Problem.{Problem}
use Rattle.pm_logic.specs.Tableau.{Entry, depth, size, preorder}
use Rattle.pm_logic.proofs.Tableaux.{deepest, deepest-preorder}
use Rattle.pm_certread.specs.Certificate.{Certificate}
use Rattle.pm_certread.proofs.OverLemmas.{over_problem}
use Rattle.pm_check.specs.declared.refusal.RefusalKind.{RefusalKind}
use Rattle.pm_check.specs.Kinds.{refusal_word}
use Rattle.pm_check.specs.Verdicts.{Checked, certified_level, IsAccepted, IsRefused, WasRead}
use Rattle.pm_lift.specs.Lift.{IsLeastAtEach}
use Rattle.pm_report.specs.Text.{text_of, accepted_lines, accepted_inferences_lines, refused_lines}
use Rattle.pm_top.specs.declared.status.Status.{Status}
use Rattle.pm_top.specs.declared.status.Status.TheVariants as ends
use Rattle.pm_top.specs.Output.{EndsVerdict, IsRefusedAt, IsAcceptedWith, verdict_lines}

-- where no entry lies deeper than this, the deepest doesn't
no_deeper : (most : ℕ) (es : List Entry) → All (λ e. e.depth ≤ most) es → deepest es ≤ most
no_deeper most [] h = omega arith
no_deeper most (e ∷ es) h =
    omega (arith, All-head (λ (x : Entry). x.depth ≤ most) e es h, no_deeper most es (All-tail (λ (x : Entry). x.depth ≤ most) e es h))

module _ (problem : Problem) (certificate : Certificate) where
  -- a certificate that was read has a tableau that is at most 250 deep
  pub read_shallow : WasRead problem certificate → depth certificate.tableau.tableau ≤ 250
  read_shallow read =
      let over = over_problem problem read.bytes certificate read.reads in
      let nodes = preorder certificate.tableau.tableau in
      let deep = no_deeper 250 nodes (All-weaker (λ (e : Entry). (1 ≤ e.depth) × (e.depth ≤ 250)) (λ (e : Entry). e.depth ≤ 250) (λ e h. h.1) nodes over.depths) in
      omega (arith, deep, deepest-preorder certificate.tableau.tableau)

  module _ (n : ℕ) (accepted : IsAccepted problem certificate n) where
    -- a size that is a depth is at most 250
    pub accepted_depth : WasRead problem certificate → certificate.bound ≡ Depth → n ≤ 250
    accepted_depth read is =
        let its_size : depth certificate.tableau.tableau ≡ n = subst (λ (bound : BoundKind). size bound certificate.tableau.tableau ≡ n) is accepted.its_size in
        omega (arith, its_size, read_shallow read)

    module _ (choices text : List ℕ) (least : IsLeastAtEach problem certificate.start certificate.tableau.tableau choices) where
      -- the text says the size and the least list
      accepted_verdict : (bound : BoundKind) → certificate.bound ≡ bound → text ≡ text_of (verdict_lines bound n choices) → EndsVerdict problem certificate ends.Done text
      accepted_verdict bound is text_is =
          let with_list : IsAcceptedWith problem certificate n choices = record {
            accepted = accepted;
            least = least (certified_level problem certificate n) (record { problem_is = refl; start_is = refl; within = accepted.class.within });
          } in
          inr (n, choices, with_list, refl, text_is ∙ ap (λ (b : BoundKind). text_of (verdict_lines b n choices)) (sym is))

      pub depth_verdict : certificate.bound ≡ Depth → text ≡ text_of (accepted_lines n choices) → EndsVerdict problem certificate ends.Done text
      depth_verdict is text_is = accepted_verdict Depth is text_is

      pub inferences_verdict : certificate.bound ≡ Inferences → text ≡ text_of (accepted_inferences_lines n choices) → EndsVerdict problem certificate ends.Done text
      inferences_verdict is text_is = accepted_verdict Inferences is text_is

  -- a refusal of what was checked
  pub refused_verdict : (checked : Checked) (line : ℕ) (kind : RefusalKind) (word : List ℕ) (status : Status) (text : List ℕ)
      → checked ≡ record { problem = problem; certificate = certificate } → IsRefused checked.problem checked.certificate line kind
      → word ≡ refusal_word kind → IsRefusedAt line word status text → EndsVerdict problem certificate status text
  refused_verdict checked line kind word status text is refused word_is h =
      inl (
        line,
        kind,
        subst (λ (c : Checked). IsRefused c.problem c.certificate line kind) is refused,
        (h.0, h.1 ∙ ap (λ (w : List ℕ). text_of (refused_lines line w)) word_is),
      )
