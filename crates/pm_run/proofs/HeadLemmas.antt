-- Head code over trees.
use Rattle.std.proofs.Common.{◌≡◌, ℕ, Bool, true, false, List, [], ◌∷◌, ◌++◌, refl, sym, ◌∙◌, ap, ap₂, subst, append_assoc}
use Rattle.std.specs.Prelude.{◌↔◌, if◌then◌else◌}
use Rattle.pm_logic.specs.Term.{Term, var, app, Terms, no_terms, more_terms, as_terms, list_of}
use Rattle.pm_logic.specs.Variables.{variables}
use Rattle.pm_logic.specs.Filling.{fill, fill_among}
use Rattle.pm_compile.specs.Instructions.{Instruction, FIRST, AGAIN, MEET, GROUND}
use Rattle.pm_compile.specs.Scheme.{is_among, are_ground, count, head_code, head_code_among}
use Rattle.pm_run.specs.State.{TreeState}
use Rattle.pm_run.specs.Turns.{InTurn}
use Rattle.pm_run.specs.Wants.{Pops, Asks, BodyWants}
use Rattle.pm_run.specs.Laws.{HeadsPop}
use Rattle.pm_run.proofs.PartLemmas.{append_parts, as_terms-list_of, length-fill, filled_ground}

-- the state with this stack
abbrev pub stacked : TreeState → List Term → TreeState
stacked s ts = record s { stack = ts }

module _ (trees : ℕ → Term) (body : ℕ → TreeState → TreeState → Type 0) where
  abbrev pub Leads : List Instruction → TreeState → TreeState → Type 0
  Leads code s last = InTurn (Asks trees body) code s last

  -- the terms are popped, and the code leads on
  abbrev pub LeadsUnder : List Term → List Instruction → TreeState → TreeState → Type 0
  LeadsUnder ts code s last = (rest : List Term) × (s.stack ≡ ts ++ rest) × Leads code (stacked s rest) last

  -- the first pop
  popped : (t : Term) (code : List Instruction) (s last : TreeState)
      → ((next : TreeState) × Pops t s next × Leads code next last) ↔ LeadsUnder (t ∷ []) code s last
  popped t code s last = (
    λ h. (h.1.0, h.1.1, subst (λ (n : TreeState). Leads code n last) h.1.2 h.2),
    λ h. (stacked s h.0, (h.0, h.1, refl), h.2),
  )

  -- the term that is wanted on top, by another name
  renamed : (ts us : List Term) → ts ≡ us → (code : List Instruction) (s last : TreeState) → LeadsUnder ts code s last → LeadsUnder us code s last
  renamed ts us same code s last h = (h.0, h.1 ∙ ap (λ (vs : List Term). vs ++ h.0) same, h.2)

  occurrence_leads : (x : ℕ) (b : Bool) (code : List Instruction) (s last : TreeState)
      → Leads ((if b then AGAIN x else FIRST x) ∷ code) s last ↔ LeadsUnder (trees x ∷ []) code s last
  occurrence_leads x true code s last = popped (trees x) code s last
  occurrence_leads x false code s last = popped (trees x) code s last

  -- an application whose arguments' code is known
  application_leads : (f : ℕ) (ts : Terms) (args_code code : List Instruction) (b : Bool) → (b ≡ true → fill trees (app f ts) ≡ app f ts)
      → ((s last : TreeState) → Leads (args_code ++ code) s last ↔ LeadsUnder (list_of (fill_among trees ts)) code s last)
      → (s last : TreeState)
      → Leads ((if b then GROUND (app f ts) ∷ [] else (MEET f (count ts) ∷ args_code)) ++ code) s last
      ↔ LeadsUnder (fill trees (app f ts) ∷ []) code s last
  application_leads f ts args_code code true ground args s last =
      let same = ap (λ (t : Term). t ∷ []) (ground refl) in
      let one = popped (app f ts) code s last in (
        λ h. renamed (app f ts ∷ []) (fill trees (app f ts) ∷ []) (sym same) code s last (one.0 h),
        λ h. one.1 (renamed (fill trees (app f ts) ∷ []) (app f ts ∷ []) same code s last h),
      )
  application_leads f ts args_code code false ground args s last =
      let filled : List Term = list_of (fill_among trees ts) in (
        λ h.
            let us : List Term = h.1.0 in
            let rest : List Term = h.1.1 in
            let after = (args (stacked s (us ++ rest)) last).0 (subst (λ (n : TreeState). Leads (args_code ++ code) n last) h.1.4 h.2) in
            let parts = append_parts us filled rest after.0 (h.1.2 ∙ sym (length-fill trees ts)) after.1 in
            let same : as_terms us ≡ fill_among trees ts = ap as_terms parts.0 ∙ as_terms-list_of (fill_among trees ts) in
            (after.0, h.1.3 ∙ ap₂ (λ vs ws. app f vs ∷ ws) same parts.1, after.2),
        λ h.
            let same : fill_among trees ts ≡ as_terms filled = sym (as_terms-list_of (fill_among trees ts)) in (
              stacked s (filled ++ h.0),
              (filled, h.0, length-fill trees ts, h.1 ∙ ap (λ vs. app f vs ∷ h.0) same, refl),
              (args (stacked s (filled ++ h.0)) last).1 (h.0, refl, h.2),
            ),
      )

  mutual
    pub head_leads : (seen : List ℕ) (t : Term) (code : List Instruction) (s last : TreeState)
        → Leads (head_code seen t ++ code) s last ↔ LeadsUnder (fill trees t ∷ []) code s last
    head_leads seen (var x) code s last = occurrence_leads x (is_among x seen) code s last
    head_leads seen (app f ts) code s last =
        application_leads f ts (head_code_among seen ts) code (are_ground ts) (filled_ground trees f ts)
        (λ s' last'. head_leads_among seen ts code s' last') s last

    pub head_leads_among : (seen : List ℕ) (ts : Terms) (code : List Instruction) (s last : TreeState)
        → Leads (head_code_among seen ts ++ code) s last ↔ LeadsUnder (list_of (fill_among trees ts)) code s last
    head_leads_among seen no_terms code s last = (
      λ h. (s.stack, refl, h),
      λ h. subst (λ (ts : List Term). Leads code (stacked s ts) last) (sym h.1) h.2,
    )
    head_leads_among seen (more_terms t ts) code s last =
        let later : List Instruction = head_code_among (seen ++ variables t) ts in
        let split : (head_code seen t ++ later) ++ code ≡ head_code seen t ++ (later ++ code) = append_assoc (head_code seen t) later code in
        let first = head_leads seen t (later ++ code) s last in (
          λ h.
              let one = first.0 (subst (λ (is : List Instruction). Leads is s last) split h) in
              let others = (head_leads_among (seen ++ variables t) ts code (stacked s one.0) last).0 one.2 in
              (others.0, one.1 ∙ ap (λ us. fill trees t ∷ us) others.1, others.2),
          λ h.
              let rest : List Term = list_of (fill_among trees ts) ++ h.0 in
              let others = (head_leads_among (seen ++ variables t) ts code (stacked s rest) last).1 (h.0, refl, h.2) in
              subst (λ (is : List Instruction). Leads is s last) (sym split) (first.1 (rest, h.1, others)),
        )

pub heads_pop : HeadsPop
heads_pop trees bodies seen t code state last = head_leads trees (BodyWants trees bodies) seen t code state last
