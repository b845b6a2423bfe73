-- Building code, and the code of goals, bodies, starts and extensions, over trees.
use Rattle.std.proofs.Common.{◌≡◌, ℕ, Bool, true, false, List, [], ◌∷◌, ◌++◌, length, map, reverse, flat_map, refl, sym, ◌∙◌, ap, ap₂, subst, append_assoc}
use Rattle.std.specs.Prelude.{◌↔◌, if◌then◌else◌}
use Rattle.std.proofs.lemmas.List.{append-nil, length-map, length-reverse, reverse-append, reverse-reverse}
use Rattle.pm_logic.specs.Term.{Term, var, app, Terms, no_terms, more_terms, as_terms, list_of}
use Rattle.pm_logic.specs.Problem.{Literal}
use Rattle.pm_logic.specs.Filling.{fill, fill_among}
use Rattle.pm_compile.specs.Instructions.{Instruction, PUSH, CONST, MAKE, GOAL, BODY, NEW, RETURN, CLOSE, DONE}
use Rattle.pm_compile.specs.Scheme.{are_ground, count, building_code, building_code_among, goal_code, body_code}
use Rattle.pm_run.specs.State.{TreeChild, TreeState, with_changed, closed_tree_child}
use Rattle.pm_run.specs.Wants.{Asks, NoBodyWants, BodyWants, open_child, filled_child, with_filled}
use Rattle.pm_run.specs.Laws.{BuildingPushes, GoalsAppend, BodiesAppend, StartsAppend, ExtensionsPopAndAppend}
use Rattle.pm_run.proofs.PartLemmas.{append_parts, as_terms-list_of, list_of-fill, length-fill, filled_ground}
use Rattle.pm_run.proofs.HeadLemmas.{stacked, Leads, head_leads_among}

-- what is popped is what was pushed
pub popped_args : (args pushed rest under : List Term) (n : ℕ) → length pushed ≡ n → length args ≡ n → reverse pushed ++ under ≡ reverse args ++ rest
    → (pushed ≡ args) × (under ≡ rest)
popped_args args pushed rest under n counted counted' same =
    let parts = append_parts (reverse pushed) (reverse args) under rest (length-reverse pushed ∙ counted ∙ sym counted' ∙ sym (length-reverse args)) same in
    (sym (reverse-reverse pushed) ∙ ap reverse parts.0 ∙ reverse-reverse args, parts.1)

reverse_more : (t : Term) (ts under : List Term) → reverse ts ++ t ∷ under ≡ reverse (t ∷ ts) ++ under
reverse_more t ts under =
    sym (append_assoc (reverse ts) (t ∷ []) under) ∙ ap (λ us. us ++ under) (sym (reverse-append (t ∷ []) ts))

-- a fact of equal states, both ways
moved : {S : Type 0} (P : S → Type 0) (s t : S) → s ≡ t → P s ↔ P t
moved P s t same = (subst P same, subst P (sym same))

chained : {A B C : Type 0} → A ↔ B → B ↔ C → A ↔ C
chained f g = (λ a. g.0 (f.0 a), λ c. f.1 (g.1 c))

module _ (trees : ℕ → Term) (body : ℕ → TreeState → TreeState → Type 0) where
  abbrev Goes : List Instruction → TreeState → TreeState → Type 0
  Goes code s last = Leads trees body code s last

  -- one instruction that leads to one state
  one_leads : (i : Instruction) (code : List Instruction) (s to last : TreeState) → ((next : TreeState) → Asks trees body i s next ↔ (next ≡ to))
      → Goes (i ∷ code) s last ↔ Goes code to last
  one_leads i code s to last does = (
    λ h. subst (λ (n : TreeState). Goes code n last) ((does h.0).0 h.1) h.2,
    λ h. (to, (does to).1 refl, h),
  )

  itself : (s next to : TreeState) → to ≡ s → (next ≡ s) ↔ (next ≡ to)
  itself s next to same = (λ h. h ∙ sym same, λ h. h ∙ same)

  make_leads : (f n : ℕ) (args under : List Term) (code : List Instruction) (s last : TreeState) → length args ≡ n → s.stack ≡ reverse args ++ under
      → Goes (MAKE f n ∷ code) s last ↔ Goes code (stacked s (app f (as_terms args) ∷ under)) last
  make_leads f n args under code s last counted top =
      one_leads (MAKE f n) code s (stacked s (app f (as_terms args) ∷ under)) last (λ next. (
        λ h.
            let parts = popped_args h.0 args h.1 under n counted h.2 (sym top ∙ h.3) in
            h.4 ∙ ap₂ (λ us vs. stacked s (app f (as_terms us) ∷ vs)) (sym parts.0) (sym parts.1),
        λ h. (args, under, counted, top, h),
      ))

  application_builds : (f : ℕ) (ts : Terms) (args_code code : List Instruction) (b : Bool) → (b ≡ true → fill trees (app f ts) ≡ app f ts)
      → ((code' : List Instruction) (s last : TreeState) → Goes (args_code ++ code') s last ↔ Goes code' (stacked s (reverse (list_of (fill_among trees ts)) ++ s.stack)) last)
      → (s last : TreeState)
      → Goes ((if b then CONST (app f ts) ∷ [] else (args_code ++ MAKE f (count ts) ∷ [])) ++ code) s last
      ↔ Goes code (stacked s (fill trees (app f ts) ∷ s.stack)) last
  application_builds f ts args_code code true ground args s last =
      one_leads (CONST (app f ts)) code s (stacked s (fill trees (app f ts) ∷ s.stack)) last
      (λ next. itself (stacked s (app f ts ∷ s.stack)) next (stacked s (fill trees (app f ts) ∷ s.stack)) (ap (λ t. stacked s (t ∷ s.stack)) (ground refl)))
  application_builds f ts args_code code false ground args s last =
      let filled : List Term = list_of (fill_among trees ts) in
      let after : TreeState = stacked s (reverse filled ++ s.stack) in
      chained (moved (λ (is : List Instruction). Goes is s last) ((args_code ++ MAKE f (count ts) ∷ []) ++ code) (args_code ++ MAKE f (count ts) ∷ code)
      (append_assoc args_code (MAKE f (count ts) ∷ []) code))
      (chained (args (MAKE f (count ts) ∷ code) s last)
      (chained (make_leads f (count ts) filled s.stack code after last (length-fill trees ts) refl)
      (moved (λ (us : Terms). Goes code (stacked s (app f us ∷ s.stack)) last) (as_terms filled) (fill_among trees ts) (as_terms-list_of (fill_among trees ts)))))

  mutual
    pub building_leads : (t : Term) (code : List Instruction) (s last : TreeState)
        → Goes (building_code t ++ code) s last ↔ Goes code (stacked s (fill trees t ∷ s.stack)) last
    building_leads (var x) code s last = one_leads (PUSH x) code s (stacked s (trees x ∷ s.stack)) last (λ next. (λ h. h, λ h. h))
    building_leads (app f ts) code s last =
        application_builds f ts (building_code_among ts) code (are_ground ts) (filled_ground trees f ts)
        (λ code' s' last'. building_leads_among ts code' s' last') s last

    pub building_leads_among : (ts : Terms) (code : List Instruction) (s last : TreeState)
        → Goes (building_code_among ts ++ code) s last ↔ Goes code (stacked s (reverse (list_of (fill_among trees ts)) ++ s.stack)) last
    building_leads_among no_terms code s last = (λ h. h, λ h. h)
    building_leads_among (more_terms t ts) code s last =
        let filled : List Term = list_of (fill_among trees ts) in
        let first : TreeState = stacked s (fill trees t ∷ s.stack) in
        chained (moved (λ (is : List Instruction). Goes is s last) ((building_code t ++ building_code_among ts) ++ code) (building_code t ++ (building_code_among ts ++ code))
        (append_assoc (building_code t) (building_code_among ts) code))
        (chained (building_leads t (building_code_among ts ++ code) s last)
        (chained (building_leads_among ts code first last)
        (moved (λ (us : List Term). Goes code (stacked s us) last) (reverse filled ++ fill trees t ∷ s.stack) (reverse (fill trees t ∷ filled) ++ s.stack)
        (reverse_more (fill trees t) filled s.stack))))

  abbrev with_goal : Literal → TreeState → List Term → List Term → TreeState
  with_goal l s args rest = record s { stack = rest; children = s.children ++ open_child l.positive l.predicate args ∷ [] }

  pub goal_leads : (l : Literal) (code : List Instruction) (s last : TreeState)
      → Goes (goal_code l ++ code) s last ↔ Goes code (with_filled trees (l ∷ []) s) last
  goal_leads l code s last =
      let args : List Term = list_of (fill_among trees (as_terms l.args)) in
      let same : args ≡ map (fill trees) l.args = list_of-fill trees l.args in
      let n : ℕ = length l.args in
      let goal : Instruction = GOAL l.positive l.predicate n in
      let after : TreeState = stacked s (reverse args ++ s.stack) in
      let counted : length args ≡ n = ap length same ∙ length-map l.args (fill trees) in
      chained (moved (λ (is : List Instruction). Goes is s last) ((building_code_among (as_terms l.args) ++ goal ∷ []) ++ code) (building_code_among (as_terms l.args) ++ goal ∷ code)
      (append_assoc (building_code_among (as_terms l.args)) (goal ∷ []) code))
      (chained (building_leads_among (as_terms l.args) (goal ∷ code) s last)
      (one_leads goal code after (with_filled trees (l ∷ []) s) last (λ next. (
        λ h.
            let parts = popped_args h.0 args h.1 s.stack n counted h.2 h.3 in
            h.4 ∙ ap₂ (with_goal l s) (sym parts.0 ∙ same) (sym parts.1),
        λ h. (args, s.stack, counted, refl, h ∙ ap (λ us. with_goal l s us s.stack) (sym same)),
      ))))

  pub goals_lead : (ls : List Literal) (code : List Instruction) (s last : TreeState)
      → Goes (flat_map goal_code ls ++ code) s last ↔ Goes code (with_filled trees ls s) last
  goals_lead [] code s last =
      moved (λ (cs : List TreeChild). Goes code (record s { children = cs }) last) s.children (s.children ++ []) (sym (append-nil s.children))
  goals_lead (l ∷ ls) code s last =
      chained (moved (λ (is : List Instruction). Goes is s last) ((goal_code l ++ flat_map goal_code ls) ++ code) (goal_code l ++ (flat_map goal_code ls ++ code))
      (append_assoc (goal_code l) (flat_map goal_code ls) code))
      (chained (goal_leads l (flat_map goal_code ls ++ code) s last)
      (chained (goals_lead ls code (with_filled trees (l ∷ []) s) last)
      (moved (λ (cs : List TreeChild). Goes code (record s { children = cs }) last)
      ((s.children ++ filled_child trees l ∷ []) ++ map (filled_child trees) ls) (s.children ++ filled_child trees l ∷ map (filled_child trees) ls)
      (append_assoc s.children (filled_child trees l ∷ []) (map (filled_child trees) ls)))))

  -- nothing is left to do but what keeps the state
  pub returns : (s last : TreeState) → Goes (RETURN ∷ []) s last ↔ (last ≡ s)
  returns s last = one_leads RETURN [] s s last (λ next. (λ h. h, λ h. h))

  pub body_leads : (ls : List Literal) (s last : TreeState) → Goes (body_code ls) s last ↔ (last ≡ with_filled trees ls s)
  body_leads ls s last = chained (goals_lead ls (RETURN ∷ []) s last) (returns (with_filled trees ls s) last)

pub building_pushes : BuildingPushes
building_pushes trees bodies t code state last = building_leads trees (BodyWants trees bodies) t code state last

pub goals_append : GoalsAppend
goals_append trees bodies literal code state last = goal_leads trees (BodyWants trees bodies) literal code state last

pub bodies_append : BodiesAppend
bodies_append trees bodies literals state last = body_leads trees (BodyWants trees bodies) literals state last

module _ (trees : ℕ → Term) (bodies : ℕ → List Instruction) (c : ℕ) (literals : List Literal) (is : bodies c ≡ body_code literals) where
  abbrev Whole : List Instruction → TreeState → TreeState → Type 0
  Whole code s last = Goes trees (BodyWants trees bodies) code s last

  performs : (s next : TreeState) → BodyWants trees bodies c s next ↔ (next ≡ with_filled trees literals s)
  performs s next =
      chained (moved (λ (code : List Instruction). Leads trees NoBodyWants code s next) (bodies c) (body_code literals) is)
      (body_leads trees NoBodyWants literals s next)

  starts : (code : List Instruction) (s last : TreeState) → Whole (NEW ∷ BODY c ∷ code) s last ↔ Whole code (with_filled trees literals s) last
  starts code s last =
      chained (one_leads trees (BodyWants trees bodies) NEW (BODY c ∷ code) s s last (λ next. (λ h. h, λ h. h)))
      (one_leads trees (BodyWants trees bodies) (BODY c) code s (with_filled trees literals s) last (performs s))

  done : (s last : TreeState) → Whole (DONE ∷ []) s last ↔ (last ≡ s)
  done s last = one_leads trees (BodyWants trees bodies) DONE [] s s last (λ next. (λ h. h, λ h. h))

  pub start_leads : (s last : TreeState) → Whole (NEW ∷ BODY c ∷ DONE ∷ []) s last ↔ (last ≡ with_filled trees literals s)
  start_leads s last = chained (starts (DONE ∷ []) s last) (done (with_filled trees literals s) last)

  closes : (j : ℕ) (s last : TreeState) → Whole (NEW ∷ BODY c ∷ CLOSE j ∷ DONE ∷ []) s last
      ↔ (last ≡ record s { children = with_changed j closed_tree_child (s.children ++ map (filled_child trees) literals) })
  closes j s last =
      let filled : TreeState = with_filled trees literals s in
      let closed : TreeState = record filled { children = with_changed j closed_tree_child filled.children } in
      chained (starts (CLOSE j ∷ DONE ∷ []) s last)
      (chained (one_leads trees (BodyWants trees bodies) (CLOSE j) (DONE ∷ []) filled closed last (λ next. (λ h. h, λ h. h))) (done closed last))

pub starts_append : StartsAppend
starts_append trees bodies c literals state last is = start_leads trees bodies c literals is state last

pub extensions_pop_and_append : ExtensionsPopAndAppend
extensions_pop_and_append trees bodies c j literal literals state last is =
    let end : List Instruction = NEW ∷ BODY c ∷ CLOSE j ∷ DONE ∷ [] in
    let heads = head_leads_among trees (BodyWants trees bodies) [] (as_terms literal.args) end state last in
    let same = list_of-fill trees literal.args in (
      λ h.
          let under = heads.0 h in
          (under.0, under.1 ∙ ap (λ us. us ++ under.0) same, (closes trees bodies c literals is j (stacked state under.0) last).0 under.2),
      λ h. heads.1 (h.0, h.1 ∙ ap (λ us. us ++ h.0) (sym same), (closes trees bodies c literals is j (stacked state h.0) last).1 h.2),
    )
