-- The code of the scheme is ready.
use Rattle.std.proofs.Common.{◌≡◌, ℕ, zero, suc, ◌+◌, ◌<◌, ◌≤◌, ◌||◌, Bool, true, false, inl, inr, List, [], ◌∷◌, ◌++◌, length, refl, sym, ◌∙◌, ap, subst, arith, append_assoc}
use Rattle.std.specs.Prelude.{All, if◌then◌else◌}
use Rattle.std.specs.List.{range_with_len, flat_map}
use Rattle.std.proofs.lemmas.List.{append-nil}
use Rattle.std.proofs.lemmas.List.Elements.{All-head, All-tail}
use Rattle.std.proofs.lemmas.Bool.Decides.{eqb_tells}
use Rattle.pm_logic.specs.Term.{Term, var, app, Terms, no_terms, more_terms, as_terms}
use Rattle.pm_logic.specs.Variables.{variables, variables_among}
use Rattle.pm_logic.specs.Problem.{Symbol, Literal, IsTermOver, AreTermsOver, IsLiteralOver}
use Rattle.pm_compile.specs.Instructions.{Instruction, FIRST, AGAIN, MEET, GROUND, NEW, MAKE, CONST, GOAL, BODY, RETURN, CLOSE, DONE}
use Rattle.pm_compile.specs.Scheme.{is_among, are_ground, count, head_code, head_code_among, building_code, building_code_among, goal_code, body_code, start_code, extension_code}
use Rattle.pm_logic.proofs.TableLemmas.{list_of-as_terms}
use Rattle.pm_compile.proofs.GroundLemmas.{no_variables}
use Rattle.pm_run.specs.Inside.Ready.{IsReady, NoBodyIsReady, EndsWith, BodyIsReady, EndsAnyhow}

terms_over : (symbols : List Symbol) (vars : ℕ) (ts : List Term) → All (IsTermOver symbols vars) ts → AreTermsOver symbols vars (as_terms ts)
terms_over symbols vars [] over = tt
terms_over symbols vars (t ∷ ts) over =
    (All-head (IsTermOver symbols vars) t ts over, terms_over symbols vars ts (All-tail (IsTermOver symbols vars) t ts over))

module _ (symbols : List Symbol) (vars : ℕ) (body : ℕ → List ℕ → ℕ → Type 0) (ends : List ℕ → ℕ → Type 0) where
  abbrev pub Ready : List ℕ → ℕ → List Instruction → Type 0
  Ready seen height code = IsReady vars body ends seen height code

  occurrence_ready : (b : Bool) (seen : List ℕ) (height x : ℕ) (code : List Instruction) → is_among x seen ≡ b → x < vars
      → Ready (seen ++ x ∷ []) height code → Ready seen (suc height) ((if b then AGAIN x else FIRST x) ∷ code)
  occurrence_ready true seen height x code among lt ready = (height, refl, lt, among, ready)
  occurrence_ready false seen height x code among lt ready = (height, refl, lt, among, ready)

  application_ready : (b : Bool) (seen : List ℕ) (height f : ℕ) (ts : Terms) (args_code code : List Instruction) → are_ground ts ≡ b
      → (Ready (seen ++ variables_among ts) height code → Ready seen (count ts + height) (args_code ++ code))
      → Ready (seen ++ variables_among ts) height code
      → Ready seen (suc height) ((if b then GROUND (app f ts) ∷ [] else (MEET f (count ts) ∷ args_code)) ++ code)
  application_ready true seen height f ts args_code code ground args ready = (
    height,
    refl,
    ground,
    subst (λ (s : List ℕ). Ready s height code) (ap (λ (vs : List ℕ). seen ++ vs) (no_variables (app f ts) ground) ∙ append-nil seen) ready,
  )
  application_ready false seen height f ts args_code code ground args ready = (height, refl, args ready)

  none_more : (n : ℕ) → n ≡ 0 + n
  none_more n = omega arith

  one_more : (n m : ℕ) → suc (n + m) ≡ suc n + m
  one_more n m = omega arith

  shifted : (n m : ℕ) → suc n + m ≡ n + suc m
  shifted n m = omega arith

  mutual
    pub head_ready : (t : Term) (seen : List ℕ) (height : ℕ) (code : List Instruction) → IsTermOver symbols vars t
        → Ready (seen ++ variables t) height code → Ready seen (suc height) (head_code seen t ++ code)
    head_ready (var x) seen height code over ready = occurrence_ready (is_among x seen) seen height x code refl over ready
    head_ready (app f ts) seen height code over ready =
        application_ready (are_ground ts) seen height f ts (head_code_among seen ts) code refl
        (λ r. heads_ready ts seen height code over.1 r) ready

    pub heads_ready : (ts : Terms) (seen : List ℕ) (height : ℕ) (code : List Instruction) → AreTermsOver symbols vars ts
        → Ready (seen ++ variables_among ts) height code → Ready seen (count ts + height) (head_code_among seen ts ++ code)
    heads_ready no_terms seen height code over ready =
        subst (λ (n : ℕ). Ready seen n code) (none_more height) (subst (λ (s : List ℕ). Ready s height code) (append-nil seen) ready)
    heads_ready (more_terms t ts) seen height code over ready =
        let rest : Ready (seen ++ variables t) (count ts + height) (head_code_among (seen ++ variables t) ts ++ code)
        = heads_ready ts (seen ++ variables t) height code over.1
        (subst (λ (s : List ℕ). Ready s height code) (sym (append_assoc seen (variables t) (variables_among ts))) ready) in
        subst (λ (n : ℕ). Ready seen n ((head_code seen t ++ head_code_among (seen ++ variables t) ts) ++ code)) (one_more (count ts) height)
        (subst (λ (c : List Instruction). Ready seen (suc (count ts + height)) c)
        (sym (append_assoc (head_code seen t) (head_code_among (seen ++ variables t) ts) code))
        (head_ready t seen (count ts + height) (head_code_among (seen ++ variables t) ts ++ code) over.0 rest))

  constant_ready : (b : Bool) (seen : List ℕ) (height f : ℕ) (ts : Terms) (args_code code : List Instruction) → are_ground ts ≡ b
      → ((more : List Instruction) → Ready seen (count ts + height) more → Ready seen height (args_code ++ more))
      → Ready seen (suc height) code
      → Ready seen height ((if b then CONST (app f ts) ∷ [] else (args_code ++ MAKE f (count ts) ∷ [])) ++ code)
  constant_ready true seen height f ts args_code code ground args ready = (ground, ready)
  constant_ready false seen height f ts args_code code ground args ready =
      subst (λ (c : List Instruction). Ready seen height c) (sym (append_assoc args_code (MAKE f (count ts) ∷ []) code))
      (args (MAKE f (count ts) ∷ code) (height, refl, ready))

  module _ (seen : List ℕ) (all : (x : ℕ) → x < vars → is_among x seen ≡ true) where
    mutual
      pub building_ready : (t : Term) (height : ℕ) (code : List Instruction) → IsTermOver symbols vars t
          → Ready seen (suc height) code → Ready seen height (building_code t ++ code)
      building_ready (var x) height code over ready = (over, all x over, ready)
      building_ready (app f ts) height code over ready =
          constant_ready (are_ground ts) seen height f ts (building_code_among ts) code refl
          (λ more r. buildings_ready ts height more over.1 r) ready

      pub buildings_ready : (ts : Terms) (height : ℕ) (code : List Instruction) → AreTermsOver symbols vars ts
          → Ready seen (count ts + height) code → Ready seen height (building_code_among ts ++ code)
      buildings_ready no_terms height code over ready = subst (λ (n : ℕ). Ready seen n code) (sym (none_more height)) ready
      buildings_ready (more_terms t ts) height code over ready =
          subst (λ (c : List Instruction). Ready seen height c) (sym (append_assoc (building_code t) (building_code_among ts) code))
          (building_ready t height (building_code_among ts ++ code) over.0
          (buildings_ready ts (suc height) code over.1 (subst (λ (n : ℕ). Ready seen n code) (shifted (count ts) height) ready)))

    goal_ready : (literal : Literal) (height : ℕ) (code : List Instruction) → IsLiteralOver symbols vars literal
        → Ready seen height code → Ready seen height (goal_code literal ++ code)
    goal_ready literal height code over ready =
        let goal : Instruction = GOAL literal.positive literal.predicate (length literal.args) in
        let built : List Instruction = building_code_among (as_terms literal.args) in
        subst (λ (c : List Instruction). Ready seen height c) (sym (append_assoc built (goal ∷ []) code))
        (buildings_ready (as_terms literal.args) height (goal ∷ code) (terms_over symbols vars literal.args over.args)
        (height, ap (λ n. n + height) (ap length (list_of-as_terms literal.args)), ready))

    goals_ready : (literals : List Literal) (height : ℕ) (code : List Instruction) → All (IsLiteralOver symbols vars) literals
        → Ready seen height code → Ready seen height (flat_map goal_code literals ++ code)
    goals_ready [] height code over ready = ready
    goals_ready (literal ∷ literals) height code over ready =
        subst (λ (c : List Instruction). Ready seen height c) (sym (append_assoc (goal_code literal) (flat_map goal_code literals) code))
        (goal_ready literal height (flat_map goal_code literals ++ code) (All-head (IsLiteralOver symbols vars) literal literals over)
        (goals_ready literals height code (All-tail (IsLiteralOver symbols vars) literal literals over) ready))

    pub body_ready : (literals : List Literal) (height : ℕ) → All (IsLiteralOver symbols vars) literals → ends seen height
        → Ready seen height (body_code literals)
    body_ready literals height over ended = goals_ready literals height (RETURN ∷ []) over ended

-- the variables below a number are among those
pub among_range : (x from n : ℕ) → from ≤ x → x < from + n → is_among x (range_with_len from n) ≡ true
among_range x from zero le lt = absurd (omega (arith, le, lt))
among_range x from (suc n) le lt =
    elim (eqb_tells x from) [
      | inl same ↦ ap (λ b. b || is_among x (range_with_len (from + 1) n)) same.0
      | inr other ↦
          ap (λ b. b || is_among x (range_with_len (from + 1) n)) other.0
          ∙ among_range x (from + 1) n (omega (arith, le, other.1)) (omega (arith, lt))
    ]

module _ (symbols : List Symbol) (vars count : ℕ) (bodies : ℕ → List Instruction) (c : ℕ) (literals : List Literal)
    (lt : c < count) (is_body : bodies c ≡ body_code literals) (over : All (IsLiteralOver symbols vars) literals) where
  abbrev all_seen : List ℕ
  all_seen = range_with_len 0 vars

  abbrev RunReady : List ℕ → ℕ → List Instruction → Type 0
  RunReady = IsReady vars (BodyIsReady count vars bodies) EndsAnyhow

  its_body : (height : ℕ) → BodyIsReady count vars bodies c all_seen height
  its_body height = (
    lt,
    subst (λ (code : List Instruction). IsReady vars NoBodyIsReady (EndsWith all_seen height) all_seen height code) (sym is_body)
        (body_ready symbols vars NoBodyIsReady (EndsWith all_seen height) all_seen (λ x less. among_range x 0 vars (omega arith) (omega (arith, less)))
        literals height over (refl, refl)),
  )

  pub start_ready : (height : ℕ) → RunReady [] height (start_code c)
  start_ready height = (its_body height, tt)

  pub extension_ready : (j : ℕ) (literal : Literal) → IsLiteralOver symbols vars literal → RunReady [] (length literal.args) (extension_code c j literal)
  extension_ready j literal literal_over =
      subst (λ (n : ℕ). RunReady [] n (extension_code c j literal)) (omega (arith, ap length (list_of-as_terms literal.args)))
      (heads_ready symbols vars (BodyIsReady count vars bodies) EndsAnyhow (as_terms literal.args) [] 0 (NEW ∷ BODY c ∷ CLOSE j ∷ DONE ∷ [])
      (terms_over symbols vars literal.args literal_over.args) (its_body 0, tt))
