-- Steps from before them.
use Rattle.std.proofs.Common.{◌≡◌, ℕ, zero, suc, ◌<◌, Bool, true, false, List, [], length, reverse, replicate, Option, Some, None, slice_get, refl, sym, ◌∙◌, ap, ap₂, subst, subst₂, arith}
use Rattle.std.specs.Prelude.{All}
use Rattle.std.specs.Option.{option_map_or}
use Rattle.std.specs.Bool.{OnTrue, OnFalse}
use Rattle.std.proofs.lemmas.List.Elements.{All-nil}
use Rattle.std.proofs.lemmas.Option.{slice_get_within, get_or_from_slice_get}
use Rattle.pm_logic.specs.Problem.{Literal, Clause, Problem, IsValid, IsLiteralOver}
use Rattle.pm_store.specs.Equations.{Equations}
use Rattle.pm_store.specs.Sound.{IsSound}
use Rattle.pm_calculus.specs.Skeleton.{literals_at}
use Rattle.pm_compile.specs.declared.instr.Instr.{Instr}
use Rattle.pm_compile.specs.Instructions.{Instruction}
use Rattle.pm_compile.specs.Scheme.{body_code, start_code, extension_code}
use Rattle.pm_compile.specs.Code.{ClauseCode, IsCodeOf, start_at, extension_at, extensions_at, instructions}
use Rattle.pm_compile.specs.Laws.{Says, FollowsScheme}
use Rattle.pm_compile.proofs.LawLemmas.{code_follows}
use Rattle.pm_compile.proofs.OverLemmas.{clause-over}
use Rattle.pm_run.specs.State.{CellLiteral, Child, RunState}
use Rattle.pm_run.specs.Failure.{RunFails}
use Rattle.pm_run.specs.Steps.{before_step}
use Rattle.pm_run.specs.Bodies.{bodies_of, variables_at}
use Rattle.pm_run.specs.InStore.{AreBelow, HasArgsBelow}
use Rattle.pm_run.specs.declared.running.Registers.{Registers}
use Rattle.pm_run.specs.Runner.{HasGroundCells, EndsIn, ComesTo, FailsFrom, CanMeet, StartComesTo, ExtensionComesTo, ExtensionFails}
use Rattle.pm_run.specs.Inside.Ready.{Fits, IsReady, BodyIsReady, EndsAnyhow}
use Rattle.pm_run.specs.Inside.Running.{state_in, IsStepReady, CanRun}
use Rattle.pm_run.proofs.ReadyLemmas.{start_ready, extension_ready}
use Rattle.pm_run.proofs.RunLemmas.{there}
use Rattle.pm_run.proofs.StepLemmas.{steps_begin_in_stores, starts_never_fail}

-- a local that isn't set
abbrev the_none : Option ℕ
the_none = None

-- no local is set before a step
none_set : (n x : ℕ) → x < n → slice_get (replicate n (the_none)) x ≡ Some the_none
none_set zero x lt = absurd (omega (arith, lt))
none_set (suc n) zero lt = refl
none_set (suc n) (suc x) lt = none_set n x (omega (arith, lt))

begun_fits : (vars : ℕ) (s : Equations) (branch : List CellLiteral) (cells : List ℕ) → Fits vars [] (length cells) (before_step vars s branch cells)
begun_fits vars s branch cells = record { locals = λ x lt. none_set vars x lt; stack = refl }

-- the registers are as they are before a step
begun : (vars : ℕ) (registers : Registers) (s : Equations) (cells : List ℕ) (branch : List CellLiteral) → registers.locals.items ≡ replicate vars the_none
    → reverse registers.stack.items ≡ cells → state_in registers s [] branch ≡ before_step vars s branch cells
begun vars registers s cells branch locals stack = ap₂ state locals stack
  where
    state : List (Option ℕ) → List ℕ → RunState
    state ls cs = record { locals = ls; equations = s; stack = cs; children = []; branch = branch; closed_by = None }

module _ (problem : Problem) (code : List ClauseCode) (is_code : IsCodeOf problem code) (valid : IsValid problem) (c : ℕ) (clause : Clause)
    (stands : slice_get problem.clauses c ≡ Some clause) where
  abbrev pub bodies : ℕ → List Instruction
  bodies = bodies_of problem.clauses

  abbrev pub vars : ℕ
  vars = variables_at problem.clauses c

  same_vars : vars ≡ clause.vars
  same_vars = ap (λ o. option_map_or (λ cl. cl.vars) o 0) stands

  same_literals : literals_at problem.clauses c ≡ clause.literals
  same_literals = ap (λ o. option_map_or (λ cl. cl.literals) o []) stands

  within : c < length problem.clauses
  within = slice_get_within problem.clauses c clause stands

  follows : FollowsScheme problem code c clause
  follows = code_follows problem code is_code c clause stands

  over : All (IsLiteralOver problem.symbols vars) clause.literals
  over =
      subst (λ (n : ℕ). All (IsLiteralOver problem.symbols n) clause.literals) (sym same_vars)
      (clause-over problem.symbols problem.clauses c clause valid.clauses stands).literals

  module _ (registers : Registers) (s : Equations) (ground : List (Option ℕ)) (cells : List ℕ) (locals : registers.locals.items ≡ replicate clause.vars the_none)
      (stack : reverse registers.stack.items ≡ cells) (sound : IsSound s) (below : AreBelow (length s.cells) cells) where
    here : (branch : List CellLiteral) → state_in registers s [] branch ≡ before_step vars s branch cells
    here branch = begun vars registers s cells branch (locals ∙ ap (λ n. replicate n the_none) (sym same_vars)) stack

    code_can_run : (instrs : List Instr) (scheme : List Instruction) → Says problem instrs scheme
        → IsReady vars (BodyIsReady (length problem.clauses) vars bodies) EndsAnyhow [] (length cells) scheme → HasGroundCells problem.terms ground s
        → CanRun problem.terms ground (IsStepReady (length problem.clauses) bodies) instrs (state_in registers s [] [])
    code_can_run instrs scheme says ready has =
        subst (λ (m : RunState). CanRun problem.terms ground (IsStepReady (length problem.clauses) bodies) instrs m) (sym (here []))
        (record {
          rows = says.rows;
          has_cells = has;
          within = steps_begin_in_stores vars s [] cells sound below (All-nil (HasArgsBelow (length s.cells)));
          ready = (
            vars,
            (
              [],
              length cells,
              begun_fits vars s [] cells,
              subst (λ (is : List Instruction). IsReady vars (BodyIsReady (length problem.clauses) vars bodies) EndsAnyhow [] (length cells) is) (sym says.says) ready,
            ),
          );
        })

    -- what was said of the code is said of the scheme
    ends_so : (instrs : List Instr) (scheme : List Instruction) (new : Equations) (children : List Child) → Says problem instrs scheme
        → ((branch : List CellLiteral) → EndsIn bodies (instructions problem.terms instrs) (state_in registers s [] branch) new children)
        → ComesTo problem.clauses scheme vars cells s new children
    ends_so instrs scheme new children says ends branch =
        subst₂ (λ (is : List Instruction) (m : RunState). EndsIn bodies is m new children) says.says (here branch) (ends branch)

    fails_so : (instrs : List Instr) (scheme : List Instruction) → Says problem instrs scheme
        → ((branch : List CellLiteral) → RunFails bodies (instructions problem.terms instrs) (state_in registers s [] branch))
        → FailsFrom problem.clauses scheme vars cells s
    fails_so instrs scheme says fails branch =
        subst₂ (λ (is : List Instruction) (m : RunState). RunFails bodies is m) says.says (here branch) (fails branch)

    -- the start with the clause, where no cells stand on the stack
    module _ (instrs : List Instr) (is : instrs ≡ start_at code c) (none : cells ≡ []) where
      start_says : Says problem instrs (start_code c)
      start_says = subst (λ (ins : List Instr). Says problem ins (start_code c)) (sym is) follows.start

      pub start_can_run : HasGroundCells problem.terms ground s
          → CanRun problem.terms ground (IsStepReady (length problem.clauses) bodies) instrs (state_in registers s [] [])
      start_can_run has =
          code_can_run instrs (start_code c) start_says
          (start_ready problem.symbols vars (length problem.clauses) bodies c clause.literals within (ap body_code same_literals) over (length cells)) has

      -- it comes to its end, since it can't fail
      pub start_ends : (answer : Bool) (new : Equations) (children : List Child)
          → OnTrue answer ((branch : List CellLiteral) → EndsIn bodies (instructions problem.terms instrs) (state_in registers s [] branch) new children)
          → OnFalse answer ((branch : List CellLiteral) → RunFails bodies (instructions problem.terms instrs) (state_in registers s [] branch))
          → StartComesTo problem.clauses c s new children
      start_ends true new children ends fails =
          subst (λ (cs : List ℕ). ComesTo problem.clauses (start_code c) vars cs s new children) none (ends_so instrs (start_code c) new children start_says ends)
      start_ends false new children ends fails =
          absurd (starts_never_fail bodies c clause.literals vars s [] (ap body_code same_literals)
          (steps_begin_in_stores vars s [] [] sound (All-nil (λ k. k < length s.cells)) (All-nil (HasArgsBelow (length s.cells))))
          (subst (λ (cs : List ℕ). FailsFrom problem.clauses (start_code c) vars cs s) none (fails_so instrs (start_code c) start_says fails) []))

    -- the extension by a literal of the clause
    module _ (j : ℕ) (meets : CanMeet problem.clauses c j cells s) where
      literal_there : (literal : Literal) × (slice_get (literals_at problem.clauses c) j ≡ Some literal)
      literal_there = there (literals_at problem.clauses c) j meets.literal

      at_place : (literal : Literal) → slice_get (literals_at problem.clauses c) j ≡ Some literal → slice_get clause.literals j ≡ Some literal
      at_place literal at = ap (λ (ls : List Literal). slice_get ls j) (sym same_literals) ∙ at

      literal_over : (literal : Literal) → slice_get clause.literals j ≡ Some literal → IsLiteralOver problem.symbols vars literal
      literal_over literal at =
          subst (IsLiteralOver problem.symbols vars) (get_or_from_slice_get clause.literals j literal literal at)
          (over j literal (slice_get_within clause.literals j literal at))

      pub extension_within : j < length (extensions_at code c)
      extension_within = omega (arith, meets.literal, follows.count, ap length same_literals)

      module _ (instrs : List Instr) (is : instrs ≡ extension_at code c j) where
        extension_says : (literal : Literal) → slice_get (literals_at problem.clauses c) j ≡ Some literal → Says problem instrs (extension_code c j literal)
        extension_says literal at =
            subst (λ (ins : List Instr). Says problem ins (extension_code c j literal)) (sym is) (follows.extension j literal (at_place literal at))

        pub extension_can_run : HasGroundCells problem.terms ground s
            → CanRun problem.terms ground (IsStepReady (length problem.clauses) bodies) instrs (state_in registers s [] [])
        extension_can_run has =
            let (literal, at) = literal_there in
            code_can_run instrs (extension_code c j literal) (extension_says literal at)
            (subst (λ (n : ℕ). IsReady vars (BodyIsReady (length problem.clauses) vars bodies) EndsAnyhow [] n (extension_code c j literal))
            (sym (meets.count literal at))
            (extension_ready problem.symbols vars (length problem.clauses) bodies c clause.literals within (ap body_code same_literals) over j literal
            (literal_over literal (at_place literal at)))) has

        pub extension_ends : (answer : Bool) (new : Equations) (children : List Child)
            → OnTrue answer ((branch : List CellLiteral) → EndsIn bodies (instructions problem.terms instrs) (state_in registers s [] branch) new children)
            → OnTrue answer (ExtensionComesTo problem.clauses c j cells s new children)
        extension_ends true new children ends = λ literal at. ends_so instrs (extension_code c j literal) new children (extension_says literal at) ends
        extension_ends false new children ends = tt

        pub extension_fails : (answer : Bool)
            → OnFalse answer ((branch : List CellLiteral) → RunFails bodies (instructions problem.terms instrs) (state_in registers s [] branch))
            → OnFalse answer (ExtensionFails problem.clauses c j cells s)
        extension_fails true fails = tt
        extension_fails false fails = λ literal at. fails_so instrs (extension_code c j literal) (extension_says literal at) fails
