-- How a step of the walk over a head changes what is to come.
use Rattle.std.proofs.Common.{◌≡◌, ℕ, ◌+◌, ◌-◌, ◌<◌, ◌≤◌, List, [], ◌∷◌, ◌++◌, true, false, All, length, map, reverse, refl, sym, ◌∙◌, ap, subst, arith, append_assoc}
use Rattle.std.proofs.lemmas.List.{append-nil, reverse-append, reverse-reverse, length-append, nil_from_length}
use Rattle.std.proofs.lemmas.List.Elements.{All-nil, All-cons, All-append, All-head, All-tail}
use Rattle.pm_logic.specs.Problem.{Symbol}
use Rattle.pm_logic.specs.Term.{Term, var, app, as_terms, tree_at}
use Rattle.pm_compile.specs.declared.heads.Seen.{Seen}
use Rattle.pm_compile.specs.declared.instr.Instr.{Instr}
use Rattle.pm_compile.specs.declared.instr.Instr.TheVariants.{Ground, Meet}
use Rattle.pm_compile.specs.Instructions.{Instruction, instruction_of, HasRowBelow, GROUND, MEET}
use Rattle.pm_compile.specs.Scheme.{is_ground, occurrence}
use Rattle.pm_compile.specs.Inside.Appended.{Appends}
use Rattle.pm_compile.specs.Inside.Ground.{IsRowOver}
use Rattle.pm_compile.specs.Inside.Heads.{HasSeen, HeadStep, KeepsRows, ComesToHead, head_of}
use Rattle.pm_compile.proofs.AppendLemmas.{Appends-none, Appends-push, Appends-join, length-Appends}
use Rattle.pm_compile.proofs.SchemeLemmas.{head_of-ground, head_of-variable, head_of-application}

pub All-reverse : {X : Type 0} (P : X → Type 0) (xs : List X) → All P xs → All P (reverse xs)
All-reverse P [] h = All-nil P
All-reverse P (x ∷ xs) h =
    subst (All P) (sym (reverse-append (x ∷ []) xs))
    (All-append P (reverse xs) (x ∷ []) (All-reverse P xs (All-tail P x xs h)) (All-cons P x [] (All-head P x xs h) (All-nil P)))

-- a ground term is met
pub ground_met : (terms : List Term) (seen : Seen) (row : ℕ) (pending : List ℕ) (old new : List Instr)
    → is_ground (tree_at terms row) ≡ true → row < length terms → new ≡ old ++ Ground row ∷ []
    → HeadStep terms seen row pending old seen pending new
ground_met terms seen row pending old new ground within is = record {
  first = GROUND (tree_at terms row);
  appended = Appends-push terms old new (Ground row) is within;
  head = refl;
  count = refl;
  rest = λ before has. (before, has, head_of-ground terms before row (reverse pending) ground);
}

-- a variable occurs
pub variable_met : (terms : List Term) (seen next : Seen) (row x : ℕ) (pending : List ℕ) (old new : List Instr) (instr : Instr)
    → tree_at terms row ≡ var x → new ≡ old ++ instr ∷ [] → HasRowBelow (length terms) instr
    → next.head ≡ seen.head → length next.heads.items ≡ length seen.heads.items
    → ((before : List ℕ) → HasSeen seen before → instruction_of terms instr ≡ occurrence before x)
    → ((before : List ℕ) → HasSeen seen before → HasSeen next (before ++ x ∷ []))
    → HeadStep terms seen row pending old next pending new
variable_met terms seen next row x pending old new instr is pushed within head count says marks = record {
  first = instruction_of terms instr;
  appended = Appends-push terms old new instr pushed within;
  head = head;
  count = count;
  rest = λ before has. (
    before ++ x ∷ [],
    marks before has,
    ap (λ (i : Instruction). i ∷ head_of terms (before ++ x ∷ []) (reverse pending)) (says before has)
        ∙ head_of-variable terms before row x (reverse pending) is,
  );
}

-- an application is met, and its arguments become pending
pub application_met : (terms : List Term) (seen : Seen) (row f n : ℕ) (args pending after : List ℕ) (old new : List Instr)
    → tree_at terms row ≡ app f (as_terms (map (tree_at terms) args)) → is_ground (tree_at terms row) ≡ false → n ≡ length args
    → new ≡ old ++ Meet f n ∷ [] → after ≡ pending ++ reverse args
    → HeadStep terms seen row pending old seen after new
application_met terms seen row f n args pending after old new is not_ground counted pushed opened =
    let order : reverse after ≡ args ++ reverse pending =
    ap reverse opened ∙ reverse-append pending (reverse args) ∙ ap (λ (xs : List ℕ). xs ++ reverse pending) (reverse-reverse args) in
    record {
      first = MEET f n;
      appended = Appends-push terms old new (Meet f n) pushed tt;
      head = refl;
      count = refl;
      rest = λ before has. (
        before,
        has,
        ap (λ (xs : List ℕ). MEET f n ∷ head_of terms before xs) order
            ∙ head_of-application terms before row f n args (reverse pending) is not_ground counted,
      );
    }

pub rows_opened : (symbols : List Symbol) (terms : List Term) (args pending after : List ℕ) → after ≡ pending ++ reverse args
    → All (IsRowOver symbols terms) args → KeepsRows symbols terms pending after
rows_opened symbols terms args pending after opened over = λ kept.
    let P : ℕ → Type 0 = IsRowOver symbols terms in
    subst (All P) (sym opened) (All-append P pending (reverse args) kept (All-reverse P args over))

-- the walk begins
pub head_begins : (terms : List Term) (seen : Seen) (args pending : List ℕ) (instrs : List Instr) → HasSeen seen []
    → pending ≡ [] ++ reverse args → ComesToHead terms instrs instrs seen pending (head_of terms [] args)
head_begins terms seen args pending instrs has opened = record {
  done = [];
  appended = Appends-none terms instrs;
  before = [];
  marked = has;
  left = ap (head_of terms []) (ap reverse opened ∙ reverse-reverse args);
}

-- the walk goes on
pub head_goes_on : (terms : List Term) (first old new : List Instr) (seen next : Seen) (row : ℕ) (all pending after : List ℕ) (whole : List Instruction)
    → all ≡ pending ++ row ∷ [] → HeadStep terms seen row pending old next after new
    → ComesToHead terms first old seen all whole → ComesToHead terms first new next after whole
head_goes_on terms first old new seen next row all pending after whole popped step comes =
    let rest = step.rest comes.before comes.marked in
    record {
      done = comes.done ++ step.first ∷ [];
      appended = Appends-join terms first old new comes.done (step.first ∷ []) comes.appended step.appended;
      before = rest.0;
      marked = rest.1;
      left =
          append_assoc comes.done (step.first ∷ []) (head_of terms rest.0 (reverse after))
          ∙ ap (λ (c : List Instruction). comes.done ++ c)
          (rest.2 ∙ ap (head_of terms comes.before) (sym (ap reverse popped ∙ reverse-append pending (row ∷ []))))
          ∙ comes.left;
    }

-- nothing is pending
pub head_ends : (terms : List Term) (first new : List Instr) (seen : Seen) (pending : List ℕ) (whole : List Instruction)
    → length pending ≡ 0 → ComesToHead terms first new seen pending whole → Appends terms first new whole
head_ends terms first new seen pending whole none comes =
    let left : comes.done ≡ whole =
    sym (append-nil comes.done)
    ∙ ap (λ (rows : List ℕ). comes.done ++ head_of terms comes.before (reverse rows)) (sym (nil_from_length pending none))
    ∙ comes.left in
    subst (Appends terms first new) left comes.appended

-- what is done is a part of the whole
pub head_within : (terms : List Term) (first new : List Instr) (seen : Seen) (pending : List ℕ) (whole : List Instruction)
    → ComesToHead terms first new seen pending whole → length new ≤ length first + length whole
head_within terms first new seen pending whole comes =
    omega (
      arith,
      length-Appends terms first new comes.done comes.appended,
      sym (length-append comes.done (head_of terms comes.before (reverse pending))) ∙ ap length comes.left,
    )

-- less is to come
pub head_less : (terms : List Term) (first old new : List Instr) (seen next : Seen) (row : ℕ) (all pending after : List ℕ) (whole : List Instruction)
    → all ≡ pending ++ row ∷ [] → HeadStep terms seen row pending old next after new
    → ComesToHead terms first old seen all whole
    → (length first + length whole) - length new < (length first + length whole) - length old
head_less terms first old new seen next row all pending after whole popped step comes =
    omega (
      arith,
      length-Appends terms old new (step.first ∷ []) step.appended,
      head_within terms first new next after whole (head_goes_on terms first old new seen next row all pending after whole popped step comes),
    )
