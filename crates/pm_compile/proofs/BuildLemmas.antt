-- How a step of building changes what is to come.
use Rattle.std.proofs.Common.{◌≡◌, ℕ, ◌+◌, ◌*◌, ◌<◌, List, [], ◌∷◌, ◌++◌, true, false, All, length, map, refl, sym, ◌∙◌, ap, subst, arith, append_assoc}
use Rattle.std.proofs.lemmas.List.{append-nil, length-append, nil_from_length}
use Rattle.std.proofs.lemmas.List.Elements.{All-nil, All-cons, All-append, All-head, All-tail}
use Rattle.pm_logic.specs.Problem.{Symbol}
use Rattle.pm_logic.specs.Term.{Term, var, app, as_terms, tree_at}
use Rattle.pm_compile.specs.declared.building.Place.{Place}
use Rattle.pm_compile.specs.declared.building.Place.TheVariants.{Build, Made}
use Rattle.pm_compile.specs.declared.instr.Instr.{Instr}
use Rattle.pm_compile.specs.declared.instr.Instr.TheVariants.{Constant, Push, Make}
use Rattle.pm_compile.specs.Instructions.{Instruction, CONST, PUSH, MAKE}
use Rattle.pm_compile.specs.Scheme.{is_ground, building_code, building_code_among}
use Rattle.pm_compile.specs.Inside.Appended.{Appends}
use Rattle.pm_compile.specs.Inside.Ground.{IsRowOver}
use Rattle.pm_compile.specs.Inside.Building.{place_code, places_code, place_work, work, builds, IsPlaceOver, BuildStep, ComesToBuilt}
use Rattle.pm_compile.proofs.AppendLemmas.{Appends-none, Appends-push, Appends-join}
use Rattle.pm_compile.proofs.SchemeLemmas.{building_code-ground, building_code-application}

-- the last place is the next
pub places_code-push : (terms : List Term) (places : List Place) (place : Place)
    → places_code terms (places ++ place ∷ []) ≡ place_code terms place ++ places_code terms places
places_code-push terms [] place = sym (append-nil (place_code terms place))
places_code-push terms (p ∷ ps) place =
    ap (λ (c : List Instruction). c ++ place_code terms p) (places_code-push terms ps place)
    ∙ append_assoc (place_code terms place) (places_code terms ps) (place_code terms p)

pub work-push : (terms : List Term) (places : List Place) (place : Place)
    → work terms (places ++ place ∷ []) ≡ place_work terms place + work terms places
work-push terms [] place = refl
work-push terms (p ∷ ps) place = omega (arith, work-push terms ps place)

-- the last row is the next after the others
pub builds-push : (rows : List ℕ) (row : ℕ) → builds (rows ++ row ∷ []) ≡ Build row ∷ builds rows
builds-push [] row = refl
builds-push (r ∷ rs) row = ap (λ (ps : List Place). ps ++ Build r ∷ []) (builds-push rs row)

-- places to build rows
pub places_code-builds : (terms : List Term) (places : List Place) (rows : List ℕ)
    → places_code terms (places ++ builds rows)
    ≡ building_code_among (as_terms (map (tree_at terms) rows)) ++ places_code terms places
places_code-builds terms places [] = ap (places_code terms) (append-nil places)
places_code-builds terms places (row ∷ rows) =
    let first : List Instruction = building_code (tree_at terms row) in
    let rest : List Instruction = building_code_among (as_terms (map (tree_at terms) rows)) in
    ap (places_code terms) (sym (append_assoc places (builds rows) (Build row ∷ [])))
    ∙ places_code-push terms (places ++ builds rows) (Build row)
    ∙ ap (λ (c : List Instruction). first ++ c) (places_code-builds terms places rows)
    ∙ sym (append_assoc first rest (places_code terms places))

pub work-builds : (terms : List Term) (places : List Place) (rows : List ℕ)
    → work terms (places ++ builds rows)
    ≡ 2 * length (building_code_among (as_terms (map (tree_at terms) rows))) + work terms places
work-builds terms places [] =
    let same : work terms (places ++ []) ≡ work terms places = ap (work terms) (append-nil places) in omega (arith, same)
work-builds terms places (row ∷ rows) =
    let first : List Instruction = building_code (tree_at terms row) in
    let rest : List Instruction = building_code_among (as_terms (map (tree_at terms) rows)) in
    ap (work terms) (sym (append_assoc places (builds rows) (Build row ∷ [])))
    ∙ work-push terms (places ++ builds rows) (Build row)
    ∙ omega (arith, work-builds terms places rows, length-append first rest)

builds-over : (symbols : List Symbol) (terms : List Term) (rows : List ℕ) → All (IsRowOver symbols terms) rows
    → All (IsPlaceOver symbols terms) (builds rows)
builds-over symbols terms [] over = All-nil (IsPlaceOver symbols terms)
builds-over symbols terms (row ∷ rows) over =
    let P : Place → Type 0 = IsPlaceOver symbols terms in
    All-append P (builds rows) (Build row ∷ []) (builds-over symbols terms rows (All-tail (IsRowOver symbols terms) row rows over))
    (All-cons P (Build row) [] (All-head (IsRowOver symbols terms) row rows over) (All-nil P))

-- a ground term is built
pub ground_built : (symbols : List Symbol) (terms : List Term) (row : ℕ) (pending : List Place) (old new : List Instr)
    → is_ground (tree_at terms row) ≡ true → row < length terms → new ≡ old ++ Constant row ∷ []
    → BuildStep symbols terms (Build row) pending old pending new
ground_built symbols terms row pending old new ground within is =
    let code : building_code (tree_at terms row) ≡ CONST (tree_at terms row) ∷ [] = building_code-ground (tree_at terms row) ground in
    record {
      some = CONST (tree_at terms row) ∷ [];
      appended = Appends-push terms old new (Constant row) is within;
      rest = ap (λ (c : List Instruction). c ++ places_code terms pending) (sym code);
      less = omega (arith, ap length code);
      places = λ h. h;
    }

-- a variable is pushed
pub variable_built : (symbols : List Symbol) (terms : List Term) (row x : ℕ) (pending : List Place) (old new : List Instr)
    → tree_at terms row ≡ var x → new ≡ old ++ Push x ∷ [] → BuildStep symbols terms (Build row) pending old pending new
variable_built symbols terms row x pending old new is pushed =
    let code : building_code (tree_at terms row) ≡ PUSH x ∷ [] = ap building_code is in
    record {
      some = PUSH x ∷ [];
      appended = Appends-push terms old new (Push x) pushed tt;
      rest = ap (λ (c : List Instruction). c ++ places_code terms pending) (sym code);
      less = omega (arith, ap length code);
      places = λ h. h;
    }

-- an application is made
pub application_made : (symbols : List Symbol) (terms : List Term) (f n : ℕ) (pending : List Place) (old new : List Instr)
    → new ≡ old ++ Make f n ∷ [] → BuildStep symbols terms (Made f n) pending old pending new
application_made symbols terms f n pending old new pushed = record {
  some = MAKE f n ∷ [];
  appended = Appends-push terms old new (Make f n) pushed tt;
  rest = refl;
  less = omega arith;
  places = λ h. h;
}

-- the arguments of an application become pending
pub application_opened : (symbols : List Symbol) (terms : List Term) (row f n : ℕ) (args : List ℕ) (pending middle after : List Place) (instrs : List Instr)
    → tree_at terms row ≡ app f (as_terms (map (tree_at terms) args)) → is_ground (tree_at terms row) ≡ false → n ≡ length args
    → middle ≡ pending ++ Made f n ∷ [] → after ≡ middle ++ builds args → All (IsRowOver symbols terms) args
    → BuildStep symbols terms (Build row) pending instrs after instrs
application_opened symbols terms row f n args pending middle after instrs is not_ground counted made opened over =
    let built : List Instruction = building_code_among (as_terms (map (tree_at terms) args)) in
    let code : building_code (tree_at terms row) ≡ built ++ MAKE f n ∷ [] = building_code-application terms row f n args is not_ground counted in
    record {
      some = [];
      appended = Appends-none terms instrs;
      rest =
          ap (places_code terms) opened
          ∙ places_code-builds terms middle args
          ∙ ap (λ (ps : List Place). built ++ places_code terms ps) made
          ∙ ap (λ (c : List Instruction). built ++ c) (places_code-push terms pending (Made f n))
          ∙ sym (append_assoc built (MAKE f n ∷ []) (places_code terms pending))
          ∙ ap (λ (c : List Instruction). c ++ places_code terms pending) (sym code);
      less =
          omega (
            arith,
            ap (work terms) opened ∙ work-builds terms middle args,
            ap (work terms) made ∙ work-push terms pending (Made f n),
            ap length code ∙ length-append built (MAKE f n ∷ []),
          );
      places = λ h.
          let P : Place → Type 0 = IsPlaceOver symbols terms in
          subst (All P) (sym opened)
          (All-append P middle (builds args)
          (subst (All P) (sym made) (All-append P pending (Made f n ∷ []) h (All-cons P (Made f n) [] tt (All-nil P))))
          (builds-over symbols terms args over));
    }

-- building begins
pub building_begins : (terms : List Term) (args : List ℕ) (pending : List Place) (instrs : List Instr)
    → pending ≡ [] ++ builds args
    → ComesToBuilt terms instrs instrs pending (building_code_among (as_terms (map (tree_at terms) args)))
building_begins terms args pending instrs opened = record {
  done = [];
  appended = Appends-none terms instrs;
  left = ap (places_code terms) opened ∙ places_code-builds terms [] args ∙ append-nil (building_code_among (as_terms (map (tree_at terms) args)));
}

pub places_begin : (symbols : List Symbol) (terms : List Term) (args : List ℕ) (pending : List Place)
    → pending ≡ [] ++ builds args → All (IsRowOver symbols terms) args → All (IsPlaceOver symbols terms) pending
places_begin symbols terms args pending opened over = subst (All (IsPlaceOver symbols terms)) (sym opened) (builds-over symbols terms args over)

-- building goes on
pub building_goes_on : (symbols : List Symbol) (terms : List Term) (first old new : List Instr) (place : Place) (all pending after : List Place)
    (whole : List Instruction) → all ≡ pending ++ place ∷ [] → BuildStep symbols terms place pending old after new
    → ComesToBuilt terms first old all whole → ComesToBuilt terms first new after whole
building_goes_on symbols terms first old new place all pending after whole popped step comes = record {
  done = comes.done ++ step.some;
  appended = Appends-join terms first old new comes.done step.some comes.appended step.appended;
  left =
      append_assoc comes.done step.some (places_code terms after)
      ∙ ap (λ (c : List Instruction). comes.done ++ c)
      (step.rest ∙ sym (ap (places_code terms) popped ∙ places_code-push terms pending place))
      ∙ comes.left;
}

pub building_less : (symbols : List Symbol) (terms : List Term) (old new : List Instr) (place : Place) (all pending after : List Place)
    → all ≡ pending ++ place ∷ [] → BuildStep symbols terms place pending old after new → work terms after < work terms all
building_less symbols terms old new place all pending after popped step =
    omega (arith, step.less, ap (work terms) popped ∙ work-push terms pending place)

-- nothing is pending
pub building_ends : (terms : List Term) (first new : List Instr) (pending : List Place) (whole : List Instruction)
    → length pending ≡ 0 → ComesToBuilt terms first new pending whole → Appends terms first new whole
building_ends terms first new pending whole none comes =
    let left : comes.done ≡ whole =
    sym (append-nil comes.done)
    ∙ ap (λ (ps : List Place). comes.done ++ places_code terms ps) (sym (nil_from_length pending none))
    ∙ comes.left in
    subst (Appends terms first new) left comes.appended

-- the next place and the others
pub All-last : {X : Type 0} (P : X → Type 0) (all xs : List X) (x : X) → all ≡ xs ++ x ∷ [] → All P all → All P xs × P x
All-last P all [] x is h = let last : All P (x ∷ []) = subst (All P) is h in (All-nil P, All-head P x [] last)
All-last P all (y ∷ ys) x is h =
    let whole : All P (y ∷ ys ++ x ∷ []) = subst (All P) is h in
    let rest = All-last P (ys ++ x ∷ []) ys x refl (All-tail P y (ys ++ x ∷ []) whole) in
    (All-cons P y ys (All-head P y (ys ++ x ∷ []) whole) rest.0, rest.1)
