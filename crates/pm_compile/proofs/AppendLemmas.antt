-- Instructions at the end of others.
use Rattle.std.proofs.Common.{◌≡◌, ◌+◌, List, [], ◌∷◌, ◌++◌, length, map, refl, sym, ◌∙◌, ap, append_assoc}
use Rattle.std.proofs.lemmas.List.{append-nil, map-append, length-append, length-map}
use Rattle.std.proofs.lemmas.List.Elements.{All-nil, All-cons, All-append}
use Rattle.pm_logic.specs.Term.{Term}
use Rattle.pm_compile.specs.declared.instr.Instr.{Instr}
use Rattle.pm_compile.specs.Instructions.{Instruction, instruction_of, HasRowBelow}
use Rattle.pm_compile.specs.Inside.Appended.{Appends}

pub Appends-none : (terms : List Term) (instrs : List Instr) → Appends terms instrs instrs []
Appends-none terms instrs = record {
  more = [];
  grown = sym (append-nil instrs);
  says = refl;
  rows = All-nil (HasRowBelow (length terms));
}

-- one more instruction
pub Appends-push : (terms : List Term) (old new : List Instr) (instr : Instr) → new ≡ old ++ instr ∷ [] → HasRowBelow (length terms) instr
    → Appends terms old new (instruction_of terms instr ∷ [])
Appends-push terms old new instr is row = record {
  more = instr ∷ [];
  grown = is;
  says = refl;
  rows = All-cons (HasRowBelow (length terms)) instr [] row (All-nil (HasRowBelow (length terms)));
}

-- one after another
pub Appends-join : (terms : List Term) (first middle last : List Instr) (code rest : List Instruction)
    → Appends terms first middle code → Appends terms middle last rest → Appends terms first last (code ++ rest)
Appends-join terms first middle last code rest a b = record {
  more = a.more ++ b.more;
  grown = b.grown ∙ ap (λ (xs : List Instr). xs ++ b.more) a.grown ∙ append_assoc first a.more b.more;
  says =
      map-append (instruction_of terms) a.more b.more
      ∙ ap (λ (c : List Instruction). c ++ map (instruction_of terms) b.more) a.says
      ∙ ap (λ (c : List Instruction). code ++ c) b.says;
  rows = All-append (HasRowBelow (length terms)) a.more b.more a.rows b.rows;
}

pub Appends-then : (terms : List Term) (first middle last : List Instr) (code : List Instruction) (instr : Instr)
    → Appends terms first middle code → last ≡ middle ++ instr ∷ [] → HasRowBelow (length terms) instr
    → Appends terms first last (code ++ instruction_of terms instr ∷ [])
Appends-then terms first middle last code instr a is row =
    Appends-join terms first middle last code (instruction_of terms instr ∷ []) a (Appends-push terms middle last instr is row)

-- as many instructions as it says
pub length-Appends : (terms : List Term) (old new : List Instr) (code : List Instruction) → Appends terms old new code
    → length new ≡ length old + length code
length-Appends terms old new code a =
    ap length a.grown ∙ length-append old a.more
    ∙ ap (λ n. length old + n) (sym (length-map a.more (instruction_of terms)) ∙ ap length a.says)
