-- Instructions at the end of others.
use Rattle.std.specs.Prelude.{◌≡◌, List, ◌++◌, All, length}
use Rattle.pm_logic.specs.Term.{Term}
use Rattle.pm_compile.specs.declared.instr.Instr.{Instr}
use Rattle.pm_compile.specs.Instructions.{Instruction, HasRowBelow}
use Rattle.pm_compile.specs.Code.{instructions}

-- the list has got instructions at its end that say these, with rows of the terms
pub record Appends (terms : List Term) (old new : List Instr)
    (code : List Instruction) : Type 0 where
  pub more : List Instr
  pub grown : new ≡ old ++ more
  pub says : instructions terms more ≡ code
  pub rows : All (HasRowBelow (length terms)) more
