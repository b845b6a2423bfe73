-- What the machine is told to do.
use Rattle.std.specs.Prelude.{ℕ, ◌<◌, Bool, List}
use Rattle.pm_logic.specs.Term.{Term, tree_at}
use Rattle.pm_compile.specs.declared.instr.Instr.{Instr}
use Rattle.pm_compile.specs.declared.instr.Instr.TheVariants.{First, Again, Meet, Ground, Fresh, Push, Make, Constant, Goal, Body, EndBody, Close, Reduce, Done}

-- an instruction, with the ground term itself where it has one
pub data Instruction : Type 0 where
  FIRST : ℕ → Instruction
  AGAIN : ℕ → Instruction
  MEET : ℕ → ℕ → Instruction
  GROUND : Term → Instruction
  NEW : Instruction
  PUSH : ℕ → Instruction
  MAKE : ℕ → ℕ → Instruction
  CONST : Term → Instruction
  GOAL : Bool → ℕ → ℕ → Instruction
  BODY : ℕ → Instruction
  RETURN : Instruction
  CLOSE : ℕ → Instruction
  REDUCE : ℕ → Instruction
  DONE : Instruction

-- what an instruction of the code says, its row being one of these terms
abbrev pub instruction_of : List Term → Instr → Instruction
instruction_of terms (First x) = FIRST x
instruction_of terms (Again x) = AGAIN x
instruction_of terms (Meet f n) = MEET f n
instruction_of terms (Ground t) = GROUND (tree_at terms t)
instruction_of terms Fresh = NEW
instruction_of terms (Push x) = PUSH x
instruction_of terms (Make f n) = MAKE f n
instruction_of terms (Constant t) = CONST (tree_at terms t)
instruction_of terms (Goal positive p n) = GOAL positive p n
instruction_of terms (Body c) = BODY c
instruction_of terms EndBody = RETURN
instruction_of terms (Close j) = CLOSE j
instruction_of terms (Reduce k) = REDUCE k
instruction_of terms Done = DONE

-- the row of the instruction, if it has one, is one of so many
abbrev pub HasRowBelow : ℕ → Instr → Type 0
HasRowBelow count (Ground t) = t < count
HasRowBelow count (Constant t) = t < count
HasRowBelow count instr = Unit {0}
