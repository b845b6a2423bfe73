-- Code in two parts, one after the other.
use Rattle.std.proofs.Common.{List, [], ◌∷◌, ◌++◌, refl, subst}
use Rattle.pm_compile.specs.Instructions.{Instruction}
use Rattle.pm_run.specs.Turns.{InTurn}
use Rattle.pm_run.specs.Meaning.{Does, RunsBody}
use Rattle.pm_run.specs.Laws.{RunsCompose}

module _ {S : Type 0} (does : Instruction → S → S → Type 0) where
  pub turns_split : (code rest : List Instruction) (first last : S) → InTurn does (code ++ rest) first last
      → (middle : S) × InTurn does code first middle × InTurn does rest middle last
  turns_split [] rest first last turns = (first, refl, turns)
  turns_split (i ∷ code) rest first last (next, one, others) =
      let parts = turns_split code rest next last others in
      (parts.0, (next, one, parts.1), parts.2)

  pub turns_join : (code rest : List Instruction) (first middle last : S) → InTurn does code first middle → InTurn does rest middle last
      → InTurn does (code ++ rest) first last
  turns_join [] rest first middle last done turns = subst (λ (s : S). InTurn does rest s last) done turns
  turns_join (i ∷ code) rest first middle last (next, one, others) turns =
      (next, one, turns_join code rest next middle last others turns)

pub runs_compose : RunsCompose
runs_compose bodies code rest m new = (
  turns_split (Does (RunsBody bodies)) code rest m new,
  λ h. turns_join (Does (RunsBody bodies)) code rest m h.0 new h.1 h.2,
)
