use Rattle.std.proofs.Common.{◌-◌, ◌++◌, ◌∷◌, [], List, ℕ, drop, ◌∙◌, ap, arith}
use Rattle.std.proofs.lemmas.List.{take_rest}
use Rattle.pm_store.specs.Entries.{Application}
use Rattle.pm_store.specs.Equations.{with_cell}
use Rattle.pm_run.proofs.InstructionLemmas.{make_done}
use Rattle.pm_run.proofs.instructions.make.Goals as goal

pub returns-clause-made : goal.returns-clause-made
returns-clause-made c = λ locals children branch.
    let stack = c.args.stack.now.items in
    let rest = c.len.result - c.args.n in
    make_done locals children branch c.args.store.now c.make.new.self stack c.push.new.self.items c.args.f c.args.n rest c.in_ok-made.made c.requires.height
    (omega (arith, c.len.ensures, c.args.stack.now.ok.0))
    (c.in_ok-push.ensures.items ∙ ap (λ (cs : List ℕ). cs ++ c.in_ok-made.made ∷ []) c.truncate.ensures.items)
    c.in_ok-made.ensures.place
    (c.in_ok-made.ensures.ok ∙ ap (λ (cs : List ℕ). with_cell c.args.store.now (Application c.args.f cs)) (take_rest c.deref.result.now rest)
    ∙ ap (λ (cs : List ℕ). with_cell c.args.store.now (Application c.args.f (drop rest cs))) c.deref.ensures.value)
