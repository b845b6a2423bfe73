use Rattle.std.proofs.Common.{◌++◌, ◌∷◌, [], length, sym, ◌∙◌, ap, arith}
use Rattle.std.proofs.lemmas.List.{length_push}
use Rattle.pm_logic.specs.declared.terms.Entry.TheVariants.{Var}
use Rattle.pm_logic.specs.Term.{var}
use Rattle.pm_logic.specs.Table.{variable_count}
use Rattle.pm_logic.proofs.TableLemmas.{length-trees, vars-few, IsNew-var, IsTable-var, trees-var}
use Rattle.pm_logic.proofs.terms.TermTable.add_var.Goals as goal

pub overflow_add-self : goal.overflow_add-self
overflow_add-self c =
    let h = IsNew-var _ c.intern.new.rows.keys c.self.inside.vars c.in_ok-last.last c.self.invariant c.in_ok-last.ensures.ok in
    let count = ap length h.grown ∙ length_push c.self.inside.rows.keys (Var c.self.inside.vars) in
    omega (arith, vars-few c.self.inside.rows.keys c.self.inside.vars c.self.invariant, count, c.in_ok-last.ensures.few)

pub invariant_of-self-2 : goal.invariant_of-self-2
invariant_of-self-2 c =
    IsTable-var _ _ c.self.inside.vars c.in_ok-last.last c.self.invariant
    (IsNew-var _ _ c.self.inside.vars c.in_ok-last.last c.self.invariant c.in_ok-last.ensures.ok)

pub returns-clause-row : goal.returns-clause-row
returns-clause-row c =
    let h = IsNew-var _ _ c.self.inside.vars c.in_ok-last.last c.self.invariant c.in_ok-last.ensures.ok in
    h.next ∙ sym (length-trees c.self.inside.rows.keys) ∙ ap length c.self.view_is

pub returns-clause-added : goal.returns-clause-added
returns-clause-added c =
    let h = IsNew-var _ _ c.self.inside.vars c.in_ok-last.last c.self.invariant c.in_ok-last.ensures.ok in
    trees-var c.self.inside.rows.keys c.intern.new.rows.keys c.self.inside.vars c.in_ok-last.last c.self.invariant h
    ∙ ap (λ ts. ts ++ var (variable_count ts) ∷ []) c.self.view_is

pub returns-clause-count : goal.returns-clause-count
returns-clause-count c =
    let h = IsNew-var _ _ c.self.inside.vars c.in_ok-last.last c.self.invariant c.in_ok-last.ensures.ok in
    ap length
    (trees-var c.self.inside.rows.keys c.intern.new.rows.keys c.self.inside.vars c.in_ok-last.last c.self.invariant h
    ∙ ap (λ ts. ts ++ var (variable_count ts) ∷ []) c.self.view_is)
    ∙ length_push c.args.self.now (var (variable_count c.args.self.now))
