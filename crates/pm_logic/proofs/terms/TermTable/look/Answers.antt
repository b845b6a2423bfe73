use Rattle.std.proofs.Common.{◌<◌, All, Some, length, map, slice_get, sym, ◌∙◌, ap, subst, arith}
use Rattle.pm_logic.specs.declared.terms.Entry.TheVariants.{Var, App}
use Rattle.pm_logic.specs.Term.{app, as_terms, tree_at}
use Rattle.pm_logic.proofs.TableLemmas.{length-trees, stands_in, numbered_in}
use Rattle.pm_logic.proofs.terms.TermTable.look.Goals as goal

pub index-requires : goal.index-requires
index-requires c = omega (arith, c.requires, length-trees c.self.inside.rows.keys, ap length c.self.view_is, c.id.view_is)

pub returns-in-Var : goal.returns-in-Var
returns-in-Var c =
    let here = ap (slice_get c.self.inside.rows.keys) (sym c.id.view_is) ∙ c.index.ensures ∙ ap Some c.in-Var.is in
    let h = stands_in c.self.inside.rows.keys c.args.self.now c.self.inside.vars c.args.id (Var c.in-Var.number) c.self.invariant c.self.view_is here in
    (h.tree, numbered_in c.self.inside.rows.keys c.args.self.now c.self.inside.vars c.args.id c.in-Var.number c.self.invariant c.self.view_is h.within h.tree)

pub returns-in-App : goal.returns-in-App
returns-in-App c =
    let here = ap (slice_get c.self.inside.rows.keys) (sym c.id.view_is) ∙ c.index.ensures ∙ ap Some c.in-App.is in
    let h = stands_in c.self.inside.rows.keys c.args.self.now c.self.inside.vars c.args.id (App c.in-App.symbol c.in-App.args) c.self.invariant c.self.view_is here in (
      h.tree ∙ ap (λ rows. app c.in-App.symbol (as_terms (map (tree_at c.args.self.now) rows))) (sym c.deref.ensures.value),
      subst (All (λ arg. arg < c.args.id)) (sym c.deref.ensures.value) h.below,
    )
