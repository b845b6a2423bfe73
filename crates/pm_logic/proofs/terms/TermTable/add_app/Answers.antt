use Rattle.pm_logic.proofs.TableLemmas.{IsTable-app, Adds-app, Adds-count, Adds-within, rows_below}
use Rattle.pm_logic.proofs.terms.TermTable.add_app.Goals as goal

pub invariant_of-self-2 : goal.invariant_of-self-2
invariant_of-self-2 c =
    IsTable-app _ _ c.self.inside.vars c.in_ok-row.row c.args.symbol c.in_ok-args.args c.self.invariant
    (rows_below c.self.inside.rows.keys _ _ _ c.self.view_is c.in_ok-args.ensures.items c.requires) c.in_ok-row.ensures.ok

pub returns-clause-added : goal.returns-clause-added
returns-clause-added c =
    Adds-app c.self.inside.rows.keys _ _ c.self.inside.vars c.in_ok-row.row c.args.symbol c.in_ok-args.args _ c.self.view_is
    c.in_ok-args.ensures.items c.requires c.self.invariant c.in_ok-row.ensures.ok

pub returns-clause-within : goal.returns-clause-within
returns-clause-within c =
    Adds-within _ _ _ _
    (Adds-app c.self.inside.rows.keys _ _ c.self.inside.vars c.in_ok-row.row c.args.symbol c.in_ok-args.args _ c.self.view_is
    c.in_ok-args.ensures.items c.requires c.self.invariant c.in_ok-row.ensures.ok)

pub returns-clause-count : goal.returns-clause-count
returns-clause-count c =
    Adds-count _ _ _ _
    (Adds-app c.self.inside.rows.keys _ _ c.self.inside.vars c.in_ok-row.row c.args.symbol c.in_ok-args.args _ c.self.view_is
    c.in_ok-args.ensures.items c.requires c.self.invariant c.in_ok-row.ensures.ok)
