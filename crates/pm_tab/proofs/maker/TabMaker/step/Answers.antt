use Rattle.std.proofs.Common.{◌-◌, Some, sym, ◌∙◌, ap}
use Rattle.std.proofs.lemmas.Option.{slice_get-get_or}
use Rattle.pm_machine.specs.Value.{skeleton}
use Rattle.pm_tab.proofs.Counted.{views_none}
use Rattle.pm_tab.proofs.Finding.{reduction_found, extension_within, extension_found, start_found}
use Rattle.pm_tab.proofs.maker.TabMaker.step.Goals as goal

pub returns-then-k-leaf : goal.returns-then-k-leaf
returns-then-k-leaf c = λ level lt.
    reduction_found c.args.self.now c.args.machine.now c.in-Some.leaf c.in-Some.ensures.shown level c.args.k c.if-k-leaf.true

pub bounds-heads-k : goal.bounds-heads-k
bounds-heads-k c =
    extension_within c.args.self.now c.args.machine.now c.in-Some.leaf c.in-Some.ensures.shown c.heads.result.now c.heads.ensures.heads
    c.requires.within.0 c.args.k c.if-k-leaf.false c.requires.within.1

pub returns-in-None : goal.returns-in-None
returns-in-None c = λ level lt.
    start_found c.args.self.now (skeleton c.args.machine.now) (views_none _ c.in-None.ensures.shown) level c.args.k c.start_clause.result lt c.start_clause.ensures

pub returns-else-k-leaf : goal.returns-else-k-leaf
returns-else-k-leaf c = λ level lt.
    let place = c.args.k - (c.in-Some.leaf.depth - 1) in
    let within = extension_within c.args.self.now c.args.machine.now c.in-Some.leaf c.in-Some.ensures.shown c.heads.result.now c.heads.ensures.heads
    level c.args.k c.if-k-leaf.false lt in
    let stands = slice_get-get_or c.heads.result.now place c.index-heads-k.result within ∙ ap Some (sym c.index-heads-k.is) in
    extension_found c.args.self.now c.args.machine.now c.in-Some.leaf c.in-Some.ensures.shown c.heads.result.now c.heads.ensures.heads
    level c.args.k (record { clause = c.head.inside.clause; literal = c.head.inside.literal }) c.if-k-leaf.false (stands ∙ ap Some (sym c.head.view_is)) lt
