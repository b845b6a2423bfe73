use Rattle.std.proofs.Common.{◌≡◌, ◌+◌, ◌-◌, cond, length, refl, sym, ◌∙◌, ap, arith}
use Rattle.pm_calculus.specs.Alternatives.{heads, alternatives}
use Rattle.pm_machine.specs.Value.{skeleton}
use Rattle.pm_tab.specs.Searched.{Searched, level_of}
use Rattle.pm_tab.proofs.Counted.{few_starts, opposite_in, width_at_start}
use Rattle.pm_tab.proofs.Finding.{width_found, shallow}
use Rattle.pm_tab.proofs.maker.TabMaker.width.Goals as goal

pub overflow_cast-result : goal.overflow_cast-result
overflow_cast-result c =
    let few = few_starts (record { problem = c.self.inside.problem.now; class = c.self.inside.class; start = c.self.inside.start; kind = c.self.inside.bound }) c.self.invariant.0 in
    omega (arith, c.len.ensures, c.self.inside.starts.ok.0, ap length c.self.invariant.4, few)

pub returns-then-instances-eq0 : goal.returns-then-instances-eq0
returns-then-instances-eq0 c =
    let same = c.len.ensures ∙ c.self.inside.starts.ok.0 ∙ ap length c.self.invariant.4 in
    let searched : Searched = record { problem = c.self.inside.problem.now; class = c.self.inside.class; start = c.self.inside.start; kind = c.self.inside.bound } in
    same ∙ width_at_start searched c.args.level c.args.instances (skeleton c.args.machine.now) c.requires.instances c.if-instances-eq0.true
    ∙ ap (λ (v : Searched). length (alternatives (level_of v c.args.level) (skeleton c.args.machine.now))) c.self.view_is

pub overflow_add-result : goal.overflow_add-result
overflow_add-result c =
    let low = shallow c.args.self.now c.args.machine.now c.in-Some.leaf c.in-Some.ensures.shown c.args.instances c.args.level c.requires.instances c.requires.level
    (sym c.if-has_room.ensures) in
    omega (arith, low, c.heads.ensures.few)

pub returns-then-has_room : goal.returns-then-has_room
returns-then-has_room c =
    ap (λ b. c.in-Some.leaf.depth - 1 + cond b (length c.heads.result.now) 0) c.if-has_room.ensures
    ∙ width_found c.args.self.now c.args.machine.now c.in-Some.leaf c.in-Some.ensures.shown c.heads.result.now c.heads.ensures.heads c.args.level c.args.instances c.requires.instances

pub returns-else-has_room : goal.returns-else-has_room
returns-else-has_room c =
    let none : c.in-Some.leaf.depth - 1 ≡ c.in-Some.leaf.depth - 1 + 0 = omega arith in
    none ∙ ap (λ b. c.in-Some.leaf.depth - 1 + cond b (length (heads (opposite_in c.in-Some.leaf) c.args.self.now.problem.clauses)) 0) c.if-has_room.ensures
    ∙ width_found c.args.self.now c.args.machine.now c.in-Some.leaf c.in-Some.ensures.shown (heads (opposite_in c.in-Some.leaf) c.args.self.now.problem.clauses) refl c.args.level c.args.instances c.requires.instances
