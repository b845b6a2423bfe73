use Rattle.std.proofs.Common.{◌≡◌, length, sym, ◌∙◌, arith, true≢false}
use Rattle.pm_machine.proofs.TreeLemmas.{passes_one, comes_next, same_read}
use Rattle.pm_machine.proofs.tree.Tree.select.Goals.{then-nodes-test+else-not-is_open, else-nodes-test}
use Rattle.pm_machine.proofs.tree.Tree.select.Goals as goal

pub nodes-preserved : goal.nodes-preserved
nodes-preserved c =
    let long : c.len.result ≡ length c.self.inside.nodes.items = c.len.ensures ∙ c.self.inside.nodes.ok.0 in
    let test = c.nodes-test.true in
    passes_one c.args.from c.self.inside.nodes.items c.nodes.leaf c.index.result.now c.nodes.invariant (omega (arith, long, test)) c.index.ensures
    (λ is_open. true≢false (sym (c.is_open.ensures.1 is_open) ∙ c.if-not-is_open.true))

pub returns-clause-leaf : goal.returns-clause-leaf
returns-clause-leaf c =
    let long : c.len.result ≡ length c.self.inside.nodes.items = c.len.ensures ∙ c.self.inside.nodes.ok.0 in
    comes_next c.args.from c.self.inside.nodes.items c.nodes.leaf c.nodes.invariant
    (λ now within read. elim c.nodes-test.branch [
      | then-nodes-test+else-not-is_open w ↦ same_read c.self.inside.nodes.items c.nodes.leaf w.index.result.now now w.index.ensures within read (w.is_open.ensures.0 w.if-not-is_open.false)
      | else-nodes-test w ↦ let done = w.nodes-test.false in absurd (omega (arith, long, within, done))
    ])
