use Rattle.std.proofs.Common.{◌≡◌, ◌==◌, true, cond, sym, ◌∙◌, ap}
use Rattle.pm_logic.specs.Term.{tree_at}
use Rattle.pm_compile.specs.Scheme.{is_among, is_ground}
use Rattle.pm_compile.proofs.GroundLemmas.{told-added, told-passed}
use Rattle.pm_compile.proofs.source.ground_rows.Goals as goal
use Rattle.pm_compile.proofs.source.ground_rows.Goals.{then-is_ground_over+in_ok-insert, else-is_ground_over}

pub rows-preserved : goal.rows-preserved
rows-preserved c =
    let terms = c.args.terms.now in
    let row = c.rows.row in
    let answer : c.is_ground_over.result ≡ is_ground (tree_at terms row) = c.is_ground_over.ensures ∙ ap (λ n. is_ground (tree_at terms n)) c.id-id.ensures in
    elim c.if-is_ground_over.branch [
      | then-is_ground_over+in_ok-insert w ↦
          rw w.ground-is
          (told-added terms c.rows.ground.keys w.insert.new.self.keys row c.rows.invariant (sym answer ∙ w.if-is_ground_over.true)
          (λ r. w.in_ok-insert.ensures.updates.0 r ∙ ap (λ n. cond (n == r) true (is_among r c.rows.ground.keys)) c.id-id.ensures))
      | else-is_ground_over w ↦
          rw w.ground-is (told-passed terms c.rows.ground.keys row c.rows.invariant (sym answer ∙ w.if-is_ground_over.false))
    ]
