use Rattle.std.proofs.Common.{◌≡◌, ◌∙◌, ◌∷◌, [], ap, codes, length, sym, rules}
use Rattle.std.proofs.lemmas.List.{length-map}
use Rattle.pm_logic.specs.Tableau.{depth, preorder}
use Rattle.pm_report.proofs.SummaryLemmas.{fields_join}
use Rattle.pm_report.proofs.sample_text.push_proof.Goals as goal

pub returns : goal.returns
returns c =
    let found = c.in_ok-terms.ensures in
    let tableau = c.args.tableau.now.tableau in
    let deep : c.from.result ≡ depth tableau = search rules in
    let nodes : length c.nodes.result.now ≡ length (preorder tableau) = sym (length-map c.nodes.result.now _) ∙ ap length c.nodes.ensures.nodes in (
      found.0,
      found.1,
      c.in_ok-push.ensures.items ∙ fields_join c.args.text.now.items c.push_field.new.text.items c.push_field-2.new.text.items c.push_field-3.new.text.items
          c.push_field-4.new.text.items (codes "proof depth ") (codes " nodes ") (codes " terms ") (codes " attempts ") (10 ∷ []) _ (depth tableau) _
          (length (preorder tableau)) _ (length found.0) c.args.attempts deep nodes found.2 c.in_ok-push_field.ensures c.in_ok-push_field-2.ensures
          c.in_ok-push_field-3.ensures c.in_ok-push_field-4.ensures,
    )
