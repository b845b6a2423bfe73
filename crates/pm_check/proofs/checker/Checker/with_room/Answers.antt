use Rattle.std.proofs.Common.{◌∙◌, ◌↔◌, ℕ, List, eqb, length, refl, ap, subst, arith}
use Rattle.std.specs.Prelude.{IsTrue}
use Rattle.std.specs.List.{Contains}
use Rattle.std.proofs.lemmas.Bool.Decides.{Decides-eqb}
use Rattle.std.proofs.lemmas.List.Elements.{contains_decides, Decides-contains}
use Rattle.pm_logic.specs.Problem.{start_clauses}
use Rattle.pm_certread.specs.Certificate.{certificate_of}
use Rattle.pm_check.specs.Inside.Images.{none_of}
use Rattle.pm_check.proofs.LineLemmas.{checkable}
use Rattle.pm_check.proofs.PlaceLemmas.{entry_places}
use Rattle.pm_check.proofs.checker.Checker.with_room.Goals as goal

pub invariant_of-result : goal.invariant_of-result
invariant_of-result c =
    let over = c.args.problem.now in
    let certificate = certificate_of c.args.cert.now in
    let found = c.contains.result in
    let starts = start_clauses certificate.start over.clauses in
    let decides : IsTrue found ↔ Contains c.deref.result.now c.root.result =
    Decides-contains c.deref.result.now c.root.result found (contains_decides eqb Decides-eqb c.deref.result.now c.root.result found c.contains.ensures.cases) in
    record {
      checkable = checkable over certificate c.requires;
      root = subst (λ root. IsTrue found ↔ Contains starts root) c.root.ensures
          (subst (λ (xs : List ℕ). IsTrue found ↔ Contains xs c.root.result) (c.deref.ensures.value ∙ c.in_ok-starts.ensures) decides);
      places = entry_places certificate certificate.tableau.terms c.nodes.result.now c.in_ok-next_places.field-0.items
          (record { terms_are = refl; nodes_are = c.nodes.ensures.nodes; rows = c.nodes.ensures.rows }) c.in_ok-next_places.ensures;
      images_are = c.in_ok-with_room.ensures ∙ ap none_of (c.len.ensures.count ∙ ap length c.terms.ensures);
      branch = omega (arith, c.in_ok-with_capacity.ensures.exact);
    }
