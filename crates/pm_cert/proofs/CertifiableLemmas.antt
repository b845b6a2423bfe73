-- The tableaux of a level can be certified.
use Rattle.std.proofs.Common.{◌≡◌, ℕ, ◌+◌, ◌<◌, ◌≤◌, List, [], Option, Some, None, length, get_or, refl, sym, ◌∙◌, arith}
use Rattle.std.specs.Prelude.{slice_get}
use Rattle.std.specs.List.{All, Contains}
use Rattle.std.specs.Option.{IsSomeAnd}
use Rattle.std.proofs.lemmas.List.Elements.{All-nil, All-cons, All-append}
use Rattle.std.proofs.lemmas.Option.{slice_get_within, slice_get-get_or}
use Rattle.pm_logic.specs.declared.problem.Start.{Start}
use Rattle.pm_logic.specs.declared.tableau.BoundKind.{BoundKind}
use Rattle.pm_logic.specs.declared.tableau.BoundKind.TheVariants.{Depth, Inferences}
use Rattle.pm_logic.specs.declared.tableau.NodeKind.TheVariants.{Leaf, Inner}
use Rattle.pm_logic.specs.Problem.{Clause, is_start, start_clauses}
use Rattle.pm_logic.specs.Tableau.{Node, leaf, inner, Nodes, no_nodes, more_nodes, Entry, Tableau, depth, depth_below, depth_among, instances_below, instances_among, preorder_of, preorder_among, size}
use Rattle.pm_logic.proofs.ListLemmas.{places-sound}
use Rattle.pm_calculus.specs.Connection.{literals_on, IsFamily, HasFamilies, HaveFamilies}
use Rattle.pm_calculus.specs.Substitution.{IsInstance}
use Rattle.pm_certread.specs.Laws.{HasClauseOf}
use Rattle.pm_cert.specs.Laws.{ProofsAreCertifiable}

start_there : (start : Start) (clauses : List Clause) (root : ℕ) → Contains (start_clauses start clauses) root → root < length clauses
start_there start clauses root there =
    let starts : List ℕ = start_clauses start clauses in
    let sound = places-sound (is_start start) 0 clauses there.0 there.1 in
    let some : Some (get_or starts there.0 root) ≡ Some (get_or starts there.0 0) = sym (slice_get-get_or starts there.0 root there.1) ∙ slice_get-get_or starts there.0 0 there.1 in
    let same : get_or starts there.0 root ≡ get_or starts there.0 0 = cc in
    let within : sound.0 < length clauses = slice_get_within clauses sound.0 sound.2.item sound.2.stands in
    omega (arith, there.2, same, sound.1, within)

family_there : (clauses : List Clause) (clause : ℕ) (children : Nodes) → IsFamily clauses clause children → clause < length clauses
family_there clauses clause children h = by (slice_get clauses clause) refl h
  where
    by : (o : Option Clause) → slice_get clauses clause ≡ o → IsSomeAnd o (λ c. IsInstance c (literals_on children)) → clause < length clauses
    by None e h = absurd h
    by (Some c) e h = slice_get_within clauses clause c e

module _ (clauses : List Clause) where
  abbrev Has : Entry → Type 0
  Has e = HasClauseOf (length clauses) e.kind

  mutual
    clauses_below : (d : ℕ) (node : Node) → HasFamilies clauses node → All Has (preorder_of d node)
    clauses_below d (leaf literal) h = All-cons Has (record { depth = d; literal = literal; kind = Leaf }) [] tt (All-nil Has)
    clauses_below d (inner literal clause children) h =
        All-cons Has (record { depth = d; literal = literal; kind = Inner clause }) (preorder_among (d + 1) children)
        (family_there clauses clause children h.0) (clauses_among (d + 1) children h.1)

    clauses_among : (d : ℕ) (nodes : Nodes) → HaveFamilies clauses nodes → All Has (preorder_among d nodes)
    clauses_among d no_nodes h = All-nil Has
    clauses_among d (more_nodes node nodes) h =
        All-append Has (preorder_of d node) (preorder_among d nodes) (clauses_below d node h.0) (clauses_among d nodes h.1)

-- a tableau has at least as many instances as its depth
mutual
  low_below : (node : Node) → depth_below node ≤ instances_below node + 1
  low_below (leaf literal) = omega arith
  low_below (inner literal clause children) = omega (arith, low_among children)

  low_among : (nodes : Nodes) → depth_among nodes ≤ instances_among nodes + 1
  low_among no_nodes = omega arith
  low_among (more_nodes node nodes) = omega (arith, low_below node, low_among nodes)

low_within : (kind : BoundKind) (bound : ℕ) (tableau : Tableau) → size kind tableau ≤ bound → depth tableau ≤ bound
low_within Depth bound tableau within = within
low_within Inferences bound tableau within = omega (arith, low_among tableau.children, within)

pub certifiable : ProofsAreCertifiable
certifiable level tableau valid small member over numbered =
    let within : depth tableau ≤ level.bound = low_within level.kind level.bound tableau member.within in
    record {
      valid = valid;
      symbols = over;
      root = start_there level.start level.problem.clauses tableau.root member.start;
      clauses = clauses_among level.problem.clauses 1 tableau.children member.over.1;
      shallow = omega (arith, within, small);
      variables = numbered;
    }
