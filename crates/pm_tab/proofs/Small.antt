-- The symbols of a machine's cells are those of the problem.
use Rattle.std.proofs.Common.{◌≡◌, ℕ, zero, suc, ◌<◌, ◌^◌, List, [], ◌∷◌, length, map, Option, Some, None, IsSomeAnd, slice_get, refl, sym, ◌∙◌, ap, subst, arith}
use Rattle.std.specs.Prelude.{All}
use Rattle.std.proofs.lemmas.List.Elements.{All-nil, All-cons, All-head, All-tail}
use Rattle.std.proofs.lemmas.Option.{slice_get_within}
use Rattle.pm_logic.specs.declared.symbols.Kind.{Kind}
use Rattle.pm_logic.specs.Term.{Term, var, app}
use Rattle.pm_logic.specs.Problem.{Symbol, IsValid, HasShape, IsTermOver, IsLiteralOver}
use Rattle.pm_logic.specs.Filling.{fill}
use Rattle.pm_logic.specs.Tableau.{Entry}
use Rattle.pm_store.specs.Trees.{tree}
use Rattle.pm_store.specs.Resolved.{numbered}
use Rattle.pm_calculus.specs.Connection.{Level}
use Rattle.pm_calculus.specs.Skeleton.{State, empty, rooted, built, nodes_of}
use Rattle.pm_calculus.specs.Alternatives.{state_after}
use Rattle.pm_calculus.proofs.OverSymbols.{general_over_symbols}
use Rattle.pm_contra.specs.Index.{top}
use Rattle.pm_machine.specs.State.{CellNode, MachineState, shape_of}
use Rattle.pm_machine.specs.Labels.{IsBuilt, entry_under}
use Rattle.pm_tab.specs.Numbered.{numbering, numbered_tree, numbered_tableau}
use Rattle.pm_tab.specs.Inside.Passing.{top_in, HasSmallTops, HasSmallSymbols}
use Rattle.pm_tab.proofs.Numbered.{numbered_general, preorder_is}

module _ (symbols : List Symbol) (few : length symbols < 2 ^ 32) (vars : ℕ) where
  has_shape : (f : ℕ) (kind : Kind) (arity : ℕ) → HasShape symbols f kind arity → f < length symbols
  has_shape f kind arity h = by (slice_get symbols f) refl h
    where
      by : (o : Option Symbol) → slice_get symbols f ≡ o → IsSomeAnd o (λ s. (s.kind ≡ kind) × (s.arity ≡ arity)) → f < length symbols
      by None is h = absurd h
      by (Some s) is h = slice_get_within symbols f s is

  small_top : (free : List ℕ) (t : Term) → IsTermOver symbols vars (fill (numbered free) t) → top (Some t) < 2 ^ 32
  small_top free (var n) over = omega arith
  small_top free (app f ts) over = omega (arith, few, has_shape f _ _ over.0)

  small_args : (m : MachineState) (cells : List ℕ) → All (IsTermOver symbols vars) (map (numbered_tree m) cells) → HasSmallTops m.equations cells
  small_args m cells over q = by cells q over
    where
      by : (cs : List ℕ) (i : ℕ) → All (IsTermOver symbols vars) (map (numbered_tree m) cs) → top_in m.equations cs i < 2 ^ 32
      by [] i all = omega arith
      by (c ∷ cs) zero all = small_top (numbering m.equations m.nodes) (tree m.equations c) (All-head (IsTermOver symbols vars) (numbered_tree m c) (map (numbered_tree m) cs) all)
      by (c ∷ cs) (suc i) all = by cs i (All-tail (IsTermOver symbols vars) (numbered_tree m c) (map (numbered_tree m) cs) all)

  small_nodes : (m : MachineState) (nodes : List CellNode) → All (λ (e : Entry). IsLiteralOver symbols vars e.literal) (map (entry_under (numbered_tree m)) nodes)
      → All (λ (node : CellNode). HasSmallTops m.equations node.literal.args) nodes
  small_nodes m [] all = All-nil (λ (node : CellNode). HasSmallTops m.equations node.literal.args)
  small_nodes m (n ∷ ns) all =
      All-cons (λ (node : CellNode). HasSmallTops m.equations node.literal.args) n ns
      (small_args m n.literal.args (All-head (λ (e : Entry). IsLiteralOver symbols vars e.literal) (entry_under (numbered_tree m) n) (map (entry_under (numbered_tree m)) ns) all).args)
      (small_nodes m ns (All-tail (λ (e : Entry). IsLiteralOver symbols vars e.literal) (entry_under (numbered_tree m) n) (map (entry_under (numbered_tree m)) ns) all))

-- after choices that build what the machine has built
pub small_symbols : (level : Level) (path : List ℕ) (m : MachineState) → IsValid level.problem → length level.problem.symbols < 2 ^ 32 → IsBuilt level.problem m
    → state_after level path ≡ Some (built level.problem.clauses m.steps) → HasSmallSymbols m
small_symbols level path m valid few is state = by (built level.problem.clauses m.steps) refl
  where
    none : (ns : List CellNode) → map shape_of ns ≡ [] → ns ≡ []
    none [] same = refl
    none (n ∷ ns) same = absurd cc

    by : (st : State) → built level.problem.clauses m.steps ≡ st → HasSmallSymbols m
    by empty builds =
        subst (All (λ (node : CellNode). HasSmallTops m.equations node.literal.args)) (sym (none m.nodes (is.shapes ∙ ap nodes_of builds)))
        (All-nil (λ (node : CellNode). HasSmallTops m.equations node.literal.args))
    by (rooted root below) builds =
        let over = general_over_symbols level path (numbered_tableau root m) valid
        (numbered_general level path m root below is builds (state ∙ ap Some builds)) in
        small_nodes level.problem.symbols few over.vars m m.nodes
        (subst (All (λ (e : Entry). IsLiteralOver level.problem.symbols over.vars e.literal))
        (preorder_is level path m root below is builds (state ∙ ap Some builds)) over.literals)
