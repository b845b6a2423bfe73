-- The tableau of the tests is closed and over its symbols.
use Rattle.std.proofs.Common.{◌≡◌, inl, ℕ, Bool, true, false, List, [], ◌∷◌, refl, sym, subst, ◌∙◌, ap, arith}
use Rattle.std.specs.List.{All}
use Rattle.std.proofs.lemmas.List.Elements.{All-nil, All-cons, All-from_recursion}
use Rattle.pm_logic.specs.declared.tableau.NodeKind.{NodeKind}
use Rattle.pm_logic.specs.declared.tableau.NodeKind.TheVariants.{Leaf, Inner}
use Rattle.pm_logic.specs.Problem.{Symbol, Literal, IsTermOver, IsLiteralOver}
use Rattle.pm_logic.specs.Tableau.{Entry, Nodes, Tableau, forest_of, preorder}
use Rattle.pm_logic.specs.Term.{Term}
use Rattle.pm_logic.proofs.Tableaux.{forest_of-preorder}
use Rattle.pm_calculus.specs.Connection.{AreClosedBelow, IsClosed, IsOverSymbols}
use Rattle.pm_calculus.specs.Substitution.{AreComplementary}
use Rattle.pm_cert.specs.Inside.Example.{chain_symbols, chain_nodes, chain_node, a, f}

abbrev literal : Bool → Term → Literal
literal positive t = record { positive = positive; predicate = 0; args = t ∷ [] }

opposite : (t : Term) → AreComplementary (literal true t) (literal false t)
opposite t = record { sign = refl; predicate = refl; args = refl }

chain_closed_below : AreClosedBelow [] (forest_of chain_nodes)
chain_closed_below = (
  (
    (((2, literal false a, omega arith, refl, opposite a), tt), ((1, literal false (f a), omega arith, refl, opposite (f a)), tt)),
    ((0, literal false (f (f a)), omega arith, refl, opposite (f (f a))), tt),
  ),
  tt,
)

pub chain_closed : (tableau : Tableau) → preorder tableau ≡ chain_nodes → IsClosed tableau
chain_closed tableau are =
    subst (λ (ns : Nodes). AreClosedBelow [] ns) (sym (ap forest_of are) ∙ forest_of-preorder tableau.children) chain_closed_below

abbrev Over : Entry → Type 0
Over e = IsLiteralOver chain_symbols 0 e.literal

over_a : IsTermOver chain_symbols 0 a
over_a = ((refl, refl), tt)

over_f : (t : Term) → IsTermOver chain_symbols 0 t → IsTermOver chain_symbols 0 (f t)
over_f t h = ((refl, refl), (h, tt))

over_node : (depth : ℕ) (positive : Bool) (t : Term) (kind : NodeKind) → IsTermOver chain_symbols 0 t → Over (chain_node depth positive t kind)
over_node depth positive t kind h =
    record { predicate = inl (refl, refl); args = All-cons (IsTermOver chain_symbols 0) t [] h (All-nil (IsTermOver chain_symbols 0)) }

over_nodes : All Over chain_nodes
over_nodes =
    let fa = over_f a over_a in
    let ffa = over_f (f a) fa in
    All-from_recursion Over chain_nodes (
      over_node 1 false (f (f a)) (Inner 1) ffa,
      (
        over_node 2 false (f a) (Inner 1) fa,
        (
          over_node 3 false a (Inner 0) over_a,
          (over_node 4 true a Leaf over_a, (over_node 3 true (f a) Leaf fa, (over_node 2 true (f (f a)) Leaf ffa, tt))),
        ),
      ),
    )

pub chain_over : (symbols : List Symbol) (tableau : Tableau) → symbols ≡ chain_symbols → preorder tableau ≡ chain_nodes → IsOverSymbols symbols tableau
chain_over symbols tableau same are =
    subst (λ (ss : List Symbol). IsOverSymbols ss tableau) (sym same)
    (record { vars = 0; literals = subst (All (λ e. IsLiteralOver chain_symbols 0 e.literal)) (sym are) over_nodes })
