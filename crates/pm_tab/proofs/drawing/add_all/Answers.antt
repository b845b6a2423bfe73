use Rattle.std.proofs.Common.{rules, List, ◌≡◌, ◌++◌, ◌∷◌, [], length, map, reverse, refl, sym, ◌∙◌, ap, subst}
use Rattle.std.specs.Prelude.{All}
use Rattle.std.proofs.lemmas.List.{append-nil}
use Rattle.std.proofs.lemmas.List.Elements.{All-head}
use Rattle.pm_compile.proofs.HeadLemmas.{All-reverse}
use Rattle.pm_store.proofs.ListLemmas.{All-left, All-right}
use Rattle.pm_logic.specs.declared.tableau.Node.{Node}
use Rattle.pm_logic.specs.Tableau.{Entry, preorder}
use Rattle.pm_logic.specs.View.{HasRows, entry_of}
use Rattle.pm_tab.specs.Inside.Drawing.{AreNested}
use Rattle.pm_tab.proofs.Drawn.{reversed_twice, next_nested, next_added}
use Rattle.pm_tab.proofs.drawing.add_all.Goals as goal

pub nodes-init : goal.nodes-init
nodes-init c = (
  ap (λ (es : List Entry). es ++ map (entry_of c.args.tableau.now.terms) (reverse c.reverse.new.self.items)) c.requires.none,
  subst (All (λ (node : Node). HasRows (length c.args.tableau.now.terms) node.literal)) (sym c.reverse.ensures.items)
      (All-reverse (λ (node : Node). HasRows (length c.args.tableau.now.terms) node.literal) c.args.nodes.items c.requires.rows),
  refl,
  refl,
)

pub add-requires-clause-below_root : goal.add-requires-clause-below_root
add-requires-clause-below_root c =
    (next_nested (preorder c.nodes.tableau.tableau) (entry_of c.args.tableau.now.terms) c.reverse.new.self.items c.nodes.nodes.items c.pop.new.self.items c.in-Some.node
    c.nodes.invariant.0 c.in-Some.ensures.items
    (subst (λ ns. AreNested 1 (map (entry_of c.args.tableau.now.terms) ns)) (sym (ap reverse c.reverse.ensures.items ∙ reversed_twice c.args.nodes.items)) c.requires.nested)).0

pub add-requires-clause-shallow : goal.add-requires-clause-shallow
add-requires-clause-shallow c =
    (next_nested (preorder c.nodes.tableau.tableau) (entry_of c.args.tableau.now.terms) c.reverse.new.self.items c.nodes.nodes.items c.pop.new.self.items c.in-Some.node
    c.nodes.invariant.0 c.in-Some.ensures.items
    (subst (λ ns. AreNested 1 (map (entry_of c.args.tableau.now.terms) ns)) (sym (ap reverse c.reverse.ensures.items ∙ reversed_twice c.args.nodes.items)) c.requires.nested)).1

pub add-requires-clause-rows : goal.add-requires-clause-rows
add-requires-clause-rows c =
    let P : Node → Type 0 = λ (node : Node). HasRows (length c.args.tableau.now.terms) node.literal in
    subst (λ ts. HasRows (length ts) c.in-Some.node.literal) (sym c.nodes.invariant.2)
    (All-head P c.in-Some.node [] (All-right P c.pop.new.self.items (c.in-Some.node ∷ []) (subst (All P) c.in-Some.ensures.items c.nodes.invariant.1)))

pub nodes-preserved : goal.nodes-preserved
nodes-preserved c =
    let P : Node → Type 0 = λ (node : Node). HasRows (length c.args.tableau.now.terms) node.literal in (
      next_added (preorder c.nodes.tableau.tableau) (entry_of c.args.tableau.now.terms) c.reverse.new.self.items c.nodes.nodes.items c.pop.new.self.items c.in-Some.node
          c.nodes.invariant.0 c.in-Some.ensures.items (preorder c.add.new.self.tableau)
          (c.in_ok-add.ensures.nodes ∙ ap (λ ts. preorder c.nodes.tableau.tableau ++ entry_of ts c.in-Some.node ∷ []) c.nodes.invariant.2),
      All-left P c.pop.new.self.items (c.in-Some.node ∷ []) (subst (All P) c.in-Some.ensures.items c.nodes.invariant.1),
      c.in_ok-add.ensures.terms ∙ c.nodes.invariant.2,
      c.in_ok-add.ensures.root ∙ c.nodes.invariant.3,
    )

pub returns-clause-nodes : goal.returns-clause-nodes
returns-clause-nodes c =
    let none : c.nodes.nodes.items ≡ [] = search rules in
    sym (append-nil (preorder c.nodes.tableau.tableau)) ∙ ap (λ ns. preorder c.nodes.tableau.tableau ++ map (entry_of c.args.tableau.now.terms) (reverse ns)) (sym none)
    ∙ c.nodes.invariant.0 ∙ ap (map (entry_of c.args.tableau.now.terms)) (ap reverse c.reverse.ensures.items ∙ reversed_twice c.args.nodes.items)
