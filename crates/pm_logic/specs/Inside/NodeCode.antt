-- How the nodes of a tableau are stored, as a proof may ask of a value.
use Rattle.std.specs.Prelude.{◌≡◌, ℕ, ◌⊎◌, List, [], ◌∷◌, ◌++◌, refl}
use Rattle.std.specs.Coded.{Coded, code_by, coded_list, coded×, coded⊎, coded_ℕ}
use Rattle.std.proofs.Common.{inl, inr, ◌∙◌, ap}
use Rattle.pm_logic.specs.Problem.{Literal}
use Rattle.pm_logic.specs.Inside.LiteralCode.{literal_code}
use Rattle.pm_logic.specs.Tableau.{Node, Nodes, leaf, inner, no_nodes, more_nodes}

-- A node is stored as marks, its children's before its own: a leaf, an inner node whose children
-- come before, or the end of a list of nodes.
abbrev pub Mark : Type 0
Mark = Literal ⊎ ((Literal × ℕ) ⊎ ℕ)

abbrev mutual
  pub marks : Node → List Mark
  marks (leaf l) = inl l ∷ []
  marks (inner l c ns) = marks_among ns ++ inr (inl (l, c)) ∷ []

  pub marks_among : Nodes → List Mark
  marks_among no_nodes = inr (inr 0) ∷ []
  marks_among (more_nodes n ns) = marks_among ns ++ marks n

-- the lists of nodes that stand on the stack after a mark
abbrev pub after_mark : Mark → List Nodes → List Nodes
after_mark (inl l) [] = []
after_mark (inl l) (ns ∷ more) = more_nodes (leaf l) ns ∷ more
after_mark (inr (inl p)) [] = []
after_mark (inr (inl p)) (ns ∷ []) = []
after_mark (inr (inl p)) (ns ∷ ms ∷ more) = more_nodes (inner p.0 p.1 ns) ms ∷ more
after_mark (inr (inr n)) stack = no_nodes ∷ stack

abbrev pub after_marks : List Mark → List Nodes → List Nodes
after_marks [] stack = stack
after_marks (m ∷ ms) stack = after_marks ms (after_mark m stack)

after_marks-append :
    (ms ns : List Mark) (stack : List Nodes)
    → after_marks (ms ++ ns) stack ≡ after_marks ns (after_marks ms stack)
after_marks-append [] ns stack = refl
after_marks-append (m ∷ ms) ns stack = after_marks-append ms ns (after_mark m stack)

mutual
  after_marks-marks :
      (n : Node) (ms : Nodes) (more : List Nodes)
      → after_marks (marks n) (ms ∷ more) ≡ more_nodes n ms ∷ more
  after_marks-marks (leaf l) ms more = refl
  after_marks-marks (inner l c ns) ms more =
      after_marks-append (marks_among ns) (inr (inl (l, c)) ∷ []) (ms ∷ more)
      ∙ ap (after_marks (inr (inl (l, c)) ∷ [])) (after_marks-marks_among ns (ms ∷ more))

  after_marks-marks_among :
      (ns : Nodes) (more : List Nodes) → after_marks (marks_among ns) more ≡ ns ∷ more
  after_marks-marks_among no_nodes more = refl
  after_marks-marks_among (more_nodes n ns) more =
      after_marks-append (marks_among ns) (marks n) more
      ∙ ap (after_marks (marks n)) (after_marks-marks_among ns more)
      ∙ after_marks-marks n ns more

abbrev pub first_nodes : List Nodes → Nodes
first_nodes [] = no_nodes
first_nodes (ns ∷ more) = ns

-- the nodes of these marks
abbrev pub read_nodes : List Mark → Nodes
read_nodes ms = first_nodes (after_marks ms [])

pub read_nodes-marks_among : (ns : Nodes) → read_nodes (marks_among ns) ≡ ns
read_nodes-marks_among ns = ap first_nodes (after_marks-marks_among ns [])

abbrev pub nodes_code : Coded Nodes
nodes_code =
    code_by (List Mark)
    (coded_list (coded⊎ literal_code (coded⊎ (coded× literal_code coded_ℕ) coded_ℕ)))
    marks_among read_nodes read_nodes-marks_among
