-- The tableaux of the tests are closed, connected and over their problems' clauses.
use Rattle.std.proofs.Common.{◌≡◌, ℕ, zero, suc, ◌+◌, ◌≤◌, inl, inr, Bool, true, false, List, [], ◌∷◌, ◌++◌, map, refl, sym, ◌∙◌, ap, ap₂, subst, arith, append_assoc, lit<, lit≤}
use Rattle.std.proofs.lemmas.List.{append-nil}
use Rattle.std.proofs.lemmas.List.Quantifiers.{Any-push}
use Rattle.std.specs.Prelude.{Contains}
use Rattle.pm_logic.specs.declared.problem.Start.TheVariants.{Negative}
use Rattle.pm_logic.specs.declared.tableau.NodeKind.{NodeKind}
use Rattle.pm_logic.specs.declared.tableau.NodeKind.TheVariants.{Leaf, Inner}
use Rattle.pm_logic.specs.Problem.{Literal, Clause, Problem, start_clauses}
use Rattle.pm_logic.specs.Tableau.{Node, leaf, inner, no_nodes, more_nodes, Tableau, depth_below, depth, preorder_of, preorder, forest_of}
use Rattle.pm_logic.proofs.Tableaux.{determined}
use Rattle.pm_calculus.specs.Connection.{literal_on, HasFamilies, IsOver, IsClosedBelow, IsClosed, IsConnectedBelow, IsConnected}
use Rattle.pm_calculus.specs.Substitution.{AreComplementary}
use Rattle.pm_calculus.specs.Examples.{problem_of}
use Rattle.pm_lift.specs.Lift.{IsProof}
use Rattle.pm_lift.specs.Inside.Example.{x, a, f, example_terms, described, described_clause, described_entry, chain}

-- a tableau by its nodes, over clauses by their literals
abbrev tableau_of : ℕ → List (ℕ × (Bool × ℕ × ℕ) × NodeKind) → Tableau
tableau_of root nodes = record { root = root; children = forest_of (map (described_entry example_terms) nodes) }

abbrev clauses_of : List (List (Bool × ℕ × ℕ)) → List Clause
clauses_of lists = map (described_clause example_terms) lists

abbrev lit : Bool → ℕ → ℕ → Literal
lit positive predicate row = described example_terms (positive, predicate, row)

-- what holds of one problem and tableau holds of those with the same clauses and the same tree
moved : (p q : Problem) (t u : Tableau) → p.clauses ≡ q.clauses → t ≡ u → IsProof q Negative u → IsProof p Negative t
moved p q t u clauses same h = record {
  start = subst (λ (cs : List Clause). Contains (start_clauses Negative cs) t.root) (sym clauses)
      (subst (λ (v : Tableau). Contains (start_clauses Negative q.clauses) v.root) (sym same) h.start);
  over = subst (λ (cs : List Clause). IsOver cs t) (sym clauses) (subst (IsOver q.clauses) (sym same) h.over);
  closed = subst IsClosed (sym same) h.closed;
  connected = subst IsConnected (sym same) h.connected;
}

-- one branch, with terms
abbrev pub branch_lists : List (List (Bool × ℕ × ℕ))
branch_lists = ((true, 0, 1) ∷ []) ∷ ((false, 0, 0) ∷ (true, 0, 2) ∷ []) ∷ ((false, 0, 4) ∷ []) ∷ []

abbrev pub branch_nodes : List (ℕ × (Bool × ℕ × ℕ) × NodeKind)
branch_nodes =
    (1, (false, 0, 4), Inner 1)
    ∷ (2, (false, 0, 3), Inner 1)
    ∷ (3, (false, 0, 1), Inner 0)
    ∷ (4, (true, 0, 1), Leaf)
    ∷ (3, (true, 0, 3), Leaf)
    ∷ (2, (true, 0, 4), Leaf)
    ∷ []

branch_whole : IsProof (problem_of (clauses_of branch_lists)) Negative (tableau_of 2 branch_nodes)
branch_whole = record {
  start = (0, lit< tt, refl);
  over = (record { terms = a ∷ a ∷ []; count = refl; each = refl }, ((record { terms = (f a) ∷ a ∷ []; count = refl; each = refl }, ((record { terms = a ∷ a ∷ []; count = refl; each = refl }, ((record { terms = a ∷ a ∷ []; count = refl; each = refl }, (tt, tt)), (tt, tt))), (tt, tt))), tt));
  closed = (((((2, lit false 0 1, lit< tt, refl, record { sign = refl; predicate = refl; args = refl }), tt), ((1, lit false 0 3, lit< tt, refl, record { sign = refl; predicate = refl; args = refl }), tt)), ((0, lit false 0 4, lit< tt, refl, record { sign = refl; predicate = refl; args = refl }), tt)), tt);
  connected = ((inl record { sign = refl; predicate = refl; args = refl }, ((inl record { sign = refl; predicate = refl; args = refl }, ((inl record { sign = refl; predicate = refl; args = refl }, (tt, tt)), (tt, tt))), (tt, tt))), tt);
}

pub branch_proof : (p : Problem) (t : Tableau) → p.clauses ≡ clauses_of branch_lists → t.root ≡ 2 → preorder t ≡ map (described_entry example_terms) branch_nodes → IsProof p Negative t
branch_proof p t clauses root nodes =
    moved p (problem_of (clauses_of branch_lists)) t (tableau_of 2 branch_nodes) clauses (determined t (tableau_of 2 branch_nodes) root nodes) branch_whole

pub branch_depth : (t : Tableau) → t.root ≡ 2 → preorder t ≡ map (described_entry example_terms) branch_nodes → depth t ≤ 250
branch_depth t root nodes = subst (λ (v : Tableau). depth v ≤ 250) (sym (determined t (tableau_of 2 branch_nodes) root nodes)) (lit≤ tt)

-- four clauses of two propositions
abbrev pub propositional_lists : List (List (Bool × ℕ × ℕ))
propositional_lists = ((true, 1, 0) ∷ (true, 2, 0) ∷ []) ∷ ((true, 1, 0) ∷ (false, 2, 0) ∷ []) ∷ ((false, 1, 0) ∷ (true, 2, 0) ∷ []) ∷ ((false, 1, 0) ∷ (false, 2, 0) ∷ []) ∷ []

abbrev pub propositional_nodes : List (ℕ × (Bool × ℕ × ℕ) × NodeKind)
propositional_nodes =
    (1, (false, 1, 0), Inner 0)
    ∷ (2, (true, 1, 0), Leaf)
    ∷ (2, (true, 2, 0), Inner 1)
    ∷ (3, (true, 1, 0), Leaf)
    ∷ (3, (false, 2, 0), Leaf)
    ∷ (1, (false, 2, 0), Inner 0)
    ∷ (2, (true, 1, 0), Inner 2)
    ∷ (3, (false, 1, 0), Leaf)
    ∷ (3, (true, 2, 0), Leaf)
    ∷ (2, (true, 2, 0), Leaf)
    ∷ []

propositional_whole : IsProof (problem_of (clauses_of propositional_lists)) Negative (tableau_of 3 propositional_nodes)
propositional_whole = record {
  start = (0, lit< tt, refl);
  over = (record { terms = a ∷ a ∷ []; count = refl; each = refl }, ((record { terms = a ∷ a ∷ []; count = refl; each = refl }, (tt, ((record { terms = a ∷ a ∷ []; count = refl; each = refl }, (tt, (tt, tt))), tt))), ((record { terms = a ∷ a ∷ []; count = refl; each = refl }, ((record { terms = a ∷ a ∷ []; count = refl; each = refl }, (tt, (tt, tt))), (tt, tt))), tt)));
  closed = (((0, lit false 1 0, lit< tt, refl, record { sign = refl; predicate = refl; args = refl }), (((0, lit false 1 0, lit< tt, refl, record { sign = refl; predicate = refl; args = refl }), ((1, lit true 2 0, lit< tt, refl, record { sign = refl; predicate = refl; args = refl }), tt)), tt)), ((((1, lit true 1 0, lit< tt, refl, record { sign = refl; predicate = refl; args = refl }), ((0, lit false 2 0, lit< tt, refl, record { sign = refl; predicate = refl; args = refl }), tt)), ((0, lit false 2 0, lit< tt, refl, record { sign = refl; predicate = refl; args = refl }), tt)), tt));
  connected = ((inl record { sign = refl; predicate = refl; args = refl }, (tt, ((inr (inl record { sign = refl; predicate = refl; args = refl }), (tt, (tt, tt))), tt))), ((inl record { sign = refl; predicate = refl; args = refl }, ((inl record { sign = refl; predicate = refl; args = refl }, (tt, (tt, tt))), (tt, tt))), tt));
}

pub propositional_proof : (p : Problem) (t : Tableau) → p.clauses ≡ clauses_of propositional_lists → t.root ≡ 3 → preorder t ≡ map (described_entry example_terms) propositional_nodes → IsProof p Negative t
propositional_proof p t clauses root nodes =
    moved p (problem_of (clauses_of propositional_lists)) t (tableau_of 3 propositional_nodes) clauses (determined t (tableau_of 3 propositional_nodes) root nodes) propositional_whole

pub propositional_depth : (t : Tableau) → t.root ≡ 3 → preorder t ≡ map (described_entry example_terms) propositional_nodes → depth t ≤ 250
propositional_depth t root nodes = subst (λ (v : Tableau). depth v ≤ 250) (sym (determined t (tableau_of 3 propositional_nodes) root nodes)) (lit≤ tt)

-- a tableau with a variable
abbrev pub variable_lists : List (List (Bool × ℕ × ℕ))
variable_lists = ((true, 0, 0) ∷ (false, 0, 5) ∷ []) ∷ ((true, 0, 1) ∷ []) ∷ ((false, 0, 0) ∷ (false, 1, 0) ∷ []) ∷ ((true, 1, 0) ∷ (false, 2, 0) ∷ []) ∷ ((true, 2, 0) ∷ []) ∷ []

abbrev pub variable_nodes : List (ℕ × (Bool × ℕ × ℕ) × NodeKind)
variable_nodes =
    (1, (false, 0, 0), Inner 0)
    ∷ (2, (true, 0, 0), Leaf)
    ∷ (2, (false, 0, 1), Inner 1)
    ∷ (3, (true, 0, 1), Leaf)
    ∷ (1, (false, 1, 0), Inner 3)
    ∷ (2, (true, 1, 0), Leaf)
    ∷ (2, (false, 2, 0), Inner 4)
    ∷ (3, (true, 2, 0), Leaf)
    ∷ []

variable_whole : IsProof (problem_of (clauses_of variable_lists)) Negative (tableau_of 2 variable_nodes)
variable_whole = record {
  start = (0, lit< tt, refl);
  over = (record { terms = x ∷ a ∷ []; count = refl; each = refl }, ((record { terms = x ∷ a ∷ []; count = refl; each = refl }, (tt, ((record { terms = a ∷ a ∷ []; count = refl; each = refl }, (tt, tt)), tt))), ((record { terms = a ∷ a ∷ []; count = refl; each = refl }, (tt, ((record { terms = a ∷ a ∷ []; count = refl; each = refl }, (tt, tt)), tt))), tt)));
  closed = (((0, lit false 0 0, lit< tt, refl, record { sign = refl; predicate = refl; args = refl }), (((1, lit false 0 1, lit< tt, refl, record { sign = refl; predicate = refl; args = refl }), tt), tt)), (((0, lit false 1 0, lit< tt, refl, record { sign = refl; predicate = refl; args = refl }), (((1, lit false 2 0, lit< tt, refl, record { sign = refl; predicate = refl; args = refl }), tt), tt)), tt));
  connected = ((inl record { sign = refl; predicate = refl; args = refl }, (tt, ((inl record { sign = refl; predicate = refl; args = refl }, (tt, tt)), tt))), ((inl record { sign = refl; predicate = refl; args = refl }, (tt, ((inl record { sign = refl; predicate = refl; args = refl }, (tt, tt)), tt))), tt));
}

pub variable_proof : (p : Problem) (t : Tableau) → p.clauses ≡ clauses_of variable_lists → t.root ≡ 2 → preorder t ≡ map (described_entry example_terms) variable_nodes → IsProof p Negative t
variable_proof p t clauses root nodes =
    moved p (problem_of (clauses_of variable_lists)) t (tableau_of 2 variable_nodes) clauses (determined t (tableau_of 2 variable_nodes) root nodes) variable_whole

pub variable_depth : (t : Tableau) → t.root ≡ 2 → preorder t ≡ map (described_entry example_terms) variable_nodes → depth t ≤ 250
variable_depth t root nodes = subst (λ (v : Tableau). depth v ≤ 250) (sym (determined t (tableau_of 2 variable_nodes) root nodes)) (lit≤ tt)

-- a branch as deep as may be
abbrev chain_lists : List (List (Bool × ℕ × ℕ))
chain_lists = ((false, 1, 0) ∷ []) ∷ ((true, 1, 0) ∷ (false, 1, 0) ∷ []) ∷ ((true, 1, 0) ∷ []) ∷ []

abbrev chain_tree : ℕ → Node
chain_tree zero = inner (lit false 1 0) 2 (more_nodes (leaf (lit true 1 0)) no_nodes)
chain_tree (suc n) = inner (lit false 1 0) 1 (more_nodes (leaf (lit true 1 0)) (more_nodes (chain_tree n) no_nodes))

chain_preorder : (n d : ℕ) → preorder_of d (chain_tree n) ≡ map (described_entry example_terms) (chain n d)
unfolding chain
chain_preorder zero d = refl
chain_preorder (suc n) d =
    let E = described_entry example_terms in
    ap (λ es. E (d, (false, 1, 0), Inner 1) ∷ E (d + 1, (true, 1, 0), Leaf) ∷ es) (append-nil (preorder_of (d + 1) (chain_tree n)) ∙ chain_preorder n (d + 1))

chain_literal : (n : ℕ) → literal_on (chain_tree n) ≡ lit false 1 0
chain_literal zero = refl
chain_literal (suc n) = refl

chain_families : (n : ℕ) → HasFamilies (clauses_of chain_lists) (chain_tree n)
chain_families zero = (record { terms = a ∷ a ∷ []; count = refl; each = refl }, (tt, tt))
chain_families (suc n) = (
  record { terms = a ∷ a ∷ []; count = refl; each = ap (λ l. lit true 1 0 ∷ l ∷ []) (chain_literal n) },
  (tt, (chain_families n, tt)),
)

facing : AreComplementary (lit true 1 0) (lit false 1 0)
facing = record { sign = refl; predicate = refl; args = refl }

chain_closed : (n : ℕ) (above : List Literal) → IsClosedBelow above (chain_tree n)
chain_closed zero above = (Any-push (AreComplementary (lit true 1 0)) above (lit false 1 0) facing, tt)
chain_closed (suc n) above = (Any-push (AreComplementary (lit true 1 0)) above (lit false 1 0) facing, (chain_closed n (above ++ lit false 1 0 ∷ []), tt))

chain_connected : (n : ℕ) → IsConnectedBelow (chain_tree n)
chain_connected zero = (inl facing, (tt, tt))
chain_connected (suc n) = (inl facing, (tt, (chain_connected n, tt)))

chain_depth_below : (n : ℕ) → depth_below (chain_tree n) ≡ n + 2
chain_depth_below zero = refl
chain_depth_below (suc n) = omega (arith, chain_depth_below n)

abbrev chain_tableau : ℕ → Tableau
chain_tableau n = record { root = 0; children = more_nodes (chain_tree n) no_nodes }

chain_whole : (n : ℕ) → IsProof (problem_of (clauses_of chain_lists)) Negative (chain_tableau n)
chain_whole n = record {
  start = (0, lit< tt, refl);
  over = (record { terms = a ∷ a ∷ []; count = refl; each = ap (λ l. l ∷ []) (chain_literal n) }, (chain_families n, tt));
  closed = (chain_closed n [], tt);
  connected = (chain_connected n, tt);
}

chain_same : (n : ℕ) (t : Tableau) → t.root ≡ 0 → preorder t ≡ map (described_entry example_terms) (chain n 1) → t ≡ chain_tableau n
chain_same n t root nodes = determined t (chain_tableau n) root (nodes ∙ sym (append-nil (preorder_of 1 (chain_tree n)) ∙ chain_preorder n 1))

pub chain_proof : (p : Problem) (t : Tableau) (n : ℕ) → p.clauses ≡ clauses_of chain_lists → t.root ≡ 0 → preorder t ≡ map (described_entry example_terms) (chain n 1) → IsProof p Negative t
chain_proof p t n clauses root nodes = moved p (problem_of (clauses_of chain_lists)) t (chain_tableau n) clauses (chain_same n t root nodes) (chain_whole n)

pub chain_depth : (t : Tableau) (n : ℕ) → n ≤ 248 → t.root ≡ 0 → preorder t ≡ map (described_entry example_terms) (chain n 1) → depth t ≤ 250
chain_depth t n le root nodes =
    subst (λ (v : Tableau). depth v ≤ 250) (sym (chain_same n t root nodes)) (omega (arith, le, chain_depth_below n))

-- one more node of the branch
pub chain_more : (done next now whole : List (ℕ × (Bool × ℕ × ℕ) × NodeKind)) (n m d : ℕ) → n ≡ suc m → next ≡ done ++ (d, (false, 1, 0), Inner 1) ∷ []
    → now ≡ next ++ (d + 1, (true, 1, 0), Leaf) ∷ [] → done ++ chain n d ≡ whole → now ++ chain m (d + 1) ≡ whole
unfolding chain
chain_more done next now whole n m d is first second before =
    ap (λ ns. ns ++ chain m (d + 1)) (second ∙ ap (λ ns. ns ++ (d + 1, (true, 1, 0), Leaf) ∷ []) first)
    ∙ append_assoc (done ++ (d, (false, 1, 0), Inner 1) ∷ []) ((d + 1, (true, 1, 0), Leaf) ∷ []) (chain m (d + 1))
    ∙ append_assoc done ((d, (false, 1, 0), Inner 1) ∷ []) ((d + 1, (true, 1, 0), Leaf) ∷ chain m (d + 1))
    ∙ sym (ap (λ k. done ++ chain k d) is)
    ∙ before

pub chain_end : (done next now whole : List (ℕ × (Bool × ℕ × ℕ) × NodeKind)) (n d last : ℕ) → n ≡ 0 → d ≡ last → next ≡ done ++ (last, (false, 1, 0), Inner 2) ∷ []
    → now ≡ next ++ (last + 1, (true, 1, 0), Leaf) ∷ [] → done ++ chain n d ≡ whole → now ≡ whole
unfolding chain
chain_end done next now whole n d last none here first second before =
    second ∙ ap (λ ns. ns ++ (last + 1, (true, 1, 0), Leaf) ∷ []) first
    ∙ append_assoc done ((last, (false, 1, 0), Inner 2) ∷ []) ((last + 1, (true, 1, 0), Leaf) ∷ [])
    ∙ sym (ap₂ (λ k e. done ++ chain k e) none here)
    ∙ before
