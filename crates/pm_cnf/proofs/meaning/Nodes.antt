-- The nodes of literals determine them.
use Rattle.std.proofs.Common.{◌≡◌, ℕ, suc, Bool, true, false, List, [], ◌∷◌, ◌++◌, sym, ap, ap₂, ◌∙◌, refl, append_assoc}
use Rattle.std.specs.Prelude.{map}
use Rattle.std.specs.List.{flat_map}
use Rattle.pm_cnf.specs.Grammar as grammar
use Rattle.pm_cnf.specs.Grammar.{Term, application, Arguments, no_arguments, more_arguments, Atom, truth, falsity, Literal, Item}
use Rattle.pm_cnf.specs.Meaning.{literals_of, argument_count, Pairwise}
use Rattle.pm_cnf.specs.Inside.Draft.{Node, constant_node, term_nodes, arguments_nodes, atom_nodes, literal_nodes, Written, written}

count_is : (m n : ℕ) → suc m ≡ suc n → m ≡ n
count_is m n is = cc

-- the same terms at the front, and the same rest
mutual
  term_is : (t u : Term) (ms ns : List Node) → term_nodes t ++ ms ≡ term_nodes u ++ ns → (t ≡ u) × (ms ≡ ns)
  term_is (grammar.variable a) (grammar.variable b) ms ns is = (cc, cc)
  term_is (grammar.variable a) (application w args) ms ns is = absurd cc
  term_is (application w args) (grammar.variable b) ms ns is = absurd cc
  term_is (application v ts) (application w us) ms ns is =
      let word : v ≡ w = cc in
      let count : argument_count ts ≡ argument_count us = cc in
      let more = arguments_same ts us ms ns count cc in
      (ap₂ application word more.0, more.1)

  arguments_same : (ts us : Arguments) (ms ns : List Node) → argument_count ts ≡ argument_count us → arguments_nodes ts ++ ms ≡ arguments_nodes us ++ ns → (ts ≡ us) × (ms ≡ ns)
  arguments_same no_arguments no_arguments ms ns count is = (refl, is)
  arguments_same no_arguments (more_arguments u us) ms ns count is = absurd cc
  arguments_same (more_arguments t ts) no_arguments ms ns count is = absurd cc
  arguments_same (more_arguments t ts) (more_arguments u us) ms ns count is =
      let first = term_is t u (arguments_nodes ts ++ ms) (arguments_nodes us ++ ns) (sym (append_assoc (term_nodes t) (arguments_nodes ts) ms) ∙ is ∙ append_assoc (term_nodes u) (arguments_nodes us) ns) in
      let more = arguments_same ts us ms ns (count_is (argument_count ts) (argument_count us) count) first.1 in
      (ap₂ more_arguments first.0 more.0, more.1)

atom_is : (p q : Bool) (a b : Atom) (ms ns : List Node) → atom_nodes p a ++ ms ≡ atom_nodes q b ++ ns → (p ≡ q) × (a ≡ b) × (ms ≡ ns)
atom_is p q (grammar.predicate v ts) (grammar.predicate w us) ms ns is =
    let word : v ≡ w = cc in
    let count : argument_count ts ≡ argument_count us = cc in
    let rest : arguments_nodes ts ++ ms ≡ arguments_nodes us ++ ns = cc in
    let more = arguments_same ts us ms ns count rest in
    (cc, ap₂ grammar.predicate word more.0, more.1)
atom_is p q truth truth ms ns is = (cc, refl, cc)
atom_is p q falsity falsity ms ns is = (cc, refl, cc)
atom_is p q (grammar.predicate v ts) truth ms ns is = absurd cc
atom_is p q (grammar.predicate v ts) falsity ms ns is = absurd cc
atom_is p q truth (grammar.predicate w us) ms ns is = absurd cc
atom_is p q falsity (grammar.predicate w us) ms ns is = absurd cc
atom_is p q truth falsity ms ns is = absurd (different is)
  where
    different : constant_node p true ∷ ms ≡ constant_node q false ∷ ns → ⊥
    different e = let d : true ≡ false = cc in cc
atom_is p q falsity truth ms ns is = absurd (different is)
  where
    different : constant_node p false ∷ ms ≡ constant_node q true ∷ ns → ⊥
    different e = let d : true ≡ false = cc in cc

literal_is : (a b : Literal) (ms ns : List Node) → literal_nodes a ++ ms ≡ literal_nodes b ++ ns → (a ≡ b) × (ms ≡ ns)
literal_is a b ms ns is =
    let parts = atom_is a.positive b.positive a.atom b.atom ms ns is in
    (ap₂ (λ (p : Bool) (x : Atom). record { positive = p; atom = x }) parts.0 parts.1, parts.2)

some_nodes : (p : Bool) (a : Atom) (ns : List Node) → [] ≡ atom_nodes p a ++ ns → ⊥
some_nodes p (grammar.predicate w args) ns is = cc
some_nodes p truth ns is = cc
some_nodes p falsity ns is = cc

pub literals_are : (xs ys : List Literal) → flat_map literal_nodes xs ≡ flat_map literal_nodes ys → xs ≡ ys
literals_are [] [] is = refl
literals_are [] (y ∷ ys) is = absurd (some_nodes y.positive y.atom (flat_map literal_nodes ys) is)
literals_are (x ∷ xs) [] is = absurd (some_nodes x.positive x.atom (flat_map literal_nodes xs) (sym is))
literals_are (x ∷ xs) (y ∷ ys) is =
    let first = literal_is x y (flat_map literal_nodes xs) (flat_map literal_nodes ys) is in
    ap₂ (λ (z : Literal) (zs : List Literal). z ∷ zs) first.0 (literals_are xs ys first.1)

-- the items have the same name, role and literals
pub record SameItem (a b : Item) : Type 0 where
  pub name : a.name ≡ b.name
  pub role : a.role ≡ b.role
  pub literals : literals_of a.formula ≡ literals_of b.formula

item_is : (a b : Item) → written a ≡ written b → SameItem a b
item_is a b is = record {
  name = ap (λ (w : Written). w.name) is;
  role = ap (λ (w : Written). w.role) is;
  literals = literals_are (literals_of a.formula) (literals_of b.formula) (ap (λ (w : Written). w.nodes) is);
}

-- What is kept determines the items.
pub items_are : (xs ys : List Item) → map written xs ≡ map written ys → Pairwise SameItem xs ys
items_are [] [] is = tt
items_are [] (y ∷ ys) is = absurd cc
items_are (x ∷ xs) [] is = absurd cc
items_are (x ∷ xs) (y ∷ ys) is = (item_is x y cc, items_are xs ys cc)
