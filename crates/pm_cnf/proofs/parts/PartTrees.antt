-- The trees of the parts of arguments.
use Rattle.std.proofs.Common.{◌≡◌, ℕ, suc, ◌≤◌, List, [], ◌∷◌, ◌++◌, length, take, drop, Some, slice_get, refl, sym, ap, ap₂, subst, ◌∙◌, append_assoc, arith}
use Rattle.std.specs.List.{flat_map}
use Rattle.std.proofs.lemmas.List.{append-nil}
use Rattle.std.proofs.lemmas.Grind.{flat_map-append}
use Rattle.std.proofs.lemmas.Option.{slice_get_within}
use Rattle.std.proofs.Math.Seq.{take-append_seam, drop-append_seam}
use Rattle.pm_logic.specs.Problem.{Symbol}
use Rattle.pm_logic.specs.Term as tree
use Rattle.pm_logic.specs.Term.{as_terms}
use Rattle.pm_cnf.specs.declared.number.Part.{Part}
use Rattle.pm_cnf.specs.declared.number.Part.TheVariants as parts
use Rattle.pm_cnf.specs.Grammar.{Word, Term, variable, application, Arguments, no_arguments, more_arguments}
use Rattle.pm_cnf.specs.Inside.Draft.{term_nodes, arguments_nodes}
use Rattle.pm_cnf.specs.Meaning.{Pairwise, argument_count, function_of, IsTreeOf, AreTreesOf, leaves_in, leaves_among, applications_in, applications_among}
use Rattle.pm_cnf.specs.Inside.Parts.{IsPartOf, trees_of, applications_of, part_leaf, AreWellFormed}

-- the second list is cut where the first is
pub record Split {A B : Type 0} (Related : A → B → Type 0) (xs more : List A) (zs : List B) : Type 0 where
  pub front : List B
  pub back : List B
  pub is : zs ≡ front ++ back
  pub first : Pairwise Related xs front
  pub second : Pairwise Related more back

pub Pairwise-split : {A B : Type 0} (Related : A → B → Type 0) (xs more : List A) (zs : List B) → Pairwise Related (xs ++ more) zs → Split Related xs more zs
Pairwise-split Related [] more zs h = record { front = []; back = zs; is = refl; first = tt; second = h }
Pairwise-split Related (x ∷ xs) more [] h = absurd h
Pairwise-split Related (x ∷ xs) more (z ∷ zs) h =
    let rest = Pairwise-split Related xs more zs h.1 in
    record { front = z ∷ rest.front; back = rest.back; is = ap (λ l. z ∷ l) rest.is; first = (h.0, rest.first); second = rest.second }

length_front : {A : Type 0} (xs more : List A) → length xs ≤ length (xs ++ more)
length_front [] more = omega arith
length_front (x ∷ xs) more = omega (arith, length_front xs more)

module _ (symbols : List Symbol) (texts : List (List ℕ)) where
  -- the parts are of one term's tree
  pub record TermTree (t : Term) (ps : List Part) : Type 0 where
    pub tree : tree.Term
    pub is : IsTreeOf symbols texts t tree
    pub stack : (more : List Part) → trees_of (ps ++ more) ≡ tree ∷ trees_of more
    pub applications : (more : List Part) → applications_of (ps ++ more) ≡ applications_of more ++ applications_in tree
    pub leaves : flat_map part_leaf ps ≡ leaves_in tree
    pub whole : (count : ℕ) → length texts ≤ count → (more : List Part) → AreWellFormed count more → AreWellFormed count (ps ++ more)

  -- the parts are of these trees
  pub record ArgumentTrees (args : Arguments) (ps : List Part) : Type 0 where
    pub trees : List tree.Term
    pub are : AreTreesOf symbols texts args (as_terms trees)
    pub count : length trees ≡ argument_count args
    pub stack : (more : List Part) → trees_of (ps ++ more) ≡ trees ++ trees_of more
    pub applications : (more : List Part) → applications_of (ps ++ more) ≡ applications_of more ++ applications_among (as_terms trees)
    pub leaves : flat_map part_leaf ps ≡ leaves_among (as_terms trees)
    pub whole : (n : ℕ) → length texts ≤ n → (more : List Part) → AreWellFormed n more → AreWellFormed n (ps ++ more)

  variable_tree : (text : List ℕ) (n : ℕ) → slice_get texts n ≡ Some text → TermTree (variable text) (parts.Variable n ∷ [])
  variable_tree text n stands = record {
    tree = tree.var n;
    is = stands;
    stack = λ more. refl;
    applications = λ more. sym (append-nil (applications_of more));
    leaves = refl;
    whole = λ count le more whole. (omega (arith, slice_get_within texts n text stands), whole);
  }

  application_tree : (w : Word) (args : Arguments) (f k : ℕ) (ps : List Part) → slice_get symbols f ≡ Some (function_of w args) → k ≡ argument_count args → ArgumentTrees args ps → TermTree (application w args) (parts.Function f k ∷ ps)
  application_tree w args f k ps stands count a =
      let size : k ≡ length a.trees = count ∙ sym a.count in
      let front : (more : List Part) → take k (trees_of (ps ++ more)) ≡ a.trees = λ more. ap₂ take size (a.stack more) ∙ take-append_seam a.trees (trees_of more) in
      record {
        tree = tree.app f (as_terms a.trees);
        is = (stands, a.are);
        stack = λ more. ap₂ (λ us vs. tree.app f (as_terms us) ∷ vs) (front more) (ap₂ drop size (a.stack more) ∙ drop-append_seam a.trees (trees_of more));
        applications = λ more. ap₂ (λ us vs. vs ++ tree.app f (as_terms us) ∷ []) (front more) (a.applications more) ∙ append_assoc (applications_of more) (applications_among (as_terms a.trees)) (tree.app f (as_terms a.trees) ∷ []);
        leaves = a.leaves;
        whole = λ n le more whole. (omega (arith, size, ap length (a.stack more), length_front a.trees (trees_of more)), a.whole n le more whole);
      }

  joined : (t : Term) (ts : Arguments) (ps qs : List Part) → TermTree t ps → ArgumentTrees ts qs → ArgumentTrees (more_arguments t ts) (ps ++ qs)
  joined t ts ps qs first rest = record {
    trees = first.tree ∷ rest.trees;
    are = (first.is, rest.are);
    count = ap suc rest.count;
    stack = λ more. ap trees_of (append_assoc ps qs more) ∙ first.stack (qs ++ more) ∙ ap (λ us. first.tree ∷ us) (rest.stack more);
    applications = λ more.
        ap applications_of (append_assoc ps qs more) ∙ first.applications (qs ++ more) ∙ ap (λ us. us ++ applications_in first.tree) (rest.applications more)
        ∙ append_assoc (applications_of more) (applications_among (as_terms rest.trees)) (applications_in first.tree);
    leaves = flat_map-append part_leaf ps qs ∙ ap₂ (λ us vs. us ++ vs) first.leaves rest.leaves;
    whole = λ n le more whole. subst (AreWellFormed n) (sym (append_assoc ps qs more)) (first.whole n le (qs ++ more) (rest.whole n le more whole));
  }

  mutual
    term_tree : (t : Term) (ps : List Part) → Pairwise (IsPartOf symbols texts) (term_nodes t) ps → TermTree t ps
    term_tree (variable text) [] h = absurd h
    term_tree (variable text) (parts.Variable n ∷ []) h = variable_tree text n h.0
    term_tree (variable text) (parts.Variable n ∷ p ∷ ps) h = absurd h.1
    term_tree (variable text) (parts.Function f k ∷ ps) h = absurd h.0
    term_tree (application w args) [] h = absurd h
    term_tree (application w args) (parts.Variable n ∷ ps) h = absurd h.0
    term_tree (application w args) (parts.Function f k ∷ ps) h = application_tree w args f k ps h.0.0 h.0.1 (argument_trees args ps h.1)

    pub argument_trees : (args : Arguments) (ps : List Part) → Pairwise (IsPartOf symbols texts) (arguments_nodes args) ps → ArgumentTrees args ps
    argument_trees no_arguments [] h = record {
      trees = [];
      are = tt;
      count = refl;
      stack = λ more. refl;
      applications = λ more. sym (append-nil (applications_of more));
      leaves = refl;
      whole = λ n le more whole. whole;
    }
    argument_trees no_arguments (p ∷ ps) h = absurd h
    argument_trees (more_arguments t ts) ps h =
        let s = Pairwise-split (IsPartOf symbols texts) (term_nodes t) (arguments_nodes ts) ps h in
        subst (ArgumentTrees (more_arguments t ts)) (sym s.is) (joined t ts s.front s.back (term_tree t s.front s.first) (argument_trees ts s.back s.second))
