-- A closed tableau has a false family under every truth assignment.
use Rattle.std.proofs.Common.{◌≡◌, ℕ, zero, suc, ◌<◌, ◌⊎◌, inl, inr, Bool, true, false, not, List, [], ◌∷◌, ◌++◌, length, get_or, Option, Some, None, IsSomeAnd, All, Any, Contains, MatchBool, slice_get, refl, ap, ap₂, subst, arith}
use Rattle.std.proofs.lemmas.Bool.{cases_eq}
use Rattle.std.proofs.lemmas.List.Elements.{All-nil, All-cons, All-push, Contains-append_left, Contains-append_right, Contains-append_cases}
use Rattle.pm_logic.specs.Term.{Term, var, app, Terms, no_terms, more_terms}
use Rattle.pm_logic.specs.Problem.{Literal, Clause}
use Rattle.pm_logic.specs.Tableau.{Node, leaf, inner, Nodes, no_nodes, more_nodes, Tableau}
use Rattle.pm_calculus.specs.Substitution.{IsInstance, AreComplementary}
use Rattle.pm_calculus.specs.Connection.{literal_on, literals_on, IsFamily, HasFamilies, HaveFamilies, IsClosedBelow, AreClosedBelow}
use Rattle.pm_calculus.specs.Truth.{Atom, atom_of, IsTrueIn, IsFalseIn, families_below, families_among, families}
use Rattle.pm_calculus.specs.Laws.{ClosedTableauxAreRefuted, ComplementaryLiteralsDiffer}
use Rattle.pm_logic.proofs.ListLemmas.{Contains-from}

-- terms, and so atoms, are the same or not
mutual
  same_term : (t u : Term) → (t ≡ u) ⊎ (¬ t ≡ u)
  same_term (var m) (var n) =
      elim (cases_eq m n) [
        | inl is ↦ inl (ap var is)
        | inr differs ↦ inr (λ is. differs (cc))
      ]
  same_term (var m) (app g us) = inr (λ is. cc)
  same_term (app f ts) (var n) = inr (λ is. cc)
  same_term (app f ts) (app g us) =
      elim (cases_eq f g) [
        | inl is ↦ elim (same_terms ts us) [
          | inl are ↦ inl (ap₂ app is are)
          | inr differ ↦ inr (λ same. differ (cc))
        ]
        | inr differs ↦ inr (λ same. differs (cc))
      ]

  same_terms : (ts us : Terms) → (ts ≡ us) ⊎ (¬ ts ≡ us)
  same_terms no_terms no_terms = inl refl
  same_terms no_terms (more_terms u us) = inr (λ is. cc)
  same_terms (more_terms t ts) no_terms = inr (λ is. cc)
  same_terms (more_terms t ts) (more_terms u us) =
      elim (same_term t u) [
        | inl is ↦ elim (same_terms ts us) [
          | inl are ↦ inl (ap₂ more_terms is are)
          | inr differ ↦ inr (λ same. differ (cc))
        ]
        | inr differs ↦ inr (λ same. differs (cc))
      ]

same_list : (ts us : List Term) → (ts ≡ us) ⊎ (¬ ts ≡ us)
same_list [] [] = inl refl
same_list [] (u ∷ us) = inr (λ is. cc)
same_list (t ∷ ts) [] = inr (λ is. cc)
same_list (t ∷ ts) (u ∷ us) =
    elim (same_term t u) [
      | inl is ↦ elim (same_list ts us) [
        | inl are ↦ inl (ap₂ (λ v vs. v ∷ vs) is are)
        | inr differ ↦ inr (λ same. differ (cc))
      ]
      | inr differs ↦ inr (λ same. differs (cc))
    ]

same_atom : (a b : Atom) → (a ≡ b) ⊎ (¬ a ≡ b)
same_atom a b =
    elim (cases_eq a.predicate b.predicate) [
      | inl is ↦ elim (same_list a.args b.args) [
        | inl are ↦ inl (ap₂ (λ (p : ℕ) (ts : List Term). let c : Atom = record { predicate = p; args = ts } in c) is are)
        | inr differ ↦ inr (λ same. differ (ap (λ (c : Atom). c.args) same))
      ]
      | inr differs ↦ inr (λ same. differs (ap (λ (c : Atom). c.predicate) same))
    ]

-- what differs from the first and isn't among the others isn't in the list
pub not_among : {A : Type 0} (b : A) (bs : List A) (a : A) → (¬ b ≡ a) → (¬ Contains bs a) → (k : ℕ) → k < length (b ∷ bs) → get_or (b ∷ bs) k a ≡ a → ⊥
not_among b bs a differs absent zero lt is = differs is
not_among b bs a differs absent (suc k) lt is = absent (k, omega arith, is)

is_listed : (atoms : List Atom) (a : Atom) → Contains atoms a ⊎ (¬ Contains atoms a)
is_listed [] a = inr (λ h. absurd (omega (arith, h.1)))
is_listed (b ∷ bs) a =
    elim (same_atom b a) [
      | inl is ↦ inl (zero, omega arith, is)
      | inr differs ↦ elim (is_listed bs a) [
        | inl h ↦ inl (suc h.0, omega (arith, h.1), h.2)
        | inr absent ↦ inr (λ h. not_among b bs a differs absent h.0 h.1 h.2)
      ]
    ]

true_or_not : (atoms : List Atom) (l : Literal) → IsTrueIn atoms l ⊎ (¬ IsTrueIn atoms l)
true_or_not atoms l = by l.positive (is_listed atoms (atom_of l))
  where
    by : (b : Bool) → Contains atoms (atom_of l) ⊎ (¬ Contains atoms (atom_of l))
        → MatchBool b (Contains atoms (atom_of l)) (¬ Contains atoms (atom_of l)) ⊎ (¬ MatchBool b (Contains atoms (atom_of l)) (¬ Contains atoms (atom_of l)))
    by true d = d
    by false (inl h) = inr (λ absent. absent h)
    by false (inr absent) = inl absent

-- complementary literals have the same atom
same_atoms : (a b : Literal) → AreComplementary a b → atom_of a ≡ atom_of b
same_atoms a b h = ap₂ (λ (p : ℕ) (ts : List Term). let c : Atom = record { predicate = p; args = ts } in c) h.predicate h.args

-- two complementary literals aren't both true
not_both : (atoms : List Atom) (a b : Literal) → AreComplementary a b → IsTrueIn atoms a → IsTrueIn atoms b → ⊥
not_both atoms a b h p q =
    by b.positive (subst (λ (s : Bool). MatchBool s (Contains atoms (atom_of b)) (¬ Contains atoms (atom_of b))) h.sign
    (subst (λ (c : Atom). MatchBool a.positive (Contains atoms c) (¬ Contains atoms c)) (same_atoms a b h) p)) q
  where
    by : (s : Bool) → MatchBool (not s) (Contains atoms (atom_of b)) (¬ Contains atoms (atom_of b))
        → MatchBool s (Contains atoms (atom_of b)) (¬ Contains atoms (atom_of b)) → ⊥
    by true p q = p q
    by false p q = q p

-- and one of them is
pub complementary_differ : ComplementaryLiteralsDiffer
complementary_differ atoms a b h = (by (true_or_not atoms a) (true_or_not atoms b), λ both. not_both atoms a b h both.0 both.1)
  where
    neither : (s : Bool) (p : Type 0) → (¬ MatchBool (not s) p (¬ p)) → (¬ MatchBool s p (¬ p)) → ⊥
    neither true p u v = u v
    neither false p u v = v u

    by : IsTrueIn atoms a ⊎ (¬ IsTrueIn atoms a) → IsTrueIn atoms b ⊎ (¬ IsTrueIn atoms b) → IsTrueIn atoms a ⊎ IsTrueIn atoms b
    by (inl p) q = inl p
    by (inr p) (inl q) = inr q
    by (inr p) (inr q) =
        absurd (neither b.positive (Contains atoms (atom_of b))
        (subst (λ (s : Bool). ¬ MatchBool s (Contains atoms (atom_of b)) (¬ Contains atoms (atom_of b))) h.sign
        (subst (λ (c : Atom). ¬ MatchBool a.positive (Contains atoms c) (¬ Contains atoms c)) (same_atoms a b h) p)) q)

abbrev FalseAmong : List Atom → List (List Literal) → Type 0
FalseAmong atoms fs = (f : List Literal) × Contains fs f × IsFalseIn atoms f

false_left : (atoms : List Atom) (fs gs : List (List Literal)) → FalseAmong atoms fs → FalseAmong atoms (fs ++ gs)
false_left atoms fs gs h = (h.0, Contains-append_left fs gs h.0 h.1, h.2)

false_right : (atoms : List Atom) (fs gs : List (List Literal)) → FalseAmong atoms gs → FalseAmong atoms (fs ++ gs)
false_right atoms fs gs h = (h.0, Contains-append_right fs gs h.0 h.1, h.2)

-- a true leaf isn't closed below true literals
leaf_false : (atoms : List Atom) (above : List Literal) (l : Literal) → All (IsTrueIn atoms) above → IsTrueIn atoms l
    → Any (AreComplementary l) above → ⊥
leaf_false atoms above l all true_leaf h =
    not_both atoms l h.1 h.4 true_leaf (subst (λ (m : Literal). IsTrueIn atoms m) h.3 (all h.0 h.1 h.2))

-- among closed nodes below true literals, all are false, or a family further down is
mutual
  false_below : (atoms : List Atom) (above : List Literal) (n : Node) → All (IsTrueIn atoms) above → IsTrueIn atoms (literal_on n)
      → IsClosedBelow above n → FalseAmong atoms (families_below n)
  false_below atoms above (leaf l) all is c = absurd (leaf_false atoms above l all is c)
  false_below atoms above (inner l e ns) all is c =
      elim (false_among atoms (above ++ l ∷ []) ns (All-push (IsTrueIn atoms) above l all is) c) [
        | inl none ↦ (literals_on ns, (zero, omega arith, refl), none)
        | inr h ↦ (h.0, (suc (h.1).0, omega (arith, (h.1).1), (h.1).2), h.2)
      ]

  false_among : (atoms : List Atom) (above : List Literal) (ns : Nodes) → All (IsTrueIn atoms) above → AreClosedBelow above ns
      → IsFalseIn atoms (literals_on ns) ⊎ FalseAmong atoms (families_among ns)
  false_among atoms above no_nodes all c = inl (All-nil (λ l. ¬ IsTrueIn atoms l))
  false_among atoms above (more_nodes n ns) all c =
      elim (true_or_not atoms (literal_on n)) [
        | inl is ↦ inr (false_left atoms (families_below n) (families_among ns) (false_below atoms above n all is c.0))
        | inr isnt ↦ elim (false_among atoms above ns all c.1) [
          | inl none ↦ inl (All-cons (λ l. ¬ IsTrueIn atoms l) (literal_on n) (literals_on ns) isnt none)
          | inr h ↦ inr (false_right atoms (families_below n) (families_among ns) h)
        ]
      ]

-- each family is an instance of a clause
record IsInstanceAmong (clauses : List Clause) (f : List Literal) : Type 0 where
  clause : Clause
  given : Contains clauses clause
  instance : IsInstance clause f

family_instance : (clauses : List Clause) (c : ℕ) (ns : Nodes) → IsFamily clauses c ns → IsInstanceAmong clauses (literals_on ns)
family_instance clauses c ns h = by (slice_get clauses c) refl h
  where
    by : (o : Option Clause) → slice_get clauses c ≡ o → IsSomeAnd o (λ clause. IsInstance clause (literals_on ns)) → IsInstanceAmong clauses (literals_on ns)
    by None is h = absurd h
    by (Some clause) is h = record { clause = clause; given = Contains-from clauses c clause is; instance = h }

first_or_later : (clauses : List Clause) (first : List Literal) (fs : List (List Literal)) (f : List Literal) → IsInstanceAmong clauses first
    → (Contains fs f → IsInstanceAmong clauses f) → (k : ℕ) → k < length (first ∷ fs) → get_or (first ∷ fs) k f ≡ f → IsInstanceAmong clauses f
first_or_later clauses first fs f own later zero lt is = subst (λ (g : List Literal). IsInstanceAmong clauses g) is own
first_or_later clauses first fs f own later (suc k) lt is = later (k, omega arith, is)

mutual
  instance_below : (clauses : List Clause) (n : Node) (f : List Literal) → HasFamilies clauses n → Contains (families_below n) f → IsInstanceAmong clauses f
  instance_below clauses (leaf l) f h there = absurd (omega (arith, there.1))
  instance_below clauses (inner l c ns) f h there =
      first_or_later clauses (literals_on ns) (families_among ns) f (family_instance clauses c ns h.0) (instance_among clauses ns f h.1) there.0 there.1 there.2

  instance_among : (clauses : List Clause) (ns : Nodes) (f : List Literal) → HaveFamilies clauses ns → Contains (families_among ns) f → IsInstanceAmong clauses f
  instance_among clauses no_nodes f h there = absurd (omega (arith, there.1))
  instance_among clauses (more_nodes n ns) f h there =
      elim (Contains-append_cases (families_below n) (families_among ns) f there) [
        | inl own ↦ instance_below clauses n f h.0 own
        | inr later ↦ instance_among clauses ns f h.1 later
      ]

false_family : (atoms : List Atom) (t : Tableau) → AreClosedBelow [] t.children → FalseAmong atoms (families t)
false_family atoms t c =
    elim (false_among atoms [] t.children (All-nil (IsTrueIn atoms)) c) [
      | inl none ↦ (literals_on t.children, (zero, omega arith, refl), none)
      | inr h ↦ (h.0, (suc (h.1).0, omega (arith, (h.1).1), (h.1).2), h.2)
    ]

pub refuted : ClosedTableauxAreRefuted
refuted clauses t over c atoms =
    let f = false_family atoms t c in
    let i = first_or_later clauses (literals_on t.children) (families_among t.children) f.0 (family_instance clauses t.root t.children over.0)
    (instance_among clauses t.children f.0 over.1) (f.1).0 (f.1).1 (f.1).2 in
    record { clause = i.clause; given = i.given; literals = f.0; instance = i.instance; family = f.1; false = f.2 }
