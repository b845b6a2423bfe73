-- Matching a clause's literals with the children of a node.
use Rattle.std.proofs.Common.{◌≡◌, ◌∙◌, ◌↔◌, ◌<◌, ◌≤◌, ◌⊎◌, inl, inr, ℕ, zero, suc, ◌+◌, Bool, true, false, List, [], ◌∷◌, ◌++◌, length, map, take, drop, get_or, Some, sym, ap, ap₂, refl, subst, arith, append_assoc}
use Rattle.std.specs.Prelude.{slice_get, slice_index, MatchBool, IsTrue, IsSomeAnd}
use Rattle.std.specs.List.{All, AllZip, Contains}
use Rattle.std.specs.Option.{option_map}
use Rattle.std.proofs.lemmas.List.{append-nil, length-append, length_push, length-map, take_all}
use Rattle.std.proofs.lemmas.List.Elements.{All-contains}
use Rattle.std.proofs.lemmas.Option.{slice_get_within, slice_get-get_or, slice_get-map}
use Rattle.pm_logic.specs.declared.problem.Literal.{Literal}
use Rattle.pm_logic.specs.declared.problem.Clause.{Clause}
use Rattle.pm_logic.specs.declared.tableau.Node.{Node}
use Rattle.pm_logic.specs.Lists.{AreDistinct}
use Rattle.pm_logic.specs.Term.{Term, tree_at}
use Rattle.pm_logic.specs.Filling.{put}
use Rattle.pm_logic.specs.Problem.{Symbol, Literal as Written, Clause as WrittenClause, Problem, IsTermOver, IsLiteralOver, IsClauseOver, IsValid}
use Rattle.pm_logic.specs.Tableau.{Entry}
use Rattle.pm_logic.specs.View.{literal_of, clause_of, entry_of, HasRows}
use Rattle.pm_calculus.specs.Substitution.{put_in_literal, IsInstance}
use Rattle.pm_check.specs.declared.images.Match.{Match}
use Rattle.pm_check.specs.Inside.Images.{sent}
use Rattle.pm_check.specs.Inside.Matching.{Give, AreThere, HasImage, Grow, IsBeside, MeetLiteral, NoneGiveLiteral, TakesAllApart}
use Rattle.pm_check.specs.Inside.Siblings.{siblings, depths, IsNextPlace, AreNextPlaces}
use Rattle.pm_check.proofs.MatchingLemmas.{All-from_contains, All-stands, Grow-contains, give_more, map-map, same_at}
use Rattle.pm_check.proofs.SolvingLemmas.{terms_give}
use Rattle.pm_check.proofs.SiblingLemmas.{siblings-next, siblings-none, next_shallow, depth_at, stands_within}

-- the literals of entries
abbrev pub written : List Entry → List Written
written entries = map (λ e. e.literal) entries

-- the literals of a clause that terms give
abbrev pub given_by : List Term → List Term → List Literal → List Written
given_by terms source literals = map (λ l. put_in_literal terms (literal_of source l)) literals

-- so many of the literals are matched with as many siblings, and these are still to come
pub record IsMatched (source target : List Term) (literals : List Literal) (family : List Written) (matches : List Match) (count : ℕ) (later : List Written) : Type 0 where
  pub taken : List Written
  pub whole : family ≡ taken ++ later
  pub many : length taken ≡ count
  pub there : AreThere (length source) (length target) matches
  pub over :
      (symbols : List Symbol) (vars : ℕ) → All (λ l. IsLiteralOver symbols vars (literal_of source l)) literals
      → All (λ m. IsTermOver symbols vars (tree_at source m.row)) matches
  pub met : (terms : List Term) → Give source target terms matches → given_by terms source (take count literals) ≡ taken
  pub gives : (terms : List Term) → family ≡ given_by terms source literals → Give source target terms matches

-- ---- one more literal

-- what gives the images gives the arguments
args_met : (source target terms : List Term) (matches : List Match) (rows others : List ℕ) → Give source target terms matches → AllZip (λ row other. HasImage target matches row (tree_at target other)) rows others
    → map (put terms) (map (tree_at source) rows) ≡ map (tree_at target) others
args_met source target terms matches [] [] give has = refl
args_met source target terms matches [] (o ∷ os) give has = absurd has
args_met source target terms matches (r ∷ rs) [] give has = absurd has
args_met source target terms matches (r ∷ rs) (o ∷ os) give has =
    ap₂ (λ t ts. t ∷ ts)
    (All-contains (λ m. put terms (tree_at source m.row) ≡ tree_at target m.image) matches (sent r has.0.0) give has.0.1 ∙ has.0.2)
    (args_met source target terms matches rs os give has.1)

literal_given : (source target terms : List Term) (old new : List Match) (literal other : Literal) → MeetLiteral target old new literal other → Give source target terms new → put_in_literal terms (literal_of source literal) ≡ literal_of target other
literal_given source target terms old new literal other meet give =
    let sign = meet.sign in
    let predicate = meet.predicate in
    let args = args_met source target terms new literal.args.items other.args.items give meet.args.has in
    λ i. record { positive = sign i; predicate = predicate i; args = args i }

give_before : (source target terms : List Term) (old new : List Match) → Grow old new → Give source target terms new → Give source target terms old
give_before source target terms old new grow give =
    All-from_contains (λ m. put terms (tree_at source m.row) ≡ tree_at target m.image) old
    (λ m there. All-contains (λ m. put terms (tree_at source m.row) ≡ tree_at target m.image) new m give (Grow-contains old new grow m there))

take_stands : {A : Type 0} (xs : List A) (i : ℕ) (x : A) → slice_get xs i ≡ Some x → take (i + 1) xs ≡ take i xs ++ x ∷ []
take_stands [] i x is = cc
take_stands (y ∷ xs) zero x is = let same : y ≡ x = cc in ap (λ z. z ∷ []) same
take_stands (y ∷ xs) (suc i) x is =
    let next : i + 1 ≡ suc i = omega arith in
    let outside : suc i + 1 ≡ suc (suc i) = omega arith in
    ap (λ n. take n (y ∷ xs)) outside ∙ ap (λ n. y ∷ take n xs) (sym next) ∙ ap (λ zs. y ∷ zs) (take_stands xs i x is)

pub map-push : {A B : Type 0} (f : A → B) (xs : List A) (x : A) → map f (xs ++ x ∷ []) ≡ map f xs ++ f x ∷ []
map-push f [] x = refl
map-push f (y ∷ xs) x = ap (λ zs. f y ∷ zs) (map-push f xs x)

-- the first of what is to come stands where as many are taken
seam : (family taken later : List Written) (count : ℕ) (x : Written) → family ≡ taken ++ x ∷ later → length taken ≡ count → slice_get family count ≡ Some x
seam family taken later count x whole many = ap (λ xs. slice_get xs count) whole ∙ at_seam taken count many
  where
    at_seam : (taken : List Written) (count : ℕ) → length taken ≡ count → slice_get (taken ++ x ∷ later) count ≡ Some x
    at_seam [] zero is = refl
    at_seam [] (suc n) is = absurd (omega arith)
    at_seam (y ∷ ys) zero is = absurd (omega arith)
    at_seam (y ∷ ys) (suc n) is = at_seam ys n (omega arith)

identity : {A : Type 0} (xs : List A) → map (λ x. x) xs ≡ xs
identity [] = refl
identity (x ∷ xs) = ap (λ ys. x ∷ ys) (identity xs)

-- where terms give the family they give the literal at each place
given_at : (terms source : List Term) (literals : List Literal) (family : List Written) (count : ℕ) (literal : Literal) (x : Written) → family ≡ given_by terms source literals → slice_get literals count ≡ Some literal
    → slice_get family count ≡ Some x → put_in_literal terms (literal_of source literal) ≡ x
given_at terms source literals family count literal x same at_literal at_family =
    same_at (λ l. put_in_literal terms (literal_of source l)) (λ y. y) literals family count literal x (sym same ∙ sym (identity family)) at_literal at_family

pub matched_more : (source target : List Term) (literals : List Literal) (family : List Written) (old new : List Match) (count : ℕ) (later : List Written) (literal other : Literal)
    → IsMatched source target literals family old count (literal_of target other ∷ later) → slice_get literals count ≡ Some literal
    → HasRows (length source) literal → HasRows (length target) other
    → MeetLiteral target old new literal other → IsMatched source target literals family new (count + 1) later
matched_more source target literals family old new count later literal other matched stands rows others meet = record {
  taken = matched.taken ++ literal_of target other ∷ [];
  whole = matched.whole ∙ sym (append_assoc matched.taken (literal_of target other ∷ []) later);
  many = omega (arith, length_push matched.taken (literal_of target other), matched.many);
  there = All-from_contains (λ m. (m.row < length source) × (m.image < length target)) new (λ m h. there m (meet.args.only m h));
  over = λ symbols vars all. All-from_contains (λ m. IsTermOver symbols vars (tree_at source m.row)) new (λ m h. over_at symbols vars all m (meet.args.only m h));
  met = λ terms give.
      ap (given_by terms source) (take_stands literals count literal stands)
      ∙ map-push (λ l. put_in_literal terms (literal_of source l)) (take count literals) literal
      ∙ ap₂ (λ xs x. xs ++ x ∷ []) (matched.met terms (give_before source target terms old new meet.args.grow give)) (literal_given source target terms old new literal other meet give);
  gives = λ terms same.
      let equal : put_in_literal terms (literal_of source literal) ≡ literal_of target other =
      given_at terms source literals family count literal (literal_of target other) same stands (seam family matched.taken later count (literal_of target other) matched.whole matched.many) in
      give_more source target terms old new literal.args.items other.args.items meet.args.only (matched.gives terms same)
      (sym (map-map (put terms) (tree_at source) literal.args.items) ∙ ap (λ (w : Written). w.args) equal);
}
  where
    there : (m : Match) → Contains old m ⊎ IsBeside literal.args.items other.args.items m → (m.row < length source) × (m.image < length target)
    there m (inl before) = All-contains (λ m. (m.row < length source) × (m.image < length target)) old m matched.there before
    there m (inr at_place) = (
      All-stands (λ row. row < length source) literal.args.items at_place.0 m.row rows at_place.1,
      All-stands (λ row. row < length target) other.args.items at_place.0 m.image others at_place.2,
    )

    over_at : (symbols : List Symbol) (vars : ℕ) → All (λ l. IsLiteralOver symbols vars (literal_of source l)) literals → (m : Match) → Contains old m ⊎ IsBeside literal.args.items other.args.items m → IsTermOver symbols vars (tree_at source m.row)
    over_at symbols vars all m (inl before) = All-contains (λ (m : Match). IsTermOver symbols vars (tree_at source m.row)) old m (matched.over symbols vars all) before
    over_at symbols vars all m (inr at_place) =
        let over : IsLiteralOver symbols vars (literal_of source literal) = All-stands (λ l. IsLiteralOver symbols vars (literal_of source l)) literals count literal all stands in
        All-stands (IsTermOver symbols vars) (map (tree_at source) literal.args.items) at_place.0 (tree_at source m.row) over.args (mapped literal.args.items at_place.0 m.row at_place.1)
      where
        mapped : (xs : List ℕ) (k x : ℕ) → slice_get xs k ≡ Some x → slice_get (map (tree_at source) xs) k ≡ Some (tree_at source x)
        mapped [] k x is = cc
        mapped (y ∷ xs) zero x is = let same : y ≡ x = cc in ap (λ r. Some (tree_at source r)) same
        mapped (y ∷ xs) (suc k) x is = mapped xs k x is

-- ---- the answer

-- an instance of a clause over the source
abbrev IsGiven : List Term → Clause → List Written → Type 0
IsGiven source clause family = IsInstance (clause_of source clause) family

instance_given : (source : List Term) (clause : Clause) (family : List Written) (i : IsGiven source clause family) → family ≡ given_by i.terms source clause.literals.items
instance_given source clause family i = i.each ∙ map-map (put_in_literal i.terms) (literal_of source) clause.literals.items

given_instance : (source terms : List Term) (clause : Clause) (family : List Written) → length terms ≡ clause.vars → family ≡ given_by terms source clause.literals.items → IsGiven source clause family
given_instance source terms clause family count each = record {
  terms = terms;
  count = count;
  each = each ∙ sym (map-map (put_in_literal terms) (literal_of source) clause.literals.items);
}

-- fewer or more children than literals
pub none_of_length : (source : List Term) (clause : Clause) (family : List Written) → (length family ≡ length clause.literals.items → ⊥) → ¬ IsGiven source clause family
none_of_length source clause family apart i =
    apart (omega (arith, ap length (instance_given source clause family i), length-map clause.literals.items (λ (l : Literal). put_in_literal i.terms (literal_of source l))))

pub none_matched : (source target : List Term) (clause : Clause) (family : List Written) (old : List Match) (count : ℕ) (later : List Written) (literal other : Literal)
    → IsMatched source target clause.literals.items family old count (literal_of target other ∷ later) → slice_get clause.literals.items count ≡ Some literal
    → NoneGiveLiteral target old literal other → ¬ IsGiven source clause family
none_matched source target clause family old count later literal other matched stands none i =
    let same = instance_given source clause family i in
    none source i.terms (matched.gives i.terms same)
    (given_at i.terms source clause.literals.items family count literal (literal_of target other) same stands (seam family matched.taken later count (literal_of target other) matched.whole matched.many))

pub none_apart : (source target : List Term) (clause : Clause) (family : List Written) (old : List Match) (count : ℕ) (later : List Written)
    → IsMatched source target clause.literals.items family old count later → ((terms : List Term) → ¬ Give source target terms old) → ¬ IsGiven source clause family
none_apart source target clause family old count later matched none i = none i.terms (matched.gives i.terms (instance_given source clause family i))

pub all_matched : (symbols : List Symbol) (source target : List Term) (clause : Clause) (family : List Written) (old new : List Match) (count : ℕ)
    → IsMatched source target clause.literals.items family old count [] → length clause.literals.items ≤ count → All (λ l. IsLiteralOver symbols clause.vars (literal_of source l)) clause.literals.items → AreDistinct source → TakesAllApart source target old new → IsGiven source clause family
all_matched symbols source target clause family old new count matched all over distinct apart =
    let found = terms_give symbols clause.vars source target new (record {
      distinct = distinct;
      there = apart.adds.there;
      single = apart.single;
      over = apart.adds.over symbols clause.vars (matched.over symbols clause.vars over);
      apart = apart.apart;
    }) in
    given_instance source found.0 clause family found.1
    (matched.whole ∙ append-nil matched.taken
    ∙ sym (matched.met found.0 (give_before source target found.0 old new apart.adds.grow found.2))
    ∙ ap (given_by found.0 source) (take_all count clause.literals.items all))

-- ---- in the words of the code

-- whether the clause of an index has the family as an instance
abbrev pub HasInstance : List WrittenClause → ℕ → List Written → Type 0
HasInstance clauses index family = IsSomeAnd (slice_get clauses index) (λ c. IsInstance c family)

pub answered : (clauses : List WrittenClause) (index : ℕ) (c : WrittenClause) (family : List Written) (answer : Bool) → slice_get clauses index ≡ Some c → MatchBool answer (IsInstance c family) (¬ IsInstance c family)
    → IsTrue answer ↔ HasInstance clauses index family
answered clauses index c family true is instance = (λ _. subst (λ o. IsSomeAnd o (λ c. IsInstance c family)) (sym is) instance, λ _. refl)
answered clauses index c family false is none = (
  λ h. absurd cc,
  λ h. absurd (none (subst (λ o. IsSomeAnd o (λ c. IsInstance c family)) is h)),
)

-- the literals of a valid problem's clause are over its variables
pub literals_over : (over : Problem) (index : ℕ) (clause : Clause) → IsValid over → slice_get over.clauses index ≡ Some (clause_of over.terms clause)
    → All (λ l. IsLiteralOver over.symbols clause.vars (literal_of over.terms l)) clause.literals.items
literals_over over index clause valid is =
    let whole : IsClauseOver over.symbols (clause_of over.terms clause) = All-stands (IsClauseOver over.symbols) over.clauses index (clause_of over.terms clause) valid.clauses is in
    λ k d lt.
    let stands = slice_get-get_or clause.literals.items k d lt in
    All-stands (IsLiteralOver over.symbols clause.vars) (map (literal_of over.terms) clause.literals.items) k (literal_of over.terms (get_or clause.literals.items k d)) whole.literals
    (slice_get-map (literal_of over.terms) clause.literals.items k ∙ ap (option_map (literal_of over.terms)) stands)

pub depths-entries : (terms : List Term) (nodes : List Node) → depths (map (entry_of terms) nodes) ≡ map (λ n. n.depth) nodes
depths-entries terms nodes = map-map (λ (e : Entry). e.depth) (entry_of terms) nodes

pub entry_stands : (terms : List Term) (nodes : List Node) (place : ℕ) (node : Node) → slice_get nodes place ≡ Some node → slice_get (map (entry_of terms) nodes) place ≡ Some (entry_of terms node)
entry_stands terms [] place node is = cc
entry_stands terms (n ∷ nodes) zero node is = let same : n ≡ node = cc in ap (λ m. Some (entry_of terms m)) same
entry_stands terms (n ∷ nodes) (suc place) node is = entry_stands terms nodes place node is

pub next_child : (terms : List Term) (nodes : List Node) (next : List ℕ) (d place : ℕ) (node : Node) → slice_get nodes place ≡ Some node → slice_index (map (λ n. n.depth) nodes) place ≡ d
    → AreNextPlaces (map (λ n. n.depth) nodes) next
    → siblings d (drop place (map (entry_of terms) nodes)) ≡ entry_of terms node ∷ siblings d (drop (slice_index next place) (map (entry_of terms) nodes))
next_child terms nodes next d place node is depth places =
    let within : place < length (map (λ (n : Node). n.depth) nodes) = omega (arith, slice_get_within nodes place node is, length-map nodes (λ (n : Node). n.depth)) in
    siblings-next d (map (entry_of terms) nodes) place (slice_index next place) (entry_of terms node) (entry_stands terms nodes place node is)
    (sym (depth_at (map (entry_of terms) nodes) place (entry_of terms node) (entry_stands terms nodes place node is)) ∙ ap (λ ds. slice_index ds place) (depths-entries terms nodes) ∙ depth)
    (subst (λ ds. IsNextPlace ds place (slice_index next place)) (sym (depths-entries terms nodes)) (places.each place within))

pub no_child : (terms : List Term) (nodes : List Node) (d place : ℕ) → (place < length nodes → slice_index (map (λ n. n.depth) nodes) place ≤ d)
    → ((place < length nodes) × (slice_index (map (λ n. n.depth) nodes) place ≡ d) → ⊥) → siblings d (drop place (map (entry_of terms) nodes)) ≡ []
no_child terms nodes d place shallow apart =
    let count : length (map (entry_of terms) nodes) ≡ length nodes = length-map nodes (entry_of terms) in
    siblings-none d (map (entry_of terms) nodes) place
    (λ lt. subst (λ ds. slice_index ds place ≤ d) (sym (depths-entries terms nodes)) (shallow (omega arith)))
    (λ h. apart (omega arith, sym (ap (λ ds. slice_index ds place) (depths-entries terms nodes)) ∙ h.1))

pub next_within : (nodes : List Node) (next : List ℕ) (d place : ℕ) → place < length nodes → slice_index (map (λ n. n.depth) nodes) place ≡ d → AreNextPlaces (map (λ n. n.depth) nodes) next
    → (slice_index next place ≤ length nodes) × (slice_index next place < length nodes → slice_index (map (λ n. n.depth) nodes) (slice_index next place) ≤ d)
next_within nodes next d place within depth places =
    let count : length (map (λ (n : Node). n.depth) nodes) ≡ length nodes = length-map nodes (λ (n : Node). n.depth) in
    let step = next_shallow d (map (λ (n : Node). n.depth) nodes) place (slice_index next place) depth (places.each place (omega arith)) in
    (omega (arith, step.0), λ lt. step.1 (omega arith))

-- ---- the exits of the loop over the literals

-- what was given to the loop
pub record IsLoop (over : Problem) (terms : List Term) (nodes : List Node) (next : List ℕ) (index first d : ℕ) (clause : Clause) (items : List Literal) : Type 0 where
  pub its_clause : slice_get over.clauses index ≡ Some (clause_of over.terms clause)
  pub its_items : items ≡ clause.literals.items
  pub places : AreNextPlaces (map (λ n. n.depth) nodes) next

abbrev pub family_at : List Term → List Node → ℕ → ℕ → List Written
family_at terms nodes d place = written (siblings d (drop place (map (entry_of terms) nodes)))

-- what holds at each turn
pub record IsTurn (over : Problem) (terms : List Term) (nodes : List Node) (first d : ℕ) (items : List Literal) (matches : List Match) (count place : ℕ) : Type 0 where
  pub within : place ≤ length nodes
  pub shallow : place < length nodes → slice_index (map (λ n. n.depth) nodes) place ≤ d
  pub matched : IsMatched over.terms terms items (family_at terms nodes d first) matches count (family_at terms nodes d place)

none_later : (over : Problem) (terms : List Term) (nodes : List Node) (first d : ℕ) (items : List Literal) (matches : List Match) (count place : ℕ) → IsTurn over terms nodes first d items matches count place
    → ((place < length nodes) × (slice_index (map (λ n. n.depth) nodes) place ≡ d) → ⊥) → IsMatched over.terms terms items (family_at terms nodes d first) matches count []
none_later over terms nodes first d items matches count place turn lacks =
    subst (λ (later : List Written). IsMatched over.terms terms items (family_at terms nodes d first) matches count later) (ap written (no_child terms nodes d place turn.shallow lacks)) turn.matched

family_length : (source target : List Term) (literals : List Literal) (family : List Written) (matches : List Match) (count : ℕ) (later : List Written) → IsMatched source target literals family matches count later → length family ≡ count + length later
family_length source target literals family matches count later matched = omega (arith, ap length matched.whole, length-append matched.taken later, matched.many)

pub too_few : (over : Problem) (terms : List Term) (nodes : List Node) (next : List ℕ) (index first d : ℕ) (clause : Clause) (items : List Literal) (matches : List Match) (count place : ℕ)
    → IsLoop over terms nodes next index first d clause items → IsTurn over terms nodes first d items matches count place
    → ((place < length nodes) × (slice_index (map (λ n. n.depth) nodes) place ≡ d) → ⊥) → count < length items → IsTrue false ↔ HasInstance over.clauses index (family_at terms nodes d first)
too_few over terms nodes next index first d clause items matches count place given turn lacks lt =
    answered over.clauses index (clause_of over.terms clause) (family_at terms nodes d first) false given.its_clause
    (none_of_length over.terms clause (family_at terms nodes d first)
    (λ same. absurd (omega (arith, same, ap length given.its_items, family_length over.terms terms items (family_at terms nodes d first) matches count [] (none_later over terms nodes first d items matches count place turn lacks)))))

-- the node at the place is the next child
next_turn : (over : Problem) (terms : List Term) (nodes : List Node) (next : List ℕ) (first d : ℕ) (items : List Literal) (matches : List Match) (count place : ℕ) (node : Node) → IsTurn over terms nodes first d items matches count place
    → AreNextPlaces (map (λ n. n.depth) nodes) next → slice_get nodes place ≡ Some node → slice_index (map (λ n. n.depth) nodes) place ≡ d
    → IsMatched over.terms terms items (family_at terms nodes d first) matches count (literal_of terms node.literal ∷ family_at terms nodes d (slice_index next place))
next_turn over terms nodes next first d items matches count place node turn places is depth =
    subst (λ (later : List Written). IsMatched over.terms terms items (family_at terms nodes d first) matches count later) (ap written (next_child terms nodes next d place node is depth places)) turn.matched

pub too_many : (over : Problem) (terms : List Term) (nodes : List Node) (next : List ℕ) (index first d : ℕ) (clause : Clause) (items : List Literal) (matches : List Match) (count place : ℕ)
    → IsLoop over terms nodes next index first d clause items → IsTurn over terms nodes first d items matches count place
    → place < length nodes → slice_index (map (λ n. n.depth) nodes) place ≡ d → length items ≤ count → IsTrue false ↔ HasInstance over.clauses index (family_at terms nodes d first)
too_many over terms nodes next index first d clause items matches count place given turn within depth le =
    let node = stands_within nodes place within in
    let matched = next_turn over terms nodes next first d items matches count place node.0 turn given.places node.1 depth in
    answered over.clauses index (clause_of over.terms clause) (family_at terms nodes d first) false given.its_clause
    (none_of_length over.terms clause (family_at terms nodes d first)
    (λ same. absurd (omega (arith, same, ap length given.its_items, family_length over.terms terms items (family_at terms nodes d first) matches count (literal_of terms node.0.literal ∷ family_at terms nodes d (slice_index next place)) matched))))

pub another : (over : Problem) (terms : List Term) (nodes : List Node) (next : List ℕ) (index first d : ℕ) (clause : Clause) (items : List Literal) (matches : List Match) (count place : ℕ) (literal : Literal) (node : Node)
    → IsLoop over terms nodes next index first d clause items → IsTurn over terms nodes first d items matches count place
    → slice_get nodes place ≡ Some node → slice_index (map (λ n. n.depth) nodes) place ≡ d → slice_get items count ≡ Some literal → NoneGiveLiteral terms matches literal node.literal
    → IsTrue false ↔ HasInstance over.clauses index (family_at terms nodes d first)
another over terms nodes next index first d clause items matches count place literal node given turn is depth stands none =
    let family = family_at terms nodes d first in
    let later = family_at terms nodes d (slice_index next place) in
    answered over.clauses index (clause_of over.terms clause) family false given.its_clause
    (none_matched over.terms terms clause family matches count later literal node.literal
    (subst (λ ls. IsMatched over.terms terms ls family matches count (literal_of terms node.literal ∷ later)) given.its_items (next_turn over terms nodes next first d items matches count place node turn given.places is depth))
    (ap (λ (ls : List Literal). slice_get ls count) (sym given.its_items) ∙ stands) none)

pub turn_more : (over : Problem) (terms : List Term) (nodes : List Node) (next : List ℕ) (index first d : ℕ) (clause : Clause) (items : List Literal) (matches new : List Match) (count place : ℕ) (literal : Literal) (node : Node)
    → IsLoop over terms nodes next index first d clause items → IsTurn over terms nodes first d items matches count place
    → slice_get nodes place ≡ Some node → slice_index (map (λ n. n.depth) nodes) place ≡ d → slice_get items count ≡ Some literal
    → HasRows (length over.terms) literal → HasRows (length terms) node.literal → MeetLiteral terms matches new literal node.literal
    → IsTurn over terms nodes first d items new (count + 1) (slice_index next place)
turn_more over terms nodes next index first d clause items matches new count place literal node given turn is depth stands rows others meet =
    let step = next_within nodes next d place (slice_get_within nodes place node is) depth given.places in
    record {
      within = step.0;
      shallow = step.1;
      matched = matched_more over.terms terms items (family_at terms nodes d first) matches new count (family_at terms nodes d (slice_index next place)) literal node.literal
          (next_turn over terms nodes next first d items matches count place node turn given.places is depth) stands rows others meet;
    }

pub turns_end : (over : Problem) (terms : List Term) (nodes : List Node) (next : List ℕ) (index first d : ℕ) (clause : Clause) (items : List Literal) (matches new : List Match) (count place : ℕ) (answer : Bool)
    → IsValid over → AreDistinct over.terms → IsLoop over terms nodes next index first d clause items → IsTurn over terms nodes first d items matches count place
    → ((place < length nodes) × (slice_index (map (λ n. n.depth) nodes) place ≡ d) → ⊥) → length items ≤ count
    → MatchBool answer (TakesAllApart over.terms terms matches new) ((given : List Term) → ¬ Give over.terms terms given matches)
    → IsTrue answer ↔ HasInstance over.clauses index (family_at terms nodes d first)
turns_end over terms nodes next index first d clause items matches new count place answer valid distinct given turn lacks le apart =
    answered over.clauses index (clause_of over.terms clause) (family_at terms nodes d first) answer given.its_clause (by answer apart)
  where
    family : List Written
    family = family_at terms nodes d first

    matched : IsMatched over.terms terms clause.literals.items family matches count []
    matched = subst (λ ls. IsMatched over.terms terms ls family matches count []) given.its_items (none_later over terms nodes first d items matches count place turn lacks)

    by : (answer : Bool) → MatchBool answer (TakesAllApart over.terms terms matches new) ((given : List Term) → ¬ Give over.terms terms given matches)
        → MatchBool answer (IsInstance (clause_of over.terms clause) family) (¬ IsInstance (clause_of over.terms clause) family)
    by true apart =
        all_matched over.symbols over.terms terms clause family matches new count matched (omega (arith, ap length given.its_items)) (literals_over over index clause valid given.its_clause) distinct apart
    by false none = none_apart over.terms terms clause family matches count [] matched none
