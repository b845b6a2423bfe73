-- The numbers of literals without variables.
use Rattle.std.proofs.Common.{◌≡◌, ℕ, zero, suc, ◌+◌, ◌-◌, ◌<◌, ◌≤◌, ◌⊎◌, inl, inr, Bool, true, false, cond, List, [], ◌∷◌, ◌++◌, Option, None, Some, option_map, Result, Ok, Err, All, length, map, take, slice_get, get_or, refl, sym, ◌∙◌, ap, subst, true≢false, arith}
use Rattle.std.specs.Prelude.{◌&&◌, Contains, IfOk, IsSomeAnd, Vec}
use Rattle.std.specs.declared.alloc.Global.{Global}
use Rattle.std.specs.declared.alloc.AllocError.{AllocError}
use Rattle.std.specs.List.{AllZip, list_all}
use Rattle.std.specs.Cmp.{first_so, second_so, booleans_Decides}
use Rattle.std.specs.Map.{lookup}
use Rattle.std.specs.Cmp.Lexicographic.{bytes_decides}
use Rattle.std.proofs.lemmas.Bool.{cases_lt, eqb-true, eq-eqb}
use Rattle.std.proofs.lemmas.List.{length-append, length-map, length-take-le, map-append, get_or-map, take_more}
use Rattle.std.proofs.lemmas.List.Elements.{All-head, All-tail, Contains-push, Contains-append_left, Contains-push_cases}
use Rattle.std.proofs.lemmas.List.Folds.{list_all-map}
use Rattle.std.proofs.lemmas.List.Sums.{AllPass-from_list_all, list_all-from_AllPass}
use Rattle.std.proofs.lemmas.Slice.Zip.{AllZip-long}
use Rattle.std.proofs.lemmas.Option.{slice_get-get_or, slice_get-map, slice_get_within, get_or_from_slice_get}
use Rattle.pm_logic.specs.Lists.{AreDistinct}
use Rattle.pm_logic.specs.Term.{Term, var, app, as_terms, tree_at}
use Rattle.pm_logic.specs.Problem.{Literal, Clause, Problem, IsValid}
use Rattle.pm_logic.specs.View.{HasRows, literal_of}
use Rattle.pm_logic.specs.declared.problem.Literal.{Literal as Rows}
use Rattle.pm_compile.specs.Scheme.{is_ground}
use Rattle.pm_calculus.specs.Skeleton.{State, empty, rooted, Subgoal, start, extend, selected, literals_at}
use Rattle.pm_calculus.specs.Alternatives.{MayTake, IsStepAt}
use Rattle.pm_tab.specs.declared.alternatives.Step.{Step as CodeStep}
use Rattle.pm_tab.specs.declared.alternatives.Step.TheVariants.{Start, Extend}
use Rattle.pm_tab.specs.Inside.Steps.{step_named}
use Rattle.pm_compile.proofs.GroundLemmas.{are_ground-each}
use Rattle.pm_tab.specs.declared.numbers.GroundLiteral.{GroundLiteral}
use Rattle.pm_tab.specs.Inside.Numbering.{all_literals, IsGround, IsFirstAt, IsNumberOf, AreNumbersOf, AreNumbers, AreNumbersFor}
use Rattle.pm_tab.specs.Inside.Known.{literal_kept, Entry, IsSame, Keeps, IsKeptOf, Knows, StandAfter, TellsGround}
use Rattle.pm_tab.specs.contracts.numbers.GroundLiteralPartialEq.TheImpl as key_eq

-- the test that the numbers are looked up by
abbrev pub eq : GroundLiteral → GroundLiteral → Bool
eq = (key_eq.ghosts).eq

both_so : (a b : Bool) → a ≡ true → b ≡ true → (a && b) ≡ true
both_so a b p q = (λ i. p i && q i)

same_key : (one other : GroundLiteral) → eq one other ≡ true → IsSame one other
same_key one other h =
    let more = second_so _ _ h in
    record {
      positive = (booleans_Decides one.positive other.positive).0 (first_so _ _ h);
      predicate = eqb-true one.predicate other.predicate (first_so _ _ more);
      args = (bytes_decides one.args.items other.args.items).0 (second_so _ _ more);
    }

eq_key : (one other : GroundLiteral) → IsSame one other → eq one other ≡ true
eq_key one other h =
    both_so _ _ ((booleans_Decides one.positive other.positive).1 h.positive)
    (both_so _ _ (eq-eqb one.predicate other.predicate h.predicate) ((bytes_decides one.args.items other.args.items).1 h.args))

-- the number that is found is of an entry of the same literal
found : (key : GroundLiteral) (es : List Entry) (n : ℕ) → lookup (eq key) es ≡ Some n → (known : Entry) × Contains es known × IsSame key known.0 × (n ≡ known.1)
found key [] n is = cc
found key (e ∷ es) n is = by (found key es n) (eq key e.0) refl is
  where
    by : (lookup (eq key) es ≡ Some n → (known : Entry) × Contains es known × IsSame key known.0 × (n ≡ known.1)) → (b : Bool) → eq key e.0 ≡ b
        → cond b (Some e.1) (lookup (eq key) es) ≡ Some n → (known : Entry) × Contains (e ∷ es) known × IsSame key known.0 × (n ≡ known.1)
    by rest true same here = (e, (0, omega arith, refl), same_key key e.0 same, cc)
    by rest false other later =
        let h = rest later in
        (h.0, (suc h.1.0, omega (arith, h.1.1), h.1.2), h.2, h.3)

-- where none is found, no entry is of the same literal
absent : (key : GroundLiteral) (es : List Entry) → lookup (eq key) es ≡ None → (known : Entry) → Contains es known → ¬ IsSame key known.0
absent key [] none known has = λ same. absurd (omega (arith, has.1))
absent key (e ∷ es) none known has = λ same. by (λ is there. absent key es is known there same) (eq key e.0) refl none has.0 has.1 has.2 same
  where
    by : (lookup (eq key) es ≡ None → Contains es known → ⊥) → (b : Bool) → eq key e.0 ≡ b → cond b (Some e.1) (lookup (eq key) es) ≡ None → (k : ℕ)
        → k < length (e ∷ es) → get_or (e ∷ es) k known ≡ known → IsSame key known.0 → ⊥
    by rest true here is k lt at same = cc
    by rest false here is zero lt at same = true≢false (sym (eq_key key known.0 same) ∙ ap (λ (x : Entry). eq key x.0) (sym at) ∙ here)
    by rest false here is (suc k) lt at same = rest is (k, omega (arith, lt), at)

pub number_kept : (es : List Entry) (key : GroundLiteral) (place n : ℕ) → Some n ≡ lookup (eq key) es → Keeps es es key place n
number_kept es key place n is =
    let h = found key es n (sym is) in
    inl (record { known = h.0; stands = h.1; same = h.2; is = h.3; unchanged = refl })

pub number_new : (es new : List Entry) (key : GroundLiteral) (place : ℕ) → lookup (eq key) es ≡ None → new ≡ es ++ (key, place) ∷ [] → Keeps es new key place place
number_new es new key place none grown = inr (record { absent = absent key es none; is = refl; grown = grown })

-- what is told of rows that are told of is so
told : (terms : List Term) (ground : List Bool) (rows : List ℕ) → ((row : ℕ) → row < length ground → get_or ground row false ≡ is_ground (tree_at terms row))
    → All (λ row. row < length ground) rows → list_all (λ row. get_or ground row false) rows ≡ list_all (λ row. is_ground (tree_at terms row)) rows
told terms ground [] each within = refl
told terms ground (row ∷ rows) each within =
    let first = each row (All-head (λ r. r < length ground) row rows within) in
    let rest = told terms ground rows each (All-tail (λ r. r < length ground) row rows within) in
    λ i. first i && rest i

taken : (terms : List Term) (n row : ℕ) → row < length (take n terms) → get_or (map is_ground (take n terms)) row false ≡ is_ground (tree_at terms row)
taken [] zero row lt = absurd (omega (arith, lt))
taken [] (suc n) row lt = absurd (omega (arith, lt))
taken (t ∷ terms) zero row lt = absurd (omega (arith, lt))
taken (t ∷ terms) (suc n) zero lt = refl
taken (t ∷ terms) (suc n) (suc row) lt = taken terms n row (omega (arith, lt))

-- the rows of a term's arguments are among those that are told of
pub args_within : (terms : List Term) (ground : List Bool) (row : ℕ) (args : List ℕ) → ground ≡ map is_ground (take row terms) → row < length terms
    → All (λ arg. arg < row) args → All (λ arg. arg < length ground) args
args_within terms ground row args is within below =
    let long : length ground ≡ row = ap length is ∙ length-map (take row terms) is_ground ∙ length-take-le row terms (omega (arith, within)) in
    subst (λ n. All (λ arg. arg < n) args) (sym long) below

-- an application is ground if its arguments are told to be
pub application_told : (terms : List Term) (ground : List Bool) (row symbol : ℕ) (args : List ℕ) (answer : Bool) → ground ≡ map is_ground (take row terms)
    → tree_at terms row ≡ app symbol (as_terms (map (tree_at terms) args)) → All (λ arg. arg < length ground) args
    → answer ≡ list_all (λ arg. get_or ground arg false) args → answer ≡ is_ground (tree_at terms row)
application_told terms ground row symbol args answer is tree within tells =
    tells
    ∙ told terms ground args
    (λ k lt. ap (λ bs. get_or bs k false) is ∙ taken terms row k (subst (λ n. k < n) (ap length is ∙ length-map (take row terms) is_ground) lt)) within
    ∙ sym (are_ground-each terms args) ∙ ap is_ground (sym tree)

-- whether a literal is ground, as is told of its rows
pub literal_told : (terms : List Term) (ground : List Bool) (rows : List ℕ) (answer : Bool) → TellsGround terms ground → All (λ row. row < length ground) rows
    → answer ≡ list_all (λ row. get_or ground row false) rows → answer ≡ list_all is_ground (map (tree_at terms) rows)
literal_told terms ground rows answer tells within is =
    is
    ∙ told terms ground rows
    (λ k lt. ap (λ bs. get_or bs k false) tells.is
    ∙ get_or-map is_ground terms k (var 0) false (subst (λ n. k < n) (ap length tells.is ∙ length-map terms is_ground) lt)) within
    ∙ sym (list_all-map is_ground (tree_at terms) rows)

same_row : (terms : List Term) (i j : ℕ) → AreDistinct terms → i < length terms → j < length terms → tree_at terms i ≡ tree_at terms j → i ≡ j
same_row terms i j distinct p q same =
    distinct i j p q (slice_get-get_or terms i (var 0) p ∙ ap Some same ∙ sym (slice_get-get_or terms j (var 0) q))

same_rows : (terms : List Term) (rows others : List ℕ) → AreDistinct terms → All (λ row. row < length terms) rows → All (λ row. row < length terms) others
    → map (tree_at terms) rows ≡ map (tree_at terms) others → rows ≡ others
same_rows terms [] [] distinct p q same = refl
same_rows terms [] (j ∷ others) distinct p q same = cc
same_rows terms (i ∷ rows) [] distinct p q same = cc
same_rows terms (i ∷ rows) (j ∷ others) distinct p q same =
    let first_same : tree_at terms i ≡ tree_at terms j = cc in
    let rest_same : map (tree_at terms) rows ≡ map (tree_at terms) others = cc in
    let first = same_row terms i j distinct (All-head (λ row. row < length terms) i rows p) (All-head (λ row. row < length terms) j others q) first_same in
    let rest = same_rows terms rows others distinct (All-tail (λ row. row < length terms) i rows p) (All-tail (λ row. row < length terms) j others q) rest_same in
    λ k. first k ∷ rest k

same_kept : (terms : List Term) (one other : GroundLiteral) → IsSame one other → literal_kept terms one ≡ literal_kept terms other
same_kept terms one other same = λ i. record { positive = same.positive i; predicate = same.predicate i; args = map (tree_at terms) (same.args i) }

kept_same : (terms : List Term) (one other : GroundLiteral) → AreDistinct terms → All (λ row. row < length terms) one.args.items
    → All (λ row. row < length terms) other.args.items → literal_kept terms one ≡ literal_kept terms other → IsSame one other
kept_same terms one other distinct p q same = record {
  positive = ap (λ (l : Literal). l.positive) same;
  predicate = ap (λ (l : Literal). l.predicate) same;
  args = same_rows terms one.args.items other.args.items distinct p q (ap (λ (l : Literal). l.args) same);
}

-- a place before the next one is the last, or before it
below_next : (k n : ℕ) → k < n → (k < n - 1) ⊎ (k ≡ n - 1)
below_next k n lt =
    elim (cases_lt k (n - 1)) [
      | inl below ↦ inl below
      | inr beyond ↦ let last : k ≡ n - 1 = omega arith in inr last
    ]

same_at : (all : List Literal) (k place : ℕ) (literal own : Literal) → slice_get all k ≡ Some literal → slice_get all place ≡ Some own → k ≡ place → literal ≡ own
same_at all k place literal own is at last = let h : slice_get all k ≡ slice_get all place = ap (slice_get all) last in cc

-- a literal with variables has the number 0
pub numbered_none : (terms : List Term) (all : List Literal) (place : ℕ) (own : Literal) (es : List Entry) → 0 < place → Knows terms all (place - 1) es
    → slice_get all (place - 1) ≡ Some own → list_all is_ground own.args ≡ false → IsNumberOf all own 0 × Knows terms all place es
numbered_none terms all place own es positive knows at open_literal =
    let not_ground : IsGround own → ⊥ = λ ground. true≢false (sym (list_all-from_AllPass is_ground own.args ground) ∙ open_literal) in (
      record { ground = λ lt. absurd (omega (arith, lt)); other = λ is. not_ground },
      record {
        kept = knows.kept;
        each = λ k literal lt is ground.
            elim (below_next k place lt) [
              | inl below ↦ knows.each k literal below is ground
              | inr last ↦ absurd (not_ground (subst IsGround (same_at all k (place - 1) literal own is at last) ground))
            ];
      },
    )

-- a literal without variables that is kept already
numbered_old : (terms : List Term) (all : List Literal) (place : ℕ) (own : Literal) (es : List Entry) (known : Entry) → Knows terms all (place - 1) es
    → slice_get all (place - 1) ≡ Some own → IsGround own → Contains es known → literal_kept terms known.0 ≡ own
    → IsNumberOf all own known.1 × Knows terms all place es
numbered_old terms all place own es known knows at ground has is_own =
    let kept = knows.kept known has in (
      record { ground = λ lt. (ground, subst (λ l. IsFirstAt all l known.1) is_own kept.first); other = λ is. absurd (omega (arith, is, kept.counted)) },
      record {
        kept = knows.kept;
        each = λ k literal lt is its_ground.
            elim (below_next k place lt) [
              | inl below ↦ knows.each k literal below is its_ground
              | inr last ↦ (known, has, is_own ∙ sym (same_at all k (place - 1) literal own is at last))
            ];
      },
    )

-- a literal without variables that is new
numbered_new : (terms : List Term) (all : List Literal) (place : ℕ) (key : GroundLiteral) (es : List Entry) → 0 < place → AreDistinct terms
    → Knows terms all (place - 1) es → slice_get all (place - 1) ≡ Some (literal_kept terms key) → IsGround (literal_kept terms key)
    → All (λ row. row < length terms) key.args.items → ((known : Entry) → Contains es known → ¬ IsSame key known.0)
    → IsNumberOf all (literal_kept terms key) place × Knows terms all place (es ++ (key, place) ∷ [])
numbered_new terms all place key es positive distinct knows at ground rows absent =
    let own = literal_kept terms key in
    let entry : Entry = (key, place) in
    let before : (k : ℕ) → k + 1 < place → slice_get all k ≡ Some own → ⊥ = λ k lt is.
    let low : k < place - 1 = omega (arith, lt) in
    let h = knows.each k own low is ground in
    absent h.0 h.1 (kept_same terms key h.0.0 distinct rows (knows.kept h.0 h.1).rows (sym h.2)) in
    let first : IsFirstAt all own place = record { stands = at; first = before } in (
      record { ground = λ lt. (ground, first); other = λ is. absurd (omega (arith, is, positive)) },
      record {
        kept = λ other has.
            elim (Contains-push_cases es entry other has) [
              | inl old ↦ knows.kept other old
              | inr same ↦ subst (IsKeptOf terms all) same (record { rows = rows; counted = positive; first = first })
            ];
        each = λ k literal lt is its_ground.
            elim (below_next k place lt) [
              | inl below ↦
                  let h = knows.each k literal below is its_ground in
                  (h.0, Contains-append_left es (entry ∷ []) h.0 h.1, h.2)
              | inr last ↦ (entry, Contains-push es entry, sym (same_at all k (place - 1) literal own is at last))
            ];
      },
    )

-- a literal without variables, with the number that is kept for it
numbered : (terms : List Term) (all : List Literal) (place n : ℕ) (key : GroundLiteral) (es new : List Entry) → 0 < place → AreDistinct terms
    → Knows terms all (place - 1) es → slice_get all (place - 1) ≡ Some (literal_kept terms key) → list_all is_ground (literal_kept terms key).args ≡ true
    → All (λ row. row < length terms) key.args.items → Keeps es new key place n
    → IsNumberOf all (literal_kept terms key) n × Knows terms all place new
numbered terms all place n key es new positive distinct knows at told rows (inl h) =
    let own = literal_kept terms key in
    let ground : IsGround own = AllPass-from_list_all is_ground own.args told in
    subst (λ m. IsNumberOf all own m × Knows terms all place new) (sym h.is)
    (subst (λ es'. IsNumberOf all own h.known.1 × Knows terms all place es') (sym h.unchanged)
    (numbered_old terms all place own es h.known knows at ground h.stands (sym (same_kept terms key h.known.0 h.same))))
numbered terms all place n key es new positive distinct knows at told rows (inr h) =
    let own = literal_kept terms key in
    let ground : IsGround own = AllPass-from_list_all is_ground own.args told in
    subst (λ m. IsNumberOf all own m × Knows terms all place new) (sym h.is)
    (subst (λ es'. IsNumberOf all own place × Knows terms all place es') (sym h.grown)
    (numbered_new terms all place key es positive distinct knows at ground rows h.absent))

-- one more pair
AllZip-more : {A B : Type 0} (R : A → B → Type 0) (xs : List A) (ys : List B) (x : A) (y : B) → AllZip R xs ys → R x y → AllZip R (xs ++ x ∷ []) (ys ++ y ∷ [])
AllZip-more R [] [] x y all one = (one, tt)
AllZip-more R [] (z ∷ ys) x y all one = absurd all
AllZip-more R (w ∷ xs) [] x y all one = absurd all
AllZip-more R (w ∷ xs) (z ∷ ys) x y all one = (all.0, AllZip-more R xs ys x y all.1 one)

slice_get-left : {A : Type 0} (xs ys : List A) (k : ℕ) → k < length xs → slice_get (xs ++ ys) k ≡ slice_get xs k
slice_get-left [] ys k lt = absurd (omega (arith, lt))
slice_get-left (x ∷ xs) ys zero lt = refl
slice_get-left (x ∷ xs) ys (suc k) lt = slice_get-left xs ys k (omega (arith, lt))

slice_get-right : {A : Type 0} (xs ys : List A) (k : ℕ) → slice_get (xs ++ ys) (length xs + k) ≡ slice_get ys k
slice_get-right [] ys k = let start : 0 + k ≡ k = omega arith in ap (slice_get ys) start
slice_get-right (x ∷ xs) ys k = let next : suc (length xs) + k ≡ suc (length xs + k) = omega arith in ap (slice_get (x ∷ xs ++ ys)) next ∙ slice_get-right xs ys k

-- a clause's literals stand after those of the clauses before it
pub clause_stands : (clauses : List Clause) (i : ℕ) (clause : Clause) → slice_get clauses i ≡ Some clause
    → StandAfter (all_literals clauses) (length (all_literals (take i clauses))) clause.literals
clause_stands [] i clause is = cc
clause_stands (c ∷ clauses) zero clause is =
    let same : c ≡ clause = cc in
    λ k lt.
    let start : 0 + k ≡ k = omega arith in
    ap (slice_get (c.literals ++ all_literals clauses)) start ∙ ap (λ (x : Clause). slice_get (x.literals ++ all_literals clauses) k) same
    ∙ slice_get-left clause.literals (all_literals clauses) k lt
clause_stands (c ∷ clauses) (suc i) clause is =
    λ k lt.
    let before = all_literals (take i clauses) in
    let sum : length (c.literals ++ before) + k ≡ length c.literals + (length before + k) = omega (arith, length-append c.literals before) in
    ap (slice_get (c.literals ++ all_literals clauses)) sum ∙ slice_get-right c.literals (all_literals clauses) (length before + k) ∙ clause_stands clauses i clause is k lt

-- how many literals stand before the next clause
pub counted_more : (clauses : List Clause) (i : ℕ) (clause : Clause) → slice_get clauses i ≡ Some clause
    → length (all_literals (take (i + 1) clauses)) ≡ length (all_literals (take i clauses)) + length clause.literals
counted_more [] i clause is = cc
counted_more (c ∷ clauses) zero clause is =
    let same : c ≡ clause = cc in
    length-append c.literals [] ∙ ap (λ (x : Clause). length x.literals + 0) same ∙ omega arith
counted_more (c ∷ clauses) (suc i) clause is =
    let next : suc i + 1 ≡ suc (i + 1) = omega arith in
    ap (λ n. length (all_literals (take n (c ∷ clauses)))) next
    ∙ omega (arith, length-append c.literals (all_literals (take (i + 1) clauses)), length-append c.literals (all_literals (take i clauses)), counted_more clauses i clause is)

-- the literal of a key that is kept has the number
literal_numbered : (terms : List Term) (all : List Literal) (ground : List Bool) (place n : ℕ) (literal : Rows) (key : GroundLiteral) (es new : List Entry) → 0 < place
    → TellsGround terms ground → Knows terms all (place - 1) es → slice_get all (place - 1) ≡ Some (literal_of terms literal)
    → HasRows (length ground) literal → true ≡ list_all (λ row. get_or ground row false) literal.args.items
    → literal.positive ≡ key.positive → literal.predicate ≡ key.predicate → literal.args.items ≡ key.args.items
    → Keeps es new key place n → IsNumberOf all (literal_of terms literal) n × Knows terms all place new
literal_numbered terms all ground place n literal key es new positive tells knows at within told_so p q r keeps =
    let own = literal_of terms literal in
    let same : own ≡ literal_kept terms key = λ i. record { positive = p i; predicate = q i; args = map (tree_at terms) (r i) } in
    let rows = subst (λ m. All (λ row. row < m) literal.args.items) (ap length tells.is ∙ length-map terms is_ground) within in
    subst (λ l. IsNumberOf all l n × Knows terms all place new) (sym same)
    (numbered terms all place n key es new positive tells.distinct knows (at ∙ ap Some same)
    (ap (λ (l : Literal). list_all is_ground l.args) (sym same) ∙ sym (literal_told terms ground literal.args.items true tells within told_so))
    (subst (All (λ row. row < length terms)) r rows) keeps)

pub key_numbered : (terms : List Term) (all : List Literal) (ground : List Bool) (place : ℕ) (literal : Rows) (key : GroundLiteral) (es new : List Entry)
    (result : Result ℕ AllocError) → 0 < place
    → TellsGround terms ground → Knows terms all (place - 1) es → slice_get all (place - 1) ≡ Some (literal_of terms literal)
    → HasRows (length ground) literal → true ≡ list_all (λ row. get_or ground row false) literal.args.items
    → literal.positive ≡ key.positive → literal.predicate ≡ key.predicate → literal.args.items ≡ key.args.items
    → IfOk result (Keeps es new key place) → IfOk result (λ n. IsNumberOf all (literal_of terms literal) n × Knows terms all place new)
key_numbered terms all ground place literal key es new (Ok n) positive tells knows at within told_so p q r keeps =
    literal_numbered terms all ground place n literal key es new positive tells knows at within told_so p q r keeps
key_numbered terms all ground place literal key es new (Err e) positive tells knows at within told_so p q r keeps = tt

-- a literal stands in its place
pub literal_stands : (terms : List Term) (all : List Literal) (count i place : ℕ) (literals : List Rows) (own : Rows) → StandAfter all count (map (literal_of terms) literals)
    → i < length literals → own ≡ get_or literals i own → place ≡ count + i → slice_get all place ≡ Some (literal_of terms own)
literal_stands terms all count i place literals own stand lt is at =
    let low : i < length (map (literal_of terms) literals) = omega (arith, lt, length-map literals (literal_of terms)) in
    ap (slice_get all) at ∙ stand i low ∙ slice_get-map (literal_of terms) literals i ∙ ap (option_map (literal_of terms)) (slice_get-get_or literals i own lt ∙ ap Some (sym is))

-- one more literal has its number
pub literals_more : (terms : List Term) (all : List Literal) (literals : List Rows) (i n : ℕ) (own : Rows) (numbers new : List ℕ) → i < length literals
    → own ≡ get_or literals i own → AreNumbersOf all (map (literal_of terms) (take i literals)) numbers → IsNumberOf all (literal_of terms own) n
    → new ≡ numbers ++ n ∷ [] → AreNumbersOf all (map (literal_of terms) (take (i + 1) literals)) new
literals_more terms all literals i n own numbers new lt is before its grown =
    let taken_more : take (i + 1) literals ≡ take i literals ++ own ∷ [] = take_more literals i own lt ∙ ap (λ l. take i literals ++ l ∷ []) (sym is) in
    subst (AreNumbersOf all (map (literal_of terms) (take (i + 1) literals))) (sym grown)
    (subst (λ ls. AreNumbersOf all ls (numbers ++ n ∷ [])) (sym (ap (map (literal_of terms)) taken_more ∙ map-append (literal_of terms) (take i literals) (own ∷ [])))
    (AllZip-more (IsNumberOf all) (map (literal_of terms) (take i literals)) numbers (literal_of terms own) n before its))

-- one more clause has its numbers
pub clauses_more : (clauses : List Clause) (i : ℕ) (clause : Clause) (own : Vec ℕ Global) (numbers new : List (Vec ℕ Global)) → slice_get clauses i ≡ Some clause
    → AllZip (λ c ns. AreNumbersOf (all_literals clauses) c.literals ns) (take i clauses) (map (λ ns. ns.items) numbers)
    → AreNumbersOf (all_literals clauses) clause.literals own.items → new ≡ numbers ++ own ∷ []
    → AllZip (λ c ns. AreNumbersOf (all_literals clauses) c.literals ns) (take (i + 1) clauses) (map (λ ns. ns.items) new)
clauses_more clauses i clause own numbers new is before its grown =
    let R : Clause → List ℕ → Type 0 = λ c ns. AreNumbersOf (all_literals clauses) c.literals ns in
    let items : Vec ℕ Global → List ℕ = λ ns. ns.items in
    let taken_more : take (i + 1) clauses ≡ take i clauses ++ clause ∷ [] =
    take_more clauses i clause (slice_get_within clauses i clause is) ∙ ap (λ c. take i clauses ++ c ∷ []) (get_or_from_slice_get clauses i clause clause is) in
    subst (λ cs. AllZip R cs (map items new)) (sym taken_more)
    (subst (AllZip R (take i clauses ++ clause ∷ [])) (sym (ap (map items) grown ∙ map-append items numbers (own ∷ [])))
    (AllZip-more R (take i clauses) (map items numbers) clause own.items before its))

-- a clause has few literals
pub few_literals : (problem : Problem) (i : ℕ) (clause : Clause) → IsValid problem → slice_get problem.clauses i ≡ Some clause → length clause.literals ≤ 255
few_literals problem i clause valid is =
    let within = slice_get_within problem.clauses i clause is in
    subst (λ (c : Clause). length c.literals ≤ 255) (get_or_from_slice_get problem.clauses i clause clause is) (valid.clauses i clause within).few

all_taken : (clauses : List Clause) (i : ℕ) → length clauses ≤ i → take i clauses ≡ clauses
all_taken [] zero long = refl
all_taken [] (suc i) long = refl
all_taken (c ∷ clauses) zero long = absurd (omega (arith, long))
all_taken (c ∷ clauses) (suc i) long = ap (λ cs. c ∷ cs) (all_taken clauses i (omega (arith, long)))

-- all clauses have their numbers
pub all_numbered : (clauses : List Clause) (i : ℕ) (numbers : List (List ℕ)) → length clauses ≤ i
    → AllZip (λ c ns. AreNumbersOf (all_literals clauses) c.literals ns) (take i clauses) numbers → AreNumbers clauses numbers
all_numbered clauses i numbers long all =
    subst (λ cs. AllZip (λ (c : Clause) (ns : List ℕ). AreNumbersOf (all_literals clauses) c.literals ns) cs numbers) (all_taken clauses i long) all

-- the clause of a step that may be taken is one of the clauses
start_within : (clauses : List Clause) (state : State) (c : ℕ) → MayTake clauses state (start c) → c < length clauses
start_within clauses empty c may = may
start_within clauses (rooted root children) c may = by (selected (rooted root children)) may
  where
    by : (leaf : Option Subgoal) → IsSomeAnd leaf (λ l. IsStepAt clauses l (start c)) → c < length clauses
    by None h = absurd h
    by (Some l) h = absurd h

extension_within : (clauses : List Clause) (state : State) (c j : ℕ) → MayTake clauses state (extend c j) → c < length clauses
extension_within clauses empty c j may = absurd may
extension_within clauses (rooted root children) c j may = by (selected (rooted root children)) may
  where
    by : (leaf : Option Subgoal) → IsSomeAnd leaf (λ l. IsStepAt clauses l (extend c j)) → c < length clauses
    by None h = absurd h
    by (Some l) h = slice_get_within clauses c h.its_clause h.stands

-- the step is a start or an extension with the clause
abbrev pub IsWith : CodeStep → ℕ → Type 0
IsWith step c = (step ≡ Start c) ⊎ ((j : ℕ) × (step ≡ Extend c j))

pub with_within : (clauses : List Clause) (step : CodeStep) (c : ℕ) → IsWith step c → (state : State) × MayTake clauses state (step_named step) → c < length clauses
with_within clauses step c (inl is) may =
    start_within clauses may.0 c (subst (λ s. MayTake clauses may.0 (step_named s)) is may.1)
with_within clauses step c (inr (j, is)) may =
    extension_within clauses may.0 c j (subst (λ s. MayTake clauses may.0 (step_named s)) is may.1)

pub counted_clauses : (clauses : List Clause) (numbers : List (Vec ℕ Global)) → AreNumbers clauses (map (λ own. own.items) numbers) → length numbers ≡ length clauses
counted_clauses clauses numbers all =
    let items : Vec ℕ Global → List ℕ = λ own. own.items in
    sym (length-map numbers items) ∙ AllZip-long (λ clause own. AreNumbersOf (all_literals clauses) clause.literals own) clauses (map items numbers) all

numbers_at : (all : List Literal) (clauses : List Clause) (numbers : List (Vec ℕ Global)) (c : ℕ) (own : Vec ℕ Global) → c < length clauses
    → AllZip (λ clause ns. AreNumbersOf all clause.literals ns) clauses (map (λ ns. ns.items) numbers) → own ≡ get_or numbers c own
    → AreNumbersOf all (literals_at clauses c) own.items
numbers_at all [] numbers c own lt zipped is = absurd (omega (arith, lt))
numbers_at all (k ∷ clauses) [] c own lt zipped is = absurd zipped
numbers_at all (k ∷ clauses) (ns ∷ numbers) zero own lt zipped is =
    subst (λ (v : Vec ℕ Global). AreNumbersOf all k.literals v.items) (sym is) zipped.0
numbers_at all (k ∷ clauses) (ns ∷ numbers) (suc c) own lt zipped is = numbers_at all clauses numbers c own (omega (arith, lt)) zipped.1 is

-- the numbers of the clause are those that the step asks for
pub numbers_for : (clauses : List Clause) (numbers : List (Vec ℕ Global)) (step : CodeStep) (c : ℕ) (own : Vec ℕ Global) → IsWith step c → c < length clauses
    → AreNumbers clauses (map (λ ns. ns.items) numbers) → own ≡ get_or numbers c own → AreNumbersFor clauses (step_named step) own.items
numbers_for clauses numbers step c own (inl with_clause) lt all is =
    subst (λ s. AreNumbersFor clauses (step_named s) own.items) (sym with_clause) (numbers_at (all_literals clauses) clauses numbers c own lt all is)
numbers_for clauses numbers step c own (inr (j, with_clause)) lt all is =
    subst (λ s. AreNumbersFor clauses (step_named s) own.items) (sym with_clause) (numbers_at (all_literals clauses) clauses numbers c own lt all is)
