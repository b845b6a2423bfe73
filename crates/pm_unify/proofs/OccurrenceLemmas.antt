-- The search for a variable in the tree of a cell.
use Rattle.std.proofs.Common.{◌≡◌, ℕ, zero, suc, ◌+◌, ◌<◌, ◌≤◌, inl, inr, List, [], ◌∷◌, ◌++◌, length, map, take, get_or, refl, sym, ◌∙◌, ap, subst, arith, Bool, true, false, eqb, eq-eqb, eqb-true, true≢false}
use Rattle.std.specs.Prelude.{◌↔◌, IsTrue, All, Contains}
use Rattle.std.proofs.lemmas.List.{take_more, take_all}
use Rattle.std.proofs.lemmas.List.Elements.{All-nil, All-cons, All-head, All-tail, All-append, All-push, All-contains}
use Rattle.pm_logic.specs.Term.{Term, var, app, as_terms}
use Rattle.pm_store.specs.Equations.{Equations, IsFree}
use Rattle.pm_store.specs.Sound.{IsSound}
use Rattle.pm_store.specs.Trees.{tree, Occurs, OccursAmong, size, size_among}
use Rattle.pm_store.proofs.TermLemmas.{size-positive}
use Rattle.pm_store.proofs.TreeLemmas.{free_variables_stand}
use Rattle.pm_unify.specs.Inside.Support.{IsSupported, Notes}
use Rattle.pm_unify.proofs.TurnLemmas.{total-popped, total-replaced}
use Rattle.pm_unify.proofs.SupportLemmas.{total, all_supported, supported_drop, supported_again, supported_open, supported_enter}
use Rattle.pm_store.proofs.ListLemmas.{All-left, All-right, All-last}

abbrev pub Lacks : Equations → ℕ → ℕ → Type 0
Lacks s v c = ¬ Occurs v (tree s c)

abbrev pub cell_size : Equations → ℕ → ℕ
cell_size s c = size (tree s c)

abbrev pub Leads : Equations → ℕ → ℕ → ℕ → Type 0
Leads s v t c = Occurs v (tree s c) → Occurs v (tree s t)

-- where the variable occurs in none of the pending cells' trees, it occurs neither in that of the first cell
pub record Searches (s : Equations) (v t : ℕ) (pending visited : List ℕ) : Type 0 where
  pub within : All (λ c. c < length s.cells) pending
  pub leads : All (Leads s v t) pending
  pub lacks : All (Lacks s v) pending → All (Lacks s v) visited → Lacks s v t
  pub supported : IsSupported (cell_size s) (Lacks s v) pending visited

among_leads : (v : ℕ) (trees : ℕ → Term) (args : List ℕ) (P : Type 0) → (OccursAmong v (as_terms (map trees args)) → P)
    → All (λ x. Occurs v (trees x) → P) args
among_leads v trees [] P then = All-nil (λ x. Occurs v (trees x) → P)
among_leads v trees (x ∷ xs) P then =
    All-cons (λ y. Occurs v (trees y) → P) x xs (λ here. then (inl here)) (among_leads v trees xs P (λ later. then (inr later)))

among_lacks : (v : ℕ) (trees : ℕ → Term) (args : List ℕ) → All (λ x. ¬ Occurs v (trees x)) args → OccursAmong v (as_terms (map trees args)) → ⊥
among_lacks v trees [] lacks occurs = occurs
among_lacks v trees (x ∷ xs) lacks (inl here) = All-head (λ y. ¬ Occurs v (trees y)) x xs lacks here
among_lacks v trees (x ∷ xs) lacks (inr later) = among_lacks v trees xs (All-tail (λ y. ¬ Occurs v (trees y)) x xs lacks) later

-- what one look at a cell tells: a free variable, or an application without arguments
pub occurs_in_variable : (s : Equations) (v c w : ℕ) (answer : Bool) → IsSound s → IsFree s w → tree s c ≡ tree s w → answer ≡ eqb w v
    → IsTrue answer ↔ Occurs v (tree s c)
occurs_in_variable s v c w answer sound free is_end is =
    let shown : tree s c ≡ var w = is_end ∙ free_variables_stand s w sound free in (
      λ yes. subst (λ (u : Term). Occurs v u) (sym shown) (sym (eqb-true w v (sym is ∙ yes))),
      λ occurs. is ∙ eq-eqb w v (sym (subst (λ (u : Term). Occurs v u) shown occurs)),
    )

pub constant_lacks : (s : Equations) (v c symbol : ℕ) (args : List ℕ) → tree s c ≡ app symbol (as_terms (map (tree s) args)) → length args ≡ 0 → Lacks s v c
constant_lacks s v c symbol [] shown none occurs = subst (λ (u : Term). Occurs v u) shown occurs
constant_lacks s v c symbol (x ∷ xs) shown none occurs = omega (arith, none)

-- cells that were looked at one by one
pub lacks_more : (s : Equations) (v : ℕ) (cells : List ℕ) (i c : ℕ) → i < length cells → c ≡ get_or cells i c → All (Lacks s v) (take i cells) → Lacks s v c
    → All (Lacks s v) (take (i + 1) cells)
lacks_more s v cells i c within read before here =
    subst (λ (cs : List ℕ). All (Lacks s v) cs) (sym (take_more cells i c within ∙ ap (λ x. take i cells ++ x ∷ []) (sym read)))
    (All-push (Lacks s v) (take i cells) c before here)

pub lacks_all : (s : Equations) (v : ℕ) (cells : List ℕ) (i : ℕ) → length cells ≤ i → All (Lacks s v) (take i cells) → OccursAmong v (as_terms (map (tree s) cells)) → ⊥
lacks_all s v cells i beyond lacks =
    among_lacks v (tree s) cells (subst (λ (cs : List ℕ). All (Lacks s v) cs) (take_all i cells beyond) lacks)

found_at : (v : ℕ) (trees : ℕ → Term) (cells : List ℕ) (i d : ℕ) → i < length cells → Occurs v (trees (get_or cells i d)) → OccursAmong v (as_terms (map trees cells))
found_at v trees [] i d within occurs = absurd (omega arith)
found_at v trees (x ∷ xs) zero d within occurs = inl occurs
found_at v trees (x ∷ xs) (suc i) d within occurs = inr (found_at v trees xs i d (omega arith) occurs)

pub found_among : (s : Equations) (v : ℕ) (cells : List ℕ) (i c : ℕ) → i < length cells → c ≡ get_or cells i c → Occurs v (tree s c) → OccursAmong v (as_terms (map (tree s) cells))
found_among s v cells i c within read occurs = found_at v (tree s) cells i c within (subst (λ (n : ℕ). Occurs v (tree s n)) read occurs)

args_smaller : (trees : ℕ → Term) (args : List ℕ) (n : ℕ) → size_among (as_terms (map trees args)) < n → All (λ x. size (trees x) < n) args
args_smaller trees [] n less = All-nil (λ x. size (trees x) < n)
args_smaller trees (x ∷ xs) n less =
    All-cons (λ y. size (trees y) < n) x xs (omega (arith, less)) (args_smaller trees xs n (omega (arith, less)))

pub total-args : (trees : ℕ → Term) (args : List ℕ) → total (λ x. size (trees x)) args ≡ size_among (as_terms (map trees args))
total-args trees [] = refl
total-args trees (x ∷ xs) = omega (arith, total-args trees xs)

pub search_starts : (s : Equations) (v t : ℕ) → t < length s.cells → Searches s v t (t ∷ []) []
search_starts s v t within = record {
  within = All-cons (λ c. c < length s.cells) t [] within (All-nil (λ c. c < length s.cells));
  leads = All-cons (Leads s v t) t [] (λ occurs. occurs) (All-nil (Leads s v t));
  lacks = λ pending visited. All-head (Lacks s v) t [] pending;
  supported = λ n below_pending below_visited. All-nil (λ c. cell_size s c < suc n → Lacks s v c);
}

pub search_drops : (s : Equations) (v t : ℕ) (rest visited : List ℕ) (c : ℕ) → Lacks s v c → Searches s v t (rest ++ c ∷ []) visited → Searches s v t rest visited
search_drops s v t rest visited c lacks search' = record {
  within = All-left (λ x. x < length s.cells) rest (c ∷ []) search'.within;
  leads = All-left (Leads s v t) rest (c ∷ []) search'.leads;
  lacks = λ pending seen. search'.lacks (All-push (Lacks s v) rest c pending lacks) seen;
  supported = supported_drop (cell_size s) (Lacks s v) rest visited c (λ n below less. lacks) search'.supported;
}

pub search_again : (s : Equations) (v t : ℕ) (rest visited : List ℕ) (c : ℕ) → Contains visited c → Searches s v t (rest ++ c ∷ []) visited → Searches s v t rest visited
search_again s v t rest visited c there search' = record {
  within = All-left (λ x. x < length s.cells) rest (c ∷ []) search'.within;
  leads = All-left (Leads s v t) rest (c ∷ []) search'.leads;
  lacks = λ pending seen. search'.lacks (All-push (Lacks s v) rest c pending (All-contains (Lacks s v) visited c seen there)) seen;
  supported = supported_again (cell_size s) (Lacks s v) rest visited c there search'.supported;
}

pub search_opens : (s : Equations) (v t : ℕ) (rest visited : List ℕ) (c symbol : ℕ) (args : List ℕ) → All (λ x. x < length s.cells) args
    → tree s c ≡ app symbol (as_terms (map (tree s) args)) → Searches s v t (rest ++ c ∷ []) visited → Searches s v t (rest ++ args) visited
search_opens s v t rest visited c symbol args below is search' =
    let to_args : Occurs v (tree s c) → OccursAmong v (as_terms (map (tree s) args)) = λ occurs. subst (λ (u : Term). Occurs v u) is occurs in
    let from_args : OccursAmong v (as_terms (map (tree s) args)) → Occurs v (tree s c) = λ among. subst (λ (u : Term). Occurs v u) (sym is) among in
    let larger : size_among (as_terms (map (tree s) args)) < cell_size s c = omega (arith, ap size is) in
    let by_args : All (Lacks s v) args → Lacks s v c = λ lacks occurs. among_lacks v (tree s) args lacks (to_args occurs) in
    record {
      within = All-append (λ x. x < length s.cells) rest args (All-left (λ x. x < length s.cells) rest (c ∷ []) search'.within) below;
      leads = All-append (Leads s v t) rest args (All-left (Leads s v t) rest (c ∷ []) search'.leads)
          (among_leads v (tree s) args (Occurs v (tree s t)) (λ among. All-last (Leads s v t) rest c search'.leads (from_args among)));
      lacks = λ pending seen.
          search'.lacks (All-push (Lacks s v) rest c (All-left (Lacks s v) rest args pending) (by_args (All-right (Lacks s v) rest args pending))) seen;
      supported = supported_open (cell_size s) (Lacks s v) rest args visited c (args_smaller (tree s) args (cell_size s c) larger) by_args search'.supported;
    }

pub search_enters : (s : Equations) (v t : ℕ) (rest visited : List ℕ) (c symbol : ℕ) (args : List ℕ) → All (λ x. x < length s.cells) args
    → tree s c ≡ app symbol (as_terms (map (tree s) args)) → Searches s v t (rest ++ c ∷ []) visited → Searches s v t (rest ++ args) (visited ++ c ∷ [])
search_enters s v t rest visited c symbol args below is search' =
    let to_args : Occurs v (tree s c) → OccursAmong v (as_terms (map (tree s) args)) = λ occurs. subst (λ (u : Term). Occurs v u) is occurs in
    let from_args : OccursAmong v (as_terms (map (tree s) args)) → Occurs v (tree s c) = λ among. subst (λ (u : Term). Occurs v u) (sym is) among in
    let larger : size_among (as_terms (map (tree s) args)) < cell_size s c = omega (arith, ap size is) in
    record {
      within = All-append (λ x. x < length s.cells) rest args (All-left (λ x. x < length s.cells) rest (c ∷ []) search'.within) below;
      leads = All-append (Leads s v t) rest args (All-left (Leads s v t) rest (c ∷ []) search'.leads)
          (among_leads v (tree s) args (Occurs v (tree s t)) (λ among. All-last (Leads s v t) rest c search'.leads (from_args among)));
      lacks = λ pending seen.
          search'.lacks (All-push (Lacks s v) rest c (All-left (Lacks s v) rest args pending) (All-last (Lacks s v) visited c seen))
          (All-left (Lacks s v) visited (c ∷ []) seen);
      supported = supported_enter (cell_size s) (Lacks s v) rest args visited c (args_smaller (tree s) args (cell_size s c) larger)
          (λ lacks occurs. among_lacks v (tree s) args lacks (to_args occurs)) search'.supported;
    }

pub search_ends : (s : Equations) (v t : ℕ) (visited : List ℕ) → Searches s v t [] visited → Lacks s v t
search_ends s v t visited search' =
    search'.lacks (All-nil (Lacks s v)) (all_supported (cell_size s) (Lacks s v) visited search'.supported)

pub cells_fewer : (s : Equations) (pending rest : List ℕ) (c : ℕ) → pending ≡ rest ++ c ∷ [] → total (cell_size s) rest < total (cell_size s) pending
cells_fewer s pending rest c is = total-popped (cell_size s) pending rest c is (size-positive (tree s c))

pub args_fewer : (s : Equations) (pending rest args now : List ℕ) (c symbol : ℕ) → pending ≡ rest ++ c ∷ [] → now ≡ rest ++ args
    → tree s c ≡ app symbol (as_terms (map (tree s) args)) → total (cell_size s) now < total (cell_size s) pending
args_fewer s pending rest args now c symbol is after shown =
    total-replaced (cell_size s) pending rest args now c is after (omega (arith, total-args (tree s) args, ap size shown))

module _ (s : Equations) (v t : ℕ) (now rest visited : List ℕ) (c : ℕ) (is : now ≡ rest ++ c ∷ []) (before : Searches s v t now visited) where
  popped : Searches s v t (rest ++ c ∷ []) visited
  popped = subst (λ (cs : List ℕ). Searches s v t cs visited) is before

  -- the variable is the one at the end of the bindings
  pub turn_found : (w : ℕ) → IsSound s → IsFree s w → tree s c ≡ tree s w → v ≡ w → Occurs v (tree s t)
  turn_found w sound free is_end same =
      All-last (Leads s v t) rest c popped.leads (subst (λ (u : Term). Occurs v u) (sym (is_end ∙ free_variables_stand s w sound free)) same)

  pub turn_lacks : (w : ℕ) → IsSound s → IsFree s w → tree s c ≡ tree s w → eqb w v ≡ false → Searches s v t rest visited
  turn_lacks w sound free is_end other =
      search_drops s v t rest visited c
      (λ occurs. true≢false (sym (eq-eqb w v (sym (subst (λ (u : Term). Occurs v u) (is_end ∙ free_variables_stand s w sound free) occurs))) ∙ other)) popped

  pub turn_again : (keys : List ℕ) (is_new : Bool) → Notes visited keys c is_new → is_new ≡ false → Searches s v t rest keys
  turn_again keys is_new noted answer =
      let notes : Notes visited keys c false = subst (λ (b : Bool). Notes visited keys c b) answer noted in
      subst (λ (cs : List ℕ). Searches s v t rest cs) (sym notes.0) (search_again s v t rest visited c notes.1 popped)

  pub turn_enters : (keys after : List ℕ) (symbol : ℕ) (args : List ℕ) (is_new : Bool) → Notes visited keys c is_new → is_new ≡ true → after ≡ rest ++ args
      → All (λ x. x < length s.cells) args → tree s c ≡ app symbol (as_terms (map (tree s) args)) → Searches s v t after keys
  turn_enters keys after symbol args is_new noted answer put_in below shown =
      let notes : Notes visited keys c true = subst (λ (b : Bool). Notes visited keys c b) answer noted in
      subst (λ (cs : List ℕ). Searches s v t cs keys) (sym put_in)
      (elim notes [
        | inl same ↦ subst (λ (cs : List ℕ). Searches s v t (rest ++ args) cs) (sym same) (search_opens s v t rest visited c symbol args below shown popped)
        | inr more ↦ subst (λ (cs : List ℕ). Searches s v t (rest ++ args) cs) (sym more) (search_enters s v t rest visited c symbol args below shown popped)
      ])
