-- The trees of a table's entries, and the row that a term gets.
use Rattle.std.proofs.Common.{◌≡◌, ℕ, zero, suc, ◌+◌, ◌<◌, ◌≤◌, inl, inr, List, [], ◌∷◌, ◌++◌, Some, All, length, map, slice_get, get_or, refl, sym, ◌∙◌, ap, subst, arith}
use Rattle.std.specs.Prelude.{Contains, Vec}
use Rattle.std.specs.declared.alloc.Global.{Global}
use Rattle.std.proofs.Math.Seq.{get_or-append_seam}
use Rattle.std.proofs.Math.ListN.{get_or-append}
use Rattle.std.proofs.lemmas.List.{length_push, append_assoc, append-nil}
use Rattle.std.proofs.lemmas.List.Elements.{All-head, All-tail}
use Rattle.std.proofs.lemmas.Option.{slice_get_within, slice_get-get_or, get_or_from_slice_get}
use Rattle.pm_logic.specs.declared.terms.Entry.{Entry}
use Rattle.pm_logic.specs.declared.terms.Entry.TheVariants.{Var, App}
use Rattle.pm_logic.specs.Lists.{AreDistinct}
use Rattle.pm_logic.specs.Term.{Term, var, app, as_terms, list_of, tree_at}
use Rattle.pm_logic.specs.Inside.Interned.{IsSame, IsFound, IsNew, Interns}
use Rattle.pm_logic.specs.Table.{tree_of, trees_from, trees, PointsBelow, PointDown, variable_count, IsTable, Adds}
use Rattle.pm_logic.proofs.ListLemmas.{Contains-from, Contains-stands, slice_get-last, Contains-push, AreDistinct-push}

pub list_of-as_terms : (ts : List Term) → list_of (as_terms ts) ≡ ts
list_of-as_terms [] = refl
list_of-as_terms (t ∷ ts) = ap (λ us. t ∷ us) (list_of-as_terms ts)

length-trees_from : (before : List Term) (es : List Entry) → length (trees_from before es) ≡ length before + length es
length-trees_from before [] = omega arith
length-trees_from before (e ∷ es) =
    omega (arith, length-trees_from (before ++ tree_of before e ∷ []) es, length_push before (tree_of before e))

pub length-trees : (es : List Entry) → length (trees es) ≡ length es
length-trees es = omega (arith, length-trees_from [] es)

-- the trees before stay
trees_from-later : (before : List Term) (es : List Entry) → (more : List Term) × (trees_from before es ≡ before ++ more)
trees_from-later before [] = ([], sym (append-nil before))
trees_from-later before (e ∷ es) =
    let h = trees_from-later (before ++ tree_of before e ∷ []) es in
    (tree_of before e ∷ h.0, h.1 ∙ append_assoc before (tree_of before e ∷ []) h.0)

trees_from-push : (before : List Term) (es : List Entry) (e : Entry) → trees_from before (es ++ e ∷ []) ≡ trees_from before es ++ tree_of (trees_from before es) e ∷ []
trees_from-push before [] e = refl
trees_from-push before (f ∷ es) e = trees_from-push (before ++ tree_of before f ∷ []) es e

-- one more entry is one more tree
pub trees-push : (es : List Entry) (e : Entry) → trees (es ++ e ∷ []) ≡ trees es ++ tree_of (trees es) e ∷ []
trees-push es e = trees_from-push [] es e

-- rows show the same trees in a list with more
map_tree_at-more : (ts us : List Term) (rows : List ℕ) → All (λ row. row < length ts) rows → map (tree_at (ts ++ us)) rows ≡ map (tree_at ts) rows
map_tree_at-more ts us [] h = refl
map_tree_at-more ts us (row ∷ rows) h =
    let first = get_or-append ts us (var 0) row (All-head (λ row. row < length ts) row rows h) in
    let rest = map_tree_at-more ts us rows (All-tail (λ row. row < length ts) row rows h) in
    λ i. first i ∷ rest i

tree_of-more : (ts us : List Term) (e : Entry) → PointsBelow (length ts) e → tree_of (ts ++ us) e ≡ tree_of ts e
tree_of-more ts us (Var n) h = refl
tree_of-more ts us (App symbol args) h = ap (λ trees. app symbol (as_terms trees)) (map_tree_at-more ts us args.items h)

-- an entry with its tree: its rows come before its own
pub record StandsAt (ts : List Term) (row : ℕ) (e : Entry) : Type 0 where
  pub below : PointsBelow row e
  pub within : row < length ts
  pub tree : tree_at ts row ≡ tree_of ts e

stands_first : (before : List Term) (row : ℕ) (e : Entry) (es : List Entry) → row ≡ length before → PointsBelow row e
    → StandsAt (trees_from before (e ∷ es)) row e
stands_first before row e es is below =
    let t = tree_of before e in
    let h = trees_from-later (before ++ t ∷ []) es in
    let whole : trees_from before (e ∷ es) ≡ before ++ t ∷ h.0 = h.1 ∙ append_assoc before (t ∷ []) h.0 in
    let own : tree_at (before ++ t ∷ h.0) row ≡ t = ap (tree_at (before ++ t ∷ h.0)) is ∙ get_or-append_seam before t h.0 (var 0) in
    let same : tree_of (before ++ t ∷ h.0) e ≡ t = tree_of-more before (t ∷ h.0) e (subst (λ n. PointsBelow n e) is below) in
    record {
      below = below;
      within = omega (arith, is, length-trees_from before (e ∷ es));
      tree = subst (λ ts. tree_at ts row ≡ tree_of ts e) (sym whole) (own ∙ sym same);
    }

stands_from : (before : List Term) (es : List Entry) (row n : ℕ) (e : Entry) → row ≡ length before → PointDown row es → slice_get es n ≡ Some e
    → StandsAt (trees_from before es) (row + n) e
stands_from before [] row n e is down stands = cc
stands_from before (f ∷ es) row zero e is down stands =
    let same : f ≡ e = cc in
    let here : row ≡ row + zero = omega arith in
    subst (λ n. StandsAt (trees_from before (f ∷ es)) n e) here
    (subst (StandsAt (trees_from before (f ∷ es)) row) same (stands_first before row f es is down.0))
stands_from before (f ∷ es) row (suc n) e is down stands =
    let next : row + 1 ≡ length (before ++ tree_of before f ∷ []) = omega (arith, is, length_push before (tree_of before f)) in
    let here : row + 1 + n ≡ row + suc n = omega arith in
    subst (λ n. StandsAt (trees_from before (f ∷ es)) n e) here
    (stands_from (before ++ tree_of before f ∷ []) es (row + 1) n e next down.1 stands)

pub stands : (es : List Entry) (n : ℕ) (e : Entry) → PointDown 0 es → slice_get es n ≡ Some e → StandsAt (trees es) n e
stands es n e down is =
    let start : 0 + n ≡ n = omega arith in
    subst (λ row. StandsAt (trees es) row e) start (stands_from [] es 0 n e refl down is)

PointDown-push : (row : ℕ) (es : List Entry) (e : Entry) → PointDown row es → PointsBelow (row + length es) e → PointDown row (es ++ e ∷ [])
PointDown-push row [] e down below =
    let here : row + 0 ≡ row = omega arith in
    (subst (λ n. PointsBelow n e) here below, tt)
PointDown-push row (f ∷ es) e down below =
    let here : row + suc (length es) ≡ row + 1 + length es = omega arith in
    (down.0, PointDown-push (row + 1) es e down.1 (subst (λ n. PointsBelow n e) here below))

-- entries that are the same have the same tree
same_tree : (ts : List Term) (e f : Entry) → IsSame e f → tree_of ts e ≡ tree_of ts f
same_tree ts (Var m) (Var n) h = ap var h
same_tree ts (Var m) (App symbol args) h = absurd h
same_tree ts (App symbol args) (Var n) h = absurd h
same_tree ts (App f rows) (App g others) h = λ i. app (h.0 i) (as_terms (map (tree_at ts) (h.1 i)))

same_row : (ts : List Term) (i j : ℕ) → AreDistinct ts → i < length ts → j < length ts → tree_at ts i ≡ tree_at ts j → i ≡ j
same_row ts i j distinct p q same =
    distinct i j p q (slice_get-get_or ts i (var 0) p ∙ ap Some same ∙ sym (slice_get-get_or ts j (var 0) q))

same_rows : (ts : List Term) (rows others : List ℕ) → AreDistinct ts → All (λ row. row < length ts) rows → All (λ row. row < length ts) others
    → map (tree_at ts) rows ≡ map (tree_at ts) others → rows ≡ others
same_rows ts [] [] distinct p q same = refl
same_rows ts [] (j ∷ others) distinct p q same = cc
same_rows ts (i ∷ rows) [] distinct p q same = cc
same_rows ts (i ∷ rows) (j ∷ others) distinct p q same =
    let first_same : tree_at ts i ≡ tree_at ts j = cc in
    let rest_same : map (tree_at ts) rows ≡ map (tree_at ts) others = cc in
    let first = same_row ts i j distinct (All-head (λ row. row < length ts) i rows p) (All-head (λ row. row < length ts) j others q) first_same in
    let rest = same_rows ts rows others distinct (All-tail (λ row. row < length ts) i rows p) (All-tail (λ row. row < length ts) j others q) rest_same in
    λ k. first k ∷ rest k

-- entries of one tree are the same
same_entry : (ts : List Term) (e f : Entry) → AreDistinct ts → PointsBelow (length ts) e → PointsBelow (length ts) f → tree_of ts e ≡ tree_of ts f → IsSame e f
same_entry ts (Var m) (Var n) distinct p q same = cc
same_entry ts (Var m) (App symbol args) distinct p q same = cc
same_entry ts (App symbol args) (Var n) distinct p q same = cc
same_entry ts (App f rows) (App g others) distinct p q same =
    let symbols : f ≡ g = cc in
    let args : as_terms (map (tree_at ts) rows.items) ≡ as_terms (map (tree_at ts) others.items) = cc in
    let trees_same = sym (list_of-as_terms (map (tree_at ts) rows.items)) ∙ ap list_of args ∙ list_of-as_terms (map (tree_at ts) others.items) in
    (symbols, same_rows ts rows.items others.items distinct p q trees_same)

PointsBelow-more : (m n : ℕ) (e : Entry) → m ≤ n → PointsBelow m e → PointsBelow n e
PointsBelow-more m n (Var k) le h = tt
PointsBelow-more m n (App symbol args) le h = λ k d lt. omega (arith, h k d lt)

-- none of the entries is the same as this one
abbrev pub IsAbsent : List Entry → Entry → Type 0
IsAbsent es e = (n : ℕ) (known : Entry) → slice_get es n ≡ Some known → ¬ IsSame e known

-- then its tree is new
new_tree : (es : List Entry) (vars : ℕ) (e : Entry) → IsTable es vars → PointsBelow (length es) e → IsAbsent es e → ¬ Contains (trees es) (tree_of (trees es) e)
new_tree es vars e table below absent = λ has.
    let t = tree_of (trees es) e in
    let place = Contains-stands (trees es) t has in
    let within : place.0 < length es = omega (arith, slice_get_within (trees es) place.0 t place.1, length-trees es) in
    let is = slice_get-get_or es place.0 e within in
    let s = stands es place.0 (get_or es place.0 e) table.below is in
    let known_below = PointsBelow-more place.0 (length (trees es)) (get_or es place.0 e) (omega (arith, s.within)) s.below in
    let own_below = PointsBelow-more (length es) (length (trees es)) e (omega (arith, length-trees es)) below in
    absent place.0 (get_or es place.0 e) is
    (same_entry (trees es) e (get_or es place.0 e) table.distinct own_below known_below
    (sym (get_or_from_slice_get (trees es) place.0 t (var 0) place.1) ∙ s.tree))

-- the row of an entry that is the same has the tree
found_tree : (es new : List Entry) (vars : ℕ) (e : Entry) (row : ℕ) → IsTable es vars → IsFound es new e row → slice_get (trees es) row ≡ Some (tree_of (trees es) e)
found_tree es new vars e row table h =
    let s = stands es row h.known table.below h.stands in
    slice_get-get_or (trees es) row (var 0) s.within ∙ ap Some (s.tree ∙ sym (same_tree (trees es) e h.known h.same))

-- the entry's row is its tree's
Adds-tree : (es new : List Entry) (vars : ℕ) (e : Entry) (row : ℕ) → IsTable es vars → PointsBelow (length es) e → Interns es new e row
    → Adds (trees es) (trees new) (tree_of (trees es) e) row
Adds-tree es new vars e row table below (inl h) =
    let is = found_tree es new vars e row table h in
    let unchanged = ap trees h.unchanged in
    record {
      stands = ap (λ ts. slice_get ts row) unchanged ∙ is;
      grows = inl (unchanged, Contains-from (trees es) row (tree_of (trees es) e) is);
    }
Adds-tree es new vars e row table below (inr h) =
    let t = tree_of (trees es) e in
    let grown = ap trees h.grown ∙ trees-push es e in
    let last = h.next ∙ sym (length-trees es) in
    record {
      stands = ap (λ ts. slice_get ts row) grown ∙ ap (slice_get (trees es ++ t ∷ [])) last ∙ slice_get-last (trees es) t;
      grows = inr (grown, new_tree es vars e table below h.absent);
    }

-- one more term
pub variable_count-push : (ts : List Term) (t : Term) → variable_count (ts ++ t ∷ []) ≡ variable_count ts + variable_count (t ∷ [])
variable_count-push [] t = omega arith
variable_count-push (var n ∷ ts) t = omega (arith, variable_count-push ts t)
variable_count-push (app symbol args ∷ ts) t = variable_count-push ts t

-- a table grows, and the row is one of it
pub Adds-count : (old new : List Term) (t : Term) (row : ℕ) → Adds old new t row → length old ≤ length new
Adds-count old new t row h =
    elim h.grows [
      | inl same ↦ omega (arith, ap length same.0)
      | inr more ↦ omega (arith, ap length more.0, length_push old t)
    ]

pub Adds-within : (old new : List Term) (t : Term) (row : ℕ) → Adds old new t row → row < length new
Adds-within old new t row h = slice_get_within new row t h.stands

variable_count-few : (ts : List Term) → variable_count ts ≤ length ts
variable_count-few [] = omega arith
variable_count-few (var n ∷ ts) = omega (arith, variable_count-few ts)
variable_count-few (app symbol args ∷ ts) = omega (arith, variable_count-few ts)

-- one more entry, of a new tree
IsTable-push : (es : List Entry) (vars more : ℕ) (e : Entry) → IsTable es vars → PointsBelow (length es) e → IsAbsent es e
    → vars + variable_count (tree_of (trees es) e ∷ []) ≡ more → ((n : ℕ) → tree_of (trees es) e ≡ var n → n < more) → IsTable (es ++ e ∷ []) more
IsTable-push es vars more e table below absent count numbered =
    let t = tree_of (trees es) e in
    let start : length es ≡ 0 + length es = omega arith in
    let old_numbered : (n : ℕ) → Contains (trees es) (var n) → n < more = λ n has. omega (arith, table.numbered n has, count) in
    record {
      below = PointDown-push 0 es e table.below (subst (λ row. PointsBelow row e) start below);
      distinct = subst AreDistinct (sym (trees-push es e)) (AreDistinct-push (trees es) t table.distinct (new_tree es vars e table below absent));
      counted = ap variable_count (trees-push es e) ∙ variable_count-push (trees es) t ∙ ap (λ n. n + variable_count (t ∷ [])) table.counted ∙ count;
      numbered = λ n has.
          elim (Contains-push (trees es) t (var n) (subst (λ ts. Contains ts (var n)) (trees-push es e) has)) [
            | inl old ↦ old_numbered n old
            | inr same ↦ numbered n same
          ];
    }

pub IsTable-app : (es new : List Entry) (vars row symbol : ℕ) (args : Vec ℕ Global) → IsTable es vars → PointsBelow (length es) (App symbol args)
    → Interns es new (App symbol args) row → IsTable new vars
IsTable-app es new vars row symbol args table below (inl h) = subst (λ es. IsTable es vars) (sym h.unchanged) table
IsTable-app es new vars row symbol args table below (inr h) =
    subst (λ es. IsTable es vars) (sym h.grown) (IsTable-push es vars vars (App symbol args) table below h.absent (omega arith) (λ n same. cc))

-- the next variable is new
pub IsNew-var : (es new : List Entry) (vars row : ℕ) → IsTable es vars → Interns es new (Var vars) row → IsNew es new (Var vars) row
IsNew-var es new vars row table (inl h) =
    let own : vars < vars = table.numbered vars (Contains-from (trees es) row (var vars) (found_tree es new vars (Var vars) row table h)) in
    absurd (omega (arith, own))
IsNew-var es new vars row table (inr h) = h

pub IsTable-var : (es new : List Entry) (vars row : ℕ) → IsTable es vars → IsNew es new (Var vars) row → IsTable new (vars + 1)
IsTable-var es new vars row table h =
    let last : (n : ℕ) → var vars ≡ var n → n < vars + 1 = λ n same. let is : vars ≡ n = cc in omega (arith, is) in
    subst (λ es. IsTable es (vars + 1)) (sym h.grown) (IsTable-push es vars (vars + 1) (Var vars) table tt h.absent refl last)

pub trees-var : (es new : List Entry) (vars row : ℕ) → IsTable es vars → IsNew es new (Var vars) row
    → trees new ≡ trees es ++ var (variable_count (trees es)) ∷ []
trees-var es new vars row table h =
    ap trees h.grown ∙ trees-push es (Var vars) ∙ ap (λ n. trees es ++ var n ∷ []) (sym table.counted)

-- what stands in a row of the table that is seen
pub stands_in : (es : List Entry) (ts : List Term) (vars row : ℕ) (e : Entry) → IsTable es vars → trees es ≡ ts → slice_get es row ≡ Some e → StandsAt ts row e
stands_in es ts vars row e table is here = subst (λ ts. StandsAt ts row e) is (stands es row e table.below here)

-- a variable of the table that is seen has a number below their count
pub numbered_in : (es : List Entry) (ts : List Term) (vars row n : ℕ) → IsTable es vars → trees es ≡ ts → row < length ts → tree_at ts row ≡ var n → n < variable_count ts
numbered_in es ts vars row n table is within tree =
    subst (λ ts. row < length ts → tree_at ts row ≡ var n → n < variable_count ts) is
    (λ lt same. omega (arith, table.counted, table.numbered n (Contains-from (trees es) row (var n) (slice_get-get_or (trees es) row (var 0) lt ∙ ap Some same))))
    within tree

pub rows_below : (es : List Entry) (ts : List Term) (rows given : List ℕ) → trees es ≡ ts → rows ≡ given → All (λ row. row < length ts) given
    → All (λ row. row < length es) rows
rows_below es ts rows given is same below =
    let few : length ts ≡ length es = ap length (sym is) ∙ length-trees es in
    subst (λ n. All (λ row. row < n) rows) few (subst (All (λ row. row < length ts)) (sym same) below)

pub Adds-app : (es new : List Entry) (ts : List Term) (vars row symbol : ℕ) (args : Vec ℕ Global) (given : List ℕ) → trees es ≡ ts → args.items ≡ given
    → All (λ row. row < length ts) given → IsTable es vars → Interns es new (App symbol args) row
    → Adds ts (trees new) (app symbol (as_terms (map (tree_at ts) given))) row
Adds-app es new ts vars row symbol args given is same below table interns =
    subst (λ ts. Adds ts (trees new) (app symbol (as_terms (map (tree_at ts) given))) row) is
    (subst (λ rows. Adds (trees es) (trees new) (app symbol (as_terms (map (tree_at (trees es)) rows))) row) same
    (Adds-tree es new vars (App symbol args) row table (rows_below es ts args.items given is same below) interns))

pub vars-few : (es : List Entry) (vars : ℕ) → IsTable es vars → vars ≤ length es
vars-few es vars table = omega (arith, variable_count-few (trees es), table.counted, length-trees es)
