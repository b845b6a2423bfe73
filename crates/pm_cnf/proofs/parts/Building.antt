-- Building the terms of parts, from right to left.
use Rattle.std.proofs.Common.{◌≡◌, ℕ, ◌-◌, ◌<◌, ◌≤◌, List, [], ◌∷◌, ◌++◌, length, take, drop, Some, refl, sym, ap, ap₂, subst, ◌∙◌, append_assoc, arith, slice_get}
use Rattle.std.specs.Prelude.{All, map, reverse}
use Rattle.std.proofs.lemmas.List.{append-nil, reverse-append, length-reverse, map-append, take-append-drop, length-map, length-drop}
use Rattle.std.proofs.lemmas.List.Elements.{All-head, All-tail, All-nil, All-push, All-take, All-drop, All-weaker}
use Rattle.std.proofs.lemmas.Option.{slice_get_within, get_or_from_slice_get, slice_get-get_or}
use Rattle.std.proofs.Math.Seq.{take-append_seam, drop-append_seam}
use Rattle.pm_logic.specs.Term.{Term, var, app, as_terms, tree_at}
use Rattle.pm_logic.specs.Table.{Adds, variable_count}
use Rattle.pm_logic.specs.Lists.{Gathers}
use Rattle.pm_logic.proofs.Gathering.{Extends, Extends-length, slice_get-extends, Gathers-one, Gathers-append, Gathers-extends}
use Rattle.pm_cnf.specs.declared.number.Part.{Part}
use Rattle.pm_cnf.specs.declared.number.Part.TheVariants as parts
use Rattle.pm_cnf.specs.Inside.Parts.{AreVariables, trees_of, applications_of, AreWellFormed}
use Rattle.pm_cnf.proofs.parts.VariableRows.{AreVariables-application, variable_count-extends}

-- a row's tree stays as the list grows
pub tree_at-extends : (terms new : List Term) (row : ℕ) → Extends terms new → row < length terms → tree_at new row ≡ tree_at terms row
tree_at-extends terms new row extends lt =
    get_or_from_slice_get new row (tree_at terms row) (var 0) (slice_get-extends terms new extends row (tree_at terms row) (slice_get-get_or terms row (var 0) lt))

pub trees_at-extends : (terms new : List Term) (rows : List ℕ) → Extends terms new → All (λ row. row < length terms) rows → map (tree_at new) rows ≡ map (tree_at terms) rows
trees_at-extends terms new [] extends all = refl
trees_at-extends terms new (row ∷ rows) extends all =
    ap₂ (λ t ts. t ∷ ts) (tree_at-extends terms new row extends (All-head (λ r. r < length terms) row rows all)) (trees_at-extends terms new rows extends (All-tail (λ r. r < length terms) row rows all))

pub rows-extend : (terms new : List Term) (rows : List ℕ) → Extends terms new → All (λ row. row < length terms) rows → All (λ row. row < length new) rows
rows-extend terms new rows extends all = All-weaker (λ row. row < length terms) (λ row. row < length new) (λ row lt. omega (arith, lt, Extends-length terms new extends)) rows all

pub All-reverse : {A : Type 0} (P : A → Type 0) (xs : List A) → All P xs → All P (reverse xs)
All-reverse P [] all = all
All-reverse P (x ∷ xs) all = subst (All P) (sym (reverse-append (x ∷ []) xs)) (All-push P (reverse xs) x (All-reverse P xs (All-tail P x xs all)) (All-head P x xs all))

AreWellFormed-back : (count : ℕ) (ps qs : List Part) → AreWellFormed count (ps ++ qs) → AreWellFormed count qs
AreWellFormed-back count [] qs whole = whole
AreWellFormed-back count (parts.Variable n ∷ ps) qs whole = AreWellFormed-back count ps qs whole.1
AreWellFormed-back count (parts.Function f k ∷ ps) qs whole = AreWellFormed-back count ps qs whole.1

-- The terms of the parts that are done have their rows, the first of them last.
pub record Built (start : List Term) (all rest : List Part) (terms : List Term) (variables rows : List ℕ) : Type 0 where
  pub done : List Part
  pub is : all ≡ rest ++ done
  pub gathers : Gathers start (applications_of done) terms
  pub trees : map (tree_at terms) (reverse rows) ≡ trees_of done
  pub within : All (λ row. row < length terms) rows
  pub known : AreVariables terms variables

pub built_none : (start : List Term) (all : List Part) (variables : List ℕ) → AreVariables start variables → Built start all all start variables []
built_none start all variables are = record {
  done = [];
  is = sym (append-nil all);
  gathers = refl;
  trees = refl;
  within = All-nil (λ row. row < length start);
  known = are;
}

shift : (rest : List Part) (p : Part) (done : List Part) → (rest ++ p ∷ []) ++ done ≡ rest ++ p ∷ done
shift rest p done = append_assoc rest (p ∷ []) done

-- the part that is built next has what it needs
pub next_whole : (start : List Term) (all before rest : List Part) (p : Part) (terms : List Term) (variables rows : List ℕ) → AreWellFormed (variable_count start) all → before ≡ rest ++ p ∷ []
    → (b : Built start all before terms variables rows) → AreWellFormed (variable_count start) (p ∷ b.done)
next_whole start all before rest p terms variables rows whole cut b =
    AreWellFormed-back (variable_count start) rest (p ∷ b.done) (subst (AreWellFormed (variable_count start)) (b.is ∙ ap (λ ps. ps ++ b.done) cut ∙ shift rest p b.done) whole)

pub variable_below : (start : List Term) (all before rest : List Part) (n : ℕ) (terms : List Term) (variables rows : List ℕ) → AreWellFormed (variable_count start) all → before ≡ rest ++ parts.Variable n ∷ []
    → Built start all before terms variables rows → n < length variables
variable_below start all before rest n terms variables rows whole cut b =
    omega (arith, (next_whole start all before rest (parts.Variable n) terms variables rows whole cut b).0, variable_count-extends start terms (Gathers-extends (applications_of b.done) start terms b.gathers), b.known.count)

pub built_variable : (start : List Term) (all before rest : List Part) (n : ℕ) (terms : List Term) (variables rows more : List ℕ) (row : ℕ) → slice_get variables n ≡ Some row
    → before ≡ rest ++ parts.Variable n ∷ [] → more ≡ rows ++ row ∷ [] → Built start all before terms variables rows → Built start all rest terms variables more
built_variable start all before rest n terms variables rows more row stands cut pushed b =
    let there : slice_get terms row ≡ Some (var n) = b.known.stand n row stands in
    subst (Built start all rest terms variables) (sym pushed) (record {
      done = parts.Variable n ∷ b.done;
      is = b.is ∙ ap (λ ps. ps ++ b.done) cut ∙ shift rest (parts.Variable n) b.done;
      gathers = b.gathers;
      trees = ap (map (tree_at terms)) (reverse-append rows (row ∷ [])) ∙ ap₂ (λ t ts. t ∷ ts) (get_or_from_slice_get terms row (var n) (var 0) there) b.trees;
      within = All-push (λ r. r < length terms) rows row b.within (slice_get_within terms row (var n) there);
      known = b.known;
    })

pub arity_within : (start : List Term) (all before rest : List Part) (f k : ℕ) (terms : List Term) (variables rows : List ℕ) → AreWellFormed (variable_count start) all → before ≡ rest ++ parts.Function f k ∷ []
    → Built start all before terms variables rows → k ≤ length rows
arity_within start all before rest f k terms variables rows whole cut b =
    omega (arith, (next_whole start all before rest (parts.Function f k) terms variables rows whole cut b).0, ap length b.trees, length-map (reverse rows) (tree_at terms), length-reverse rows)

-- the rows of an application's arguments, cut off and turned, and those below them
record CutsRows (terms : List Term) (rows args below : List ℕ) (k : ℕ) (stack : List Term) : Type 0 where
  front : map (tree_at terms) args ≡ take k stack
  back : map (tree_at terms) (reverse below) ≡ drop k stack

cut_rows : (terms : List Term) (rows args below : List ℕ) (k : ℕ) (stack : List Term) → map (tree_at terms) (reverse rows) ≡ stack → k ≤ length rows
    → args ≡ reverse (drop (length rows - k) rows) → below ≡ take (length rows - k) rows → CutsRows terms rows args below k stack
cut_rows terms rows args below k stack is le off kept =
    let m = length rows - k in
    let turned : reverse rows ≡ args ++ reverse below =
    ap reverse (sym (take-append-drop m rows)) ∙ reverse-append (take m rows) (drop m rows) ∙ ap₂ (λ xs ys. xs ++ ys) (sym off) (ap reverse (sym kept)) in
    let joined : stack ≡ map (tree_at terms) args ++ map (tree_at terms) (reverse below) = sym is ∙ ap (map (tree_at terms)) turned ∙ map-append (tree_at terms) args (reverse below) in
    let size : length (map (tree_at terms) args) ≡ k = omega (arith, length-map args (tree_at terms), ap length off, length-reverse (drop m rows), length-drop m rows, le) in
    record {
      front = sym (take-append_seam (map (tree_at terms) args) (map (tree_at terms) (reverse below))) ∙ ap₂ take size (sym joined);
      back = sym (drop-append_seam (map (tree_at terms) args) (map (tree_at terms) (reverse below))) ∙ ap₂ drop size (sym joined);
    }

pub args_within : (terms : List Term) (rows args : List ℕ) (m : ℕ) → All (λ row. row < length terms) rows → args ≡ reverse (drop m rows) → All (λ row. row < length terms) args
args_within terms rows args m all off = subst (All (λ row. row < length terms)) (sym off) (All-reverse (λ row. row < length terms) (drop m rows) (All-drop (λ row. row < length terms) m rows all))

pub built_function : (start : List Term) (all before rest : List Part) (f k : ℕ) (terms new : List Term) (variables rows args below more : List ℕ) (row m : ℕ) → AreWellFormed (variable_count start) all
    → before ≡ rest ++ parts.Function f k ∷ [] → args ≡ reverse (drop (m - k) rows) → below ≡ take (m - k) rows → m ≡ length rows → more ≡ below ++ row ∷ []
    → Adds terms new (app f (as_terms (map (tree_at terms) args))) row → Built start all before terms variables rows → Built start all rest new variables more
built_function start all before rest f k terms new variables rows args below more row m whole cut cut_off left size pushed adds b =
    let off : args ≡ reverse (drop (length rows - k) rows) = cut_off ∙ ap (λ n. reverse (drop (n - k) rows)) size in
    let kept : below ≡ take (length rows - k) rows = left ∙ ap (λ n. take (n - k) rows) size in
    let le = arity_within start all before rest f k terms variables rows whole cut b in
    let c = cut_rows terms rows args below k (trees_of b.done) b.trees le off kept in
    let t = app f (as_terms (map (tree_at terms) args)) in
    let is : t ≡ app f (as_terms (take k (trees_of b.done))) = ap (λ us. app f (as_terms us)) c.front in
    let step : Gathers terms (t ∷ []) new = Gathers-one terms new t adds.grows in
    let extends : Extends terms new = Gathers-extends (t ∷ []) terms new step in
    let below_rows : All (λ r. r < length terms) below = subst (All (λ r. r < length terms)) (sym kept) (All-take (λ r. r < length terms) (length rows - k) rows b.within) in
    subst (Built start all rest new variables) (sym pushed) (record {
      done = parts.Function f k ∷ b.done;
      is = b.is ∙ ap (λ ps. ps ++ b.done) cut ∙ shift rest (parts.Function f k) b.done;
      gathers = subst (λ u. Gathers start (applications_of b.done ++ u ∷ []) new) is (Gathers-append (applications_of b.done) (t ∷ []) start terms new b.gathers step);
      trees =
          ap (map (tree_at new)) (reverse-append below (row ∷ []))
          ∙ ap₂ (λ u us. u ∷ us) (get_or_from_slice_get new row t (var 0) adds.stands ∙ is)
          (trees_at-extends terms new (reverse below) extends (All-reverse (λ r. r < length terms) below below_rows) ∙ c.back);
      within = All-push (λ r. r < length new) below row (rows-extend terms new below extends below_rows) (slice_get_within new row t adds.stands);
      known = AreVariables-application terms new variables f (as_terms (map (tree_at terms) args)) b.known adds.grows;
    })
