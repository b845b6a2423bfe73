-- How what is kept of bindings changes.
use Rattle.std.proofs.Common.{◌≡◌, ℕ, zero, suc, ◌+◌, ◌<◌, ◌≤◌, inl, inr, if◌then◌else◌, is_none, List, [], ◌∷◌, ◌++◌, length, map, reverse, take, set, Option, Some, None, unwrap_or, slice_get, refl, sym, ◌∙◌, ap, ap₂, subst, arith}
use Rattle.std.proofs.lemmas.Bool.{cases_eq, cases_lt}
use Rattle.std.proofs.lemmas.List.{length_push, length-append, length-set, length-take, length-map, length-reverse, reverse-append, get_or-set_same, get_or-set_other, get_or-take, get_or_past, take_at, append_assoc}
use Rattle.std.proofs.lemmas.Option.{slice_get_within}
use Rattle.pm_store.specs.Entries.{Entry, Variable, Application}
use Rattle.pm_store.specs.Equations.{Binding, Equations, with_cell, with_binding, target_of, IsFree, free_at, free_among, free_count}
use Rattle.pm_store.specs.Sound.{PointsBelow, CanBind, IsSound}
use Rattle.pm_store.specs.Marks.{IsLater}
use Rattle.pm_store.specs.Inside.Stored.{target_at, binding_at, bindings_of, equations_of, IsStored}
use Rattle.pm_store.proofs.ListLemmas.{if_same, if_other}
use Rattle.pm_store.proofs.BindingLemmas.{unbound_beyond}
use Rattle.pm_store.proofs.SolutionLemmas.{IsSound-with_cell, IsSound-with_binding}

pub sound_of : (s : Equations) (cells : List Entry) (targets : List (Option ℕ)) (trail : List ℕ) → equations_of cells targets trail ≡ s → IsStored cells targets trail
    → IsSound s
sound_of s cells targets trail view stored = subst IsSound view stored.sound

target_at-push : (targets : List (Option ℕ)) (v : ℕ) → target_at (targets ++ None ∷ []) v ≡ target_at targets v
target_at-push [] zero = refl
target_at-push [] (suc v) = refl
target_at-push (t ∷ ts) zero = refl
target_at-push (t ∷ ts) (suc v) = target_at-push ts v

bindings_same : (targets others : List (Option ℕ)) (vs : List ℕ) → ((v : ℕ) → target_at others v ≡ target_at targets v)
    → map (binding_at others) vs ≡ map (binding_at targets) vs
bindings_same targets others [] same = refl
bindings_same targets others (v ∷ vs) same =
    let with_target : Option ℕ → Binding = λ t. record { variable = v; target = unwrap_or t v } in
    ap₂ (λ b bs. b ∷ bs) (ap with_target (same v)) (bindings_same targets others vs same)

-- the equations stay where each cell keeps its target
stored_same : (cells cells' : List Entry) (targets targets' : List (Option ℕ)) (trail : List ℕ) → IsStored cells targets trail
    → length targets' ≡ length cells' → ((v : ℕ) → target_at targets' v ≡ target_at targets v) → IsSound (equations_of cells' targets trail)
    → IsStored cells' targets' trail
stored_same cells cells' targets targets' trail stored count same sound =
    let bindings : bindings_of targets' trail ≡ bindings_of targets trail = bindings_same targets targets' (reverse trail) same in
    record {
      count = count;
      agree = λ v. same v ∙ stored.agree v ∙ ap (λ bs. target_of bs v) (sym bindings);
      sound = subst (λ (bs : List Binding). let s : Equations = record { cells = cells'; bindings = bs } in IsSound s) (sym bindings) sound;
    }

pub equations-push : (cells cells' : List Entry) (targets targets' : List (Option ℕ)) (trail : List ℕ) (e : Entry)
    → cells' ≡ cells ++ e ∷ [] → targets' ≡ targets ++ None ∷ []
    → equations_of cells' targets' trail ≡ with_cell (equations_of cells targets trail) e
equations-push cells cells' targets targets' trail e cells_are targets_are =
    let same : bindings_of targets' trail ≡ bindings_of targets trail =
    bindings_same targets targets' (reverse trail) (λ v. ap (λ ts. target_at ts v) targets_are ∙ target_at-push targets v) in
    ap₂ (λ cs bs. let s : Equations = record { cells = cs; bindings = bs } in s) cells_are same

pub IsStored-push : (cells cells' : List Entry) (targets targets' : List (Option ℕ)) (trail : List ℕ) (e : Entry)
    → IsStored cells targets trail → PointsBelow (length cells) e → cells' ≡ cells ++ e ∷ [] → targets' ≡ targets ++ None ∷ []
    → IsStored cells' targets' trail
IsStored-push cells cells' targets targets' trail e stored below cells_are targets_are =
    stored_same cells cells' targets targets' trail stored
    (omega (arith, ap length cells_are, ap length targets_are, length_push cells e, length_push targets None, stored.count))
    (λ v. ap (λ ts. target_at ts v) targets_are ∙ target_at-push targets v)
    (subst (λ (cs : List Entry). IsSound (equations_of cs targets trail)) (sym cells_are) (IsSound-with_cell (equations_of cells targets trail) e stored.sound below))

-- a target that changes at a variable that isn't bound changes no binding
bindings_elsewhere : (targets : List (Option ℕ)) (v : ℕ) (t : Option ℕ) (vs : List ℕ) → target_of (map (binding_at targets) vs) v ≡ None
    → map (binding_at (set targets v t)) vs ≡ map (binding_at targets) vs
bindings_elsewhere targets v t [] unbound = refl
bindings_elsewhere targets v t (w ∷ vs) unbound =
    let with_target : Option ℕ → Binding = λ x. record { variable = w; target = unwrap_or x w } in
    let first : Option ℕ = Some (binding_at targets w).target in
    let rest : Option ℕ = target_of (map (binding_at targets) vs) v in
    elim (cases_eq w v) [
      | inl e ↦ absurd (bound (binding_at targets w).target (sym (if_same w v first rest e) ∙ unbound))
      | inr ne ↦ ap₂ (λ b bs. b ∷ bs) (ap with_target (get_or-set_other targets v w t None ne))
          (bindings_elsewhere targets v t vs (sym (if_other w v first rest ne) ∙ unbound))
    ]
  where
    bound : (n : ℕ) → Some n ≡ None → ⊥
    bound n e = cc

bindings_of-push : (targets : List (Option ℕ)) (trail : List ℕ) (v : ℕ) → bindings_of targets (trail ++ v ∷ []) ≡ binding_at targets v ∷ bindings_of targets trail
bindings_of-push targets trail v = ap (map (binding_at targets)) (reverse-append trail (v ∷ []))

bindings_of-bind : (cells : List Entry) (targets : List (Option ℕ)) (trail : List ℕ) (v t : ℕ) → IsStored cells targets trail
    → CanBind (equations_of cells targets trail) v t
    → bindings_of (set targets v (Some t)) (trail ++ v ∷ []) ≡ record { variable = v; target = t } ∷ bindings_of targets trail
bindings_of-bind cells targets trail v t stored can =
    let within : v < length targets = omega (arith, slice_get_within cells v Variable can.free.variable, stored.count) in
    let with_target : Option ℕ → Binding = λ x. record { variable = v; target = unwrap_or x v } in
    bindings_of-push (set targets v (Some t)) trail v
    ∙ ap₂ (λ b bs. b ∷ bs) (ap with_target (get_or-set_same targets v (Some t) None within))
    (bindings_elsewhere targets v (Some t) (reverse trail) can.free.unbound)

IsStored-bind : (cells : List Entry) (targets : List (Option ℕ)) (trail : List ℕ) (v t : ℕ) → IsStored cells targets trail
    → CanBind (equations_of cells targets trail) v t
    → IsStored cells (set targets v (Some t)) (trail ++ v ∷ [])
IsStored-bind cells targets trail v t stored can =
    let within : v < length targets = omega (arith, slice_get_within cells v Variable can.free.variable, stored.count) in
    let bindings = bindings_of-bind cells targets trail v t stored can in
    record {
      count = length-set targets v (Some t) ∙ stored.count;
      agree = λ w. elim (cases_eq v w) [
        | inl e ↦ ap (target_at (set targets v (Some t))) (sym e) ∙ get_or-set_same targets v (Some t) None within
            ∙ sym (if_same v w (Some t) (target_of (bindings_of targets trail) w) e) ∙ ap (λ bs. target_of bs w) (sym bindings)
        | inr ne ↦ get_or-set_other targets v w (Some t) None (λ e. ne (sym e)) ∙ stored.agree w
            ∙ sym (if_other v w (Some t) (target_of (bindings_of targets trail) w) ne) ∙ ap (λ bs. target_of bs w) (sym bindings)
      ];
      sound = subst (λ (bs : List Binding). let s : Equations = record { cells = cells; bindings = bs } in IsSound s) (sym bindings)
          (IsSound-with_binding (equations_of cells targets trail) v t stored.sound can);
    }

-- so of the store's own equations, where the cell and the trail are equal to these
pub bound : (cells : List Entry) (targets : List (Option ℕ)) (trail trail' : List ℕ) (v w t : ℕ) (old : Equations) → IsStored cells targets trail
    → equations_of cells targets trail ≡ old → CanBind old v t → w ≡ v → trail' ≡ trail ++ v ∷ []
    → IsStored cells (set targets w (Some t)) trail' × (equations_of cells (set targets w (Some t)) trail' ≡ with_binding old v t)
bound cells targets trail trail' v w t old stored view can same longer =
    let can_bind : CanBind (equations_of cells targets trail) v t = subst (λ (s : Equations). CanBind s v t) (sym view) can in
    let kept : IsStored cells (set targets v (Some t)) (trail ++ v ∷ []) = IsStored-bind cells targets trail v t stored can_bind in
    let is : equations_of cells (set targets v (Some t)) (trail ++ v ∷ []) ≡ with_binding old v t =
    ap (λ bs. let s : Equations = record { cells = cells; bindings = bs } in s) (bindings_of-bind cells targets trail v t stored can_bind)
    ∙ ap (λ s. with_binding s v t) view in
    let P : ℕ → List ℕ → Type 0 = λ n tr. IsStored cells (set targets n (Some t)) tr × (equations_of cells (set targets n (Some t)) tr ≡ with_binding old v t) in
    subst (λ (n : ℕ). P n trail') (sym same) (subst (P v) (sym longer) (kept, is))

-- the last bound variable can be freed: the bindings before it stay
record IsUnbound (cells : List Entry) (targets : List (Option ℕ)) (trail : List ℕ) (v : ℕ) : Type 0 where
  pub variable : slice_get cells v ≡ Some Variable
  pub stored : IsStored cells (set targets v None) trail
  pub bindings : bindings_of targets (trail ++ v ∷ []) ≡ binding_at targets v ∷ bindings_of (set targets v None) trail

unbound : (cells : List Entry) (targets : List (Option ℕ)) (trail : List ℕ) (v : ℕ) → IsStored cells targets (trail ++ v ∷ []) → IsUnbound cells targets trail v
unbound cells targets trail v stored =
    let first : Binding = binding_at targets v in
    let before : List Binding = bindings_of targets trail in
    let parts : bindings_of targets (trail ++ v ∷ []) ≡ first ∷ before = bindings_of-push targets trail v in
    let sound : IsSound (record { cells = cells; bindings = first ∷ before }) =
    subst (λ (bs : List Binding). let s : Equations = record { cells = cells; bindings = bs } in IsSound s) parts stored.sound in
    let free : target_of before v ≡ None = sound.made.0.free.unbound in
    let within : v < length targets = omega (arith, slice_get_within cells v Variable sound.made.0.free.variable, stored.count) in
    let stays : bindings_of (set targets v None) trail ≡ before = bindings_elsewhere targets v None (reverse trail) free in
    record {
      variable = sound.made.0.free.variable;
      stored = record {
        count = length-set targets v None ∙ stored.count;
        agree = λ w. elim (cases_eq v w) [
          | inl e ↦ ap (target_at (set targets v None)) (sym e) ∙ get_or-set_same targets v None None within
              ∙ sym free ∙ ap (target_of before) e ∙ ap (λ bs. target_of bs w) (sym stays)
          | inr ne ↦ get_or-set_other targets v w None None (λ e. ne (sym e)) ∙ stored.agree w ∙ ap (λ bs. target_of bs w) parts
              ∙ if_other v w (Some first.target) (target_of before w) ne ∙ ap (λ bs. target_of bs w) (sym stays)
        ];
        sound = subst (λ (bs : List Binding). let s : Equations = record { cells = cells; bindings = bs } in IsSound s) (sym stays)
            (record { down = sound.down; made = sound.made.1 });
      };
      bindings = parts ∙ ap (λ bs. first ∷ bs) (sym stays);
    }

-- so in a loop that frees the bound variables, last one first
pub unbound_more : (cells : List Entry) (targets : List (Option ℕ)) (trail trail' : List ℕ) (v w : ℕ) (start : List Binding) → IsStored cells targets trail'
    → trail' ≡ trail ++ v ∷ [] → w ≡ v → (undone : List Binding) × (start ≡ undone ++ bindings_of targets trail')
    → IsStored cells (set targets w None) trail × ((undone : List Binding) × (start ≡ undone ++ bindings_of (set targets w None) trail))
unbound_more cells targets trail trail' v w start stored longer same so_far =
    let first : Binding = binding_at targets v in
    let freed : IsUnbound cells targets trail v = unbound cells targets trail v (subst (λ (tr : List ℕ). IsStored cells targets tr) longer stored) in
    let rest : start ≡ (so_far.0 ++ first ∷ []) ++ bindings_of (set targets v None) trail =
    so_far.1 ∙ ap (λ tr. so_far.0 ++ bindings_of targets tr) longer ∙ ap (λ bs. so_far.0 ++ bs) freed.bindings
    ∙ sym (append_assoc so_far.0 (first ∷ []) (bindings_of (set targets v None) trail)) in
    subst (λ (n : ℕ). IsStored cells (set targets n None) trail × ((undone : List Binding) × (start ≡ undone ++ bindings_of (set targets n None) trail))) (sym same)
    (freed.stored, (so_far.0 ++ first ∷ [], rest))

pub unbound_variable : (cells : List Entry) (targets : List (Option ℕ)) (trail trail' : List ℕ) (v w : ℕ) → IsStored cells targets trail'
    → trail' ≡ trail ++ v ∷ [] → w ≡ v → slice_get cells w ≡ Some Variable
unbound_variable cells targets trail trail' v w stored longer same =
    let freed : IsUnbound cells targets trail v = unbound cells targets trail v (subst (λ (tr : List ℕ). IsStored cells targets tr) longer stored) in
    subst (λ (n : ℕ). slice_get cells n ≡ Some Variable) (sym same) freed.variable

same_suffix : {A : Type 0} (xs ys us vs : List A) → xs ++ us ≡ ys ++ vs → length us ≡ length vs → us ≡ vs
same_suffix [] [] us vs same len = same
same_suffix [] (y ∷ ys) us vs same len =
    absurd (longer (length us) (length ys) (length vs) (ap length same ∙ ap suc (length-append ys vs)) len)
  where
    longer : (m n k : ℕ) → m ≡ suc (n + k) → m ≡ k → ⊥
    longer m n k e same = omega arith
same_suffix (x ∷ xs) [] us vs same len =
    absurd (longer (length vs) (length xs) (length us) (sym (ap length same) ∙ ap suc (length-append xs us)) (sym len))
  where
    longer : (m n k : ℕ) → m ≡ suc (n + k) → m ≡ k → ⊥
    longer m n k e same = omega arith
same_suffix (x ∷ xs) (y ∷ ys) us vs same len =
    let tails : xs ++ us ≡ ys ++ vs = cc in
    same_suffix xs ys us vs tails len

pub length-bindings_of : (targets : List (Option ℕ)) (trail : List ℕ) → length (bindings_of targets trail) ≡ length trail
length-bindings_of targets trail = length-map (reverse trail) (binding_at targets) ∙ length-reverse trail

-- what stands when the bindings since a mark are taken away
pub record IsBack (before : Equations) (entries : List Entry) (targets : List (Option ℕ)) (trail : List ℕ) : Type 0 where
  pub cells : take (length before.cells) entries ≡ before.cells
  pub bindings : bindings_of targets trail ≡ before.bindings

back : (before s : Equations) (entries : List Entry) (targets : List (Option ℕ)) (trail : List ℕ) → IsLater before s → entries ≡ s.cells
    → (undone : List Binding) × (s.bindings ≡ undone ++ bindings_of targets trail) → length trail ≡ length before.bindings
    → IsBack before entries targets trail
back before s entries targets trail later same_cells rest count = record {
  cells = ap (take (length before.cells)) (same_cells ∙ later.cells.1) ∙ take_at before.cells later.cells.0 (length before.cells) refl;
  bindings = same_suffix rest.0 later.bindings.0 (bindings_of targets trail) before.bindings (sym rest.1 ∙ later.bindings.1)
      (length-bindings_of targets trail ∙ count);
}

-- a store has the bindings of the one that it grew from, at least
pub later_count : (before s : Equations) (entries : List Entry) (targets : List (Option ℕ)) (trail : List ℕ) → IsLater before s → equations_of entries targets trail ≡ s
    → length before.bindings ≤ length trail
later_count before s entries targets trail later view =
    let same : length (bindings_of targets trail) ≡ length s.bindings = ap (λ (e : Equations). length e.bindings) view in
    omega (arith, same, length-bindings_of targets trail, ap length later.bindings.1, length-append later.bindings.0 before.bindings)

-- the first cells alone have no other targets
target_at-take : (before : Equations) (entries : List Entry) (targets : List (Option ℕ)) (trail : List ℕ) → IsSound before → IsStored entries targets trail
    → IsBack before entries targets trail
    → (v : ℕ) → target_at (take (length before.cells) targets) v ≡ target_at targets v
target_at-take before entries targets trail sound stored is_back v =
    let n : ℕ = length before.cells in
    elim (cases_lt v n) [
      | inl lt ↦ get_or-take n targets v None lt
      | inr beyond ↦ get_or_past (take n targets) v None (omega (arith, length-take n targets))
          ∙ sym (stored.agree v ∙ ap (λ bs. target_of bs v) is_back.bindings ∙ unbound_beyond before.cells before.bindings v sound.made beyond)
    ]

equations-undone : (before : Equations) (entries : List Entry) (targets : List (Option ℕ)) (trail : List ℕ) (n : ℕ) → n ≡ length before.cells
    → IsSound before → IsStored entries targets trail → IsBack before entries targets trail
    → equations_of (take n entries) (take n targets) trail ≡ before
equations-undone before entries targets trail n is sound stored is_back =
    let bindings : bindings_of (take n targets) trail ≡ bindings_of targets trail =
    bindings_same targets (take n targets) (reverse trail)
    (λ v. ap (λ k. target_at (take k targets) v) is ∙ target_at-take before entries targets trail sound stored is_back v) in
    ap₂ (λ cs bs. let s : Equations = record { cells = cs; bindings = bs } in s) (ap (λ k. take k entries) is ∙ is_back.cells) (bindings ∙ is_back.bindings)

IsStored-undone : (before : Equations) (entries : List Entry) (targets : List (Option ℕ)) (trail : List ℕ) (n : ℕ) → n ≡ length before.cells
    → IsSound before → IsStored entries targets trail → IsBack before entries targets trail
    → IsStored (take n entries) (take n targets) trail
IsStored-undone before entries targets trail n is sound stored is_back =
    stored_same entries (take n entries) targets (take n targets) trail stored
    (omega (arith, length-take n targets, length-take n entries, stored.count))
    (λ v. ap (λ k. target_at (take k targets) v) is ∙ target_at-take before entries targets trail sound stored is_back v)
    (subst IsSound (sym (ap₂ (λ cs bs. let s : Equations = record { cells = cs; bindings = bs } in s) (ap (λ k. take k entries) is ∙ is_back.cells) is_back.bindings)) sound)

-- so in the loop's own terms: the bindings of the store at its start, and the fields after the cuts
pub undone_to : (before s : Equations) (start : List Entry) (start_targets : List (Option ℕ)) (start_trail : List ℕ)
    (entries : List Entry) (targets : List (Option ℕ)) (trail : List ℕ) → IsLater before s → equations_of start start_targets start_trail ≡ s → entries ≡ start
    → (undone : List Binding) × (bindings_of start_targets start_trail ≡ undone ++ bindings_of targets trail) → length trail ≡ length before.bindings
    → IsBack before entries targets trail
undone_to before s start start_targets start_trail entries targets trail later view same rest count =
    back before s entries targets trail later (same ∙ ap (λ (e : Equations). e.cells) view) (rest.0, sym (ap (λ (e : Equations). e.bindings) view) ∙ rest.1) count

pub IsStored-truncated : (before : Equations) (entries entries' : List Entry) (targets targets' : List (Option ℕ)) (trail : List ℕ) (n : ℕ) → n ≡ length before.cells
    → IsSound before → IsStored entries targets trail → IsBack before entries targets trail
    → entries' ≡ take n entries → targets' ≡ take n targets → IsStored entries' targets' trail
IsStored-truncated before entries entries' targets targets' trail n is sound stored is_back cut cut' =
    subst (λ (es : List Entry). IsStored es targets' trail) (sym cut)
    (subst (λ (ts : List (Option ℕ)). IsStored (take n entries) ts trail) (sym cut') (IsStored-undone before entries targets trail n is sound stored is_back))

pub equations-truncated : (before : Equations) (entries entries' : List Entry) (targets targets' : List (Option ℕ)) (trail : List ℕ) (n : ℕ)
    → n ≡ length before.cells → IsSound before → IsStored entries targets trail → IsBack before entries targets trail
    → entries' ≡ take n entries → targets' ≡ take n targets → equations_of entries' targets' trail ≡ before
equations-truncated before entries entries' targets targets' trail n is sound stored is_back cut cut' =
    ap₂ (λ es ts. equations_of es ts trail) cut cut' ∙ equations-undone before entries targets trail n is sound stored is_back

-- how many variables are free after one was bound
free_at-other : (b : Binding) (bs : List Binding) (row : ℕ) (e : Entry) → (b.variable ≡ row → ⊥) → free_at (b ∷ bs) row e ≡ free_at bs row e
free_at-other b bs row Variable other =
    ap (λ (t : Option ℕ). if is_none t then 1 else 0) (if_other b.variable row (Some b.target) (target_of bs row) other)
free_at-other b bs row (Application symbol args) other = refl

free_among-later : (b : Binding) (bs : List Binding) (row : ℕ) (es : List Entry) → b.variable < row → free_among (b ∷ bs) row es ≡ free_among bs row es
free_among-later b bs row [] later = refl
free_among-later b bs row (e ∷ es) later =
    ap₂ (λ m n. m + n) (free_at-other b bs row e (λ same. apart b.variable row later same)) (free_among-later b bs (suc row) es (omega arith))
  where
    apart : (m n : ℕ) → m < n → m ≡ n → ⊥
    apart m n lt e = omega arith

free_among-bind : (b : Binding) (bs : List Binding) (row : ℕ) (es : List Entry) (i : ℕ) → row + i ≡ b.variable → slice_get es i ≡ Some Variable → target_of bs b.variable ≡ None
    → free_among (b ∷ bs) row es + 1 ≡ free_among bs row es
free_among-bind b bs row [] i at_row is free = absurd cc
free_among-bind b bs row (e ∷ es) zero at_row is free =
    let here : b.variable ≡ row = omega arith in
    let variable : e ≡ Variable = cc in
    let counted : Option ℕ → ℕ = λ t. if is_none t then 1 else 0 in
    let now : free_at (b ∷ bs) row e ≡ 0 =
    ap (free_at (b ∷ bs) row) variable ∙ ap counted (if_same b.variable row (Some b.target) (target_of bs row) here) in
    let once : free_at bs row e ≡ 1 = ap (free_at bs row) variable ∙ ap counted (ap (target_of bs) (sym here) ∙ free) in
    let rest : free_among (b ∷ bs) (suc row) es ≡ free_among bs (suc row) es = free_among-later b bs (suc row) es (omega arith) in
    omega (arith, now, once, rest)
free_among-bind b bs row (e ∷ es) (suc i) at_row is free =
    let before : free_at (b ∷ bs) row e ≡ free_at bs row e = free_at-other b bs row e (λ same. apart b.variable row i at_row same) in
    let rest : free_among (b ∷ bs) (suc row) es + 1 ≡ free_among bs (suc row) es = free_among-bind b bs (suc row) es i (omega arith) is free in
    omega (arith, before, rest)
  where
    apart : (m n i : ℕ) → n + suc i ≡ m → m ≡ n → ⊥
    apart m n i sum e = omega arith

pub free_count-bind : (s : Equations) (v t : ℕ) → IsFree s v → free_count (with_binding s v t) + 1 ≡ free_count s
free_count-bind s v t free =
    let start : 0 + v ≡ v = omega arith in
    free_among-bind (record { variable = v; target = t }) s.bindings 0 s.cells v start free.variable free.unbound
