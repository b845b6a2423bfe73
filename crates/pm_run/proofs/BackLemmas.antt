-- From a solution before an instruction, with trees that meet what it wants, to one after it.
use Rattle.std.proofs.Common.{◌≡◌, ℕ, ◌+◌, ◌<◌, ◌≤◌, Bool, inl, inr, List, [], ◌∷◌, ◌++◌, length, map, reverse, set, Some, None, slice_get, refl, sym, ◌∙◌, ap, ap₂, subst, arith, add-zero}
use Rattle.std.specs.List.{range_with_len}
use Rattle.std.proofs.lemmas.Bool.{cases_eq}
use Rattle.std.proofs.lemmas.List.{length-map, map-append, same_from_push}
use Rattle.std.proofs.lemmas.Option.{slice_get_within, same_Some}
use Rattle.pm_logic.specs.Term.{Term, app, as_terms, list_of}
use Rattle.pm_logic.specs.Problem.{Literal}
use Rattle.pm_logic.proofs.TableLemmas.{list_of-as_terms}
use Rattle.pm_store.specs.Entries.{Variable, Application}
use Rattle.pm_store.specs.Equations.{Equations, with_cell, with_new_variables, end_of, IsFree}
use Rattle.pm_store.specs.Solutions.{Solves}
use Rattle.pm_store.proofs.ListLemmas.{map_agree, slice_get-last}
use Rattle.pm_store.proofs.BindingLemmas.{end_of-solved}
use Rattle.pm_store.proofs.SolutionLemmas.{Solves-with_cell, bindings_narrow}
use Rattle.pm_store.proofs.GrowthLemmas.{variables_solutions}
use Rattle.pm_compile.specs.Instructions.{Instruction, FIRST, AGAIN, MEET, GROUND, NEW, PUSH, MAKE, CONST, GOAL, BODY, RETURN, CLOSE, REDUCE, DONE}
use Rattle.pm_run.specs.State.{RunState, TreeChild, TreeState, literal_under, child_under, state_under, with_changed, closed_child, closed_tree_child, IsAncestor}
use Rattle.pm_run.specs.Turns.{InTurn}
use Rattle.pm_run.specs.Wants.{Pops, Pushes, Opens, Builds, open_child, AppendsChild, Reduces, Asks, NoBodyWants, BodyWants}
use Rattle.pm_run.specs.Meaning.{IsApplication, Unites, new_cells, with_application, all_set, unset_count, SetsLocal, UnifiesLocal, UnifiesGround, MeetsTop, SetsRest, PushesLocal, PushesGround, MakesCell, new_child, AddsChild, ClosesLeaf, Does, NoBody, RunsBody}
use Rattle.pm_run.specs.InStore.{IsInStore, Stands, AgreeBelow}
use Rattle.pm_run.specs.Laws.{WantsAreReached}
use Rattle.pm_run.proofs.PartLemmas.{cons_parts, map_under, map_changed, slice_get-set_same, slice_get-set_other, same_cell, missing, all_set_cases, ancestor_mapped}
use Rattle.pm_run.proofs.StoreLemmas.{later_is_longer, length-new_variables, All-reversed}
use Rattle.pm_run.proofs.BuildLemmas.{popped_args}
use Rattle.pm_run.proofs.KeepLemmas.{on_top, does_keeps, no_body_keeps, body_keeps, Keeps}
use Rattle.pm_run.proofs.ExtendLemmas.{extended, extended_below, extended_at, extended_range, extended_solves, extended_agrees, extended_state}

same_args : (f : ℕ) (ts us : List Term) → app f (as_terms ts) ≡ app f (as_terms us) → ts ≡ us
same_args f ts us same =
    let inside : as_terms ts ≡ as_terms us = cc in
    sym (list_of-as_terms ts) ∙ ap list_of inside ∙ list_of-as_terms us

module _ (variables : ℕ → Term) where
  -- a solution of the state after that shows this, and is the solution before on the cells before
  abbrev pub Reached : (ℕ → Term) → RunState → RunState → TreeState → Type 0
  Reached trees m new last = (later : ℕ → Term) × AgreeBelow (length m.equations.cells) trees later
      × Stands variables later new × (state_under later new ≡ last)

  abbrev pub Reaches : (RunState → RunState → Type 0) → (TreeState → TreeState → Type 0) → Type 0
  Reaches does asks = (m new : RunState) (trees : ℕ → Term) (last : TreeState) → does m new → IsInStore m → Stands variables trees m
      → asks (state_under trees m) last → Reached trees m new last

  -- by the same solution
  stays : (trees : ℕ → Term) (m new after : RunState) (last : TreeState) → new ≡ after → Stands variables trees after → state_under trees after ≡ last
      → Reached trees m new last
  stays trees m new after last same stands shows =
      (trees, λ c lt. refl, subst (Stands variables trees) (sym same) stands, ap (state_under trees) same ∙ shows)

  -- by one that goes on to new cells
  goes_on : (trees : ℕ → Term) (ts : List Term) (m new after : RunState) (last : TreeState) → new ≡ after
      → Stands variables (extended trees (length m.equations.cells) ts) after → state_under (extended trees (length m.equations.cells) ts) after ≡ last
      → Reached trees m new last
  goes_on trees ts m new after last same stands shows =
      let later : ℕ → Term = extended trees (length m.equations.cells) ts in
      (later, extended_below trees (length m.equations.cells) ts, subst (Stands variables later) (sym same) stands, ap (state_under later) same ∙ shows)

  -- the tree on top
  tops : (trees : ℕ → Term) (stack : List ℕ) (c : ℕ) (rest : List ℕ) (t : Term) (ts : List Term) → stack ≡ c ∷ rest → map trees stack ≡ t ∷ ts
      → (trees c ≡ t) × (map trees rest ≡ ts)
  tops trees stack c rest t ts top shown = cons_parts (trees c) t (map trees rest) ts (sym (ap (map trees) top) ∙ shown)

  -- the stack is popped
  shows_rest : (trees : ℕ → Term) (m : RunState) (rest : List ℕ) (ts : List Term) (last : TreeState) → map trees rest ≡ ts
      → last ≡ record (state_under trees m) { stack = ts } → record (state_under trees m) { stack = map trees rest } ≡ last
  shows_rest trees m rest ts last same is = ap (λ us. record (state_under trees m) { stack = us }) same ∙ sym is

  first_reaches : (x : ℕ) → Reaches (SetsLocal x) (Pops (variables x))
  first_reaches x m new trees last (c, rest, top, unset, same) is stands (ts, shown, leads) =
      let parts = tops trees m.stack c rest (variables x) ts top shown in
      let after : RunState = record m { locals = set m.locals x (Some c); stack = rest } in
      stays trees m new after last same (record {
        solves = stands.solves;
        agrees = λ y d is_set. elim (cases_eq x y) [
          | inl e ↦
              ap trees (sym (same_cell c d (sym (slice_get-set_same m.locals x None (Some c) unset) ∙ ap (slice_get (set m.locals x (Some c))) e ∙ is_set)))
              ∙ parts.0 ∙ ap variables e
          | inr ne ↦ stands.agrees y d (sym (slice_get-set_other m.locals x y (Some c) ne) ∙ is_set)
        ];
      }) (shows_rest trees m rest ts last parts.1 leads)

  again_reaches : (x : ℕ) → Reaches (UnifiesLocal x) (Pops (variables x))
  again_reaches x m new trees last (c, d, rest, s, top, is_set, unified, same) is stands (ts, shown, leads) =
      let parts = tops trees m.stack c rest (variables x) ts top shown in
      let after : RunState = record m { equations = s; stack = rest } in
      stays trees m new after last same (record {
        solves = (unified.solutions trees).1 (stands.solves, parts.0 ∙ sym (stands.agrees x d is_set));
        agrees = stands.agrees;
      }) (shows_rest trees m rest ts last parts.1 leads)

  ground_reaches : (t : Term) → Reaches (UnifiesGround t) (Pops t)
  ground_reaches t m new trees last (c, d, rest, s, top, cell, unified, same) is stands (ts, shown, leads) =
      let parts = tops trees m.stack c rest t ts top shown in
      let after : RunState = record m { equations = s; stack = rest } in
      stays trees m new after last same (record {
        solves = (unified.solutions trees).1 (stands.solves, parts.0 ∙ sym (cell.tree trees stands.solves));
        agrees = stands.agrees;
      }) (shows_rest trees m rest ts last parts.1 leads)

  -- an application is met by its arguments
  found_reaches : (f n : ℕ) (m new : RunState) (trees : ℕ → Term) (last : TreeState) (c : ℕ) (rest args : List ℕ) (s : Equations) → m.stack ≡ c ∷ rest
      → IsApplication m.equations c f n args → s ≡ m.equations → new ≡ record m { equations = s; stack = args ++ rest } → Stands variables trees m
      → Opens f n (state_under trees m) last → Reached trees m new last
  found_reaches f n m new trees last c rest args s top found kept same stands (us, ts, counted, shown, leads) =
      let parts = tops trees m.stack c rest (app f (as_terms us)) ts top shown in
      let after : RunState = record m { equations = s; stack = args ++ rest } in
      let inside : map trees args ≡ us =
      same_args f (map trees args) us (sym (end_of-solved m.equations.bindings trees stands.solves.bindings c
      ∙ stands.solves.applications (end_of m.equations.bindings c) f args found.stands) ∙ parts.0) in
      stays trees m new after last same (record {
        solves = subst (λ (t : Equations). Solves t trees) (sym kept) stands.solves;
        agrees = stands.agrees;
      }) (ap (λ vs. record (state_under trees m) { stack = vs }) (map-append trees args rest ∙ ap₂ (λ vs ws. vs ++ ws) inside parts.1) ∙ sym leads)

  -- a free variable is met by new cells
  free_reaches : (f n : ℕ) (m new : RunState) (trees : ℕ → Term) (last : TreeState) (c : ℕ) (rest args : List ℕ) (s : Equations) → m.stack ≡ c ∷ rest
      → IsFree m.equations (end_of m.equations.bindings c) → args ≡ new_cells m.equations n
      → s ≡ with_application m.equations (end_of m.equations.bindings c) f n
      → new ≡ record m { equations = s; stack = args ++ rest } → IsInStore m → Stands variables trees m
      → Opens f n (state_under trees m) last → Reached trees m new last
  free_reaches f n m new trees last c rest args s top free are kept same is stands (us, ts, counted, shown, leads) =
      let e : Equations = m.equations in
      let first : ℕ = length e.cells in
      let v : ℕ = end_of e.bindings c in
      let whole : Term = app f (as_terms us) in
      let later : ℕ → Term = extended trees first (us ++ whole ∷ []) in
      let parts = tops trees m.stack c rest whole ts top shown in
      let vars : Equations = with_new_variables e n in
      let cell : ℕ = length vars.cells in
      let made : Equations = with_cell vars (Application f (new_cells e n)) in
      let cells : map later (new_cells e n) ≡ us =
      ap (λ k. map later (range_with_len first k)) (sym counted) ∙ extended_range trees first us (whole ∷ []) in
      let place : cell ≡ first + length us = length-new_variables e n ∙ ap (λ k. first + k) (sym counted) in
      let at_cell : later cell ≡ whole =
      ap later place ∙ extended_at trees first (us ++ whole ∷ []) (length us) whole (slice_get-last us whole) in
      let at_v : later v ≡ whole =
      extended_below trees first (us ++ whole ∷ []) v (slice_get_within e.cells v Variable free.variable)
      ∙ sym (end_of-solved e.bindings trees stands.solves.bindings c) ∙ parts.0 in
      let solves_vars : Solves vars later =
      (variables_solutions e vars first n is.sound refl refl later).1 (extended_solves variables trees m is stands (us ++ whole ∷ [])) in
      let solves_made : Solves made later =
      (Solves-with_cell vars (Application f (new_cells e n)) later).1 (solves_vars, at_cell ∙ ap (λ xs. app f (as_terms xs)) (sym cells)) in
      let solves_new : Solves (with_application e v f n) later =
      (bindings_narrow made v cell later).1 (solves_made, at_v ∙ sym at_cell) in
      let under : map later rest ≡ ts =
      map_agree later trees first rest (extended_below trees first (us ++ whole ∷ [])) (on_top m (c ∷ []) rest is top).1 ∙ parts.1 in
      let stack : map later (args ++ rest) ≡ us ++ ts =
      map-append later args rest ∙ ap₂ (λ vs ws. vs ++ ws) (ap (map later) are ∙ cells) under in
      goes_on trees (us ++ whole ∷ []) m new (record m { equations = s; stack = args ++ rest }) last same (record {
        solves = subst (λ (t : Equations). Solves t later) (sym kept) solves_new;
        agrees = extended_agrees variables trees m is stands (us ++ whole ∷ []);
      }) (ap₂ (λ (st : TreeState) vs. record st { stack = vs }) (extended_state variables trees m is stands (us ++ whole ∷ [])) stack ∙ sym leads)

  meet_reaches : (f n : ℕ) → Reaches (MeetsTop f n) (Opens f n)
  meet_reaches f n m new trees last (c, rest, args, s, top, inl (found, kept), same) is stands opens =
      found_reaches f n m new trees last c rest args s top found kept same stands opens
  meet_reaches f n m new trees last (c, rest, args, s, top, inr (free, are, kept), same) is stands opens =
      free_reaches f n m new trees last c rest args s top free are kept same is stands opens

  new_reaches : Reaches SetsRest (λ s next. next ≡ s)
  new_reaches m new trees last same is stands leads =
      let e : Equations = m.equations in
      let n : ℕ = unset_count m.locals in
      let first : ℕ = length e.cells in
      let ts : List Term = missing variables 0 m.locals in
      let later : ℕ → Term = extended trees first ts in
      goes_on trees ts m new (record m { locals = all_set first m.locals; equations = with_new_variables e n }) last same (record {
        solves = (variables_solutions e (with_new_variables e n) first n is.sound refl refl later).1 (extended_solves variables trees m is stands ts);
        agrees = λ y d is_set. elim (all_set_cases variables 0 first m.locals y d is_set) [
          | inl before ↦ extended_agrees variables trees m is stands ts y d before
          | inr (i, place, few, found) ↦ ap later place ∙ extended_at trees first ts i (variables (0 + y)) found ∙ ap variables (from_zero y)
        ];
      }) (extended_state variables trees m is stands ts ∙ sym leads)
    where
      from_zero : (y : ℕ) → 0 + y ≡ y
      from_zero y = omega arith

  push_reaches : (x : ℕ) → Reaches (PushesLocal x) (Pushes (variables x))
  push_reaches x m new trees last (c, is_set, same) is stands leads =
      stays trees m new (record m { stack = c ∷ m.stack }) last same (record { solves = stands.solves; agrees = stands.agrees })
      (ap (λ t. record (state_under trees m) { stack = t ∷ map trees m.stack }) (stands.agrees x c is_set) ∙ sym leads)

  constant_reaches : (t : Term) → Reaches (PushesGround t) (Pushes t)
  constant_reaches t m new trees last (c, cell, same) is stands leads =
      stays trees m new (record m { stack = c ∷ m.stack }) last same (record { solves = stands.solves; agrees = stands.agrees })
      (ap (λ u. record (state_under trees m) { stack = u ∷ map trees m.stack }) (cell.tree trees stands.solves) ∙ sym leads)

  -- the trees under the top, where cells were pushed
  unders : (trees : ℕ → Term) (stack args rest : List ℕ) (n : ℕ) (us ts : List Term) → length args ≡ n → length us ≡ n → stack ≡ reverse args ++ rest
      → map trees stack ≡ reverse us ++ ts → (map trees args ≡ us) × (map trees rest ≡ ts)
  unders trees stack args rest n us ts counted counted' top shown =
      popped_args us (map trees args) ts (map trees rest) n (length-map args trees ∙ counted) counted' (sym (map_under trees stack args rest top) ∙ shown)

  make_reaches : (f n : ℕ) → Reaches (MakesCell f n) (Builds f n)
  make_reaches f n m new trees last (args, rest, counted, top, same) is stands (us, ts, counted', shown, leads) =
      let e : Equations = m.equations in
      let first : ℕ = length e.cells in
      let whole : Term = app f (as_terms us) in
      let later : ℕ → Term = extended trees first (whole ∷ []) in
      let agree : AgreeBelow first trees later = extended_below trees first (whole ∷ []) in
      let parts = unders trees m.stack args rest n us ts counted counted' top shown in
      let below = on_top m (reverse args) rest is top in
      let inside : map later args ≡ us = map_agree later trees first args agree (All-reversed (λ c. c < first) args below.0) ∙ parts.0 in
      let under : map later rest ≡ ts = map_agree later trees first rest agree below.1 ∙ parts.1 in
      let at_first : later first ≡ whole = ap later (sym (add-zero first)) ∙ extended_at trees first (whole ∷ []) 0 whole refl in
      goes_on trees (whole ∷ []) m new (record m { equations = with_cell e (Application f args); stack = first ∷ rest }) last same (record {
        solves = (Solves-with_cell e (Application f args) later).1
            (extended_solves variables trees m is stands (whole ∷ []), at_first ∙ ap (λ xs. app f (as_terms xs)) (sym inside));
        agrees = extended_agrees variables trees m is stands (whole ∷ []);
      })
      (ap₂ (λ (st : TreeState) vs. record st { stack = vs }) (extended_state variables trees m is stands (whole ∷ [])) (ap₂ (λ t xs. t ∷ xs) at_first under)
      ∙ sym leads)

  goal_reaches : (positive : Bool) (p n : ℕ) → Reaches (AddsChild positive p n) (AppendsChild positive p n)
  goal_reaches positive p n m new trees last (args, rest, counted, top, same) is stands (us, ts, counted', shown, leads) =
      let parts = unders trees m.stack args rest n us ts counted counted' top shown in
      let before : List TreeChild = map (child_under trees) m.children in
      stays trees m new (record m { stack = rest; children = m.children ++ new_child positive p args ∷ [] }) last same
      (record { solves = stands.solves; agrees = stands.agrees })
      (ap (λ cs. record (state_under trees m) { stack = map trees rest; children = cs }) (map-append (child_under trees) m.children (new_child positive p args ∷ []))
      ∙ ap₂ (λ xs ys. record (state_under trees m) { stack = ys; children = before ++ open_child positive p xs ∷ [] }) parts.0 parts.1
      ∙ sym leads)

  close_reaches : (j : ℕ) → Reaches (λ m new. new ≡ record m { children = with_changed j closed_child m.children })
      (λ s next. next ≡ record s { children = with_changed j closed_tree_child s.children })
  close_reaches j m new trees last same is stands leads =
      stays trees m new (record m { children = with_changed j closed_child m.children }) last same (record { solves = stands.solves; agrees = stands.agrees })
      (ap (λ cs. record (state_under trees m) { children = cs }) (map_changed (child_under trees) closed_child closed_tree_child (λ child. refl) j m.children)
      ∙ sym leads)

  same_reaches : Reaches (λ m new. new ≡ m) (λ s next. next ≡ s)
  same_reaches m new trees last same is stands leads = stays trees m new m last same stands (sym leads)

pub unites_solve : (trees : ℕ → Term) (s : Equations) (cs ds : List ℕ) (new : Equations) → Unites s cs ds new → Solves s trees → map trees cs ≡ map trees ds → Solves new trees
unites_solve trees s [] [] new unites solves same = subst (λ (t : Equations). Solves t trees) (sym unites) solves
unites_solve trees s [] (d ∷ ds) new unites solves same = absurd unites
unites_solve trees s (c ∷ cs) [] new unites solves same = absurd unites
unites_solve trees s (c ∷ cs) (d ∷ ds) new (next, unified, others) solves same =
    let parts = cons_parts (trees c) (trees d) (map trees cs) (map trees ds) same in
    unites_solve trees next cs ds new others ((unified.solutions trees).1 (solves, parts.0)) parts.1

-- the leaf and its ancestor at a depth are determined
one_place : (k m n : ℕ) → k ≡ m + 1 → k ≡ n + 1 → m ≡ n
one_place k m n e f = omega arith

pub same_ancestor : {A : Type 0} (branch : List A) (k : ℕ) (a l b n : A) → IsAncestor branch k a l → IsAncestor branch k b n → (a ≡ b) × (l ≡ n)
same_ancestor branch k a l b n is other =
    let parts = same_from_push is.above other.above l n (sym is.all ∙ other.all) in
    let place : is.place ≡ other.place = one_place k is.place other.place is.at_depth other.at_depth in (
      same_Some a b (sym is.stands ∙ ap₂ slice_get parts.0 place ∙ other.stands),
      parts.1,
    )

module _ (variables : ℕ → Term) where
  reduce_reaches : (k : ℕ) → Reaches variables (ClosesLeaf k) (Reduces k)
  reduce_reaches k m new trees last (ancestor, leaf, s, on, sign, predicate, unites, same) is stands (up, low, on', opposite, leads) =
      let found = same_ancestor (map (literal_under trees) m.branch) k (literal_under trees ancestor) (literal_under trees leaf) up low
      (ancestor_mapped (literal_under trees) m.branch k ancestor leaf on) on' in
      let args : map trees leaf.args ≡ map trees ancestor.args =
      ap (λ (l : Literal). l.args) found.1 ∙ opposite.args ∙ ap (λ (l : Literal). l.args) (sym found.0) in
      stays variables trees m new (record m { equations = s; closed_by = Some k }) last same
      (record { solves = unites_solve trees m.equations leaf.args ancestor.args s unites stands.solves args; agrees = stands.agrees })
      (sym leads)

  module _ (body : ℕ → RunState → RunState → Type 0) (wants : ℕ → TreeState → TreeState → Type 0) (kept : (c : ℕ) → Keeps (body c))
      (bodies : (c : ℕ) → Reaches variables (body c) (wants c)) where
    pub does_reaches : (i : Instruction) → Reaches variables (Does body i) (Asks variables wants i)
    does_reaches (FIRST x) = first_reaches variables x
    does_reaches (AGAIN x) = again_reaches variables x
    does_reaches (MEET f n) = meet_reaches variables f n
    does_reaches (GROUND t) = ground_reaches variables t
    does_reaches NEW = new_reaches variables
    does_reaches (PUSH x) = push_reaches variables x
    does_reaches (MAKE f n) = make_reaches variables f n
    does_reaches (CONST t) = constant_reaches variables t
    does_reaches (GOAL positive p n) = goal_reaches variables positive p n
    does_reaches (BODY c) = bodies c
    does_reaches RETURN = same_reaches variables
    does_reaches (CLOSE j) = close_reaches variables j
    does_reaches (REDUCE k) = reduce_reaches k
    does_reaches DONE = same_reaches variables

    pub turns_reach : (code : List Instruction) → Reaches variables (InTurn (Does body) code) (InTurn (Asks variables wants) code)
    turns_reach [] m new trees last does is stands leads = same_reaches variables m new trees last does is stands leads
    turns_reach (i ∷ code) m new trees last (next, does, others) is stands (middle, asks, leads) =
        let first = does_reaches i m next trees middle does is stands asks in
        let keeps = does_keeps body kept i m next does is in
        let onward : InTurn (Asks variables wants) code (state_under first.0 next) last =
        subst (λ (st : TreeState). InTurn (Asks variables wants) code st last) (sym first.3) leads in
        let later = turns_reach code next new first.0 last others keeps.0 first.2 onward in (
          later.0,
          λ c lt. later.1 c (farther c (length m.equations.cells) (length next.equations.cells) lt (later_is_longer m.equations next.equations keeps.1)) ∙ first.1 c lt,
          later.2,
          later.3,
        )
      where
        farther : (c n k : ℕ) → c < n → n ≤ k → c < k
        farther c n k lt le = omega arith

  pub body_reaches : (bodies : ℕ → List Instruction) (c : ℕ) → Reaches variables (RunsBody bodies c) (BodyWants variables bodies c)
  body_reaches bodies c = turns_reach NoBody NoBodyWants no_body_keeps (λ d m new trees last none is stands leads. absurd none) (bodies c)

pub wants_are_reached : WantsAreReached
wants_are_reached bodies code m new variables trees last runs is stands wants =
    turns_reach variables (RunsBody bodies) (BodyWants variables bodies) (body_keeps bodies) (body_reaches variables bodies) code m new trees last runs is stands wants
