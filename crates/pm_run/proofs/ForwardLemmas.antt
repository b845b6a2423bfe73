-- From the state after an instruction to the state before it.
use Rattle.std.proofs.Common.{◌≡◌, ℕ, Bool, inl, inr, List, [], ◌∷◌, ◌++◌, length, map, set, Some, None, refl, sym, ◌∙◌, ap, ap₂, subst}
use Rattle.std.proofs.lemmas.List.{length-map, map-append}
use Rattle.pm_logic.specs.Term.{Term, app, as_terms}
use Rattle.pm_store.specs.Entries.{Application}
use Rattle.pm_store.specs.Equations.{Equations, with_cell, with_new_variables, end_of}
use Rattle.pm_store.specs.Solutions.{Solves}
use Rattle.pm_store.proofs.BindingLemmas.{end_of-solved}
use Rattle.pm_store.proofs.SolutionLemmas.{Solves-with_cell, bindings_narrow, later_solutions}
use Rattle.std.proofs.lemmas.List.FromFn.{length-range_with_len}
use Rattle.pm_compile.specs.Instructions.{Instruction, FIRST, AGAIN, MEET, GROUND, NEW, PUSH, MAKE, CONST, GOAL, BODY, RETURN, CLOSE, REDUCE, DONE}
use Rattle.pm_run.specs.State.{RunState, TreeState, literal_under, child_under, state_under, with_changed, closed_child, closed_tree_child}
use Rattle.pm_run.specs.Turns.{InTurn}
use Rattle.pm_run.specs.Wants.{Pops, Pushes, Opens, Builds, AppendsChild, Reduces, Asks, NoBodyWants, BodyWants}
use Rattle.pm_run.specs.Meaning.{Meets, Unites, new_cells, all_set, unset_count, SetsLocal, UnifiesLocal, UnifiesGround, MeetsTop, SetsRest, PushesLocal, PushesGround, MakesCell, new_child, AddsChild, ClosesLeaf, Does, NoBody, RunsBody}
use Rattle.pm_run.specs.InStore.{Stands}
use Rattle.pm_run.specs.Laws.{RunsShowWants}
use Rattle.pm_run.proofs.StoreLemmas.{new_variables_later}
use Rattle.pm_run.proofs.PartLemmas.{map_under, map_changed, slice_get-set_same, kept_set, kept_all_set, ancestor_mapped}

module _ (trees : ℕ → Term) where
  -- what a met cell's tree is
  met_shown : (e : Equations) (c f n : ℕ) (args : List ℕ) (s : Equations) → Meets e c f n args s → Solves s trees
      → Solves e trees × (trees c ≡ app f (as_terms (map trees args))) × (length args ≡ n)
  met_shown e c f n args s (inl (is, same)) solves =
      let old : Solves e trees = subst (λ (t : Equations). Solves t trees) same solves in (
        old,
        end_of-solved e.bindings trees old.bindings c ∙ old.applications (end_of e.bindings c) f args is.stands,
        is.count,
      )
  met_shown e c f n args s (inr (free, are, same)) solves =
      let v : ℕ = end_of e.bindings c in
      let with_args : Equations = with_new_variables e n in
      let cell : ℕ = length with_args.cells in
      let with_app : Equations = with_cell with_args (Application f (new_cells e n)) in
      let bound = (bindings_narrow with_app v cell trees).0 (subst (λ (t : Equations). Solves t trees) same solves) in
      let made = (Solves-with_cell with_args (Application f (new_cells e n)) trees).0 bound.0 in
      let old : Solves e trees = later_solutions e with_args trees (new_variables_later e n) made.0 in (
        old,
        end_of-solved e.bindings trees old.bindings c ∙ bound.1 ∙ made.1 ∙ ap (λ (cs : List ℕ). app f (as_terms (map trees cs))) (sym are),
        ap length are ∙ length-range_with_len (length e.cells) n,
      )

  pub united_shown : (s : Equations) (cs ds : List ℕ) (new : Equations) → Unites s cs ds new → Solves new trees → Solves s trees × (map trees cs ≡ map trees ds)
  united_shown s [] [] new unites solves = (subst (λ (t : Equations). Solves t trees) unites solves, refl)
  united_shown s [] (d ∷ ds) new unites solves = absurd unites
  united_shown s (c ∷ cs) [] new unites solves = absurd unites
  united_shown s (c ∷ cs) (d ∷ ds) new (next, unified, others) solves =
      let rest = united_shown next cs ds new others solves in
      let first = (unified.solutions trees).0 rest.0 in
      (first.0, ap₂ (λ t ts. t ∷ ts) first.1 rest.1)

module _ (variables trees : ℕ → Term) where
  -- what was done shows what is wanted
  abbrev pub Shows : (RunState → RunState → Type 0) → (TreeState → TreeState → Type 0) → Type 0
  Shows does asks = (m new : RunState) → does m new → Stands variables trees new
      → Stands variables trees m × asks (state_under trees m) (state_under trees new)

  first_shows : (x : ℕ) → Shows (SetsLocal x) (Pops (variables x))
  first_shows x m new (c, rest, top, unset, is) stands =
      let after : RunState = record m { locals = set m.locals x (Some c); stack = rest } in
      let now : Stands variables trees after = subst (Stands variables trees) is stands in (
        record { solves = now.solves; agrees = λ y d is_set. now.agrees y d (kept_set m.locals x y c d unset is_set) },
        (
          map trees rest,
          ap (map trees) top ∙ ap (λ t. t ∷ map trees rest) (now.agrees x c (slice_get-set_same m.locals x None (Some c) unset)),
          ap (state_under trees) is,
        ),
      )

  again_shows : (x : ℕ) → Shows (UnifiesLocal x) (Pops (variables x))
  again_shows x m new (c, d, rest, s, top, is_set, unified, is) stands =
      let after : RunState = record m { equations = s; stack = rest } in
      let now : Stands variables trees after = subst (Stands variables trees) is stands in
      let old = (unified.solutions trees).0 now.solves in (
        record { solves = old.0; agrees = now.agrees },
        (
          map trees rest,
          ap (map trees) top ∙ ap (λ t. t ∷ map trees rest) (old.1 ∙ now.agrees x d is_set),
          ap (state_under trees) is,
        ),
      )

  ground_shows : (t : Term) → Shows (UnifiesGround t) (Pops t)
  ground_shows t m new (c, d, rest, s, top, cell, unified, is) stands =
      let after : RunState = record m { equations = s; stack = rest } in
      let now : Stands variables trees after = subst (Stands variables trees) is stands in
      let old = (unified.solutions trees).0 now.solves in (
        record { solves = old.0; agrees = now.agrees },
        (
          map trees rest,
          ap (map trees) top ∙ ap (λ u. u ∷ map trees rest) (old.1 ∙ cell.tree trees old.0),
          ap (state_under trees) is,
        ),
      )

  meet_shows : (f n : ℕ) → Shows (MeetsTop f n) (Opens f n)
  meet_shows f n m new (c, rest, args, s, top, meets, is) stands =
      let after : RunState = record m { equations = s; stack = args ++ rest } in
      let now : Stands variables trees after = subst (Stands variables trees) is stands in
      let old = met_shown trees m.equations c f n args s meets now.solves in (
        record { solves = old.0; agrees = now.agrees },
        (
          map trees args,
          map trees rest,
          length-map args trees ∙ old.2,
          ap (map trees) top ∙ ap (λ t. t ∷ map trees rest) old.1,
          ap (state_under trees) is ∙ ap (λ (ts : List Term). record (state_under trees m) { stack = ts }) (map-append trees args rest),
        ),
      )

  new_shows : Shows SetsRest (λ s next. next ≡ s)
  new_shows m new is stands =
      let n : ℕ = unset_count m.locals in
      let first : ℕ = length m.equations.cells in
      let after : RunState = record m { locals = all_set first m.locals; equations = with_new_variables m.equations n } in
      let now : Stands variables trees after = subst (Stands variables trees) is stands in (
        record {
          solves = later_solutions m.equations (with_new_variables m.equations n) trees (new_variables_later m.equations n) now.solves;
          agrees = λ y d is_set. now.agrees y d (kept_all_set first m.locals y d is_set);
        },
        ap (state_under trees) is,
      )

  push_shows : (x : ℕ) → Shows (PushesLocal x) (Pushes (variables x))
  push_shows x m new (c, is_set, is) stands =
      let after : RunState = record m { stack = c ∷ m.stack } in
      let now : Stands variables trees after = subst (Stands variables trees) is stands in (
        record { solves = now.solves; agrees = now.agrees },
        ap (state_under trees) is ∙ ap (λ t. record (state_under trees m) { stack = t ∷ map trees m.stack }) (now.agrees x c is_set),
      )

  constant_shows : (t : Term) → Shows (PushesGround t) (Pushes t)
  constant_shows t m new (c, cell, is) stands =
      let after : RunState = record m { stack = c ∷ m.stack } in
      let now : Stands variables trees after = subst (Stands variables trees) is stands in (
        record { solves = now.solves; agrees = now.agrees },
        ap (state_under trees) is ∙ ap (λ u. record (state_under trees m) { stack = u ∷ map trees m.stack }) (cell.tree trees now.solves),
      )

  make_shows : (f n : ℕ) → Shows (MakesCell f n) (Builds f n)
  make_shows f n m new (args, rest, counted, top, is) stands =
      let after : RunState = record m { equations = with_cell m.equations (Application f args); stack = length m.equations.cells ∷ rest } in
      let now : Stands variables trees after = subst (Stands variables trees) is stands in
      let old = (Solves-with_cell m.equations (Application f args) trees).0 now.solves in (
        record { solves = old.0; agrees = now.agrees },
        (
          map trees args,
          map trees rest,
          length-map args trees ∙ counted,
          map_under trees m.stack args rest top,
          ap (state_under trees) is ∙ ap (λ t. record (state_under trees m) { stack = t ∷ map trees rest }) old.1,
        ),
      )

  goal_shows : (positive : Bool) (p n : ℕ) → Shows (AddsChild positive p n) (AppendsChild positive p n)
  goal_shows positive p n m new (args, rest, counted, top, is) stands =
      let after : RunState = record m { stack = rest; children = m.children ++ new_child positive p args ∷ [] } in
      let now : Stands variables trees after = subst (Stands variables trees) is stands in (
        record { solves = now.solves; agrees = now.agrees },
        (
          map trees args,
          map trees rest,
          length-map args trees ∙ counted,
          map_under trees m.stack args rest top,
          ap (state_under trees) is
              ∙ ap (λ cs. record (state_under trees m) { stack = map trees rest; children = cs }) (map-append (child_under trees) m.children (new_child positive p args ∷ [])),
        ),
      )

  close_shows : (j : ℕ) → Shows (λ m new. new ≡ record m { children = with_changed j closed_child m.children })
      (λ s next. next ≡ record s { children = with_changed j closed_tree_child s.children })
  close_shows j m new is stands =
      let after : RunState = record m { children = with_changed j closed_child m.children } in
      let now : Stands variables trees after = subst (Stands variables trees) is stands in (
        record { solves = now.solves; agrees = now.agrees },
        ap (state_under trees) is
            ∙ ap (λ cs. record (state_under trees m) { children = cs }) (map_changed (child_under trees) closed_child closed_tree_child (λ child. refl) j m.children),
      )

  reduce_shows : (k : ℕ) → Shows (ClosesLeaf k) (Reduces k)
  reduce_shows k m new (ancestor, leaf, s, on, sign, predicate, unites, is) stands =
      let after : RunState = record m { equations = s; closed_by = Some k } in
      let now : Stands variables trees after = subst (Stands variables trees) is stands in
      let old = united_shown trees m.equations leaf.args ancestor.args s unites now.solves in (
        record { solves = old.0; agrees = now.agrees },
        (
          literal_under trees ancestor,
          literal_under trees leaf,
          ancestor_mapped (literal_under trees) m.branch k ancestor leaf on,
          record { sign = sign; predicate = predicate; args = old.1 },
          ap (state_under trees) is,
        ),
      )

  same_shows : Shows (λ m new. new ≡ m) (λ s next. next ≡ s)
  same_shows m new is stands = (subst (Stands variables trees) is stands, ap (state_under trees) is)

  module _ (body : ℕ → RunState → RunState → Type 0) (wants : ℕ → TreeState → TreeState → Type 0) (bodies : (c : ℕ) → Shows (body c) (wants c)) where
    does_shows : (i : Instruction) → Shows (Does body i) (Asks variables wants i)
    does_shows (FIRST x) = first_shows x
    does_shows (AGAIN x) = again_shows x
    does_shows (MEET f n) = meet_shows f n
    does_shows (GROUND t) = ground_shows t
    does_shows NEW = new_shows
    does_shows (PUSH x) = push_shows x
    does_shows (MAKE f n) = make_shows f n
    does_shows (CONST t) = constant_shows t
    does_shows (GOAL positive p n) = goal_shows positive p n
    does_shows (BODY c) = bodies c
    does_shows RETURN = same_shows
    does_shows (CLOSE j) = close_shows j
    does_shows (REDUCE k) = reduce_shows k
    does_shows DONE = same_shows

    turns_show : (code : List Instruction) → Shows (InTurn (Does body) code) (InTurn (Asks variables wants) code)
    turns_show [] m new is stands = same_shows m new is stands
    turns_show (i ∷ is) m new (next, does, others) stands =
        let later = turns_show is next new others stands in
        let first = does_shows i m next does later.0 in
        (first.0, (state_under trees next, first.1, later.1))

  body_shows : (bodies : ℕ → List Instruction) (c : ℕ) → Shows (RunsBody bodies c) (BodyWants variables bodies c)
  body_shows bodies c = turns_show NoBody NoBodyWants (λ d m new none stands. absurd none) (bodies c)

pub runs_show_wants : RunsShowWants
runs_show_wants bodies code m new variables trees runs stands =
    turns_show variables trees (RunsBody bodies) (BodyWants variables bodies) (body_shows variables trees bodies) code m new runs stands
