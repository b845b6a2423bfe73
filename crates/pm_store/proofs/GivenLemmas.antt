-- What the terms that a resolver has given are to the solutions of the store.
use Rattle.std.proofs.Common.{◌≡◌, ℕ, ◌<◌, List, length, map, Result, Ok, Err, Some, sym, ◌∙◌, ap}
use Rattle.std.specs.Prelude.{IfOk, OnOk}
use Rattle.std.proofs.lemmas.List.Elements.{All-weaker}
use Rattle.std.proofs.lemmas.Option.{get_or_from_slice_get}
use Rattle.pm_logic.specs.Term.{Term, var, app, tree_at}
use Rattle.pm_logic.specs.Filling.{fill, put}
use Rattle.pm_store.specs.Equations.{Equations}
use Rattle.pm_store.specs.Solutions.{Solves}
use Rattle.pm_store.specs.Trees.{tree}
use Rattle.pm_store.specs.Sound.{IsSound}
use Rattle.pm_store.specs.Resolved.{Resolved, row_of, numbered, HasRow, IsResolved}
use Rattle.pm_store.specs.Laws.{ResolvedTermsSolve, ResolvedTermsAreGeneral}
use Rattle.pm_store.proofs.TermLemmas.{fill_among-as_terms}
use Rattle.pm_store.proofs.TreeLemmas.{trees_solve, trees_are_general}
use Rattle.pm_store.proofs.NumberLemmas.{put-numbered}

-- the trees of a solution, all filled alike, are a solution
filled_solve : (s : Equations) (f trees : ℕ → Term) → Solves s trees → Solves s (λ c. fill f (trees c))
filled_solve s f trees solves = record {
  applications = λ cell symbol args is. ap (fill f) (solves.applications cell symbol args is) ∙ ap (app symbol) (fill_among-as_terms f trees args);
  bindings = All-weaker (λ b. trees b.variable ≡ trees b.target) (λ b. fill f (trees b.variable) ≡ fill f (trees b.target)) (λ b same. ap (fill f) same)
      s.bindings solves.bindings;
}

pub resolved_terms_solve : ResolvedTermsSolve
resolved_terms_solve s r table sound is =
    (λ c. fill (numbered r.free) (tree s c), filled_solve s (numbered r.free) (tree s) (trees_solve s sound), λ cell row there. (is.rows cell row there).stands)

pub resolved_terms_are_general : ResolvedTermsAreGeneral
resolved_terms_are_general s r table solution sound is solves cell row within there =
    let has : HasRow s r.free table cell row = is.rows cell row there in
    trees_are_general s solution sound solves cell within
    ∙ sym (put-numbered r.free solution (tree s cell) has.variables)
    ∙ ap (put (map solution r.free)) (sym (get_or_from_slice_get table row (fill (numbered r.free) (tree s cell)) (var 0) has.stands))

-- so it is of the row that a call gives
pub given_general : {E : Type 0} (result : Result ℕ E) (s : Equations) (r : Resolved) (table : List Term) (a : ℕ) → IsSound s → a < length s.cells
    → IfOk result (λ row. row_of r a ≡ Some row) → OnOk result (IsResolved s r table)
    → IfOk result (λ row. (trees : ℕ → Term) → Solves s trees → trees a ≡ put (map trees r.free) (tree_at table row))
given_general (Ok row) s r table a sound within there is = λ trees solves. resolved_terms_are_general s r table trees sound is solves a row within there
given_general (Err e) s r table a sound within there is = tt
