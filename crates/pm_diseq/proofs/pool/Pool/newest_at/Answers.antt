use Rattle.std.proofs.Common.{◌≡◌, ℕ, ◌≤◌, List, Option, None, length, map, get_or, subst, sym, ◌∙◌, ap₂}
use Rattle.std.proofs.lemmas.List.{get_or_past}
use Rattle.pm_diseq.specs.Inside.Entries.{IsNewest}
use Rattle.pm_diseq.specs.Inside.Waiting.{watched}
use Rattle.pm_diseq.proofs.EntryLemmas.{newest_seen}
use Rattle.pm_diseq.proofs.pool.Pool.newest_at.Goals as goal

pub returns-in-Some : goal.returns-in-Some
returns-in-Some c =
    let read : c.in-Some.place.now ≡ get_or c.self.inside.newest.items c.args.v None =
    c.in-Some.ensures.lookup.3.1 None ∙ ap₂ (λ (os : List (Option ℕ)) n. get_or os n None) c.deref.ensures.value c.number.ensures in
    subst (IsNewest (map watched c.args.self.now) (length c.args.self.now) c.args.v) (sym read)
    (newest_seen c.self.inside.cells.items c.self.inside.log.items c.self.inside.newest.items c.args.self.now (sym c.self.view_is) c.self.invariant c.args.v)

pub returns-in-None : goal.returns-in-None
returns-in-None c =
    let past : length c.self.inside.newest.items ≤ c.args.v =
    subst (λ (os : List (Option ℕ)). length os ≤ c.args.v) c.deref.ensures.value (subst (λ (n : ℕ). length c.deref.result.now ≤ n) c.number.ensures c.in-None.ensures.lookup.3) in
    subst (IsNewest (map watched c.args.self.now) (length c.args.self.now) c.args.v) (get_or_past c.self.inside.newest.items c.args.v None past)
    (newest_seen c.self.inside.cells.items c.self.inside.log.items c.self.inside.newest.items c.args.self.now (sym c.self.view_is) c.self.invariant c.args.v)
