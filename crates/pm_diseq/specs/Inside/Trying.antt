-- What a step of a store with a pool makes of both.
use Rattle.std.specs.Prelude.{List}
use Rattle.pm_store.specs.Equations.{Equations}
use Rattle.pm_store.specs.Marks.{IsLater}
use Rattle.pm_diseq.specs.Notes.{Note}
use Rattle.pm_diseq.specs.Standing.{StandsAt}
use Rattle.pm_diseq.specs.Inside.Waiting.{IsGrown}

-- both have grown, and the pool stands at the store
pub record Advances (s later : Equations) (pool grown : List Note) : Type 0 where
  pub is_later : IsLater s later
  pub grows : IsGrown pool grown
  pub stands : StandsAt later grown
