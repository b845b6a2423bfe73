-- What a search counts, the attempts, and what it looks for, the complete lists.
use Rattle.std.specs.Prelude.{◌≡◌, ℕ, ◌<◌, List, [], ◌∷◌, ◌++◌}
use Rattle.pm_space.specs.Key.{Key}
use Rattle.pm_choice.specs.Entries.{Entries}

-- An attempt is a reached list that isn't complete, followed by one alternative.
pub record IsAttempt (key : Key) (list : List ℕ) : Type 0 where
  pub path : List ℕ
  pub choice : ℕ
  pub parts : list ≡ path ++ choice ∷ []
  pub reached : key.reached path
  pub incomplete : ¬ key.complete path
  pub below : choice < key.width path

-- the entries of a level are its attempts; its complete lists are marked
abbrev pub attempts_of : Key → Entries
attempts_of key = record { is_entry = IsAttempt key; is_marked = key.complete }
