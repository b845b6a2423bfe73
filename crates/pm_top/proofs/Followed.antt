-- A complete list, followed choice by choice.
use Rattle.std.proofs.Common.{◌≡◌, ℕ, ◌+◌, ◌<◌, List, [], ◌∷◌, ◌++◌, length, get_or, take, drop, sym, subst}
use Rattle.std.proofs.lemmas.List.{take_more, take-append-drop}
use Rattle.pm_calculus.specs.Connection.{Level}
use Rattle.pm_calculus.specs.Choices.{IsReached, width}
use Rattle.pm_calculus.proofs.Prefixes.{prefix_reached, choice_below_width}

module _ (level : Level) (path : List ℕ) (i : ℕ) (less : i < length path) (reached : IsReached level path) where
  pub longer : take (i + 1) path ≡ take i path ++ get_or path i 0 ∷ []
  longer = take_more path i 0 less

  pub prefix_is_reached : IsReached level (take i path ++ get_or path i 0 ∷ [])
  prefix_is_reached =
      subst (IsReached level) longer
      (prefix_reached level (take (i + 1) path) (drop (i + 1) path) (subst (IsReached level) (sym (take-append-drop (i + 1) path)) reached))

  pub choice_is_below : get_or path i 0 < width level (take i path)
  choice_is_below = choice_below_width level (take i path) (get_or path i 0) [] prefix_is_reached
