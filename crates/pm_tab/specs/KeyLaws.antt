-- The laws of the key of a level of the calculus.
use Rattle.std.proofs.Common.{[], ◌∷◌, arith}
use Rattle.pm_calculus.specs.Connection.{Level}
use Rattle.pm_calculus.proofs.Growth.{complete_ends}
use Rattle.pm_calculus.proofs.Prefixes.{prefix_reached, choice_below_width}
use Rattle.pm_space.specs.Key.{IsKey}
use Rattle.pm_deepen.specs.Levels.{key_of}

pub level_laws : (level : Level) → IsKey (key_of level)
level_laws level = record {
  complete_reached = λ choices complete. complete.reached;
  complete_chosen = λ complete. (let none = complete.begun in absurd (omega (arith, none)));
  complete_ends = λ choices complete. (complete_ends level choices complete).2;
  prefix = λ choices choice reached. prefix_reached level choices (choice ∷ []) reached;
  below = λ choices choice reached. choice_below_width level choices choice [] reached;
}
