-- How a search ended, as the code has it.
use Rattle.std.specs.Option.{option_map}
use Rattle.pm_logic.specs.Problem.{Problem}
use Rattle.pm_deepen.specs.Levels.{IsAnswerOf}
use Rattle.pm_args.specs.declared.job.Options.{Options}
use Rattle.pm_tab.specs.Searched.{Searched}
use Rattle.pm_top.specs.declared.search.Found.{Found}
use Rattle.pm_top.specs.Output.{searched_with}

-- it ended with the answer of the problem
abbrev pub IsFoundIn : Problem → Options → Found → Type 0
IsFoundIn problem options found =
    IsAnswerOf problem (searched_with options) found.outcome.works.items found.outcome.end
    (option_map (λ drawn. drawn.tableau) found.tableau)

-- what is searched of a problem
abbrev pub searched_of : Problem → Options → Searched
searched_of problem options =
    record {
      problem = problem;
      class = options.class;
      start = options.start;
      kind = options.bound;
    }
