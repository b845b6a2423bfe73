use Rattle.std.proofs.Common.{rules, tests, ◌∙◌, is_some}
use Rattle.std.proofs.lemmas.Iterator.{YieldsList-from_slice}
use Rattle.std.proofs.lemmas.Iterator.Search.{any_from_yields_List}
use Rattle.clap.specs.Words.{first_value, found_of}
use Rattle.pm_args.proofs.Jobs.{any_given}
use Rattle.pm_args.proofs.values.gives_any.Goals as goal

pub returns : goal.returns
returns c r has =
    any_from_yields_List (λ name. is_some (first_value (found_of c.args.matches.now) name.now)) _ _ c.any.result c.any.ensures.ran
    (YieldsList-from_slice c.args.names.now (cc)) (λ x b q k. search (rules, tests))
    ∙ any_given c.args.matches.now r c.args.names.now has c.requires
