use Rattle.pm_calculus.proofs.Refutation.{complementary_differ}
use Rattle.pm_calculus.proofs.laws.complementary_literals_differ.Goals as goal

pub returns : goal.returns
returns c = complementary_differ
