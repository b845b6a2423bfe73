use Rattle.pm_compile.proofs.LawLemmas.{code_follows}
use Rattle.pm_compile.proofs.laws.code_follows_scheme.Goals as goal

pub returns : goal.returns
returns c = code_follows
