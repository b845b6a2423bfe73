use Rattle.pm_cert.proofs.ReadBackLemmas.{read_back}
use Rattle.pm_cert.proofs.laws.certificates_read_back.Goals as goal

pub returns : goal.returns
returns c = read_back
