use Rattle.pm_cert.proofs.CertifiableLemmas.{certifiable}
use Rattle.pm_cert.proofs.laws.proofs_are_certifiable.Goals as goal

pub returns : goal.returns
returns c = certifiable
