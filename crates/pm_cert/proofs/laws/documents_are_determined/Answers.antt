use Rattle.pm_cert.proofs.DeterminedLemmas.{determined_document}
use Rattle.pm_cert.proofs.laws.documents_are_determined.Goals as goal

pub returns : goal.returns
returns c = determined_document
