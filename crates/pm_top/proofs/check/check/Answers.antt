use Rattle.std.proofs.Common.{ℕ, List, inr, refl, subst}
use Rattle.pm_certread.specs.Certificate.{certificate_of}
use Rattle.pm_certread.specs.Reading.{accepted, Reads}
use Rattle.pm_top.proofs.check.check.Goals as goal

pub returns-in-Ok-clause-answer : goal.returns-in-Ok-clause-answer
returns-in-Ok-clause-answer g c =
    let certificate = certificate_of c.in-Ok.cert in
    let reads = subst (λ (read : List ℕ). Reads c.args.problem.now read (accepted certificate)) c.deref.ensures.value c.in-Ok.ensures.ok in
    (_, c.in_ok-bytes.ensures.bytes.1, inr (c.in_ok-bytes.bytes.items, refl, inr (certificate, reads, c.in_ok-judge-in-Ok.ensures)))
