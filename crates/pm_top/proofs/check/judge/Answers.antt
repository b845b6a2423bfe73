use Rattle.std.proofs.lemmas.Result.{IfOk-weaker}
use Rattle.pm_certread.specs.Certificate.{certificate_of}
use Rattle.pm_top.specs.Output.{EndsVerdict, IsRefusedAt}
use Rattle.pm_top.proofs.Checks.{refused_verdict}
use Rattle.pm_top.proofs.check.judge.Goals as goal

pub returns : goal.returns
returns c =
    let problem = c.args.problem.now in
    let certificate = certificate_of c.args.cert.now in
    let refusal = c.in-Err.field-0 in
    IfOk-weaker c.refuse.result (λ answer. IsRefusedAt refusal.line c.word.result.now answer.status answer.text.items) (λ answer. EndsVerdict problem certificate answer.status answer.text.items)
    (λ answer h. refused_verdict problem certificate c.in_ok-checker.checker refusal.line refusal.kind c.word.result.now answer.status answer.text.items
    c.in_ok-checker.ensures c.in-Err.ensures.err c.word.ensures h) c.refuse.ensures
