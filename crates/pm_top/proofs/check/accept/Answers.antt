use Rattle.std.proofs.Common.{List, ℕ, Vec, Global, ap, ◌∙◌, arith}
use Rattle.pm_certread.specs.Certificate.{certificate_of}
use Rattle.pm_report.specs.Text.{text_of, accepted_lines, accepted_inferences_lines}
use Rattle.pm_top.proofs.Checks.{read_shallow, accepted_depth, depth_verdict, inferences_verdict}
use Rattle.pm_top.proofs.check.accept.Goals.{in-Depth+in_ok-text-in-Depth, in-Inferences+in_ok-text-in-Inferences}
use Rattle.pm_top.proofs.check.accept.Goals as goal

pub list_of-requires-clause-shallow : goal.list_of-requires-clause-shallow
list_of-requires-clause-shallow c = read_shallow c.args.problem.now (certificate_of c.args.cert.now) c.requires.read

pub overflow_cast-size : goal.overflow_cast-size
overflow_cast-size c =
    omega (arith, accepted_depth c.args.problem.now (certificate_of c.args.cert.now) c.args.size c.requires.accepted c.requires.read c.in-Depth.is)

pub returns : goal.returns
returns c =
    let certificate = certificate_of c.args.cert.now in
    let choices = c.in_ok-choices.choices.items in
    elim c.match-cert.branch [
      | in-Depth+in_ok-text-in-Depth w ↦ depth_verdict c.args.problem.now certificate c.args.size c.requires.accepted choices _ c.in_ok-choices.ensures.least w.in-Depth.is
          (ap (λ (v : Vec ℕ Global). v.items) w.text-is ∙ w.in_ok-text-in-Depth.ensures ∙ ap (λ (ks : List ℕ). text_of (accepted_lines c.args.size ks)) w.deref.ensures.value)
      | in-Inferences+in_ok-text-in-Inferences w ↦ inferences_verdict c.args.problem.now certificate c.args.size c.requires.accepted choices _ c.in_ok-choices.ensures.least w.in-Inferences.is
          (ap (λ (v : Vec ℕ Global). v.items) w.text-is ∙ w.in_ok-text-in-Inferences.ensures
          ∙ ap (λ (ks : List ℕ). text_of (accepted_inferences_lines c.args.size ks)) w.deref-in-Inferences.ensures.value)
    ]
