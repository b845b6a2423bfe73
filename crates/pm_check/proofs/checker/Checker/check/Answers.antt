use Rattle.std.proofs.Common.{◌≡◌, Result, Ok, Err, sym, subst}
use Rattle.std.specs.Result.{IfOk, IfErr, IsErrAnd}
use Rattle.pm_certread.specs.Certificate.{certificate_of}
use Rattle.pm_check.specs.declared.refusal.Refusal.{Refusal}
use Rattle.pm_check.specs.Verdicts.{Checked, IsAccepted, IsRefused}
use Rattle.pm_check.proofs.VerdictLemmas.{accepts, refuses_root, refuses_node, refuses_size}
use Rattle.pm_check.proofs.checker.Checker.check.Goals as goal

-- an error that goes on unchanged
goes_on : {T E : Type 0} (r : Result T E) (e : E) (P : E → Type 0) → IsErrAnd r (λ x. x ≡ e) → P e → IfErr r P
goes_on {E = E} (Ok x) e P is h = tt
goes_on {E = E} (Err x) e P is h = subst P (sym is) h

if_ok : {T E : Type 0} (r : Result T E) (P Q : T → Type 0) → IfOk r P → ((x : T) → P x → Q x) → IfOk r Q
if_ok (Ok x) P Q h step = step x h
if_ok (Err e) P Q h step = tt

if_err : {T E : Type 0} (r : Result T E) (P Q : E → Type 0) → IfErr r P → ((x : E) → P x → Q x) → IfErr r Q
if_err (Ok x) P Q h step = tt
if_err (Err e) P Q h step = step e h

both_ok : {T E : Type 0} (r : Result T E) (P Q : T → Type 0) → IfOk r P → IfOk r Q → IfOk r (λ x. P x × Q x)
both_ok (Ok x) P Q h k = (h, k)
both_ok (Err e) P Q h k = tt

pub returns-in_err-check_root-clause-err : goal.returns-in_err-check_root-clause-err
returns-in_err-check_root-clause-err c =
    let refusal = c.in_err-check_root.field-0.0 in
    subst (λ (s : Checked). IfErr c.from_residual.result (λ (r : Refusal). IsRefused s.problem s.certificate r.line r.kind)) c.self.view_is
    (goes_on c.from_residual.result refusal (λ (r : Refusal). IsRefused c.self.inside.problem.now (certificate_of c.self.inside.cert.now) r.line r.kind) c.from_residual.ensures.1
    (refuses_root c.self.inside.problem.now (certificate_of c.self.inside.cert.now) refusal c.in_err-check_root.ensures.err))

pub returns-in_err-check_nodes-clause-err : goal.returns-in_err-check_nodes-clause-err
returns-in_err-check_nodes-clause-err c =
    let refusal = c.in_err-check_nodes.field-0.0 in
    subst (λ (s : Checked). IfErr c.from_residual-in_err-check_nodes.result (λ (r : Refusal). IsRefused s.problem s.certificate r.line r.kind)) c.self.view_is
    (goes_on c.from_residual-in_err-check_nodes.result refusal (λ (r : Refusal). IsRefused c.self.inside.problem.now (certificate_of c.self.inside.cert.now) r.line r.kind) c.from_residual-in_err-check_nodes.ensures.1
    (refuses_node c.self.inside.problem.now (certificate_of c.self.inside.cert.now) refusal c.in_ok-check_root.ensures.ok c.in_err-check_nodes.ensures.err))

pub returns-clause-ok : goal.returns-clause-ok
returns-clause-ok c =
    let over = c.self.inside.problem.now in
    let certificate = certificate_of c.self.inside.cert.now in
    subst (λ (s : Checked). IfOk c.check_size.result (IsAccepted s.problem s.certificate)) c.self.view_is
    (if_ok c.check_size.result _ (IsAccepted over certificate) (both_ok c.check_size.result _ _ c.check_size.ensures.ok c.check_size.ensures.header)
    (λ n h. accepts over certificate n c.self.invariant.checkable c.in_ok-check_root.ensures.ok c.in_ok-check_nodes.ensures.ok h.0 h.1))

pub returns-clause-err : goal.returns-clause-err
returns-clause-err c =
    let over = c.self.inside.problem.now in
    let certificate = certificate_of c.self.inside.cert.now in
    subst (λ (s : Checked). IfErr c.check_size.result (λ (r : Refusal). IsRefused s.problem s.certificate r.line r.kind)) c.self.view_is
    (if_err c.check_size.result _ (λ (r : Refusal). IsRefused over certificate r.line r.kind) c.check_size.ensures.err
    (λ r h. refuses_size over certificate r c.in_ok-check_root.ensures.ok c.in_ok-check_nodes.ensures.ok h))
