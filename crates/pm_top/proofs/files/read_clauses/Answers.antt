use Rattle.std.proofs.Common.{ℕ, List, refl, subst}
use Rattle.std.proofs.lemmas.Result.{err_from_is_err_and}
use Rattle.pm_cnf.specs.declared.error.CnfError.{CnfError}
use Rattle.pm_cnf.specs.declared.limits.Limits.{Limits}
use Rattle.pm_cnf.specs.Refusals.{Refuses}
use Rattle.pm_top.specs.Output.{standard_limits}
use Rattle.pm_top.proofs.Fetched.{unread_stop, refused_stop}
use Rattle.pm_top.proofs.files.read_clauses.Goals as goal

pub returns-in_err-bytes-clause-stopped : goal.returns-in_err-bytes-clause-stopped
returns-in_err-bytes-clause-stopped g c =
    let p = err_from_is_err_and c.from_residual.result c.from_residual.ensures.1 in
    rw (p.1, p.2) (unread_stop (g.L.Library.told c.args.library.now) _ c.args.file.now (g.L.Library.longs c.args.library.now, g.L.Library.longs c.fetch.new.library) _
    c.in_err-bytes.ensures.stopped c.in_err-bytes.ensures.too_long)

pub returns-in-Err-At-clause-stopped : goal.returns-in-Err-At-clause-stopped
returns-in-Err-At-clause-stopped g c =
    let bytes = c.in_ok-bytes.bytes.items in
    let usual = subst (λ (limits : Limits). Refuses limits c.deref.result.now c.in-Err-At.field-0) c.standard.ensures c.in-Err-At.ensures.refused in
    let here = subst (λ (read : List ℕ). Refuses standard_limits read c.in-Err-At.field-0) c.deref.ensures.value usual in
    let refuses = subst (λ (error : CnfError). Refuses standard_limits bytes error) c.in-Err-At.field-0-is here in (
      _,
      c.in_ok-bytes.ensures.bytes.1,
      refused_stop bytes _ c.in-Err-At.place c.in-Err-At.kind _ c.in_ok-bytes.ensures.bytes.0 refuses refl c.in_ok-input_error-in-Err-At.ensures,
    )
