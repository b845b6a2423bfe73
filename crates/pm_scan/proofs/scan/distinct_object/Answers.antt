use Rattle.pm_scan.specs.Lexemes.{token, distinct, ending}
use Rattle.pm_scan.proofs.Scanning.{between-closed, between-fault}
use Rattle.pm_scan.proofs.scan.distinct_object.Goals as goal

pub returns-in-Ok : goal.returns-in-Ok
returns-in-Ok c = between-closed (λ _. token distinct) c.args.bytes.now (ending 34 c.args.bytes.now) c.in-Ok.len c.in-Ok.ensures.len

pub returns-in-Err : goal.returns-in-Err
returns-in-Err c = between-fault (λ _. token distinct) c.args.bytes.now (ending 34 c.args.bytes.now) c.in-Err.kind c.in-Err.ensures.len
