use Rattle.pm_scan.proofs.Scanning.{IsAscii-number}
use Rattle.pm_scan.proofs.scan.number.Goals as goal

pub as_str-requires : goal.as_str-requires
as_str-requires c = rw c.number_len.ensures.len (IsAscii-number c.args.bytes.now)
