use Rattle.pm_scan.proofs.Scanning.{IsOk-from_utf8}
use Rattle.pm_scan.proofs.scan.as_str.Goals as goal

pub unwrap-requires : goal.unwrap-requires
unwrap-requires c = IsOk-from_utf8 c.args.bytes.now _ _ c.from_utf8.result c.from_utf8.ensures.cases c.requires
