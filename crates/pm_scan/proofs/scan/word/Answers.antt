use Rattle.pm_scan.proofs.Scanning.{IsAscii-word}
use Rattle.pm_scan.proofs.scan.word.Goals as goal

pub as_str-requires : goal.as_str-requires
as_str-requires c = rw c.word_len.ensures.len (IsAscii-word c.args.bytes.now)
