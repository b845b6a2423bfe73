use Rattle.std.proofs.Common.{◌≡◌, ◌-◌, ◌≤◌, length, drop}
use Rattle.pm_scan.specs.Lexemes.{ending, later}
use Rattle.pm_scan.proofs.scan.characters_len.Given as goal

abbrev pub invariant-characters : goal.invariant-characters
invariant-characters l = record {
  ends : later l.len (ending l.closing (drop l.len l.bytes)) ≡ ending l.closing l.bytes;
  within : l.len ≤ length l.bytes;
}

abbrev pub decreases-characters : goal.decreases-characters
decreases-characters l = length l.bytes - l.len
