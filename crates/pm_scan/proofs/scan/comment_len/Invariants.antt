use Rattle.std.proofs.Common.{◌≡◌, ◌+◌, length}
use Rattle.std.specs.Option.{option_map}
use Rattle.pm_scan.specs.Lexemes.{comment_len}
use Rattle.pm_scan.proofs.scan.comment_len.Given as goal

abbrev pub invariant-search : goal.invariant-search
invariant-search l = record {
  closes : option_map (λ n. l.len + n) (comment_len l.rest) ≡ comment_len l.bytes;
  within : l.len + length l.rest ≡ length l.bytes;
}

abbrev pub decreases-search : goal.decreases-search
decreases-search l = length l.rest
