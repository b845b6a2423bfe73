use Rattle.std.proofs.Common.{ℕ, take, subst, sym}
use Rattle.std.specs.Str.{IsAscii}
use Rattle.pm_scan.proofs.Scanning.{IsAscii-dollar_word, dollar_len-parts}
use Rattle.pm_scan.proofs.scan.dollar_word.Goals as goal

pub as_str-requires : goal.as_str-requires
as_str-requires c =
    let is = dollar_len-parts c.args.bytes.now c.dollars_len-dollars.result c.word_len.result c.dollars_len-dollars.ensures.len c.word_len.ensures.len in
    subst (λ (n : ℕ). IsAscii (take n c.args.bytes.now)) (sym is) (IsAscii-dollar_word c.args.bytes.now)
