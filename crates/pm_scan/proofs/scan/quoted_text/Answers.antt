use Rattle.std.proofs.Common.{◌≡◌, List, ℕ, subst, sym, ap, ◌∙◌}
use Rattle.std.specs.Str.{IsUtf8}
use Rattle.std.proofs.lemmas.Str.{IsUtf8-from_ascii}
use Rattle.pm_scan.specs.Lexemes.{text_of}
use Rattle.pm_scan.proofs.Forms.{IsAscii-printables}
use Rattle.pm_scan.proofs.scan.quoted_text.Goals as goal

pub unwrap-requires : goal.unwrap-requires
unwrap-requires c =
    let is : c.in_ok-text.text.items ≡ text_of c.args.characters.now = c.in_ok-text.ensures ∙ ap text_of c.as_bytes.ensures.value in
    c.from_utf8.ensures.succeeds (subst (λ (bytes : List ℕ). IsUtf8 bytes) (sym is) (IsUtf8-from_ascii _ (IsAscii-printables _ c.requires.1)))
