use Rattle.std.proofs.Common.{◌≡◌, ◌∙◌, ◌^◌, ◌<◌, ℕ, List, decimal, Result, Ok, Err, Option, Some, sym, subst}
use Rattle.std.specs.Str.{IsUtf8}
use Rattle.std.proofs.lemmas.Fmt.{parse-decimal, IsAscii-decimal}
use Rattle.std.proofs.lemmas.Str.{IsUtf8-from_ascii}
use Rattle.pm_certread.proofs.words.parsed.Goals as goal

decimal_text : (n : ℕ) (word : List ℕ) → n < 2 ^ 64 → word ≡ decimal n → IsUtf8 word
decimal_text n word small is = subst IsUtf8 (sym is) (IsUtf8-from_ascii (decimal n) (IsAscii-decimal n small))

same_number : (E : Type 0) (r : Result ℕ E) (m n : ℕ) → r ≡ Ok m → r ≡ Ok n → ◌≡◌ {A = Option ℕ} (Some m) (Some n)
same_number E r m n p q = let same : ◌≡◌ {A = Result ℕ E} (Ok m) (Ok n) = sym p ∙ q in cc

no_error : (E : Type 0) (r : Result ℕ E) (e : E) (n : ℕ) → r ≡ Err e → r ≡ Ok n → ⊥
no_error E r e n p q = let same : ◌≡◌ {A = Result ℕ E} (Err e) (Ok n) = sym p ∙ q in absurd cc

pub returns-in-Ok-parse : goal.returns-in-Ok-parse
returns-in-Ok-parse c n small is =
    same_number _ c.parse.result c.in-Ok-parse.number n c.in-Ok-parse.is
    (parse-decimal 64 n c.in-Ok.text.now c.parse.result small small (c.in-Ok.ensures.cases.0 ∙ is) c.parse.ensures.value.0)

pub returns-in-Err-parse : goal.returns-in-Err-parse
returns-in-Err-parse c n small is =
    absurd (no_error _ c.parse.result c.in-Err-parse.field-0 n c.in-Err-parse.is
    (parse-decimal 64 n c.in-Ok.text.now c.parse.result small small (c.in-Ok.ensures.cases.0 ∙ is) c.parse.ensures.value.0))

pub returns-in-Err : goal.returns-in-Err
returns-in-Err c n small is = absurd (c.in-Err.ensures.cases.0 (decimal_text n c.args.word.now small is))
