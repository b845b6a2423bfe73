use Rattle.pm_certread.proofs.LineLemmas.{some_bytes}
use Rattle.std.proofs.Common.{◌∙◌, ◌≤◌, ℕ, List, length, take, get_or, arith, refl, sym, subst, ◌+◌, ◌<◌}
use Rattle.std.specs.List.{All}
use Rattle.std.proofs.lemmas.List.{take_more, take_all}
use Rattle.std.proofs.lemmas.List.Elements.{All-push}
use Rattle.pm_certread.proofs.words.is_printable.Goals as goal

abbrev IsPlain : ℕ → Type 0
IsPlain b = (32 ≤ b) × (b ≤ 126)

one_more : (bytes : List ℕ) (i : ℕ) → i < length bytes → All IsPlain (take i bytes) → IsPlain (get_or bytes i 0) → All IsPlain (take (i + 1) bytes)
one_more bytes i lt so_far here = subst (All IsPlain) (sym (take_more bytes i 0 lt)) (All-push IsPlain (take i bytes) (get_or bytes i 0) so_far here)

pub loop-byte-preserved : goal.loop-byte-preserved
loop-byte-preserved c = one_more c.args.bytes.now c.loop-byte.byte-index c.loop-byte-test.true c.loop-byte.invariant (omega arith, omega arith)

whole : (bytes : List ℕ) (i : ℕ) → length bytes ≤ i → All IsPlain (take i bytes) → All IsPlain bytes
whole bytes i le h = subst (All IsPlain) (take_all i bytes le) h

pub returns : goal.returns
returns c = (λ _. (some_bytes c.args.bytes.now (sym c.is_empty.ensures ∙ c.if-is_empty.false), whole c.args.bytes.now c.loop-byte.byte-index c.loop-byte-test.false c.loop-byte.invariant), λ _. refl)
