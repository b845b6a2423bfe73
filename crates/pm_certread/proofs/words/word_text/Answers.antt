use Rattle.std.proofs.Common.{◌≡◌, ◌∙◌, ◌++◌, string_bytes, List, ℕ, Bool, true, false, sym, subst, ap, true≢false}
use Rattle.std.specs.Str.{IsUtf8}
use Rattle.pm_logic.specs.Problem.{IsPrintable}
use Rattle.pm_logic.specs.Word.{written_word}
use Rattle.pm_certread.proofs.TextLemmas.{text_of_word, printable_utf8}
use Rattle.pm_certread.proofs.words.word_text.Goals as goal

neither : (b : Bool) → b ≡ false → b ≡ true → ⊥
neither b e t = true≢false (sym t ∙ e)

pub returns-then-not-is_printable : goal.returns-then-not-is_printable
returns-then-not-is_printable c text printable e =
    let same : c.deref.result.now ≡ text = c.deref.ensures.value ∙ text_of_word c.args.word.now c.in_ok-text.text.items text c.in_ok-text.ensures e in
    neither c.is_printable.result c.if-not-is_printable.true (c.is_printable.ensures.1 (subst IsPrintable (sym same) printable))

pub returns-in_default : goal.returns-in_default
returns-in_default c text printable e =
    let same : c.in_ok-text.text.items ≡ text = text_of_word c.args.word.now c.in_ok-text.text.items text c.in_ok-text.ensures e in
    let utf8 : IsUtf8 c.in_ok-text.text.items = subst IsUtf8 (sym same) (printable_utf8 text printable) in
    true≢false (sym (c.in_default.ensures.succeeds utf8))

pub returns-then-not-are_same : goal.returns-then-not-are_same
returns-then-not-are_same c text printable e =
    let same : c.in_ok-text.text.items ≡ text = text_of_word c.args.word.now c.in_ok-text.text.items text c.in_ok-text.ensures e in
    let bytes : string_bytes c.in-Ok.text ≡ text = ap (λ v. v.items) c.in-Ok.ensures.ok ∙ same in
    let written : c.deref-2.result.now ≡ c.args.word.now =
    c.deref-2.ensures.value ∙ c.in_ok-write_word.ensures.ok
    ∙ ap (λ (l : List ℕ). l ++ written_word c.as_str.result.now) c.in_ok-written.ensures.items
    ∙ ap written_word (c.as_str.ensures.value ∙ bytes) ∙ sym e in
    neither c.are_same.result c.if-not-are_same.true (c.are_same.ensures.1 written)
