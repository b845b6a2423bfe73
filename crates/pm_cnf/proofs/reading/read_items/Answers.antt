use Rattle.std.proofs.Common.{◌≡◌, ◌∙◌, ap, sym, subst, refl, map, false, Bool}
use Rattle.std.specs.Bool.{IsTrue}
use Rattle.pm_scan.specs.Lexemes.{lexeme_at}
use Rattle.pm_cnf.specs.Inside.Parsed.{item_of}
use Rattle.pm_cnf.specs.Inside.Readable.{IsRead}
use Rattle.pm_cnf.proofs.parsed.Progressing.{progress_start, progress_lexeme, lexeme_refuses, cut_refuses, progress_end, rest_is}
use Rattle.pm_cnf.proofs.reading.read_items.Goals as goal

pub lexemes-init : goal.lexemes-init
lexemes-init c = progress_start _ _ _ c.new-parser.ensures.limits c.new-parser.ensures.around c.new-parser.ensures.state c.new-parser.ensures.draft c.new-parser.ensures.known

pub lexemes-preserved : goal.lexemes-preserved
lexemes-preserved c =
    progress_lexeme _ _ _ _ _ _ _ c.lexemes.invariant (ap lexeme_at (rest_is c.args.bytes.now c.lexemes.place) ∙ sym c.in-Some.ensures.lexeme)
    c.in_default-read_lexeme.ensures.reads c.in_default-read_lexeme.ensures.room

pub returns-in-Err-clause-refused : goal.returns-in-Err-clause-refused
returns-in-Err-clause-refused c =
    lexeme_refuses _ _ _ _ _ _ _ _ _ c.lexemes.invariant (ap lexeme_at (rest_is c.args.bytes.now c.lexemes.place) ∙ sym c.in-Some.ensures.lexeme) c.in-Err.ensures.reads c.refused.ensures

pub returns-then-not-is_whole-clause-refused : goal.returns-then-not-is_whole-clause-refused
returns-then-not-is_whole-clause-refused c =
    cut_refuses _ _ _ _ _ c.lexemes.invariant (ap lexeme_at (rest_is c.args.bytes.now c.lexemes.place) ∙ sym c.in_default.ensures.lexeme)
    (λ whole. absurd (let h : IsTrue c.is_whole.result = c.is_whole.ensures.1 whole in let f : c.is_whole.result ≡ false = c.if-not-is_whole.true in cc)) c.refused-then-not-is_whole.ensures

pub returns-clause-read : goal.returns-clause-read
returns-clause-read c =
    subst (λ items. IsRead c.args.limits.now c.args.bytes.now (map item_of items.items)) (sym c.into_items.ensures)
    (progress_end _ _ _ _ c.lexemes.invariant (ap lexeme_at (rest_is c.args.bytes.now c.lexemes.place) ∙ sym c.in_default.ensures.lexeme)
    (c.is_whole.ensures.0 (subst (λ (b : Bool). IsTrue b) (sym c.if-not-is_whole.false) refl)))
