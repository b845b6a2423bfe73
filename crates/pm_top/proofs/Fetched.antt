-- How a clause file without a problem stops a run.
use Rattle.std.proofs.Common.{◌≡◌, ℕ, ◌+◌, ◌-◌, ◌^◌, ◌<◌, ◌≤◌, inl, inr, not, List, length, reverse, Option, Some, None, IfSome, sym, ap₂, subst, ◌∙◌, arith, length-take}
use Rattle.std.proofs.lemmas.List.{length-reverse}
use Rattle.std.proofs.lemmas.List.Sums.{length-filter, count_by-le-length, prefix_len-le-length}
use Rattle.pm_scan.specs.declared.offence.CnfKind.{CnfKind}
use Rattle.pm_scan.specs.declared.offence.Place.{Place}
use Rattle.pm_scan.specs.Lexemes.{is_line_end, line_of, column_of}
use Rattle.pm_cnf.specs.declared.error.CnfError.TheVariants.{At}
use Rattle.pm_cnf.specs.Refusals.{before, Refuses}
use Rattle.pm_outside.specs.Outside.{Files, Rose}
use Rattle.pm_args.specs.Words.{Text}
use Rattle.pm_report.specs.Text.{text_of, input_error_lines}
use Rattle.pm_top.specs.declared.answer.Answer.{Answer}
use Rattle.pm_top.specs.declared.files.TheConstants.{MAX_FILE_BYTES}
use Rattle.pm_top.specs.declared.status.Status.{Status}
use Rattle.pm_top.specs.declared.status.Status.TheVariants as ends
use Rattle.pm_top.specs.Files.{Held, missing, over_limit, these_bytes}
use Rattle.pm_top.specs.Output.{standard_limits, IsUnread, IsOffence}
use Rattle.pm_top.specs.Inside.Says.{SaysNothing}
use Rattle.pm_top.specs.Inside.Stops.{HoldsSo, EndsWith, IsClausesStop}
use Rattle.pm_top.proofs.Lines.{too_long_quiet, input_error_quiet, nothing_quiet}

-- ---- a file that wasn't read

unread_quiet : (held : Held) (status : Status) (text : List ℕ) → IsUnread 1 held status text → SaysNothing text
unread_quiet missing status text h = subst SaysNothing (sym h.1) nothing_quiet
unread_quiet over_limit status text h = subst SaysNothing (sym h.1) too_long_quiet
unread_quiet (these_bytes bytes) status text h = absurd h

-- the answer of a fetch is one of a clause file without a problem
pub unread_stop : (told : Option Files) (limit : ℕ) (name : Text) (longs : ℕ × ℕ) (answer : Option Answer)
    → IfSome answer (λ a. (held : Held) × HoldsSo told limit name held × IsUnread 1 held a.status a.text.items)
    → (EndsWith answer ends.BadInput → Rose longs.0 longs.1)
    → IfSome answer (λ a. (held : Held) × HoldsSo told limit name held × IsClausesStop held longs a)
unread_stop told limit name longs None h rose = tt
unread_stop told limit name longs (Some a) h rose =
    (h.0, h.1, record { output = inl h.2; cause = λ is. inr (rose is); says = unread_quiet h.0 a.status a.text.items h.2 })

-- ---- a file with an offence

line_within : (text : List ℕ) → line_of text ≤ 1 + length text
line_within text = omega (arith, length-filter is_line_end text, count_by-le-length is_line_end text)

column_within : (text : List ℕ) → column_of text ≤ 1 + length text
column_within text = omega (arith, prefix_len-le-length (λ b. not (is_line_end b)) (reverse text), length-reverse text)

before_within : (bytes rest : List ℕ) → length (before bytes rest) ≤ length bytes
before_within bytes rest = omega (arith, length-take (length bytes - length rest) bytes)

-- so is the answer for a first offence: its place has small numbers, since the file is short
pub refused_stop : (bytes : List ℕ) (longs : ℕ × ℕ) (place : Place) (kind : CnfKind) (answer : Answer) → length bytes ≤ MAX_FILE_BYTES
    → Refuses standard_limits bytes (At place kind) → answer.status ≡ ends.BadInput → answer.text.items ≡ text_of (input_error_lines place.line place.column kind)
    → IsClausesStop (these_bytes bytes) longs answer
refused_stop bytes longs place kind answer short refuses status_is text_is =
    let text = before bytes refuses.0 in
    let offence : IsOffence (these_bytes bytes) answer.text.items =
    (refuses.0, kind, refuses.1, text_is ∙ ap₂ (λ (l : ℕ) (c : ℕ). text_of (input_error_lines l c kind)) refuses.2.line refuses.2.column) in
    let line : line_of text < 2 ^ 64 = omega (arith, short, line_within text, before_within bytes refuses.0) in
    let column : column_of text < 2 ^ 64 = omega (arith, short, column_within text, before_within bytes refuses.0) in
    record {
      output = inr (status_is, offence);
      cause = λ is. inl (answer.text.items, offence);
      says = subst SaysNothing (sym offence.3) (input_error_quiet (line_of text) (column_of text) kind line column);
    }
