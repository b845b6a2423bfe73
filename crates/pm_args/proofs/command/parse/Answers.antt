use Rattle.std.proofs.Common.{◌≡◌, ◌∙◌, inl, inr, ap, [], true, map, string_bytes, sym, subst, None}
use Rattle.clap.specs.Faults.{fault_of, is_simple_and_free}
use Rattle.clap.specs.Kinds.{HasKind}
use Rattle.clap.specs.Simple.{App, app_of, is_simple, matches_of}
use Rattle.clap.specs.Matches.{found_of}
use Rattle.clap.specs.Values.{kind_of}
use Rattle.clap.specs.Walk.{rows_of}
use Rattle.clap.proofs.WalkLemmas.{list_any-map}
use Rattle.pm_args.specs.Inside.Flat.{flat_app}
use Rattle.pm_args.specs.Inside.Found.{is_stray}
use Rattle.pm_args.proofs.Parses.{all_clear, failed, flat_is_simple, parsed, stray_refused}
use Rattle.pm_args.proofs.command.parse.Goals as goal

pub returns-then-has_stray : goal.returns-then-has_stray
returns-then-has_stray c = λ _. stray_refused (map string_bytes c.args.words.now) None []
    (sym (list_any-map is_stray string_bytes c.args.words.now) ∙ (sym c.has_stray.ensures ∙ c.if-has_stray.true))

pub returns-in-Ok : goal.returns-in-Ok
returns-in-Ok c =
    let words = map string_bytes c.args.words.now in
    let clear = all_clear words (sym (list_any-map is_stray string_bytes c.args.words.now) ∙ (sym c.has_stray.ensures ∙ c.if-has_stray.false)) in
    let app_is : app_of c.in_ok-command.field-0 ≡ flat_app = c.in_ok-command.ensures in
    let simple : is_simple (app_of c.in_ok-command.field-0) ≡ true = ap is_simple app_is in
    let free : is_simple_and_free (app_of c.in_ok-command.field-0) ≡ true = ap is_simple_and_free app_is ∙ flat_is_simple in
    parsed words c.in-Ok.matches clear
    (subst (λ (a : App). fault_of a words ≡ []) app_is (c.in-Ok.ensures.kinds free))
    (subst (λ (a : App). rows_of (found_of c.in-Ok.matches) ≡ matches_of a words) app_is (c.in-Ok.ensures.matches simple).0)

pub returns-in-Err : goal.returns-in-Err
returns-in-Err c bad =
    let words = map string_bytes c.args.words.now in
    let clear = all_clear words (sym (list_any-map is_stray string_bytes c.args.words.now) ∙ (sym c.has_stray.ensures ∙ c.if-has_stray.false)) in
    let app_is : app_of c.in_ok-command.field-0 ≡ flat_app = c.in_ok-command.ensures in
    let free : is_simple_and_free (app_of c.in_ok-command.field-0) ≡ true = ap is_simple_and_free app_is ∙ flat_is_simple in
    elim (subst (λ (a : App). HasKind (fault_of a words) c.in-Err.error) app_is (c.in-Err.ensures.kinds free)) [
      | inl memory ↦ absurd (c.cause_of.ensures bad memory)
      | inr among ↦ failed words (kind_of c.in-Err.error) clear among
    ]
