use Rattle.std.proofs.Common.{rules, ◌≡◌, ◌∙◌, ap, ap₂, true}
use Rattle.std.proofs.lemmas.Result.{IfOk-weaker}
use Rattle.clap.specs.Walk.{rule_of}
use Rattle.clap.specs.Simple.{app_of, app_of_fields, on_top, with_rule}
use Rattle.pm_args.specs.Inside.Flat.{bare_app, words_rule}
use Rattle.pm_args.proofs.command.command.Goals as goal

pub returns : goal.returns
returns c =
    let named : app_of c.no_binary_name.result ≡ on_top (λ s. record s { no_binary_name = true }) (app_of c.new.result) = ap app_of_fields c.no_binary_name.ensures in
    let helped : app_of c.disable_help_flag.result ≡ on_top (λ s. record s { disable_help_flag = true }) (app_of c.no_binary_name.result) = ap app_of_fields c.disable_help_flag.ensures in
    let versioned : app_of c.disable_version_flag.result ≡ on_top (λ s. record s { disable_version_flag = true }) (app_of c.disable_help_flag.result) = ap app_of_fields c.disable_version_flag.ensures in
    let bare : app_of c.disable_version_flag.result ≡ bare_app =
    versioned ∙ ap (on_top (λ s. record s { disable_version_flag = true })) (helped ∙ ap (on_top (λ s. record s { disable_help_flag = true }))
    (named ∙ ap (on_top (λ s. record s { no_binary_name = true })) c.new.ensures.app)) in
    let words_are : rule_of c.action.result ≡ words_rule = search rules in
    let one = c.in_ok-arg.ensures.shape c.option.ensures.local ∙ ap₂ with_rule bare c.option.ensures.rule in
    let two = c.in_ok-arg-2.ensures.shape c.option-2.ensures.local ∙ ap₂ with_rule one c.option-2.ensures.rule in
    let three = c.in_ok-arg-3.ensures.shape c.option-3.ensures.local ∙ ap₂ with_rule two c.option-3.ensures.rule in
    let four = c.in_ok-arg-4.ensures.shape c.option-4.ensures.local ∙ ap₂ with_rule three c.option-4.ensures.rule in
    let five = c.in_ok-arg-5.ensures.shape c.option-5.ensures.local ∙ ap₂ with_rule four c.option-5.ensures.rule in
    let six = c.in_ok-arg-6.ensures.shape c.option-6.ensures.local ∙ ap₂ with_rule five c.option-6.ensures.rule in
    IfOk-weaker c.arg-7.result _ _ (λ made h. h.shape (search rules) ∙ ap₂ with_rule six words_are) c.arg-7.ensures
