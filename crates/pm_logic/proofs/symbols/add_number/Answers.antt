use Rattle.std.proofs.Common.{◌∙◌, ◌++◌, ◌∷◌, [], ap, subst, rules, List, ℕ, Some}
use Rattle.std.specs.Prelude.{String, Vec, string_bytes, string_eq}
use Rattle.std.specs.declared.hash.FoldHasher.{FoldHasher}
use Rattle.std.specs.declared.hash.BuildHasherDefault.{BuildHasherDefault}
use Rattle.std.specs.declared.alloc.Global.{Global}
use Rattle.std.specs.HashMap as hash
use Rattle.indexmap.specs.IndexMap.{IndexMap}
use Rattle.std.specs.Str.{bytes_eq}
use Rattle.pm_logic.proofs.IndexLemmas.{numbers_of-more, numbers_of-same, numbers_of-found, numbers_of-absent, on_err}
use Rattle.pm_logic.proofs.symbols.add_number.Goals as goal

pub returns-in_err-push-clause-err : goal.returns-in_err-push-clause-err
returns-in_err-push-clause-err c =
    on_err c.from_residual.result _
    (numbers_of-same c.args.text.now c.args.by_text.now (c.get_mut.follows.lender c.push.new.self) c.push.new.self
    ((c.get_mut.follows.holds c.push.new.self).3 (search rules))
    (c.in_err-push.ensures.items ∙ numbers_of-found c.args.text.now c.args.by_text.now c.in-Some.numbers.now c.in-Some.ensures.value))

pub returns-in-Some-clause-ok : goal.returns-in-Some-clause-ok
returns-in-Some-clause-ok c =
    numbers_of-more c.args.text.now c.args.by_text.now (c.get_mut.follows.lender c.push.new.self) c.push.new.self c.args.number
    ((c.get_mut.follows.holds c.push.new.self).3 (search rules))
    (c.in_ok-push.ensures.items ∙ ap (λ ns. ns ++ c.args.number ∷ []) (numbers_of-found c.args.text.now c.args.by_text.now c.in-Some.numbers.now c.in-Some.ensures.value))

pub returns-clause-ok : goal.returns-clause-ok
returns-clause-ok c =
    let same_text = subst (λ (text : List ℕ). hash.UpdatesBy string_eq (λ k. bytes_eq text (string_bytes k)) c.get_mut.follows.lender-at-none c.insert.new.self (Some c.push-2.new.self))
    c.in_ok-from_str.ensures.ok c.in_ok-insert.ensures.updates in
    let updates = subst (λ (old : IndexMap (String Global) (Vec ℕ Global) (BuildHasherDefault FoldHasher)). hash.UpdatesBy string_eq (λ k. bytes_eq c.args.text.now (string_bytes k)) old c.insert.new.self (Some c.push-2.new.self))
    c.get_mut.follows.holds-at-none same_text in
    numbers_of-more c.args.text.now c.args.by_text.now c.insert.new.self c.push-2.new.self c.args.number updates
    (c.in_ok-push-2.ensures.items ∙ ap (λ ns. ns ++ c.args.number ∷ []) (c.new-numbers.ensures.items ∙ numbers_of-absent c.args.text.now c.args.by_text.now c.in_default.ensures.value))
