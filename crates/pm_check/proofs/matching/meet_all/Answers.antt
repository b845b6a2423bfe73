use Rattle.std.proofs.Common.{◌≡◌, ◌<◌, ◌∙◌, refl, ◌++◌, ◌∷◌, [], ◌+◌, ℕ, List, length, get_or, take, sym, ap, subst, arith}
use Rattle.std.proofs.lemmas.List.{take_more}
use Rattle.std.proofs.lemmas.Option.{slice_get_read}
use Rattle.pm_check.specs.Inside.Matching.{MeetAll}
use Rattle.pm_check.proofs.MatchingLemmas.{images_there, none_give, meet_more}
use Rattle.pm_check.proofs.matching.meet_all.Goals as goal

pub meet-requires-clause-images : goal.meet-requires-clause-images
meet-requires-clause-images c =
    images_there c.args.target.now c.args.images.now.matches c.rows.images.matches c.rows.i c.args.rows.now c.args.others.now c.rows.invariant.0 c.requires.images c.requires.others

pub returns-then-not-meet-clause-answer : goal.returns-then-not-meet-clause-answer
returns-then-not-meet-clause-answer c =
    let rows = c.args.rows.now in
    let others = c.args.others.now in
    let within : c.rows.i < length others = omega (arith, c.rows-test.true, c.if-rows-others.false) in
    none_give c.args.target.now c.args.images.now.matches c.rows.images.matches c.rows.i rows others c.index-rows-i.result c.index-others-i.result c.rows.invariant.0
    (slice_get_read rows (length rows) c.rows.i c.index-rows-i.result refl c.rows-test.true c.index-rows-i.is)
    (slice_get_read others (length others) c.rows.i c.index-others-i.result refl within c.index-others-i.is)
    c.if-not-meet.ensures.answer

-- one more element of a list
front : (xs : List ℕ) (i x : ℕ) → i < length xs → x ≡ get_or xs i x → take i xs ++ x ∷ [] ≡ take (i + 1) xs
front xs i x within is = ap (λ y. take i xs ++ y ∷ []) is ∙ sym (take_more xs i x within)

pub rows-preserved : goal.rows-preserved
rows-preserved c =
    let target = c.args.target.now in
    let old = c.args.images.now.matches in
    let new = c.meet.new.images.matches in
    let i = c.rows.i in
    let rows = c.args.rows.now in
    let others = c.args.others.now in
    let within : i < length others = omega (arith, c.rows-test.true, c.if-rows-others.false) in
    let more = meet_more target old c.rows.images.matches new (take i rows) (take i others) c.index-rows-i.result c.index-others-i.result c.rows.invariant.0 c.if-not-meet.ensures.answer in (
      subst (λ (rs : List ℕ). MeetAll target old new rs (take (i + 1) others)) (front rows i c.index-rows-i.result c.rows-test.true c.index-rows-i.is)
          (subst (λ (os : List ℕ). MeetAll target old new (take i rows ++ c.index-rows-i.result ∷ []) os) (front others i c.index-others-i.result within c.index-others-i.is) more),
      c.meet.ensures.count ∙ c.rows.invariant.1,
    )
