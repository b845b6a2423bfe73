use Rattle.std.proofs.Common.{◌∙◌, sym, ap, []}
use Rattle.std.proofs.lemmas.Result.{MatchResult-weaker}
use Rattle.pm_args.specs.Jobs.{job_among}
use Rattle.pm_args.proofs.Jobs.{plain_words, three_words, two_words}
use Rattle.pm_args.proofs.job.job_among.Goals as goal

pub returns-in-Some-len2 : goal.returns-in-Some-len2
returns-in-Some-len2 c r has =
    let words = c.in-Some-len2.field-0 in
    let plain = plain_words c.args.matches.now r c.get_strs.result words has c.in-Some-len2.is c.get_strs.ensures in
    let same = two_words r words.now (record { ref_ptr = (0, 0); now = [] }) c.in-Some-len2.len_at_least c.in-Some-len2.len_below in
    MatchResult-weaker c.job_of_one.result (c.job_of_one.ensures r has) (λ made e. ap (job_among r) (sym plain) ∙ (same ∙ e)) (λ fault e bad. ap (job_among r) (sym plain) ∙ (same ∙ e bad))

pub returns-in-Some-len3 : goal.returns-in-Some-len3
returns-in-Some-len3 c r has =
    let words = c.in-Some-len3.field-0 in
    let plain = plain_words c.args.matches.now r c.get_strs.result words has c.in-Some-len3.is c.get_strs.ensures in
    let same = three_words r words.now (record { ref_ptr = (0, 0); now = [] }) c.in-Some-len3.len_at_least c.in-Some-len3.len_below in
    MatchResult-weaker c.job_of_two.result (c.job_of_two.ensures r has) (λ made e. ap (job_among r) (sym plain) ∙ (same ∙ e)) (λ fault e bad. ap (job_among r) (sym plain) ∙ (same ∙ e bad))
