use Rattle.std.proofs.Common.{length, refl}
use Rattle.pm_cert.proofs.LineLemmas.{levels_told}
use Rattle.pm_cert.proofs.head.push_levels.Goals as goal

pub returns-clause-text : goal.returns-clause-text
returns-clause-text c =
    levels_told c.args.text.now.items _ _ _ _ _ _ _ c.args.works.now (length c.args.works.now) c.args.last refl
    c.in_ok-extend_from_slice.ensures.items c.in_ok-push_exhausted.ensures c.in_ok-extend_from_slice-2.ensures.items c.in_ok-push_number.ensures
    c.in_ok-extend_from_slice-3.ensures.items c.in_ok-push_number-2.ensures c.in_ok-push.ensures.items
