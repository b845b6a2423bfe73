use Rattle.std.proofs.Common.{sym, subst}
use Rattle.std.specs.List.{Contains}
use Rattle.pm_cert.proofs.LineLemmas.{places_more}
use Rattle.pm_cert.proofs.lines.push_places.Goals as goal

pub place_of-requires : goal.place_of-requires
place_of-requires c = subst (Contains c.args.list.now.keys) (sym c.row-item.is) (c.requires c.loop-row.row-index c.row-item.result c.loop-row-test.true)

pub loop-row-preserved : goal.loop-row-preserved
loop-row-preserved c =
    let so_far = c.loop-row.invariant in
    places_more c.args.list.now.keys c.args.rows.now c.args.text.now.items c.loop-row.text.items c.push.new.self.items c.push_number.new.text.items so_far.0
    c.loop-row.row-index c.row-item.result c.place_of.result c.loop-row-test.true c.row-item.is c.place_of.ensures c.in_ok-push.ensures.items c.in_ok-push_number.ensures so_far.1 so_far.2
