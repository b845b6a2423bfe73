use Rattle.std.proofs.Common.{refl, arith}
use Rattle.pm_book.specs.declared.tables.Tables.{Tables}
use Rattle.pm_book.proofs.Stays.{kept_same}
use Rattle.pm_book.proofs.tables.Tables.make_room.Goals as goal

pub returns-in_err-reserve-2-clause-kept : goal.returns-in_err-reserve-2-clause-kept
returns-in_err-reserve-2-clause-kept c =
    let new : Tables = record c.args.self.now { rows = c.reserve.new.self; cuts = c.reserve-2.new.self } in
    kept_same c.args.self.now new c.requires c.reserve.ensures.items c.reserve-2.ensures.items refl refl refl refl refl
    (record {
      rows = omega (arith, c.requires.room.rows, c.reserve.ensures.len, c.reserve.ensures.capacity);
      cuts = omega (arith, c.requires.room.cuts, c.reserve-2.ensures.len, c.reserve-2.ensures.capacity);
      events = c.requires.room.events;
      lowers = c.requires.room.lowers;
    })

pub returns-in_err-reserve-3-clause-kept : goal.returns-in_err-reserve-3-clause-kept
returns-in_err-reserve-3-clause-kept c =
    let new : Tables = record c.args.self.now { rows = c.reserve.new.self; cuts = c.reserve-2.new.self; events = c.reserve-3.new.self } in
    kept_same c.args.self.now new c.requires c.reserve.ensures.items c.reserve-2.ensures.items c.reserve-3.ensures.items refl refl refl refl
    (record {
      rows = omega (arith, c.requires.room.rows, c.reserve.ensures.len, c.reserve.ensures.capacity);
      cuts = omega (arith, c.requires.room.cuts, c.reserve-2.ensures.len, c.reserve-2.ensures.capacity);
      events = omega (arith, c.requires.room.events, c.reserve-3.ensures.len, c.reserve-3.ensures.capacity);
      lowers = c.requires.room.lowers;
    })

pub returns-in_err-reserve-4-clause-kept : goal.returns-in_err-reserve-4-clause-kept
returns-in_err-reserve-4-clause-kept c =
    let new : Tables = record c.args.self.now { rows = c.reserve.new.self; cuts = c.reserve-2.new.self; events = c.reserve-3.new.self; lowers = c.reserve-4.new.self } in
    kept_same c.args.self.now new c.requires c.reserve.ensures.items c.reserve-2.ensures.items c.reserve-3.ensures.items c.reserve-4.ensures.items refl refl refl
    (record {
      rows = omega (arith, c.requires.room.rows, c.reserve.ensures.len, c.reserve.ensures.capacity);
      cuts = omega (arith, c.requires.room.cuts, c.reserve-2.ensures.len, c.reserve-2.ensures.capacity);
      events = omega (arith, c.requires.room.events, c.reserve-3.ensures.len, c.reserve-3.ensures.capacity);
      lowers = omega (arith, c.requires.room.lowers, c.reserve-4.ensures.len, c.reserve-4.ensures.capacity);
    })

pub returns-clause-kept : goal.returns-clause-kept
returns-clause-kept c =
    let new : Tables = record c.args.self.now { rows = c.reserve.new.self; cuts = c.reserve-2.new.self; events = c.reserve-3.new.self; lowers = c.reserve-4.new.self } in
    kept_same c.args.self.now new c.requires c.reserve.ensures.items c.reserve-2.ensures.items c.reserve-3.ensures.items c.reserve-4.ensures.items refl refl refl
    (record {
      rows = omega (arith, c.requires.room.rows, c.reserve.ensures.len, c.reserve.ensures.capacity);
      cuts = omega (arith, c.requires.room.cuts, c.reserve-2.ensures.len, c.reserve-2.ensures.capacity);
      events = omega (arith, c.requires.room.events, c.reserve-3.ensures.len, c.reserve-3.ensures.capacity);
      lowers = omega (arith, c.requires.room.lowers, c.reserve-4.ensures.len, c.reserve-4.ensures.capacity);
    })
