use Rattle.std.proofs.Common.{refl}
use Rattle.pm_cert.proofs.LineLemmas.{writable-args, variable_told, application_told}
use Rattle.pm_cert.proofs.lines.push_term.Goals as goal
use Rattle.pm_cert.proofs.lines.push_term.Goals.{in-Var+in_ok-push-in-Var, in-App+in_ok-write_symbol-in-App+in_ok-push_places-in-App}

pub push_places-requires : goal.push_places-requires
push_places-requires c =
    writable-args c.args.symbols.now c.args.terms.now _ c.args.list.now.keys c.in-App.args.now c.args.row c.in-App.symbol refl c.requires.rows c.requires.within
    c.in-App.ensures.0 c.in-App.ensures.1 c.requires.writable

pub returns : goal.returns
returns c =
    elim c.match-look.branch [
      | in-Var+in_ok-push-in-Var w ↦ variable_told c.args.symbols.now c.args.terms.now c.args.list.now.keys c.args.row c.args.text.now.items c.match-look.text.items c.push-2.new.self.items
          _ w.in-Var.ensures.0 (rw w.text-is w.in_ok-push-in-Var.ensures.items) c.in_ok-push.ensures.items
      | in-App+in_ok-write_symbol-in-App+in_ok-push_places-in-App w ↦
          let places = w.in_ok-push_places-in-App.ensures in
          application_told c.args.symbols.now c.args.terms.now c.args.list.now.keys c.args.row c.args.text.now.items c.match-look.text.items c.push-2.new.self.items
          w.in-App.symbol w.in-App.args.now places.0 _ _ refl w.in-App.ensures.0 w.in_ok-write_symbol-in-App.ensures.ok places.1 (rw w.text-is places.2) c.in_ok-push.ensures.items
    ]
