use Rattle.std.proofs.Common.{rules, ◌≡◌, ◌<◌, ◌≤◌, Ok, length, true}
use Rattle.std.specs.Char.{is_ascii_digit}
use Rattle.std.specs.List.{list_all}
use Rattle.std.specs.Str.Parse.{digits_value}
use Rattle.pm_args.proofs.Jobs.{thirteen_parse}
use Rattle.pm_args.proofs.values.number_within.Goals as goal

pub returns-in_err-number : goal.returns-in_err-number
returns-in_err-number c =
    let some : 0 < length c.args.text.now = search rules in
    let few : length c.args.text.now ≤ 13 = search rules in
    let digits : list_all is_ascii_digit c.args.text.now ≡ true = search rules in
    let read : c.parse.result ≡ Ok (digits_value 10 c.args.text.now) = thirteen_parse c.args.text.now c.parse.result c.parse.ensures.value.0 some few digits in
    search rules
