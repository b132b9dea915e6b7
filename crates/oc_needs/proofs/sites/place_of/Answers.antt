use Rattle.std.proofs.Common.{◌≡◌, ◌<◌, true, length, arith, rules}
use Rattle.std.proofs.Math.ListN.{get_or}
use Rattle.oc_flow.specs.Variables.{same_variable}
use Rattle.oc_needs.proofs.Rows.{same_variable_is}
use Rattle.oc_needs.proofs.sites.place_of.Goals as goal

pub returns-then-is_same : goal.returns-then-is_same
returns-then-is_same c =
    let vs = c.args.variables.now in
    let i = c.loop-i.i in
    let x = c.args.x in
    let few : i < length vs = omega arith in
    let test : same_variable (get_or vs i x) x ≡ true = search rules in
    (few, same_variable_is (get_or vs i x) x test)
