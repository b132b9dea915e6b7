use Rattle.std.proofs.Common.{◌≡◌, map}
use Rattle.oc_effects.specs.View.{effect_view}
use Rattle.oc_flow.specs.Known.{TTable, TKnown}
use Rattle.oc_flow.proofs.Built.{known_by}
use Rattle.oc_flow.proofs.functions.know.Goals as goal

pub returns : goal.returns
returns c =
    let out = c.in_ok-others.others.items in
    let rs = c.in_ok-received.received.items in
    let make : TTable → TKnown = λ t. record { table = t; outer = out; received = rs } in
    let is : c.new.result ≡ make c.in_ok-table.table = c.new.ensures in
    known_by c.args.outer.nonvolatile c.args.outer.params c.args.known.now (map effect_view c.args.effects.now) c.new.result c.in_ok-table.table out
    c.in_ok-variables.variables.items rs is c.in_ok-others.ensures c.in_ok-table.ensures.variables c.in_ok-variables.ensures c.in_ok-table.ensures.links c.in_ok-received.ensures
