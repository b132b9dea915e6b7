use Rattle.std.proofs.Common.{ap, ◌∙◌, map}
use Rattle.std.specs.List.{list_any}
use Rattle.oc_effects.specs.View.{effect_view}
use Rattle.oc_flow.specs.Known.{table_flows, some_brings}
use Rattle.oc_flow.proofs.Marked.{received_from}
use Rattle.oc_flow.proofs.inputs.which_receive.Goals as goal

pub returns : goal.returns
returns c =
    let t = c.args.table.now in
    c.in_ok-received.ensures
    ∙ ap (λ us. map (λ y. list_any (λ u. table_flows t u y) us) t.variables) c.as_slice.ensures.value
    ∙ received_from t c.in_ok-from.from.items (some_brings c.args.known.now (map effect_view c.args.effects.now)) c.in_ok-from.ensures
