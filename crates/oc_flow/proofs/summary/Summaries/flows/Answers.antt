use Rattle.std.proofs.Common.{ap, ◌∙◌}
use Rattle.oc_tree.specs.Checked.{TChecked}
use Rattle.oc_flow.specs.Flow.{flows}
use Rattle.oc_flow.specs.Known.{Knowns, known_at, known_flows}
use Rattle.oc_flow.proofs.Asked.{flows_asked}
use Rattle.oc_flow.proofs.summary.Summaries.flows.Goals as goal

pub returns : goal.returns
returns c =
    c.known_flows.ensures ∙ ap (λ (ks : Knowns). known_flows (known_at ks c.args.function) c.args.u c.args.v) c.as_slice.ensures.value
    ∙ flows_asked c.self.inside.effects.program c.self.inside.known.items c.self.invariant c.args.function c.args.u c.args.v
    ∙ ap (λ (t : TChecked). flows t.program c.args.function c.args.u c.args.v) c.self.view_is
