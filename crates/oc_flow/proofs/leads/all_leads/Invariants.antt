use Rattle.std.proofs.Common.{take, map}
use Rattle.std.specs.List.{list_any}
use Rattle.oc_effects.specs.View.{effect_view}
use Rattle.oc_flow.specs.Known.{Adds, leads_known}
use Rattle.oc_flow.proofs.leads.all_leads.Given as goal

abbrev pub invariant-loop-effect : goal.invariant-loop-effect
invariant-loop-effect l = Adds (λ a b. list_any (λ e. leads_known l.known e a b) (take l.effect-index (map effect_view l.effects))) l.fn.table l.table
