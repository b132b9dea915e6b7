use Rattle.std.proofs.Common.{take}
use Rattle.std.specs.List.{list_any}
use Rattle.std.proofs.Math.ListN.{get_or}
use Rattle.oc_tree.specs.declared.tree.VarId.TheVariants.{Returned}
use Rattle.oc_effects.specs.View.{called_view, effect_view}
use Rattle.oc_flow.specs.Known.{Adds, leads_along}
use Rattle.oc_flow.proofs.leads.leads_from.Given as goal

abbrev pub invariant-loop-to : goal.invariant-loop-to
invariant-loop-to l = Adds (λ a b. list_any (λ y. leads_along l.callee (effect_view l.effect) (called_view l.call) (get_or l.callee.outer l.from Returned) y a b)
    (take l.to l.callee.outer)) l.fn.table l.table
