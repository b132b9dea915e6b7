use Rattle.std.proofs.Common.{take}
use Rattle.std.specs.List.{list_any}
use Rattle.oc_effects.specs.View.{called_view, effect_view}
use Rattle.oc_flow.specs.Known.{Adds, leads_from}
use Rattle.oc_flow.proofs.leads.leads_to_callee.Given as goal

abbrev pub invariant-loop-from : goal.invariant-loop-from
invariant-loop-from l = Adds (λ a b. list_any (λ x. leads_from l.callee (effect_view l.effect) (called_view l.call) x a b) (take l.from l.callee.outer)) l.fn.table l.table
