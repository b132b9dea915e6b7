use Rattle.std.proofs.Common.{take}
use Rattle.std.specs.Prelude.{◌&&◌}
use Rattle.std.specs.List.{list_any}
use Rattle.oc_flow.specs.Variables.{same_variable}
use Rattle.oc_flow.specs.Known.{Adds}
use Rattle.oc_flow.proofs.leads.link_all.Given as goal

abbrev pub invariant-loop-u : goal.invariant-loop-u
invariant-loop-u l = Adds (λ a b. list_any (λ x. same_variable a x && same_variable b l.t) (take l.u-index l.from)) l.fn.table l.table
