use Rattle.std.proofs.Common.{◌≡◌, drop}
use Rattle.std.specs.List.{list_any}
use Rattle.oc_flow.specs.Variables.{same_variable}
use Rattle.oc_budget.proofs.uses.names_fresh.Given as goal

abbrev pub invariant-loop-var : goal.invariant-loop-var
invariant-loop-var l =
    list_any (λ v. list_any (same_variable v) l.fresh) (drop l.var-index l.named) ≡ list_any (λ v. list_any (same_variable v) l.fresh) l.named
