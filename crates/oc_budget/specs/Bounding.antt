-- The budgets of a program, as bounds of the runs of its code.
use Rattle.std.specs.Prelude.{◌-◌}
use Rattle.std.proofs.Math.ListN.{get_or}
use Rattle.oc_tree.specs.Marked.{TMarked, IsMarked}
use Rattle.oc_isa.specs.Table.{device_of}
use Rattle.oc_code.specs.Code.{code_of}
use Rattle.oc_writes.specs.Targets.{may_write}
use Rattle.oc_budget.specs.Budgets.{budgets, steps}
use Rattle.oc_bounds.specs.Bounds.{Bounds, IsBounded}

-- the budgets of a program, and the steps of its runs, as bounds of its code; regions count from 1,
-- and a budget without the steps that log is what its instructions take
abbrev pub bounds_of : TMarked → Bounds
bounds_of m = record {
  spent = λ r. get_or (budgets m).regions (r - 1) 0 - get_or (budgets m).logged (r - 1) 0;
  logged = λ r. get_or (budgets m).logged (r - 1) 0;
  total = (budgets m).total;
  steps = steps m;
  safe = (budgets m).safe;
}

-- the budgets of every marked program bound the runs of its code
abbrev pub BudgetsBound : Type 0
BudgetsBound =
    (m : TMarked) → IsMarked m
    → IsBounded (device_of (code_of m.program m.regions (may_write m))) (bounds_of m)
