-- The budgets that a declared value stands for.
use Rattle.oc_budget.specs.declared.told.Budgets.{Budgets}
use Rattle.oc_budget.specs.Budgets.{TBudgets}

-- the budgets that those of the code stand for
abbrev pub budgets_view : Budgets → TBudgets
budgets_view b =
    record { regions = b.regions.items; logged = b.logged.items; total = b.total; safe = b.safe }
