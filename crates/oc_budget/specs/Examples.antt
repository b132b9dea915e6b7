-- Budgets, by examples.
use Rattle.std.specs.Prelude.{◌≡◌, refl, [], ◌∷◌}
use Rattle.oc_tree.specs.Costs.{costs_to}
use Rattle.oc_tree.specs.Stack.{stacks_to}
use Rattle.oc_tree.specs.Worked.{fresh_writes, writes_region, fresh_marked}
use Rattle.oc_budget.specs.Budgets.{logged, safe_for, budgets}

-- one word of `n` and one of `m`
pub logged_example : logged fresh_writes writes_region ≡ 2
logged_example = refl

-- without regions: six steps, and one for each word of the stack
pub safe_for_example : safe_for 3 [] ≡ 9
safe_for_example = refl

-- twice the stack, 9, and the greatest budget
pub safe_for_example_regions : safe_for 3 (10 ∷ 4 ∷ []) ≡ 25
safe_for_example_regions = refl

-- the region takes 7 steps behind its `enter`, the run 9 instructions, and a period needs 20 steps
pub budgets_example :
    budgets fresh_marked
    ≡ record { regions = 7 ∷ []; logged = 0 ∷ []; total = 9; safe = 20 }
unfolding costs_to stacks_to
budgets_example = refl
