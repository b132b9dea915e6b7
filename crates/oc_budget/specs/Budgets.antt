-- Budgets: how many steps an execution of a region takes at most, and how long periods must be.
use Rattle.std.specs.Prelude.{ℕ, ◌+◌, ◌-◌, ◌*◌, List, [], ◌∷◌, map, max, min, filter, sum_by}
use Rattle.std.proofs.Math.ListN.{get_or}
use Rattle.oc_tree.specs.Tree.{TKind, return, TProgram}
use Rattle.oc_tree.specs.declared.said.Target.{Target}
use Rattle.oc_tree.specs.declared.said.Target.TheVariants as targets
use Rattle.oc_tree.specs.Weight.{expr_cost}
use Rattle.oc_tree.specs.Stack.{stack_words}
use Rattle.oc_tree.specs.Places.{Placed, program_placed}
use Rattle.oc_tree.specs.Marked.{TRegion, TMarked, is_in_region}
use Rattle.oc_writes.specs.Targets.{region_targets}
use Rattle.oc_watch.specs.Entries.{run_toll}
use Rattle.oc_budget.specs.Costs.{is_use, costs, total}
use Rattle.oc_tree.specs.Costs.{probes, inner_cost}

-- how many words a target has
abbrev pub target_words : Target → ℕ
target_words (targets.Nv base len) = len
target_words (targets.Param slot len) = len

-- how many words a region logs at most
abbrev pub logged : TProgram → TRegion → ℕ
logged p r = sum_by target_words (region_targets p r)

-- what a statement of a region costs in it. The `commit` stands before the last instruction of a
-- `return`, which is behind the region
abbrev pub held_cost : TMarked → ℕ → TKind → ℕ
held_cost m n (return e) = expr_cost e + probes (is_use m.program n) (return e)
held_cost m n k =
    inner_cost m.program.functions (is_use m.program) m.regions (costs m) n k
    + probes (is_use m.program n) k

-- the statements directly in a region
abbrev pub statements_in : TProgram → TRegion → List Placed
statements_in p r = filter (λ a. is_in_region p r a.id) (program_placed p)

-- the steps behind a region's `enter`: its statements, its `commit`, and a step for each word that is logged
abbrev pub budget : TMarked → TRegion → ℕ
budget m r =
    sum_by (λ a. held_cost m a.id a.kind) (statements_in m.program r) + 1 + logged m.program r

-- the greatest of a number and these
abbrev pub greatest : ℕ → List ℕ → ℕ
greatest b [] = b
greatest b (c ∷ cs) = greatest (max b c) cs

-- the steps of a period that suffice, with `w` words of stack: two steps to read the state and to resume, those of a
-- restore, those of a region's entry, and its budget
abbrev pub safe_for : (w : ℕ) → List ℕ → ℕ
safe_for w [] = w + 6
safe_for w (b ∷ bs) = 2 * w + 9 + greatest b bs

-- the steps that entering region r takes beside its instruction: those in which registers and stack
-- are saved and armed, and one for each word that is logged
abbrev pub toll : TMarked → (r : ℕ) → ℕ
toll m r = 3 + stack_words m.program + get_or (map (logged m.program) m.regions) (r - 1) 0

-- a run without outages takes at most so many steps: its instructions, and the tolls of its entries
abbrev pub steps : TMarked → ℕ
steps m = total m + run_toll m.program m.regions (toll m)

-- what is told of a program with regions
pub record TBudgets : Type 0 where
  -- the budget of each region
  pub regions : List ℕ
  -- how many words each region logs at most
  pub logged : List ℕ
  -- how many instructions a run takes at most
  pub total : ℕ
  -- how many steps a period needs so as to be safe
  pub safe : ℕ

-- the budgets of a program with regions
abbrev pub budgets : TMarked → TBudgets
budgets m = record {
  regions = map (budget m) m.regions;
  logged = map (logged m.program) m.regions;
  total = total m;
  safe = safe_for (stack_words m.program) (map (budget m) m.regions);
}

-- ---- as numbers of 64 bits

-- the greatest number of 64 bits
abbrev pub budget_limit : ℕ
budget_limit = 18446744073709551615

-- a number, or the limit where it is greater
abbrev pub limited : ℕ → ℕ
limited n = min n budget_limit

-- What is told in 64 bits: of each budget, and of what suffices, no more than the limit. The other numbers fit.
abbrev pub limited_budgets : TMarked → TBudgets
limited_budgets m = record {
  regions = map limited (budgets m).regions;
  logged = (budgets m).logged;
  total = (budgets m).total;
  safe = limited (budgets m).safe;
}
