-- What is told, part by part.
use Rattle.std.proofs.Common.{◌≡◌, ℕ, List, [], ◌∷◌, map, refl, ap, ◌∙◌, Vec, Global, sum_by}
use Rattle.oc_tree.specs.Stack.{stack_words}
use Rattle.oc_tree.specs.Marked.{TMarked, TRegion}
use Rattle.oc_tree.specs.Tree.{TProgram}
use Rattle.oc_tree.specs.declared.said.Target.{Target}
use Rattle.oc_writes.specs.Targets.{may_write, region_targets}
use Rattle.oc_budget.specs.Budgets.{TBudgets, budget, limited, limited_budgets, logged, safe_for, target_words}
use Rattle.oc_budget.specs.Costs.{total}

words_same : (p : TProgram) (rs : List TRegion) → map (sum_by target_words) (map (region_targets p) rs) ≡ map (logged p) rs
words_same p [] = refl
words_same p (r ∷ rs) = ap (λ xs. logged p r ∷ xs) (words_same p rs)

words_held : (ts : List (Vec Target Global)) → map (λ v. sum_by target_words v.items) ts ≡ map (sum_by target_words) (map (λ v. v.items) ts)
words_held [] = refl
words_held (t ∷ ts) = ap (λ xs. sum_by target_words t.items ∷ xs) (words_held ts)

-- the words that regions log, from the targets that an image holds
pub logged_is : (m : TMarked) (ts : List (Vec Target Global)) → map (λ v. v.items) ts ≡ may_write m → map (λ v. sum_by target_words v.items) ts ≡ map (logged m.program) m.regions
logged_is m ts h = words_held ts ∙ (ap (map (sum_by target_words)) h ∙ words_same m.program m.regions)

abbrev told : List ℕ → List ℕ → ℕ → ℕ → TBudgets
told rs ls t s = record { regions = rs; logged = ls; total = t; safe = s }

pub told_is : (m : TMarked) (rs ls : List ℕ) (t s : ℕ) → rs ≡ map limited (map (budget m) m.regions) → ls ≡ map (logged m.program) m.regions → t ≡ total m
    → s ≡ limited (safe_for (stack_words m.program) (map (budget m) m.regions)) → told rs ls t s ≡ limited_budgets m
told_is m rs ls t s a b e f =
    let bs = map limited (map (budget m) m.regions) in
    ap (λ x. told x ls t s) a
    ∙ (ap (λ x. told bs x t s) b
    ∙ (ap (λ x. told bs (map (logged m.program) m.regions) x s) e
    ∙ ap (told bs (map (logged m.program) m.regions) (total m)) f))
