use Rattle.std.proofs.Common.{◌≡◌, ◌<◌, ◌^◌, All, Global, List, Vec, map, sum_by, subst, ap, sym, ◌∙◌}
use Rattle.oc_tree.specs.Stack.{stack_words}
use Rattle.oc_tree.specs.Weight.{known_of}
use Rattle.oc_writes.specs.Targets.{may_write}
use Rattle.oc_budget.specs.Budgets.{budget, limited, logged, safe_for, target_words}
use Rattle.oc_budget.specs.Costs.{costs, total}
use Rattle.oc_tree.specs.declared.said.Target.{Target}
use Rattle.oc_budget.proofs.FittingLaws.{limited_safe}
use Rattle.oc_budget.proofs.LoggedLaws.{held_few}
use Rattle.oc_budget.proofs.ToldLaws.{logged_is, told_is}
use Rattle.oc_budget.proofs.costs.all_told.Goals as goal

pub all_budgets-requires-clause-words : goal.all_budgets-requires-clause-words
all_budgets-requires-clause-words c =
    let m = c.args.marked.now in
    let raw = c.raw-raw.result.now in
    let targets : map (λ v. v.items) raw.targets.items ≡ may_write m = ap (λ p. p.targets) (c.raw-raw.ensures.parts ∙ c.requires.code) in
    let told : c.in_ok-logged.logged.items ≡ map (λ v. sum_by target_words v.items) raw.targets.items = c.in_ok-logged.ensures ∙ ap (map (λ v. sum_by target_words v.items)) c.as_slice.ensures.value in
    c.as_slice-3.ensures.value ∙ (told ∙ (logged_is m raw.targets.items targets ∙ ap (λ k. map (logged k.program) k.regions) (sym c.in_ok-known.ensures)))

pub all_logged-requires : goal.all_logged-requires
all_logged-requires c =
    let m = c.args.marked.now in
    let raw = c.raw-raw.result.now in
    let targets : map (λ v. v.items) raw.targets.items ≡ may_write m = ap (λ p. p.targets) (c.raw-raw.ensures.parts ∙ c.requires.code) in
    subst (λ (ts : List (Vec Target Global)). All (λ v. sum_by target_words v.items < 2 ^ 32) ts) (sym c.as_slice.ensures.value)
    (held_few m c.requires.marked.checked raw.targets.items targets)

pub returns : goal.returns
returns c =
    let m = c.args.marked.now in
    let raw = c.raw-raw.result.now in
    let parts = c.raw-raw.ensures.parts ∙ c.requires.code in
    let targets : map (λ v. v.items) raw.targets.items ≡ may_write m = ap (λ p. p.targets) parts in
    let stack : raw.stack ≡ stack_words m.program = ap (λ p. p.stack) parts in
    let told : c.in_ok-logged.logged.items ≡ map (λ v. sum_by target_words v.items) raw.targets.items = c.in_ok-logged.ensures ∙ ap (map (λ v. sum_by target_words v.items)) c.as_slice.ensures.value in
    let words : c.in_ok-logged.logged.items ≡ map (logged m.program) m.regions = told ∙ logged_is m raw.targets.items targets in
    let regions : c.in_ok-regions.regions.items ≡ map limited (map (budget m) m.regions) = c.in_ok-regions.ensures ∙ ap (λ k. map limited (map (budget k) k.regions)) c.in_ok-known.ensures in
    let all : c.as_slice-4.result.now ≡ costs c.in_ok-known.known = c.as_slice-4.ensures.value ∙ c.in_ok-costs.ensures in
    let most : c.known_of-total.result ≡ total m = c.known_of-total.ensures
    ∙ (ap (λ w. known_of w c.main_place.result) all ∙ (ap (known_of (costs c.in_ok-known.known)) c.main_place.ensures ∙ ap total c.in_ok-known.ensures)) in
    let safe : c.safe_for-safe.result ≡ limited (safe_for (stack_words m.program) (map (budget m) m.regions)) =
    c.safe_for-safe.ensures
    ∙ ap (λ w. limited (safe_for w c.as_slice-5.result.now)) stack ∙ ap (λ bs. limited (safe_for (stack_words m.program) bs)) (c.as_slice-5.ensures.value ∙ regions)
    ∙ limited_safe (stack_words m.program) (map (budget m) m.regions) in
    told_is m c.in_ok-regions.regions.items c.in_ok-logged.logged.items c.known_of-total.result c.safe_for-safe.result regions words most safe
