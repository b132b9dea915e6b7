use Rattle.std.proofs.Common.{rules, ◌≡◌, ◌≤◌, ◌+◌, ℕ, List, None, ap, sym, ◌∙◌, arith}
use Rattle.oc_tree.specs.View.{kind_view}
use Rattle.oc_budget.specs.Budgets.{held_cost}
use Rattle.oc_budget.specs.Costs.{costs, is_use}
use Rattle.oc_tree.specs.Costs.{probes, inner_cost}
use Rattle.oc_budget.specs.Spent.{expr_seen, returned}
use Rattle.oc_budget.proofs.SpentLaws.{held_other, fitted_same}
use Rattle.oc_budget.proofs.held.held_cost.Goals as goal

pub returns-in_ok-inner_cost-in-None : goal.returns-in_ok-inner_cost-in-None
returns-in_ok-inner_cost-in-None c =
    let m = c.args.known.now in
    let k = kind_view c.args.kind.now in
    let cost : List ℕ → ℕ = λ w. inner_cost m.program.functions (is_use m.program) m.regions w c.args.s k in
    let none : returned k ≡ None = sym c.returned.ensures ∙ ap expr_seen c.in-None.is in
    let inner : c.in_ok-inner_cost-in-None.field-0 ≡ cost c.args.callees.now = c.in_ok-inner_cost-in-None.ensures in
    let around : c.probes-around.result ≡ probes (is_use m.program c.args.s) k = c.probes-around.ensures.probes ∙ ap (λ u. probes u k) c.uses.ensures in
    fitted_same c.plus-in-None.result (c.in_ok-inner_cost-in-None.field-0 + c.probes-around.result) (held_cost m c.args.s k) c.plus-in-None.ensures
    (ap (λ x. x + c.probes-around.result) (inner ∙ ap cost c.requires) ∙ (ap (λ x. cost (costs m) + x) around ∙ sym (held_other m c.args.s k none)))

pub returns-in_err-inner_cost-in-None : goal.returns-in_err-inner_cost-in-None
returns-in_err-inner_cost-in-None c =
    let m = c.args.known.now in
    let k = kind_view c.args.kind.now in
    let cost : List ℕ → ℕ = λ w. inner_cost m.program.functions (is_use m.program) m.regions w c.args.s k in
    let none : returned k ≡ None = sym c.returned.ensures ∙ ap expr_seen c.in-None.is in
    let large : 18446744073709551616 ≤ cost c.args.callees.now = search rules in
    let all : 18446744073709551616 ≤ held_cost m c.args.s k = omega (arith, large, ap cost c.requires, held_other m c.args.s k none) in
    search rules
