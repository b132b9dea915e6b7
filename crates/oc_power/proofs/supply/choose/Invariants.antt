use Rattle.std.proofs.Common.{◌≡◌}
use Rattle.oc_power.specs.Choice.{first_with}
use Rattle.oc_power.proofs.supply.choose.Given as goal

abbrev pub invariant-loop-supply : goal.invariant-loop-supply
invariant-loop-supply g l =
    (goal.iterator-loop-supply g).can_next l.supply-iterator ×
    (goal.iterator-loop-supply g).is_finite l.supply-iterator ×
    (first_with (λ b. (goal.Supply-dyn g (b.vtable, b.value)).number b.value) l.wanted l.supply-iterator.rest.items
    ≡ first_with (λ b. (goal.Supply-dyn g (b.vtable, b.value)).number b.value) l.wanted l.fn.supplies.items)
