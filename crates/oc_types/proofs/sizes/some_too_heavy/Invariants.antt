use Rattle.std.proofs.Common.{◌≡◌, drop}
use Rattle.std.specs.Prelude.{nat_lt}
use Rattle.std.specs.List.{list_any}
use Rattle.oc_types.proofs.sizes.some_too_heavy.Given as goal

abbrev pub invariant-loop-weight : goal.invariant-loop-weight
invariant-loop-weight l =
    list_any (nat_lt 4294967296) (drop l.weight-index l.weights) ≡ list_any (nat_lt 4294967296) l.weights
