use Rattle.std.proofs.Common.{◌≡◌, drop, []}
use Rattle.oc_effects.specs.Effects.{effects}
use Rattle.oc_needs.specs.Policies.{each_once, asked_from}
use Rattle.oc_needs.proofs.policy.policies.Given as goal

abbrev pub invariant-loop-function : goal.invariant-loop-function
invariant-loop-function l =
    each_once l.seen.items (asked_from l.function (drop l.function (effects l.effects.program))) ≡ each_once [] (asked_from 0 (effects l.effects.program))
