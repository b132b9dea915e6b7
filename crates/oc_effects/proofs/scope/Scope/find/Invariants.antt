use Rattle.std.proofs.Common.{◌≡◌, drop, map}
use Rattle.oc_tree.specs.Places.{find_variable}
use Rattle.oc_effects.proofs.scope.Scope.find.Given as goal

abbrev pub invariant-loop-binding : goal.invariant-loop-binding
invariant-loop-binding l = find_variable (map (λ b. (b.name.now, b.variable)) (drop l.binding-index l.binding-items)) l.name ≡ find_variable l.self l.name
