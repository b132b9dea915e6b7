use Rattle.std.proofs.Common.{◌≡◌, ◌≤◌, length, take}
use Rattle.oc_code.specs.Scope.{named}
use Rattle.oc_codegen.specs.Slots.{visible}
use Rattle.oc_codegen.proofs.scope.Scope.find.Given as goal

-- the variable is among those that are left, and it is the newest
abbrev pub invariant-loop-i : goal.invariant-loop-i
invariant-loop-i l = (l.i ≤ length l.self-inside.bindings.items) × (named (visible (take l.i l.self-inside.bindings.items)) l.name ≡ named l.self l.name)

abbrev pub decreases-loop-i : goal.decreases-loop-i
decreases-loop-i l = l.i
