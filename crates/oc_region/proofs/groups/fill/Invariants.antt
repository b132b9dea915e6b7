use Rattle.oc_region.proofs.Tables.{Filled}
use Rattle.oc_region.proofs.groups.fill.Given as goal

abbrev pub invariant-loop-i : goal.invariant-loop-i
invariant-loop-i l = Filled l.effects.program l.group l.initial.table l.table l.i
