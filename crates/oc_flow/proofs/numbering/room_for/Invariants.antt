use Rattle.std.proofs.Common.{ℕ, ◌<◌}
use Rattle.std.proofs.Math.ListN.{get_or}
use Rattle.oc_tree.specs.declared.tree.VarId.{VarId}
use Rattle.oc_flow.specs.Known.{slot}
use Rattle.oc_flow.proofs.numbering.room_for.Given as goal

abbrev pub invariant-loop-v : goal.invariant-loop-v
invariant-loop-v l = (i : ℕ) (v : VarId) → i < l.v-index → slot (get_or l.variables i v) < l.room
