use Rattle.std.proofs.Common.{◌≡◌, ◌≤◌, ◌+◌, drop}
use Rattle.oc_tree.specs.View.{block_view, stmts_view}
use Rattle.oc_tree.specs.Stack.{block_slots, stmts_slots}
use Rattle.oc_weight.specs.Capped.{capped}
use Rattle.oc_weight.proofs.stack.+slots.Given as goal

abbrev pub invariant-block_slots-loop-statement : goal.invariant-block_slots-loop-statement
invariant-block_slots-loop-statement l = record {
  slots : capped (l.slots + stmts_slots (stmts_view (drop l.statement-index l.statement-items))) ≡ capped (block_slots (block_view l.block));
  small : l.slots ≤ 4294967297;
}
