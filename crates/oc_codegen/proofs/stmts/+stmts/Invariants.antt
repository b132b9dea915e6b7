use Rattle.std.proofs.Common.{◌≡◌, ◌≤◌, ◌+◌, ◌-◌, ◌++◌, length, drop}
use Rattle.oc_tree.specs.View.{block_view, stmts_view}
use Rattle.oc_tree.specs.Stack.{block_slots, stmts_slots}
use Rattle.oc_code.specs.Code.{block_code, stmts_code}
use Rattle.oc_codegen.specs.Small.{stmts_bounded}
use Rattle.oc_codegen.proofs.stmts.+stmts.Given as goal

-- What is written, with the code of the statements that are left, is the whole; and the variables that were
-- visible before the block are the oldest ones.
abbrev pub invariant-block-loop-inner : goal.invariant-block-loop-inner
invariant-block-loop-inner l = record {
  code : l.code ++ stmts_code l.setting.names l.setting.functions l.setting.regions l.setting.params l.scope l.next (length l.code) (stmts_view (drop l.inner-index l.statements))
      ≡ l.initial.code ++ block_code l.setting.names l.setting.functions l.setting.regions l.setting.params l.initial.scope l.slot (length l.initial.code) (block_view l.block);
  next : l.next + stmts_slots (stmts_view (drop l.inner-index l.statements)) ≡ l.slot + block_slots (block_view l.block);
  seen : l.visible ≤ length l.scope;
  scope : drop (length l.scope - l.visible) l.scope ≡ l.initial.scope;
  done : l.done ≡ l.inner-index;
  bounded : stmts_bounded (stmts_view (drop l.inner-index l.statements));
}
