use Rattle.std.proofs.Common.{◌≡◌, ◌++◌, drop, map, take}
use Rattle.oc_tree.specs.View.{block_view, stmts_view}
use Rattle.oc_effects.specs.View.{effect_view}
use Rattle.oc_effects.specs.Walk.{block_effects, block_id, stmts_effects}
use Rattle.oc_effects.proofs.walk.+walk.Given as goal

-- What is there, with the effects of the statements that are left, is the whole; and the variables that were visible
-- before the block are the first ones.
abbrev pub invariant-walk_block-loop-statement : goal.invariant-walk_block-loop-statement
invariant-walk_block-loop-statement l = record {
  effects : map effect_view l.effects.items ++ stmts_effects l.known (block_id (block_view l.block)) l.around l.scope (stmts_view (drop l.statement-index l.statement-items))
      ≡ map effect_view l.initial.effects.items ++ block_effects l.known l.around l.initial.scope (block_view l.block);
  kept : take l.mark l.scope ≡ l.initial.scope;
}
