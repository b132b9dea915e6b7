use Rattle.std.proofs.Common.{◌≡◌, ◌<◌, ◌^◌, drop, take}
use Rattle.oc_tree.specs.Nodes.{stmts_nodes}
use Rattle.oc_tree.specs.View.{block_view, program_view, stmts_view}
use Rattle.oc_types.specs.Small.{IsSmall}
use Rattle.oc_types.specs.Standing.{here_of, in_block}
use Rattle.oc_types.specs.Walk.{block_walk, stmts_walk}
use Rattle.oc_types.proofs.walk.+walk.Given as goal

abbrev pub invariant-walk_block-loop-i : goal.invariant-walk_block-loop-i
invariant-walk_block-loop-i l = record {
  found : stmts_walk (program_view l.top) (in_block l.place l.scope (block_view l.block)) l.counts (stmts_view (drop l.i l.statements))
      ≡ block_walk (program_view l.top) (here_of l.place l.initial.scope) l.initial.counts (block_view l.block);
  nodes : stmts_nodes (stmts_view (drop l.i l.statements)) < 2 ^ 32;
  small : IsSmall l.counts;
  kept : take l.mark l.scope ≡ l.initial.scope;
}
