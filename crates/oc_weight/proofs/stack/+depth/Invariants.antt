use Rattle.std.proofs.Common.{◌≡◌, ◌≤◌, drop, map}
use Rattle.std.specs.Prelude.{max}
use Rattle.oc_tree.specs.View.{block_view, function_view, stmts_view}
use Rattle.oc_tree.specs.Stack.{block_depth, stmts_depth}
use Rattle.oc_weight.specs.Capped.{capped}
use Rattle.oc_weight.proofs.stack.+depth.Given as goal

abbrev pub invariant-block_depth-loop-statement : goal.invariant-block_depth-loop-statement
invariant-block_depth-loop-statement l = record {
  depth : capped (max l.depth (stmts_depth (map function_view l.functions) l.stacks (stmts_view (drop l.statement-index l.statement-items))))
      ≡ capped (block_depth (map function_view l.functions) l.stacks (block_view l.block));
  small : l.depth ≤ 4294967297;
}
