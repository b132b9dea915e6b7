use Rattle.std.proofs.Common.{◌≡◌, ◌≤◌, ◌+◌, drop}
use Rattle.std.specs.Prelude.{max}
use Rattle.oc_tree.specs.View.{args_view}
use Rattle.oc_tree.specs.Stack.{args_depth}
use Rattle.oc_weight.specs.Capped.{capped}
use Rattle.oc_weight.proofs.stack.args_depth.Given as goal

abbrev pub invariant-loop-arg : goal.invariant-loop-arg
invariant-loop-arg l = record {
  depth : capped (max l.depth (l.waiting + args_depth (args_view (drop l.arg-index l.args)))) ≡ capped (args_depth (args_view l.args));
  small : l.depth ≤ 4294967297;
  few : l.waiting ≤ 4294967297;
}
