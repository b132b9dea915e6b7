use Rattle.std.proofs.Common.{◌≡◌, ◌+◌, ◌++◌, drop, map}
use Rattle.oc_tree.specs.View.{arg_view, args_view, right_view}
use Rattle.oc_tree.specs.Pulls.{args_pulls}
use Rattle.oc_tree.specs.Expansion.{left_args, pulled_args}
use Rattle.oc_desugar.specs.Joined.{join_args}
use Rattle.oc_desugar.proofs.parts.+left.Given as goal

abbrev pub invariant-left_args-loop-arg : goal.invariant-left_args-loop-arg
invariant-left_args-loop-arg l = record {
  left : join_args (map arg_view l.out.items) (left_args l.k (args_view (drop l.arg-index l.args))) ≡ left_args l.initial.k (args_view l.args);
  pulled : map right_view l.pulls.items ++ pulled_args l.k (args_view (drop l.arg-index l.args)) ≡ map right_view l.initial.pulls.items ++ pulled_args l.initial.k (args_view l.args);
  next : l.k + args_pulls (args_view (drop l.arg-index l.args)) ≡ l.initial.k + args_pulls (args_view l.args);
}
