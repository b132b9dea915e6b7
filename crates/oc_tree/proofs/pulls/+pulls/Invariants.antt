use Rattle.std.proofs.Common.{◌≡◌, ◌+◌, drop}
use Rattle.oc_tree.specs.View.{args_view, call_view}
use Rattle.oc_tree.specs.Pulls.{args_pulls, call_pulls}
use Rattle.oc_tree.proofs.pulls.+pulls.Given as goal

abbrev pub invariant-call_pulls-loop-arg : goal.invariant-call_pulls-loop-arg
invariant-call_pulls-loop-arg l = l.pulls + args_pulls (args_view (drop l.arg-index l.arg-items)) ≡ call_pulls (call_view l.call)
