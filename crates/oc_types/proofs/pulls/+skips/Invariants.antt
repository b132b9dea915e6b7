use Rattle.std.proofs.Common.{◌≡◌, ◌<◌, ◌^◌, drop}
use Rattle.oc_tree.specs.View.{args_view}
use Rattle.oc_tree.specs.Pulls.{args_pulls}
use Rattle.oc_tree.specs.Walks.{args_skip}
use Rattle.oc_types.proofs.pulls.+skips.Given as goal

abbrev pub invariant-call_skips-loop-arg : goal.invariant-call_skips-loop-arg
invariant-call_skips-loop-arg l = record {
  found : args_skip (args_view (drop l.arg-index l.arg-items)) ≡ args_skip (args_view l.arg-items);
  few : args_pulls (args_view (drop l.arg-index l.arg-items)) < 2 ^ 32;
}
