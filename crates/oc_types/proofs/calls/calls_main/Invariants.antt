use Rattle.std.proofs.Common.{drop, ◌≡◌}
use Rattle.oc_tree.specs.Calls.{callee}
use Rattle.oc_tree.specs.Rules.{calls_main, is_main}
use Rattle.oc_tree.specs.View.{kind_view}
use Rattle.std.specs.List.{list_any}
use Rattle.oc_reach.specs.Views.{calls_seen}
use Rattle.oc_types.proofs.calls.calls_main.Given as goal

abbrev pub invariant-loop-call : goal.invariant-loop-call
invariant-loop-call l =
    list_any (λ c. is_main (callee c)) (calls_seen (drop l.call-index l.call-items)) ≡ calls_main (kind_view l.statement)
