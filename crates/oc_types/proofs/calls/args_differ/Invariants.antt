use Rattle.std.proofs.Common.{drop, ◌≡◌}
use Rattle.oc_tree.specs.Rules.{args_differ, call_meets}
use Rattle.oc_tree.specs.View.{kind_view, program_view}
use Rattle.std.specs.List.{list_all}
use Rattle.std.specs.Prelude.{not}
use Rattle.oc_reach.specs.Views.{calls_seen}
use Rattle.oc_types.proofs.calls.args_differ.Given as goal

abbrev pub invariant-loop-call : goal.invariant-loop-call
invariant-loop-call l =
    not (list_all (call_meets (program_view l.top) l.scope) (calls_seen (drop l.call-index l.call-items))) ≡ args_differ (program_view l.top) l.scope (kind_view l.statement)
