use Rattle.std.proofs.Common.{◌≡◌, drop}
use Rattle.oc_reach.specs.Views.{calls_seen}
use Rattle.oc_tree.specs.Assigned.{reaches_assign}
use Rattle.oc_tree.specs.Calls.{own_calls}
use Rattle.oc_tree.specs.Rules.{callee_is}
use Rattle.oc_tree.specs.View.{kind_view, program_view}
use Rattle.std.specs.List.{list_any}
use Rattle.oc_types.proofs.disturbs.some_callee_assigns.Given as goal

abbrev pub invariant-loop-call : goal.invariant-loop-call
invariant-loop-call l =
    list_any (callee_is (reaches_assign (program_view l.top).functions l.name) (program_view l.top)) (calls_seen (drop l.call-index l.call-items))
    ≡ list_any (callee_is (reaches_assign (program_view l.top).functions l.name) (program_view l.top)) (own_calls (kind_view l.statement))
