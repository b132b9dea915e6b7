use Rattle.std.proofs.Common.{◌≡◌, drop}
use Rattle.std.specs.List.{list_any}
use Rattle.oc_tree.specs.View.{kind_view, program_view}
use Rattle.oc_reach.specs.Views.{calls_seen}
use Rattle.oc_tree.specs.Rules.{back_to, callee_is, calls_back}
use Rattle.oc_types.proofs.reach.calls_back.Given as goal

abbrev pub invariant-loop-call : goal.invariant-loop-call
invariant-loop-call l =
    list_any (callee_is (back_to (program_view l.top) l.number) (program_view l.top)) (calls_seen (drop l.call-index l.call-items)) ≡ calls_back (program_view l.top) l.number (kind_view l.statement)
