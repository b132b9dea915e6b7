use Rattle.std.proofs.Common.{◌≡◌, drop}
use Rattle.oc_reach.specs.Views.{calls_seen}
use Rattle.oc_tree.specs.Calls.{own_calls}
use Rattle.oc_tree.specs.Rules.{lends_apart}
use Rattle.oc_tree.specs.View.{kind_view, program_view}
use Rattle.std.specs.List.{list_all}
use Rattle.oc_types.proofs.disturbs.all_lend_apart.Given as goal

abbrev pub invariant-loop-call : goal.invariant-loop-call
invariant-loop-call l =
    list_all (lends_apart (program_view l.top) (kind_view l.statement)) (calls_seen (drop l.call-index l.call-items))
    ≡ list_all (lends_apart (program_view l.top) (kind_view l.statement)) (own_calls (kind_view l.statement))
