use Rattle.std.proofs.Common.{drop, ◌≡◌}
use Rattle.oc_tree.specs.Types.{call_type}
use Rattle.oc_tree.specs.View.{program_view}
use Rattle.std.specs.List.{list_all}
use Rattle.std.specs.Prelude.{is_some}
use Rattle.oc_reach.specs.Views.{calls_seen}
use Rattle.oc_types.proofs.calls.have_results.Given as goal

abbrev pub invariant-loop-call : goal.invariant-loop-call
invariant-loop-call l =
    list_all (λ c. is_some (call_type (program_view l.top) c)) (calls_seen (drop l.call-index l.calls)) ≡ list_all (λ c. is_some (call_type (program_view l.top) c)) (calls_seen l.calls)
