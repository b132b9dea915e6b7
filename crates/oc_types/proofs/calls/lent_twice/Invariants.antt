use Rattle.std.proofs.Common.{drop, ◌≡◌}
use Rattle.oc_tree.specs.Rules.{lends_alone, lent_twice}
use Rattle.oc_tree.specs.View.{kind_view, program_view}
use Rattle.std.specs.List.{list_all}
use Rattle.std.specs.Prelude.{not}
use Rattle.oc_reach.specs.Views.{calls_seen}
use Rattle.oc_types.proofs.calls.lent_twice.Given as goal

abbrev pub invariant-loop-call : goal.invariant-loop-call
invariant-loop-call l =
    not (list_all (lends_alone (program_view l.top)) (calls_seen (drop l.call-index l.call-items))) ≡ lent_twice (program_view l.top) (kind_view l.statement)
