use Rattle.std.proofs.Common.{drop, ◌≡◌}
use Rattle.oc_tree.specs.Rules.{arg_lends, call_args, lends_fixed}
use Rattle.oc_tree.specs.View.{kind_view, program_view}
use Rattle.std.specs.List.{list_all}
use Rattle.std.specs.Prelude.{not}
use Rattle.oc_reach.specs.Views.{calls_seen}
use Rattle.oc_types.proofs.calls.lends_fixed.Given as goal

abbrev pub invariant-loop-call : goal.invariant-loop-call
invariant-loop-call l =
    not (list_all (λ c. list_all (arg_lends (program_view l.top) l.scope) (call_args c)) (calls_seen (drop l.call-index l.call-items)))
    ≡ lends_fixed (program_view l.top) l.scope (kind_view l.statement)
