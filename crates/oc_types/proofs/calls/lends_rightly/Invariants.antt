use Rattle.std.proofs.Common.{drop, ◌≡◌}
use Rattle.oc_tree.specs.Rules.{arg_lends, args_list, call_args}
use Rattle.oc_tree.specs.View.{args_view, call_view, program_view}
use Rattle.std.specs.List.{list_all}
use Rattle.oc_types.proofs.calls.lends_rightly.Given as goal

abbrev pub invariant-loop-arg : goal.invariant-loop-arg
invariant-loop-arg l =
    list_all (arg_lends (program_view l.top) l.scope) (args_list (args_view (drop l.arg-index l.arg-items))) ≡ list_all (arg_lends (program_view l.top) l.scope) (call_args (call_view l.call))
