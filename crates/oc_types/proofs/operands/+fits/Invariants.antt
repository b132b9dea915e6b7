use Rattle.std.proofs.Common.{◌≡◌, drop}
use Rattle.oc_tree.specs.View.{args_view, program_view}
use Rattle.oc_tree.specs.Rules.{args_fit}
use Rattle.oc_types.proofs.operands.+fits.Given as goal

abbrev pub invariant-call_fits-loop-arg : goal.invariant-call_fits-loop-arg
invariant-call_fits-loop-arg l =
    args_fit (program_view l.top) l.scope (args_view (drop l.arg-index l.arg-items)) ≡ args_fit (program_view l.top) l.scope (args_view l.arg-items)
