use Rattle.std.proofs.Common.{◌≡◌, ◌++◌, drop, map}
use Rattle.oc_tree.specs.View.{args_view}
use Rattle.oc_effects.specs.Effects.{all_passed}
use Rattle.oc_effects.specs.View.{passed_view}
use Rattle.oc_effects.specs.Walk.{placed_view}
use Rattle.oc_effects.proofs.calls.resolve_args.Given as goal

abbrev pub invariant-loop-i : goal.invariant-loop-i
invariant-loop-i l =
    map passed_view l.all.items ++ all_passed l.here.known.now (placed_view l.here) (drop l.i l.params) (args_view (drop l.i l.args))
    ≡ all_passed l.here.known.now (placed_view l.here) l.params (args_view l.args)
