use Rattle.std.proofs.Common.{◌≡◌, drop, map}
use Rattle.std.specs.Prelude.{codes}
use Rattle.oc_tree.specs.View.{function_view}
use Rattle.oc_tree.specs.Calls.{function_names, function_place, place_from}
use Rattle.oc_names.proofs.table.main_place.Given as goal

abbrev pub invariant-loop-i : goal.invariant-loop-i
invariant-loop-i l =
    place_from l.i (function_names (map function_view (drop l.i l.functions))) (codes "main") ≡ function_place (map function_view l.functions) (codes "main")
