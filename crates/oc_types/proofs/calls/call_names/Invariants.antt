use Rattle.std.proofs.Common.{◌≡◌, ◌++◌, drop}
use Rattle.std.specs.List.{flat_map}
use Rattle.oc_tree.specs.Names.{names_seen}
use Rattle.oc_tree.specs.Named.{part_names}
use Rattle.oc_tree.specs.Parts.{args_parts}
use Rattle.oc_tree.specs.View.{args_view}
use Rattle.oc_types.proofs.calls.call_names.Given as goal

abbrev pub invariant-loop-arg : goal.invariant-loop-arg
invariant-loop-arg l =
    names_seen l.names.items ++ flat_map part_names (args_parts (args_view (drop l.arg-index l.arg-items))) ≡ flat_map part_names (args_parts (args_view l.arg-items))
