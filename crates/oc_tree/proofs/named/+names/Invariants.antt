use Rattle.std.proofs.Common.{◌≡◌, ◌++◌, drop}
use Rattle.oc_tree.specs.View.{args_view}
use Rattle.oc_tree.specs.Walks.{args_named}
use Rattle.oc_tree.specs.Names.{names_seen}
use Rattle.oc_tree.proofs.named.+names.Given as goal

abbrev pub invariant-add_call-loop-arg : goal.invariant-add_call-loop-arg
invariant-add_call-loop-arg l =
    names_seen l.names.items ++ args_named (args_view (drop l.arg-index l.arg-items)) ≡ names_seen l.initial.names.items ++ args_named (args_view l.arg-items)
