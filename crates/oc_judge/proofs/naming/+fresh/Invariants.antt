use Rattle.std.proofs.Common.{◌≡◌, drop}
use Rattle.std.specs.List.{list_any}
use Rattle.oc_tree.specs.View.{args_view}
use Rattle.oc_tree.specs.Walks.{args_named}
use Rattle.oc_meaning.specs.Uses.{is_fresh}
use Rattle.oc_judge.proofs.naming.+fresh.Given as goal

abbrev pub invariant-args_have-loop-arg : goal.invariant-args_have-loop-arg
invariant-args_have-loop-arg l = list_any (is_fresh l.scope) (args_named (args_view (drop l.arg-index l.args))) ≡ list_any (is_fresh l.scope) (args_named (args_view l.args))
