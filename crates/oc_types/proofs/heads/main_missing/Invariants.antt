use Rattle.std.proofs.Common.{◌≡◌, drop, map}
use Rattle.std.specs.List.{list_any}
use Rattle.std.specs.Prelude.{not}
use Rattle.oc_tree.specs.View.{function_view}
use Rattle.oc_tree.specs.Rules.{is_main}
use Rattle.oc_types.proofs.heads.main_missing.Given as goal

abbrev pub invariant-loop-function : goal.invariant-loop-function
invariant-loop-function l =
    not (list_any (λ f. is_main f.name) (map function_view (drop l.function-index l.functions))) ≡ not (list_any (λ f. is_main f.name) (map function_view l.functions))
